-- When inputs are those that a table tells (own).
use Rattle.std.specs.Prelude.{ℕ, ◌≡◌, ◌<◌, true, false, List, [], ◌∷◌, length, Option, Some, None, IsSome, option_map}
use Rattle.std.specs.Arc.{arc_value}
use Rattle.mw_model.specs.declared.names.Name.{Name}
use Rattle.mw_model.specs.declared.shapes.Shape.{Shape}
use Rattle.mw_model.specs.declared.shapes.Shape.TheVariants as shape
use Rattle.mw_model.specs.declared.submissions.Inputs.{Inputs}
use Rattle.mw_model.specs.Elements.{Figure}
use Rattle.mw_model.specs.Values.{Value, ElementValue, shape_of_figure, value_at}
use Rattle.mw_model.specs.Refusals.{Table, Wanted, AnImage, AnElement, is_dead, is_element, is_image, is_released, offsets_at, outcome_at, shape_at, ticket_of}
use Rattle.mw_model_laws.specs.MachineLaws.{WithinLimits, shape_of_value}
use Rattle.mw_plan.specs.declared.inputs.Input.{Input}
use Rattle.mw_plan.specs.declared.inputs.Input.TheVariants as input
use Rattle.mw_plan.specs.Asked.{offsets_of_input}

-- the input is an image, an element or a curve of this shape
abbrev pub HasShape : Input → Shape → Type 0
HasShape (input.Image s) t = (t ≡ s) × (is_image s ≡ true)
HasShape (input.Element e) t = t ≡ shape_of_figure (arc_value e.now)
HasShape input.Curve t = (n : ℕ) × (t ≡ shape.Curve n)
HasShape input.Absent t = ⊥

-- The input is the entry of this name, which is neither dead nor released.
pub record IsEntry (w : Table) (values : List (Option Value)) (n : Name) (i : Input) : Type 0 where
  pub number : ℕ
  pub known : ticket_of w.names n ≡ Some number
  pub alive : is_dead (outcome_at w.outcomes number) ≡ false
  pub kept : is_released (outcome_at w.outcomes number) ≡ false
  pub tells : HasShape i (shape_at w.submissions number)
  pub offsets : offsets_at w values n ≡ offsets_of_input i

-- the name of an input that is wanted
abbrev pub name_wanted : Wanted → Name
name_wanted (AnImage n) = n
name_wanted (AnElement n) = n

-- the inputs are those that are wanted, place by place
abbrev pub AreEntries : Table → List (Option Value) → List Wanted → List Input → Type 0
AreEntries w values [] inputs = Unit {0}
AreEntries w values (x ∷ xs) [] = ⊥
AreEntries w values (x ∷ xs) (i ∷ is) = IsEntry w values (name_wanted x) i × AreEntries w values xs is

-- ---- by tickets

-- the element in the place of a value, if one stands there
abbrev pub figure_in : Option Value → Option Figure
figure_in (Some (ElementValue b)) = Some b
figure_in v = None

-- the input tells what the table and the values that are kept tell of this ticket: the shape of an image, the element that is kept, that there is a curve, or that no element is kept
abbrev pub IsInputAt : Table → List (Option Value) → ℕ → Input → Type 0
IsInputAt w kept t (input.Image s) = (shape_at w.submissions t ≡ s) × (is_image s ≡ true)
IsInputAt w kept t (input.Element e) = figure_in (value_at kept t) ≡ Some (arc_value e.now)
IsInputAt w kept t input.Curve = (n : ℕ) × (shape_at w.submissions t ≡ shape.Curve n)
IsInputAt w kept t input.Absent = (is_element (shape_at w.submissions t) ≡ true) × (figure_in (value_at kept t) ≡ None)

-- the input tells what is known of the ticket, where there is one; elsewhere any input may stand
abbrev pub IsInputOf : Table → List (Option Value) → Option ℕ → Input → Type 0
IsInputOf w kept (Some t) i = IsInputAt w kept t i
IsInputOf w kept None i = Unit {0}

-- The three inputs are those of these tickets, place by place.
pub record AreInputsOf (w : Table) (kept : List (Option Value)) (tickets : Inputs) (a b c : Input) : Type 0 where
  pub first : IsInputOf w kept tickets.a a
  pub second : IsInputOf w kept tickets.b b
  pub third : IsInputOf w kept tickets.c c

-- Each entry has a value, of the shape that the table tells and within its limits. What is kept is that value, and an element is kept unless it is dead or released.
pub record AreValuesAt (w : Table) (kept values : List (Option Value)) : Type 0 where
  pub own : (t : ℕ) (v : Value) → value_at kept t ≡ Some v → value_at values t ≡ Some v
  pub shapes : (t : ℕ) → t < length w.names → option_map shape_of_value (value_at values t) ≡ Some (shape_at w.submissions t)
  pub limits : (t : ℕ) → t < length w.names → WithinLimits (value_at values t)
  pub elements : (t : ℕ) → t < length w.names → is_element (shape_at w.submissions t) ≡ true → is_dead (outcome_at w.outcomes t) ≡ false → is_released (outcome_at w.outcomes t) ≡ false
      → IsSome (value_at kept t)
