-- What is found of the names of a RUN.
use Rattle.std.specs.Prelude.{ℕ, ◌≡◌, ◌<◌, true, false, unwrap_or, [], ◌∷◌, List, length, Option, Some, None}
use Rattle.mw_model.specs.declared.names.Name.{Name}
use Rattle.mw_model.specs.declared.submissions.Inputs.{Inputs}
use Rattle.mw_model.specs.Values.{offsets_in, value_at}
use Rattle.mw_model.specs.Refusals.{Wanted, AnImage, AnElement, is_dead, is_element, is_image, is_released, outcome_at, shape_at, ticket_of}
use Rattle.mw_store.specs.mw_plan.declared.inputs.Input.{Input}
use Rattle.mw_store.specs.mw_plan.declared.inputs.Input.TheVariants as input
use Rattle.mw_store.specs.mw_plan.Asked.{is_element_input, offsets_of_input}
use Rattle.mw_store.specs.mw_plan.Tables.{HasShape, IsInputAt}
use Rattle.mw_store.specs.Stored.{Stored}

-- The name has this ticket, whose entry is neither dead nor released; and the input is what a plan is told of it.
pub record IsFoundEntry (s : Stored) (n : Name) (t : ℕ) (i : Input) : Type 0 where
  pub ticket : ticket_of s.table.names n ≡ Some t
  pub within : t < length s.table.names
  pub alive : is_dead (outcome_at s.table.outcomes t) ≡ false
  pub held : is_released (outcome_at s.table.outcomes t) ≡ false
  pub tells : HasShape i (shape_at s.table.submissions t)
  pub told : IsInputAt s.table s.kept t i

-- an image is found under the name
abbrev pub IsFoundImage : Stored → Name → ℕ → Input → Type 0
IsFoundImage s n t i = IsFoundEntry s n t i × (is_image (shape_at s.table.submissions t) ≡ true)

-- an element is found under the name, and what is kept of it
abbrev pub IsFoundElement : Stored → Name → ℕ → Input → Type 0
IsFoundElement s n t i =
    IsFoundEntry s n t i × (is_element (shape_at s.table.submissions t) ≡ true) × (is_element_input i ≡ true) × (unwrap_or (offsets_in (value_at s.kept t)) [] ≡ offsets_of_input i)

-- what is wanted is found under this ticket
abbrev pub IsFoundWanted : Stored → Wanted → Option ℕ → Input → Type 0
IsFoundWanted s x None i = ⊥
IsFoundWanted s (AnImage n) (Some t) i = IsFoundImage s n t i
IsFoundWanted s (AnElement n) (Some t) i = IsFoundElement s n t i

-- nothing is wanted in this place, and nothing stands there
abbrev pub IsNothing : Option ℕ → Input → Type 0
IsNothing t i = (t ≡ None) × (i ≡ input.Absent)

-- all that is wanted is found under these tickets, place by place, and nothing stands past it
abbrev pub AreFound : Stored → List Wanted → Inputs → Input → Input → Input → Type 0
AreFound s [] at a b c = IsNothing at.a a × IsNothing at.b b × IsNothing at.c c
AreFound s (x ∷ []) at a b c = IsFoundWanted s x at.a a × IsNothing at.b b × IsNothing at.c c
AreFound s (x ∷ y ∷ []) at a b c = IsFoundWanted s x at.a a × IsFoundWanted s y at.b b × IsNothing at.c c
AreFound s (x ∷ y ∷ z ∷ more) at a b c = IsFoundWanted s x at.a a × IsFoundWanted s y at.b b × IsFoundWanted s z at.c c
