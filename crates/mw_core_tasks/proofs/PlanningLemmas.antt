-- What an accepted command is planned from: an image, elements, and the plan that is made of them.
use Rattle.std.proofs.Common.{◌≡◌, ℕ, ◌+◌, ◌<◌, true, List, [], ◌∷◌, ◌++◌, length, map, Option, Some, None, refl, sym, ap, ◌∙◌, subst}
use Rattle.std.specs.List.{AllByRecursion}
use Rattle.mw_model.proofs.mw_facts.Alls.{all-append_left, all-append_right}
use Rattle.mw_model.specs.declared.names.Name.{Name}
use Rattle.mw_model.specs.declared.shapes.Shape.{Shape}
use Rattle.mw_model.specs.declared.operations.Op.{Op}
use Rattle.mw_model.specs.declared.operations.Op.TheVariants as op
use Rattle.mw_model.specs.declared.operations.FlatOp.TheVariants as flat
use Rattle.mw_model.specs.declared.operations.GranOp.TheVariants as gran
use Rattle.mw_model.specs.declared.submissions.Inputs.{Inputs}
use Rattle.mw_model.specs.declared.calls.Call.TheVariants as call
use Rattle.mw_model.specs.Values.{Value, tickets, option_list}
use Rattle.mw_model.specs.Refusals.{Table, Wanted, AnImage, AnElement, first_of, name_taken, no_room, input_case, wanted_case, inputs_wanted, is_image, is_element, shape_at, ticket_of, refusal}
use Rattle.mw_model.specs.Machine.{as_bits, as_grey, first_shape, inputs_from, shape_of_result}
use Rattle.mw_core_laws.proofs.mw_model_laws.RunTables.{first_none, input_found, ticket_is}
use Rattle.mw_core_laws.specs.mw_plan.declared.faults.PlanFault.TheVariants as fault
use Rattle.mw_core_laws.specs.mw_plan.declared.inputs.Input.{Input}
use Rattle.mw_core_laws.specs.mw_plan.declared.inputs.Input.TheVariants as input
use Rattle.mw_core_laws.specs.mw_plan.Asked.{fault_in, image_shape, is_image_input, shape_made}
use Rattle.mw_core_laws.specs.mw_plan.Tables.{IsInputAt}
use Rattle.mw_core_laws.proofs.mw_plan.Fitting.{image_there, none_first}
use Rattle.mw_core_laws.specs.Limits.{FitsLimits, ShapesFit}
use Rattle.mw_core_tasks.specs.Planning.{IsLookedUp}
use Rattle.mw_core_tasks.proofs.WorkableLemmas.{ImageFits}

-- ---- the inputs of a command that is accepted

-- an element stands under the ticket, if there is one
abbrev pub IsElementAt : Table → Option ℕ → Type 0
IsElementAt w t = AllByRecursion (λ i. is_element (shape_at w.submissions i) ≡ true) (option_list t)

-- the first input is an image, and the others are elements
pub record TakesImage (w : Table) (i : Inputs) : Type 0 where
  pub image : ℕ
  pub first : i.a ≡ Some image
  pub drawn : is_image (shape_at w.submissions image) ≡ true
  pub second : IsElementAt w i.b
  pub third : IsElementAt w i.c

element-taken : (w : Table) (n : Name) → input_case w is_element n ≡ None → IsElementAt w (ticket_of w.names n)
element-taken w n none = let found = input_found w is_element n none in subst (IsElementAt w) (sym found.1.found) (found.1.kind, tt)

takes-one : (w : Table) (f : Name) → first_of (map (wanted_case w) (AnImage f ∷ [])) ≡ None → TakesImage w (inputs_from w (AnImage f ∷ []))
takes-one w f none =
    let found = input_found w is_image f (first_none (input_case w is_image f) [] none).0 in
    record { image = found.0; first = found.1.found; drawn = found.1.kind; second = tt; third = tt }

takes-two : (w : Table) (f b : Name) → first_of (map (wanted_case w) (AnImage f ∷ AnElement b ∷ [])) ≡ None → TakesImage w (inputs_from w (AnImage f ∷ AnElement b ∷ []))
takes-two w f b none =
    let one = first_none (input_case w is_image f) _ none in
    let two = first_none (input_case w is_element b) [] one.1 in
    let found = input_found w is_image f one.0 in
    record { image = found.0; first = found.1.found; drawn = found.1.kind; second = element-taken w b two.0; third = tt }

takes-three : (w : Table) (f b c : Name) → first_of (map (wanted_case w) (AnImage f ∷ AnElement b ∷ AnElement c ∷ [])) ≡ None → TakesImage w (inputs_from w (AnImage f ∷ AnElement b ∷ AnElement c ∷ []))
takes-three w f b c none =
    let one = first_none (input_case w is_image f) _ none in
    let two = first_none (input_case w is_element b) _ one.1 in
    let three = first_none (input_case w is_element c) [] two.1 in
    let found = input_found w is_image f one.0 in
    record { image = found.0; first = found.1.found; drawn = found.1.kind; second = element-taken w b two.0; third = element-taken w c three.0 }

takes-image : (w : Table) (o : Op) → first_of (map (wanted_case w) (inputs_wanted o)) ≡ None → TakesImage w (inputs_from w (inputs_wanted o))
takes-image w (op.Flat (flat.Erode f b)) none = takes-two w f b none
takes-image w (op.Flat (flat.Dilate f b)) none = takes-two w f b none
takes-image w (op.Flat (flat.Opening f b)) none = takes-two w f b none
takes-image w (op.Flat (flat.Closing f b)) none = takes-two w f b none
takes-image w (op.Flat (flat.Gradient f b)) none = takes-two w f b none
takes-image w (op.Flat (flat.WhiteTopHat f b)) none = takes-two w f b none
takes-image w (op.Flat (flat.BlackTopHat f b)) none = takes-two w f b none
takes-image w (op.Flat (flat.Rank f b k)) none = takes-two w f b none
takes-image w (op.Flat (flat.Threshold f k)) none = takes-one w f none
takes-image w (op.Flat (flat.HitMiss f hit miss)) none = takes-three w f hit miss none
takes-image w (op.Gran (gran.Skeleton f b levels)) none = takes-two w f b none
takes-image w (op.Gran (gran.Restore f b levels)) none = takes-two w f b none
takes-image w (op.Gran (gran.Spectrum f b levels)) none = takes-two w f b none

pub accepted-takes : (w : Table) (kept : List (Option Value)) (n : Name) (o : Op) → refusal w kept (call.Run n o) ≡ None → TakesImage w (inputs_from w (inputs_wanted o))
accepted-takes w kept n o free =
    let x = first_none (name_taken w n) _ free in
    let y = first_none (no_room w) _ x.1 in
    takes-image w o (first_none (first_of (map (wanted_case w) (inputs_wanted o))) _ y.1).0

-- ---- what stands in the inputs

-- each ticket of a command
pub record AllTickets (P : ℕ → Type 0) (i : Inputs) : Type 0 where
  pub first : AllByRecursion P (option_list i.a)
  pub second : AllByRecursion P (option_list i.b)
  pub third : AllByRecursion P (option_list i.c)

pub each-ticket : (P : ℕ → Type 0) (i : Inputs) → AllByRecursion P (tickets i) → AllTickets P i
each-ticket P i all =
    let both = all-append_left P (option_list i.a ++ option_list i.b) (option_list i.c) all in
    record {
      first = all-append_left P (option_list i.a) (option_list i.b) both;
      second = all-append_right P (option_list i.a) (option_list i.b) both;
      third = all-append_right P (option_list i.a ++ option_list i.b) (option_list i.c) all;
    }

input-fits : (w : Table) (kept : List (Option Value)) (t : ℕ) (i : Input) → IsInputAt w kept t i → FitsLimits (shape_at w.submissions t) → ImageFits i
input-fits w kept t (input.Image s) at fits = (subst FitsLimits at.0 fits, at.1)
input-fits w kept t (input.Element e) at fits = tt
input-fits w kept t input.Curve at fits = tt
input-fits w kept t input.Absent at fits = tt

-- an image that is looked up is within the limits of the table
pub fits-looked-up : (w : Table) (kept : List (Option Value)) (t : Option ℕ) (i : Input) → ShapesFit w → AllByRecursion (λ x. x < length w.names) (option_list t) → IsLookedUp w kept t i → ImageFits i
fits-looked-up w kept None i fit below is = subst ImageFits (sym (is.absent refl)) tt
fits-looked-up w kept (Some t) i fit below is = input-fits w kept t i is.told (fit t below.0)

-- where the operation has no fault, an image stands in the first place
pub first-there : (o : Op) (a b c : Input) → fault_in o a b c ≡ None → is_image_input a ≡ true
first-there (op.Flat o) a b c none = image_there o a b c none
first-there (op.Gran (gran.Skeleton f e levels)) a b c none = (none_first (is_image_input a) (fault.Kind 0) _ none).0
first-there (op.Gran (gran.Restore f e levels)) a b c none = (none_first (is_image_input a) (fault.Kind 0) _ none).0
first-there (op.Gran (gran.Spectrum f e levels)) a b c none = (none_first (is_image_input a) (fault.Kind 0) _ none).0

-- it has the shape of its entry
pub image-told : (w : Table) (kept : List (Option Value)) (t : ℕ) (i : Input) (s : Shape) → IsInputAt w kept t i → is_image_input i ≡ true → shape_at w.submissions t ≡ s → i ≡ input.Image s
image-told w kept t (input.Image r) s at there is = ap (λ (x : Shape). input.Image x) (sym at.0 ∙ is)
image-told w kept t (input.Element e) s at there is = absurd cc
image-told w kept t input.Curve s at there is = absurd cc
image-told w kept t input.Absent s at there is = absurd cc

-- ---- the shape of the result

first-named : (w : Table) (ws : List Wanted) (t : ℕ) → (inputs_from w ws).a ≡ Some t → first_shape w ws ≡ shape_at w.submissions t
first-named w [] t is = absurd cc
first-named w (AnImage f ∷ []) t is = ap (shape_at w.submissions) (ticket_is w f t is)
first-named w (AnImage f ∷ x ∷ []) t is = ap (shape_at w.submissions) (ticket_is w f t is)
first-named w (AnImage f ∷ x ∷ y ∷ more) t is = ap (shape_at w.submissions) (ticket_is w f t is)
first-named w (AnElement b ∷ []) t is = ap (shape_at w.submissions) (ticket_is w b t is)
first-named w (AnElement b ∷ x ∷ []) t is = ap (shape_at w.submissions) (ticket_is w b t is)
first-named w (AnElement b ∷ x ∷ y ∷ more) t is = ap (shape_at w.submissions) (ticket_is w b t is)

made-of-first : (w : Table) (o : Op) (a : Input) → first_shape w (inputs_wanted o) ≡ image_shape a → shape_of_result w o ≡ shape_made o a
made-of-first w (op.Flat (flat.Erode f b)) a is = is
made-of-first w (op.Flat (flat.Dilate f b)) a is = is
made-of-first w (op.Flat (flat.Opening f b)) a is = is
made-of-first w (op.Flat (flat.Closing f b)) a is = is
made-of-first w (op.Flat (flat.Gradient f b)) a is = is
made-of-first w (op.Flat (flat.WhiteTopHat f b)) a is = is
made-of-first w (op.Flat (flat.BlackTopHat f b)) a is = is
made-of-first w (op.Flat (flat.Rank f b k)) a is = is
made-of-first w (op.Flat (flat.Threshold f k)) a is = ap as_bits is
made-of-first w (op.Flat (flat.HitMiss f hit miss)) a is = is
made-of-first w (op.Gran (gran.Skeleton f b levels)) a is = ap (as_grey (levels + 1)) is
made-of-first w (op.Gran (gran.Restore f b levels)) a is = ap as_bits is
made-of-first w (op.Gran (gran.Spectrum f b levels)) a is = refl

-- the shape that the table tells is the one that is made of the first input
pub shape-made-of : (w : Table) (o : Op) (a : Input) (t : ℕ) (s : Shape) → (inputs_from w (inputs_wanted o)).a ≡ Some t → shape_at w.submissions t ≡ s → a ≡ input.Image s → shape_of_result w o ≡ shape_made o a
shape-made-of w o a t s first at is = made-of-first w o a (first-named w (inputs_wanted o) t first ∙ at ∙ sym (ap image_shape is))
