-- What an accepted command finds in its inputs.
use Rattle.std.proofs.Common.{◌≡◌, ℕ, ◌<◌, ◌≤◌, Bool, true, false, not, List, [], ◌∷◌, ◌++◌, length, map, take, Option, Some, None, IsSome, refl, ap, sym, subst, arith, ◌∙◌}
use Rattle.std.specs.Prelude.{option_map, unwrap_or}
use Rattle.std.specs.Arc.{arc_value}
use Rattle.mw_model.specs.declared.names.Name.{Name}
use Rattle.mw_model.specs.declared.codes.Code.TheVariants as code
use Rattle.mw_model.specs.declared.calls.Call.TheVariants as call
use Rattle.mw_model.specs.declared.calls.Outcome.{Outcome}
use Rattle.mw_model.specs.declared.calls.Outcome.TheVariants as outcome
use Rattle.mw_model.specs.declared.shapes.Shape.{Shape}
use Rattle.mw_model.specs.declared.shapes.Shape.TheVariants as shape
use Rattle.mw_model.specs.declared.operations.Op.{Op}
use Rattle.mw_model.specs.declared.operations.Op.TheVariants as op
use Rattle.mw_model.specs.declared.operations.FlatOp.TheVariants as flat
use Rattle.mw_model.specs.declared.operations.GranOp.TheVariants as gran
use Rattle.mw_model.specs.Elements.{Figure}
use Rattle.mw_model.specs.Machine.{Machine, inputs_from, ticket_wanted, values}
use Rattle.mw_model.specs.Refusals.{Table, Wanted, AnImage, AnElement, first_of, inputs_wanted, is_dead, is_element, is_image, is_released, is_there, name_taken, no_room, outcome_at, refusal, shape_at, ticket_of, wanted_case, input_case, when}
use Rattle.mw_model.specs.Stands.{Agrees}
use Rattle.mw_model.specs.Values.{Value, ImageValue, ElementValue, CurveValue, offsets_in, option_list, tickets, value_at}
use Rattle.mw_model_laws.specs.MachineLaws.{IsSound, WithinLimits, shape_of_value}
use Rattle.mw_model_laws.proofs.RunShapes.{image_value, no_element}
use Rattle.mw_model_laws.proofs.RunTables.{first_none, is_known, ticket_is, ticket_within, when_so}
use Rattle.mw_plan.specs.declared.faults.PlanFault.{PlanFault}
use Rattle.mw_plan.specs.declared.inputs.Input.{Input}
use Rattle.mw_plan.specs.declared.inputs.Input.TheVariants as input
use Rattle.mw_plan.specs.Asked.{fault_in, offsets_of_input}
use Rattle.mw_plan.specs.Faults.{plan_code}
use Rattle.mw_plan.specs.PlansOf.{AreValuesOf, IsValueOf, inputs_taken}
use Rattle.mw_plan.specs.Tables.{AreEntries, AreInputsOf, AreValuesAt, HasShape, IsEntry, IsInputAt, IsInputOf, figure_in, name_wanted}
use Rattle.mw_plan.proofs.Refused.{run_refused}

-- ---- one input

-- the entry of a name that was not refused
record IsUsable (w : Table) (n : Name) (t : ℕ) : Type 0 where
  known : ticket_of w.names n ≡ Some t
  within : t < length w.names
  alive : is_dead (outcome_at w.outcomes t) ≡ false
  kept : is_released (outcome_at w.outcomes t) ≡ false

usable : (w : Table) (fits : Shape → Bool) (n : Name) → input_case w fits n ≡ None → (t : ℕ) × IsUsable w n t
usable w fits n none =
    let known = is_known (ticket_of w.names n) _ none in
    let t = known.0 in
    let kinds = first_none (when (not (fits (shape_at w.submissions t))) code.Kind) _ known.2 in
    let dead = first_none (when (is_dead (outcome_at w.outcomes t)) code.Dead) _ kinds.1 in
    let released = first_none (when (is_released (outcome_at w.outcomes t)) code.Released) _ dead.1 in (
      t,
      record {
        known = known.1;
        within = ticket_within w n t known.1;
        alive = when_so (is_dead (outcome_at w.outcomes t)) code.Dead dead.0;
        kept = when_so (is_released (outcome_at w.outcomes t)) code.Released released.0;
      },
    )

usable_wanted : (w : Table) (x : Wanted) → wanted_case w x ≡ None → (t : ℕ) × IsUsable w (name_wanted x) t
usable_wanted w (AnImage n) none = usable w is_image n none
usable_wanted w (AnElement n) none = usable w is_element n none

wanted_ticket : (w : Table) (x : Wanted) → ticket_wanted w x ≡ ticket_of w.names (name_wanted x)
wanted_ticket w (AnImage n) = refl
wanted_ticket w (AnElement n) = refl

-- ---- values by shapes

shape_kept : (w : Table) (kept values : List (Option Value)) (t : ℕ) (v : Value) → AreValuesAt w kept values → t < length w.names → value_at kept t ≡ Some v → shape_of_value v ≡ shape_at w.submissions t
shape_kept w kept values t v are lt is =
    let told : Some (shape_of_value v) ≡ Some (shape_at w.submissions t) = sym (ap (option_map shape_of_value) (are.own t v is)) ∙ are.shapes t lt in
    cc

-- an element is kept where an element stands that is neither dead nor released
element_there : (v : Option Value) (s : Shape) → ((x : Value) → v ≡ Some x → shape_of_value x ≡ s) → is_element s ≡ true → IsSome v → figure_in v ≡ None → ⊥
element_there None s told element some none = absurd cc
element_there (Some (ImageValue f)) s told element some none = let e = ap is_element (told (ImageValue f) refl) in absurd cc
element_there (Some (ElementValue b)) s told element some none = absurd cc
element_there (Some (CurveValue ns)) s told element some none = let e = ap is_element (told (CurveValue ns) refl) in absurd cc

-- what is no element has no offsets
no_offsets : (v : Option Value) (s : Shape) → ((x : Value) → v ≡ Some x → shape_of_value x ≡ s) → is_element s ≡ false → unwrap_or (offsets_in v) [] ≡ []
no_offsets None s told element = refl
no_offsets (Some (ImageValue f)) s told element = refl
no_offsets (Some (ElementValue b)) s told element = let e = ap is_element (told (ElementValue b) refl) in absurd cc
no_offsets (Some (CurveValue ns)) s told element = refl

-- the element that is kept
figure_is : (v : Option Value) (b : Figure) → figure_in v ≡ Some b → v ≡ Some (ElementValue b)
figure_is None b is = absurd cc
figure_is (Some (ImageValue f)) b is = absurd cc
figure_is (Some (ElementValue d)) b is = cc
figure_is (Some (CurveValue ns)) b is = absurd cc

curve_value : (v : Option Value) (n : ℕ) → option_map shape_of_value v ≡ Some (shape.Curve n) → (numbers : List ℕ) × (v ≡ Some (CurveValue numbers))
curve_value None n is = absurd cc
curve_value (Some (ImageValue f)) n is = absurd cc
curve_value (Some (ElementValue b)) n is = absurd cc
curve_value (Some (CurveValue numbers)) n is = (numbers, refl)

-- ---- one input at its ticket

-- what holds of an input at a ticket that may be used
record IsFound (w : Table) (kept values : List (Option Value)) (t : ℕ) (i : Input) : Type 0 where
  tells : HasShape i (shape_at w.submissions t)
  offsets : unwrap_or (offsets_in (value_at kept t)) [] ≡ offsets_of_input i
  value : IsValueOf i (value_at values t)

found : (w : Table) (kept values : List (Option Value)) (n : Name) (t : ℕ) (i : Input) → AreValuesAt w kept values → IsUsable w n t → IsInputAt w kept t i → IsFound w kept values t i
found w kept values n t (input.Image s) are usable at =
    let image = image_value (value_at values t) s (are.shapes t usable.within ∙ ap (λ (r : Shape). Some r) at.0) at.1 in
    record {
      tells = at;
      offsets = no_offsets (value_at kept t) (shape_at w.submissions t) (λ v. shape_kept w kept values t v are usable.within) (no_element (shape_at w.submissions t) (ap is_image at.0 ∙ at.1));
      value = (image.0, image.1, subst WithinLimits image.1 (are.limits t usable.within), sym image.2);
    }
found w kept values n t (input.Element e) are usable at =
    let is = figure_is (value_at kept t) (arc_value e.now) at in
    record {
      tells = sym (shape_kept w kept values t (ElementValue (arc_value e.now)) are usable.within is);
      offsets = ap (λ (v : Option Value). unwrap_or (offsets_in v) []) is;
      value = are.own t (ElementValue (arc_value e.now)) is;
    }
found w kept values n t input.Curve are usable (k, is) = record {
  tells = (k, is);
  offsets = no_offsets (value_at kept t) (shape_at w.submissions t) (λ v. shape_kept w kept values t v are usable.within) (ap is_element is);
  value = curve_value (value_at values t) k (are.shapes t usable.within ∙ ap (λ (r : Shape). Some r) is);
}
found w kept values n t input.Absent are usable at =
    absurd (element_there (value_at kept t) (shape_at w.submissions t) (λ v. shape_kept w kept values t v are usable.within) at.0 (are.elements t usable.within at.0 usable.alive usable.kept) at.1)

-- the input of a name that is wanted, with its ticket
record IsTaken (w : Table) (kept values : List (Option Value)) (x : Wanted) (i : Input) : Type 0 where
  entry : IsEntry w kept (name_wanted x) i
  ticket : ticket_wanted w x ≡ Some entry.number
  value : IsValueOf i (value_at values entry.number)

IsInputOf-taken : (w : Table) (kept values : List (Option Value)) (x : Wanted) (i : Input) → AreValuesAt w kept values → wanted_case w x ≡ None → IsInputOf w kept (ticket_wanted w x) i → IsTaken w kept values x i
IsInputOf-taken w kept values x i are none at =
    let entry = usable_wanted w x none in
    let t = entry.0 in
    let n = name_wanted x in
    let is : ticket_wanted w x ≡ Some t = wanted_ticket w x ∙ entry.1.known in
    let what = found w kept values n t i are entry.1 (subst (λ (o : Option ℕ). IsInputOf w kept o i) is at) in
    record {
      entry = record {
        number = t;
        known = entry.1.known;
        alive = entry.1.alive;
        kept = entry.1.kept;
        tells = what.tells;
        offsets = ap (λ (k : ℕ). unwrap_or (offsets_in (value_at kept k)) []) (ticket_is w n t entry.1.known) ∙ what.offsets;
      };
      ticket = is;
      value = what.value;
    }

-- ---- all inputs

-- the inputs, place by place
abbrev AreTaken : Table → List (Option Value) → List (Option Value) → List Wanted → List Input → Type 0
AreTaken w kept values [] is = Unit {0}
AreTaken w kept values (x ∷ xs) [] = ⊥
AreTaken w kept values (x ∷ xs) (i ∷ is) = IsTaken w kept values x i × AreTaken w kept values xs is

few_wanted : (o : Op) → length (inputs_wanted o) ≤ 3
few_wanted (op.Flat (flat.Erode f e)) = omega arith
few_wanted (op.Flat (flat.Dilate f e)) = omega arith
few_wanted (op.Flat (flat.Opening f e)) = omega arith
few_wanted (op.Flat (flat.Closing f e)) = omega arith
few_wanted (op.Flat (flat.Gradient f e)) = omega arith
few_wanted (op.Flat (flat.WhiteTopHat f e)) = omega arith
few_wanted (op.Flat (flat.BlackTopHat f e)) = omega arith
few_wanted (op.Flat (flat.Rank f e k)) = omega arith
few_wanted (op.Flat (flat.Threshold f k)) = omega arith
few_wanted (op.Flat (flat.HitMiss f hit miss)) = omega arith
few_wanted (op.Gran (gran.Skeleton f e levels)) = omega arith
few_wanted (op.Gran (gran.Restore f e levels)) = omega arith
few_wanted (op.Gran (gran.Spectrum f e levels)) = omega arith

all_taken : (w : Table) (kept values : List (Option Value)) (xs : List Wanted) (a b c : Input) → length xs ≤ 3 → AreValuesAt w kept values → first_of (map (wanted_case w) xs) ≡ None → AreInputsOf w kept (inputs_from w xs) a b c
    → AreTaken w kept values xs (a ∷ b ∷ c ∷ [])
all_taken w kept values [] a b c few are none at = tt
all_taken w kept values (x ∷ []) a b c few are none at = (IsInputOf-taken w kept values x a are (first_none (wanted_case w x) _ none).0 at.first, tt)
all_taken w kept values (x ∷ y ∷ []) a b c few are none at =
    let one = first_none (wanted_case w x) _ none in
    let two = first_none (wanted_case w y) _ one.1 in
    (IsInputOf-taken w kept values x a are one.0 at.first, (IsInputOf-taken w kept values y b are two.0 at.second, tt))
all_taken w kept values (x ∷ y ∷ z ∷ []) a b c few are none at =
    let one = first_none (wanted_case w x) _ none in
    let two = first_none (wanted_case w y) _ one.1 in
    let three = first_none (wanted_case w z) _ two.1 in
    (IsInputOf-taken w kept values x a are one.0 at.first, (IsInputOf-taken w kept values y b are two.0 at.second, (IsInputOf-taken w kept values z c are three.0 at.third, tt)))
all_taken w kept values (x ∷ y ∷ z ∷ u ∷ xs) a b c few are none at = absurd (omega arith)

are_entries : (w : Table) (kept values : List (Option Value)) (xs : List Wanted) (is : List Input) → AreTaken w kept values xs is → AreEntries w kept xs is
are_entries w kept values [] is are = tt
are_entries w kept values (x ∷ xs) [] are = absurd are
are_entries w kept values (x ∷ xs) (i ∷ is) are = (are.0.entry, are_entries w kept values xs is are.1)

-- the values of tickets that are there
values_of : (values : List (Option Value)) (a b c : Option ℕ) (is : List Input) (ts : List ℕ) → option_list a ++ option_list b ++ option_list c ≡ ts → AreValuesOf is (map (value_at values) ts)
    → AreValuesOf is (map (value_at values) (option_list a ++ option_list b ++ option_list c))
values_of values a b c is ts same are = subst (λ (us : List ℕ). AreValuesOf is (map (value_at values) us)) (sym same) are

are_values : (w : Table) (kept values : List (Option Value)) (xs : List Wanted) (a b c : Input) → length xs ≤ 3 → AreTaken w kept values xs (a ∷ b ∷ c ∷ [])
    → AreValuesOf (take (length xs) (a ∷ b ∷ c ∷ [])) (map (value_at values) (tickets (inputs_from w xs)))
are_values w kept values [] a b c few are = tt
are_values w kept values (x ∷ []) a b c few (p, q) =
    values_of values (ticket_wanted w x) None None (a ∷ []) (p.entry.number ∷ []) (ap (λ (o : Option ℕ). option_list o ++ [] ++ []) p.ticket) (p.value, tt)
are_values w kept values (x ∷ y ∷ []) a b c few (p, (q, r)) =
    values_of values (ticket_wanted w x) (ticket_wanted w y) None (a ∷ b ∷ []) (p.entry.number ∷ q.entry.number ∷ [])
    (ap (λ (o : Option ℕ). option_list o ++ option_list (ticket_wanted w y) ++ []) p.ticket ∙ ap (λ (o : Option ℕ). (p.entry.number ∷ []) ++ option_list o ++ []) q.ticket)
    (p.value, (q.value, tt))
are_values w kept values (x ∷ y ∷ z ∷ []) a b c few (p, (q, (r, s))) =
    values_of values (ticket_wanted w x) (ticket_wanted w y) (ticket_wanted w z) (a ∷ b ∷ c ∷ []) (p.entry.number ∷ q.entry.number ∷ r.entry.number ∷ [])
    (ap (λ (o : Option ℕ). option_list o ++ option_list (ticket_wanted w y) ++ option_list (ticket_wanted w z)) p.ticket
    ∙ ap (λ (o : Option ℕ). (p.entry.number ∷ []) ++ option_list o ++ option_list (ticket_wanted w z)) q.ticket
    ∙ ap (λ (o : Option ℕ). (p.entry.number ∷ []) ++ (q.entry.number ∷ []) ++ option_list o) r.ticket)
    (p.value, (q.value, (r.value, tt)))
are_values w kept values (x ∷ y ∷ z ∷ u ∷ xs) a b c few are = absurd (omega arith)

-- ---- accepted commands

-- what was not refused: the name, the room, and the inputs
record IsAccepted (w : Table) (n : Name) (o : Op) : Type 0 where
  free : name_taken w n ≡ None
  room : no_room w ≡ None
  inputs : first_of (map (wanted_case w) (inputs_wanted o)) ≡ None

accepted : (w : Table) (kept : List (Option Value)) (n : Name) (o : Op) → refusal w kept (call.Run n o) ≡ None → IsAccepted w n o
accepted w kept n o none =
    let free = first_none (name_taken w n) _ none in
    let room = first_none (no_room w) _ free.1 in
    let inputs = first_none (first_of (map (wanted_case w) (inputs_wanted o))) _ room.1 in
    record { free = free.0; room = room.0; inputs = inputs.0 }

-- The premises of what follows: an accepted command, the values, and the inputs at its tickets.
accepted_taken : (w : Table) (kept values : List (Option Value)) (n : Name) (o : Op) (a b c : Input) → refusal w kept (call.Run n o) ≡ None → AreValuesAt w kept values → AreInputsOf w kept (inputs_from w (inputs_wanted o)) a b c
    → AreTaken w kept values (inputs_wanted o) (a ∷ b ∷ c ∷ [])
accepted_taken w kept values n o a b c none are at = all_taken w kept values (inputs_wanted o) a b c (few_wanted o) are (accepted w kept n o none).inputs at

pub accepted_entries : (w : Table) (kept values : List (Option Value)) (n : Name) (o : Op) (a b c : Input) → refusal w kept (call.Run n o) ≡ None → AreValuesAt w kept values → AreInputsOf w kept (inputs_from w (inputs_wanted o)) a b c
    → AreEntries w kept (inputs_wanted o) (a ∷ b ∷ c ∷ [])
accepted_entries w kept values n o a b c none are at = are_entries w kept values (inputs_wanted o) (a ∷ b ∷ c ∷ []) (accepted_taken w kept values n o a b c none are at)

pub accepted_faultless : (w : Table) (kept values : List (Option Value)) (n : Name) (o : Op) (a b c : Input) → refusal w kept (call.Run n o) ≡ None → AreValuesAt w kept values → AreInputsOf w kept (inputs_from w (inputs_wanted o)) a b c
    → fault_in o a b c ≡ None
accepted_faultless w kept values n o a b c none are at =
    let ok = accepted w kept n o none in
    no_code (fault_in o a b c) (sym (run_refused w kept n o a b c ok.free ok.room (accepted_entries w kept values n o a b c none are at)) ∙ none)
  where
    no_code : (found : Option PlanFault) → option_map plan_code found ≡ None → found ≡ None
    no_code None none = refl
    no_code (Some f) none = absurd cc

pub accepted_values : (w : Table) (kept values : List (Option Value)) (n : Name) (o : Op) (a b c : Input) → refusal w kept (call.Run n o) ≡ None → AreValuesAt w kept values → AreInputsOf w kept (inputs_from w (inputs_wanted o)) a b c
    → AreValuesOf (inputs_taken o a b c) (map (value_at values) (tickets (inputs_from w (inputs_wanted o))))
accepted_values w kept values n o a b c none are at = are_values w kept values (inputs_wanted o) a b c (few_wanted o) (accepted_taken w kept values n o a b c none are at)

-- ---- the values of a machine

done_of : (o : Outcome) → is_there o ≡ true → is_released o ≡ false → o ≡ outcome.Done
done_of outcome.Pending there kept = absurd cc
done_of outcome.Done there kept = refl
done_of outcome.Cancelled there kept = absurd cc
done_of outcome.Memory there kept = absurd cc
done_of (outcome.Input s) there kept = absurd cc
done_of outcome.Released there kept = absurd cc

pub machine_values : (m : Machine) (kept : List (Option Value)) → IsSound m → Agrees kept m → AreValuesAt m.table kept (values m)
machine_values m kept sound agrees = record {
  own = agrees.own;
  shapes = sound.shapes;
  limits = sound.limits;
  elements = λ t lt element alive released. agrees.done t lt (done_of (outcome_at m.table.outcomes t) (sound.given t lt (sound.elements t lt element)) released);
}
