-- The faults of an operation are the refusals of the machine.
use Rattle.std.proofs.Common.{◌≡◌, ℕ, ◌+◌, Bool, true, false, List, [], ◌∷◌, ◌++◌, length, map, Option, Some, None, refl, ap, sym, ◌∙◌}
use Rattle.std.specs.Prelude.{not, ◌&&◌, nat_le, option_map}
use Rattle.mw_model.specs.declared.limits.TheConstants.{LEVEL_LIMIT, SIZE_LIMIT, TURN_LIMIT}
use Rattle.mw_model.specs.declared.names.Name.{Name}
use Rattle.mw_model.specs.declared.codes.Code.{Code}
use Rattle.mw_model.specs.declared.codes.Code.TheVariants as code
use Rattle.mw_model.specs.declared.calls.Call.TheVariants as call
use Rattle.mw_model.specs.declared.offsets.Offset.{Offset}
use Rattle.mw_model.specs.declared.shapes.Shape.{Shape}
use Rattle.mw_model.specs.declared.shapes.Shape.TheVariants as shape
use Rattle.mw_model.specs.declared.operations.Op.{Op}
use Rattle.mw_model.specs.declared.operations.Op.TheVariants as op
use Rattle.mw_model.specs.declared.operations.FlatOp.TheVariants as flat
use Rattle.mw_model.specs.declared.operations.GranOp.TheVariants as gran
use Rattle.mw_model.specs.Elements.{holds_origin, overlaps}
use Rattle.mw_model.specs.Machine.{as_bits, as_grey, shape_of_result}
use Rattle.mw_model.specs.Values.{Value}
use Rattle.mw_model.specs.Refusals.{Table, Wanted, AnImage, AnElement, inputs_wanted, wanted_case, input_case, op_cases, refusal, first_of, when, is_image, is_element, is_binary, is_dead, is_released, offsets_at, outcome_at, shape_at, ticket, name_taken, no_room}
use Rattle.mw_plan.specs.declared.faults.PlanFault.{PlanFault}
use Rattle.mw_plan.specs.declared.faults.PlanFault.TheVariants as fault
use Rattle.mw_plan.specs.declared.inputs.Input.{Input}
use Rattle.mw_plan.specs.declared.inputs.Input.TheVariants as input
use Rattle.mw_plan.specs.Faults.{plan_code}
use Rattle.mw_plan.specs.Asked.{is_image_input, is_element_input, image_shape, offsets_of_input, unless, first_fault, kind_fault, kind_faults, op_faults, fault_in, shape_made}
use Rattle.mw_plan.specs.Tables.{HasShape, IsEntry, AreEntries, name_wanted}
use Rattle.mw_model_laws.proofs.RunTables.{ticket_is}
use Rattle.mw_plan.proofs.Fitting.{none_first}

-- a fault as a refusal, if there is one
abbrev code_if : Option PlanFault → Option Code
code_if found = option_map plan_code found

-- lists of cases that are the same as refusals
abbrev AreCases : List (Option Code) → List (Option PlanFault) → Type 0
AreCases [] [] = Unit {0}
AreCases [] (f ∷ fs) = ⊥
AreCases (c ∷ cs) [] = ⊥
AreCases (c ∷ cs) (f ∷ fs) = (c ≡ code_if f) × AreCases cs fs

-- the first of them is the same
first_same : (cs : List (Option Code)) (fs : List (Option PlanFault)) → AreCases cs fs → first_of cs ≡ code_if (first_fault fs)
first_same [] [] are = refl
first_same [] (f ∷ fs) are = absurd are
first_same (c ∷ cs) [] are = absurd are
first_same (c ∷ cs) (None ∷ fs) are = ap (λ (t : Option Code). first_of (t ∷ cs)) are.0 ∙ first_same cs fs are.1
first_same (c ∷ cs) (Some f ∷ fs) are = ap (λ (t : Option Code). first_of (t ∷ cs)) are.0

append_same : (cs ds : List (Option Code)) (fs gs : List (Option PlanFault)) → AreCases cs fs → AreCases ds gs → AreCases (cs ++ ds) (fs ++ gs)
append_same [] ds [] gs are also = also
append_same [] ds (f ∷ fs) gs are also = absurd are
append_same (c ∷ cs) ds [] gs are also = absurd are
append_same (c ∷ cs) ds (f ∷ fs) gs are also = (are.0, append_same cs ds fs gs are.1 also)

first_append : (cs ds : List (Option Code)) → first_of (first_of cs ∷ first_of ds ∷ []) ≡ first_of (cs ++ ds)
first_append [] ds = last (first_of ds)
  where
    last : (c : Option Code) → first_of (None ∷ c ∷ []) ≡ c
    last None = refl
    last (Some c) = refl
first_append (None ∷ cs) ds = first_append cs ds
first_append (Some c ∷ cs) ds = refl

-- what is asked and does not hold
case_same : (t u : Bool) (f : PlanFault) (c : Code) → plan_code f ≡ c → u ≡ t → when (not u) c ≡ code_if (unless t f)
case_same true u f c is same = rw same refl
case_same false u f c is same = rw same (ap (λ (d : Code). Some d) (sym is))

case_not : (t : Bool) (f : PlanFault) (c : Code) → plan_code f ≡ c → when t c ≡ code_if (unless (not t) f)
case_not true f c is = ap (λ (d : Code). Some d) (sym is)
case_not false f c is = refl

-- ---- entries

image_told : (i : Input) (s : Shape) → HasShape i s → is_image s ≡ is_image_input i
image_told (input.Image t) s tells = ap is_image tells.0
image_told (input.Element e) s tells = ap is_image tells
image_told input.Curve s tells = ap is_image tells.1
image_told input.Absent s tells = absurd tells

element_told : (i : Input) (s : Shape) → HasShape i s → is_element s ≡ is_element_input i
element_told (input.Image (shape.Image k w h m)) s tells = ap is_element tells.0
element_told (input.Image (shape.Element w h)) s tells = absurd (let no : false ≡ true = tells.1 in cc)
element_told (input.Image (shape.Curve n)) s tells = ap is_element tells.0
element_told (input.Element e) s tells = ap is_element tells
element_told input.Curve s tells = ap is_element tells.1
element_told input.Absent s tells = absurd tells

binary_told : (i : Input) (s : Shape) → HasShape i s → is_binary s ≡ is_binary (image_shape i)
binary_told (input.Image t) s tells = ap is_binary tells.0
binary_told (input.Element e) s tells = ap is_binary tells
binary_told input.Curve s tells = ap is_binary tells.1
binary_told input.Absent s tells = absurd tells

-- an entry is refused for its kind alone
entry_case : (w : Table) (values : List (Option Value)) (n : Name) (i : Input) (fits : Shape → Bool) (t : Bool) (f : PlanFault) → plan_code f ≡ code.Kind → (e : IsEntry w values n i)
    → fits (shape_at w.submissions e.number) ≡ t → input_case w fits n ≡ code_if (unless t f)
entry_case w values n i fits t f is e same =
    rw e.known (ap (λ (c : Option Code). first_of (c ∷ when (is_dead (outcome_at w.outcomes e.number)) code.Dead ∷ when (is_released (outcome_at w.outcomes e.number)) code.Released ∷ [])) (case_same t (fits (shape_at w.submissions e.number)) f code.Kind is same)
    ∙ alone (unless t f) e.alive e.kept)
  where
    alone : (o : Option PlanFault) → is_dead (outcome_at w.outcomes e.number) ≡ false → is_released (outcome_at w.outcomes e.number) ≡ false
        → first_of (code_if o ∷ when (is_dead (outcome_at w.outcomes e.number)) code.Dead ∷ when (is_released (outcome_at w.outcomes e.number)) code.Released ∷ []) ≡ code_if o
    alone None alive kept = rw (alive, kept) refl
    alone (Some g) alive kept = refl

wanted_same : (w : Table) (values : List (Option Value)) (place : ℕ) (x : Wanted) (i : Input) → IsEntry w values (name_wanted x) i → wanted_case w x ≡ code_if (kind_fault place x i)
wanted_same w values place (AnImage n) i e = entry_case w values n i is_image (is_image_input i) (fault.Kind place) refl e (image_told i (shape_at w.submissions e.number) e.tells)
wanted_same w values place (AnElement n) i e = entry_case w values n i is_element (is_element_input i) (fault.Kind place) refl e (element_told i (shape_at w.submissions e.number) e.tells)

wanted_cases : (w : Table) (values : List (Option Value)) (place : ℕ) (xs : List Wanted) (is : List Input) → AreEntries w values xs is → AreCases (map (wanted_case w) xs) (kind_faults place xs is)
wanted_cases w values place [] is are = tt
wanted_cases w values place (x ∷ xs) [] are = absurd are
wanted_cases w values place (x ∷ xs) (i ∷ is) are = (wanted_same w values place x i are.0, wanted_cases w values (place + 1) xs is are.1)

-- ---- operations

origin_same : (e d : List Offset) → d ≡ e → when (not (holds_origin d)) code.NoOrigin ≡ code_if (unless (holds_origin e) fault.NoOrigin)
origin_same e d is = case_same (holds_origin e) (holds_origin d) fault.NoOrigin code.NoOrigin refl (ap holds_origin is)

number_same : (first last k : ℕ) → when (not (nat_le first k && nat_le k last)) code.Param ≡ code_if (unless (nat_le first k && nat_le k last) fault.Param)
number_same first last k = case_same (nat_le first k && nat_le k last) (nat_le first k && nat_le k last) fault.Param code.Param refl refl

count_same : (e d : List Offset) (k : ℕ) → d ≡ e → when (not (nat_le 1 k && nat_le k (length d))) code.Param ≡ code_if (unless (nat_le 1 k && nat_le k (length e)) fault.Param)
count_same e d k is = ap (λ (t : List Offset). when (not (nat_le 1 k && nat_le k (length t))) code.Param) is ∙ number_same 1 (length e) k

overlap_same : (e d e' d' : List Offset) → e' ≡ e → d' ≡ d → when (overlaps e' d') code.Overlap ≡ code_if (unless (not (overlaps e d)) fault.Overlap)
overlap_same e d e' d' first second =
    ap (λ (t : List Offset). when (overlaps t d') code.Overlap) first ∙ ap (λ (t : List Offset). when (overlaps e t) code.Overlap) second ∙ case_not (overlaps e d) fault.Overlap code.Overlap refl

binary_same : (w : Table) (values : List (Option Value)) (n : Name) (a : Input) → IsEntry w values n a → when (not (is_binary (shape_at w.submissions (ticket w n)))) code.Binary ≡ code_if (unless (is_binary (image_shape a)) fault.Binary)
binary_same w values n a e =
    case_same (is_binary (image_shape a)) (is_binary (shape_at w.submissions (ticket w n))) fault.Binary code.Binary refl
    (ap (λ (t : ℕ). is_binary (shape_at w.submissions t)) (ticket_is w n e.number e.known) ∙ binary_told a (shape_at w.submissions e.number) e.tells)

cases_of : (w : Table) (values : List (Option Value)) (o : Op) (a b c : Input) → AreEntries w values (inputs_wanted o) (a ∷ b ∷ c ∷ []) → AreCases (op_cases w values o) (op_faults o a b c)
cases_of w values (op.Flat (flat.Erode f e)) a b c are = tt
cases_of w values (op.Flat (flat.Dilate f e)) a b c are = tt
cases_of w values (op.Flat (flat.Opening f e)) a b c are = tt
cases_of w values (op.Flat (flat.Closing f e)) a b c are = tt
cases_of w values (op.Flat (flat.Gradient f e)) a b c are = tt
cases_of w values (op.Flat (flat.WhiteTopHat f e)) a b c are = tt
cases_of w values (op.Flat (flat.BlackTopHat f e)) a b c are = tt
cases_of w values (op.Flat (flat.Rank f e k)) a b c are =
    let d = are.1.0.offsets in
    (origin_same (offsets_of_input b) (offsets_at w values e) d, (count_same (offsets_of_input b) (offsets_at w values e) k d, tt))
cases_of w values (op.Flat (flat.Threshold f k)) a b c are = (number_same 0 LEVEL_LIMIT k, tt)
cases_of w values (op.Flat (flat.HitMiss f hit miss)) a b c are =
    (overlap_same (offsets_of_input b) (offsets_of_input c) (offsets_at w values hit) (offsets_at w values miss) are.1.0.offsets are.1.1.0.offsets, tt)
cases_of w values (op.Gran (gran.Skeleton f e levels)) a b c are =
    (binary_same w values f a are.0, (origin_same (offsets_of_input b) (offsets_at w values e) are.1.0.offsets, (number_same 1 TURN_LIMIT levels, tt)))
cases_of w values (op.Gran (gran.Restore f e levels)) a b c are = (number_same 1 TURN_LIMIT levels, tt)
cases_of w values (op.Gran (gran.Spectrum f e levels)) a b c are = (number_same 1 SIZE_LIMIT levels, tt)

pub run_refused : (w : Table) (values : List (Option Value)) (n : Name) (o : Op) (a b c : Input) → name_taken w n ≡ None → no_room w ≡ None → AreEntries w values (inputs_wanted o) (a ∷ b ∷ c ∷ [])
    → refusal w values (call.Run n o) ≡ code_if (fault_in o a b c)
run_refused w values n o a b c free room are =
    ap (λ (t : Option Code). first_of (t ∷ no_room w ∷ first_of (map (wanted_case w) (inputs_wanted o)) ∷ first_of (op_cases w values o) ∷ [])) free
    ∙ ap (λ (t : Option Code). first_of (t ∷ first_of (map (wanted_case w) (inputs_wanted o)) ∷ first_of (op_cases w values o) ∷ [])) room
    ∙ first_append (map (wanted_case w) (inputs_wanted o)) (op_cases w values o)
    ∙ first_same (map (wanted_case w) (inputs_wanted o) ++ op_cases w values o) (kind_faults 0 (inputs_wanted o) (a ∷ b ∷ c ∷ []) ++ op_faults o a b c)
    (append_same (map (wanted_case w) (inputs_wanted o)) (op_cases w values o) (kind_faults 0 (inputs_wanted o) (a ∷ b ∷ c ∷ [])) (op_faults o a b c)
    (wanted_cases w values 0 (inputs_wanted o) (a ∷ b ∷ c ∷ []) are) (cases_of w values o a b c are))

-- ---- shapes

image_is : (i : Input) (s : Shape) → HasShape i s → is_image_input i ≡ true → s ≡ image_shape i
image_is (input.Image t) s tells there = tells.0
image_is (input.Element e) s tells there = absurd cc
image_is input.Curve s tells there = absurd cc
image_is input.Absent s tells there = absurd tells

-- the shape of the first input
first_is : (w : Table) (values : List (Option Value)) (n : Name) (a : Input) (rest : List (Option PlanFault)) → IsEntry w values n a → first_fault (unless (is_image_input a) (fault.Kind 0) ∷ rest) ≡ None
    → shape_at w.submissions (ticket w n) ≡ image_shape a
first_is w values n a rest e none =
    ap (shape_at w.submissions) (ticket_is w n e.number e.known) ∙ image_is a (shape_at w.submissions e.number) e.tells (none_first (is_image_input a) (fault.Kind 0) rest none).0

pub shape_same : (w : Table) (values : List (Option Value)) (o : Op) (a b c : Input) → AreEntries w values (inputs_wanted o) (a ∷ b ∷ c ∷ []) → fault_in o a b c ≡ None → shape_of_result w o ≡ shape_made o a
shape_same w values (op.Flat (flat.Erode f e)) a b c are none = first_is w values f a _ are.0 none
shape_same w values (op.Flat (flat.Dilate f e)) a b c are none = first_is w values f a _ are.0 none
shape_same w values (op.Flat (flat.Opening f e)) a b c are none = first_is w values f a _ are.0 none
shape_same w values (op.Flat (flat.Closing f e)) a b c are none = first_is w values f a _ are.0 none
shape_same w values (op.Flat (flat.Gradient f e)) a b c are none = first_is w values f a _ are.0 none
shape_same w values (op.Flat (flat.WhiteTopHat f e)) a b c are none = first_is w values f a _ are.0 none
shape_same w values (op.Flat (flat.BlackTopHat f e)) a b c are none = first_is w values f a _ are.0 none
shape_same w values (op.Flat (flat.Rank f e k)) a b c are none = first_is w values f a _ are.0 none
shape_same w values (op.Flat (flat.Threshold f k)) a b c are none = ap as_bits (first_is w values f a _ are.0 none)
shape_same w values (op.Flat (flat.HitMiss f hit miss)) a b c are none = first_is w values f a _ are.0 none
shape_same w values (op.Gran (gran.Skeleton f e levels)) a b c are none = ap (as_grey (levels + 1)) (first_is w values f a _ are.0 none)
shape_same w values (op.Gran (gran.Restore f e levels)) a b c are none = ap as_bits (first_is w values f a _ are.0 none)
shape_same w values (op.Gran (gran.Spectrum f e levels)) a b c are none = refl
