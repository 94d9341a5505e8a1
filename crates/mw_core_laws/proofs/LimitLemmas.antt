-- The shapes of a machine's table are within the limits.
use Rattle.std.specs.Prelude.{nat_le}
use Rattle.std.proofs.lemmas.Bool.{cases_Bool, leb-true}
use Rattle.std.proofs.Common.{◌≡◌, ℕ, ◌+◌, ◌<◌, ◌≤◌, inl, inr, List, [], ◌∷◌, ◌++◌, length, map, Option, Some, None, refl, sym, subst, arith, length-append}
use Rattle.mw_model.proofs.mw_facts.Elements.{get_or-push_below, get_or-push_last}
use Rattle.mw_model.proofs.mw_facts.Numbers.{below_or_last}
use Rattle.mw_model.specs.declared.names.Name.{Name}
use Rattle.mw_model.specs.declared.shapes.Shape.{Shape}
use Rattle.mw_model.specs.declared.shapes.Shape.TheVariants as shape
use Rattle.mw_model.specs.declared.operations.Op.{Op}
use Rattle.mw_model.specs.declared.operations.Op.TheVariants as op
use Rattle.mw_model.specs.declared.operations.FlatOp.{FlatOp}
use Rattle.mw_model.specs.declared.operations.FlatOp.TheVariants as flat
use Rattle.mw_model.specs.declared.operations.GranOp.{GranOp}
use Rattle.mw_model.specs.declared.operations.GranOp.TheVariants as gran
use Rattle.mw_model.specs.declared.submissions.Submission.{Submission}
use Rattle.mw_model.specs.declared.codes.Code.{Code}
use Rattle.mw_model.specs.declared.codes.Code.TheVariants as code
use Rattle.mw_model.specs.declared.calls.Given.TheVariants as given
use Rattle.mw_model.specs.declared.calls.Call.{Call}
use Rattle.mw_model.specs.declared.calls.Call.TheVariants as call
use Rattle.mw_model.specs.declared.calls.LogItem.{LogItem}
use Rattle.mw_model.specs.declared.calls.LogItem.TheVariants as item
use Rattle.mw_model.specs.Values.{Value}
use Rattle.mw_model.specs.Refusals.{Table, Wanted, AnImage, AnElement, no_submission, shape_at, is_image, first_of, name_taken, no_room, fault_of, wanted_case, inputs_wanted, op_cases, binary_case, origin_case, param_case, refusal}
use Rattle.mw_model.specs.Machine.{Machine, Step, IsWith, killed, given_submission, run_submission, changed, unless_refused, shape_named, shape_of_result, as_bits, as_grey}
use Rattle.mw_store.specs.mw_model_laws.MachineLaws.{IsSound}
use Rattle.mw_store.proofs.mw_model_laws.RunTables.{first_none, input_found, ticket_is}
use Rattle.mw_core_laws.specs.Limits.{FitsLimits, ShapesFit}

bits-fit : (s : Shape) → FitsLimits s → FitsLimits (as_bits s)
bits-fit (shape.Image k w h m) e = (e.0, e.1, refl, e.3)
bits-fit (shape.Element w h) e = e
bits-fit (shape.Curve n) e = e

grey-fit : (maxval : ℕ) (s : Shape) → 1 ≤ maxval → maxval ≤ 65535 → FitsLimits s → FitsLimits (as_grey maxval s)
grey-fit maxval (shape.Image k w h m) some most e = (e.0, e.1, (some, most), e.3)
grey-fit maxval (shape.Element w h) some most e = e
grey-fit maxval (shape.Curve n) some most e = e

-- a number that is no wrong parameter is at most the last
param-most : (first last k : ℕ) → param_case first last k ≡ None → k ≤ last
param-most first last k h =
    elim (cases_Bool (nat_le k last)) [
      | inl e ↦ leb-true k last e
      | inr e ↦ elim (cases_Bool (nat_le first k)) [
        | inl f ↦ let no : param_case first last k ≡ Some code.Param = rw (e, f) refl in absurd cc
        | inr f ↦ let no : param_case first last k ≡ Some code.Param = rw (e, f) refl in absurd cc
      ]
    ]

named-fits : (w : Table) (f : Name) (more : List Wanted) → ShapesFit w → first_of (map (wanted_case w) (AnImage f ∷ more)) ≡ None → FitsLimits (shape_named w f)
named-fits w f more fit h =
    let found = input_found w is_image f (first_none (wanted_case w (AnImage f)) (map (wanted_case w) more) h).0 in
    let P : ℕ → Type 0 = λ t. FitsLimits (shape_at w.submissions t) in
    subst P (sym (ticket_is w f found.0 found.1.found)) (fit found.0 found.1.within)

flat-fits : (w : Table) (o : FlatOp) → ShapesFit w → first_of (map (wanted_case w) (inputs_wanted (op.Flat o))) ≡ None → FitsLimits (shape_of_result w (op.Flat o))
flat-fits w (flat.Erode f b) fit h = named-fits w f (AnElement b ∷ []) fit h
flat-fits w (flat.Dilate f b) fit h = named-fits w f (AnElement b ∷ []) fit h
flat-fits w (flat.Opening f b) fit h = named-fits w f (AnElement b ∷ []) fit h
flat-fits w (flat.Closing f b) fit h = named-fits w f (AnElement b ∷ []) fit h
flat-fits w (flat.Gradient f b) fit h = named-fits w f (AnElement b ∷ []) fit h
flat-fits w (flat.WhiteTopHat f b) fit h = named-fits w f (AnElement b ∷ []) fit h
flat-fits w (flat.BlackTopHat f b) fit h = named-fits w f (AnElement b ∷ []) fit h
flat-fits w (flat.Rank f b k) fit h = named-fits w f (AnElement b ∷ []) fit h
flat-fits w (flat.Threshold f k) fit h = bits-fit (shape_named w f) (named-fits w f [] fit h)
flat-fits w (flat.HitMiss f hit miss) fit h = named-fits w f (AnElement hit ∷ AnElement miss ∷ []) fit h

gran-fits : (w : Table) (values : List (Option Value)) (o : GranOp) → ShapesFit w → first_of (map (wanted_case w) (inputs_wanted (op.Gran o))) ≡ None → first_of (op_cases w values (op.Gran o)) ≡ None → FitsLimits (shape_of_result w (op.Gran o))
gran-fits w values (gran.Skeleton f b levels) fit h k =
    let binary = first_none (binary_case w f) _ k in
    let origin = first_none (origin_case w values b) _ binary.1 in
    let most = param-most 1 254 levels (first_none (param_case 1 254 levels) [] origin.1).0 in
    grey-fit (levels + 1) (shape_named w f) (omega arith) (omega (arith, most)) (named-fits w f (AnElement b ∷ []) fit h)
gran-fits w values (gran.Restore f b levels) fit h k = bits-fit (shape_named w f) (named-fits w f (AnElement b ∷ []) fit h)
gran-fits w values (gran.Spectrum f b levels) fit h k = omega arith

run-fits : (w : Table) (values : List (Option Value)) (o : Op) → ShapesFit w → first_of (map (wanted_case w) (inputs_wanted o)) ≡ None → first_of (op_cases w values o) ≡ None → FitsLimits (shape_of_result w o)
run-fits w values (op.Flat o) fit h k = flat-fits w o fit h
run-fits w values (op.Gran o) fit h k = gran-fits w values o fit h k

-- the result of a command that is not refused
pub accepted-fits : (w : Table) (values : List (Option Value)) (n : Name) (o : Op) → ShapesFit w → refusal w values (call.Run n o) ≡ None → FitsLimits (shape_of_result w o)
accepted-fits w values n o fit r =
    let x = first_none (name_taken w n) _ r in
    let y = first_none (no_room w) _ x.1 in
    let z = first_none (first_of (map (wanted_case w) (inputs_wanted o))) _ y.1 in
    run-fits w values o fit z.0 (first_none (first_of (op_cases w values o)) [] z.1).0

fit-push : (m : Machine) (n : Name) (e : Submission) → IsSound m → ShapesFit m.table → FitsLimits e.shape
    → (t : ℕ) → t < length (m.table.names ++ n ∷ []) → FitsLimits (shape_at (m.table.submissions ++ e ∷ []) t)
fit-push m n e s fit own t within =
    let P : Submission → Type 0 = λ x. FitsLimits x.shape in
    elim (below_or_last (length m.table.names) t (omega (arith, length-append m.table.names (n ∷ [])))) [
      | inl l ↦ subst P (sym (get_or-push_below m.table.submissions e no_submission t (omega (arith, s.lengths.submissions)))) (fit t l)
      | inr l ↦ subst P (sym (get_or-push_last m.table.submissions e no_submission t (omega (arith, s.lengths.submissions)))) own
    ]

fit-unless : (r : Option Code) (w v : Table) → ShapesFit w → (r ≡ None → ShapesFit v) → ShapesFit (unless_refused r w v)
fit-unless None w v old new = new refl
fit-unless (Some c) w v old new = old

no-fault : (m : Machine) (n : Name) (c : Code) → first_of (name_taken m.table n ∷ no_room m.table ∷ fault_of (given.Bad c) ∷ []) ≡ None → ⊥
no-fault m n c r =
    let x = first_none (name_taken m.table n) _ r in
    let y = first_none (no_room m.table) (fault_of (given.Bad c) ∷ []) x.1 in
    let z : Some c ≡ None = y.1 in
    cc

fit-changed : (m : Machine) (c : Call) (p : Option Value) → IsSound m → ShapesFit m.table → IsWith c p → refusal m.table m.payloads c ≡ None → ShapesFit (changed m.table c)
unfolding killed
fit-changed m (call.Load n (given.Good s)) p sound fit w r =
    let P : Shape → Type 0 = FitsLimits in
    fit-push m n (given_submission (given.Good s)) sound fit (subst P (sym w.3) (w.2.width, w.2.height, w.2.maxval, w.2.area))
fit-changed m (call.Load n (given.Bad c)) p sound fit w r = absurd (no-fault m n c r)
fit-changed m (call.Element n (given.Good s)) p sound fit w r =
    let P : Shape → Type 0 = FitsLimits in
    fit-push m n (given_submission (given.Good s)) sound fit (subst P (sym w.3) tt)
fit-changed m (call.Element n (given.Bad c)) p sound fit w r = absurd (no-fault m n c r)
fit-changed m (call.Run n o) p sound fit w r = fit-push m n (run_submission m.table o) sound fit (accepted-fits m.table m.payloads n o fit r)
fit-changed m (call.Cancel n) p sound fit w r = fit
fit-changed m (call.Status n) p sound fit w r = fit
fit-changed m (call.Fetch n) p sound fit w r = fit
fit-changed m (call.Release n) p sound fit w r = fit

fit-step : (m : Machine) (i : LogItem) (n : Machine) → IsSound m → Step m i n → ShapesFit m.table → ShapesFit n.table
unfolding killed
fit-step m (item.Call c r) n s step fit =
    let P : Machine → Type 0 = λ k. ShapesFit k.table in
    subst P (sym step.3) (fit-unless (refusal m.table m.payloads c) m.table (changed m.table c) fit (fit-changed m c step.0 s fit step.1))
fit-step m (item.Finished t) n s step fit = let P : Machine → Type 0 = λ k. ShapesFit k.table in subst P (sym step.1) fit
fit-step m (item.Killed t) n s step fit = let P : Machine → Type 0 = λ k. ShapesFit k.table in subst P (sym step.1) fit
