-- A refusal may look at the elements that are kept in place of the payloads.
use Rattle.std.proofs.Common.{◌≡◌, ℕ, ◌<◌, true, false, List, [], ◌∷◌, length, map, Option, Some, None, IsSome, refl, sym, ap, ◌∙◌, not, arith}
use Rattle.std.specs.Prelude.{unwrap_or}
use Rattle.mw_model.specs.declared.names.Name.{Name}
use Rattle.mw_model.specs.declared.offsets.Offset.{Offset}
use Rattle.mw_model.specs.declared.operations.Op.{Op}
use Rattle.mw_model.specs.declared.operations.Op.TheVariants as op
use Rattle.mw_model.specs.declared.operations.FlatOp.{FlatOp}
use Rattle.mw_model.specs.declared.operations.FlatOp.TheVariants as flat
use Rattle.mw_model.specs.declared.operations.GranOp.{GranOp}
use Rattle.mw_model.specs.declared.operations.GranOp.TheVariants as gran
use Rattle.mw_model.specs.declared.codes.Code.{Code}
use Rattle.mw_model.specs.declared.codes.Code.TheVariants as code
use Rattle.mw_model.specs.declared.calls.Outcome.{Outcome}
use Rattle.mw_model.specs.declared.calls.Outcome.TheVariants as outcome
use Rattle.mw_model.specs.declared.calls.Call.{Call}
use Rattle.mw_model.specs.declared.calls.Call.TheVariants as call
use Rattle.mw_model.specs.Elements.{holds_origin, overlaps}
use Rattle.mw_model.specs.Values.{Value, value_at, value_of, offsets_in}
use Rattle.mw_model.specs.Refusals.{Table, AnImage, AnElement, ticket, ticket_of, outcome_at, shape_at, is_pending, is_dead, is_released, is_element, first_of, when, name_taken, no_room, wanted_case, inputs_wanted, offsets_at, binary_case, param_case, op_cases, refusal, submission_at}
use Rattle.mw_model.specs.Machine.{Machine, values}
use Rattle.mw_model.specs.Stands.{Agrees, inputs_of}
use Rattle.mw_store.specs.mw_model_laws.MachineLaws.{IsSound}
use Rattle.mw_store.proofs.mw_model_laws.RunTables.{first_none, is_known, ticket_is, ticket_within, when_not, when_so}
use Rattle.mw_store.proofs.mw_model_laws.RunValues.{value_is}
use Rattle.mw_core_laws.proofs.GivenLemmas.{ElementsGiven}

pub some-same : {X : Type 0} → (a b : Option X) → IsSome a → ((v : X) → a ≡ Some v → b ≡ Some v) → b ≡ a
some-same None b h f = cc
some-same (Some v) b h f = f v refl

-- what is neither pending, dead nor released is done
pub must-be-done : (o : Outcome) → is_pending o ≡ false → is_dead o ≡ false → is_released o ≡ false → o ≡ outcome.Done
must-be-done outcome.Pending p d r = cc
must-be-done outcome.Done p d r = refl
must-be-done outcome.Cancelled p d r = cc
must-be-done outcome.Memory p d r = cc
must-be-done (outcome.Input s) p d r = cc
must-be-done outcome.Released p d r = cc

-- a value is that of its command on the values of its inputs
value-of_command : (m : Machine) (t : ℕ) → IsSound m → t < length m.table.names
    → value_at (values m) t ≡ value_of (values m) (inputs_of m.table t) (submission_at m.table.submissions t).command (value_at m.payloads t)
value-of_command m t s within = value_is m.table.submissions m.payloads t (s.lengths.payloads ∙ sym s.lengths.submissions) (omega (arith, s.lengths.submissions, within)) (s.inputs t within)

-- an element that may be an input is kept as it was given
pub kept-element : (kept : List (Option Value)) (m : Machine) (t : ℕ) → IsSound m → ElementsGiven m.table → Agrees kept m → t < length m.table.names
    → is_element (shape_at m.table.submissions t) ≡ true → is_dead (outcome_at m.table.outcomes t) ≡ false → is_released (outcome_at m.table.outcomes t) ≡ false
    → IsSome (value_at kept t) × (value_at kept t ≡ value_at (values m) t) × (value_at kept t ≡ value_at m.payloads t)
kept-element kept m t s given a within shape alive held =
    let entry = given t within shape in
    let done : outcome_at m.table.outcomes t ≡ outcome.Done = must-be-done (outcome_at m.table.outcomes t) entry.1 alive held in
    let there = a.done t within done in
    let same : value_at (values m) t ≡ value_at kept t = some-same (value_at kept t) (value_at (values m) t) there (λ v e. a.own t v e) in
    let own : value_at (values m) t ≡ value_at m.payloads t
    = value-of_command m t s within ∙ ap (λ k. value_of (values m) (inputs_of m.table t) k (value_at m.payloads t)) entry.0 in
    (there, sym same, sym same ∙ own)

-- an element that a command may have as an input
pub record IsElementInput (w : Table) (b : Name) (t : ℕ) : Type 0 where
  pub found : ticket_of w.names b ≡ Some t
  pub within : t < length w.names
  pub shape : is_element (shape_at w.submissions t) ≡ true
  pub alive : is_dead (outcome_at w.outcomes t) ≡ false
  pub held : is_released (outcome_at w.outcomes t) ≡ false

pub element-found : (w : Table) (b : Name) → wanted_case w (AnElement b) ≡ None → (t : ℕ) × IsElementInput w b t
element-found w b h =
    let known = is_known (ticket_of w.names b) _ h in
    let t = known.0 in
    let kinds = first_none (when _ code.Kind) _ known.2 in
    let dead = first_none (when (is_dead (outcome_at w.outcomes t)) code.Dead) _ kinds.1 in
    let held = first_none (when (is_released (outcome_at w.outcomes t)) code.Released) _ dead.1 in (
      t,
      record {
        found = known.1;
        within = ticket_within w b t known.1;
        shape = when_not (is_element (shape_at w.submissions t)) code.Kind kinds.0;
        alive = when_so (is_dead (outcome_at w.outcomes t)) code.Dead dead.0;
        held = when_so (is_released (outcome_at w.outcomes t)) code.Released held.0;
      },
    )

-- its offsets are the same in what is kept and in the payloads
offsets-same : (kept : List (Option Value)) (m : Machine) (b : Name) → IsSound m → ElementsGiven m.table → Agrees kept m → wanted_case m.table (AnElement b) ≡ None
    → offsets_at m.table kept b ≡ offsets_at m.table m.payloads b
offsets-same kept m b s given a h =
    let found = element-found m.table b h in
    let t = found.0 in
    let same = (kept-element kept m t s given a found.1.within found.1.shape found.1.alive found.1.held).2 in
    let at : ticket m.table b ≡ t = ticket_is m.table b t found.1.found in
    rw at (ap (λ v. unwrap_or (offsets_in v) []) same)

wanted-second : (w : Table) (f b : Name) → first_of (map (wanted_case w) (AnImage f ∷ AnElement b ∷ [])) ≡ None → wanted_case w (AnElement b) ≡ None
wanted-second w f b h = (first_none (wanted_case w (AnElement b)) [] (first_none (wanted_case w (AnImage f)) _ h).1).0

flat-same : (kept : List (Option Value)) (m : Machine) (o : FlatOp) → IsSound m → ElementsGiven m.table → Agrees kept m
    → first_of (map (wanted_case m.table) (inputs_wanted (op.Flat o))) ≡ None → op_cases m.table kept (op.Flat o) ≡ op_cases m.table m.payloads (op.Flat o)
flat-same kept m (flat.Erode f b) s given a h = refl
flat-same kept m (flat.Dilate f b) s given a h = refl
flat-same kept m (flat.Opening f b) s given a h = refl
flat-same kept m (flat.Closing f b) s given a h = refl
flat-same kept m (flat.Gradient f b) s given a h = refl
flat-same kept m (flat.WhiteTopHat f b) s given a h = refl
flat-same kept m (flat.BlackTopHat f b) s given a h = refl
flat-same kept m (flat.Rank f b k) s given a h =
    let e = offsets-same kept m b s given a (wanted-second m.table f b h) in
    ap (λ (bs : List Offset). when (not (holds_origin bs)) code.NoOrigin ∷ param_case 1 (length bs) k ∷ []) e
flat-same kept m (flat.Threshold f k) s given a h = refl
flat-same kept m (flat.HitMiss f hit miss) s given a h =
    let w = m.table in
    let x = first_none (wanted_case w (AnImage f)) _ h in
    let y = first_none (wanted_case w (AnElement hit)) _ x.1 in
    let z = first_none (wanted_case w (AnElement miss)) [] y.1 in
    let d = offsets-same kept m hit s given a y.0 in
    let e = offsets-same kept m miss s given a z.0 in
    ap (λ (bs : List Offset). when (overlaps bs (offsets_at w kept miss)) code.Overlap ∷ []) d
    ∙ ap (λ (bs : List Offset). when (overlaps (offsets_at w m.payloads hit) bs) code.Overlap ∷ []) e

gran-same : (kept : List (Option Value)) (m : Machine) (o : GranOp) → IsSound m → ElementsGiven m.table → Agrees kept m
    → first_of (map (wanted_case m.table) (inputs_wanted (op.Gran o))) ≡ None → op_cases m.table kept (op.Gran o) ≡ op_cases m.table m.payloads (op.Gran o)
gran-same kept m (gran.Skeleton f b levels) s given a h =
    let e = offsets-same kept m b s given a (wanted-second m.table f b h) in
    ap (λ (bs : List Offset). binary_case m.table f ∷ when (not (holds_origin bs)) code.NoOrigin ∷ param_case 1 254 levels ∷ []) e
gran-same kept m (gran.Restore f b levels) s given a h = refl
gran-same kept m (gran.Spectrum f b levels) s given a h = refl

cases-same : (kept : List (Option Value)) (m : Machine) (o : Op) → IsSound m → ElementsGiven m.table → Agrees kept m
    → first_of (map (wanted_case m.table) (inputs_wanted o)) ≡ None → first_of (op_cases m.table kept o) ≡ first_of (op_cases m.table m.payloads o)
cases-same kept m (op.Flat o) s given a h = ap first_of (flat-same kept m o s given a h)
cases-same kept m (op.Gran o) s given a h = ap first_of (gran-same kept m o s given a h)

-- a later case counts only where no earlier one holds
later-case : (a b c x y : Option Code) → (c ≡ None → x ≡ y) → first_of (a ∷ b ∷ c ∷ x ∷ []) ≡ first_of (a ∷ b ∷ c ∷ y ∷ [])
later-case (Some d) b c x y h = refl
later-case None (Some d) c x y h = refl
later-case None None (Some d) x y h = refl
later-case None None None x y h = rw (h refl) refl

pub refusal-kept : (kept : List (Option Value)) (m : Machine) (c : Call) → IsSound m → ElementsGiven m.table → Agrees kept m → refusal m.table kept c ≡ refusal m.table m.payloads c
refusal-kept kept m (call.Load n g) s given a = refl
refusal-kept kept m (call.Element n g) s given a = refl
refusal-kept kept m (call.Run n o) s given a =
    later-case (name_taken m.table n) (no_room m.table) (first_of (map (wanted_case m.table) (inputs_wanted o))) (first_of (op_cases m.table kept o)) (first_of (op_cases m.table m.payloads o))
    (cases-same kept m o s given a)
refusal-kept kept m (call.Cancel n) s given a = refl
refusal-kept kept m (call.Status n) s given a = refl
refusal-kept kept m (call.Fetch n) s given a = refl
refusal-kept kept m (call.Release n) s given a = refl
