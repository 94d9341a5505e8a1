-- The five things that a step may do to a state.
use Rattle.std.proofs.Common.{◌≡◌, ℕ, ◌<◌, true, false, List, [], ◌∷◌, ◌++◌, length, map, Option, Some, None, refl, sym, ap, ◌∙◌, subst, arith}
use Rattle.std.specs.Prelude.{option_map}
use Rattle.std.specs.List.{AllByRecursion}
use Rattle.std.proofs.lemmas.List.{append-nil}
use Rattle.mw_model.specs.declared.names.Name.{Name}
use Rattle.mw_model.specs.declared.operations.Op.{Op}
use Rattle.mw_model.specs.declared.submissions.Command.TheVariants as command
use Rattle.mw_model.specs.declared.submissions.Submission.{Submission}
use Rattle.mw_model.specs.declared.codes.Code.{Code}
use Rattle.mw_model.specs.declared.calls.Outcome.{Outcome}
use Rattle.mw_model.specs.declared.calls.Outcome.TheVariants as outcome
use Rattle.mw_model.specs.declared.calls.Given.{Given}
use Rattle.mw_model.specs.declared.calls.Given.TheVariants as given
use Rattle.mw_model.specs.declared.calls.Call.{Call}
use Rattle.mw_model.specs.declared.calls.Call.TheVariants as call
use Rattle.mw_model.specs.declared.calls.LogItem.{LogItem}
use Rattle.mw_model.specs.declared.calls.LogItem.TheVariants as item
use Rattle.mw_model.specs.Values.{Value, tickets, value_of}
use Rattle.mw_model.specs.Refusals.{Table, ticket, ticket_of, outcome_at, is_dead, is_there, is_element, inputs_wanted, wanted_case, op_cases, first_of, name_taken, no_room, fault_of, refusal, cancel_case, release_case}
use Rattle.mw_model.specs.Machine.{Machine, values, with_entry, with_table, killed, settled, given_submission, run_submission, changed, payload_of, unless_refused, IsWith, CanFinish, CanDie, Step}
use Rattle.mw_model_laws.specs.MachineLaws.{AreOfOneLength, ValuesHaveShapes, shape_of_value, ValuesWithinLimits, WithinLimits}
use Rattle.mw_model_laws.proofs.RunTables.{first_none, not_taken, has_room, is_known, ticket_within, ticket_is, inputs_all, wanted_within, wanted_alive, may_cancel, may_release}
use Rattle.mw_model_laws.proofs.RunLimits.{result_limits}
use Rattle.mw_model_laws.proofs.RunShapes.{result_shape, result_no_element}

-- one entry more, with its payload
abbrev pub pushed : Machine → Name → Submission → Outcome → Option Value → Machine
pushed m n e o p = record { table = with_entry m.table n e o; payloads = m.payloads ++ p ∷ [] }

-- what holds of an entry that is added
pub record IsNew (m : Machine) (n : Name) (e : Submission) (o : Outcome) (p : Option Value) : Type 0 where
  pub fresh : ticket_of m.table.names n ≡ None
  pub room : length m.table.names < 65536
  pub below : AllByRecursion (λ i. i < length m.table.names) (tickets e.inputs)
  pub alive : AllByRecursion (λ i. is_dead (outcome_at m.table.outcomes i) ≡ false) (tickets e.inputs)
  pub there : is_there o ≡ true → AllByRecursion (λ i. is_there (outcome_at m.table.outcomes i) ≡ true) (tickets e.inputs)
  pub unfailed : (s : ℕ) → o ≡ outcome.Input s → ⊥
  pub given : e.command ≡ command.Given → is_there o ≡ true
  pub element : is_element e.shape ≡ true → e.command ≡ command.Given
  pub bare : (x : Op) → e.command ≡ command.Run x → p ≡ None
  pub waits : (x : Op) → e.command ≡ command.Run x → is_there o ≡ true → ⊥
  pub shape : ValuesHaveShapes m → option_map shape_of_value (value_of (values m) (tickets e.inputs) e.command p) ≡ Some e.shape
  pub limits : ValuesHaveShapes m → ValuesWithinLimits m → WithinLimits (value_of (values m) (tickets e.inputs) e.command p)

load_new : (m : Machine) (n : Name) (g : Given) (p : Option Value) → IsWith (call.Load n g) p → refusal m.table m.payloads (call.Load n g) ≡ None → IsNew m n (given_submission g) outcome.Done p
load_new m n (given.Good s) p w r =
    let x = first_none (name_taken m.table n) _ r in
    let y = first_none _ _ x.1 in
    record {
      fresh = not_taken (ticket_of m.table.names n) x.0;
      room = has_room m.table y.0;
      below = tt;
      alive = tt;
      there = λ h. tt;
      unfailed = λ s e. cc;
      given = λ e. refl;
      element = λ e. refl;
      bare = λ x e. cc;
      waits = λ x e h. cc;
      shape = λ h. ap (option_map shape_of_value) w.1 ∙ ap Some (sym w.3);
      limits = λ h l. subst WithinLimits (sym w.1) w.2;
    }
load_new m n (given.Bad c) p w r = let x = first_none (name_taken m.table n) _ r in let y = first_none (no_room m.table) (fault_of (given.Bad c) ∷ []) x.1 in let z : Some c ≡ None = y.1 in absurd cc

element_new : (m : Machine) (n : Name) (g : Given) (p : Option Value) → IsWith (call.Element n g) p → refusal m.table m.payloads (call.Element n g) ≡ None → IsNew m n (given_submission g) outcome.Done p
element_new m n (given.Good s) p w r =
    let x = first_none (name_taken m.table n) _ r in
    let y = first_none _ _ x.1 in
    record {
      fresh = not_taken (ticket_of m.table.names n) x.0;
      room = has_room m.table y.0;
      below = tt;
      alive = tt;
      there = λ h. tt;
      unfailed = λ s e. cc;
      given = λ e. refl;
      element = λ e. refl;
      bare = λ x e. cc;
      waits = λ x e h. cc;
      shape = λ h. ap (option_map shape_of_value) w.1 ∙ ap Some (sym w.3);
      limits = λ h l. subst WithinLimits (sym w.1) w.2;
    }
element_new m n (given.Bad c) p w r = let x = first_none (name_taken m.table n) _ r in let y = first_none (no_room m.table) (fault_of (given.Bad c) ∷ []) x.1 in let z : Some c ≡ None = y.1 in absurd cc

run_new : (m : Machine) (n : Name) (o : Op) → refusal m.table m.payloads (call.Run n o) ≡ None → IsNew m n (run_submission m.table o) outcome.Pending None
run_new m n o r =
    let w = m.table in
    let x = first_none (name_taken w n) _ r in
    let y = first_none _ _ x.1 in
    let z = first_none (first_of (map (wanted_case w) (inputs_wanted o))) _ y.1 in
    record {
      fresh = not_taken (ticket_of w.names n) x.0;
      room = has_room w y.0;
      below = inputs_all w (λ i. i < length w.names) (inputs_wanted o) (wanted_within w) z.0;
      alive = inputs_all w (λ i. is_dead (outcome_at w.outcomes i) ≡ false) (inputs_wanted o) (wanted_alive w) z.0;
      there = λ h. absurd cc;
      unfailed = λ s e. cc;
      given = λ e. cc;
      element = λ e. let f = result_no_element w o z.0 in cc;
      bare = λ x e. refl;
      waits = λ x e h. cc;
      shape = λ h. result_shape m o h z.0;
      limits = λ h l. result_limits m o h l z.0 (first_none (first_of (op_cases w m.payloads o)) [] z.1).0;
    }

-- ---- the five kinds of change

-- what holds after each kind of change holds after each step
pub record HoldsAfter (P : Machine → Type 0) (m : Machine) (i : LogItem) : Type 0 where
  pub same : P m
  pub added : (n : Name) (e : Submission) (o : Outcome) (p : Option Value) → IsNew m n e o p → P (pushed m n e o p)
  pub dies : (t : ℕ) (cause : Outcome) → CanDie m.table t → is_dead cause ≡ true → ((s : ℕ) → cause ≡ outcome.Input s → ⊥) → P (with_table m (killed m.table t cause))
  pub done : (t : ℕ) → i ≡ item.Finished t → CanFinish m.table t → P (with_table m (settled m.table t outcome.Done))
  pub let_go : (t : ℕ) → t < length m.table.outcomes → outcome_at m.table.outcomes t ≡ outcome.Done → P (with_table m (settled m.table t outcome.Released))

unless_holds : (P : Machine → Type 0) (r : Option Code) (m : Machine) (w : Table) (ps : List (Option Value)) → P m → (r ≡ None → P (record { table = w; payloads = ps }))
    → P (record { table = unless_refused r m.table w; payloads = unless_refused r m.payloads ps })
unless_holds P None m w ps same new = new refl
unless_holds P (Some c) m w ps same new = same

-- where no payload is added
with_table-alone : (P : Machine → Type 0) (m : Machine) (w : Table) → P (with_table m w) → P (record { table = w; payloads = m.payloads ++ [] })
with_table-alone P m w h = let Q : List (Option Value) → Type 0 = λ ps. P (record { table = w; payloads = ps }) in subst Q (sym (append-nil m.payloads)) h

HoldsAfter-accepted : (P : Machine → Type 0) (m : Machine) (i : LogItem) (c : Call) (p : Option Value) → AreOfOneLength m → HoldsAfter P m i → IsWith c p → refusal m.table m.payloads c ≡ None
    → P (record { table = changed m.table c; payloads = m.payloads ++ payload_of c p })
HoldsAfter-accepted P m i (call.Load n g) p l h w r = h.added n (given_submission g) outcome.Done p (load_new m n g p w r)
HoldsAfter-accepted P m i (call.Element n g) p l h w r = h.added n (given_submission g) outcome.Done p (element_new m n g p w r)
HoldsAfter-accepted P m i (call.Run n o) p l h w r = h.added n (run_submission m.table o) outcome.Pending None (run_new m n o r)
HoldsAfter-accepted P m i (call.Cancel n) p l h w r =
    let known = is_known (ticket_of m.table.names n) (λ t. cancel_case (outcome_at m.table.outcomes t)) r in
    let t = known.0 in
    let can : CanDie m.table t = record { within = omega (arith, ticket_within m.table n t known.1, l.outcomes); pending = may_cancel (outcome_at m.table.outcomes t) known.2 } in
    let Q : ℕ → Type 0 = λ u. P (with_table m (killed m.table u outcome.Cancelled)) in
    with_table-alone P m (killed m.table (ticket m.table n) outcome.Cancelled) (subst Q (sym (ticket_is m.table n t known.1)) (h.dies t outcome.Cancelled can refl (λ s e. cc)))
HoldsAfter-accepted P m i (call.Status n) p l h w r = with_table-alone P m m.table h.same
HoldsAfter-accepted P m i (call.Fetch n) p l h w r = with_table-alone P m m.table h.same
HoldsAfter-accepted P m i (call.Release n) p l h w r =
    let known = is_known (ticket_of m.table.names n) (λ t. release_case (outcome_at m.table.outcomes t)) r in
    let t = known.0 in
    let Q : ℕ → Type 0 = λ u. P (with_table m (settled m.table u outcome.Released)) in
    with_table-alone P m (settled m.table (ticket m.table n) outcome.Released)
    (subst Q (sym (ticket_is m.table n t known.1)) (h.let_go t (omega (arith, ticket_within m.table n t known.1, l.outcomes)) (may_release (outcome_at m.table.outcomes t) known.2)))

pub holds_after : (P : Machine → Type 0) (m : Machine) (i : LogItem) (n : Machine) → AreOfOneLength m → Step m i n → HoldsAfter P m i → P n
holds_after P m (item.Call c r) n l s h =
    subst P (sym s.3) (unless_holds P (refusal m.table m.payloads c) m (changed m.table c) (m.payloads ++ payload_of c s.0) h.same (HoldsAfter-accepted P m (item.Call c r) c s.0 l h s.1))
holds_after P m (item.Finished t) n l s h = subst P (sym s.1) (h.done t refl s.0)
holds_after P m (item.Killed t) n l s h = subst P (sym s.1) (h.dies t outcome.Memory s.0 refl (λ s e. cc))
