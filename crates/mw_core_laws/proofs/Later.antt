-- In all later states of the machine the work under a ticket rests on the same.
use Rattle.std.proofs.Common.{◌≡◌, ℕ, ◌<◌, true, inl, inr, List, [], length, map, get_or, None, sym, ap, ◌∙◌, arith}
use Rattle.std.specs.List.{list_all}
use Rattle.std.proofs.lemmas.Bool.{cases_lt}
use Rattle.std.proofs.lemmas.List.{get_or_append_left, get_or_past}
use Rattle.mw_model.proofs.mw_facts.Alls.{all-weaker, map-same}
use Rattle.mw_model.proofs.mw_facts.Tests.{list_all-weaker}
use Rattle.mw_model.specs.declared.submissions.Submission.{Submission}
use Rattle.mw_model.specs.declared.calls.Outcome.{Outcome}
use Rattle.mw_model.specs.declared.calls.Outcome.TheVariants as outcome
use Rattle.mw_model.specs.Values.{tickets, value_at}
use Rattle.mw_model.specs.Refusals.{no_submission, outcome_at, submission_at, is_there}
use Rattle.mw_model.specs.Machine.{Machine, values}
use Rattle.mw_model.specs.Stands.{inputs_of}
use Rattle.mw_core_progress.specs.mw_model_laws.MachineLaws.{GoesOn, GrowsTo, IsSound, MayBecome}
use Rattle.mw_core_progress.proofs.mw_model_laws.RunValues.{length_values}
use Rattle.mw_core_progress.specs.ProgressView.{ProgressView}
use Rattle.mw_core_laws.specs.Works.{GoesOnUnder, IsUnder}
use Rattle.mw_core_laws.proofs.Going.{under-same}

get_or-goes_on : {X : Type 0} → (first second : List X) (d : X) (i : ℕ) → GoesOn first second → i < length first → get_or second i d ≡ get_or first i d
get_or-goes_on first second d i on within = ap (λ (xs : List _). get_or xs i d) on.1 ∙ get_or_append_left first on.0 d i within

pub length-values : (m : Machine) → IsSound m → length (values m) ≡ length m.table.names
length-values m s = omega (arith, length_values [] m.table.submissions m.payloads (s.lengths.payloads ∙ sym s.lengths.submissions), s.lengths.submissions)

-- what is there stays so
there-stays : (old new : Outcome) → MayBecome old new → is_there old ≡ true → is_there new ≡ true
there-stays old new (inl same) h = ap is_there same ∙ h
there-stays old new (inr (inl pending)) h = let f = ap is_there pending in absurd cc
there-stays old new (inr (inr released)) h = ap is_there released.1

-- what is there has a place
pub there-within : (os : List Outcome) (i : ℕ) → is_there (outcome_at os i) ≡ true → i < length os
there-within os i h =
    elim (cases_lt i (length os)) [ inl l ↦ l | inr past ↦ let e : outcome_at os i ≡ outcome.Pending = get_or_past os i outcome.Pending past in let f = ap is_there e in absurd cc ]

pub goes-on : (m n : Machine) (t : ℕ) → IsSound m → GrowsTo m n → t < length m.table.names → GoesOnUnder m n t
goes-on m n t s g within =
    let submission : submission_at n.table.submissions t ≡ submission_at m.table.submissions t
    = get_or-goes_on m.table.submissions n.table.submissions no_submission t g.submissions (omega (arith, within, s.lengths.submissions)) in
    let value : (i : ℕ) → i < length m.table.names → value_at (values n) i ≡ value_at (values m) i
    = λ i l. get_or-goes_on (values m) (values n) None i g.values (omega (arith, l, length-values m s)) in
    let inputs : inputs_of n.table t ≡ inputs_of m.table t = ap (λ (e : Submission). tickets e.inputs) submission in
    let same = map-same (value_at (values n)) (value_at (values m)) (inputs_of m.table t)
    (all-weaker (λ i. i < t) (λ i. value_at (values n) i ≡ value_at (values m) i) (inputs_of m.table t) (λ i l. value i (omega (arith, l, within))) (s.inputs t within)) in
    record {
      submission = submission;
      value = value t within;
      inputs = ap (map (value_at (values n))) inputs ∙ same;
      there = λ h.
          ap (list_all (λ i. is_there (outcome_at n.table.outcomes i))) inputs
          ∙ list_all-weaker (λ i. is_there (outcome_at m.table.outcomes i)) (λ i. is_there (outcome_at n.table.outcomes i)) (inputs_of m.table t)
          (λ i l. there-stays (outcome_at m.table.outcomes i) (outcome_at n.table.outcomes i) (g.outcomes i (omega (arith, there-within m.table.outcomes i l, s.lengths.outcomes))) l) h;
    }

-- so it is work in all later states
pub under-later : (m n : Machine) (t : ℕ) (u : ProgressView) → IsSound m → GrowsTo m n → t < length m.table.names → IsUnder m t u → IsUnder n t u
under-later m n t u s g within w = under-same m n t u (goes-on m n t s g within) w
