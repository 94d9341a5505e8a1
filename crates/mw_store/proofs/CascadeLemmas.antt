-- The cascade: each entry beside its inputs, in ticket order, is the outcomes after a kill.
use Rattle.std.proofs.Common.{zero, suc, lit≤, count_by, ◌⊎◌, inl, inr, subst, add-zero, length-append, ◌≡◌, ℕ, ◌+◌, ◌<◌, ◌≤◌, true, cond, List, [], ◌∷◌, ◌++◌, length, take, drop, Option, Some, None, refl, sym, ap, ◌∙◌, arith, find}
use Rattle.std.specs.List.{AllByRecursion}
use Rattle.std.specs.Option.{option_map_or}
use Rattle.std.proofs.lemmas.List.Sums.{sum_by-cons, sum_by-append}
use Rattle.std.proofs.Math.Seq.{get_or-append_seam}
use Rattle.std.proofs.lemmas.List.{drop_more, get_or-take}
use Rattle.mw_model.proofs.mw_facts.Finds.{find-same}
use Rattle.mw_model.proofs.mw_facts.Alls.{all-weaker}
use Rattle.mw_model.specs.declared.submissions.Submission.{Submission}
use Rattle.mw_model.specs.declared.submissions.Inputs.{Inputs}
use Rattle.mw_model.specs.declared.calls.Outcome.{Outcome}
use Rattle.mw_model.specs.declared.calls.Outcome.TheVariants as outcome
use Rattle.mw_model.specs.Values.{tickets}
use Rattle.mw_model.specs.Refusals.{is_dead, is_pending, outcome_at, submission_at, no_submission}
use Rattle.mw_model.specs.Machine.{cascaded, beside}
use Rattle.mw_gran.proofs.mw_model_laws.RunCascade.{cascaded_front}

-- what stands beside an entry of ticket t is told by the outcomes below t
pub beside-take : (os : List Outcome) (t : ℕ) (inputs : Inputs) (o : Outcome) → AllByRecursion (λ i. i < t) (tickets inputs) → beside (take t os) inputs o ≡ beside os inputs o
beside-take os t inputs o below =
    let e = find-same (λ i. is_dead (outcome_at (take t os) i)) (λ i. is_dead (outcome_at os i)) (tickets inputs)
    (all-weaker (λ i. i < t) (λ i. is_dead (outcome_at (take t os) i) ≡ is_dead (outcome_at os i)) (tickets inputs)
    (λ i h. ap is_dead (get_or-take t os i outcome.Pending h)) below) in
    ap (λ f. cond (is_pending o) (option_map_or outcome.Input f outcome.Pending) o) e

-- one more entry: the outcomes go on from what stands beside it
pub cascaded-more : (es : List Submission) (os new : List Outcome) (t : ℕ) → t < length es → t < length os
    → AllByRecursion (λ i. i < t) (tickets (submission_at es t).inputs)
    → take (t + 1) new ≡ take t os ++ beside os (submission_at es t).inputs (outcome_at os t) ∷ []
    → drop (t + 1) new ≡ drop (t + 1) os
    → cascaded (take (t + 1) new) (drop (t + 1) es) (drop (t + 1) new) ≡ cascaded (take t os) (drop t es) (drop t os)
cascaded-more es os new t within within' below e f =
    let step : cascaded (take t os ++ beside (take t os) (submission_at es t).inputs (outcome_at os t) ∷ []) (drop (t + 1) es) (drop (t + 1) os) ≡ cascaded (take t os) (drop t es) (drop t os)
    = rw (drop_more es t no_submission within, drop_more os t outcome.Pending within') refl in
    rw (e, f) (ap (λ b. cascaded (take t os ++ b ∷ []) (drop (t + 1) es) (drop (t + 1) os)) (sym (beside-take os t (submission_at es t).inputs (outcome_at os t) below)) ∙ step)

by-find : (f : Option ℕ) (o : Outcome) → cond (is_pending (cond (is_pending o) (option_map_or outcome.Input f outcome.Pending) o)) 1 0 ≤ cond (is_pending o) 1 0
by-find None outcome.Pending = lit≤ tt
by-find (Some s) outcome.Pending = lit≤ tt
by-find f outcome.Done = lit≤ tt
by-find f outcome.Cancelled = lit≤ tt
by-find f outcome.Memory = lit≤ tt
by-find f (outcome.Input s) = lit≤ tt
by-find f outcome.Released = lit≤ tt

-- one outcome more
pub count-push : (xs : List Outcome) (x : Outcome) → count_by is_pending (xs ++ x ∷ []) ≡ count_by is_pending xs + cond (is_pending x) 1 0
count-push xs x = grind (arith, sum_by-append, sum_by-cons)

-- nothing becomes pending
pub count-cascaded : (before : List Outcome) (es : List Submission) (os : List Outcome) → count_by is_pending (cascaded before es os) ≤ count_by is_pending before + count_by is_pending os
count-cascaded before [] os = omega arith
count-cascaded before (e ∷ es) [] = omega arith
count-cascaded before (e ∷ es) (o ∷ os) =
    omega (
      arith,
      count-cascaded (before ++ beside before e.inputs o ∷ []) es os,
      count-push before (beside before e.inputs o),
      by-find (find (λ t. is_dead (outcome_at before t)) (tickets e.inputs)) o,
      sum_by-cons (λ x. cond (is_pending x) 1 0) o os,
    )

-- what a kill does to another entry: nothing, or a pending one dies
abbrev pub Fate : Outcome → Outcome → Type 0
Fate old new = (new ≡ old) ⊎ ((old ≡ outcome.Pending) × (is_dead new ≡ true))

-- what is pending after such a change was pending before
pub fate-pending : (old new : Outcome) → Fate old new → is_pending new ≡ true → is_pending old ≡ true
fate-pending old new (inl same) pends = ap is_pending (sym same) ∙ pends
fate-pending old new (inr died) pends = ap is_pending died.0

beside-fate : (f : Option ℕ) (o : Outcome) → Fate o (cond (is_pending o) (option_map_or outcome.Input f outcome.Pending) o)
beside-fate None outcome.Pending = inl refl
beside-fate (Some s) outcome.Pending = inr (refl, refl)
beside-fate f outcome.Done = inl refl
beside-fate f outcome.Cancelled = inl refl
beside-fate f outcome.Memory = inl refl
beside-fate f (outcome.Input s) = inl refl
beside-fate f outcome.Released = inl refl

pub cascaded-fate : (before : List Outcome) (es : List Submission) (os : List Outcome) (k : ℕ) → length es ≡ length os → k < length os → Fate (outcome_at os k) (outcome_at (cascaded before es os) (length before + k))
cascaded-fate before [] os k e h = absurd (omega arith)
cascaded-fate before (x ∷ es) [] k e h = absurd (omega arith)
cascaded-fate before (x ∷ es) (o ∷ os) zero e h =
    let b = beside before x.inputs o in
    let within : length before < length (before ++ b ∷ []) = omega (arith, length-append before (b ∷ [])) in
    let here : outcome_at (cascaded (before ++ b ∷ []) es os) (length before + 0) ≡ b =
    rw add-zero (cascaded_front (before ++ b ∷ []) es os (length before) within ∙ get_or-append_seam before b [] outcome.Pending) in
    let P : Outcome → Type 0 = λ n. Fate o n in
    subst P (sym here) (beside-fate (find (λ t. is_dead (outcome_at before t)) (tickets x.inputs)) o)
cascaded-fate before (x ∷ es) (o ∷ os) (suc k) e h =
    let b = beside before x.inputs o in
    let there : length before + suc k ≡ length (before ++ b ∷ []) + k = omega (arith, length-append before (b ∷ [])) in
    let P : ℕ → Type 0 = λ n. Fate (outcome_at os k) (outcome_at (cascaded (before ++ b ∷ []) es os) n) in
    subst P (sym there) (cascaded-fate (before ++ b ∷ []) es os k (omega arith) (omega arith))
