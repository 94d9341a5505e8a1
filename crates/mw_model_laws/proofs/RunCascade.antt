-- What a kill makes of each entry.
use Rattle.std.proofs.Common.{◌≡◌, ◌≢◌, ℕ, zero, suc, ◌+◌, ◌<◌, true, false, cond, inl, inr, List, [], ◌∷◌, ◌++◌, length, set, Option, Some, None, refl, sym, ap, ◌∙◌, subst, arith, find, length-append, add-zero, zero-add}
use Rattle.std.specs.List.{AllByRecursion}
use Rattle.std.specs.Option.{option_map_or}
use Rattle.std.proofs.lemmas.List.{get_or_append_left, get_or-set_same, get_or-set_other, length-set, get_or_past, ext_get_or}
use Rattle.std.proofs.Math.Seq.{get_or-append_seam}
use Rattle.std.proofs.lemmas.Bool.{cases_lt, cases_eq, cases_Bool, both_ways}
use Rattle.mw_model.proofs.mw_facts.Alls.{all-weaker}
use Rattle.mw_model.proofs.mw_facts.Finds.{find-same, option_cases}
use Rattle.mw_model.proofs.mw_facts.Numbers.{strong_induction}
use Rattle.mw_model.specs.declared.submissions.Inputs.{Inputs}
use Rattle.mw_model.specs.declared.submissions.Submission.{Submission}
use Rattle.mw_model.specs.declared.calls.Outcome.{Outcome}
use Rattle.mw_model.specs.declared.calls.Outcome.TheVariants as outcome
use Rattle.mw_model.specs.Values.{tickets}
use Rattle.mw_model.specs.Refusals.{Table, outcome_at, submission_at, is_dead, is_pending}
use Rattle.mw_model.specs.Machine.{cascaded, beside, killed}
use Rattle.mw_model_laws.specs.MachineLaws.{inputs_at, first_dead, IsKilled}

-- what fits beside an entry is told by the outcomes of its inputs
beside_same : (b v : List Outcome) (inputs : Inputs) (o : Outcome) → ((i : ℕ) → i < length b → outcome_at v i ≡ outcome_at b i) → AllByRecursion (λ i. i < length b) (tickets inputs)
    → beside b inputs o ≡ beside v inputs o
beside_same b v inputs o same below =
    let e = find-same (λ i. is_dead (outcome_at b i)) (λ i. is_dead (outcome_at v i)) (tickets inputs)
    (all-weaker (λ i. i < length b) (λ i. is_dead (outcome_at b i) ≡ is_dead (outcome_at v i)) (tickets inputs) (λ i h. ap is_dead (sym (same i h))) below) in
    ap (λ f. cond (is_pending o) (option_map_or outcome.Input f outcome.Pending) o) e

pub cascaded_front : (b : List Outcome) (es : List Submission) (os : List Outcome) (k : ℕ) → k < length b → outcome_at (cascaded b es os) k ≡ outcome_at b k
cascaded_front b [] os k h = refl
cascaded_front b (e ∷ es) [] k h = refl
cascaded_front b (e ∷ es) (o ∷ os) k h =
    let x = beside b e.inputs o in
    let within : k < length (b ++ x ∷ []) = omega (arith, length-append b (x ∷ [])) in
    cascaded_front (b ++ x ∷ []) es os k within ∙ get_or_append_left b (x ∷ []) outcome.Pending k h

length_cascaded : (b : List Outcome) (es : List Submission) (os : List Outcome) → length es ≡ length os → length (cascaded b es os) ≡ length b + length os
length_cascaded b [] [] h = sym (add-zero (length b))
length_cascaded b [] (o ∷ os) h = absurd (omega arith)
length_cascaded b (e ∷ es) [] h = absurd (omega arith)
length_cascaded b (e ∷ es) (o ∷ os) h =
    let x = beside b e.inputs o in
    omega (arith, length_cascaded (b ++ x ∷ []) es os (omega arith), length-append b (x ∷ []))

-- each outcome is what fits beside its entry among the outcomes of all
cascaded_at : (b : List Outcome) (es : List Submission) (os : List Outcome) (k : ℕ) → length es ≡ length os → k < length os
    → AllByRecursion (λ i. i < length b + k) (tickets (submission_at es k).inputs)
    → outcome_at (cascaded b es os) (length b + k) ≡ beside (cascaded b es os) (submission_at es k).inputs (outcome_at os k)
cascaded_at b [] os k e h below = absurd (omega arith)
cascaded_at b (x ∷ es) [] k e h below = absurd (omega arith)
cascaded_at b (x ∷ es) (o ∷ os) zero e h below =
    let v = beside b x.inputs o in
    let V = cascaded (b ++ v ∷ []) es os in
    let in_front : length b < length (b ++ v ∷ []) = omega (arith, length-append b (v ∷ [])) in
    let here : outcome_at V (length b + 0) ≡ v = rw add-zero (cascaded_front (b ++ v ∷ []) es os (length b) in_front ∙ get_or-append_seam b v [] outcome.Pending) in
    let P : ℕ → Type 0 = λ n. AllByRecursion (λ i. i < n) (tickets x.inputs) in
    here ∙ beside_same b V x.inputs o
    (λ t l. let l' : t < length (b ++ v ∷ []) = omega (arith, length-append b (v ∷ [])) in cascaded_front (b ++ v ∷ []) es os t l' ∙ get_or_append_left b (v ∷ []) outcome.Pending t l)
    (subst P (add-zero (length b)) below)
cascaded_at b (x ∷ es) (o ∷ os) (suc k) e h below =
    let v = beside b x.inputs o in
    let there : length b + suc k ≡ length (b ++ v ∷ []) + k = omega (arith, length-append b (v ∷ [])) in
    let Q : ℕ → Type 0 = λ n. AllByRecursion (λ i. i < n) (tickets (submission_at es k).inputs) in
    let P : ℕ → Type 0 = λ n. outcome_at (cascaded (b ++ v ∷ []) es os) n ≡ beside (cascaded (b ++ v ∷ []) es os) (submission_at es k).inputs (outcome_at os k) in
    subst P (sym there) (cascaded_at (b ++ v ∷ []) es os k (omega arith) (omega arith) (subst Q there below))

-- what a kill makes of an entry
kill_at : (w : Table) (t : ℕ) (cause : Outcome) (u : ℕ) → length w.submissions ≡ length w.outcomes → u < length w.outcomes → AllByRecursion (λ i. i < u) (inputs_at w.submissions u)
    → outcome_at (killed w t cause).outcomes u ≡ beside (killed w t cause).outcomes (submission_at w.submissions u).inputs (outcome_at (set w.outcomes t cause) u)
unfolding killed
kill_at w t cause u same within below =
    let ns = set w.outcomes t cause in
    let S = cascaded [] w.submissions ns in
    let len : length w.submissions ≡ length ns = omega (arith, length-set w.outcomes t cause) in
    let Q : ℕ → Type 0 = λ n. AllByRecursion (λ i. i < n) (inputs_at w.submissions u) in
    let P : ℕ → Type 0 = λ n. outcome_at S n ≡ beside S (submission_at w.submissions u).inputs (outcome_at ns u) in
    subst P (zero-add u) (cascaded_at [] w.submissions ns u len (omega (arith, length-set w.outcomes t cause)) (subst Q (sym (zero-add u)) below))

-- an outcome that is not pending stays what it is
beside_settled : (b : List Outcome) (inputs : Inputs) (o : Outcome) → is_pending o ≡ false → beside b inputs o ≡ o
beside_settled b inputs o h = rw h refl

pub pending_is : (o : Outcome) → is_pending o ≡ true → o ≡ outcome.Pending
pending_is outcome.Pending h = refl
pending_is outcome.Done h = cc
pending_is outcome.Cancelled h = cc
pending_is outcome.Memory h = cc
pending_is (outcome.Input s) h = cc
pending_is outcome.Released h = cc

pub not_pending : (o : Outcome) → o ≢ outcome.Pending → is_pending o ≡ false
not_pending outcome.Pending h = absurd (h refl)
not_pending outcome.Done h = refl
not_pending outcome.Cancelled h = refl
not_pending outcome.Memory h = refl
not_pending (outcome.Input s) h = refl
not_pending outcome.Released h = refl

pub dead_not_pending : (o : Outcome) → is_dead o ≡ true → is_pending o ≡ false
dead_not_pending outcome.Pending h = cc
dead_not_pending outcome.Done h = refl
dead_not_pending outcome.Cancelled h = refl
dead_not_pending outcome.Memory h = refl
dead_not_pending (outcome.Input s) h = refl
dead_not_pending outcome.Released h = refl

fails_by : (f : Option ℕ) (s : ℕ) → option_map_or outcome.Input f outcome.Pending ≡ outcome.Input s → f ≡ Some s
fails_by None s h = cc
fails_by (Some x) s h = cc

waits_for : (f : Option ℕ) → option_map_or outcome.Input f outcome.Pending ≡ outcome.Pending → f ≡ None
waits_for None h = refl
waits_for (Some x) h = cc

pub length_killed : (w : Table) (t : ℕ) (cause : Outcome) → length w.submissions ≡ length w.outcomes → length (killed w t cause).outcomes ≡ length w.outcomes
unfolding killed
length_killed w t cause same =
    omega (arith, length_cascaded [] w.submissions (set w.outcomes t cause) (omega (arith, length-set w.outcomes t cause)), length-set w.outcomes t cause)

-- a kill in the words of the entries
pub is_killed : (w : Table) (t : ℕ) (cause : Outcome) → length w.submissions ≡ length w.outcomes
    → ((u : ℕ) → u < length w.outcomes → AllByRecursion (λ i. i < u) (inputs_at w.submissions u))
    → t < length w.outcomes → is_pending cause ≡ false → IsKilled w (killed w t cause) t cause
unfolding killed
is_killed w t cause same below within dead =
    let ns = set w.outcomes t cause in
    let after = killed w t cause in
    let hit : outcome_at ns t ≡ cause = get_or-set_same w.outcomes t cause outcome.Pending within in
    let other : (u : ℕ) → u ≢ t → outcome_at ns u ≡ outcome_at w.outcomes u = λ u n. get_or-set_other w.outcomes t u cause outcome.Pending n in
    let found : (u : ℕ) → u < length w.outcomes → u ≢ t → outcome_at w.outcomes u ≡ outcome.Pending → outcome_at after.outcomes u ≡ option_map_or outcome.Input (first_dead after u) outcome.Pending
    = λ u h n e. kill_at w t cause u same h (below u h) ∙ ap (λ o. beside after.outcomes (submission_at w.submissions u).inputs o) (other u n ∙ e) in
    record {
      names = refl;
      submissions = refl;
      size = length_killed w t cause same;
      dies = kill_at w t cause t same within (below t within) ∙ beside_settled after.outcomes (submission_at w.submissions t).inputs (outcome_at ns t) (ap is_pending hit ∙ dead) ∙ hit;
      settled = λ u n e. elim (cases_lt u (length w.outcomes)) [
        | inl h ↦ kill_at w t cause u same h (below u h) ∙ beside_settled after.outcomes (submission_at w.submissions u).inputs (outcome_at ns u) (ap is_pending (other u n) ∙ not_pending (outcome_at w.outcomes u) e) ∙ other u n
        | inr g ↦ absurd (e (get_or_past w.outcomes u outcome.Pending g))
      ];
      fails = λ u s h n e. (λ f. fails_by (first_dead after u) s (sym (found u h n e) ∙ f), λ f. found u h n e ∙ ap (λ d. option_map_or outcome.Input d outcome.Pending) f);
      waits = λ u h n e. (λ f. waits_for (first_dead after u) (sym (found u h n e) ∙ f), λ f. found u h n e ∙ ap (λ d. option_map_or outcome.Input d outcome.Pending) f);
    }

-- ---- no other table fits

-- what becomes of a pending entry, by its first dead input
pub failed_or_waits : (w v : Table) (t : ℕ) (cause : Outcome) (u : ℕ) → IsKilled w v t cause → u < length w.outcomes → u ≢ t → outcome_at w.outcomes u ≡ outcome.Pending
    → outcome_at v.outcomes u ≡ option_map_or outcome.Input (first_dead v u) outcome.Pending
failed_or_waits w v t cause u k h n e = elim (option_cases (first_dead v u)) [
  | inl f ↦ (k.waits u h n e).1 f ∙ sym (ap (λ d. option_map_or outcome.Input d outcome.Pending) f)
  | inr f ↦ (k.fails u f.0 h n e).1 f.1 ∙ sym (ap (λ d. option_map_or outcome.Input d outcome.Pending) f.1)
]

-- two tables that a kill may leave are one
pub killed_alone : (w a b : Table) (t : ℕ) (cause : Outcome) → ((u : ℕ) → u < length w.outcomes → AllByRecursion (λ i. i < u) (inputs_at w.submissions u))
    → IsKilled w a t cause → IsKilled w b t cause → a ≡ b
killed_alone w a b t cause below j k =
    let P : ℕ → Type 0 = λ u. u < length w.outcomes → outcome_at a.outcomes u ≡ outcome_at b.outcomes u in
    let first : (u : ℕ) → u < length w.outcomes → ((v : ℕ) → v < u → P v) → first_dead a u ≡ first_dead b u
    = λ u h smaller.
    ap (λ es. find (λ i. is_dead (outcome_at a.outcomes i)) (inputs_at es u)) j.submissions
    ∙ find-same (λ i. is_dead (outcome_at a.outcomes i)) (λ i. is_dead (outcome_at b.outcomes i)) (inputs_at w.submissions u)
    (all-weaker (λ i. i < u) (λ i. is_dead (outcome_at a.outcomes i) ≡ is_dead (outcome_at b.outcomes i)) (inputs_at w.submissions u) (λ i l. ap is_dead (smaller i l (omega arith))) (below u h))
    ∙ sym (ap (λ es. find (λ i. is_dead (outcome_at b.outcomes i)) (inputs_at es u)) k.submissions) in
    let all : (u : ℕ) → P u = strong_induction P (λ u smaller h. elim (cases_eq u t) [
      | inl e ↦ ap (outcome_at a.outcomes) e ∙ j.dies ∙ sym k.dies ∙ sym (ap (outcome_at b.outcomes) e)
      | inr n ↦ elim (cases_Bool (is_pending (outcome_at w.outcomes u))) [
        | inl e ↦
            let p = pending_is (outcome_at w.outcomes u) e in
            failed_or_waits w a t cause u j h n p ∙ ap (λ d. option_map_or outcome.Input d outcome.Pending) (first u h smaller) ∙ sym (failed_or_waits w b t cause u k h n p)
        | inr e ↦
            let p : outcome_at w.outcomes u ≢ outcome.Pending = λ g. both_ways (is_pending (outcome_at w.outcomes u)) e (ap is_pending g) in
            j.settled u n p ∙ sym (k.settled u n p)
      ]
    ]) in
    let outcomes : a.outcomes ≡ b.outcomes = ext_get_or outcome.Pending a.outcomes b.outcomes (j.size ∙ sym k.size) (λ u h. all u (omega (arith, j.size))) in
    same_table a b (j.names ∙ sym k.names) (j.submissions ∙ sym k.submissions) outcomes
  where
    same_table : (a b : Table) → a.names ≡ b.names → a.submissions ≡ b.submissions → a.outcomes ≡ b.outcomes → a ≡ b
    same_table a b p q r =
        ap (λ x. record a { names = x }) p ∙ ap (λ x. record a { names = b.names; submissions = x }) q ∙ ap (λ x. record b { outcomes = x }) r
