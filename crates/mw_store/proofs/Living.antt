-- No input of a pending entry is dead, as entries come and end; and who has nobody waiting dies alone.
use Rattle.std.proofs.Common.{◌≡◌, ◌≢◌, ℕ, zero, suc, ◌+◌, ◌<◌, ◌⊎◌, inl, inr, Bool, true, false, nat_eq, List, [], ◌∷◌, ◌++◌, length, set, count_by, Some, None, find, refl, sym, ap, subst, ◌∙◌, arith}
use Rattle.std.specs.Prelude.{◌||◌, ◌&&◌}
use Rattle.std.specs.List.{AllByRecursion, range_with_len, list_any}
use Rattle.std.proofs.lemmas.Bool.{cases_lt, cases_Bool}
use Rattle.std.proofs.lemmas.Bool.Decides.{eqb_tells}
use Rattle.std.proofs.lemmas.List.{get_or-set_same, get_or-set_other, get_or_append_left, length-set}
use Rattle.std.proofs.Math.Seq.{get_or-append_seam}
use Rattle.mw_model.proofs.mw_facts.Alls.{all-weaker}
use Rattle.mw_model.proofs.mw_facts.Finds.{find-none, find-same}
use Rattle.mw_model.specs.declared.submissions.Submission.{Submission}
use Rattle.mw_model.specs.declared.calls.Outcome.{Outcome}
use Rattle.mw_model.specs.declared.calls.Outcome.TheVariants as outcome
use Rattle.mw_model.specs.Values.{tickets}
use Rattle.mw_model.specs.Refusals.{Table, is_dead, is_pending, is_released, outcome_at, submission_at, no_submission}
use Rattle.mw_model.specs.Machine.{killed, settled, cascaded}
use Rattle.mw_gran.specs.mw_model_laws.MachineLaws.{IsKilled, first_dead}
use Rattle.mw_gran.proofs.mw_model_laws.RunCascade.{is_killed, killed_alone, pending_is}
use Rattle.mw_store.specs.Stored.{InputsBelow}
use Rattle.mw_store.specs.Wanted.{one_if, is_among, waits_for, wanted_by}
use Rattle.mw_store.proofs.Counting.{count-suc}

-- none of these is dead
abbrev pub NoneDead : List Outcome → List ℕ → Type 0
NoneDead os xs = AllByRecursion (λ i. is_dead (outcome_at os i) ≡ false) xs

-- no input of a pending entry is, of the first n
abbrev pub NoneAwaits : List Submission → List Outcome → ℕ → Type 0
NoneAwaits es os n = (u : ℕ) → u < n → outcome_at os u ≡ outcome.Pending → NoneDead os (tickets (submission_at es u).inputs)

or_none : (a b : Bool) → (a || b) ≡ false → (a ≡ false) × (b ≡ false)
or_none true b e = absurd cc
or_none false b e = (refl, e)

-- ---- an entry ends

-- another outcome is written, of one that lives or that is not among these
none-dead-set : (os : List Outcome) (t : ℕ) (o : Outcome) (xs : List ℕ) → t < length os → (is_dead o ≡ false) ⊎ (list_any (nat_eq t) xs ≡ false) → NoneDead os xs → NoneDead (set os t o) xs
none-dead-set os t o [] lt why all = tt
none-dead-set os t o (x ∷ xs) lt why all = (
  elim (eqb_tells t x) [
    | inl here ↦ elim why [
      | inl lives ↦ ap is_dead (ap (outcome_at (set os t o)) (sym here.1) ∙ get_or-set_same os t o outcome.Pending lt) ∙ lives
      | inr out ↦ absurd (let differs = (or_none (nat_eq t x) (list_any (nat_eq t) xs) out).0 in let same = here.0 in cc)
    ]
    | inr there ↦ ap is_dead (get_or-set_other os t x o outcome.Pending (λ e. there.1 (sym e))) ∙ all.0
  ],
  none-dead-set os t o xs lt (elim why [
    | inl lives ↦ inl lives
    | inr out ↦ inr (or_none (nat_eq t x) (list_any (nat_eq t) xs) out).1
  ]) all.1,
)

one-none : (b : Bool) → one_if b ≡ 0 → b ≡ false
one-none false e = refl
one-none true e = absurd (omega (arith, e))

none-passes : (p : ℕ → Bool) (n u : ℕ) → count_by p (range_with_len 0 n) ≡ 0 → u < n → p u ≡ false
none-passes p zero u e lt = absurd (omega arith)
none-passes p (suc n) u e lt =
    elim (cases_lt u n) [
      | inl less ↦ none-passes p n u (omega (arith, e, count-suc p n)) less
      | inr last ↦ (let same : u ≡ n = omega arith in one-none (p u) (omega (arith, e, count-suc p n, ap (λ (k : ℕ). one_if (p k)) same)))
    ]

-- what nothing waits for is no input of a pending entry
none-among : (es : List Submission) (os : List Outcome) (t u : ℕ) → wanted_by es os t ≡ 0 → u < length os → outcome_at os u ≡ outcome.Pending → is_among (submission_at es u).inputs t ≡ false
none-among es os t u none lt was =
    ap (λ (o : Outcome). is_pending o && is_among (submission_at es u).inputs t) (sym was) ∙ none-passes (waits_for es os t) (length os) u none lt

still-pending : (os : List Outcome) (t u : ℕ) (o : Outcome) → t < length os → is_pending o ≡ false → outcome_at (set os t o) u ≡ outcome.Pending → (u ≢ t) × (outcome_at os u ≡ outcome.Pending)
still-pending os t u o lt ended pends =
    elim (eqb_tells u t) [
      | inl here ↦
          let is : outcome_at (set os t o) u ≡ o = ap (outcome_at (set os t o)) here.1 ∙ get_or-set_same os t o outcome.Pending lt in
          let lasts : is_pending o ≡ true = ap is_pending (sym is ∙ pends) in
          absurd cc
      | inr there ↦ (there.1, sym (get_or-set_other os t u o outcome.Pending there.1) ∙ pends)
    ]

pub none-awaits-set : (es : List Submission) (os : List Outcome) (t n : ℕ) (o : Outcome) → t < length os → n ≡ length os → is_pending o ≡ false → (is_dead o ≡ false) ⊎ (wanted_by es os t ≡ 0)
    → NoneAwaits es os n → NoneAwaits es (set os t o) n
none-awaits-set es os t n o lt size ended why none = λ u u-lt pends.
    let was = still-pending os t u o lt ended pends in
    none-dead-set os t o (tickets (submission_at es u).inputs) lt (elim why [
      | inl lives ↦ inl lives
      | inr alone ↦ inr (none-among es os t u alone (omega (arith, u-lt, size)) was.1)
    ]) (none u u-lt was.1)

-- ---- a death

find-nothing : (p : ℕ → Bool) (xs : List ℕ) → AllByRecursion (λ x. p x ≡ false) xs → find p xs ≡ None
find-nothing p xs all = find-same p (λ x. false) xs all ∙ nothing xs
  where
    nothing : (xs : List ℕ) → find (λ x. false) xs ≡ None
    nothing [] = refl
    nothing (x ∷ xs) = nothing xs

-- after a cascade no dead entry is waited for
none-awaits-killed : (w : Table) (t : ℕ) (cause : Outcome) → length w.submissions ≡ length w.outcomes → length w.outcomes ≡ length w.names → InputsBelow w.submissions → t < length w.outcomes → is_pending cause ≡ false
    → NoneAwaits w.submissions (killed w t cause).outcomes (length w.names)
unfolding killed
none-awaits-killed w t cause same size below lt dead = λ u u-lt pends.
    let v = killed w t cause in
    let k = is_killed w t cause same (λ i i-lt. below i (omega (arith, i-lt, same))) lt dead in
    let not-itself : u ≢ t = λ e. (let lasts : is_pending cause ≡ true = ap is_pending (sym k.dies ∙ sym (ap (outcome_at v.outcomes) e) ∙ pends) in absurd cc) in
    let was : outcome_at w.outcomes u ≡ outcome.Pending = elim (cases_Bool (is_pending (outcome_at w.outcomes u))) [
      | inl lasts ↦ pending_is (outcome_at w.outcomes u) lasts
      | inr ended ↦
          let was-ended : outcome_at w.outcomes u ≢ outcome.Pending = λ e. (let lasts = ap is_pending e in cc) in
          sym (k.settled u not-itself was-ended) ∙ pends
    ] in
    find-none (λ i. is_dead (outcome_at v.outcomes i)) (tickets (submission_at w.submissions u).inputs) ((k.waits u (omega (arith, u-lt, size)) not-itself was).0 pends)

pub none-awaits-cascaded : (w : Table) (t : ℕ) (cause : Outcome) → length w.submissions ≡ length w.outcomes → length w.outcomes ≡ length w.names → InputsBelow w.submissions → t < length w.outcomes → is_pending cause ≡ false
    → NoneAwaits w.submissions (cascaded [] w.submissions (set w.outcomes t cause)) (length w.names)
unfolding killed
none-awaits-cascaded w t cause same size below lt dead = none-awaits-killed w t cause same size below lt dead

-- a pending entry that nothing waits for dies, and no other fails with it
pub dies-alone : (w : Table) (t : ℕ) (cause : Outcome) → length w.submissions ≡ length w.outcomes → length w.outcomes ≡ length w.names → InputsBelow w.submissions → t < length w.outcomes → is_pending cause ≡ false
    → wanted_by w.submissions w.outcomes t ≡ 0 → NoneAwaits w.submissions w.outcomes (length w.names) → killed w t cause ≡ settled w t cause
dies-alone w t cause same size below lt dead nobody none =
    let v = settled w t cause in
    let earlier : (i : ℕ) → i < length w.outcomes → AllByRecursion (λ j. j < i) (tickets (submission_at w.submissions i).inputs) = λ i i-lt. below i (omega (arith, i-lt, same)) in
    let other : (u : ℕ) → u ≢ t → outcome_at v.outcomes u ≡ outcome_at w.outcomes u = λ u ne. get_or-set_other w.outcomes t u cause outcome.Pending ne in
    let still = none-awaits-set w.submissions w.outcomes t (length w.names) cause lt (sym size) dead (inr nobody) none in
    let no-dead : (u : ℕ) → u < length w.outcomes → u ≢ t → outcome_at w.outcomes u ≡ outcome.Pending → first_dead v u ≡ None
    = λ u u-lt ne was. find-nothing (λ i. is_dead (outcome_at v.outcomes i)) (tickets (submission_at w.submissions u).inputs) (still u (omega (arith, u-lt, size)) (other u ne ∙ was)) in
    let k : IsKilled w v t cause = record {
      names = refl;
      submissions = refl;
      size = length-set w.outcomes t cause;
      dies = get_or-set_same w.outcomes t cause outcome.Pending lt;
      settled = λ u ne ended. other u ne;
      fails = λ u s u-lt ne was. (
        λ failed. absurd (pending-not-failed s (sym was ∙ sym (other u ne) ∙ failed)),
        λ found. absurd (none-not-some s (sym (no-dead u u-lt ne was) ∙ found)),
      );
      waits = λ u u-lt ne was. (λ pends. no-dead u u-lt ne was, λ found. other u ne ∙ was);
    } in
    killed_alone w (killed w t cause) v t cause earlier (is_killed w t cause same earlier lt dead) k
  where
    pending-not-failed : (s : ℕ) → outcome.Pending ≡ outcome.Input s → ⊥
    pending-not-failed s e = cc

    none-not-some : (s : ℕ) → None ≡ Some s → ⊥
    none-not-some s e = cc

-- ---- one more entry

none-dead-push : (os : List Outcome) (o : Outcome) (xs : List ℕ) → AllByRecursion (λ i. i < length os) xs → NoneDead os xs → NoneDead (os ++ o ∷ []) xs
none-dead-push os o [] below none = tt
none-dead-push os o (x ∷ xs) below none = (ap is_dead (get_or_append_left os (o ∷ []) outcome.Pending x below.0) ∙ none.0, none-dead-push os o xs below.1 none.1)

pub none-awaits-push : (es : List Submission) (os : List Outcome) (e : Submission) (o : Outcome) (n : ℕ) → length es ≡ length os → n ≡ length os → InputsBelow es → AllByRecursion (λ i. i < length os) (tickets e.inputs)
    → NoneDead os (tickets e.inputs) → NoneAwaits es os n → NoneAwaits (es ++ e ∷ []) (os ++ o ∷ []) (n + 1)
none-awaits-push es os e o n same size below own alive none = λ u u-lt pends.
    let Q : Submission → Type 0 = λ x. NoneDead (os ++ o ∷ []) (tickets x.inputs) in
    elim (cases_lt u n) [
      | inl less ↦
          let within : u < length os = omega (arith, less, size) in
          let was : outcome_at os u ≡ outcome.Pending = sym (get_or_append_left os (o ∷ []) outcome.Pending u within) ∙ pends in
          let earlier = all-weaker (λ i. i < u) (λ i. i < length os) (tickets (submission_at es u).inputs) (λ i lt. omega (arith, lt, within)) (below u (omega (arith, within, same))) in
          subst Q (sym (get_or_append_left es (e ∷ []) no_submission u (omega (arith, within, same)))) (none-dead-push os o (tickets (submission_at es u).inputs) earlier (none u less was))
      | inr past ↦
          let last : length es ≡ u = omega (arith, past, u-lt, size, same) in
          subst Q (sym (sym (ap (submission_at (es ++ e ∷ [])) last) ∙ get_or-append_seam es e [] no_submission)) (none-dead-push os o (tickets e.inputs) own alive)
    ]

-- ---- what is dead

pub dead-held : (o : Outcome) → is_dead o ≡ true → is_released o ≡ false
dead-held outcome.Pending dead = refl
dead-held outcome.Done dead = refl
dead-held outcome.Cancelled dead = refl
dead-held outcome.Memory dead = refl
dead-held (outcome.Input s) dead = refl
dead-held outcome.Released dead = absurd cc
