-- What spares a pass over the entries, as one of them changes.
use Rattle.std.proofs.Common.{◌≡◌, ℕ, zero, suc, ◌+◌, ◌-◌, ◌<◌, ◌≤◌, ◌⊎◌, inl, inr, Bool, true, false, not, if◌then◌else◌, nat_eq, nat_lt, List, [], ◌∷◌, ◌++◌, length, map, set, get_or, count_by, slice_index_or, Option, Some, None, option_map, refl, sym, ap, subst, ◌∙◌, arith, length-append, zero-add}
use Rattle.std.specs.Prelude.{◌||◌, ◌&&◌}
use Rattle.std.specs.List.{AllByRecursion, range_with_len, list_any}
use Rattle.std.proofs.lemmas.Bool.{cases_lt, eq-eqb, lt-ltb, and_parts, and_from, or_left, or_right}
use Rattle.std.proofs.lemmas.Bool.Decides.{eqb_tells}
use Rattle.std.proofs.lemmas.List.{get_or-set_same, get_or-set_other, get_or_append_left, get_or-append_right, get_or_past, get_or_read, length-set}
use Rattle.std.proofs.lemmas.List.Folds.{list_any-append}
use Rattle.std.proofs.lemmas.List.Sums.{sum_by-set}
use Rattle.std.proofs.Math.ListN.{get_or-map}
use Rattle.std.proofs.Math.Seq.{get_or-append_seam}
use Rattle.mw_model.specs.declared.submissions.Submission.{Submission}
use Rattle.mw_model.specs.declared.submissions.Inputs.{Inputs}
use Rattle.mw_model.specs.declared.names.Name.{Name}
use Rattle.mw_model.specs.declared.calls.Outcome.{Outcome}
use Rattle.mw_model.specs.declared.calls.Outcome.TheVariants as outcome
use Rattle.mw_model.specs.Values.{Value, value_at, option_list, tickets}
use Rattle.mw_model.specs.Refusals.{Table, is_dead, is_pending, is_released, outcome_at, submission_at, no_submission}
use Rattle.mw_model.specs.Machine.{settled, cascaded, with_entry}
use Rattle.mw_model.specs.Stands.{is_wanted}
use Rattle.mw_store.specs.declared.kept.StoredValue.{StoredValue}
use Rattle.mw_store.specs.Kept.{kept_value}
use Rattle.mw_store.specs.Stored.{Stored, StoreIsWhole, IsTracked, InputsBelow, DropsSpent, KeepsElement, is_spent}
use Rattle.mw_store.specs.Wanted.{one_if, is_among, is_at, waits_for, wanted_by, spent_by}
use Rattle.mw_store.specs.Waiting.{Waiting, KnowsWaiting, no_waiting, waiting_at, entry_if, entry_for}
use Rattle.mw_model.proofs.mw_facts.Alls.{all-append, all-weaker, all-append_left, all-append_right}
use Rattle.mw_model.proofs.mw_facts.Counts.{count_by-most, count_by-same}
use Rattle.mw_store.proofs.AddLemmas.{whole-push}
use Rattle.mw_store.proofs.CascadeLemmas.{Fate, cascaded-fate, count-push, fate-pending}
use Rattle.mw_store.proofs.Elements.{EndsOnce, KeepsFirst, elements-push, elements-stay, elements-valued, ends-pending, ends-released}
use Rattle.mw_store.proofs.Living.{NoneAwaits, NoneDead, none-awaits-cascaded, none-awaits-push, none-awaits-set}
use Rattle.mw_store.proofs.Counting.{count-more, count-change, count-any, zero-or-more}

-- ---- the inputs of an entry

-- the ticket is one of three
among-three : (inputs : Inputs) (t : ℕ) → is_among inputs t ≡ ((is_at inputs.a t || is_at inputs.b t) || is_at inputs.c t)
among-three inputs t =
    list_any-append (nat_eq t) (option_list inputs.a ++ option_list inputs.b) (option_list inputs.c)
    ∙ ap (λ (x : Bool). x || is_at inputs.c t) (list_any-append (nat_eq t) (option_list inputs.a) (option_list inputs.b))

pub record Within (inputs : Inputs) (n : ℕ) : Type 0 where
  pub a : AllByRecursion (λ i. i < n) (option_list inputs.a)
  pub b : AllByRecursion (λ i. i < n) (option_list inputs.b)
  pub c : AllByRecursion (λ i. i < n) (option_list inputs.c)

pub inputs-within : (inputs : Inputs) (n : ℕ) → AllByRecursion (λ i. i < n) (tickets inputs) → Within inputs n
inputs-within inputs n all =
    let P : ℕ → Type 0 = λ i. i < n in
    let first = all-append_left P (option_list inputs.a ++ option_list inputs.b) (option_list inputs.c) all in
    record {
      a = all-append_left P (option_list inputs.a) (option_list inputs.b) first;
      b = all-append_right P (option_list inputs.a) (option_list inputs.b) first;
      c = all-append_right P (option_list inputs.a ++ option_list inputs.b) (option_list inputs.c) all;
    }

-- the inputs of an entry that was read stand before it
pub read-within : (es : List Submission) (t n : ℕ) (e : Submission) → InputsBelow es → t < length es → e ≡ get_or es t e → t ≤ n → Within e.inputs n
read-within es t n e below lt is le =
    let there : e ≡ submission_at es t = get_or_read es t e lt is no_submission in
    let mine : AllByRecursion (λ i. i < n) (tickets (submission_at es t).inputs)
    = all-weaker (λ i. i < t) (λ i. i < n) (tickets (submission_at es t).inputs) (λ i l. omega (arith, l, le)) (below t lt) in
    inputs-within e.inputs n (subst (λ (x : Submission). AllByRecursion (λ i. i < n) (tickets x.inputs)) (sym there) mine)

-- ---- what counts tell

pub wanted-tells : (w : Table) (t : ℕ) → length w.outcomes ≡ length w.names → nat_lt 0 (wanted_by w.submissions w.outcomes t) ≡ is_wanted w t
wanted-tells w t e =
    ap (λ (n : ℕ). nat_lt 0 (count_by (waits_for w.submissions w.outcomes t) (range_with_len 0 n))) e
    ∙ count-any (waits_for w.submissions w.outcomes t) (range_with_len 0 (length w.names))

pub spent-tells : (w : Table) (counts : List ℕ) (t : ℕ) → length w.outcomes ≡ length w.names → slice_index_or counts t 0 ≡ wanted_by w.submissions w.outcomes t → spent_by w.outcomes counts t ≡ is_spent w t
spent-tells w counts t e is =
    ap (λ (b : Bool). is_released (outcome_at w.outcomes t) && b)
    (ap (λ (n : ℕ). nat_eq n 0) is ∙ zero-or-more (wanted_by w.submissions w.outcomes t) ∙ ap not (wanted-tells w t e))

pub wanted-small : (es : List Submission) (os : List Outcome) (t : ℕ) → wanted_by es os t ≤ length os
wanted-small es os t = count_by-most (waits_for es os t) (length os)

-- ---- how many have a ticket as an input, as the outcomes change

pub wanted-settled : (es : List Submission) (os : List Outcome) (t : ℕ) (o : Outcome) (k : ℕ) → t < length os → outcome_at os t ≡ outcome.Pending → is_pending o ≡ false
    → wanted_by es (set os t o) k + one_if (is_among (submission_at es t).inputs k) ≡ wanted_by es os k
wanted-settled es os t o k within was is =
    let p : ℕ → Bool = waits_for es (set os t o) k in
    let q : ℕ → Bool = waits_for es os k in
    let has = is_among (submission_at es t).inputs k in
    let size : count_by p (range_with_len 0 (length (set os t o))) ≡ count_by p (range_with_len 0 (length os)) = ap (λ (n : ℕ). count_by p (range_with_len 0 n)) (length-set os t o) in
    let here : p t ≡ false = ap (λ (x : Outcome). is_pending x && has) (get_or-set_same os t o outcome.Pending within) ∙ ap (λ (b : Bool). b && has) is in
    let there : q t ≡ has = ap (λ (x : Outcome). is_pending x && has) was in
    let change = count-change p q t (length os) within (λ u l ne. ap (λ (x : Outcome). is_pending x && is_among (submission_at es u).inputs k) (get_or-set_other os t u o outcome.Pending ne)) in
    omega (arith, size, change, ap one_if here, ap one_if there)

pub wanted-kept : (es : List Submission) (os new : List Outcome) (k : ℕ) → length new ≡ length os → ((u : ℕ) → is_pending (outcome_at new u) ≡ is_pending (outcome_at os u)) → wanted_by es new k ≡ wanted_by es os k
wanted-kept es os new k size same =
    ap (λ (n : ℕ). count_by (waits_for es new k) (range_with_len 0 n)) size
    ∙ count_by-same (waits_for es new k) (waits_for es os k) (length os) (λ u l. ap (λ (b : Bool). b && is_among (submission_at es u).inputs k) (same u))

pub waits-before : (es : List Submission) (os : List Outcome) (e : Submission) (o : Outcome) (k u : ℕ) → length es ≡ length os → u < length os → waits_for (es ++ e ∷ []) (os ++ o ∷ []) k u ≡ waits_for es os k u
waits-before es os e o k u same within =
    ap (λ (x : Outcome). is_pending x && is_among (submission_at (es ++ e ∷ []) u).inputs k) (get_or_append_left os (o ∷ []) outcome.Pending u within)
    ∙ ap (λ (y : Submission). is_pending (outcome_at os u) && is_among y.inputs k) (get_or_append_left es (e ∷ []) no_submission u (omega arith))

pub waits-last : (es : List Submission) (os : List Outcome) (e : Submission) (o : Outcome) (k : ℕ) → length es ≡ length os → waits_for (es ++ e ∷ []) (os ++ o ∷ []) k (length os) ≡ (is_pending o && is_among e.inputs k)
waits-last es os e o k same =
    ap (λ (x : Outcome). is_pending x && is_among (submission_at (es ++ e ∷ []) (length os)).inputs k) (get_or-append_seam os o [] outcome.Pending)
    ∙ ap (λ (y : Submission). is_pending o && is_among y.inputs k) (ap (submission_at (es ++ e ∷ [])) (sym same) ∙ get_or-append_seam es e [] no_submission)

pub wanted-push : (es : List Submission) (os : List Outcome) (e : Submission) (o : Outcome) (k : ℕ) → length es ≡ length os → wanted_by (es ++ e ∷ []) (os ++ o ∷ []) k ≡ wanted_by es os k + one_if (is_pending o && is_among e.inputs k)
wanted-push es os e o k same =
    let p : ℕ → Bool = waits_for (es ++ e ∷ []) (os ++ o ∷ []) k in
    let n = length os in
    let size : length (os ++ o ∷ []) ≡ n + 1 = omega (arith, length-append os (o ∷ [])) in
    ap (λ (m : ℕ). count_by p (range_with_len 0 m)) size ∙ count-more p n
    ∙ ap (λ (m : ℕ). m + one_if (p n)) (count_by-same p (waits_for es os k) n (λ u l. waits-before es os e o k u same l))
    ∙ ap (λ (b : Bool). wanted_by es os k + one_if b) (waits-last es os e o k same)

-- ---- what is dropped

through : (b : Bool) (x : Option StoredValue) → option_map kept_value (if b then None else x) ≡ (if b then None else option_map kept_value x)
through true x = refl
through false x = refl

pub kept-dropped : (ks new : List (Option StoredValue)) (t : ℕ) (b : Bool) → slice_index_or new t None ≡ (if b then None else slice_index_or ks t None)
    → value_at (map (option_map kept_value) new) t ≡ (if b then None else value_at (map (option_map kept_value) ks) t)
kept-dropped ks new t b e =
    get_or-map (option_map kept_value) new t None ∙ ap (option_map kept_value) e ∙ through b (slice_index_or ks t None)
    ∙ ap (λ (v : Option Value). if b then None else v) (sym (get_or-map (option_map kept_value) ks t None))

-- what is looked at is enough, where nothing else is spent and kept
near-enough : (near spent : Bool) (old new : Option Value) → (near ≡ false → spent ≡ true → old ≡ None) → new ≡ (if near && spent then None else old) → new ≡ (if spent then None else old)
near-enough true spent old new none e = e
near-enough false true old new none e = e ∙ none refl refl
near-enough false false old new none e = e

zero-not : (n : ℕ) → not (nat_lt 0 n) ≡ true → n ≡ 0
zero-not zero h = refl
zero-not (suc n) h =
    let no : not (nat_lt 0 (suc n)) ≡ false = ap not (lt-ltb 0 (suc n) (omega arith)) in
    cc (no, h)

pub nobody-waits : (w : Table) (t : ℕ) → length w.outcomes ≡ length w.names → is_wanted w t ≡ false → wanted_by w.submissions w.outcomes t ≡ 0
nobody-waits w t e alone = zero-not (wanted_by w.submissions w.outcomes t) (ap not (wanted-tells w t e ∙ alone))

pub nobody-dead : (w : Table) (t : ℕ) (o : Outcome) → length w.outcomes ≡ length w.names → (is_dead o ≡ false) ⊎ (is_wanted w t ≡ false) → (is_dead o ≡ false) ⊎ (wanted_by w.submissions w.outcomes t ≡ 0)
nobody-dead w t o e (inl lives) = inl lives
nobody-dead w t o e (inr alone) = inr (nobody-waits w t e alone)

released-wanted : (w : Table) (t : ℕ) → length w.outcomes ≡ length w.names → is_spent w t ≡ true → (is_released (outcome_at w.outcomes t) ≡ true) × (wanted_by w.submissions w.outcomes t ≡ 0)
released-wanted w t e spent =
    let both = and_parts (is_released (outcome_at w.outcomes t)) (not (is_wanted w t)) spent in
    (both.0, zero-not (wanted_by w.submissions w.outcomes t) (ap not (wanted-tells w t e) ∙ both.1))

spent-from : (w : Table) (t : ℕ) → length w.outcomes ≡ length w.names → is_released (outcome_at w.outcomes t) ≡ true → wanted_by w.submissions w.outcomes t ≡ 0 → is_spent w t ≡ true
spent-from w t e released none =
    ap (λ (b : Bool). b && not (is_wanted w t)) released ∙ ap not (sym (wanted-tells w t e) ∙ ap (nat_lt 0) none)

-- once what is spent was dropped, nothing is kept of it
pub none-spent : (w : Table) (old new : List (Option Value)) → length w.outcomes ≡ length w.names → DropsSpent w old new
    → (t : ℕ) → is_released (outcome_at w.outcomes t) ≡ true → wanted_by w.submissions w.outcomes t ≡ 0 → value_at new t ≡ None
none-spent w old new e drops t released none = drops t ∙ ap (λ (b : Bool). if b then None else value_at old t) (spent-from w t e released none)

-- ---- who waits, as the outcomes change

-- nothing becomes pending, and only lists of settled tickets are dropped
pub waiting-fewer : (es : List Submission) (os new : List Outcome) (lists now : List Waiting) → KnowsWaiting es os lists → length new ≡ length os
    → ((u : ℕ) → is_pending (outcome_at new u) ≡ true → is_pending (outcome_at os u) ≡ true)
    → ((t : ℕ) → (waiting_at now t ≡ waiting_at lists t) ⊎ ((waiting_at now t ≡ []) × (is_pending (outcome_at new t) ≡ false)))
    → KnowsWaiting es new now
waiting-fewer es os new lists now knows size fewer each = record {
  all = λ t u t-lt pends u-lt waits.
      elim (each t) [
        | inl same ↦
            let both = and_parts (is_pending (outcome_at new u)) (is_among (submission_at es u).inputs t) waits in
            let was = and_from (is_pending (outcome_at os u)) (is_among (submission_at es u).inputs t) (fewer u both.0) both.1 in
            ap (list_any (nat_eq u)) same ∙ knows.all t u (omega (arith, t-lt, size)) (fewer t pends) (omega (arith, u-lt, size)) was
        | inr gone ↦ absurd (true-false (is_pending (outcome_at new t)) pends gone.1)
      ];
  below = λ t.
      let P : List ℕ → Type 0 = λ xs. AllByRecursion (λ u. u < length new) xs in
      elim (each t) [
        | inl same ↦ subst P (sym same) (subst (λ (n : ℕ). AllByRecursion (λ u. u < n) (waiting_at lists t)) (sym size) (knows.below t))
        | inr gone ↦ subst P (sym gone.0) tt
      ];
}
  where
    true-false : (b : Bool) → b ≡ true → b ≡ false → ⊥
    true-false b e f = cc

entry-if-tells : (b : Bool) (u : ℕ) → list_any (nat_eq u) (if b then u ∷ [] else []) ≡ b
entry-if-tells true u = ap (λ (x : Bool). x || false) (eq-eqb u u refl)
entry-if-tells false u = refl

entry-for-tells : (inputs : Inputs) (u t : ℕ) → list_any (nat_eq u) (entry_for inputs u t) ≡ is_among inputs t
entry-for-tells inputs u t =
    let has : Option ℕ → Bool = λ i. list_any (nat_eq u) (entry_if i u t) in
    list_any-append (nat_eq u) (entry_if inputs.a u t ++ entry_if inputs.b u t) (entry_if inputs.c u t)
    ∙ ap (λ (x : Bool). x || has inputs.c) (list_any-append (nat_eq u) (entry_if inputs.a u t) (entry_if inputs.b u t))
    ∙ ap (λ (x : Bool). (x || has inputs.b) || has inputs.c) (entry-if-tells (is_at inputs.a t) u)
    ∙ ap (λ (x : Bool). (is_at inputs.a t || x) || has inputs.c) (entry-if-tells (is_at inputs.b t) u)
    ∙ ap (λ (x : Bool). (is_at inputs.a t || is_at inputs.b t) || x) (entry-if-tells (is_at inputs.c t) u)
    ∙ sym (among-three inputs t)

entry-if-below : (b : Bool) (u n : ℕ) → u < n → AllByRecursion (λ k. k < n) (if b then u ∷ [] else [])
entry-if-below true u n lt = (lt, tt)
entry-if-below false u n lt = tt

entry-for-below : (inputs : Inputs) (u t n : ℕ) → u < n → AllByRecursion (λ k. k < n) (entry_for inputs u t)
entry-for-below inputs u t n lt =
    all-append (λ k. k < n) (entry_if inputs.a u t ++ entry_if inputs.b u t) (entry_if inputs.c u t)
    (all-append (λ k. k < n) (entry_if inputs.a u t) (entry_if inputs.b u t) (entry-if-below (is_at inputs.a t) u n lt) (entry-if-below (is_at inputs.b t) u n lt))
    (entry-if-below (is_at inputs.c t) u n lt)

nothing-behind : (w : Waiting) (k : ℕ) → w.tickets ≡ [] → (slice_index_or (w ∷ []) k no_waiting).tickets ≡ []
nothing-behind w zero e = e
nothing-behind w (suc k) e = refl

-- a list for one more ticket
waiting-more : (lists : List Waiting) (w : Waiting) (t : ℕ) → w.tickets ≡ [] → waiting_at (lists ++ w ∷ []) t ≡ waiting_at lists t
waiting-more lists w t none =
    let tickets-of : Waiting → List ℕ = λ v. v.tickets in
    elim (cases_lt t (length lists)) [
      | inl less ↦ ap tickets-of (get_or_append_left lists (w ∷ []) no_waiting t less)
      | inr past ↦
          ap tickets-of (get_or-append_right lists (w ∷ []) (length lists) t no_waiting refl past) ∙ nothing-behind w (t - length lists) none
          ∙ ap tickets-of (sym (get_or_past lists t no_waiting past))
    ]

among-below : (xs : List ℕ) (t n : ℕ) → AllByRecursion (λ i. i < n) xs → list_any (nat_eq t) xs ≡ true → t < n
among-below [] t n all h = cc
among-below (x ∷ xs) t n all h =
    elim (eqb_tells t x) [
      | inl here ↦ omega (arith, here.1, all.0)
      | inr there ↦ among-below xs t n all.1 (ap (λ (b : Bool). b || list_any (nat_eq t) xs) (sym there.0) ∙ h)
    ]

-- one more entry, which stands in the lists of its pending inputs
pub waiting-push : (es : List Submission) (os : List Outcome) (e : Submission) (o : Outcome) (lists now : List Waiting) (w : Waiting) (waited : Inputs) → KnowsWaiting es os lists
    → length es ≡ length os → InputsBelow es → AllByRecursion (λ i. i < length os) (tickets e.inputs) → w.tickets ≡ []
    → ((t : ℕ) → is_among waited t ≡ (is_among e.inputs t && is_pending (outcome_at os t)))
    → ((t : ℕ) → waiting_at now t ≡ waiting_at (lists ++ w ∷ []) t ++ entry_for waited (length os) t)
    → KnowsWaiting (es ++ e ∷ []) (os ++ o ∷ []) now
waiting-push es os e o lists now w waited knows same below own none opens each = record {
  all = λ t u t-lt pends u-lt waits.
      let n = length os in
      let tells : list_any (nat_eq u) (waiting_at now t) ≡ (list_any (nat_eq u) (waiting_at lists t) || list_any (nat_eq u) (entry_for waited n t))
      = ap (list_any (nat_eq u)) (stands t) ∙ list_any-append (nat_eq u) (waiting_at lists t) (entry_for waited n t) in
      elim (cases_lt u n) [
        | inl less ↦
            let was : waits_for es os t u ≡ true = sym (waits-before es os e o t u same less) ∙ waits in
            let both = and_parts (is_pending (outcome_at os u)) (is_among (submission_at es u).inputs t) was in
            let before : t < u = among-below (tickets (submission_at es u).inputs) t u (below u (omega (arith, same, less))) both.1 in
            let pended = ap is_pending (sym (get_or_append_left os (o ∷ []) outcome.Pending t (omega (arith, before, less)))) ∙ pends in
            tells ∙ or_left (list_any (nat_eq u) (waiting_at lists t)) (list_any (nat_eq u) (entry_for waited n t)) (knows.all t u (omega (arith, before, less)) pended less was)
        | inr past ↦
            let last : u ≡ n = omega (arith, past, u-lt, size) in
            let has = (and_parts (is_pending o) (is_among e.inputs t) (sym (ap (waits_for (es ++ e ∷ []) (os ++ o ∷ []) t) last ∙ waits-last es os e o t same) ∙ waits)).1 in
            let before : t < n = among-below (tickets e.inputs) t n own has in
            let pended = ap is_pending (sym (get_or_append_left os (o ∷ []) outcome.Pending t before)) ∙ pends in
            let there : is_among waited t ≡ true = opens t ∙ and_from (is_among e.inputs t) (is_pending (outcome_at os t)) has pended in
            tells ∙ or_right (list_any (nat_eq u) (waiting_at lists t)) (list_any (nat_eq u) (entry_for waited n t))
            (ap (λ (k : ℕ). list_any (nat_eq k) (entry_for waited n t)) last ∙ entry-for-tells waited n t ∙ there)
      ];
  below = λ t.
      let n = length os in
      let P : List ℕ → Type 0 = λ xs. AllByRecursion (λ u. u < length (os ++ o ∷ [])) xs in
      subst P (sym (stands t))
      (all-append (λ u. u < length (os ++ o ∷ [])) (waiting_at lists t) (entry_for waited n t)
      (all-weaker (λ u. u < n) (λ u. u < length (os ++ o ∷ [])) (waiting_at lists t) (λ u lt. omega (arith, lt, size)) (knows.below t))
      (entry-for-below waited n t (length (os ++ o ∷ [])) (omega (arith, size))));
}
  where
    size : length (os ++ o ∷ []) ≡ length os + 1
    size = omega (arith, length-append os (o ∷ []))

    stands : (t : ℕ) → waiting_at now t ≡ waiting_at lists t ++ entry_for waited (length os) t
    stands t = each t ∙ ap (λ (xs : List ℕ). xs ++ entry_for waited (length os) t) (waiting-more lists w t none)

-- ---- all of it

-- the lists as they were, with other room
pub tracked-lists : (s : Stored) (counts : List ℕ) (lists now : List Waiting) (left : ℕ) → IsTracked s counts lists left → length now ≡ length lists
    → ((t : ℕ) → waiting_at now t ≡ waiting_at lists t) → IsTracked s counts now left
tracked-lists s counts lists now left tracked size same = record {
  whole = tracked.whole;
  counted = tracked.counted;
  listed = size ∙ tracked.listed;
  pending = tracked.pending;
  wanted = tracked.wanted;
  waiting = waiting-fewer s.table.submissions s.table.outcomes s.table.outcomes lists now tracked.waiting refl (λ u e. e) (λ t. inl (same t));
  spent = tracked.spent;
  alive = tracked.alive;
  elements = tracked.elements;
}

pub whole-outcomes : (s : Stored) (os : List Outcome) (kept : List (Option Value)) → StoreIsWhole s → length os ≡ length s.table.outcomes → length kept ≡ length s.kept
    → StoreIsWhole (record { table = record { names = s.table.names; submissions = s.table.submissions; outcomes = os }; kept = kept })
whole-outcomes s os kept whole size kept-size = record {
  submissions = whole.submissions;
  outcomes = size ∙ whole.outcomes;
  kept = kept-size ∙ whole.kept;
  small = whole.small;
  inputs = whole.inputs;
}

count-settled : (os : List Outcome) (t left : ℕ) (o : Outcome) → left ≡ count_by is_pending os → t < length os → outcome_at os t ≡ outcome.Pending → is_pending o ≡ false → left ≡ count_by is_pending (set os t o) + 1
count-settled os t left o e within was is =
    omega (arith, e, sum_by-set (λ x. one_if (is_pending x)) os t o outcome.Pending within, ap (λ (x : Outcome). one_if (is_pending x)) was, ap one_if is)

abbrev pub after_settling : Stored → ℕ → Outcome → List (Option Value) → Stored
after_settling s t o kept = record { table = settled s.table t o; kept = kept }

-- an entry that ends was counted
pub counted-before : (s : Stored) (counts : List ℕ) (lists : List Waiting) (left t k : ℕ) → IsTracked s counts lists left
    → t < length s.table.names → outcome_at s.table.outcomes t ≡ outcome.Pending
    → one_if (is_among (submission_at s.table.submissions t).inputs k) ≤ slice_index_or counts k 0
counted-before s counts lists left t k tracked within was =
    let lt : t < length s.table.outcomes = omega (arith, within, tracked.whole.outcomes) in
    omega (arith, tracked.wanted k, wanted-settled s.table.submissions s.table.outcomes t outcome.Done k lt was refl)

-- the list of the ticket is dropped
pub settled-list : (lists : List Waiting) (t : ℕ) (w : Waiting) → t < length lists → w.tickets ≡ [] → (k : ℕ)
    → (waiting_at (set lists t w) k ≡ waiting_at lists k) ⊎ ((waiting_at (set lists t w) k ≡ []) × (k ≡ t))
settled-list lists t w lt none k =
    let tickets-of : Waiting → List ℕ = λ v. v.tickets in
    elim (eqb_tells k t) [
      | inl here ↦ inr (ap (waiting_at (set lists t w)) here.1 ∙ ap tickets-of (get_or-set_same lists t w no_waiting lt) ∙ none, here.1)
      | inr there ↦ inl (ap tickets-of (get_or-set_other lists t k w no_waiting there.1))
    ]

-- a value is kept of an entry that is pending
pub value-tracked : (s : Stored) (counts : List ℕ) (lists : List Waiting) (left t : ℕ) (v : Option Value) → IsTracked s counts lists left → outcome_at s.table.outcomes t ≡ outcome.Pending
    → IsTracked (record s { kept = set s.kept t v }) counts lists left
value-tracked s counts lists left t v tracked was = record {
  whole = record { submissions = tracked.whole.submissions; outcomes = tracked.whole.outcomes; kept = length-set s.kept t v ∙ tracked.whole.kept; small = tracked.whole.small; inputs = tracked.whole.inputs };
  counted = tracked.counted;
  listed = tracked.listed;
  pending = tracked.pending;
  wanted = tracked.wanted;
  waiting = tracked.waiting;
  spent = λ k released none.
      elim (eqb_tells k t) [
        | inl here ↦ absurd (let no : is_released (outcome_at s.table.outcomes k) ≡ false = ap is_released (ap (outcome_at s.table.outcomes) here.1 ∙ was) in cc)
        | inr there ↦ get_or-set_other s.kept t k v None there.1 ∙ tracked.spent k released none
      ];
  alive = tracked.alive;
  elements = elements-valued s.table.submissions s.table.outcomes s.kept t (length s.table.names) v was tracked.elements;
}

-- what is looked at when an entry ends: its inputs alone
pub leave-drops : (s : Stored) (counts now : List ℕ) (lists : List Waiting) (left t : ℕ) (o : Outcome) (kept : List (Option Value)) → IsTracked s counts lists left
    → t < length s.table.names → outcome_at s.table.outcomes t ≡ outcome.Pending → is_pending o ≡ false → is_released o ≡ false
    → ((k : ℕ) → slice_index_or now k 0 + one_if (is_among (submission_at s.table.submissions t).inputs k) ≡ slice_index_or counts k 0)
    → ((k : ℕ) → value_at kept k ≡ (if is_among (submission_at s.table.submissions t).inputs k && spent_by (set s.table.outcomes t o) now k then None else value_at s.kept k))
    → DropsSpent (settled s.table t o) s.kept kept
leave-drops s counts now lists left t o kept tracked within was ended held lowered dropped k =
    let os = s.table.outcomes in
    let es = s.table.submissions in
    let w = settled s.table t o in
    let inputs = (submission_at es t).inputs in
    let size : length w.outcomes ≡ length w.names = length-set os t o ∙ tracked.whole.outcomes in
    let lt : t < length os = omega (arith, within, tracked.whole.outcomes) in
    let counted : slice_index_or now k 0 ≡ wanted_by w.submissions w.outcomes k = omega (arith, lowered k, tracked.wanted k, wanted-settled es os t o k lt was ended) in
    near-enough (is_among inputs k) (is_spent w k) (value_at s.kept k) (value_at kept k)
    (λ far spent.
    let both = released-wanted w k size spent in
    elim (eqb_tells k t) [
      | inl here ↦ absurd (held-released os t k o here.1 lt held both.0)
      | inr there ↦
          let none : wanted_by es os k ≡ 0 = omega (arith, both.1, wanted-settled es os t o k lt was ended, ap one_if far) in
          let released = ap is_released (sym (get_or-set_other os t k o outcome.Pending there.1)) ∙ both.0 in
          tracked.spent k released none
    ])
    (dropped k ∙ ap (λ (b : Bool). if is_among inputs k && b then None else value_at s.kept k) (spent-tells w now k size counted))
  where
    held-released : (os : List Outcome) (t k : ℕ) (o : Outcome) → k ≡ t → t < length os → is_released o ≡ false → is_released (outcome_at (set os t o) k) ≡ true → ⊥
    held-released os t k o e lt held r =
        let is : outcome_at (set os t o) k ≡ o = ap (λ (n : ℕ). outcome_at (set os t o) n) e ∙ get_or-set_same os t o outcome.Pending lt in
        let no : is_released (outcome_at (set os t o) k) ≡ false = ap is_released is ∙ held in
        cc (no, r)

-- an entry that lives on, or that nothing waits for, ends
pub leave-tracked : (s : Stored) (counts now : List ℕ) (lists rest : List Waiting) (left t : ℕ) (o : Outcome) (kept : List (Option Value)) → IsTracked s counts lists left
    → t < length s.table.names → outcome_at s.table.outcomes t ≡ outcome.Pending → is_pending o ≡ false → (is_dead o ≡ false) ⊎ (wanted_by s.table.submissions s.table.outcomes t ≡ 0)
    → length now ≡ length counts → length rest ≡ length lists → length kept ≡ length s.kept
    → ((k : ℕ) → slice_index_or now k 0 + one_if (is_among (submission_at s.table.submissions t).inputs k) ≡ slice_index_or counts k 0)
    → ((k : ℕ) → (waiting_at rest k ≡ waiting_at lists k) ⊎ ((waiting_at rest k ≡ []) × (k ≡ t)))
    → DropsSpent (settled s.table t o) s.kept kept
    → IsTracked (after_settling s t o kept) now rest (left - 1)
leave-tracked s counts now lists rest left t o kept tracked within was ended why counts-size lists-size kept-size lowered each drops =
    let os = s.table.outcomes in
    let es = s.table.submissions in
    let w = settled s.table t o in
    let size : length w.outcomes ≡ length w.names = length-set os t o ∙ tracked.whole.outcomes in
    let lt : t < length os = omega (arith, within, tracked.whole.outcomes) in
    record {
      whole = whole-outcomes s (set os t o) kept tracked.whole (length-set os t o) kept-size;
      counted = counts-size ∙ tracked.counted;
      listed = lists-size ∙ tracked.listed;
      pending = omega (arith, count-settled os t left o tracked.pending lt was ended);
      wanted = λ k. omega (arith, lowered k, tracked.wanted k, wanted-settled es os t o k lt was ended);
      waiting = waiting-fewer es os (set os t o) lists rest tracked.waiting (length-set os t o) (λ u e. pending-before os t u o lt was e)
          (λ k. elim (each k) [
            | inl same ↦ inl same
            | inr gone ↦ inr (gone.0, ap (λ (n : ℕ). is_pending (outcome_at (set os t o) n)) gone.1 ∙ ap is_pending (get_or-set_same os t o outcome.Pending lt) ∙ ended)
          ]);
      spent = none-spent w s.kept kept size drops;
      alive = none-awaits-set es os t (length s.table.names) o lt (sym tracked.whole.outcomes) ended why tracked.alive;
      elements = elements-stay s.table (set os t o) s.kept kept (length s.table.names) (ends-pending os t o was) drops tracked.elements;
    }
  where
    pending-before : (os : List Outcome) (t u : ℕ) (o : Outcome) → t < length os → outcome_at os t ≡ outcome.Pending → is_pending (outcome_at (set os t o) u) ≡ true → is_pending (outcome_at os u) ≡ true
    pending-before os t u o lt was e =
        elim (eqb_tells u t) [
          | inl here ↦ ap (λ (n : ℕ). is_pending (outcome_at os n)) here.1 ∙ ap is_pending was
          | inr there ↦ ap is_pending (sym (get_or-set_other os t u o outcome.Pending there.1)) ∙ e
        ]

-- ---- a release

same-pending : (os : List Outcome) (t u : ℕ) → t < length os → outcome_at os t ≡ outcome.Done → is_pending (outcome_at (set os t outcome.Released) u) ≡ is_pending (outcome_at os u)
same-pending os t u lt was =
    elim (eqb_tells u t) [
      | inl here ↦
          ap (λ (n : ℕ). is_pending (outcome_at (set os t outcome.Released) n)) here.1 ∙ ap is_pending (get_or-set_same os t outcome.Released outcome.Pending lt)
          ∙ sym (ap (λ (n : ℕ). is_pending (outcome_at os n)) here.1 ∙ ap is_pending was)
      | inr there ↦ ap is_pending (get_or-set_other os t u outcome.Released outcome.Pending there.1)
    ]

pub release-drops : (s : Stored) (counts : List ℕ) (lists : List Waiting) (left t : ℕ) (kept : List (Option Value)) → IsTracked s counts lists left
    → t < length s.table.names → outcome_at s.table.outcomes t ≡ outcome.Done
    → ((k : ℕ) → value_at kept k ≡ (if is_at (Some t) k && spent_by (set s.table.outcomes t outcome.Released) counts k then None else value_at s.kept k))
    → DropsSpent (settled s.table t outcome.Released) s.kept kept
release-drops s counts lists left t kept tracked within was dropped k =
    let os = s.table.outcomes in
    let es = s.table.submissions in
    let w = settled s.table t outcome.Released in
    let size : length w.outcomes ≡ length w.names = length-set os t outcome.Released ∙ tracked.whole.outcomes in
    let lt : t < length os = omega (arith, within, tracked.whole.outcomes) in
    let stays = wanted-kept es os (set os t outcome.Released) k (length-set os t outcome.Released) (λ u. same-pending os t u lt was) in
    near-enough (is_at (Some t) k) (is_spent w k) (value_at s.kept k) (value_at kept k)
    (λ far spent.
    let both = released-wanted w k size spent in
    elim (eqb_tells k t) [
      | inl here ↦ absurd (at-itself k t here.0 far)
      | inr there ↦
          let released = ap is_released (sym (get_or-set_other os t k outcome.Released outcome.Pending there.1)) ∙ both.0 in
          tracked.spent k released (sym stays ∙ both.1)
    ])
    (dropped k ∙ ap (λ (b : Bool). if is_at (Some t) k && b then None else value_at s.kept k) (spent-tells w counts k size (tracked.wanted k ∙ sym stays)))
  where
    at-itself : (k t : ℕ) → nat_eq k t ≡ true → is_at (Some t) k ≡ false → ⊥
    at-itself k t e far =
        let yes : is_at (Some t) k ≡ true = ap (λ (b : Bool). b || false) e in
        cc (yes, far)

pub count-released : (os : List Outcome) (t : ℕ) → t < length os → outcome_at os t ≡ outcome.Done → count_by is_pending (set os t outcome.Released) ≡ count_by is_pending os
count-released os t lt was =
    omega (arith, sum_by-set (λ x. one_if (is_pending x)) os t outcome.Released outcome.Pending lt, ap (λ (x : Outcome). one_if (is_pending x)) was)

pub release-tracked : (s : Stored) (counts : List ℕ) (lists : List Waiting) (left t : ℕ) (kept : List (Option Value)) → IsTracked s counts lists left
    → t < length s.table.names → outcome_at s.table.outcomes t ≡ outcome.Done → length kept ≡ length s.kept
    → DropsSpent (settled s.table t outcome.Released) s.kept kept
    → IsTracked (after_settling s t outcome.Released kept) counts lists left
release-tracked s counts lists left t kept tracked within was kept-size drops =
    let os = s.table.outcomes in
    let es = s.table.submissions in
    let w = settled s.table t outcome.Released in
    let lt : t < length os = omega (arith, within, tracked.whole.outcomes) in
    let size = length-set os t outcome.Released in
    record {
      whole = whole-outcomes s (set os t outcome.Released) kept tracked.whole size kept-size;
      counted = tracked.counted;
      listed = tracked.listed;
      pending = tracked.pending ∙ sym (count-released os t lt was);
      wanted = λ k. tracked.wanted k ∙ sym (wanted-kept es os (set os t outcome.Released) k size (λ u. same-pending os t u lt was));
      waiting = waiting-fewer es os (set os t outcome.Released) lists lists tracked.waiting size (λ u e. sym (same-pending os t u lt was) ∙ e) (λ k. inl refl);
      spent = none-spent w s.kept kept (size ∙ tracked.whole.outcomes) drops;
      alive = none-awaits-set es os t (length s.table.names) outcome.Released lt (sym tracked.whole.outcomes) refl (inl refl) tracked.alive;
      elements = elements-stay s.table (set os t outcome.Released) s.kept kept (length s.table.names) (ends-released os t lt) drops tracked.elements;
    }

-- ---- a death

-- nothing becomes pending
pub pending-before-kill : (es : List Submission) (os new : List Outcome) (t : ℕ) (cause : Outcome) → length es ≡ length os → t < length os → is_pending cause ≡ false
    → new ≡ cascaded [] es (set os t cause) → length new ≡ length os
    → (u : ℕ) → is_pending (outcome_at new u) ≡ true → is_pending (outcome_at os u) ≡ true
pending-before-kill es os new t cause same lt dead is size u e =
    elim (cases_lt u (length os)) [
      | inl within ↦
          let within' : u < length (set os t cause) = omega (arith, within, length-set os t cause) in
          let fate : Fate (outcome_at (set os t cause) u) (outcome_at (cascaded [] es (set os t cause)) (0 + u)) = cascaded-fate [] es (set os t cause) u (same ∙ sym (length-set os t cause)) within' in
          let here : is_pending (outcome_at (cascaded [] es (set os t cause)) (0 + u)) ≡ true = ap (λ (k : ℕ). is_pending (outcome_at (cascaded [] es (set os t cause)) k)) (zero-add u) ∙ ap (λ (xs : List Outcome). is_pending (outcome_at xs u)) (sym is) ∙ e in
          let was = fate-pending (outcome_at (set os t cause) u) (outcome_at (cascaded [] es (set os t cause)) (0 + u)) fate here in
          elim (eqb_tells u t) [
            | inl self ↦
                let no : is_pending (outcome_at (set os t cause) u) ≡ false
                = ap (λ (k : ℕ). is_pending (outcome_at (set os t cause) k)) self.1 ∙ ap is_pending (get_or-set_same os t cause outcome.Pending lt) ∙ dead in
                absurd (cc (no, was))
            | inr there ↦ ap is_pending (sym (get_or-set_other os t u cause outcome.Pending there.1)) ∙ was
          ]
      | inr past ↦ ap is_pending (get_or_past os u outcome.Pending past)
    ]

abbrev pub with_outcomes : Table → List Outcome → Table
with_outcomes w os = record { names = w.names; submissions = w.submissions; outcomes = os }

-- what ended before stays as it was
ends-killed : (es : List Submission) (os new : List Outcome) (t : ℕ) (cause : Outcome) → length es ≡ length os → outcome_at os t ≡ outcome.Pending → new ≡ cascaded [] es (set os t cause) → length new ≡ length os → EndsOnce os new
ends-killed es os new t cause same was is size = λ u ended.
    elim (cases_lt u (length os)) [
      | inl within ↦
          let set-lt : u < length (set os t cause) = omega (arith, within, length-set os t cause) in
          let fate : Fate (outcome_at (set os t cause) u) (outcome_at (cascaded [] es (set os t cause)) (0 + u)) = cascaded-fate [] es (set os t cause) u (same ∙ sym (length-set os t cause)) set-lt in
          let there : outcome_at (cascaded [] es (set os t cause)) (0 + u) ≡ outcome_at new u = ap (λ (k : ℕ). outcome_at (cascaded [] es (set os t cause)) k) (zero-add u) ∙ ap (λ (xs : List Outcome). outcome_at xs u) (sym is) in
          elim (eqb_tells u t) [
            | inl self ↦ absurd (let lasts : is_pending (outcome_at os u) ≡ true = ap is_pending (ap (outcome_at os) self.1 ∙ was) in cc (lasts, ended))
            | inr other ↦
                let before : outcome_at (set os t cause) u ≡ outcome_at os u = get_or-set_other os t u cause outcome.Pending other.1 in
                elim fate [
                  | inl stays ↦ inl (sym there ∙ stays ∙ before)
                  | inr died ↦ absurd (let lasts : is_pending (outcome_at os u) ≡ true = ap is_pending (sym before ∙ died.0) in cc (lasts, ended))
                ]
          ]
      | inr past ↦ inl (get_or_past new u outcome.Pending (omega (arith, past, size)) ∙ sym (get_or_past os u outcome.Pending past))
    ]

pub kill-drops : (s : Stored) (new : List Outcome) (now : List ℕ) (kept : List (Option Value)) → length new ≡ length s.table.names
    → ((k : ℕ) → slice_index_or now k 0 ≡ wanted_by s.table.submissions new k)
    → ((k : ℕ) → value_at kept k ≡ (if spent_by new now k then None else value_at s.kept k))
    → DropsSpent (with_outcomes s.table new) s.kept kept
kill-drops s new now kept size counted dropped k =
    dropped k ∙ ap (λ (b : Bool). if b then None else value_at s.kept k) (spent-tells (with_outcomes s.table new) now k size (counted k))

pub kill-tracked : (s : Stored) (counts now : List ℕ) (lists rest : List Waiting) (left count t : ℕ) (cause : Outcome) (new : List Outcome) (kept : List (Option Value)) → IsTracked s counts lists left
    → t < length s.table.names → outcome_at s.table.outcomes t ≡ outcome.Pending → is_pending cause ≡ false → new ≡ cascaded [] s.table.submissions (set s.table.outcomes t cause)
    → length new ≡ length s.table.outcomes → length now ≡ length counts → length rest ≡ length lists → length kept ≡ length s.kept
    → ((k : ℕ) → slice_index_or now k 0 ≡ wanted_by s.table.submissions new k)
    → ((k : ℕ) → waiting_at rest k ≡ (if is_pending (outcome_at new k) then waiting_at lists k else []))
    → count ≡ count_by is_pending new
    → DropsSpent (with_outcomes s.table new) s.kept kept
    → IsTracked (record { table = with_outcomes s.table new; kept = kept }) now rest count
kill-tracked s counts now lists rest left count t cause new kept tracked within was dead is size counts-size lists-size kept-size counted each counts-is drops =
    let os = s.table.outcomes in
    let es = s.table.submissions in
    let lt : t < length os = omega (arith, within, tracked.whole.outcomes) in
    record {
      whole = whole-outcomes s new kept tracked.whole size kept-size;
      counted = counts-size ∙ tracked.counted;
      listed = lists-size ∙ tracked.listed;
      pending = counts-is;
      wanted = counted;
      waiting = waiting-fewer es os new lists rest tracked.waiting size
          (pending-before-kill es os new t cause (tracked.whole.submissions ∙ sym tracked.whole.outcomes) lt dead is size)
          (λ k. by-pending (is_pending (outcome_at new k)) (waiting_at lists k) (waiting_at rest k) (each k));
      spent = none-spent (with_outcomes s.table new) s.kept kept (size ∙ tracked.whole.outcomes) drops;
      alive = subst (λ (xs : List Outcome). NoneAwaits es xs (length s.table.names)) (sym is) (none-awaits-cascaded s.table t cause (tracked.whole.submissions ∙ sym tracked.whole.outcomes) tracked.whole.outcomes tracked.whole.inputs lt dead);
      elements = elements-stay s.table new s.kept kept (length s.table.names) (ends-killed es os new t cause (tracked.whole.submissions ∙ sym tracked.whole.outcomes) was is size) drops tracked.elements;
    }
  where
    by-pending : (b : Bool) (old new : List ℕ) → new ≡ (if b then old else []) → (new ≡ old) ⊎ ((new ≡ []) × (b ≡ false))
    by-pending true old new e = inl e
    by-pending false old new e = inr (e, refl)

-- ---- one more entry

pub zero-behind : (xs : List ℕ) (k : ℕ) → slice_index_or (xs ++ 0 ∷ []) k 0 ≡ slice_index_or xs k 0
zero-behind xs k =
    elim (cases_lt k (length xs)) [
      | inl less ↦ get_or_append_left xs (0 ∷ []) 0 k less
      | inr past ↦ get_or-append_right xs (0 ∷ []) (length xs) k 0 refl past ∙ nought 0 (k - length xs) ∙ sym (get_or_past xs k 0 past)
    ]
  where
    nought : (z j : ℕ) → slice_index_or (z ∷ []) j z ≡ z
    nought z zero = refl
    nought z (suc j) = refl

not-released : (o : Outcome) (j : ℕ) → is_released o ≡ false → is_released (outcome_at (o ∷ []) j) ≡ false
not-released o zero e = e
not-released o (suc j) e = refl

pub push-tracked : (s : Stored) (counts now : List ℕ) (lists rest : List Waiting) (left count : ℕ) (n : Name) (e : Submission) (o : Outcome) (v : Option Value) (w : Waiting) (waited : Inputs) → IsTracked s counts lists left
    → length s.table.names < 65536 → AllByRecursion (λ i. i < length s.table.names) (tickets e.inputs) → NoneDead s.table.outcomes (tickets e.inputs) → KeepsElement e o v → is_released o ≡ false → w.tickets ≡ []
    → length now ≡ length counts + 1 → length rest ≡ length lists + 1
    → ((k : ℕ) → slice_index_or now k 0 ≡ slice_index_or (counts ++ 0 ∷ []) k 0 + one_if (is_pending o && is_among e.inputs k))
    → ((k : ℕ) → is_among waited k ≡ (is_among e.inputs k && is_pending (outcome_at s.table.outcomes k)))
    → ((k : ℕ) → waiting_at rest k ≡ waiting_at (lists ++ w ∷ []) k ++ entry_for waited (length s.table.names) k)
    → count ≡ left + one_if (is_pending o)
    → IsTracked (record { table = with_entry s.table n e o; kept = s.kept ++ v ∷ [] }) now rest count
push-tracked s counts now lists rest left count n e o v w waited tracked room own living keeps stays none counts-size lists-size raised opens each count-is =
    let os = s.table.outcomes in
    let es = s.table.submissions in
    let same : length es ≡ length os = tracked.whole.submissions ∙ sym tracked.whole.outcomes in
    let own' : AllByRecursion (λ i. i < length os) (tickets e.inputs) = subst (λ (m : ℕ). AllByRecursion (λ i. i < m) (tickets e.inputs)) (sym tracked.whole.outcomes) own in
    record {
      whole = whole-push s n e o v tracked.whole room own;
      counted = omega (arith, counts-size, tracked.counted, length-append s.table.names (n ∷ []));
      listed = omega (arith, lists-size, tracked.listed, length-append s.table.names (n ∷ []));
      pending = omega (arith, count-is, tracked.pending, count-push os o);
      wanted = λ k. omega (arith, raised k, zero-behind counts k, tracked.wanted k, wanted-push es os e o k same);
      waiting = waiting-push es os e o lists rest w waited tracked.waiting same tracked.whole.inputs own' none opens
          (λ k. each k ∙ ap (λ (m : ℕ). waiting_at (lists ++ w ∷ []) k ++ entry_for waited m k) (sym tracked.whole.outcomes));
      spent = λ k released nobody.
          elim (cases_lt k (length os)) [
            | inl less ↦
                let was = ap is_released (sym (get_or_append_left os (o ∷ []) outcome.Pending k less)) ∙ released in
                let before : wanted_by es os k ≡ 0 = omega (arith, nobody, wanted-push es os e o k same) in
                get_or_append_left s.kept (v ∷ []) None k (omega (arith, less, tracked.whole.outcomes, tracked.whole.kept)) ∙ tracked.spent k was before
            | inr past ↦
                let last : outcome_at (os ++ o ∷ []) k ≡ outcome_at (o ∷ []) (k - length os) = get_or-append_right os (o ∷ []) (length os) k outcome.Pending refl past in
                let no : is_released (outcome_at (os ++ o ∷ []) k) ≡ false = ap is_released last ∙ not-released o (k - length os) stays in
                absurd (cc (no, released))
          ];
      alive = subst (NoneAwaits (es ++ e ∷ []) (os ++ o ∷ [])) (sym (length-append s.table.names (n ∷ []))) (none-awaits-push es os e o (length s.table.names) same (sym tracked.whole.outcomes) tracked.whole.inputs own' living tracked.alive);
      elements = subst (KeepsFirst (es ++ e ∷ []) (os ++ o ∷ []) (s.kept ++ v ∷ [])) (sym (length-append s.table.names (n ∷ [])))
          (elements-push es os s.kept e o v (length s.table.names) tracked.whole.submissions tracked.whole.outcomes tracked.whole.kept keeps tracked.elements);
    }
