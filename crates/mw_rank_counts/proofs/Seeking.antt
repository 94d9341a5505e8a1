-- The search for a rank by counting.
use Rattle.std.proofs.Common.{◌≡◌, ℕ, ◌+◌, ◌-◌, ◌*◌, ◌%◌, ◌^◌, ◌<◌, ◌≤◌, List, [], ◌∷◌, ◌++◌, length, get_or, set, take, drop, get_or-set_same, get_or-set_other, refl, ap, sym, arith, ◌∙◌, inl, inr, subst, length-drop, length-append}
use Rattle.std.specs.Prelude.{min, max}
use Rattle.std.proofs.lemmas.Bool.{cases_lt, lt-ltb, le-ltb}
use Rattle.std.proofs.lemmas.Grind.{pow_more}
use Rattle.std.proofs.lemmas.Nat.{pow_below}
use Rattle.std.proofs.lemmas.List.{get_or-drop, get_or_append_left, get_or-append-add, get_or_default, take_rest}
use Rattle.std.proofs.Math.ListN.{length-map}
use Rattle.mw_model.specs.PlanSteps.{ranked}
use Rattle.mw_model.proofs.Ranks.{nth_from}
use Rattle.mw_rank_counts.specs.Counting.{levels_on, HasPlaces, AllUnder, AreFrom, IsBetween, AreBetween, raised}
use Rattle.mw_rank.specs.Ranks.{GainsRow}
use Rattle.mw_rank.specs.Tallies.{count_under}
use Rattle.mw_rank.proofs.Edges.{gains_joined}
use Rattle.mw_rank_counts.proofs.Counts.{count_all, count_none}

raised_low : (step n v : ℕ) (ns : List ℕ) → count_under (v + step) ns < n → raised step n ns v ≡ v + step
raised_low step n v ns few = rw (lt-ltb (count_under (v + step) ns) n few) refl

raised_not : (step n v : ℕ) (ns : List ℕ) → n ≤ count_under (v + step) ns → raised step n ns v ≡ v
raised_not step n v ns enough = rw (le-ltb (count_under (v + step) ns) n enough) refl

double : (b : ℕ) → 2 ^ (b + 1) ≡ 2 ^ b + 2 ^ b
double b = omega (arith, pow_more 2 b)

-- a step of the search leaves half the range
narrowed : (n v b : ℕ) (ns : List ℕ) → IsBetween n v (2 ^ (b + 1)) ns → IsBetween n (raised (2 ^ b) n ns v) (2 ^ b) ns
narrowed n v b ns t = elim (cases_lt (count_under (v + 2 ^ b) ns) n) [
  | inl few ↦
      let far : count_under (v + 2 ^ (b + 1)) ns ≡ count_under (v + 2 ^ b + 2 ^ b) ns = ap (λ (u : ℕ). count_under u ns) (let e : v + 2 ^ (b + 1) ≡ v + 2 ^ b + 2 ^ b = omega (arith, double b) in e) in
      let half : IsBetween n (v + 2 ^ b) (2 ^ b) ns = record { few = few; enough = omega (arith, far, t.enough) } in
      subst (λ (u : ℕ). IsBetween n u (2 ^ b) ns) (sym (raised_low (2 ^ b) n v ns few)) half
  | inr enough ↦
      let half : IsBetween n v (2 ^ b) ns = record { few = t.few; enough = enough } in
      subst (λ (u : ℕ). IsBetween n u (2 ^ b) ns) (sym (raised_not (2 ^ b) n v ns enough)) half
]

pub from_lowest : {A : Type 0} (level : A → ℕ) (d : A) (samples : List A) (places : List ℕ) (limit : ℕ) (found : List A) → HasPlaces samples 32 places → AllUnder level d samples limit → ((i : ℕ) → i < 32 → level (get_or found i d) ≡ 0)
    → AreFrom level d samples places limit found
from_lowest level d samples places limit found inside small lowest = record {
  low = λ q i lt less. omega (arith, lowest i less);
  high = λ q i lt less. omega (arith, small (get_or places q 0 + i) (omega (arith, inside q lt)));
}

pub between_first : {A : Type 0} (level : A → ℕ) (d : A) (samples : List A) (places : List ℕ) (n bits : ℕ) (found : List A) → 1 ≤ n → n ≤ length places → AreFrom level d samples places (2 ^ bits) found → AreBetween level d samples places n bits found
between_first level d samples places n bits found some within from = λ i less.
    let v = level (get_or found i d) in
    record { few = omega (arith, count_none level d samples v i places (λ q lt. from.low q i lt less)); enough = omega (arith, count_all level d samples (v + 2 ^ bits) i places (λ q lt. from.high q i lt less)) }

pub between_next : {A : Type 0} (level : A → ℕ) (d : A) (samples : List A) (places : List ℕ) (n b : ℕ) (old new : List A) → ((i : ℕ) → i < 32 → level (get_or new i d) ≡ raised (2 ^ b) n (levels_on level d samples places i) (level (get_or old i d)))
    → AreBetween level d samples places n (b + 1) old → AreBetween level d samples places n b new
between_next level d samples places n b old new step before = λ i lt.
    subst (λ (v : ℕ). IsBetween n v (2 ^ b) (levels_on level d samples places i)) (sym (step i lt)) (narrowed n (level (get_or old i d)) b (levels_on level d samples places i) (before i lt))

pub step_is : (b : ℕ) → b < 16 → 1 * 2 ^ b % 65536 ≡ 2 ^ b
step_is b lt = let small : 2 ^ b < 65536 = pow_below b 16 lt in omega arith

-- a step is a level
pub step_small : (b most top : ℕ) → b < most → top + 1 ≡ 2 ^ most → 2 ^ b ≤ top
step_small b most top lt top-is = omega (arith, pow_below b most lt)

-- with one bit less than some
pub bits_before : {A : Type 0} (level : A → ℕ) (d : A) (samples : List A) (places : List ℕ) (n bits : ℕ) (found : List A) → 1 ≤ bits → AreBetween level d samples places n bits found → AreBetween level d samples places n (bits - 1 + 1) found
bits_before level d samples places n bits found some t = subst (λ (b : ℕ). AreBetween level d samples places n b found) (let e : bits ≡ bits - 1 + 1 = omega arith in e) t

pub between_last : {A : Type 0} (level : A → ℕ) (d : A) (samples : List A) (places : List ℕ) (n k : ℕ) (found : List A) → n ≡ max 1 (min k (length places)) → AreBetween level d samples places n 0 found
    → (i : ℕ) → i < 32 → level (get_or found i d) ≡ ranked k (levels_on level d samples places i)
between_last level d samples places n k found n-is before i lt =
    let ns = levels_on level d samples places i in
    let last = before i lt in
    nth_from ns k n (level (get_or found i d)) (omega (arith, n-is, length-map places (λ (p : ℕ). level (get_or samples (p + i) d)))) (last.few, last.enough)

-- a level that is over no level seen so far, and the next
pub greatest_more : {A : Type 0} (level : A → ℕ) (d : A) (samples : List A) (j most v : ℕ) (s : A) → j < length samples → s ≡ get_or samples j s → v ≡ level s → ((i : ℕ) → i < j → level (get_or samples i d) < most + 1) → (i : ℕ) → i < j + 1 → level (get_or samples i d) < max most v + 1
greatest_more level d samples j most v s lt s-is v-is before i less = elim (cases_lt i j) [
  | inl early ↦ omega (arith, before i early)
  | inr late ↦
      let here : i ≡ j = omega arith in
      let same : level (get_or samples i d) ≡ v = ap (λ (t : ℕ). level (get_or samples t d)) here ∙ ap level (get_or_default samples j d s lt ∙ sym s-is) ∙ sym v-is in
      omega (arith, same)
]

-- one level more is the lowest
pub cleared_more : {A : Type 0} (level : A → ℕ) (d lowest : A) (samples : List A) (j : ℕ) → j < length samples → level lowest ≡ 0 → ((i : ℕ) → i < j → level (get_or samples i d) ≡ 0) → (i : ℕ) → i < j + 1 → level (get_or (set samples j lowest) i d) ≡ 0
cleared_more level d lowest samples j lt zero-is before i less = elim (cases_lt i j) [
  | inl early ↦ ap level (get_or-set_other samples j i lowest d (omega arith)) ∙ before i early
  | inr late ↦ ap (λ (t : ℕ). level (get_or (set samples j lowest) t d)) (let here : i ≡ j = omega arith in here) ∙ ap level (get_or-set_same samples j lowest d lt) ∙ zero-is
]

-- the levels so many columns on are those of the samples from there on
levels_on-drop : {A : Type 0} (level : A → ℕ) (d : A) (samples : List A) (from i : ℕ) (places : List ℕ) → levels_on level d (drop from samples) places i ≡ levels_on level d samples places (from + i)
levels_on-drop level d samples from i [] = refl
levels_on-drop level d samples from i (p ∷ ps) =
    ap (λ (t : _). level t ∷ levels_on level d (drop from samples) ps i) (get_or-drop from samples (p + i) d)
    ∙ ap (λ (t : ℕ). level (get_or samples t d) ∷ levels_on level d (drop from samples) ps i) (let e : from + (p + i) ≡ p + (from + i) = omega arith in e)
    ∙ ap (λ (t : List ℕ). level (get_or samples (p + (from + i)) d) ∷ t) (levels_on-drop level d samples from i ps)

-- samples of known levels are added
pub slice_gained : {A : Type 0} (level : A → ℕ) (d : A) (value : ℕ → ℕ) (n : ℕ) (cells out new : List A) → length cells ≡ n → ((i : ℕ) → i < n → level (get_or cells i d) ≡ value i) → new ≡ out ++ cells → GainsRow level value n out new
slice_gained level d value n cells out new long known new-is = record {
  size = omega (arith, ap length new-is, length-append out cells);
  kept = λ p e lt. ap (λ (l : List _). get_or l p e) new-is ∙ get_or_append_left out cells e p lt;
  made = λ x e lt. ap (λ (l : List _). level (get_or l (length out + x) e)) new-is ∙ ap level (get_or-append-add out cells x e) ∙ ap level (get_or_default cells x e d (omega arith)) ∙ known x lt;
}

-- what was found of a block is added, save some of the first
pub block_gained : {A : Type 0} (level : A → ℕ) (d : A) (value : ℕ → ℕ) (skip : ℕ) (found out new : List A) → length found ≡ 32 → skip ≤ 32 → ((i : ℕ) → i < 32 → level (get_or found i d) ≡ value i) → new ≡ out ++ take (length found - skip) (drop skip found)
    → GainsRow level (λ i. value (skip + i)) (32 - skip) out new
block_gained level d value skip found out new whole part known new-is =
    slice_gained level d (λ i. value (skip + i)) (32 - skip) (drop skip found) out new (omega (arith, length-drop skip found)) (λ i lt. ap level (get_or-drop skip found i d) ∙ known (skip + i) (omega arith)) (new-is ∙ ap (λ (l : List _). out ++ l) (take_rest found skip))

-- the blocks up to one more
pub blocks_more : {A : Type 0} (level : A → ℕ) (d : A) (samples : List A) (places : List ℕ) (k done from : ℕ) (old mid new : List A) → from ≤ done → done ≤ from + 32
    → GainsRow level (λ i. ranked k (levels_on level d (take (length samples - from) (drop from samples)) places (done - from + i))) (32 - (done - from)) mid new → GainsRow level (λ i. ranked k (levels_on level d samples places i)) done old mid
    → GainsRow level (λ i. ranked k (levels_on level d samples places i)) (from + 32) old new
blocks_more level d samples places k done from old mid new low high more before =
    gains_joined level (λ i. ranked k (levels_on level d samples places i)) (λ i. ranked k (levels_on level d (take (length samples - from) (drop from samples)) places (done - from + i))) done (32 - (done - from)) (from + 32) old mid new (omega arith)
    (λ i. ap (ranked k) (ap (λ (l : List _). levels_on level d l places (done - from + i)) (take_rest samples from) ∙ levels_on-drop level d samples from (done - from + i) places ∙ ap (levels_on level d samples places) (let e : from + (done - from + i) ≡ done + i = omega arith in e)))
    before more
