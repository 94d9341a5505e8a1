-- Passes over samples, one after another.
use Rattle.std.proofs.Common.{◌≡◌, ℕ, ◌+◌, ◌<◌, ◌≤◌, ◌≢◌, ◌⊎◌, List, length, get_or, set, map, refl, ap, sym, arith, ◌∙◌, inl, inr}
use Rattle.std.proofs.Math.ListN.{length-set}
use Rattle.std.proofs.lemmas.Bool.{cases_lt}
use Rattle.std.proofs.lemmas.List.{get_or-map, get_or-set_same, get_or-set_other, map-set, length-map}
use Rattle.mw_geodesic_levels.specs.Levels.{level_numbered}

-- a sample that was read has the level of its number
pub level_read : {A : Type 0} (level : A → ℕ) (xs : List A) (i : ℕ) (a : A) → i < length xs → a ≡ get_or xs i a → level a ≡ level_numbered level xs i
level_read level xs i a lt is = ap level is ∙ sym (get_or-map level xs i a 0 lt)

level_set_same : {A : Type 0} (level : A → ℕ) (xs : List A) (i : ℕ) (s : A) → i < length xs → level_numbered level (set xs i s) i ≡ level s
level_set_same level xs i s lt =
    ap (λ (l : List ℕ). get_or l i 0) (map-set level xs i s) ∙ get_or-set_same (map level xs) i (level s) 0 (omega (arith, length-map xs level))

level_set_other : {A : Type 0} (level : A → ℕ) (xs : List A) (i k : ℕ) (s : A) → k ≢ i → level_numbered level (set xs i s) k ≡ level_numbered level xs k
level_set_other level xs i k s other =
    ap (λ (l : List ℕ). get_or l k 0) (map-set level xs i s) ∙ get_or-set_other (map level xs) i k (level s) 0 other

-- ---- all samples

-- the first i levels have their values, made from what stood there, and the others are as they were
pub record ArePassed {A : Type 0} (level : A → ℕ) (value : ℕ → ℕ → ℕ) (i : ℕ) (old now : List A) : Type 0 where
  pub size : length now ≡ length old
  pub done : (k : ℕ) → k < i → level_numbered level now k ≡ value k (level_numbered level old k)
  pub rest : (k : ℕ) → i ≤ k → level_numbered level now k ≡ level_numbered level old k

pub none_passed : {A : Type 0} (level : A → ℕ) (value : ℕ → ℕ → ℕ) (old : List A) → ArePassed level value 0 old old
none_passed level value old = record { size = refl; done = λ k lt. absurd (omega arith); rest = λ k le. refl }

pub passed_on : {A : Type 0} (level : A → ℕ) (value : ℕ → ℕ → ℕ) (i : ℕ) (old now : List A) (a s : A) → i < length now → a ≡ get_or now i a → level s ≡ value i (level a)
    → ArePassed level value i old now → ArePassed level value (i + 1) old (set now i s)
passed_on level value i old now a s lt read is before = record {
  size = length-set now i s ∙ before.size;
  done = λ k less. elim (cases_lt k i) [
    | inl earlier ↦
        let other : k ≢ i = omega arith in
        level_set_other level now i k s other ∙ before.done k earlier
    | inr from ↦
        let here : k ≡ i = omega arith in
        rw here (level_set_same level now i s lt ∙ is ∙ ap (value i) (level_read level now i a lt read ∙ before.rest i (omega arith)))
  ];
  rest = λ k from.
      let other : k ≢ i = omega arith in
      level_set_other level now i k s other ∙ before.rest k (omega arith);
}

-- ---- a run of them

-- the levels of the numbers from one on and below i are 0, and the others are as they were
pub record AreClearedTo {A : Type 0} (level : A → ℕ) (from i : ℕ) (old now : List A) : Type 0 where
  pub size : length now ≡ length old
  pub inside : (k : ℕ) → from ≤ k → k < i → level_numbered level now k ≡ 0
  pub outside : (k : ℕ) → (k < from) ⊎ (i ≤ k) → level_numbered level now k ≡ level_numbered level old k

pub none_cleared : {A : Type 0} (level : A → ℕ) (from : ℕ) (old : List A) → AreClearedTo level from from old old
none_cleared level from old = record { size = refl; inside = λ k le lt. absurd (omega arith); outside = λ k either. refl }

pub one_cleared : {A : Type 0} (level : A → ℕ) (from i : ℕ) (old now : List A) (s : A) → i < length now → from ≤ i → level s ≡ 0 → AreClearedTo level from i old now → AreClearedTo level from (i + 1) old (set now i s)
one_cleared level from i old now s lt behind is before = record {
  size = length-set now i s ∙ before.size;
  inside = λ k le less. elim (cases_lt k i) [
    | inl earlier ↦
        let other : k ≢ i = omega arith in
        level_set_other level now i k s other ∙ before.inside k le earlier
    | inr past ↦
        let here : k ≡ i = omega arith in
        rw here (level_set_same level now i s lt ∙ is)
  ];
  outside = λ k either. elim either [
    | inl ahead ↦
        let other : k ≢ i = omega arith in
        level_set_other level now i k s other ∙ before.outside k (inl ahead)
    | inr past ↦
        let other : k ≢ i = omega arith in
        level_set_other level now i k s other ∙ before.outside k (inr (omega arith))
  ];
}
