-- Numbers of some places, which are written one after another.
use Rattle.std.proofs.Common.{◌≡◌, ◌≢◌, ℕ, ◌+◌, ◌<◌, Bool, true, false, nat_eq, inl, inr, List, length, take, get_or, set, refl, sym, ap, ◌∙◌, length-set}
use Rattle.std.specs.Prelude.{◌||◌}
use Rattle.std.specs.List.{list_any}
use Rattle.std.proofs.lemmas.Bool.{cases_Bool, cases_eq, eqb-true, eqb-false, or_parts}
use Rattle.std.proofs.lemmas.List.{get_or-set_same, get_or-set_other}
use Rattle.std.proofs.lemmas.List.Folds.{list_any_more}

-- The numbers of these places are those of g, and all others are as they were.
pub record AreAnew (g : ℕ → ℕ) (before now places : List ℕ) : Type 0 where
  pub long : length now ≡ length before
  pub right : (v : ℕ) → list_any (nat_eq v) places ≡ true → get_or now v 0 ≡ g v
  pub kept : (v : ℕ) → list_any (nat_eq v) places ≡ false → get_or now v 0 ≡ get_or before v 0

or_true : (a b : Bool) → (a || b) ≡ true → b ≡ false → a ≡ true
or_true true b e n = refl
or_true false b e n = absurd cc

-- one place more
pub anew-more : (g : ℕ → ℕ) (before now places : List ℕ) (i u : ℕ) → i < length places → u ≡ get_or places i 0 → u < length now → AreAnew g before now (take i places) → AreAnew g before (set now u (g u)) (take (i + 1) places)
anew-more g before now places i u within u-is inside anew =
    let next : (v : ℕ) → list_any (nat_eq v) (take (i + 1) places) ≡ (list_any (nat_eq v) (take i places) || nat_eq v u) =
    λ v. list_any_more (nat_eq v) places i 0 within ∙ ap (λ (w : ℕ). list_any (nat_eq v) (take i places) || nat_eq v w) (sym u-is)
    in
    let same : (v : ℕ) → v ≡ u → get_or (set now u (g u)) v 0 ≡ g v = λ v e. ap (λ (j : ℕ). get_or (set now u (g u)) j 0) e ∙ get_or-set_same now u (g u) 0 inside ∙ sym (ap g e) in
    let other : (v : ℕ) → v ≢ u → get_or (set now u (g u)) v 0 ≡ get_or now v 0 = λ v ne. get_or-set_other now u v (g u) 0 ne in
    let size : length (set now u (g u)) ≡ length now = simp length-set in
    record {
      long = size ∙ anew.long;
      right = λ v in_list. elim (cases_Bool (nat_eq v u)) [
        | inl e ↦ same v (eqb-true v u e)
        | inr ne ↦ elim (cases_eq v u) [
          | inl e ↦ same v e
          | inr apart ↦ other v apart ∙ anew.right v (or_true (list_any (nat_eq v) (take i places)) (nat_eq v u) (sym (next v) ∙ in_list) ne)
        ]
      ];
      kept = λ v out. let parts = or_parts (list_any (nat_eq v) (take i places)) (nat_eq v u) (sym (next v) ∙ out) in other v (eqb-false v u parts.1) ∙ anew.kept v parts.0;
    }
