-- Extrema of runs of values with a neutral one.
use Rattle.std.proofs.Common.{◌≡◌, ◌⊎◌, ℕ, ◌+◌, ◌<◌, ◌≤◌, ℤ, pos, ◌+ℤ◌, inl, inr, ap, sym, arith, ◌∙◌}
use Rattle.std.specs.Option.{unwrap_or}
use Rattle.std.proofs.lemmas.Bool.{cases_lt}
use Rattle.mw_model.specs.Windows.{View}
use Rattle.mw_line.specs.Cells.{merged_cell, window_cell}
use Rattle.mw_line.proofs.Folds.{IsExtremum}
use Rattle.mw_line.proofs.Over.{merged_or}
use Rattle.mw_line_lent.specs.Bests.{IsBest, IsBestWith}
use Rattle.mw_line_lent.proofs.Bests.{below-left, below-right, below_both, below-trans}

pub run_none : {A : Type 0} (f : A → A → A) → IsExtremum f → (n : A) (v : ℕ → A) (a b : ℕ) (r : A) → b ≤ a → r ≡ n → IsBestWith f n v a b r
run_none f laws n v a b r none is = record {
  near = ap (λ (t : _). f t n) is ∙ laws.is_idempotent n ∙ sym is;
  below = λ k from to. absurd (omega (arith, from, to, none));
  most = λ z low all. ap (f z) is ∙ low;
}

-- one value more, which is n merged with a cell
run_more : {A : Type 0} (f : A → A → A) → IsExtremum f → (n : A) (v : ℕ → A) (a b c d p : ℕ) (r cell s : A) → c ≤ a → b ≤ d → c ≤ p → p < d → ((k : ℕ) → c ≤ k → k < d → (k ≡ p) ⊎ ((a ≤ k) × (k < b)))
    → f n cell ≡ v p → s ≡ f r cell → IsBestWith f n v a b r → IsBestWith f n v c d s
run_more f laws n v a b c d p r cell s from to low high places cell-is s-is run = rw (s-is) (record {
  near = below-trans f laws (f r cell) r n (below-left f laws r cell) run.near;
  below = λ k after before. elim (places k after before) [
    | inl here ↦
        ap (λ (t : ℕ). f (f r cell) (v t)) here
        ∙ ap (f (f r cell)) (sym cell-is)
        ∙ below_both f laws (f r cell) n cell (below-trans f laws (f r cell) r n (below-left f laws r cell) run.near) (below-right f laws r cell)
    | inr within ↦ below-trans f laws (f r cell) r (v k) (below-left f laws r cell) (run.below k within.0 within.1)
  ];
  most = λ z near all.
      let under : f z (f n cell) ≡ z = ap (f z) cell-is ∙ all p low high in
      below_both f laws z r cell (run.most z near (λ k after before. all k (omega (arith, after, from)) (omega (arith, before, to)))) (below-trans f laws z (f n cell) cell under (below-right f laws n cell));
})

pub run_before : {A : Type 0} (f : A → A → A) → IsExtremum f → (n : A) (v : ℕ → A) (a e b : ℕ) (r cell s : A) → e ≡ a + 1 → a < b → f n cell ≡ v a → s ≡ f r cell → IsBestWith f n v e b r → IsBestWith f n v a b s
run_before f laws n v a e b r cell s e-is lt cell-is s-is run =
    run_more f laws n v e b a b a r cell s (omega (arith, e-is)) (omega arith) (omega arith) lt (λ k after before. elim (cases_lt a k) [
      | inl late ↦ inr (omega (arith, late, e-is), before)
      | inr early ↦ inl (omega (arith, early, after))
    ]) cell-is s-is run

pub run_behind : {A : Type 0} (f : A → A → A) → IsExtremum f → (n : A) (v : ℕ → A) (a b e : ℕ) (r cell s : A) → e ≡ b + 1 → a ≤ b → f n cell ≡ v b → s ≡ f r cell → IsBestWith f n v a b r → IsBestWith f n v a e s
run_behind f laws n v a b e r cell s e-is le cell-is s-is run =
    run_more f laws n v a b a e b r cell s (omega arith) (omega (arith, e-is)) le (omega (arith, e-is)) (λ k after before. elim (cases_lt k b) [
      | inl early ↦ inr (after, early)
      | inr late ↦ inl (omega (arith, late, before, e-is))
    ]) cell-is s-is run

-- a run and the one behind it
pub run_joined : {A : Type 0} (f : A → A → A) → IsExtremum f → (n : A) (v : ℕ → A) (a b c : ℕ) (r q s : A) → a < b → b ≤ c → f (v a) n ≡ v a → s ≡ f q r → IsBestWith f n v a b r → IsBestWith f n v b c q → IsBest f v a c s
run_joined f laws n v a b c r q s some le low s-is first last = rw (s-is) (record {
  below = λ k from to. elim (cases_lt k b) [
    | inl early ↦ below-trans f laws (f q r) r (v k) (below-right f laws q r) (first.below k from early)
    | inr late ↦ below-trans f laws (f q r) q (v k) (below-left f laws q r) (last.below k late to)
  ];
  most = λ z all.
      let near : f z n ≡ z = below-trans f laws z (v a) n (all a (omega arith) (omega (arith, some, le))) low in
      below_both f laws z q r (last.most z near (λ k from to. all k (omega (arith, from, some)) to)) (first.most z near (λ k from to. all k from (omega (arith, to, le))));
})

-- what a cell is merged into lies below
pub cell_near : {A : Type 0} (f : A → A → A) → IsExtremum f → (n : A) (w : View A) (column row : ℤ) (x y : ℕ) → f (merged_cell f n w column row x y) n ≡ merged_cell f n w column row x y
cell_near f laws n w column row x y =
    let seen = window_cell w (column +ℤ pos x) (row +ℤ pos y) in
    let is = merged_or f laws n seen in
    ap (λ (t : _). f t n) (sym is) ∙ below-left f laws n (unwrap_or seen n) ∙ is
