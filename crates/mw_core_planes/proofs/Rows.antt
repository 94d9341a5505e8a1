-- Which tiles of rows and blocks are dropped.
use Rattle.std.proofs.Common.{◌≡◌, ◌≢◌, ℕ, ◌+◌, ◌*◌, ◌/◌, ◌%◌, ◌<◌, ◌≤◌, Bool, true, false, ◌&&◌, ◌||◌, nat_eq, refl, sym, ap, ◌∙◌, arith, inl, inr}
use Rattle.std.proofs.lemmas.Bool.{cases_eq, cases_lt, eq-eqb, ne_eqb, and_right, or_right}
use Rattle.std.proofs.Math.Nat.{mul-le-mul_left}
use Rattle.mw_model.proofs.mw_facts.Tests.{or-false_right}
use Rattle.mw_grid.specs.Counts.{in_range}
use Rattle.mw_grid.specs.Grids.{Tiling, columns_of, rows_of, tile_count}
use Rattle.mw_grid.proofs.Counts.{in-yes, in-low, in-high}
use Rattle.mw_grid.proofs.Meeting.{row_is}

range_same : (a t x : ℕ) → x ≢ t → in_range a (t + 1) x ≡ in_range a t x
range_same a t x other = elim (cases_lt x a) [
  | inl low ↦ in-low a (t + 1) x low ∙ sym (in-low a t x low)
  | inr from ↦ elim (cases_lt x t) [
    | inl less ↦ in-yes a (t + 1) x from (omega arith) ∙ sym (in-yes a t x from less)
    | inr past ↦ in-high a (t + 1) x (beyond x t past other) ∙ sym (in-high a t x past)
  ]
]
  where
    beyond : (x t : ℕ) → t ≤ x → x ≢ t → t + 1 ≤ x
    beyond x t le ne = omega arith

range_or : (a t x : ℕ) → a ≤ t → in_range a (t + 1) x ≡ in_range a t x || nat_eq x t
range_or a t x le = elim (cases_eq x t) [
  | inl here ↦ in-yes a (t + 1) x (omega arith) (omega arith) ∙ sym (or_right (in_range a t x) (nat_eq x t) (eq-eqb x t here))
  | inr other ↦ range_same a t x other ∙ or-false_right (in_range a t x) (nat_eq x t) (ne_eqb x t other)
]

-- a tile that stays
pub row_skip : (a t x : ℕ) (b : ℕ → Bool) → b t ≡ false → in_range a t x && b x ≡ in_range a (t + 1) x && b x
row_skip a t x b stays = elim (cases_eq x t) [
  | inl here ↦
      let none : b x ≡ false = ap b here ∙ stays in
      and_right (in_range a t x) (b x) none ∙ sym (and_right (in_range a (t + 1) x) (b x) none)
  | inr other ↦ ap (λ (r : Bool). r && b x) (sym (range_same a t x other))
]

-- a tile that goes
pub row_drop : (a t x : ℕ) (b : ℕ → Bool) → a ≤ t → b t ≡ true → in_range a (t + 1) x && b x ≡ (in_range a t x && b x) || nat_eq x t
row_drop a t x b le goes = elim (cases_eq x t) [
  | inl here ↦
      ap (λ (r : Bool). r && b x) (in-yes a (t + 1) x (omega arith) (omega arith)) ∙ ap b here ∙ goes ∙ sym (or_right (in_range a t x && b x) (nat_eq x t) (eq-eqb x t here))
  | inr other ↦ ap (λ (r : Bool). r && b x) (range_same a t x other) ∙ or-false_right (in_range a t x && b x) (nat_eq x t) (ne_eqb x t other)
]

or_and : (x y m b : Bool) → (x || y) && m && b ≡ (x && m && b) || (y && m && b)
or_and true true true true = refl
or_and true true true false = refl
or_and true true false true = refl
or_and true true false false = refl
or_and true false true true = refl
or_and true false true false = refl
or_and true false false true = refl
or_and true false false false = refl
or_and false true true true = refl
or_and false true true false = refl
or_and false true false true = refl
or_and false true false false = refl
or_and false false true true = refl
or_and false false true false = refl
or_and false false false true = refl
or_and false false false false = refl

-- a row of tiles more
pub block_more : (columns top row left right x : ℕ) (b : Bool) → 0 < columns → right ≤ columns → top ≤ row
    → in_range top (row + 1) (x / columns) && in_range left right (x % columns) && b
    ≡ (in_range top row (x / columns) && in_range left right (x % columns) && b) || (in_range (row * columns + left) (row * columns + right) x && b)
block_more columns top row left right x b some across le =
    ap (λ (r : Bool). r && in_range left right (x % columns) && b) (range_or top row (x / columns) le)
    ∙ or_and (in_range top row (x / columns)) (nat_eq (x / columns) row) (in_range left right (x % columns)) b
    ∙ ap (λ (r : Bool). (in_range top row (x / columns) && in_range left right (x % columns) && b) || (r && b)) (sym (row_is columns row left right x some across))

-- a row of a block ends within the tiles
pub row_fits : (g : Tiling) (row columns right : ℕ) → columns ≡ columns_of g → right ≤ columns_of g → row < rows_of g → row * columns + right ≤ tile_count g
row_fits g row columns right columns-is across lt =
    let up : row + 1 ≤ rows_of g = omega arith in
    rw columns-is (omega (arith, mul-le-mul_left (columns_of g) up))
