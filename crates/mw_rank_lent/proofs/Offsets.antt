-- The offsets of a square, one by one.
use Rattle.std.proofs.Common.{◌≡◌, ℕ, zero, suc, ◌+◌, ◌-◌, ◌*◌, ◌<◌, pos, ◌+ℤ◌, length, get_or, ap, sym, arith, ◌∙◌, inl, inr}
use Rattle.std.proofs.lemmas.Bool.{cases_lt}
use Rattle.std.proofs.lemmas.Int.{ints}
use Rattle.std.proofs.lemmas.List.{get_or_append_left, get_or-append_right, length-append}
use Rattle.std.proofs.lemmas.Nat.{mul-add-lt}
use Rattle.mw_model.specs.declared.offsets.Offset.{Offset}
use Rattle.mw_rank_medians.specs.mw_rank.Runs.{next_offset, offsets_from}
use Rattle.mw_rank_medians.specs.Squares.{IsMedian, offset_rows, row_down}
use Rattle.mw_rank_medians.proofs.mw_rank.Sights.{at_dx, length-offsets, offset_on}
use Rattle.mw_rank_lent.specs.declared.squares.Square.{Square}
use Rattle.mw_rank_lent.specs.Middles.{IsMiddle}

-- how many offsets rows have
pub length-square : (b : Offset) (side n : ℕ) → length (offset_rows b side n) ≡ n * side
length-square b side zero = omega arith
length-square b side (suc n) =
    let more = length-append (offset_rows b side n) (offsets_from (row_down b n) side) in
    omega (arith, more, length-square b side n, length-offsets (row_down b n) side)

-- each of them
in_row : (b : Offset) (n i : ℕ) (d : Offset) → i < n → get_or (offsets_from b n) i d ≡ offset_on b i
in_row b zero i d lt = absurd (omega (arith, lt))
in_row b (suc n) zero d lt = at_dx b.dx (b.dx +ℤ pos 0) b.dy (omega (arith, ints))
in_row b (suc n) (suc i) d lt = in_row (next_offset b) n i d (omega (arith, lt)) ∙ at_dx (b.dx +ℤ pos 1 +ℤ pos i) (b.dx +ℤ pos (suc i)) b.dy (omega (arith, ints))

pub in_square : (b : Offset) (side n row column : ℕ) (d : Offset) → row < n → column < side → get_or (offset_rows b side n) (row * side + column) d ≡ offset_on (row_down b row) column
in_square b side zero row column d down across = absurd (omega (arith, down))
in_square b side (suc n) row column d down across =
    elim (cases_lt row n) [
      | inl less ↦
          get_or_append_left (offset_rows b side n) (offsets_from (row_down b n) side) d (row * side + column) (omega (arith, size, mul-add-lt row side column n less across))
          ∙ in_square b side n row column d less across
      | inr past ↦
          let same : row ≡ n = omega (arith, past, down) in
          ap (λ (r : ℕ). get_or (offset_rows b side (suc n)) (r * side + column) d) same
          ∙ get_or-append_right (offset_rows b side n) (offsets_from (row_down b n) side) (n * side) (n * side + column) d size (omega arith)
          ∙ ap (λ (i : ℕ). get_or (offsets_from (row_down b n) side) i d) (let e : n * side + column - n * side ≡ column = omega arith in e)
          ∙ in_row (row_down b n) side column d across
          ∙ ap (λ (r : ℕ). offset_on (row_down b r) column) (sym same)
    ]
  where
    size : length (offset_rows b side n) ≡ n * side
    size = length-square b side n

-- how far a square reaches whose median has this number
pub reach_known : (s : Square) (reach k : ℕ) → IsMiddle s → s.k ≡ k → IsMedian (2 * reach + 1) k → s.reach ≡ reach
reach_known s reach k middle is median = go s.side s.k middle.median median middle.side is
  where
    go : (side n : ℕ) → IsMedian side n → IsMedian (2 * reach + 1) k → side ≡ 2 * s.reach + 1 → n ≡ k → s.reach ≡ reach
    go side n (inl (a, b)) (inl (c, d)) e f = omega (arith, a, c, e)
    go side n (inl (a, b)) (inr (c, d)) e f = omega (arith, b, d, f)
    go side n (inr (a, b)) (inl (c, d)) e f = omega (arith, b, d, f)
    go side n (inr (a, b)) (inr (c, d)) e f = omega (arith, a, c, e)
