use Rattle.std.proofs.Common.{◌≡◌, ℕ, ◌+◌, ◌-◌, ◌*◌, get_or, refl, ap, arith, ◌∙◌}
use Rattle.mw_line.proofs.Folds.{IsExtremum}
use Rattle.mw_line_lent.proofs.Bests.{best_at, best_pair, best_same, best_shift}
use Rattle.mw_line_lent.proofs.Puts.{rows_le}
use Rattle.mw_line_lent.proofs.fours.two_of_rows.Goals as goal

pub returns-clause-first : goal.returns-clause-first
returns-clause-first g c = λ i d lt.
    let f = g.E.Extremum.merge in
    let laws : IsExtremum f = record { commutes = g.met.E.Extremum.commutes; associates = g.met.E.Extremum.associates; is_idempotent = g.met.E.Extremum.is_idempotent } in
    let n = c.args.neutral in
    let rows = c.args.rows in
    let from = c.args.from in
    let count = rows.count in
    let samples = rows.samples.now in
    let lane = g.P.Laned.lane in
    let u : ℕ → g.row.P.Denot = λ j. get_or samples (rows.from + j * rows.stride + (from + i)) d in
    let both = best_at f (λ j. f n (u j)) (1 + 0) (1 + (count - 1)) 1 count (lane c.best_of_rows-both.result i) _ (omega arith) (omega (arith, c.requires.some)) refl
    (best_shift f (λ j. f n (u j)) 1 0 (count - 1) _
    (best_same f (λ j. f n (get_or samples (rows.from + rows.stride + j * rows.stride + (from + i)) d)) (λ j. f n (u (1 + j))) 0 (count - 1) _
    (λ j low high. ap (λ (t : ℕ). f n (get_or samples t d)) (next rows.from rows.stride j (from + i))) (c.best_of_rows-both.ensures i d lt))) in
    let upper-place : rows.from + from + i ≡ rows.from + 0 * rows.stride + (from + i) = omega arith in
    let lower-place : rows.from + from + count * rows.stride + i ≡ rows.from + count * rows.stride + (from + i) = omega arith in
    let pair = best_pair f laws n u count (lane c.best_of_rows-both.result i) (lane c.merged-upper.result i) (lane c.merged-lower.result i) c.requires.some both
    (c.merged-upper.ensures i lt ∙ ap (f (lane c.best_of_rows-both.result i)) (c.load.ensures i d lt ∙ ap (λ (t : ℕ). get_or samples t d) upper-place))
    (c.merged-lower.ensures i lt ∙ ap (f (lane c.best_of_rows-both.result i)) (c.load-2.ensures i d lt ∙ ap (λ (t : ℕ). get_or samples t d) lower-place)) in
    pair.0
  where
    next : (from s j x : ℕ) → from + s + j * s + x ≡ from + (1 + j) * s + x
    next from s j x = omega arith

pub returns-clause-second : goal.returns-clause-second
returns-clause-second g c = λ i d lt.
    let f = g.E.Extremum.merge in
    let laws : IsExtremum f = record { commutes = g.met.E.Extremum.commutes; associates = g.met.E.Extremum.associates; is_idempotent = g.met.E.Extremum.is_idempotent } in
    let n = c.args.neutral in
    let rows = c.args.rows in
    let from = c.args.from in
    let count = rows.count in
    let samples = rows.samples.now in
    let lane = g.P.Laned.lane in
    let u : ℕ → g.row.P.Denot = λ j. get_or samples (rows.from + j * rows.stride + (from + i)) d in
    let both = best_at f (λ j. f n (u j)) (1 + 0) (1 + (count - 1)) 1 count (lane c.best_of_rows-both.result i) _ (omega arith) (omega (arith, c.requires.some)) refl
    (best_shift f (λ j. f n (u j)) 1 0 (count - 1) _
    (best_same f (λ j. f n (get_or samples (rows.from + rows.stride + j * rows.stride + (from + i)) d)) (λ j. f n (u (1 + j))) 0 (count - 1) _
    (λ j low high. ap (λ (t : ℕ). f n (get_or samples t d)) (next rows.from rows.stride j (from + i))) (c.best_of_rows-both.ensures i d lt))) in
    let upper-place : rows.from + from + i ≡ rows.from + 0 * rows.stride + (from + i) = omega arith in
    let lower-place : rows.from + from + count * rows.stride + i ≡ rows.from + count * rows.stride + (from + i) = omega arith in
    let pair = best_pair f laws n u count (lane c.best_of_rows-both.result i) (lane c.merged-upper.result i) (lane c.merged-lower.result i) c.requires.some both
    (c.merged-upper.ensures i lt ∙ ap (f (lane c.best_of_rows-both.result i)) (c.load.ensures i d lt ∙ ap (λ (t : ℕ). get_or samples t d) upper-place))
    (c.merged-lower.ensures i lt ∙ ap (f (lane c.best_of_rows-both.result i)) (c.load-2.ensures i d lt ∙ ap (λ (t : ℕ). get_or samples t d) lower-place)) in
    pair.1
  where
    next : (from s j x : ℕ) → from + s + j * s + x ≡ from + (1 + j) * s + x
    next from s j x = omega arith

pub best_of_rows-both-requires-clause-inside : goal.best_of_rows-both-requires-clause-inside
best_of_rows-both-requires-clause-inside g c =
    let rows = c.args.rows in
    let s = rows.stride in
    let low = rows.count - 1 - 1 in
    let fits = rows_le (low + 1) (rows.count) s (omega (arith, c.requires.some)) in
    omega (arith, fits, spread low s, c.requires.inside)
  where
    spread : (a m : ℕ) → (a + 1) * m ≡ a * m + 1 * m
    spread a m = omega arith
