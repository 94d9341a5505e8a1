use Rattle.std.proofs.Common.{◌≡◌, ℕ, ◌+◌, ◌-◌, ◌*◌, ◌<◌, get_or, refl, ap, sym, arith, ◌∙◌}
use Rattle.mw_line.proofs.Folds.{IsExtremum}
use Rattle.mw_line_lent.specs.Bests.{IsBest}
use Rattle.mw_line_lent.specs.Boxes.{IsPutAt}
use Rattle.mw_line_lent.proofs.Bests.{best_at, best_fours, best_same, best_shift, each_of_four}
use Rattle.mw_line_lent.proofs.Puts.{in_rows_none, in_rows_one, rows_le}
use Rattle.mw_line_lent.proofs.fours.put_four_at.Goals as goal

pub returns-clause-put : goal.returns-clause-put
returns-clause-put g c =
    let at = c.args.lines.at + c.args.from in
    let w = c.args.lines.wide in
    let width = g.P.Laned.WIDTH in
    let old = c.args.out.now in
    let one : IsPutAt at width old c.store.new.out = record { size = c.store.ensures.size; before = c.store.ensures.before; behind = c.store.ensures.behind } in
    let two : IsPutAt (at + w) width c.store.new.out c.store-2.new.out = record { size = c.store-2.ensures.size; before = c.store-2.ensures.before; behind = c.store-2.ensures.behind } in
    let three : IsPutAt (at + 2 * w) width c.store-2.new.out c.store-3.new.out = record { size = c.store-3.ensures.size; before = c.store-3.ensures.before; behind = c.store-3.ensures.behind } in
    let four : IsPutAt (at + 3 * w) width c.store-3.new.out c.store-4.new.out = record { size = c.store-4.ensures.size; before = c.store-4.ensures.before; behind = c.store-4.ensures.behind } in
    in_rows_one 4 at width w 3 (at + 3 * w) old c.store-3.new.out c.store-4.new.out (omega arith) refl
    (in_rows_one 4 at width w 2 (at + 2 * w) old c.store-2.new.out c.store-3.new.out (omega arith) refl
    (in_rows_one 4 at width w 1 (at + w) old c.store.new.out c.store-2.new.out (omega arith) (omega arith) (in_rows_one 4 at width w 0 at old old c.store.new.out (omega arith) (omega arith) (in_rows_none 4 at width w old) one) two) three) four

pub returns-clause-made : goal.returns-clause-made
returns-clause-made g c = λ r i d few lt.
    let f = g.E.Extremum.merge in
    let laws : IsExtremum f = record { commutes = g.met.E.Extremum.commutes; associates = g.met.E.Extremum.associates; is_idempotent = g.met.E.Extremum.is_idempotent } in
    let n = c.args.neutral in
    let rows = c.args.rows in
    let from = c.args.from in
    let at = c.args.lines.at + from in
    let w = c.args.lines.wide in
    let s = rows.stride in
    let count = rows.count in
    let samples = rows.samples.now in
    let lane = g.P.Laned.lane in
    let u : ℕ → g.row.P.Denot = λ j. get_or samples (rows.from + j * s + (from + i)) d in
    let at_place = λ (p j : ℕ) (same : p ≡ rows.from + j * s + (from + i)). ap (λ (t : ℕ). get_or samples t d) same in
    let all = lane c.best_of_rows-all.result i in
    let shared = best_at f (λ j. f n (u j)) (3 + 0) (3 + (count - 3)) 3 count all _ (omega arith) (omega (arith, c.requires.some)) refl
    (best_shift f (λ j. f n (u j)) 3 0 (count - 3) _
    (best_same f (λ j. f n (get_or samples (rows.from + 3 * s + j * s + (from + i)) d)) (λ j. f n (u (3 + j))) 0 (count - 3) _
    (λ j low high. ap (λ (t : ℕ). f n (get_or samples t d)) (next rows.from s j (from + i))) (c.best_of_rows-all.ensures i d lt))) in
    let third = lane c.merged-third.result i in
    let second = lane c.merged-second.result i in
    let one = lane c.load-one.result i in
    let two = lane c.merged-two.result i in
    let three = lane c.merged-three.result i in
    let bests = best_fours f laws n u count all third second one two three _ _ _ _ c.requires.some shared
    (c.merged-third.ensures i lt ∙ ap (f all) (c.load.ensures i d lt ∙ at_place (rows.from + from + 2 * s + i) 2 (omega arith)))
    (c.merged-second.ensures i lt ∙ ap (f third) (c.load-2.ensures i d lt ∙ at_place (rows.from + from + s + i) 1 (omega arith)))
    (c.load-one.ensures i d lt ∙ at_place (rows.from + from + count * s + i) count (omega arith))
    (c.merged-two.ensures i lt ∙ ap (f one) (c.load-3.ensures i d lt ∙ at_place (rows.from + from + count * s + s + i) (count + 1) (omega arith)))
    (c.merged-three.ensures i lt ∙ ap (f two) (c.load-4.ensures i d lt ∙ at_place (rows.from + from + count * s + 2 * s + i) (count + 2) (omega arith)))
    (c.merged.ensures i lt ∙ ap (f second) (c.load-5.ensures i d lt ∙ at_place (rows.from + from + i) 0 (omega arith)))
    (c.merged-2.ensures i lt) (c.merged-3.ensures i lt) (c.merged-4.ensures i lt) in
    let new = c.store-4.new.out in
    let low : i < w = omega (arith, lt, c.requires.apart) in
    let a : get_or new (at + 0 * w + i) d ≡ lane c.merged.result i =
    ap (λ (t : ℕ). get_or new t d) (let e : at + 0 * w + i ≡ at + i = omega arith in e)
    ∙ c.store-4.ensures.before (at + i) d (omega (arith, low)) ∙ c.store-3.ensures.before (at + i) d (omega (arith, low)) ∙ c.store-2.ensures.before (at + i) d (omega (arith, low)) ∙ c.store.ensures.put i d lt in
    let b : get_or new (at + 1 * w + i) d ≡ lane c.merged-2.result i =
    ap (λ (t : ℕ). get_or new t d) (let e : at + 1 * w + i ≡ at + w + i = omega arith in e)
    ∙ c.store-4.ensures.before (at + w + i) d (omega (arith, low)) ∙ c.store-3.ensures.before (at + w + i) d (omega (arith, low)) ∙ c.store-2.ensures.put i d lt in
    let third_row : get_or new (at + 2 * w + i) d ≡ lane c.merged-3.result i = c.store-4.ensures.before (at + 2 * w + i) d (omega (arith, low)) ∙ c.store-3.ensures.put i d lt in
    let fourth_row : get_or new (at + 3 * w + i) d ≡ lane c.merged-4.result i = c.store-4.ensures.put i d lt in
    each_of_four (λ r. IsBest f (λ j. f n (u j)) r (r + count) (get_or new (at + r * w + i) d))
    (best_at f (λ j. f n (u j)) 0 count 0 (0 + count) _ _ refl (omega arith) (sym a) bests.0)
    (best_at f (λ j. f n (u j)) 1 (1 + count) 1 (1 + count) _ _ refl refl (sym b) bests.1)
    (best_at f (λ j. f n (u j)) 2 (2 + count) 2 (2 + count) _ _ refl refl (sym third_row) bests.2)
    (best_at f (λ j. f n (u j)) 3 (3 + count) 3 (3 + count) _ _ refl refl (sym fourth_row) bests.3) r few
  where
    next : (from s j x : ℕ) → from + 3 * s + j * s + x ≡ from + (3 + j) * s + x
    next from s j x = omega arith

pub best_of_rows-all-requires-clause-inside : goal.best_of_rows-all-requires-clause-inside
best_of_rows-all-requires-clause-inside g c =
    let rows = c.args.rows in
    let s = rows.stride in
    let low = rows.count - 3 - 1 in
    let fits = rows_le (low + 3) (rows.count + 2) s (omega (arith, c.requires.some)) in
    omega (arith, fits, spread low s, c.requires.inside)
  where
    spread : (a m : ℕ) → (a + 3) * m ≡ a * m + 3 * m
    spread a m = omega arith
