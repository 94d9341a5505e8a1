use Rattle.std.proofs.Common.{◌≡◌, ◌+◌, ◌*◌, ◌<◌, ◌∙◌, ℕ, ap, arith, get_or, length}
use Rattle.mw_line.proofs.Folds.{IsExtremum}
use Rattle.mw_offset_lent.proofs.Puts.{in_rows_none, in_rows_one}
use Rattle.mw_offset_lent.specs.Places.{merged_at}
use Rattle.mw_offset_lent.proofs.Written.{each_of_two, four_lanes, lane_split}
use Rattle.mw_offset_lent.proofs.Rooms.{rest_fits, shared_fits}
use Rattle.mw_offset_lent.proofs.wide.put_wide_blocks.Goals as goal

pub merge_four-both-requires-clause-inside : goal.merge_four-both-requires-clause-inside
merge_four-both-requires-clause-inside g c =
    let s = c.args.counted.split in
    shared_fits s.shared.now s.lower.now s.all.now s.ahead (c.args.from + 4 * g.P.Laned.WIDTH) (c.args.from + s.ahead + 4 * g.P.Laned.WIDTH) (length c.args.cells.now) (omega arith) c.requires.split.lower c.requires.inside

pub merge_four-upper-requires-clause-inside : goal.merge_four-upper-requires-clause-inside
merge_four-upper-requires-clause-inside g c =
    let s = c.args.counted.split in
    rest_fits s.shared.now s.upper.now s.all.now 0 (c.args.from + 4 * g.P.Laned.WIDTH) (c.args.from + s.ahead + 4 * g.P.Laned.WIDTH) (length c.args.cells.now) (omega arith) c.requires.split.upper c.requires.inside

pub merge_four-lower-requires-clause-inside : goal.merge_four-lower-requires-clause-inside
merge_four-lower-requires-clause-inside g c =
    let s = c.args.counted.split in
    rest_fits s.shared.now s.lower.now s.all.now s.ahead (c.args.from + s.ahead + 4 * g.P.Laned.WIDTH) (c.args.from + s.ahead + 4 * g.P.Laned.WIDTH) (length c.args.cells.now) (omega arith) c.requires.split.lower c.requires.inside

pub returns-clause-put : goal.returns-clause-put
returns-clause-put g c =
    let at = c.args.two.at in
    let w = c.args.two.apart in
    let n = 4 * g.P.Laned.WIDTH in
    let old = c.args.out.now in
    let mid = c.store_four.new.out in
    let new = c.store_four-2.new.out in
    in_rows_one 2 at n w 1 (at + w) old mid new (omega arith) (omega arith) (in_rows_one 2 at n w 0 at old old mid (omega arith) (omega arith) (in_rows_none 2 at n w old) c.store_four.ensures.put) c.store_four-2.ensures.put

pub returns-clause-made : goal.returns-clause-made
returns-clause-made g c = λ r i few lt.
    let f = g.E.Extremum.merge in
    let laws : IsExtremum f = record { commutes = g.met.E.Extremum.commutes; associates = g.met.E.Extremum.associates; is_idempotent = g.met.E.Extremum.is_idempotent } in
    let n = c.args.neutral in
    let cells = c.args.cells.now in
    let s = c.args.counted.split in
    let from = c.args.from in
    let at = c.args.two.at in
    let apart = c.args.two.apart in
    let w = g.P.Laned.WIDTH in
    let new = c.store_four-2.new.out in
    let all = s.all.now in
    let value = λ (p : ℕ). merged_at f cells n p n all in
    let below = λ (j : ℕ) (less : j < 4 * w). c.store_four-2.ensures.put.before (at + j) n (omega (arith, less, c.requires.apart)) in
    each_of_two (λ r. get_or new (at + r * apart + i) n ≡ value (from + r * s.ahead + i))
    (let here : at + 0 * apart + i ≡ at + i = omega arith in
    let there : from + i ≡ from + 0 * s.ahead + i = omega arith in
    ap (λ (t : ℕ). get_or new t n) here
    ∙ below i lt
    ∙ four_lanes w (λ i v. v ≡ value (from + i)) n at c.store_four.new.out
    (λ i less. c.store_four.ensures.first i n less ∙ lane_split f laws cells n (from + i) (from + i) 0 s.shared.now s.upper.now all _ _ _ c.requires.split.upper (c.all-sample.ensures i less) (c.merge_four-both.ensures.first i n less) (c.merge_four-upper.ensures.first i n less) (omega arith))
    (λ i less. c.store_four.ensures.second i n less ∙ lane_split f laws cells n (from + w + i) (from + w + i) 0 s.shared.now s.upper.now all _ _ _ c.requires.split.upper (c.all-sample.ensures i less) (c.merge_four-both.ensures.second i n less) (c.merge_four-upper.ensures.second i n less) (omega arith)
    ∙ ap value (let e : from + w + i ≡ from + (w + i) = omega arith in e))
    (λ i less. c.store_four.ensures.third i n less ∙ lane_split f laws cells n (from + 2 * w + i) (from + 2 * w + i) 0 s.shared.now s.upper.now all _ _ _ c.requires.split.upper (c.all-sample.ensures i less) (c.merge_four-both.ensures.third i n less) (c.merge_four-upper.ensures.third i n less) (omega arith)
    ∙ ap value (let e : from + 2 * w + i ≡ from + (2 * w + i) = omega arith in e))
    (λ i less. c.store_four.ensures.fourth i n less ∙ lane_split f laws cells n (from + 2 * w + w + i) (from + 2 * w + w + i) 0 s.shared.now s.upper.now all _ _ _ c.requires.split.upper (c.all-sample.ensures i less) (c.merge_four-both.ensures.fourth i n less) (c.merge_four-upper.ensures.fourth i n less) (omega arith)
    ∙ ap value (let e : from + 2 * w + w + i ≡ from + (2 * w + (w + i)) = omega arith in e)) i lt
    ∙ ap value there)
    (let here : at + 1 * apart + i ≡ at + apart + i = omega arith in
    let there : from + s.ahead + i ≡ from + 1 * s.ahead + i = omega arith in
    ap (λ (t : ℕ). get_or new t n) here
    ∙ four_lanes w (λ i v. v ≡ value (from + s.ahead + i)) n (at + apart) new
    (λ i less. c.store_four-2.ensures.first i n less ∙ lane_split f laws cells n (from + i) (from + s.ahead + i) s.ahead s.shared.now s.lower.now all _ _ _ c.requires.split.lower (c.all-sample.ensures i less) (c.merge_four-both.ensures.first i n less) (c.merge_four-lower.ensures.first i n less) (omega arith))
    (λ i less. c.store_four-2.ensures.second i n less ∙ lane_split f laws cells n (from + w + i) (from + s.ahead + w + i) s.ahead s.shared.now s.lower.now all _ _ _ c.requires.split.lower (c.all-sample.ensures i less) (c.merge_four-both.ensures.second i n less) (c.merge_four-lower.ensures.second i n less) (omega arith)
    ∙ ap value (let e : from + s.ahead + w + i ≡ from + s.ahead + (w + i) = omega arith in e))
    (λ i less. c.store_four-2.ensures.third i n less ∙ lane_split f laws cells n (from + 2 * w + i) (from + s.ahead + 2 * w + i) s.ahead s.shared.now s.lower.now all _ _ _ c.requires.split.lower (c.all-sample.ensures i less) (c.merge_four-both.ensures.third i n less) (c.merge_four-lower.ensures.third i n less) (omega arith)
    ∙ ap value (let e : from + s.ahead + 2 * w + i ≡ from + s.ahead + (2 * w + i) = omega arith in e))
    (λ i less. c.store_four-2.ensures.fourth i n less ∙ lane_split f laws cells n (from + 2 * w + w + i) (from + s.ahead + 2 * w + w + i) s.ahead s.shared.now s.lower.now all _ _ _ c.requires.split.lower (c.all-sample.ensures i less) (c.merge_four-both.ensures.fourth i n less) (c.merge_four-lower.ensures.fourth i n less) (omega arith)
    ∙ ap value (let e : from + s.ahead + 2 * w + w + i ≡ from + s.ahead + (2 * w + (w + i)) = omega arith in e)) i lt
    ∙ ap value there) r few
