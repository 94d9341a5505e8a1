use Rattle.std.proofs.Common.{◌≡◌, ℕ, ◌+◌, ◌*◌, ◌≤◌, ◌-ℤ◌, ap, arith}
use Rattle.std.proofs.lemmas.Nat.{mul-le}
use Rattle.mw_model.specs.Rectangles.{nonnegative}
use Rattle.mw_chord_lent.proofs.plan.plan_of.Goals as goal

most : (high down width across : ℕ) → high ≤ 1000000 → down ≤ 255 → width ≤ 4096 → across ≤ 255 → (high + down) * (width + across) ≤ 1000255 * 4351
most high down width across low few narrow near = mul-le (high + down) (width + across) 1000255 4351 (omega arith) (omega arith)

pub overflow_mul-chunk-2 : goal.overflow_mul-chunk-2
overflow_mul-chunk-2 c =
    omega (arith, most c.rows_of-high.result c.rows_after-down.result c.columns_of-width.result c.columns_after-across.result c.rows_of-high.ensures.low (omega (arith, c.rows_after-down.ensures.value, c.requires.few)) c.columns_of-width.ensures.narrow (omega (arith, c.columns_after-across.ensures.value, c.requires.near)))

pub returns : goal.returns
returns c =
    let across = c.columns_after-across.result in
    let down = c.rows_after-down.result in
    let width = c.columns_of-width.result in
    let high = c.rows_of-high.result in
    let lanes = c.args.lanes in
    let e = c.args.extent in
    let across-is = c.columns_after-across.ensures.value in
    let down-is = c.rows_after-down.ensures.value in
    let chunks = c.chunks_of-chunks.result in
    let all = most high down width across c.rows_of-high.ensures.low (omega (arith, down-is, c.requires.few)) c.columns_of-width.ensures.narrow (omega (arith, across-is, c.requires.near)) in
    let same : chunks * (16 * 2 * lanes) ≡ chunks * (32 * lanes) = ap (λ (t : ℕ). chunks * t) (let e : 16 * 2 * lanes ≡ 32 * lanes = omega arith in e) in
    let high-is : (high + nonnegative (e.bottom -ℤ e.top)) * (width + across) ≡ (high + down) * (width + across) = ap (λ (t : ℕ). (high + t) * (width + across)) (let e : nonnegative (e.bottom -ℤ e.top) ≡ down = omega (arith, down-is) in e) in
    record {
      lanes_fit = c.columns_of-width.ensures.lanes;
      across = c.columns_of-width.ensures.across;
      some = c.rows_of-high.ensures.some;
      down = c.rows_of-high.ensures.down;
      low = c.rows_of-high.ensures.low;
      narrow = c.columns_of-width.ensures.narrow;
      left = c.requires.left;
      top = c.requires.top;
      near = c.requires.near;
      few = c.requires.few;
      wide_is = ap (λ (t : ℕ). width + t) across-is;
      cells = omega (arith, high-is, c.chunks_of-chunks.ensures.room, same);
      span_is = omega (arith, same);
      small = omega (arith, c.chunks_of-chunks.ensures.close, all, c.requires.short, c.requires.lanes);
    }
