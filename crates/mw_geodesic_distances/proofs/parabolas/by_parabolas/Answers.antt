use Rattle.std.proofs.Common.{◌≡◌, ◌*◌, ◌∙◌, ℕ, length, ap, arith}
use Rattle.std.proofs.lemmas.List.{take_at, length-replicate}
use Rattle.mw_geodesic_distances.proofs.Results.{squares_by}
use Rattle.mw_geodesic_distances.proofs.parabolas.by_parabolas.Goals as goal

pub returns : goal.returns
returns c =
    let n = c.in_ok-numbers.numbers.len in
    let begun = c.begin.new.numbers in
    let measured = c.measure_columns.new.numbers in
    let drawn = c.draw_rows.new.numbers in
    let size : n ≡ c.height.result * c.width.result = omega (arith, c.in_ok-numbers.numbers.ok.0, ap length c.in_ok-numbers.ensures, length-replicate {A = ℕ} (c.height.result * c.width.result) 0) in
    let begun-size : length begun ≡ n = omega (arith, c.begin.auto.numbers, c.deref_mut.ensures.len) in
    let measured-size : length measured ≡ n = omega (arith, c.measure_columns.auto.numbers, c.deref_mut-2.ensures.len) in
    let drawn-size : length drawn ≡ n = omega (arith, c.draw_rows.auto.numbers, c.deref_mut-4.ensures.len) in
    take_at drawn _ n drawn-size
    ∙ squares_by c.args.top c.width.result c.height.result n c.args.set.now c.words.result.now begun c.deref_mut-2.result.now measured c.deref_mut-4.result.now drawn c.ranges.top.fits
    c.width.ensures.size c.words.ensures.small c.width.ensures.value c.height.ensures.value c.words.ensures.value size drawn-size
    c.begin.ensures (c.deref_mut-2.ensures.value ∙ take_at begun _ n begun-size) c.measure_columns.ensures (c.deref_mut-4.ensures.value ∙ take_at measured _ n measured-size) c.draw_rows.ensures
