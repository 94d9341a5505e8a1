use Rattle.std.proofs.Common.{◌≡◌, ◌*◌, ◌∙◌, ℕ, length, ap, arith}
use Rattle.std.proofs.lemmas.List.{take_at, length-replicate}
use Rattle.mw_geodesic_distances.proofs.Results.{distances_by}
use Rattle.mw_geodesic_distances.proofs.steps.by_steps.Goals as goal

pub returns : goal.returns
returns c =
    let n = c.in_ok-numbers.numbers.len in
    let begun = c.begin.new.numbers in
    let swept = c.sweep.new.numbers in
    let size : n ≡ c.height.result * c.width.result = omega (arith, c.in_ok-numbers.numbers.ok.0, ap length c.in_ok-numbers.ensures, length-replicate {A = ℕ} (c.height.result * c.width.result) 0) in
    let begun-size : length begun ≡ n = omega (arith, c.begin.auto.numbers, c.deref_mut.ensures.len) in
    let swept-size : length swept ≡ n = omega (arith, c.sweep.auto.numbers, c.deref_mut-2.ensures.len) in
    take_at swept _ n swept-size
    ∙ distances_by c.args.neighbours c.args.top c.width.result c.height.result c.reach.result n c.args.set.now c.words.result.now begun c.deref_mut-2.result.now swept
    c.width.ensures.size c.words.ensures.small c.width.ensures.value c.height.ensures.value c.reach.ensures.value c.words.ensures.value size swept-size
    c.begin.ensures (c.deref_mut-2.ensures.value ∙ take_at begun _ n begun-size) c.sweep.ensures.lowered c.sweep.ensures.smooth
