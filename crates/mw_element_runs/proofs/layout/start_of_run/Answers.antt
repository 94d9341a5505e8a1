use Rattle.std.proofs.Common.{◌≡◌, ◌+◌, ◌*◌, ◌-ℤ◌, ℕ, ap, ◌∙◌, arith}
use Rattle.std.proofs.lemmas.Int.{ints}
use Rattle.mw_model.specs.Rectangles.{nonnegative}
use Rattle.mw_model.proofs.Nonnegative.{nonnegative_is}
use Rattle.mw_element_runs.proofs.layout.start_of_run.Goals as goal

pub overflow_mul-result : goal.overflow_mul-result
overflow_mul-result c =
    let down : c.places_from-down.result ≡ nonnegative (c.args.run.dy -ℤ c.args.extent.top) = omega (arith, ints, nonnegative_is) in
    let same = ap (λ (t : ℕ). t * c.args.wide) down in
    omega (arith, same, c.requires.fits)

pub overflow_add-result : goal.overflow_add-result
overflow_add-result c =
    let down : c.places_from-down.result ≡ nonnegative (c.args.run.dy -ℤ c.args.extent.top) = omega (arith, ints, nonnegative_is) in
    let across : c.places_from-across.result ≡ nonnegative (c.args.run.dx -ℤ c.args.extent.left) = omega (arith, ints, nonnegative_is) in
    let same = ap (λ (t : ℕ). t * c.args.wide) down in
    omega (arith, same, across, c.requires.fits)

pub returns : goal.returns
returns c =
    let down : c.places_from-down.result ≡ nonnegative (c.args.run.dy -ℤ c.args.extent.top) = omega (arith, ints, nonnegative_is) in
    let across : c.places_from-across.result ≡ nonnegative (c.args.run.dx -ℤ c.args.extent.left) = omega (arith, ints, nonnegative_is) in
    ap (λ (t : ℕ). t * c.args.wide + c.places_from-across.result) down ∙ ap (λ (t : ℕ). nonnegative (c.args.run.dy -ℤ c.args.extent.top) * c.args.wide + t) across
