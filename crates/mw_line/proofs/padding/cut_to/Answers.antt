use Rattle.std.proofs.Common.{◌≡◌, ◌-ℤ◌, pos, ℤ, min, ap, arith, ◌∙◌, to_z, of_z, w64}
use Rattle.std.specs.Int.{int_max, int_min}
use Rattle.std.proofs.lemmas.Int.{ints}
use Rattle.mw_line.proofs.Cut.{cut_fits}
use Rattle.mw_line.proofs.padding.cut_to.Goals as goal

pub returns : goal.returns
returns c =
    let most = min c.args.n 2147483648 in
    let end : to_z w64 (of_z w64 c.from.result) ≡ c.args.end = omega (arith, ints) in
    let high : to_z w64 c.min-most.result ≡ pos most = omega (arith, ints) in
    let least : c.min.result ≡ int_min c.args.end (pos most) = c.min.ensures.value ∙ ap (λ (t : ℤ). int_min t (to_z w64 c.min-most.result)) end ∙ ap (int_min c.args.end) high in
    let within : to_z w64 (of_z w64 c.min.result) ≡ c.min.result = omega (arith, ints) in
    let low : to_z w64 (of_z w64 (pos 0 -ℤ to_z w64 c.min-most.result)) ≡ pos 0 -ℤ pos most = omega (arith, ints) in
    let greatest : c.max.result ≡ int_max (int_min c.args.end (pos most)) (pos 0 -ℤ pos most) =
    c.max.ensures.value ∙ ap (λ (t : ℤ). int_max t (to_z w64 (of_z w64 (pos 0 -ℤ to_z w64 c.min-most.result)))) (within ∙ least) ∙ ap (int_max (int_min c.args.end (pos most))) low in
    cut_fits c.args.n c.args.end c.max.result (omega (arith, ints)) (omega (arith, ints)) greatest
