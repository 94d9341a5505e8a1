use Rattle.std.proofs.Common.{ℕ, ◌≡◌, ◌+◌, ◌∙◌, ap, min, max, refl, subst, sym}
use Rattle.mw_rank_medians.specs.declared.five.Four.{Four}
use Rattle.mw_rank_medians.specs.declared.five.Six.{Six}
use Rattle.mw_rank_medians.specs.Networks.{odd_in, ten_of, three_with_three, five_with_five}
use Rattle.mw_rank_medians.specs.Numbered.{lanes_of_four, lanes_of_five, lanes_of_ten, AreTen}
use Rattle.mw_rank_medians.proofs.Merges.{ten_made}
use Rattle.mw_rank_medians.proofs.five.five_merged.Goals as goal

pub returns : goal.returns
returns g c = λ i f h of-x of-y.
    let lane = g.P.Vectored.lane in
    let x = lanes_of_five lane c.args.x i in
    let y = lanes_of_five lane c.args.y i in
    let same : lanes_of_ten lane c.ten_from.result i ≡ five_with_five min max x y =
    c.ten_from.ensures i
    ∙ ap (λ (r : Six ℕ). ten_of min max r (lanes_of_four lane c.with_two-even.result i)) (c.three_merged-odd.ensures i)
    ∙ ap (λ (r : Four ℕ). ten_of min max (three_with_three min max (odd_in x) (odd_in y)) r) (c.with_two-even.ensures i) in
    subst (AreTen (λ t. f t + h t)) (sym same) (ten_made x y f h (λ t. f t + h t) of-x of-y (λ t. refl))
