use Rattle.std.proofs.Common.{ℕ, ◌+◌, ◌∙◌, ap, min, max, refl, subst, sym}
use Rattle.mw_rank_medians.specs.declared.five.Six.{Six}
use Rattle.mw_rank_medians.specs.Networks.{middle_of_twenty, last_of}
use Rattle.mw_rank_medians.specs.Numbered.{lanes_of_five, lanes_of_ten, IsNthLevel}
use Rattle.mw_rank_medians.proofs.Merges.{middle_made, median_made}
use Rattle.mw_rank_medians.proofs.five.median_of_tens.Goals as goal

pub returns : goal.returns
returns g c = λ i f h k of-x of-y of-z.
    let lane = g.P.Vectored.lane in
    let x = lanes_of_ten lane c.args.x i in
    let y = lanes_of_ten lane c.args.y i in
    let z = lanes_of_five lane c.args.z i in
    let same = c.with_last.ensures i ∙ ap (λ (r : Six ℕ). last_of min max r z) (c.middle_of_ten-middle.ensures i) in
    subst (IsNthLevel (λ t. f t + h t + k t) 13) (sym same)
    (median_made (middle_of_twenty min max x y) z (λ t. f t + h t) k (λ t. f t + h t + k t) (middle_made x y f h (λ t. f t + h t) of-x of-y (λ t. refl)) of-z (λ t. refl))
