use Rattle.std.proofs.Common.{◌≡◌, ◌∙◌, ℕ, ap, arith, map}
use Rattle.std.specs.List.{range_with_len}
use Rattle.mw_model.specs.Iterates.{volume}
use Rattle.mw_reference.proofs.Iterates.{one_volume_more}
use Rattle.mw_reference.proofs.iterated.spectrum.Goals as goal

pub loop-n-preserved : goal.loop-n-preserved
loop-n-preserved c =
    one_volume_more (λ n. volume c.args.element.now n c.args.image.now) c.loop-n.n c.in_ok-v.v c.loop-n.volumes.items c.push.new.self.items c.loop-n.invariant c.in_ok-v.ensures c.in_ok-push.ensures.items

pub returns : goal.returns
returns c =
    let at = λ (n : ℕ). volume c.args.element.now n c.args.image.now in
    let same : c.loop-n.n ≡ c.args.depth = omega arith in
    one_volume_more at c.args.depth c.in_ok-last.last c.loop-n.volumes.items c.push-2.new.self.items (c.loop-n.invariant ∙ ap (λ (n : ℕ). map at (range_with_len 0 n)) same) c.in_ok-last.ensures
    c.in_ok-push-2.ensures.items
