use Rattle.std.proofs.Common.{◌≡◌, ℕ, suc, ◌+◌, ◌*◌, length, arith, subst}
use Rattle.mw_model.specs.Iterates.{spectrum}
use Rattle.mw_gran.specs.Turns.{Tells}
use Rattle.mw_gran.proofs.OneMore.{pushed_empty, pushed_count}
use Rattle.mw_gran.proofs.Turns.{boxes_begin}
use Rattle.mw_gran.proofs.spectra.by_boxes.Goals as goal

pub loop-n-init : goal.loop-n-init
loop-n-init c =
    let first = pushed_empty _ _ _ _ _ c.in_ok-plan.ensures c.in_ok-add.ensures in
    record {
      count = (let one : length c.add.new.plan ≡ suc 0 = pushed_count _ _ _ _ _ first in omega arith);
      tells = λ b fills holds. boxes_begin b _ _ first;
    }

pub loop-n-preserved : goal.loop-n-preserved
loop-n-preserved c = record {
  count = (let more = c.in_ok-box_turn.ensures.count in let before = c.loop-n.invariant.count in omega arith);
  tells = λ b fills holds. c.in_ok-box_turn.ensures.tells b fills holds (c.loop-n.invariant.tells b fills holds);
}

pub returns : goal.returns
returns c = λ b fills holds.
    let same : c.loop-n.n ≡ c.args.levels = omega arith in
    subst (λ (n : ℕ). Tells c.loop-n.plan (3 * n + 1) (spectrum b n)) same (c.loop-n.invariant.tells b fills holds)
