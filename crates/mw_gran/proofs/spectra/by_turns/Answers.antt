use Rattle.std.proofs.Common.{◌≡◌, suc, length, arith}
use Rattle.mw_plan.specs.Seen.{source}
use Rattle.mw_gran.proofs.OneMore.{pushed_count}
use Rattle.mw_gran.proofs.Turns.{spectrum_begins, ends_in}
use Rattle.mw_gran.proofs.spectra.by_turns.Goals as goal

pub add-requires : goal.add-requires
add-requires c = let all = c.in_ok-plan.ensures.count in omega arith

pub loop-n-init : goal.loop-n-init
loop-n-init c = record {
  count = (let all = c.in_ok-plan.ensures.count in let one : length c.add.new.plan ≡ suc (length c.in_ok-plan.plan) = pushed_count _ _ _ _ _ c.in_ok-add.ensures in omega arith);
  tells = λ b slides. spectrum_begins b c.args.levels c.in_ok-plan.plan c.add.new.plan (source c.in_ok-add.field-0) (c.in_ok-plan.ensures.erodes b slides) c.in_ok-add.ensures;
}

pub loop-n-preserved : goal.loop-n-preserved
loop-n-preserved c = record {
  count = (let more = c.in_ok-turn.ensures.count in let before = c.loop-n.invariant.count in omega arith);
  tells = λ b slides. c.in_ok-turn.ensures.tells b c.args.levels slides (omega arith) (c.loop-n.invariant.tells b slides);
}

pub returns : goal.returns
returns c = λ b slides.
    let same : c.loop-n.n ≡ c.args.levels = omega arith in
    ends_in b c.loop-n.n c.args.levels c.loop-n.plan same (c.loop-n.invariant.tells b slides)
