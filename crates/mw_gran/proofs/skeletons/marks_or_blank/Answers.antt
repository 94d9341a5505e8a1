use Rattle.std.proofs.Common.{arith, subst}
use Rattle.std.proofs.lemmas.Result.{IfOk-weaker}
use Rattle.mw_plan.specs.Seen.{source}
use Rattle.mw_gran.specs.Turns.{AreMarks}
use Rattle.mw_gran.proofs.Turns.{blank_goes_on, blank_shows}
use Rattle.mw_gran.proofs.skeletons.marks_or_blank.Goals as goal

pub returns-in-None-clause-goes_on : goal.returns-in-None-clause-goes_on
returns-in-None-clause-goes_on c =
    IfOk-weaker c.add.result _ _ (λ s pushed. blank_goes_on c.args.levels c.args.plan.now c.add.new.plan (source s) (omega arith) pushed) c.add.ensures

pub returns-in-None-clause-shows : goal.returns-in-None-clause-shows
returns-in-None-clause-shows c = λ b n are.
    IfOk-weaker c.add.result _ _
    (λ s pushed. blank_shows b c.args.levels n c.args.plan.now c.add.new.plan (source s) (omega arith) (subst (AreMarks b c.args.levels n c.args.plan.now) c.in-None.is are) pushed) c.add.ensures
