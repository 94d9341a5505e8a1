use Rattle.mw_ready.proofs.Tied.{same_tasks}
use Rattle.mw_ready.proofs.laws.tasks_are_those_of_work.Goals as goal

pub returns : goal.returns
returns c = λ p of. same_tasks c.args.ready.now.board p of
