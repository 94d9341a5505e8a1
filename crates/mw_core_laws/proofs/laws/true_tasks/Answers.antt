use Rattle.mw_core_laws.proofs.Making.{made-fits, made-true}
use Rattle.mw_core_laws.proofs.Pictured.{true_task-bounded}
use Rattle.mw_core_laws.proofs.Reading.{place_of_task-within, source-placed, source-plane, source-within}
use Rattle.mw_core_laws.proofs.Truth.{plane-true}
use Rattle.mw_core_laws.proofs.Windows.{task-true, true_task-fits}
use Rattle.mw_core_laws.proofs.laws.true_tasks.Goals as goal

pub returns : goal.returns
returns c = record {
  placed = source-placed;
  source = λ u n k whole within has. (source-within u n k whole within has, source-plane u n k whole has);
  within = place_of_task-within;
  planes = plane-true;
  task = task-true;
  fits = true_task-fits;
  bounded = true_task-bounded;
  made = made-fits;
  cells = made-true;
}
