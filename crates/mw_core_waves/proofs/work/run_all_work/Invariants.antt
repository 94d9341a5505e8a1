use Rattle.std.proofs.Common.{◌≡◌}
use Rattle.mw_model.specs.Machine.{Machine}
use Rattle.mw_model.specs.Stands.{StandsFor, running_count}
use Rattle.mw_core_waves.specs.Work.{Worked}
use Rattle.mw_core_waves.proofs.work.run_all_work.Given as goal

abbrev pub invariant-turns : goal.invariant-turns
invariant-turns g l = (m : Machine) → StandsFor l.fn.core m → running_count l.fn.core ≡ 0 → Worked m l.fn.core l.core l._turn
