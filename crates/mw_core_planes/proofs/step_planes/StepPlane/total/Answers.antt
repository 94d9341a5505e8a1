use Rattle.std.proofs.Common.{sym, ap, ◌∙◌}
use Rattle.mw_tile_planes.specs.Sums.{number_in}
use Rattle.mw_core_planes.specs.StepPlanes.{shown}
use Rattle.mw_core_planes.specs.declared.step_planes.StepPlane.{StepPlane}
use Rattle.mw_core_planes.proofs.Totals.{number_closed}
use Rattle.mw_core_planes.proofs.step_planes.StepPlane.total.Goals as goal

pub returns-in-Closed : goal.returns-in-Closed
returns-in-Closed c = sym (ap (λ (p : StepPlane). number_in (shown c.args.grid p)) c.in-Closed.is ∙ number_closed c.args.grid c.in-Closed.field-0)
