use Rattle.std.proofs.Common.{inl}
use Rattle.mw_batch.proofs.script.strict_batch.Goals as goal

pub returns : goal.returns
returns g c =
    let ran = c.run_on-status.ensures in
    inl (c.run_on-status.result, ran.0, c.run_on-status.new.tally.refused, ran.1, c.strict_status.ensures)
