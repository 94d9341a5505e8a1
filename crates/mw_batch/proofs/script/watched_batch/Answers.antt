use Rattle.std.proofs.Common.{inl}
use Rattle.mw_batch.proofs.script.watched_batch.Goals as goal

pub returns : goal.returns
returns g c = inl c.run_on.ensures.0
