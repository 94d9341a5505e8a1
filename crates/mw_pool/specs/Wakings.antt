-- Which of the sessions that wait look again behind a hold of the lock.
use Rattle.mw_pool_passes.specs.mw_core.declared.answers.Started.{Started}
use Rattle.mw_pool_passes.specs.mw_core.declared.answers.Started.TheVariants as started
use Rattle.mw_pool_passes.specs.mw_core.declared.answers.Finish.{Finish}
use Rattle.mw_pool_passes.specs.mw_core.declared.answers.Finish.TheVariants as finish
use Rattle.mw_pool_passes.specs.mw_core.declared.answers.Refusal.{Refusal}
use Rattle.mw_pool_passes.specs.mw_core.declared.answers.Refusal.TheVariants as refusal
use Rattle.mw_pool.specs.declared.signals.Sleepers.{Sleepers}
use Rattle.mw_pool.specs.declared.signals.Sleepers.TheVariants as sleepers

-- the last result of a ticket settles that ticket alone
abbrev pub settled_by : Finish → Sleepers
settled_by (finish.Settled t) = sleepers.Of t
settled_by f = sleepers.Nobody

-- a task that found no memory at its start ends its ticket, and with it what depends on that
abbrev pub ended_by : Started → Sleepers
ended_by (started.Refused t) = sleepers.All
ended_by s = sleepers.Nobody

-- so does a running task that found none
abbrev pub killed_by : Refusal → Sleepers
killed_by (refusal.Killed t) = sleepers.All
killed_by r = sleepers.Nobody
