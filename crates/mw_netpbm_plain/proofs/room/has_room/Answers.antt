use Rattle.mw_netpbm_plain.proofs.Enough.{not_short}
use Rattle.mw_netpbm_plain.proofs.room.has_room.Goals as goal

pub returns-clause-long : goal.returns-clause-long
returns-clause-long c = λ yes. let found = c.holds.ensures.0 yes in not_short c.args.places c.args.count c.args.bytes.now found.0 found.1
