use Rattle.std.proofs.Common.{sym}
use Rattle.mw_netpbm_plain.proofs.Headers.{head_last}
use Rattle.mw_netpbm.proofs.reader.opened.Goals as goal

pub returns-clause-shorter : goal.returns-clause-shorter
returns-clause-shorter c = (head_last c.args.bytes.now (c.in_ok-head.head, c.in_ok-head.rest.now) (sym c.in_ok-head.ensures)).0

pub returns-clause-last : goal.returns-clause-last
returns-clause-last c = (head_last c.args.bytes.now (c.in_ok-head.head, c.in_ok-head.rest.now) (sym c.in_ok-head.ensures)).1
