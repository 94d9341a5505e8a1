use Rattle.mw_netpbm.proofs.Files.{is_found, is_only}
use Rattle.mw_netpbm.proofs.Written.{writable_ok}
use Rattle.mw_netpbm.proofs.Refused.{is_refused, is_memory}
use Rattle.mw_netpbm.proofs.reader.read_owned.Goals as goal

pub returns-clause-found : goal.returns-clause-found
returns-clause-found c = is_found c.args.bytes.items c.whole_owned.result c.whole_owned.ensures

pub returns-clause-only : goal.returns-clause-only
returns-clause-only c = is_only c.args.bytes.items c.whole_owned.result c.whole_owned.ensures

pub returns-clause-refused : goal.returns-clause-refused
returns-clause-refused c = is_refused c.args.bytes.items c.whole_owned.result c.whole_owned.ensures

pub returns-clause-memory : goal.returns-clause-memory
returns-clause-memory c = is_memory c.args.bytes.items c.whole_owned.result c.whole_owned.ensures

pub returns-clause-writable : goal.returns-clause-writable
returns-clause-writable c = writable_ok c.args.bytes.items c.whole_owned.result (is_found c.args.bytes.items c.whole_owned.result c.whole_owned.ensures)
