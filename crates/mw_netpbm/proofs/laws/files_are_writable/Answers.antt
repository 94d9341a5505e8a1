use Rattle.mw_netpbm.proofs.Written.{writable}
use Rattle.mw_netpbm.proofs.laws.files_are_writable.Goals as goal

pub returns : goal.returns
returns c = λ bytes i is. writable bytes i is
