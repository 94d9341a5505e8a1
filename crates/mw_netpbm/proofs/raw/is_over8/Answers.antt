use Rattle.std.proofs.Common.{rules, arith}
use Rattle.mw_netpbm.proofs.Bounds.{fold-max_bytes}
use Rattle.mw_netpbm.proofs.raw.is_over8.Goals as goal

pub returns-else-maxval-lt255 : goal.returns-else-maxval-lt255
returns-else-maxval-lt255 c =
    let most = fold-max_bytes 0 c.args.samples.now (omega arith) c.type_inv.samples in
    search rules
