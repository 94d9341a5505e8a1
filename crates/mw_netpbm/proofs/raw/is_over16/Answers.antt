use Rattle.std.proofs.Common.{rules, arith}
use Rattle.mw_netpbm.proofs.Bounds.{fold-max_two_bytes}
use Rattle.mw_netpbm.proofs.raw.is_over16.Goals as goal

pub returns-else-maxval-lt65535 : goal.returns-else-maxval-lt65535
returns-else-maxval-lt65535 c =
    let most = fold-max_two_bytes 0 c.args.samples.now (omega arith) c.type_inv.samples in
    search rules
