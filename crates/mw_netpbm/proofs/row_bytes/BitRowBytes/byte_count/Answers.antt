use Rattle.std.proofs.Common.{◌+◌, ◌/◌}
use Rattle.mw_netpbm.proofs.Packing.{packed_length}
use Rattle.mw_netpbm.proofs.row_bytes.BitRowBytes.byte_count.Goals as goal

pub returns-clause-value : goal.returns-clause-value
returns-clause-value c = λ row long. packed_length ((c.args.width + 7) / 8) row
