use Rattle.std.proofs.Common.{arith}
use Rattle.mw_c_arrays.proofs.Tops.{none_over_16}
use Rattle.mw_c_arrays.proofs.tests.any_over_16.Goals as goal

pub returns-then-most-ge65535 : goal.returns-then-most-ge65535
returns-then-most-ge65535 c = none_over_16 c.args.most c.args.samples.now c.type_inv.samples (omega arith)
