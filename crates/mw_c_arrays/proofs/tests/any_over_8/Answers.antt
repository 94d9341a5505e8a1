use Rattle.std.proofs.Common.{arith}
use Rattle.mw_c_arrays.proofs.Tops.{none_over_8}
use Rattle.mw_c_arrays.proofs.tests.any_over_8.Goals as goal

pub returns-then-most-ge255 : goal.returns-then-most-ge255
returns-then-most-ge255 c = none_over_8 c.args.most c.args.samples.now c.type_inv.samples (omega arith)
