use Rattle.std.proofs.Common.{arith}
use Rattle.mw_netpbm.proofs.RowTexts.{words_length}
use Rattle.mw_netpbm.proofs.row_bytes.U16RowBytes.byte_count.Goals as goal

pub returns-clause-value : goal.returns-clause-value
returns-clause-value c = λ row long. omega (arith, words_length row)
