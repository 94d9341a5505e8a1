use Rattle.std.proofs.Common.{◌*◌, ◌/◌, ◌^◌, arith}
use Rattle.std.proofs.lemmas.Nat.{and_le_r}
use Rattle.mw_bits_rows.proofs.Packs.{bit_of_byte}
use Rattle.mw_c_arrays.proofs.unpacking.byte_of.Goals as goal

pub returns-clause-small : goal.returns-clause-small
returns-clause-small c = omega (arith, and_le_r (c.args.word / 2 ^ (8 * c.args.j)) 255)

pub returns-clause-bits : goal.returns-clause-bits
returns-clause-bits c = λ b lt. bit_of_byte c.args.word c.args.j b lt
