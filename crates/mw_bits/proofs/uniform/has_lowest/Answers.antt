use Rattle.std.proofs.Common.{◌-◌, ◌*◌, ◌%◌, ◌^◌, ap, arith}
use Rattle.std.proofs.lemmas.Bool.{eqb-true}
use Rattle.std.proofs.lemmas.Nat.{one_shl}
use Rattle.mw_bits.proofs.UniformWords.{lowest_set}
use Rattle.mw_bits.proofs.uniform.has_lowest.Goals as goal

pub returns : goal.returns
returns c = λ yes i lt. lowest_set c.args.word c.args.count (1 * 2 ^ c.args.count % 2 ^ 64 - 1) i (ap (λ t. t - 1) (one_shl c.args.count 64 (omega arith))) (eqb-true _ _ yes) lt
