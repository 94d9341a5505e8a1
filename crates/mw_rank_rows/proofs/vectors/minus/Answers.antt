use Rattle.std.proofs.Common.{◌∙◌, arith}
use Rattle.std.proofs.lemmas.Simd.{length-zip2}
use Rattle.mw_rank_rows.proofs.vectors.minus.Goals as goal

pub returns-clause-size : goal.returns-clause-size
returns-clause-size c = length-zip2 _ c.args.a c.args.b (omega arith) ∙ c.requires.first
