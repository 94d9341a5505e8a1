use Rattle.std.proofs.Common.{◌^◌, arith}
use Rattle.mw_rank_counts.proofs.Seeking.{from_lowest}
use Rattle.mw_rank_counts.proofs.search.begin.Goals as goal

pub returns-clause-from : goal.returns-clause-from
returns-clause-from g c =
    from_lowest g.P.Pixel.level g.P.Pixel.TOP c.args.samples.now c.args.places.now (2 ^ c.args.search.bits) c.clear.new.found c.requires.inside c.requires.small (λ i lt. omega (arith, c.clear.ensures i (omega (arith, c.requires.whole))))
