use Rattle.std.proofs.Common.{arith}
use Rattle.mw_rank_counts.proofs.Seeking.{between_first, between_last}
use Rattle.mw_rank_counts.proofs.search.find.Goals as goal

pub narrow-left-requires-clause-between : goal.narrow-left-requires-clause-between
narrow-left-requires-clause-between g c =
    between_first g.P.Pixel.level g.P.Pixel.TOP c.args.samples.now c.args.places.now c.max-n.result c.begin-bits.result c.begin-bits.new.found (omega (arith, c.max-n.ensures)) (omega (arith, c.max-n.ensures, c.min.ensures, c.requires.some)) c.begin-bits.ensures.from

pub returns-clause-found : goal.returns-clause-found
returns-clause-found g c =
    between_last g.P.Pixel.level g.P.Pixel.TOP c.args.samples.now c.args.places.now c.max-n.result c.args.search.k c.seek.new.found (omega (arith, c.max-n.ensures, c.min.ensures)) c.seek.ensures
