use Rattle.mw_rank.proofs.Counts.{Tallies-entered}
use Rattle.mw_rank.proofs.moving.enter.Goals as goal

pub returns-in-Some : goal.returns-in-Some
returns-in-Some g c = λ ns t. Tallies-entered g.P.Pixel.top_level _ c.in-Some.s ns _ c.in-Some.ensures.levels (c.add.ensures g.P.Pixel.top_level ns c.in-Some.ensures.small t)
