use Rattle.std.proofs.Common.{refl}
use Rattle.mw_tile_slots.proofs.Numbers.{whole_stands, whole_shows}
use Rattle.mw_tile_slots.proofs.parts.tile_of.Goals as goal

pub returns-clause-stands : goal.returns-clause-stands
returns-clause-stands g c = whole_stands c.args.grid c.args.tiles.now c.args.i c.index-tiles-i.result c.in-Some.placed _ _ c.requires.sides c.index-tiles-i.is c.in-Some.is refl refl c.requires.within

pub returns-clause-value : goal.returns-clause-value
returns-clause-value g c = whole_shows c.args.grid c.args.tiles.now c.args.i c.index-tiles-i.result c.in-Some.placed _ _ c.requires.sides c.index-tiles-i.is c.in-Some.is refl refl c.requires.within
