use Rattle.std.proofs.Common.{option_map}
use Rattle.std.proofs.lemmas.List.{map-set}
use Rattle.mw_tile_slots.specs.Tiles.{cells_in_raster}
use Rattle.mw_tile_slots.proofs.Sides.{sides_set}
use Rattle.mw_tile_slots.proofs.slots.put.Goals as goal

pub returns-clause-value : goal.returns-clause-value
returns-clause-value g c = map-set (option_map cells_in_raster) c.args.tiles.now c.args.i c.args.tile

pub returns-clause-sides : goal.returns-clause-sides
returns-clause-sides g c = sides_set c.args.grid c.args.tiles.now c.args.i c.args.tile c.requires.sides c.requires.fits
