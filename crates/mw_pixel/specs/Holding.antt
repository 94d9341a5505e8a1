-- Planes that may have several owners.
use Rattle.std.specs.Arc.{arc_value}
use Rattle.mw_model.specs.Rasters.{Raster}
use Rattle.mw_pixel.specs.declared.holding.Owners.{Owners}
use Rattle.mw_pixel.specs.declared.holding.Owners.TheVariants as owners

-- the plane that is held
abbrev pub held_plane : {P Held : Type 0} → Owners P Held → Raster P
held_plane (owners.One p) = p
held_plane (owners.Several p) = arc_value p
