-- What geodesic calls make of one image.
use Rattle.std.specs.Prelude.{List}
use Rattle.mw_model.specs.declared.offsets.Offset.{Offset}
use Rattle.mw_model.specs.Pictures.{Picture}
use Rattle.mw_geodesic.specs.Reconstructions.{border_cleared, holes_filled}
use Rattle.mw_c_geodesic.specs.declared.changing.Change.{Change}
use Rattle.mw_c_geodesic.specs.declared.changing.Change.TheVariants as change

-- what is made of an image alone
abbrev pub made_alone : Change → List Offset → Picture → Picture
made_alone change.Filled e f = holes_filled e f
made_alone change.Cleared e f = border_cleared e f
