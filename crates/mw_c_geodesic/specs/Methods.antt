-- Reconstructions by their methods.
use Rattle.std.specs.Prelude.{◌==◌, ℕ, List, if◌then◌else◌}
use Rattle.mw_model.specs.declared.offsets.Offset.{Offset}
use Rattle.mw_model.specs.Pictures.{Picture}
use Rattle.mw_geodesic.specs.Geodesics.{reconstruction, reconstruction_by_erosion}

-- the reconstruction of a method: by dilation or by erosion
abbrev pub rebuilt_by : ℕ → List Offset → Picture → Picture → Picture
rebuilt_by method e mask marker = if method == 0 then reconstruction e mask marker else reconstruction_by_erosion e mask marker
