-- Images with other samples.
use Rattle.std.specs.Prelude.{ℕ, List}
use Rattle.mw_model.specs.Pictures.{Picture, picture}

-- the image with other samples
abbrev pub refilled : Picture → List ℕ → Picture
refilled f samples = picture f.kind f.width f.height f.maxval samples
