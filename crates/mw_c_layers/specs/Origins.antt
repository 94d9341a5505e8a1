-- Images that strips are cut from (own).
use Rattle.mw_model.specs.Pictures.{IsImage, Picture}
use Rattle.mw_c_arrays.specs.Sources.{IsArrayImage, picture_in}
use Rattle.mw_c_layers.specs.declared.origins.Origin.{Origin}
use Rattle.mw_c_layers.specs.declared.origins.Origin.TheVariants.{Array, Made}

-- the image
abbrev pub origin_picture : Origin → Picture
origin_picture (Array f) = picture_in f
origin_picture (Made f) = f.now

-- it is one within the limits
abbrev pub IsOrigin : Origin → Type 0
IsOrigin (Array f) = IsArrayImage f
IsOrigin (Made f) = IsImage f.now
