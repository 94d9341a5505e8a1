-- The shapes of images, part by part.
use Rattle.mw_model.specs.Pictures.{Picture}
use Rattle.mw_store.specs.declared.image_shapes.ImageShape.{ImageShape}

-- kind, sides and maxval of an image
abbrev pub image_shape_of : Picture → ImageShape
image_shape_of f = record { kind = f.kind; width = f.width; height = f.height; maxval = f.maxval }
