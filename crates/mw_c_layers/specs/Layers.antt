-- What is made at each place of images (own).
use Rattle.mw_model.specs.Flat.{minus}
use Rattle.mw_model.specs.Laws.{SameShape}
use Rattle.mw_model.specs.Pictures.{Picture}
use Rattle.mw_c_arrays.specs.Sources.{picture_in}
pub use Rattle.mw_c_lent.specs.Rules.{rule_picture, step_of}
use Rattle.mw_c_layers.specs.declared.origins.Origin.{Origin}
use Rattle.mw_c_layers.specs.declared.origins.Origin.TheVariants.{Array}
use Rattle.mw_c_layers.specs.Origins.{IsOrigin, origin_picture}
use Rattle.mw_c_layers.specs.declared.layers.Layer.{Layer}
use Rattle.mw_c_layers.specs.declared.layers.Layer.TheVariants.{Itself, By, Twice}
use Rattle.mw_c_layers.specs.declared.layers.Formula.{Formula}
use Rattle.mw_c_layers.specs.declared.layers.Formula.TheVariants.{One, Less}

-- the image that a layer looks at
abbrev pub origin_of : Layer → Origin
origin_of (Itself f) = Array f
origin_of (By r f) = f
origin_of (Twice r s f) = Array f

-- the image that a formula looks at first
abbrev pub first_origin : Formula → Origin
first_origin (One l) = origin_of l
first_origin (Less a b) = origin_of a

-- the image of a layer
abbrev pub layer_picture : Layer → Picture
layer_picture (Itself f) = picture_in f
layer_picture (By r f) = rule_picture r (origin_picture f)
layer_picture (Twice r s f) = rule_picture r (rule_picture s (picture_in f))

-- the image that a formula makes
abbrev pub formula_picture : Formula → Picture
formula_picture (One l) = layer_picture l
formula_picture (Less a b) = minus (layer_picture a) (layer_picture b)

-- the images that it looks at are sound, and those of a difference alike
abbrev pub IsFormula : Formula → Type 0
IsFormula (One l) = IsOrigin (origin_of l)
IsFormula (Less a b) = IsOrigin (origin_of a) × IsOrigin (origin_of b) × SameShape (layer_picture b) (layer_picture a)
