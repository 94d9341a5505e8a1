-- What strips are cut from is an image, and so is what rules make of it.
use Rattle.std.proofs.Common.{◌≡◌, refl, subst}
use Rattle.mw_model.specs.declared.shapes.Kind.{Kind}
use Rattle.mw_model.specs.declared.shapes.Kind.TheVariants as kind
use Rattle.mw_model.specs.Pictures.{FitsKind, IsImage, Picture}
use Rattle.mw_c_arrays.specs.declared.sources.ArrayImage.{ArrayImage}
use Rattle.mw_c_arrays.specs.Sources.{IsArrayImage, picture_in}
use Rattle.mw_c_arrays.proofs.SourceImages.{source_image}
use Rattle.mw_c_lent.specs.declared.rules.Rule.{Rule}
use Rattle.mw_c_lent.specs.declared.rules.Rule.TheVariants as rules
use Rattle.mw_c_lent.specs.Rules.{rule_picture}
use Rattle.mw_c_lent.proofs.Steps.{rule_is_picture}
use Rattle.mw_c_layers.specs.declared.origins.Origin.{Origin}
use Rattle.mw_c_layers.specs.declared.origins.Origin.TheVariants.{Array, Made}
use Rattle.mw_c_layers.specs.Origins.{IsOrigin, origin_picture}

pub origin_image : (f : Origin) → IsOrigin f → IsImage (origin_picture f)
origin_image (Array f) is = source_image f is
origin_image (Made f) is = is

-- a set has the level 1 at most
pub set_top : (f : Picture) → IsImage f → f.kind ≡ kind.Bit → f.maxval ≡ 1
set_top f image is = subst (λ (k : Kind). FitsKind k f.maxval) is image.maxval

-- ---- what a rule makes

fits_still : (r : Rule) (f : Picture) → FitsKind f.kind f.maxval → FitsKind (rule_picture r f).kind (rule_picture r f).maxval
fits_still (rules.Least e) f is = is
fits_still (rules.Greatest e) f is = is
fits_still (rules.LeastBox b) f is = is
fits_still (rules.GreatestBox b) f is = is
fits_still (rules.Nth e k) f is = is
fits_still (rules.AtLeast k) f is = refl

pub rule_image : (r : Rule) (f : Picture) → IsImage f → IsImage (rule_picture r f)
rule_image r f is = record { picture = rule_is_picture r f is.picture; maxval = fits_still r f is.maxval; width = is.width; height = is.height; area = is.area }

pub between_image : (r : Rule) (f : ArrayImage) → IsArrayImage f → IsImage (rule_picture r (picture_in f))
between_image r f is = rule_image r (picture_in f) (source_image f is)
