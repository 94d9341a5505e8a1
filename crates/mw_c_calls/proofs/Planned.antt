-- What plans of flat operators make.
use Rattle.std.proofs.Common.{◌≡◌, ℕ, true, List, [], ◌∷◌, Option, Some, refl, ap, subst, ◌∙◌, Global}
use Rattle.std.specs.Arc.{arc_value}
use Rattle.std.specs.Borrow.{Bor}
use Rattle.std.specs.declared.sync.Arc.{Arc}
use Rattle.mw_model.specs.declared.operations.FlatOp.{FlatOp}
use Rattle.mw_model.specs.declared.operations.FlatOp.TheVariants as flat
use Rattle.mw_model.specs.declared.operations.Op.TheVariants as op
use Rattle.mw_model.specs.declared.offsets.Offset.{Offset}
use Rattle.mw_model.specs.declared.shapes.Shape.{Shape}
use Rattle.mw_model.specs.declared.names.Name.{Name}
use Rattle.mw_model.specs.Elements.{Figure}
use Rattle.mw_model.specs.Flat.{black_top_hat, closing, dilation, erosion, gradient, opening, rank, threshold, white_top_hat}
use Rattle.mw_model.specs.Laws.{SameShape}
use Rattle.mw_model.specs.Pictures.{IsImage, Picture}
use Rattle.mw_model.specs.Plans.{Plan}
use Rattle.mw_model.specs.Values.{ElementValue, ImageValue, Value, shape_of_picture}
use Rattle.mw_plan.specs.declared.inputs.Input.TheVariants as input
use Rattle.mw_plan.specs.PlansOf.{IsPlanOf}
use Rattle.mw_plan.specs.Steps.{last_plane, operator_of}
use Rattle.mw_c_calls.specs.Calls.{takes_one}

-- an image as what an operation gives
abbrev image_value : Picture → Option Value
image_value f = Some (ImageValue f)

image_same : (f g : Picture) → image_value f ≡ image_value g → f ≡ g
image_same f g e = cc

-- the values of an image and an element
abbrev two_values : Picture → Figure → List (Option Value)
two_values f b = Some (ImageValue f) ∷ Some (ElementValue b) ∷ []

-- the plan is one of an operation by one element
abbrev IsPlanBy : FlatOp → Picture → Bor (Arc Figure Global) → Plan → Type 0
IsPlanBy o f b plan = IsPlanOf (op.Flat o) (input.Image (shape_of_picture f)) (input.Element b) input.Absent plan

plan_means : (o : FlatOp) (f : Picture) (b : Bor (Arc Figure Global)) (plan : Plan) → IsImage f → takes_one (op.Flat o) ≡ true → IsPlanBy o f b plan → last_plane plan f ≡ operator_of o (arc_value b.now).offsets [] f
plan_means (flat.Erode x y) f b plan image one is = image_same (last_plane plan f) (erosion (arc_value b.now).offsets f) (is.means (two_values f (arc_value b.now)) f.width f.height ((f, refl, image, refl), (refl, tt)) ((refl, refl), tt))
plan_means (flat.Dilate x y) f b plan image one is = image_same (last_plane plan f) (dilation (arc_value b.now).offsets f) (is.means (two_values f (arc_value b.now)) f.width f.height ((f, refl, image, refl), (refl, tt)) ((refl, refl), tt))
plan_means (flat.Opening x y) f b plan image one is = image_same (last_plane plan f) (opening (arc_value b.now).offsets f) (is.means (two_values f (arc_value b.now)) f.width f.height ((f, refl, image, refl), (refl, tt)) ((refl, refl), tt))
plan_means (flat.Closing x y) f b plan image one is = image_same (last_plane plan f) (closing (arc_value b.now).offsets f) (is.means (two_values f (arc_value b.now)) f.width f.height ((f, refl, image, refl), (refl, tt)) ((refl, refl), tt))
plan_means (flat.Gradient x y) f b plan image one is = image_same (last_plane plan f) (gradient (arc_value b.now).offsets f) (is.means (two_values f (arc_value b.now)) f.width f.height ((f, refl, image, refl), (refl, tt)) ((refl, refl), tt))
plan_means (flat.WhiteTopHat x y) f b plan image one is = image_same (last_plane plan f) (white_top_hat (arc_value b.now).offsets f) (is.means (two_values f (arc_value b.now)) f.width f.height ((f, refl, image, refl), (refl, tt)) ((refl, refl), tt))
plan_means (flat.BlackTopHat x y) f b plan image one is = image_same (last_plane plan f) (black_top_hat (arc_value b.now).offsets f) (is.means (two_values f (arc_value b.now)) f.width f.height ((f, refl, image, refl), (refl, tt)) ((refl, refl), tt))
plan_means (flat.Rank x y k) f b plan image one is = image_same (last_plane plan f) (rank (arc_value b.now).offsets k f) (is.means (two_values f (arc_value b.now)) f.width f.height ((f, refl, image, refl), (refl, tt)) ((refl, refl), tt))
plan_means (flat.Threshold x k) f b plan image one is = absurd cc
plan_means (flat.HitMiss x y z) f b plan image one is = absurd cc

-- and of an element whose offsets have another name
pub plan_is : (o : FlatOp) (f : Picture) (s : Shape) (b : Bor (Arc Figure Global)) (d : Figure) (plan : Plan) → IsImage f → takes_one (op.Flat o) ≡ true → s ≡ shape_of_picture f → arc_value b.now ≡ d
    → IsPlanOf (op.Flat o) (input.Image s) (input.Element b) input.Absent plan → last_plane plan f ≡ operator_of o d.offsets [] f
plan_is o f s b d plan image one shape element is =
    plan_means o f b plan image one (subst (λ (t : Shape). IsPlanOf (op.Flat o) (input.Image t) (input.Element b) input.Absent plan) shape is)
    ∙ ap (λ (x : Figure). operator_of o x.offsets [] f) element

pub threshold_plan_is : (x : Name) (k : ℕ) (f : Picture) (s : Shape) (plan : Plan) → IsImage f → s ≡ shape_of_picture f → IsPlanOf (op.Flat (flat.Threshold x k)) (input.Image s) input.Absent input.Absent plan → last_plane plan f ≡ threshold k f
threshold_plan_is x k f s plan image shape is =
    let own : IsPlanOf (op.Flat (flat.Threshold x k)) (input.Image (shape_of_picture f)) input.Absent input.Absent plan = subst (λ (t : Shape). IsPlanOf (op.Flat (flat.Threshold x k)) (input.Image t) input.Absent input.Absent plan) shape is in
    image_same (last_plane plan f) (threshold k f) (own.means (Some (ImageValue f) ∷ []) f.width f.height ((f, refl, image, refl), tt) ((refl, refl), tt))

-- what an operation by one element makes has the shape of the image
operator_shape : (o : FlatOp) (e : List Offset) (f : Picture) → takes_one (op.Flat o) ≡ true → SameShape (operator_of o e [] f) f
operator_shape (flat.Erode x y) e f one = record { kind = refl; width = refl; height = refl; maxval = refl }
operator_shape (flat.Dilate x y) e f one = record { kind = refl; width = refl; height = refl; maxval = refl }
operator_shape (flat.Opening x y) e f one = record { kind = refl; width = refl; height = refl; maxval = refl }
operator_shape (flat.Closing x y) e f one = record { kind = refl; width = refl; height = refl; maxval = refl }
operator_shape (flat.Gradient x y) e f one = record { kind = refl; width = refl; height = refl; maxval = refl }
operator_shape (flat.WhiteTopHat x y) e f one = record { kind = refl; width = refl; height = refl; maxval = refl }
operator_shape (flat.BlackTopHat x y) e f one = record { kind = refl; width = refl; height = refl; maxval = refl }
operator_shape (flat.Rank x y k) e f one = record { kind = refl; width = refl; height = refl; maxval = refl }
operator_shape (flat.Threshold x k) e f one = absurd cc
operator_shape (flat.HitMiss x y z) e f one = absurd cc

-- its maxval, by the name that its plan gives it
pub maxval_is : (o : FlatOp) (e : List Offset) (f g : Picture) → takes_one (op.Flat o) ≡ true → g ≡ operator_of o e [] f → g.maxval ≡ f.maxval
maxval_is o e f g one is = ap (λ (p : Picture). p.maxval) is ∙ (operator_shape o e f one).maxval
