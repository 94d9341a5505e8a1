-- What operations give: images, or volumes.
use Rattle.std.proofs.Common.{◌≡◌, ℕ, true, false, List, [], ◌∷◌, Option, Some, None, ap, subst, sym, ◌∙◌}
use Rattle.std.specs.Prelude.{IfOk, Result, Ok, Err}
use Rattle.mw_model.specs.declared.codes.Code.{Code}
use Rattle.mw_model.specs.declared.operations.FlatOp.TheVariants as flat
use Rattle.mw_model.specs.declared.operations.GranOp.TheVariants as gran
use Rattle.mw_model.specs.declared.operations.Op.{Op}
use Rattle.mw_model.specs.declared.operations.Op.TheVariants as op
use Rattle.mw_model.specs.Elements.{Figure}
use Rattle.mw_model.specs.Pictures.{Picture}
use Rattle.mw_model.specs.Values.{CurveValue, ElementValue, ImageValue, Value, result_of}
use Rattle.mw_model.specs.Flat.{hit_or_miss}
use Rattle.mw_c_arrays.specs.declared.arrays.Bitmap.{Bitmap}
use Rattle.mw_c_arrays.specs.Arrays.{element_in}
use Rattle.mw_c_calls.specs.Calls.{is_drawing, takes_one}
use Rattle.mw_c_calls.specs.Sources.{bitmap_figure}

-- the value of an operation by one element
abbrev pub value_by : Op → Picture → Figure → Option Value
value_by o f b = result_of o (Some (ImageValue f) ∷ Some (ElementValue b) ∷ None ∷ [])

-- it is that of the same image and element
pub value_same : (o : Op) (f g : Picture) (b c : Figure) (v : Option Value) → f ≡ g → b ≡ c → value_by o f b ≡ v → value_by o g c ≡ v
value_same o f g b c v same_image same_element is =
    subst (λ (h : Picture). value_by o h c ≡ v) same_image (subst (λ (d : Figure). value_by o f d ≡ v) same_element is)

-- an operation that draws gives no volumes
pub drawing_draws : (o : Op) (f : Picture) (b : Figure) (volumes : List ℕ) → takes_one o ≡ true → is_drawing o ≡ true → value_by o f b ≡ Some (CurveValue volumes) → ⊥
drawing_draws (op.Flat (flat.Erode x y)) f b volumes one drawing e = cc
drawing_draws (op.Flat (flat.Dilate x y)) f b volumes one drawing e = cc
drawing_draws (op.Flat (flat.Opening x y)) f b volumes one drawing e = cc
drawing_draws (op.Flat (flat.Closing x y)) f b volumes one drawing e = cc
drawing_draws (op.Flat (flat.Gradient x y)) f b volumes one drawing e = cc
drawing_draws (op.Flat (flat.WhiteTopHat x y)) f b volumes one drawing e = cc
drawing_draws (op.Flat (flat.BlackTopHat x y)) f b volumes one drawing e = cc
drawing_draws (op.Flat (flat.Rank x y k)) f b volumes one drawing e = cc
drawing_draws (op.Flat (flat.Threshold x k)) f b volumes one drawing e = cc
drawing_draws (op.Flat (flat.HitMiss x y z)) f b volumes one drawing e = cc
drawing_draws (op.Gran (gran.Skeleton x y levels)) f b volumes one drawing e = cc
drawing_draws (op.Gran (gran.Restore x y levels)) f b volumes one drawing e = cc
drawing_draws (op.Gran (gran.Spectrum x y levels)) f b volumes one drawing e = cc

-- and one that measures gives no image
pub measuring_measures : (o : Op) (f g : Picture) (b : Figure) → is_drawing o ≡ false → value_by o f b ≡ Some (ImageValue g) → ⊥
measuring_measures (op.Flat o) f g b measuring e = cc
measuring_measures (op.Gran (gran.Skeleton x y levels)) f g b measuring e = cc
measuring_measures (op.Gran (gran.Restore x y levels)) f g b measuring e = cc
measuring_measures (op.Gran (gran.Spectrum x y levels)) f g b measuring e = cc

-- two values that are one image
pub image_same : (f g : Picture) (v : Option Value) → v ≡ Some (ImageValue f) → v ≡ Some (ImageValue g) → g ≡ f
image_same f g v first second = let e : Some (ImageValue f) ≡ Some (ImageValue g) = sym first ∙ second in cc

pub volumes_same : (a b : List ℕ) (v : Option Value) → v ≡ Some (CurveValue a) → v ≡ Some (CurveValue b) → b ≡ a
volumes_same a b v first second = let e : Some (CurveValue a) ≡ Some (CurveValue b) = sym first ∙ second in cc

-- where an image was made, it is the one that the operation means
pub value_is : (r : Result Picture Code) (v : Option Value) (wanted : Picture) → IfOk r (λ g. v ≡ Some (ImageValue g)) → v ≡ Some (ImageValue wanted) → IfOk r (λ g. g ≡ wanted)
value_is (Ok g) v wanted made means = image_same wanted g v means made
value_is (Err c) v wanted made means = tt

pub measure_is : (r : Result (List ℕ) Code) (v : Option Value) (wanted : List ℕ) → IfOk r (λ w. v ≡ Some (CurveValue w)) → v ≡ Some (CurveValue wanted) → IfOk r (λ w. w ≡ wanted)
measure_is (Ok w) v wanted made means = volumes_same wanted w v means made
measure_is (Err c) v wanted made means = tt

-- hits and misses of the same image and elements
pub hits_made : (x y : Bitmap) (f g h : Picture) (b c : Figure) → f ≡ g → b ≡ bitmap_figure x → c ≡ bitmap_figure y → Some (ImageValue (hit_or_miss b.offsets c.offsets f)) ≡ Some (ImageValue h)
    → h ≡ hit_or_miss (element_in x) (element_in y) g
hits_made x y f g h b c image hit miss value =
    let made : h ≡ hit_or_miss b.offsets c.offsets f = cc in
    made
    ∙ ap (λ (d : Figure). hit_or_miss d.offsets c.offsets f) hit
    ∙ ap (λ (d : Figure). hit_or_miss (element_in x) d.offsets f) miss
    ∙ ap (λ (t : Picture). hit_or_miss (element_in x) (element_in y) t) image
