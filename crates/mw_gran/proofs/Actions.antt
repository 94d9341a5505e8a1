-- What single steps do in a plan that grows.
use Rattle.std.proofs.Common.{◌≡◌, ℕ, zero, suc, ◌+◌, ◌<◌, ◌≤◌, List, [], ◌∷◌, refl, ap, sym, subst, arith, ◌∙◌}
use Rattle.mw_model.specs.declared.shapes.Kind.{Kind}
use Rattle.mw_model.specs.declared.shapes.Kind.TheVariants.{Bit, Grey}
use Rattle.mw_model.specs.declared.offsets.Offset.{Offset}
use Rattle.mw_model.specs.Pictures.{Picture, sample, drawn, IsPicture, IsSet}
use Rattle.mw_model.specs.Flat.{under, least, greatest, erosion, dilation, reflected}
use Rattle.mw_model.specs.Iterates.{times, residue_mark, skeleton, level_set, union}
use Rattle.mw_model.specs.PlanSteps.{PlanStep, Join, Blank, Mark, MarkLast, Equal, Sum}
use Rattle.mw_model.specs.Plans.{plane_of, FromInput}
use Rattle.mw_model.proofs.ImagePlaces.{length-rows}
use Rattle.mw_model.proofs.ImageOrder.{bounded_erosion, bounded_dilation}
use Rattle.mw_model.proofs.Iterated.{eroded_shape}
use Rattle.mw_plan.specs.Steps.{ActsAs}
use Rattle.mw_gran.specs.Growing.{IsOfFrame, Acts, ShowsOperator}
use Rattle.mw_gran.specs.Turns.{marked}
use Rattle.mw_gran.proofs.StepPlanes.{plane-sum, plane-equal, plane-join, plane-mark, plane-mark_last}

-- ---- frames

pub drawn_framed : (kind : Kind) (w h maxval : ℕ) (value : ℕ → ℕ → ℕ) → IsOfFrame (drawn kind w h maxval value) w h
drawn_framed kind w h maxval value = record { width = refl; height = refl; size = length-rows value w 0 h }

-- the operator keeps the frame of each image
abbrev pub KeepsFrames : (Picture → Picture) → Type 0
KeepsFrames operator = (f : Picture) (w h : ℕ) → IsOfFrame f w h → IsOfFrame (operator f) w h

redrawn_framed : (kind : Kind) (maxval : ℕ) (value : ℕ → ℕ → ℕ) (f : Picture) (w h : ℕ) → IsOfFrame f w h → IsOfFrame (drawn kind f.width f.height maxval value) w h
redrawn_framed kind maxval value f w h framed =
    subst (λ (t : ℕ). IsOfFrame (drawn kind f.width f.height maxval value) t h) framed.width
    (subst (λ (t : ℕ). IsOfFrame (drawn kind f.width f.height maxval value) f.width t) framed.height (drawn_framed kind f.width f.height maxval value))

pub erosion_framed : (b : List Offset) → KeepsFrames (erosion b)
erosion_framed b f w h framed = redrawn_framed f.kind f.maxval (λ x y. least f.maxval (under f b x y)) f w h framed

pub dilation_framed : (b : List Offset) → KeepsFrames (dilation b)
dilation_framed b f w h framed = redrawn_framed f.kind f.maxval (λ x y. greatest (under f b x y)) f w h framed

pub times_framed : (operator : Picture → Picture) → KeepsFrames operator → (n : ℕ) → KeepsFrames (times n operator)
times_framed operator keeps zero f w h framed = framed
times_framed operator keeps (suc n) f w h framed = keeps (times n operator f) w h (times_framed operator keeps n f w h framed)

-- the image is of its own frame
pub picture_framed : (f : Picture) → IsPicture f → IsOfFrame f f.width f.height
picture_framed f picture = record { width = refl; height = refl; size = picture.size }

-- ---- steps of one image

pub acts_on : (Fits : Picture → Type 0) (step : PlanStep) (operator before : Picture → Picture) → ActsAs step operator → KeepsFrames operator
    → ((f : Picture) → Fits f → IsOfFrame (before f) f.width f.height)
    → Acts Fits step (λ f. before f ∷ []) (λ f. operator (before f))
acts_on Fits step operator before acts keeps framed = record {
  made = λ f fits. acts.made (before f);
  plane = λ f fits. of_frame (before f) f.width f.height (framed f fits);
  framed = λ f fits. keeps (before f) f.width f.height (framed f fits);
}
  where
    of_frame : (g : Picture) (w h : ℕ) → IsOfFrame g w h → plane_of step (g ∷ []) w h ≡ operator g
    of_frame g w h framed =
        ap (λ (t : ℕ). plane_of step (g ∷ []) t h) (sym framed.width)
        ∙ ap (λ (t : ℕ). plane_of step (g ∷ []) g.width t) (sym framed.height)
        ∙ acts.plane g

pub acts_equal : (Fits : Picture → Type 0) (v : ℕ) → ((f : Picture) → Fits f → IsPicture f) → Acts Fits (Equal v) (λ f. f ∷ []) (level_set v)
acts_equal Fits v picture = record {
  made = λ f fits. record { count = refl; kinds = tt };
  plane = λ f fits. plane-equal v f f.width f.height (picture_framed f (picture f fits));
  framed = λ f fits. drawn_framed Bit f.width f.height 1 _;
}

pub acts_sum : (Fits : Picture → Type 0) (before : Picture → Picture) → ((f : Picture) → Fits f → IsOfFrame (before f) f.width f.height) → Acts Fits Sum (λ f. before f ∷ []) before
acts_sum Fits before framed = record {
  made = λ f fits. record { count = refl; kinds = tt };
  plane = λ f fits. plane-sum (before f) f.width f.height (framed f fits);
  framed = framed;
}

-- ---- unions

pub acts_join : (Fits : Picture → Type 0) (first second : Picture → Picture) → ((f : Picture) → Fits f → IsOfFrame (first f) f.width f.height) → ((f : Picture) → Fits f → IsOfFrame (second f) f.width f.height)
    → ((f : Picture) → (first f).kind ≡ (second f).kind) → ((f : Picture) → (first f).maxval ≡ (second f).maxval)
    → Acts Fits Join (λ f. first f ∷ second f ∷ []) (λ f. union (first f) (second f))
acts_join Fits first second framed beside kinds maxvals = record {
  made = λ f fits. record { count = refl; kinds = (kinds f, maxvals f) };
  plane = λ f fits. plane-join (first f) (second f) f.width f.height (framed f fits) (beside f fits);
  framed = λ f fits. redrawn_framed _ _ _ (first f) f.width f.height (framed f fits);
}

-- ---- marks

pub acts_blank : (b : List Offset) (depth : ℕ) → depth < 65535 → Acts IsSet (Blank (depth + 1)) (λ f. []) (marked b depth 0)
acts_blank b depth low = record {
  made = λ f fits. record { count = refl; kinds = (omega arith, omega arith) };
  plane = λ f fits. refl;
  framed = λ f fits. drawn_framed Grey f.width f.height (depth + 1) (residue_mark b f 0);
}

pub eroded_framed : (b : List Offset) (n : ℕ) (f : Picture) → IsSet f → IsOfFrame (times n (erosion b) f) f.width f.height
eroded_framed b n f set = times_framed (erosion b) (erosion_framed b) n f f.width f.height (picture_framed f set.picture)

abbrev opened : List Offset → ℕ → Picture → Picture
opened b n f = dilation (reflected b) (erosion b (times n (erosion b) f))

opened_framed : (b : List Offset) (n : ℕ) (f : Picture) → IsSet f → IsOfFrame (opened b n f) f.width f.height
opened_framed b n f set =
    let eroded = erosion b (times n (erosion b) f) in
    dilation_framed (reflected b) eroded f.width f.height (erosion_framed b (times n (erosion b) f) f.width f.height (eroded_framed b n f set))

opened_small : (b : List Offset) (n : ℕ) (f : Picture) → IsSet f → (x y : ℕ) → x < f.width → y < f.height → sample (opened b n f) x y ≤ 1
opened_small b n f set x y p q =
    let eroded = times n (erosion b) f in
    let shape = eroded_shape b n f in
    omega (arith, bounded_dilation (reflected b) (erosion b eroded) (bounded_erosion b eroded) x y (omega (arith, shape.width)) (omega (arith, shape.height)), shape.maxval, set.maxval)

pub acts_mark : (b : List Offset) (depth n : ℕ) → n < depth
    → Acts IsSet (Mark (n + 1)) (λ f. marked b depth n f ∷ times n (erosion b) f ∷ dilation (reflected b) (erosion b (times n (erosion b) f)) ∷ []) (marked b depth (suc n))
acts_mark b depth n below = record {
  made = λ f set.
      let shape = eroded_shape b n f in
      record { count = refl; kinds = (omega arith, shape.kind ∙ set.kind, shape.kind ∙ set.kind) };
  plane = λ f set.
      plane-mark b depth n f (marked b depth n f) (times n (erosion b) f) (opened b n f) (drawn_framed Grey f.width f.height (depth + 1) (residue_mark b f n)) (eroded_framed b n f set) (opened_framed b n f set)
      refl refl refl (opened_small b n f set);
  framed = λ f set. drawn_framed Grey f.width f.height (depth + 1) (residue_mark b f (suc n));
}

pub acts_mark_last : (b : List Offset) (depth : ℕ) → Acts IsSet (MarkLast (depth + 1)) (λ f. marked b depth depth f ∷ times depth (erosion b) f ∷ []) (skeleton b depth)
acts_mark_last b depth = record {
  made = λ f set.
      let shape = eroded_shape b depth f in
      record { count = refl; kinds = (omega arith, shape.kind ∙ set.kind) };
  plane = λ f set.
      plane-mark_last b depth f (marked b depth depth f) (times depth (erosion b) f) (drawn_framed Grey f.width f.height (depth + 1) (residue_mark b f depth)) (eroded_framed b depth f set) refl refl;
  framed = λ f set. drawn_framed Grey f.width f.height (depth + 1) _;
}

-- the input shows the image
pub shows_input : (Fits : Picture → Type 0) (p : _) → ((f : Picture) → Fits f → IsPicture f) → ShowsOperator Fits p (FromInput 0) (λ f. f)
shows_input Fits p picture = record {
  here = omega arith;
  plane = tt;
  is = λ f fits. refl;
  framed = λ f fits. picture_framed f (picture f fits);
}
