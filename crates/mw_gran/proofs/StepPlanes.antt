-- The planes of single steps, on images of the frame.
use Rattle.std.proofs.Common.{◌≡◌, ℕ, suc, ◌+◌, ◌<◌, ◌≤◌, ◌&&◌, ◌==◌, not, if◌then◌else◌, List, [], ◌∷◌, max, refl, ap, subst, arith, ◌∙◌, inl, inr}
use Rattle.std.proofs.lemmas.Bool.{cases_eq}
use Rattle.mw_model.specs.declared.shapes.Kind.TheVariants.{Bit, Grey}
use Rattle.mw_model.specs.declared.offsets.Offset.{Offset}
use Rattle.mw_model.specs.declared.offsets.OffsetBox.{OffsetBox}
use Rattle.mw_model.specs.Rectangles.{box_offsets}
use Rattle.mw_model.specs.Pictures.{Picture, sample, sample_at, drawn}
use Rattle.mw_model.specs.Flat.{erosion, dilation, opening}
use Rattle.mw_model.specs.Iterates.{times, residue_mark, skeleton, level_set, union}
use Rattle.mw_model.specs.PlanSteps.{ErodeBox, DilateBox, Join, Mark, MarkLast, Equal, Sum, here}
use Rattle.mw_model.specs.Plans.{plane_of}
use Rattle.mw_gran.specs.Growing.{IsOfFrame}
use Rattle.mw_gran.specs.Turns.{marked}
use Rattle.mw_model.proofs.Covers.{sample_at_in}
use Rattle.mw_model.proofs.ImagePlaces.{drawn_same, sample-drawn, redrawn_itself}

pub here_sample : (f : Picture) (width height x y : ℕ) → IsOfFrame f width height → x < width → y < height → here (sample_at f) x y ≡ sample f x y
here_sample f width height x y framed p q = rw (sample_at_in f x y (omega (arith, framed.width)) (omega (arith, framed.height))) refl

pub plane-erode_box : (box : OffsetBox) (f : Picture) (width height : ℕ) → IsOfFrame f width height → plane_of (ErodeBox box) (f ∷ []) width height ≡ erosion (box_offsets box) f
plane-erode_box box f width height framed = rw (← framed.width, ← framed.height) refl

pub plane-dilate_box : (box : OffsetBox) (f : Picture) (width height : ℕ) → IsOfFrame f width height → plane_of (DilateBox box) (f ∷ []) width height ≡ dilation (box_offsets box) f
plane-dilate_box box f width height framed = rw (← framed.width, ← framed.height) refl

pub plane-sum : (f : Picture) (width height : ℕ) → IsOfFrame f width height → plane_of Sum (f ∷ []) width height ≡ f
plane-sum f width height framed =
    drawn_same f.kind width height f.maxval (here (sample_at f)) (sample f) (λ x y p q. here_sample f width height x y framed p q)
    ∙ rw (← framed.width, ← framed.height) (redrawn_itself f (framed.size ∙ rw (framed.width, framed.height) refl))

pub plane-equal : (v : ℕ) (f : Picture) (width height : ℕ) → IsOfFrame f width height → plane_of (Equal v) (f ∷ []) width height ≡ level_set v f
plane-equal v f width height framed =
    drawn_same Bit width height 1 (λ x y. if here (sample_at f) x y == v then 1 else 0) (λ x y. if sample f x y == v then 1 else 0)
    (λ x y p q. ap (λ (s : ℕ). if s == v then 1 else 0) (here_sample f width height x y framed p q))
    ∙ rw (← framed.width, ← framed.height) refl

pub plane-join : (f g : Picture) (width height : ℕ) → IsOfFrame f width height → IsOfFrame g width height → plane_of Join (f ∷ g ∷ []) width height ≡ union f g
plane-join f g width height framed beside =
    drawn_same f.kind width height f.maxval (λ x y. max (here (sample_at f) x y) (here (sample_at g) x y)) (λ x y. max (sample f x y) (sample g x y))
    (λ x y p q. ap (λ (s : ℕ). max s (here (sample_at g) x y)) (here_sample f width height x y framed p q) ∙ ap (λ (s : ℕ). max (sample f x y) s) (here_sample g width height x y beside p q))
    ∙ rw (← framed.width, ← framed.height) refl

-- ---- marks

not_one : (s : ℕ) → s ≤ 1 → (s == 0) ≡ not (s == 1)
not_one s le = elim (cases_eq s 0) [
  | inl none ↦ rw none refl
  | inr some ↦ let one : s ≡ 1 = omega arith in rw one refl
]

abbrev mark : ℕ → ℕ → ℕ → ℕ → ℕ
mark v s t m = if s == 1 && t == 0 then v else m

same_mark : (v s t m s' t' m' : ℕ) → s ≡ s' → t ≡ t' → m ≡ m' → t' ≤ 1 → mark v s t m ≡ (if s' == 1 && not (t' == 1) then v else m')
same_mark v s t m s' t' m' p q r le = rw (p, q, r, not_one t' le) refl

-- a residue is what stands in a set and not in its opening
pub plane-mark : (b : List Offset) (depth n : ℕ) (f g x o : Picture)
    → IsOfFrame g f.width f.height → IsOfFrame x f.width f.height → IsOfFrame o f.width f.height
    → g ≡ marked b depth n f → x ≡ times n (erosion b) f → o ≡ opening b (times n (erosion b) f)
    → ((i j : ℕ) → i < f.width → j < f.height → sample o i j ≤ 1)
    → plane_of (Mark (n + 1)) (g ∷ x ∷ o ∷ []) f.width f.height ≡ marked b depth (suc n) f
plane-mark b depth n f g x o g-framed x-framed o-framed g-is x-is o-is small =
    ap (λ (t : Picture). drawn t.kind f.width f.height t.maxval (λ i j. mark (n + 1) (here (sample_at x) i j) (here (sample_at o) i j) (here (sample_at g) i j))) g-is
    ∙ drawn_same Grey f.width f.height (depth + 1) (λ i j. mark (n + 1) (here (sample_at x) i j) (here (sample_at o) i j) (here (sample_at g) i j)) (residue_mark b f (suc n)) each
  where
    each : (i j : ℕ) → i < f.width → j < f.height → mark (n + 1) (here (sample_at x) i j) (here (sample_at o) i j) (here (sample_at g) i j) ≡ residue_mark b f (suc n) i j
    each i j p q =
        same_mark (n + 1) (here (sample_at x) i j) (here (sample_at o) i j) (here (sample_at g) i j) _ _ _
        (here_sample x f.width f.height i j x-framed p q ∙ ap (λ (t : Picture). sample t i j) x-is)
        (here_sample o f.width f.height i j o-framed p q ∙ ap (λ (t : Picture). sample t i j) o-is)
        (here_sample g f.width f.height i j g-framed p q ∙ ap (λ (t : Picture). sample t i j) g-is ∙ sample-drawn Grey f.width f.height (depth + 1) (residue_mark b f n) i j p q)
        (subst (λ (t : Picture). sample t i j ≤ 1) o-is (small i j p q))

abbrev over : ℕ → ℕ → ℕ → ℕ
over v s m = if s == 1 then v else m

-- what the last erosion leaves stands over the marks
pub plane-mark_last : (b : List Offset) (depth : ℕ) (f g x : Picture) → IsOfFrame g f.width f.height → IsOfFrame x f.width f.height
    → g ≡ marked b depth depth f → x ≡ times depth (erosion b) f
    → plane_of (MarkLast (depth + 1)) (g ∷ x ∷ []) f.width f.height ≡ skeleton b depth f
plane-mark_last b depth f g x g-framed x-framed g-is x-is =
    ap (λ (t : Picture). drawn t.kind f.width f.height t.maxval (λ i j. over (depth + 1) (here (sample_at x) i j) (here (sample_at g) i j))) g-is
    ∙ drawn_same Grey f.width f.height (depth + 1) (λ i j. over (depth + 1) (here (sample_at x) i j) (here (sample_at g) i j)) (λ i j. over (depth + 1) (sample (times depth (erosion b) f) i j) (residue_mark b f depth i j)) each
  where
    each : (i j : ℕ) → i < f.width → j < f.height → over (depth + 1) (here (sample_at x) i j) (here (sample_at g) i j) ≡ over (depth + 1) (sample (times depth (erosion b) f) i j) (residue_mark b f depth i j)
    each i j p q =
        ap (λ (t : ℕ). over (depth + 1) t (here (sample_at g) i j)) (here_sample x f.width f.height i j x-framed p q ∙ ap (λ (t : Picture). sample t i j) x-is)
        ∙ ap (over (depth + 1) (sample (times depth (erosion b) f) i j))
        (here_sample g f.width f.height i j g-framed p q ∙ ap (λ (t : Picture). sample t i j) g-is ∙ sample-drawn Grey f.width f.height (depth + 1) (residue_mark b f depth) i j p q)
