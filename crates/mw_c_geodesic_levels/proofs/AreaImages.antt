-- Area openings and closings by their numbers, as images, and by elements that cover alike.
use Rattle.std.proofs.Common.{◌≡◌, ℕ, zero, suc, ◌+◌, ◌-◌, ◌*◌, ◌^◌, ◌<◌, ◌≤◌, Bool, List, length, map, refl, ap, sym, subst, arith, ◌∙◌, inl, inr}
use Rattle.std.specs.Prelude.{◌==◌, if◌then◌else◌, filter}
use Rattle.std.specs.List.{range_with_len}
use Rattle.std.proofs.lemmas.Bool.{cases_Bool, cases_eq, eq-eqb, ne_eqb}
use Rattle.std.proofs.lemmas.List.{length-map}
use Rattle.std.proofs.lemmas.List.Elements.{filter_agree}
use Rattle.mw_model.specs.declared.offsets.Offset.{Offset}
use Rattle.mw_model.specs.declared.shapes.Kind.{Kind}
use Rattle.mw_model.specs.declared.shapes.Kind.TheVariants as kind_of
use Rattle.mw_model.specs.Flat.{complement, greatest, threshold}
use Rattle.mw_model.specs.Laws.{SameShape}
use Rattle.mw_model.specs.Pictures.{Picture, picture, sample, FitsKind, IsImage, IsPicture}
use Rattle.mw_model.proofs.ImageLaws.{drawn_picture}
use Rattle.mw_model.proofs.ImagePlaces.{drawn_same}
use Rattle.mw_geodesic.specs.Components.{area_closing, area_opening, large_components}
use Rattle.mw_geodesic.proofs.Complements.{complement_picture}
use Rattle.mw_c_arrays.specs.declared.sources.ArrayImage.{ArrayImage}
use Rattle.mw_c_arrays.specs.Sources.{IsArrayImage, array_sample_count, picture_in}
use Rattle.mw_c_arrays.proofs.SourceImages.{source_image}
use Rattle.mw_c_geodesic.specs.Alike.{CoverAlike}
use Rattle.mw_c_geodesic.proofs.RebuiltImages.{image_like}
use Rattle.mw_c_geodesic.proofs.Shapes.{fills_room, large_alike}
use Rattle.mw_c_geodesic_levels.specs.Areas.{area_filtered}

-- ---- by their numbers

pub by_opening : (kind least : ℕ) (e : List Offset) (f : Picture) → kind ≡ 0 → area_filtered kind e least f ≡ area_opening e least f
by_opening kind least e f is = ap (λ b. if b then area_opening e least f else area_closing e least f) (eq-eqb kind 0 is)

pub by_closing : (kind least : ℕ) (e : List Offset) (f : Picture) → (kind ≡ 0 → ⊥) → area_filtered kind e least f ≡ area_closing e least f
by_closing kind least e f other = ap (λ b. if b then area_opening e least f else area_closing e least f) (ne_eqb kind 0 other)

-- what holds of both holds by their numbers
of_both : (P : Picture → Type 0) (kind least : ℕ) (e : List Offset) (f : Picture) → P (area_opening e least f) → P (area_closing e least f) → P (area_filtered kind e least f)
of_both P kind least e f opened closed = elim (cases_eq kind 0) [
  | inl is ↦ subst P (sym (by_opening kind least e f is)) opened
  | inr other ↦ subst P (sym (by_closing kind least e f other)) closed
]

-- ---- as images

greatest_low : (pass : ℕ → Bool) (b n : ℕ) → greatest (filter pass (range_with_len b n)) ≤ b + n - 1
greatest_low pass b zero = omega arith
greatest_low pass b (suc n) =
    let rest = greatest_low pass (b + 1) n in
    elim (cases_Bool (pass b)) [
      | inl e ↦ rw e (omega arith)
      | inr e ↦ rw e (omega arith)
    ]

opening_picture : (e : List Offset) (least : ℕ) (f : Picture) → IsPicture (area_opening e least f)
opening_picture e least f =
    drawn_picture f.kind f.width f.height f.maxval (λ x y. greatest (filter (λ k. sample (large_components e least (threshold k f)) x y == 1) (range_with_len 1 f.maxval)))
    (λ x y p q. let low = greatest_low (λ k. sample (large_components e least (threshold k f)) x y == 1) 1 f.maxval in omega arith)

pub area_picture : (kind least : ℕ) (e : List Offset) (f : Picture) → IsPicture (area_filtered kind e least f)
area_picture kind least e f = of_both IsPicture kind least e f (opening_picture e least f) (complement_picture (area_opening e least (complement f)))

area_shape : (kind least : ℕ) (e : List Offset) (f : Picture) → SameShape (area_filtered kind e least f) f
area_shape kind least e f =
    of_both (λ (t : Picture). SameShape t f) kind least e f (record { kind = refl; width = refl; height = refl; maxval = refl }) (record { kind = refl; width = refl; height = refl; maxval = refl })

-- an image that a plain program made of one in an array
pub area_fits : (kind least : ℕ) (e : List Offset) (f : ArrayImage) (image made : Picture) → IsArrayImage f → image ≡ picture_in f → made ≡ area_filtered kind e least image → FitsKind made.kind made.maxval
area_fits kind least e f image made is image_is made_is =
    let p = picture_in f in
    subst (λ (t : Picture). FitsKind t.kind t.maxval) (sym (made_is ∙ ap (area_filtered kind e least) image_is))
    (image_like (area_filtered kind e least p) p (area_shape kind least e p) (area_picture kind least e p) (source_image f is)).maxval

pub area_fills : (kind least : ℕ) (e : List Offset) (f : ArrayImage) (made : Picture) (room : ℕ) → IsArrayImage f → made ≡ area_filtered kind e least (picture_in f) → room ≡ array_sample_count f → length made.samples ≡ room
area_fills kind least e f made room given is same =
    let p = picture_in f in
    ap (λ (t : Picture). length t.samples) is ∙ fills_room (area_filtered kind e least p) f room (area_picture kind least e p) (area_shape kind least e p) given same

pub area_maxval : (kind least : ℕ) (e : List Offset) (f : Picture) → (area_filtered kind e least f).maxval ≡ f.maxval
area_maxval kind least e f = (area_shape kind least e f).maxval

-- ---- images by the samples of an array

-- the picture of the samples of an image, with its sides and its maxval
pub array_picture : (f : Picture) (w h m : ℕ) (samples : List ℕ) → f.kind ≡ kind_of.Grey → w ≡ f.width → h ≡ f.height → m ≡ f.maxval → f.samples ≡ samples → picture kind_of.Grey w h m samples ≡ f
array_picture f w h m samples grey wide high top same =
    ap (λ (t : List ℕ). picture kind_of.Grey w h m t) (sym same)
    ∙ ap (λ (t : ℕ). picture kind_of.Grey w h t f.samples) top
    ∙ ap (λ (t : ℕ). picture kind_of.Grey w t f.maxval f.samples) high
    ∙ ap (λ (t : ℕ). picture kind_of.Grey t f.height f.maxval f.samples) wide
    ∙ ap (λ (k : Kind). picture k f.width f.height f.maxval f.samples) (sym grey)

product : (a b c d : ℕ) → a ≡ c → b ≡ d → a * b ≡ c * d
product a b c d p q = cc

-- samples of some type by their levels fill the sides
pub fills_sides : {A : Type 0} (f : Picture) (level : A → ℕ) (samples : List A) (w h : ℕ) → IsPicture f → f.samples ≡ map level samples → w ≡ f.width → h ≡ f.height → length samples ≡ h * w
fills_sides f level samples w h is same wide high = sym (length-map samples level) ∙ ap length (sym same) ∙ is.size ∙ sym (product h w f.height f.width high wide)

pub few_places : (f : Picture) (w h : ℕ) → IsImage f → w ≡ f.width → h ≡ f.height → h * w < 2 ^ 32
few_places f w h is wide high =
    let area = is.area in
    let same = product h w f.height f.width high wide in
    omega arith

-- ---- by elements that cover alike

opening_alike : (e e' : List Offset) (least : ℕ) (f : Picture) → CoverAlike e e' → area_opening e least f ≡ area_opening e' least f
opening_alike e e' least f alike =
    drawn_same f.kind f.width f.height f.maxval (λ x y. greatest (filter (λ k. sample (large_components e least (threshold k f)) x y == 1) (range_with_len 1 f.maxval)))
    (λ x y. greatest (filter (λ k. sample (large_components e' least (threshold k f)) x y == 1) (range_with_len 1 f.maxval)))
    (λ x y p q.
    ap greatest (filter_agree (λ k. sample (large_components e least (threshold k f)) x y == 1) (λ k. sample (large_components e' least (threshold k f)) x y == 1)
    (λ k. ap (λ (t : Picture). sample t x y == 1) (large_alike least e e' (threshold k f) alike)) (range_with_len 1 f.maxval)))

pub area_alike : (kind least : ℕ) (e e' : List Offset) (f : Picture) → CoverAlike e e' → area_filtered kind e least f ≡ area_filtered kind e' least f
area_alike kind least e e' f alike = elim (cases_eq kind 0) [
  | inl is ↦ by_opening kind least e f is ∙ opening_alike e e' least f alike ∙ sym (by_opening kind least e' f is)
  | inr other ↦ by_closing kind least e f other ∙ ap complement (opening_alike e e' least (complement f) alike) ∙ sym (by_closing kind least e' f other)
]
