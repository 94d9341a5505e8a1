-- Reconstructions as images, and by elements that cover alike.
use Rattle.std.proofs.Common.{◌≡◌, ℕ, ◌*◌, ◌≤◌, List, get_or, ap, sym, subst, arith, ◌∙◌, inl, inr}
use Rattle.std.specs.Prelude.{All, if◌then◌else◌}
use Rattle.std.proofs.lemmas.Bool.{cases_eq, eq-eqb, ne_eqb}
use Rattle.std.proofs.lemmas.List.{map-id}
use Rattle.std.proofs.lemmas.List.Elements.{All-from_get_or}
use Rattle.mw_model.specs.declared.limits.TheConstants.{PIXEL_LIMIT, SIDE_LIMIT}
use Rattle.mw_model.specs.declared.offsets.Offset.{Offset}
use Rattle.mw_model.specs.declared.shapes.Kind.TheVariants as kind
use Rattle.mw_model.specs.Flat.{complement}
use Rattle.mw_model.specs.Laws.{SameShape}
use Rattle.mw_model.specs.Pictures.{Picture, picture, IsPicture, IsImage, FitsKind}
use Rattle.mw_model.specs.Rasters.{Raster, raster}
use Rattle.mw_model.proofs.ImagePlaces.{by_places, sample_bounded, shape_sym, shape_trans}
use Rattle.mw_pixel.specs.Images.{grey_of}
use Rattle.mw_geodesic.specs.Geodesics.{reconstruction, reconstruction_by_erosion}
use Rattle.mw_geodesic.proofs.Complements.{complement_picture}
use Rattle.mw_geodesic.proofs.Duality.{dual}
use Rattle.mw_geodesic.proofs.Reconstructed.{rebuilt_shape, rebuilt_size, rebuilt_within}
use Rattle.mw_geodesic_levels.specs.Pictures.{picture_by}
use Rattle.mw_c_geodesic.specs.Alike.{CoverAlike}
use Rattle.mw_c_geodesic.specs.Methods.{rebuilt_by}
use Rattle.mw_c_geodesic.proofs.CoveredAlike.{rebuilt_alike}
use Rattle.mw_c_geodesic.proofs.TurnedSamples.{complement_image}

-- levels that stand for themselves
pub level_itself : (p : Raster ℕ) (maxval : ℕ) → picture_by (λ s. s) maxval p ≡ grey_of p maxval
level_itself p maxval = ap (λ (t : List ℕ). picture kind.Grey p.width p.height maxval t) (map-id p.cells)

-- no sample of a reconstruction is over the maxval of the mask
pub rebuilt_bounded : (e : List Offset) (mask marker : Picture) → IsPicture mask → SameShape marker mask → All (λ s. s ≤ mask.maxval) (reconstruction e mask marker).samples
rebuilt_bounded e mask marker is shape =
    let r = reconstruction e mask marker in
    let r_shape = rebuilt_shape e mask marker in
    let size = rebuilt_size e mask marker in
    All-from_get_or (λ s. s ≤ mask.maxval) r.samples 0
    (λ i lt. by_places (λ j. get_or r.samples j 0 ≤ mask.maxval) r.width r.height
    (λ x y p q.
    let low = rebuilt_within e mask marker x y p q in
    let top = sample_bounded mask is x y (omega (arith, r_shape.width, shape.width)) (omega (arith, r_shape.height, shape.height)) in
    omega arith) i (omega arith))

pub rebuilt_picture : (e : List Offset) (mask marker : Picture) → IsPicture mask → SameShape marker mask → IsPicture (reconstruction e mask marker)
rebuilt_picture e mask marker is shape =
    let r = reconstruction e mask marker in
    let same : mask.maxval ≡ r.maxval = sym ((rebuilt_shape e mask marker).maxval ∙ shape.maxval) in
    record { size = rebuilt_size e mask marker; bounded = subst (λ (m : ℕ). All (λ s. s ≤ m) r.samples) same (rebuilt_bounded e mask marker is shape) }

-- a plane of an array's samples
pub array_plane : (maxval w h : ℕ) (p : Raster ℕ) (items samples : List ℕ) → p ≡ raster w h items → items ≡ samples → picture_by (λ s. s) maxval p ≡ picture kind.Grey w h maxval samples
array_plane maxval w h p items samples p_is is = ap (λ (t : Raster ℕ). picture_by (λ s. s) maxval t) p_is ∙ ap (picture kind.Grey w h maxval) (map-id items ∙ is)

-- no sample of a plane that is a picture is over its maxval
pub cells_within : (maxval : ℕ) (p : Raster ℕ) (f : Picture) → picture_by (λ s. s) maxval p ≡ f → IsPicture f → All (λ s. s ≤ maxval) p.cells
cells_within maxval p f is sound =
    let moved = subst (λ (t : Picture). IsPicture t) (sym (sym (level_itself p maxval) ∙ is)) sound in
    moved.bounded

-- what is rebuilt of planes of two images, is rebuilt of these
pub rebuilt_of_planes : (method : ℕ) (e : List Offset) (mask marker : Picture) (maxval : ℕ) (within below made : Raster ℕ) → picture_by (λ s. s) maxval within ≡ mask → picture_by (λ s. s) maxval below ≡ marker
    → picture_by (λ s. s) maxval made ≡ rebuilt_by method e (picture_by (λ s. s) maxval within) (picture_by (λ s. s) maxval below) → picture_by (λ s. s) maxval made ≡ rebuilt_by method e mask marker
rebuilt_of_planes method e mask marker maxval within below made mask_is marker_is is =
    is ∙ ap (λ (t : Picture). rebuilt_by method e t (picture_by (λ s. s) maxval below)) mask_is ∙ ap (λ (t : Picture). rebuilt_by method e mask t) marker_is

-- ---- images like others

pub image_like : (f g : Picture) → SameShape f g → IsPicture f → IsImage g → IsImage f
image_like f g shape is like = record {
  picture = is;
  maxval = subst (λ (m : ℕ). FitsKind f.kind m) (sym shape.maxval) (subst (λ k. FitsKind k g.maxval) (sym shape.kind) like.maxval);
  width = subst (λ (n : ℕ). (1 ≤ n) × (n ≤ SIDE_LIMIT)) (sym shape.width) like.width;
  height = subst (λ (n : ℕ). (1 ≤ n) × (n ≤ SIDE_LIMIT)) (sym shape.height) like.height;
  area = subst (λ (n : ℕ). f.height * n ≤ PIXEL_LIMIT) (sym shape.width) (subst (λ (n : ℕ). n * g.width ≤ PIXEL_LIMIT) (sym shape.height) like.area);
}

pub rebuilt_image : (e : List Offset) (mask marker : Picture) → IsImage mask → SameShape marker mask → IsImage (reconstruction e mask marker)
rebuilt_image e mask marker is shape =
    image_like (reconstruction e mask marker) mask (shape_trans (rebuilt_shape e mask marker) shape) (rebuilt_picture e mask marker is.picture shape) is

-- ---- methods

pub by_dilation : (method : ℕ) (e : List Offset) (mask marker : Picture) → method ≡ 0 → rebuilt_by method e mask marker ≡ reconstruction e mask marker
by_dilation method e mask marker same = ap (λ b. if b then reconstruction e mask marker else reconstruction_by_erosion e mask marker) (eq-eqb method 0 same)

pub by_erosion : (method : ℕ) (e : List Offset) (mask marker : Picture) → (method ≡ 0 → ⊥) → rebuilt_by method e mask marker ≡ reconstruction_by_erosion e mask marker
by_erosion method e mask marker other = ap (λ b. if b then reconstruction e mask marker else reconstruction_by_erosion e mask marker) (ne_eqb method 0 other)

eroded_is : (e : List Offset) (mask marker : Picture) → IsPicture marker → IsPicture mask → SameShape marker mask → reconstruction_by_erosion e mask marker ≡ complement (reconstruction e (complement mask) (complement marker))
eroded_is e mask marker is_marker is_mask shape = dual e mask marker is_marker is_mask (shape_sym shape)

-- what is turned over, rebuilt and turned back
pub eroded_by_turns : (method : ℕ) (e : List Offset) (mask marker below within rebuilt made : Picture) → (method ≡ 0 → ⊥) → IsPicture marker → IsPicture mask → SameShape marker mask → below ≡ complement marker → within ≡ complement mask
    → rebuilt ≡ reconstruction e within below → made ≡ complement rebuilt → made ≡ rebuilt_by method e mask marker
eroded_by_turns method e mask marker below within rebuilt made other is_marker is_mask shape low in_mask was is =
    is
    ∙ ap complement (was ∙ ap (λ (t : Picture). reconstruction e t below) in_mask ∙ ap (λ (t : Picture). reconstruction e (complement mask) t) low)
    ∙ sym (eroded_is e mask marker is_marker is_mask shape)
    ∙ sym (by_erosion method e mask marker other)

-- the same by elements that cover alike
pub eroded_alike : (e e' : List Offset) (mask marker : Picture) → CoverAlike e e' → IsPicture marker → IsPicture mask → SameShape marker mask → reconstruction_by_erosion e mask marker ≡ reconstruction_by_erosion e' mask marker
eroded_alike e e' mask marker alike is_marker is_mask shape =
    eroded_is e mask marker is_marker is_mask shape
    ∙ ap complement (rebuilt_alike e e' (complement mask) (complement marker) alike)
    ∙ sym (eroded_is e' mask marker is_marker is_mask shape)

pub method_alike : (method : ℕ) (e e' : List Offset) (mask marker : Picture) → CoverAlike e e' → IsPicture marker → IsPicture mask → SameShape marker mask → rebuilt_by method e mask marker ≡ rebuilt_by method e' mask marker
method_alike method e e' mask marker alike is_marker is_mask shape = elim (cases_eq method 0) [
  | inl same ↦ by_dilation method e mask marker same ∙ rebuilt_alike e e' mask marker alike ∙ sym (by_dilation method e' mask marker same)
  | inr other ↦ by_erosion method e mask marker other ∙ eroded_alike e e' mask marker alike is_marker is_mask shape ∙ sym (by_erosion method e' mask marker other)
]

eroded_shape : (e : List Offset) (mask marker : Picture) → IsPicture marker → IsPicture mask → SameShape marker mask → SameShape (reconstruction_by_erosion e mask marker) marker
eroded_shape e mask marker is_marker is_mask shape =
    let r_shape = rebuilt_shape e (complement mask) (complement marker) in
    subst (λ (t : Picture). SameShape t marker) (sym (eroded_is e mask marker is_marker is_mask shape)) (record { kind = r_shape.kind; width = r_shape.width; height = r_shape.height; maxval = r_shape.maxval })

pub method_shape : (method : ℕ) (e : List Offset) (mask marker : Picture) → IsPicture marker → IsPicture mask → SameShape marker mask → SameShape (rebuilt_by method e mask marker) marker
method_shape method e mask marker is_marker is_mask shape = elim (cases_eq method 0) [
  | inl same ↦ subst (λ (t : Picture). SameShape t marker) (sym (by_dilation method e mask marker same)) (rebuilt_shape e mask marker)
  | inr other ↦ subst (λ (t : Picture). SameShape t marker) (sym (by_erosion method e mask marker other)) (eroded_shape e mask marker is_marker is_mask shape)
]

-- what is rebuilt of complements is an image
pub turned_rebuilt : (e : List Offset) (mask marker below within rebuilt : Picture) → IsImage mask → SameShape marker mask → below ≡ complement marker → within ≡ complement mask → rebuilt ≡ reconstruction e within below → IsImage rebuilt
turned_rebuilt e mask marker below within rebuilt is shape low in_mask was =
    let now : rebuilt ≡ reconstruction e (complement mask) (complement marker) = was ∙ ap (λ (t : Picture). reconstruction e t below) in_mask ∙ ap (λ (t : Picture). reconstruction e (complement mask) t) low in
    subst (λ (t : Picture). IsImage t) (sym now)
    (rebuilt_image e (complement mask) (complement marker) (complement_image mask is) (record { kind = shape.kind; width = shape.width; height = shape.height; maxval = shape.maxval }))

pub method_picture : (method : ℕ) (e : List Offset) (mask marker : Picture) → IsPicture marker → IsPicture mask → SameShape marker mask → IsPicture (rebuilt_by method e mask marker)
method_picture method e mask marker is_marker is_mask shape = elim (cases_eq method 0) [
  | inl same ↦ subst (λ (t : Picture). IsPicture t) (sym (by_dilation method e mask marker same)) (rebuilt_picture e mask marker is_mask shape)
  | inr other ↦
      subst (λ (t : Picture). IsPicture t) (sym (by_erosion method e mask marker other ∙ eroded_is e mask marker is_marker is_mask shape)) (complement_picture (reconstruction e (complement mask) (complement marker)))
]
