-- What was raised until no place can be raised any more, is the reconstruction.
use Rattle.std.proofs.Common.{◌≡◌, ℕ, ◌+◌, ◌*◌, ◌≤◌, List, length, get_or, map, min, refl, ap, sym, arith, ◌∙◌, inl, inr}
use Rattle.std.proofs.lemmas.List.{length-map}
use Rattle.mw_model.specs.declared.offsets.Offset.{Offset}
use Rattle.mw_model.specs.declared.shapes.Kind.TheVariants as kind
use Rattle.mw_model.specs.Pictures.{Picture, picture, sample}
use Rattle.mw_model.specs.Rasters.{Raster, raster}
use Rattle.mw_model.proofs.ImagePlaces.{by_places}
use Rattle.mw_geodesic.specs.Geodesics.{reconstruction}
use Rattle.mw_geodesic.proofs.Geodesic.{spread_shape, spread_above, sample-meet, reconstruction_closed, only_reconstruction}
use Rattle.mw_geodesic_levels.specs.declared.frame.Frame.{Frame}
use Rattle.mw_geodesic_levels.specs.Levels.{level_numbered, AreUnder, IsStill, IsRebuilt}
use Rattle.mw_geodesic_levels.specs.Pictures.{picture_by, element_with_corners}
use Rattle.mw_geodesic_levels.proofs.Nearness.{near_from, covered}
use Rattle.mw_geodesic_levels.proofs.Raises.{in_frame}

-- ---- over lists of levels

abbrev shown : ℕ → Frame → List ℕ → Picture
shown maxval frame ns = picture kind.Grey frame.width frame.height maxval ns

abbrev rebuilt_picture : ℕ → Frame → List ℕ → List ℕ → Picture
rebuilt_picture maxval frame ks ms = reconstruction (element_with_corners frame.corners) (shown maxval frame ks) (shown maxval frame ms)

-- the levels of the reconstruction
abbrev rebuilt_at : ℕ → Frame → List ℕ → List ℕ → ℕ → ℕ
rebuilt_at maxval frame ks ms i = get_or (rebuilt_picture maxval frame ks ms).samples i 0

rebuilt_width : (maxval : ℕ) (frame : Frame) (ks ms : List ℕ) → (rebuilt_picture maxval frame ks ms).width ≡ frame.width
rebuilt_width maxval frame ks ms = (spread_shape (element_with_corners frame.corners) (shown maxval frame ks) (shown maxval frame ms) (frame.height * frame.width)).width

rebuilt_height : (maxval : ℕ) (frame : Frame) (ks ms : List ℕ) → (rebuilt_picture maxval frame ks ms).height ≡ frame.height
rebuilt_height maxval frame ks ms = (spread_shape (element_with_corners frame.corners) (shown maxval frame ks) (shown maxval frame ms) (frame.height * frame.width)).height

rebuilt_sample : (maxval : ℕ) (frame : Frame) (ks ms : List ℕ) (x y : ℕ) → sample (rebuilt_picture maxval frame ks ms) x y ≡ rebuilt_at maxval frame ks ms (y * frame.width + x)
rebuilt_sample maxval frame ks ms x y = ap (λ (w : ℕ). rebuilt_at maxval frame ks ms (y * w + x)) (rebuilt_width maxval frame ks ms)

-- the reconstruction is still
rebuilt_still : (maxval : ℕ) (frame : Frame) (ks ms : List ℕ) → IsStill frame (λ i. get_or ks i 0) (rebuilt_at maxval frame ks ms)
rebuilt_still maxval frame ks ms = record {
  still = λ x y v p q r u across near. elim (covered frame.corners x y u v near) [
    | inl here ↦ rw (here.0, here.1) (omega arith)
    | inr covers ↦
        let wide = rebuilt_width maxval frame ks ms in
        let high = rebuilt_height maxval frame ks ms in
        let edge = (reconstruction_closed (element_with_corners frame.corners) (shown maxval frame ks) (shown maxval frame ms)).closed x y u v (omega arith) (omega arith) (omega arith) (omega arith) covers in
        omega (arith, rebuilt_sample maxval frame ks ms u v, rebuilt_sample maxval frame ks ms x y)
  ];
}

-- and over the marker, cut to the mask
rebuilt_over : (maxval : ℕ) (frame : Frame) (ks ms : List ℕ) → AreUnder frame (λ i. min (get_or ms i 0) (get_or ks i 0)) (rebuilt_at maxval frame ks ms)
rebuilt_over maxval frame ks ms =
    by_places (λ i. min (get_or ms i 0) (get_or ks i 0) ≤ rebuilt_at maxval frame ks ms i) frame.width frame.height (λ x y p q.
    let above = spread_above (element_with_corners frame.corners) (shown maxval frame ks) (shown maxval frame ms) (frame.height * frame.width) x y p q in
    let is = sample-meet (shown maxval frame ms) (shown maxval frame ks) x y p q in
    omega (arith, rebuilt_sample maxval frame ks ms x y))

rebuilt_lists : (maxval : ℕ) (frame : Frame) (ks ms rs : List ℕ) → length rs ≡ frame.height * frame.width → IsRebuilt frame (λ i. get_or ks i 0) (λ i. get_or ms i 0) (λ i. get_or rs i 0)
    → shown maxval frame rs ≡ rebuilt_picture maxval frame ks ms
rebuilt_lists maxval frame ks ms rs size rebuilt =
    only_reconstruction (element_with_corners frame.corners) (shown maxval frame ks) (shown maxval frame ms) (shown maxval frame rs)
    (record { kind = refl; width = refl; height = refl; maxval = refl }) size
    (λ x y p q.
    let over = rebuilt.raised.over (y * frame.width + x) (in_frame frame.width frame.height x y p q) in
    let is = sample-meet (shown maxval frame ms) (shown maxval frame ks) x y p q in
    omega arith)
    (record { closed = λ x y u v p q across down covers. rebuilt.still.still x y v p q down u across (near_from frame.corners x y u v covers) })
    (λ x y p q.
    let within = rebuilt.raised.within (rebuilt_at maxval frame ks ms) (rebuilt_still maxval frame ks ms) (rebuilt_over maxval frame ks ms) (y * frame.width + x) (in_frame frame.width frame.height x y p q) in
    omega (arith, rebuilt_sample maxval frame ks ms x y))

-- ---- over planes

same_picture_of : {A : Type 0} (level : A → ℕ) (maxval : ℕ) (frame : Frame) (p : Raster A) → p.width ≡ frame.width → p.height ≡ frame.height → picture_by level maxval p ≡ shown maxval frame (map level p.cells)
same_picture_of level maxval frame p wide high =
    ap (λ (w : ℕ). picture kind.Grey w p.height maxval (map level p.cells)) wide ∙ ap (λ (h : ℕ). picture kind.Grey frame.width h maxval (map level p.cells)) high

pub rebuilt_planes : {A : Type 0} (level : A → ℕ) (maxval : ℕ) (frame : Frame) (marker mask r : Raster A) (element : List Offset) (ks ms rs : List A) → element_with_corners frame.corners ≡ element → marker.width ≡ frame.width → marker.height ≡ frame.height
    → mask.width ≡ frame.width → mask.height ≡ frame.height → r.width ≡ frame.width → r.height ≡ frame.height → ks ≡ mask.cells → ms ≡ marker.cells → r.cells ≡ rs → length rs ≡ frame.height * frame.width
    → IsRebuilt frame (level_numbered level ks) (level_numbered level ms) (level_numbered level rs) → picture_by level maxval r ≡ reconstruction element (picture_by level maxval mask) (picture_by level maxval marker)
rebuilt_planes level maxval frame marker mask r element ks ms rs elements wide high mask_wide mask_high r_wide r_high mask_is marker_is r_is size rebuilt =
    same_picture_of level maxval frame r r_wide r_high
    ∙ ap (λ (l : List _). shown maxval frame (map level l)) r_is
    ∙ rebuilt_lists maxval frame (map level ks) (map level ms) (map level rs) (length-map rs level ∙ size) rebuilt
    ∙ ap (λ (e : List Offset). reconstruction e (shown maxval frame (map level ks)) (shown maxval frame (map level ms))) elements
    ∙ ap (λ (f : Picture). reconstruction element f (shown maxval frame (map level ms))) (ap (λ (l : List _). shown maxval frame (map level l)) mask_is ∙ sym (same_picture_of level maxval frame mask mask_wide mask_high))
    ∙ ap (λ (f : Picture). reconstruction element (picture_by level maxval mask) f) (ap (λ (l : List _). shown maxval frame (map level l)) marker_is ∙ sym (same_picture_of level maxval frame marker wide high))

-- as many samples as another plane of the same sides
pub same_size : (a b c d n : ℕ) → n ≡ a * b → a ≡ c → b ≡ d → n ≡ c * d
same_size a b c d n is p q = cc

-- a plane of the same sides and samples
pub same_plane : {A : Type 0} (p r : Raster A) (w h : ℕ) (items samples : List A) → r ≡ raster w h items → w ≡ p.width → h ≡ p.height → items ≡ samples → samples ≡ p.cells → r ≡ p
same_plane p r w h items samples is wide high copied same =
    is ∙ ap (λ (t : ℕ). raster t h items) wide ∙ ap (λ (t : ℕ). raster p.width t items) high ∙ ap (λ (t : List _). raster p.width p.height t) (copied ∙ same)
