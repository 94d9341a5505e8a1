-- Planes of samples, and what is made of them.
use Rattle.std.proofs.Common.{◌≡◌, ℕ, ◌+◌, ◌-◌, ◌*◌, ◌<◌, List, length, get_or, map, refl, ap, sym, subst, arith, ◌∙◌}
use Rattle.std.proofs.lemmas.List.{get_or-map, length-map}
use Rattle.mw_model.specs.declared.offsets.Offset.{Offset}
use Rattle.mw_model.specs.declared.shapes.Kind.TheVariants as kind
use Rattle.mw_model.specs.Pictures.{Picture, picture, sample, IsPicture}
use Rattle.mw_model.specs.Flat.{complement}
use Rattle.mw_model.specs.Rasters.{Raster}
use Rattle.mw_model.proofs.ImagePlaces.{same_picture, length-rows}
use Rattle.mw_geodesic.specs.Components.{area_opening, area_closing}
use Rattle.mw_geodesic.proofs.Complements.{sample-complement, complement_picture}
use Rattle.mw_geodesic_levels.specs.declared.frame.Frame.{Frame}
use Rattle.mw_geodesic_levels.specs.Levels.{level_numbered}
use Rattle.mw_geodesic_levels.specs.Pictures.{picture_by, element_with_corners}
use Rattle.mw_geodesic_areas.specs.Problems.{problem, IsOpened}
use Rattle.mw_geodesic_areas.proofs.Areas.{in_frame}
use Rattle.mw_geodesic_areas.proofs.Opened.{asked, shown, opened_lists}

-- as many samples as another plane of the same sides
pub same_size : (a b c d n : ℕ) → n ≡ a * b → a ≡ c → b ≡ d → n ≡ c * d
same_size a b c d n is p q = cc

same_picture_of : {A : Type 0} (level : A → ℕ) (maxval w h : ℕ) (p : Raster A) → p.width ≡ w → p.height ≡ h → picture_by level maxval p ≡ shown maxval w h (map level p.cells)
same_picture_of level maxval w h p wide high =
    ap (λ (u : ℕ). picture kind.Grey u p.height maxval (map level p.cells)) wide ∙ ap (λ (v : ℕ). picture kind.Grey w v maxval (map level p.cells)) high

pub opened_planes : {A : Type 0} (level : A → ℕ) (maxval least : ℕ) (frame : Frame) (image r : Raster A) (element : List Offset) (xs vs : List A) → element_with_corners frame.corners ≡ element → image.width ≡ frame.width → image.height ≡ frame.height
    → r.width ≡ frame.width → r.height ≡ frame.height → xs ≡ image.cells → r.cells ≡ vs → length vs ≡ frame.height * frame.width → IsPicture (picture_by level maxval image)
    → ((i : ℕ) → i < frame.height * frame.width → IsOpened (problem frame (level_numbered level xs) least) (level_numbered level vs i) i)
    → picture_by level maxval r ≡ area_opening element least (picture_by level maxval image)
opened_planes level maxval least frame image r element xs vs elements wide high r_wide r_high is r_is size is_picture opened =
    let same : shown maxval frame.width frame.height (map level xs) ≡ picture_by level maxval image =
    ap (λ (l : List _). shown maxval frame.width frame.height (map level l)) is ∙ sym (same_picture_of level maxval frame.width frame.height image wide high) in
    same_picture_of level maxval frame.width frame.height r r_wide r_high
    ∙ ap (λ (l : List _). shown maxval frame.width frame.height (map level l)) r_is
    ∙ opened_lists (element_with_corners frame.corners) maxval frame.width frame.height least (map level xs) (map level vs) (subst (λ (f : Picture). IsPicture f) (sym same) is_picture) (length-map vs level ∙ size) opened
    ∙ ap (λ (e : List Offset). area_opening e least (shown maxval frame.width frame.height (map level xs))) elements
    ∙ ap (λ (f : Picture). area_opening element least f) same

complement_lists : (maxval w h : ℕ) (ns ms : List ℕ) → length ns ≡ h * w → length ms ≡ h * w → ((i : ℕ) → i < length ns → get_or ms i 0 ≡ maxval - get_or ns i 0) → shown maxval w h ms ≡ complement (shown maxval w h ns)
complement_lists maxval w h ns ms size size' each =
    let f = shown maxval w h ns in
    same_picture (shown maxval w h ms) (complement f) (record { kind = refl; width = refl; height = refl; maxval = refl }) size'
    (length-rows (λ x y. maxval - sample f x y) w 0 h)
    (λ x y a b. each (y * w + x) (omega (arith, size, in_frame w h x y a b)) ∙ sym (sample-complement f x y a b))

pub complement_plane : {A : Type 0} (level : A → ℕ) (maxval : ℕ) (p q : Raster A) → q.width ≡ p.width → q.height ≡ p.height → length p.cells ≡ p.height * p.width → length q.cells ≡ p.height * p.width
    → ((i : ℕ) → i < length p.cells → level_numbered level q.cells i ≡ maxval - level_numbered level p.cells i) → picture_by level maxval q ≡ complement (picture_by level maxval p)
complement_plane level maxval p q wide high size size' each =
    same_picture_of level maxval p.width p.height q wide high
    ∙ complement_lists maxval p.width p.height (map level p.cells) (map level q.cells) (length-map p.cells level ∙ size) (length-map q.cells level ∙ size') (λ i lt. each i (omega (arith, length-map p.cells level)))

-- the same where the samples were written over those of the first
pub complement_samples : {A : Type 0} (level : A → ℕ) (maxval : ℕ) (p q : Raster A) (xs ys : List A) → q.width ≡ p.width → q.height ≡ p.height → length p.cells ≡ p.height * p.width → xs ≡ p.cells → q.cells ≡ ys → length ys ≡ length xs
    → ((i : ℕ) → i < length xs → level_numbered level ys i ≡ maxval - level_numbered level xs i) → picture_by level maxval q ≡ complement (picture_by level maxval p)
complement_samples level maxval p q xs ys wide high size is q_is same each =
    let sizes : length xs ≡ length p.cells = ap length is in
    complement_plane level maxval p q wide high size (ap length q_is ∙ same ∙ sizes ∙ size)
    (λ i lt. ap (λ (l : List _). level_numbered level l i) q_is ∙ each i (omega arith) ∙ ap (λ (l : List _). maxval - level_numbered level l i) is)

-- what is opened has the sides of its image
pub opened_width : {A : Type 0} (level : A → ℕ) (maxval least : ℕ) (element : List Offset) (image r : Raster A) → picture_by level maxval r ≡ area_opening element least (picture_by level maxval image) → r.width ≡ image.width
opened_width level maxval least element image r e = ap (λ (f : Picture). f.width) e

pub opened_height : {A : Type 0} (level : A → ℕ) (maxval least : ℕ) (element : List Offset) (image r : Raster A) → picture_by level maxval r ≡ area_opening element least (picture_by level maxval image) → r.height ≡ image.height
opened_height level maxval least element image r e = ap (λ (f : Picture). f.height) e

-- a complement is a picture
pub turned_picture : {A : Type 0} (level : A → ℕ) (maxval : ℕ) (image turned : Raster A) → picture_by level maxval turned ≡ complement (picture_by level maxval image) → IsPicture (picture_by level maxval turned)
turned_picture level maxval image turned e = subst (λ (f : Picture). IsPicture f) (sym e) (complement_picture (picture_by level maxval image))

pub closed_planes : {A : Type 0} (level : A → ℕ) (maxval least : ℕ) (element : List Offset) (image turned opened r : Raster A) → picture_by level maxval turned ≡ complement (picture_by level maxval image)
    → picture_by level maxval opened ≡ area_opening element least (picture_by level maxval turned) → picture_by level maxval r ≡ complement (picture_by level maxval opened)
    → picture_by level maxval r ≡ area_closing element least (picture_by level maxval image)
closed_planes level maxval least element image turned opened r first second third =
    third
    ∙ ap complement second
    ∙ ap (λ (f : Picture). complement (area_opening element least f)) first

-- the same by lists: the levels of a list, turned over, are opened, and turned back
pub closed_lists : {A : Type 0} (level : A → ℕ) (maxval w h least : ℕ) (element e : List Offset) (xs us vs : List A) → e ≡ element → length xs ≡ h * w → length us ≡ h * w → length vs ≡ h * w
    → ((i : ℕ) → i < h * w → IsOpened (asked e w h (map (λ s. maxval - s) (map level xs)) least) (get_or (map level us) i 0) i)
    → ((i : ℕ) → i < length us → level_numbered level vs i ≡ maxval - level_numbered level us i) → shown maxval w h (map level vs) ≡ area_closing element least (shown maxval w h (map level xs))
closed_lists level maxval w h least element e xs us vs same size us_size vs_size each back =
    let ns : List ℕ = map level xs in
    let ms : List ℕ = map (λ s. maxval - s) ns in
    let ns_size : length ns ≡ h * w = length-map xs level ∙ size in
    let ms_size : length ms ≡ h * w = length-map ns (λ s. maxval - s) ∙ ns_size in
    let turned : shown maxval w h ms ≡ complement (shown maxval w h ns) = complement_lists maxval w h ns ms ns_size ms_size (λ i lt. get_or-map (λ s. maxval - s) ns i 0 0 lt) in
    let is : IsPicture (shown maxval w h ms) = subst (λ (f : Picture). IsPicture f) (sym turned) (complement_picture (shown maxval w h ns)) in
    let opened = opened_lists e maxval w h least ms (map level us) is (length-map us level ∙ us_size) each in
    complement_lists maxval w h (map level us) (map level vs) (length-map us level ∙ us_size) (length-map vs level ∙ vs_size) (λ i lt. back i (omega (arith, length-map us level)))
    ∙ ap complement (opened ∙ ap (λ (t : List Offset). area_opening t least (shown maxval w h ms)) same ∙ ap (λ (f : Picture). area_opening element least f) turned)
