-- What is found of the set itself.
use Rattle.std.proofs.Common.{◌≡◌, ℕ, ◌*◌, ◌^◌, ◌<◌, ◌≤◌, List, length, refl, subst, arith, ◌∙◌}
use Rattle.std.specs.Prelude.{All}
use Rattle.mw_model.specs.Rasters.{Raster}
use Rattle.mw_model.specs.Pictures.{sample, IsPicture}
use Rattle.mw_pixel.specs.Images.{set_of}
use Rattle.mw_geodesic.specs.Distances.{distance, squared_distance}
use Rattle.mw_model.proofs.ImagePlaces.{sample_bounded}
use Rattle.mw_geodesic_distances.specs.declared.columns.TheConstants.{FAR}
use Rattle.mw_geodesic_distances.specs.Columns.{AreGaps}
use Rattle.mw_geodesic_distances.specs.Envelopes.{IsNearest}
use Rattle.mw_geodesic_distances.proofs.Squares.{squares_are}
use Rattle.mw_geodesic_distances.specs.declared.frame.Frame.{Frame}
use Rattle.mw_geodesic.specs.declared.neighbours.Neighbours.{Neighbours}
use Rattle.mw_geodesic_distances.specs.Metrics.{metric_element, diagonal_reach}
use Rattle.mw_geodesic_distances.specs.Rows.{begin_of_bit}
use Rattle.mw_geodesic_distances.specs.Grids.{grid, AreUpTo, IsLowered, IsSmooth}
use Rattle.mw_geodesic_distances.proofs.Erosions.{start_most, distance_is}
use Rattle.mw_geodesic_distances.proofs.Swept.{lowered_begun}

pub product : (a b c d : ℕ) → a ≡ c → b ≡ d → a * b ≡ c * d
product a b c d p q = cc

pub set_is : (p : Raster ℕ) → length p.cells ≡ p.height * p.width → All (λ s. s ≤ 1) p.cells → IsPicture (set_of p)
set_is p size small = record { size = size; bounded = small }

-- what begins so is not over the top
pub begun_low : (frame : Frame) (top : ℕ) (set g : ℕ → ℕ → ℕ) → ((x y : ℕ) → x < frame.width → y < frame.height → g x y ≡ begin_of_bit top (set x y)) → AreUpTo frame top g
begun_low frame top set g begun x y p q =
    let is = begun x y p q in
    let most = start_most top (set x y) in
    omega arith

-- a frame of these sides and this reach
abbrev pub frame_by : ℕ → ℕ → ℕ → Frame
frame_by width height reach = record { width = width; height = height; reach = reach }

abbrev frame_of : Neighbours → Raster ℕ → Frame
frame_of neighbours p = frame_by p.width p.height (diagonal_reach neighbours)

abbrev Begins : ℕ → Raster ℕ → List ℕ → Type 0
Begins top p begun = (x y : ℕ) → x < p.width → y < p.height → grid p.width begun x y ≡ begin_of_bit top (grid p.width p.cells x y)

by_frame : (neighbours : Neighbours) (top : ℕ) (p : Raster ℕ) (begun swept : List ℕ) → length p.cells ≡ p.height * p.width → All (λ s. s ≤ 1) p.cells → length swept ≡ p.height * p.width → Begins top p begun
    → IsLowered (frame_of neighbours p) (grid p.width begun) (grid p.width swept) → IsSmooth (frame_of neighbours p) (grid p.width swept) → swept ≡ (distance (metric_element neighbours) top (set_of p)).samples
by_frame neighbours top p begun swept size small made begins lowered smooth =
    distance_is neighbours top (set_of p) swept (set_is p size small) refl made
    (record { lowered = lowered_begun (frame_of neighbours p) (grid p.width begun) (λ x y. begin_of_bit top (sample (set_of p) x y)) (grid p.width swept) begins lowered; smooth = smooth })

pub distances_by : (neighbours : Neighbours) (top w h r n : ℕ) (p q : Raster ℕ) (begun begun' swept : List ℕ) → length p.cells ≡ p.height * p.width → All (λ s. s ≤ 1) p.cells → w ≡ p.width → h ≡ p.height → r ≡ diagonal_reach neighbours → q ≡ p → n ≡ h * w → length swept ≡ n
    → Begins top q begun → begun' ≡ begun → IsLowered (frame_by w h r) (grid w begun') (grid w swept) → IsSmooth (frame_by w h r) (grid w swept) → swept ≡ (distance (metric_element neighbours) top (set_of p)).samples
distances_by neighbours top w h r n p q begun begun' swept size small wide high near same size-is made begins same_begun lowered smooth =
    let a = subst (λ (t : List ℕ). IsLowered (frame_by w h r) (grid w t) (grid w swept)) same_begun lowered in
    let b = subst (λ (t : ℕ). IsLowered (frame_by t h r) (grid t begun) (grid t swept)) wide a in
    let d = subst (λ (t : ℕ). IsLowered (frame_by p.width t r) (grid p.width begun) (grid p.width swept)) high b in
    let e = subst (λ (t : ℕ). IsLowered (frame_by p.width p.height t) (grid p.width begun) (grid p.width swept)) near d in
    let b' = subst (λ (t : ℕ). IsSmooth (frame_by t h r) (grid t swept)) wide smooth in
    let d' = subst (λ (t : ℕ). IsSmooth (frame_by p.width t r) (grid p.width swept)) high b' in
    let e' = subst (λ (t : ℕ). IsSmooth (frame_by p.width p.height t) (grid p.width swept)) near d' in
    by_frame neighbours top p begun swept size small (made ∙ size-is ∙ product h w p.height p.width high wide) (subst (λ (t : Raster ℕ). Begins top t begun) same begins) e e'

-- ---- squares

abbrev Measures : ℕ → ℕ → List ℕ → List ℕ → Type 0
Measures w h begun measured =
    (set : ℕ → ℕ → ℕ) → ((x y : ℕ) → x < w → y < h → grid w begun x y ≡ begin_of_bit FAR (set x y)) → ((x y : ℕ) → x < w → y < h → set x y ≤ 1) → AreGaps w h set (grid w measured)

abbrev AreNearest : ℕ → ℕ → ℕ → List ℕ → List ℕ → Type 0
AreNearest top w h measured drawn = (x y : ℕ) → x < w → y < h → IsNearest (λ u. grid w measured u y) w top x (grid w drawn x y)

by_sides : (top : ℕ) (p : Raster ℕ) (begun measured drawn : List ℕ) → top < 2 ^ 32 → length p.cells ≡ p.height * p.width → All (λ s. s ≤ 1) p.cells → length drawn ≡ p.height * p.width → Begins FAR p begun → Measures p.width p.height begun measured
    → AreNearest top p.width p.height measured drawn → drawn ≡ (squared_distance top (set_of p)).samples
by_sides top p begun measured drawn fits size small made begins measures near =
    squares_are top (set_of p) drawn (grid p.width measured) fits made
    (measures (grid p.width p.cells) begins (λ x y a b. sample_bounded (set_of p) (set_is p size small) x y a b)) near

pub squares_by : (top w h n : ℕ) (p q : Raster ℕ) (begun begun' measured measured' drawn : List ℕ) → top < 2 ^ 32 → length p.cells ≡ p.height * p.width → All (λ s. s ≤ 1) p.cells → w ≡ p.width → h ≡ p.height → q ≡ p → n ≡ h * w → length drawn ≡ n
    → Begins FAR q begun → begun' ≡ begun → Measures w h begun' measured → measured' ≡ measured → AreNearest top w h measured' drawn → drawn ≡ (squared_distance top (set_of p)).samples
squares_by top w h n p q begun begun' measured measured' drawn fits size small wide high same size-is made begins same_begun measures same_measured near =
    let a = subst (λ (t : List ℕ). Measures w h t measured) same_begun measures in
    let b = subst (λ (t : ℕ). Measures t h begun measured) wide a in
    let d = subst (λ (t : ℕ). Measures p.width t begun measured) high b in
    let a' = subst (λ (t : List ℕ). AreNearest top w h t drawn) same_measured near in
    let b' = subst (λ (t : ℕ). AreNearest top t h measured drawn) wide a' in
    let d' = subst (λ (t : ℕ). AreNearest top p.width t measured drawn) high b' in
    by_sides top p begun measured drawn fits size small (made ∙ size-is ∙ product h w p.height p.width high wide) (subst (λ (t : Raster ℕ). Begins FAR t begun) same begins) d d'
