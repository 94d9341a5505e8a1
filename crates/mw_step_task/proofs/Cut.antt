-- Windows that were cut from whole planes show them wherever the step looks.
use Rattle.std.proofs.Common.{◌≡◌, ℕ, zero, suc, ◌+◌, ◌-◌, ◌*◌, ◌<◌, ◌≤◌, ◌==◌, ◌&&◌, ℤ, pos, negsuc, ◌+ℤ◌, ◌-ℤ◌, cond, nat_le, min, max, List, [], ◌∷◌, length, map, slice_get, slice_index_or, Option, Some, None, unwrap_or, refl, ap, sym, subst, arith, ◌∙◌, inl, inr, zero-add}
use Rattle.std.specs.Prelude.{sum}
use Rattle.std.specs.List.{AllByRecursion, cons_option}
use Rattle.std.proofs.lemmas.Bool.{cases_lt, lt-ltb, le-ltb}
use Rattle.std.proofs.lemmas.Int.{ints}
use Rattle.std.proofs.lemmas.Option.{slice_get-get_or}
use Rattle.std.proofs.lemmas.Nat.{mul-add-lt}
use Rattle.mw_model.specs.declared.offsets.Offset.{Offset}
use Rattle.mw_model.specs.declared.offsets.Rect.{Rect}
use Rattle.mw_model.specs.declared.shapes.Kind.{Kind}
use Rattle.mw_model.specs.Flat.{least, greatest}
use Rattle.mw_model.specs.Rectangles.{rect, IsWithin, box_offsets}
use Rattle.mw_grid.specs.Rectangles.{Reaches}
use Rattle.mw_tile_pieces.specs.mw_tile.Windows.{IsCut, SourceWindow, no_window, window_of}
use Rattle.mw_model.specs.Elements.{reach_of}
use Rattle.mw_model.specs.Rasters.{Raster, raster, cell_at, Sight, seen_under}
use Rattle.mw_model.specs.Windows.{seen_at}
use Rattle.mw_model.specs.Pictures.{Picture, IsPicture, sample, sample_at, drawn}
use Rattle.mw_model.specs.Plans.{no_picture, sight_of, is_sum}
use Rattle.mw_model.specs.PlanSteps.{PlanStep, Erode, Dilate, ErodeBox, DilateBox, Rank, Minus, AtLeast, Invert, Meet, Join, Blank, Mark, MarkLast, Equal, Sum, origin, looks_at, here, ranked, step_at}
use Rattle.mw_model.specs.Tasks.{place_read, made_in, made_of_planes, cells_in}
use Rattle.mw_step_task.specs.WindowTasks.{sight_of_window, made_of_windows, FitsStep, IsRead, KindsFit, IsBounded, source_count, window_at}
use Rattle.mw_model.proofs.ImagePlaces.{drawn_same, sample_bounded}
use Rattle.mw_element.proofs.Lists.{reach_within}
use Rattle.mw_grid.proofs.Reaching.{reaches_all, stays_within}
use Rattle.mw_tile_pieces.proofs.mw_tile.Shown.{seen_at-agrees}
use Rattle.mw_step_task.specs.Sources.{HasFrame, AreCut}
use Rattle.std.proofs.lemmas.Grind.{get_or_default_zero}
use Rattle.std.proofs.lemmas.List.{length-map}
use Rattle.mw_tile_pieces.proofs.TileCells.{length-cells_in, cells_in_at, cells_in_same, cells_in_all}

-- the samples of a picture, written out
abbrev whole : Picture → Raster ℕ
whole f = raster f.width f.height (cells_in (rect 0 0 f.width f.height) (sample f))

get_cells : (r : Rect) (value : ℕ → ℕ → ℕ) (i j : ℕ) → i < r.width → j < r.height → slice_get (cells_in r value) (j * r.width + i) ≡ Some (value (r.x + i) (r.y + j))
get_cells r value i j across down =
    slice_get-get_or (cells_in r value) (j * r.width + i) 0 (omega (arith, length-cells_in r value, mul-add-lt j r.width i r.height down across)) ∙ ap (λ (t : ℕ). Some t) (cells_in_at r value i j across down)

get_whole : (f : Picture) (x y : ℕ) → x < f.width → y < f.height → slice_get (whole f).cells (y * f.width + x) ≡ Some (sample f x y)
get_whole f x y across down = get_cells (rect 0 0 f.width f.height) (sample f) x y across down ∙ ap (λ (t : ℕ). Some (sample f t (0 + y))) (zero-add x) ∙ ap (λ (t : ℕ). Some (sample f x t)) (zero-add y)

-- the written out samples show what the picture has
sight_whole : (f : Picture) (column row : ℤ) → cell_at (whole f) column row ≡ sample_at f column row
sight_whole f (negsuc x) row = refl
sight_whole f (pos x) (negsuc y) = refl
sight_whole f (pos x) (pos y) =
    elim (cases_lt x f.width) [
      | inr past ↦ rw (le-ltb x f.width past) refl
      | inl across ↦ elim (cases_lt y f.height) [
        | inr past ↦ rw (lt-ltb x f.width across, le-ltb y f.height past) refl
        | inl down ↦ rw (lt-ltb x f.width across, lt-ltb y f.height down) (get_whole f x y across down)
      ]
    ]

-- the window of a picture was cut from it
window_is_cut : (place : Rect) (f : Picture) → IsWithin place f.width f.height → IsCut (window_of place f).view (whole f)
window_is_cut place f within = record {
  frame_width = refl;
  frame_height = refl;
  within = within;
  size = length-cells_in place (sample f);
  same = λ i j across down.
      let a = within.across in
      let b = within.down in
      get_cells place (sample f) i j across down ∙ sym (get_whole f (place.x + i) (place.y + j) (omega arith) (omega arith));
}

-- what both sights show at the offsets of an element
abbrev Agree : Sight ℕ → Sight ℕ → List Offset → ℕ → ℕ → Type 0
Agree f g offsets x y = AllByRecursion (λ (b : Offset). f (pos x +ℤ b.dx) (pos y +ℤ b.dy) ≡ g (pos x +ℤ b.dx) (pos y +ℤ b.dy)) offsets

window_agrees : (place : Rect) (f : Picture) → IsWithin place f.width f.height → (x y : ℕ) (offsets : List Offset) → AllByRecursion (λ (b : Offset). Reaches place f.width f.height (pos x +ℤ b.dx) (pos y +ℤ b.dy)) offsets
    → Agree (seen_at (window_of place f).view) (sample_at f) offsets x y
window_agrees place f within x y [] reaches = tt
window_agrees place f within x y (b ∷ bs) reaches =
    (seen_at-agrees (window_of place f).view (whole f) (window_is_cut place f within) (pos x +ℤ b.dx) (pos y +ℤ b.dy) reaches.0 ∙ sight_whole f (pos x +ℤ b.dx) (pos y +ℤ b.dy), window_agrees place f within x y bs reaches.1)

agree_seen : (f g : Sight ℕ) (offsets : List Offset) (x y : ℕ) → Agree f g offsets x y → seen_under f offsets x y ≡ seen_under g offsets x y
agree_seen f g [] x y all = refl
agree_seen f g (b ∷ bs) x y all =
    ap (λ (t : Option ℕ). cons_option t (seen_under f bs x y)) all.0 ∙ ap (cons_option (g (pos x +ℤ b.dx) (pos y +ℤ b.dy))) (agree_seen f g bs x y all.1)

agree_here : (f g : Sight ℕ) (x y : ℕ) → Agree f g origin x y → here f x y ≡ here g x y
agree_here f g x y all = ap (λ (t : Option ℕ). unwrap_or t 0) (sym (at f) ∙ all.0 ∙ at g)
  where
    same : (n : ℕ) → pos n +ℤ pos 0 ≡ pos n
    same n = omega (arith, ints)

    at : (h : Sight ℕ) → h (pos x +ℤ pos 0) (pos y +ℤ pos 0) ≡ h (pos x) (pos y)
    at h = ap (λ (t : ℤ). h t (pos y +ℤ pos 0)) (same x) ∙ ap (λ (t : ℤ). h (pos x) t) (same y)

-- a step sees no further than it looks
step_agrees : (s : PlanStep) (top : ℕ) (f g h f' g' h' : Sight ℕ) (x y : ℕ) → Agree f f' (looks_at s) x y → Agree g g' (looks_at s) x y → Agree h h' (looks_at s) x y
    → step_at s top f g h x y ≡ step_at s top f' g' h' x y
step_agrees (Erode e) top f g h f' g' h' x y p q r = ap (λ (t : List ℕ). least top t) (agree_seen f f' e x y p)
step_agrees (Dilate e) top f g h f' g' h' x y p q r = ap (λ (t : List ℕ). greatest t) (agree_seen f f' e x y p)
step_agrees (ErodeBox b) top f g h f' g' h' x y p q r = ap (λ (t : List ℕ). least top t) (agree_seen f f' (box_offsets b) x y p)
step_agrees (DilateBox b) top f g h f' g' h' x y p q r = ap (λ (t : List ℕ). greatest t) (agree_seen f f' (box_offsets b) x y p)
step_agrees (Rank e k) top f g h f' g' h' x y p q r = ap (λ (t : List ℕ). ranked k t) (agree_seen f f' e x y p)
step_agrees Minus top f g h f' g' h' x y p q r = ap (λ (t : ℕ). t - here g x y) (agree_here f f' x y p) ∙ ap (λ (t : ℕ). here f' x y - t) (agree_here g g' x y q)
step_agrees (AtLeast k) top f g h f' g' h' x y p q r = ap (λ (t : ℕ). cond (nat_le k t) 1 0) (agree_here f f' x y p)
step_agrees Invert top f g h f' g' h' x y p q r = ap (λ (t : ℕ). top - t) (agree_here f f' x y p)
step_agrees Meet top f g h f' g' h' x y p q r = ap (λ (t : ℕ). min t (here g x y)) (agree_here f f' x y p) ∙ ap (λ (t : ℕ). min (here f' x y) t) (agree_here g g' x y q)
step_agrees Join top f g h f' g' h' x y p q r = ap (λ (t : ℕ). max t (here g x y)) (agree_here f f' x y p) ∙ ap (λ (t : ℕ). max (here f' x y) t) (agree_here g g' x y q)
step_agrees (Blank m) top f g h f' g' h' x y p q r = refl
step_agrees (Mark v) top f g h f' g' h' x y p q r =
    ap (λ (t : ℕ). cond (here g x y == 1 && here h x y == 0) v t) (agree_here f f' x y p)
    ∙ ap (λ (t : ℕ). cond (t == 1 && here h x y == 0) v (here f' x y)) (agree_here g g' x y q)
    ∙ ap (λ (t : ℕ). cond (here g' x y == 1 && t == 0) v (here f' x y)) (agree_here h h' x y r)
step_agrees (MarkLast v) top f g h f' g' h' x y p q r =
    ap (λ (t : ℕ). cond (here g x y == 1) v t) (agree_here f f' x y p) ∙ ap (λ (t : ℕ). cond (t == 1) v (here f' x y)) (agree_here g g' x y q)
step_agrees (Equal v) top f g h f' g' h' x y p q r = ap (λ (t : ℕ). cond (t == v) 1 0) (agree_here f f' x y p)
step_agrees Sum top f g h f' g' h' x y p q r = agree_here f f' x y p

-- a source that is not there shows nothing, in windows and in planes
none_there : (column row : ℤ) → seen_at no_window.view column row ≡ sample_at no_picture column row
none_there column row = go (column -ℤ pos 0) (row -ℤ pos 0) ∙ sym (empty column row)
  where
    go : (c r : ℤ) → cell_at {A = ℕ} (raster 0 0 []) c r ≡ None
    go (negsuc x) r = refl
    go (pos x) (negsuc y) = refl
    go (pos x) (pos y) = rw (le-ltb x 0 (omega arith)) refl

    empty : (c r : ℤ) → sample_at no_picture c r ≡ None
    empty (negsuc x) r = refl
    empty (pos x) (negsuc y) = refl
    empty (pos x) (pos y) = rw (le-ltb x 0 (omega arith)) refl

all_agree : (f g : Sight ℕ) → ((column row : ℤ) → f column row ≡ g column row) → (offsets : List Offset) (x y : ℕ) → Agree f g offsets x y
all_agree f g each [] x y = tt
all_agree f g each (b ∷ bs) x y = (each (pos x +ℤ b.dx) (pos y +ℤ b.dy), all_agree f g each bs x y)

-- each source agrees with its window
source_agrees : (s : PlanStep) (m n : ℕ) (tile : Rect) (sources : List Picture) (k i j : ℕ) → AllByRecursion (HasFrame m n) sources → IsWithin tile m n → i < tile.width → j < tile.height
    → Agree (sight_of_window (map (window_of (place_read s m n tile)) sources) k) (sight_of sources k) (looks_at s) (tile.x + i) (tile.y + j)
source_agrees s m n tile [] k i j frames within across down = all_agree (seen_at no_window.view) (sample_at no_picture) none_there (looks_at s) (tile.x + i) (tile.y + j)
source_agrees s m n tile (f ∷ fs) zero i j frames within across down =
    let place = place_read s m n tile in
    let frame = frames.0 in
    let a = within.across in
    let b = within.down in
    let Q : ℕ → ℕ → Type 0 = λ w h. IsWithin place w h × AllByRecursion (λ (o : Offset). Reaches place w h (pos (tile.x + i) +ℤ o.dx) (pos (tile.y + j) +ℤ o.dy)) (looks_at s) in
    let here_m : Q m n = (stays_within m n (reach_of (looks_at s)) tile (omega arith) (omega arith), reaches_all m n (reach_of (looks_at s)) tile (looks_at s) (reach_within (looks_at s)) i j across down) in
    let here_f : Q f.width f.height = subst (λ w. Q w f.height) (sym frame.width) (subst (λ h. Q m h) (sym frame.height) here_m) in
    window_agrees place f here_f.0 (tile.x + i) (tile.y + j) (looks_at s) here_f.1
source_agrees s m n tile (f ∷ fs) (suc k) i j frames within across down = source_agrees s m n tile fs k i j frames.1 within across down

pub top_agrees : (place : Rect) (sources : List Picture) (k : ℕ) → (slice_index_or (map (window_of place) sources) k no_window).maxval ≡ (slice_index_or sources k no_picture).maxval
top_agrees place [] k = refl
top_agrees place (f ∷ fs) zero = refl
top_agrees place (f ∷ fs) (suc k) = top_agrees place fs k

made_same : (s : PlanStep) (tile : Rect) (value other : ℕ → ℕ → ℕ) → ((i j : ℕ) → i < tile.width → j < tile.height → value (tile.x + i) (tile.y + j) ≡ other (tile.x + i) (tile.y + j)) → made_in s tile value ≡ made_in s tile other
made_same s tile value other each = ap (λ (t : List ℕ). cond (is_sum s) (sum t ∷ []) t) (cells_in_same tile value other each)

pub made_of_cut : (s : PlanStep) (sources : List Picture) (m n : ℕ) (tile : Rect) (ws : List SourceWindow) → AreCut s sources m n tile ws → made_of_windows s ws tile ≡ made_of_planes s sources tile
made_of_cut s sources m n tile ws cut =
    let place = place_read s m n tile in
    let own = map (window_of place) sources in
    ap (λ (t : List SourceWindow). made_of_windows s t tile) cut.cut
    ∙ ap (λ (t : ℕ). made_in s tile (step_at s t (sight_of_window own 0) (sight_of_window own 1) (sight_of_window own 2))) (top_agrees place sources 0)
    ∙ made_same s tile (step_at s (slice_index_or sources 0 no_picture).maxval (sight_of_window own 0) (sight_of_window own 1) (sight_of_window own 2)) (step_at s (slice_index_or sources 0 no_picture).maxval (sight_of sources 0) (sight_of sources 1) (sight_of sources 2))
    (λ i j across down. step_agrees s (slice_index_or sources 0 no_picture).maxval (sight_of_window own 0) (sight_of_window own 1) (sight_of_window own 2) (sight_of sources 0) (sight_of sources 1) (sight_of sources 2) (tile.x + i) (tile.y + j)
    (source_agrees s m n tile sources 0 i j cut.frames cut.within across down)
    (source_agrees s m n tile sources 1 i j cut.frames cut.within across down)
    (source_agrees s m n tile sources 2 i j cut.frames cut.within across down))

-- what a picture has in its frame
pub here_sample : (f : Picture) (x y : ℕ) → x < f.width → y < f.height → here (sample_at f) x y ≡ sample f x y
here_sample f x y across down = rw (lt-ltb x f.width across, lt-ltb y f.height down) refl

pub plane_of_one : (kind : Kind) (maxval : ℕ) (value : ℕ → ℕ) (f : Picture) → drawn kind f.width f.height maxval (λ x y. value (here (sample_at f) x y)) ≡ drawn kind f.width f.height maxval (λ x y. value (sample f x y))
plane_of_one kind maxval value f =
    drawn_same kind f.width f.height maxval (λ x y. value (here (sample_at f) x y)) (λ x y. value (sample f x y)) (λ x y across down. ap value (here_sample f x y across down))

pub plane_of_two : (f g : Picture) → g.width ≡ f.width → g.height ≡ f.height → drawn f.kind f.width f.height f.maxval (λ x y. here (sample_at f) x y - here (sample_at g) x y) ≡ drawn f.kind f.width f.height f.maxval (λ x y. sample f x y - sample g x y)
plane_of_two f g width height =
    drawn_same f.kind f.width f.height f.maxval (λ x y. here (sample_at f) x y - here (sample_at g) x y) (λ x y. sample f x y - sample g x y)
    (λ x y across down. ap (λ (t : ℕ). t - here (sample_at g) x y) (here_sample f x y across down) ∙ ap (λ (t : ℕ). sample f x y - t) (here_sample g x y (omega arith) (omega arith)))

-- each window is what the step reads
each_read : (s : PlanStep) (sources : List Picture) (m n w h : ℕ) (tile : Rect) → AllByRecursion (HasFrame m n) sources → IsWithin tile m n → m ≤ 8192 → n ≤ 8192 → w ≡ m → h ≡ n
    → AllByRecursion (IsRead s tile w h) (map (window_of (place_read s m n tile)) sources)
each_read s [] m n w h tile frames within narrow low w-is h-is = tt
each_read s (f ∷ fs) m n w h tile frames within narrow low w-is h-is = (
  record {
    width = frames.0.width ∙ sym w-is;
    height = frames.0.height ∙ sym h-is;
    narrow = omega arith;
    low = omega arith;
    within = subst (λ (t : ℕ). IsWithin tile t h) (sym w-is) (subst (λ (t : ℕ). IsWithin tile m t) (sym h-is) within);
    place = ap (λ (t : ℕ). place_read s t n tile) (sym w-is) ∙ ap (λ (t : ℕ). place_read s w t tile) (sym h-is);
  },
  each_read s fs m n w h tile frames.1 within narrow low w-is h-is,
)

pub fits_cut : (s : PlanStep) (sources : List Picture) (m n : ℕ) (tile : Rect) (ws : List SourceWindow) → AreCut s sources m n tile ws → m ≤ 8192 → n ≤ 8192 → 1 ≤ tile.width → 1 ≤ tile.height → length sources ≡ source_count s
    → KindsFit s ws → FitsStep s tile ws
fits_cut s sources m n tile ws cut narrow low wide high count kinds = record {
  count = ap (λ (t : List SourceWindow). length t) cut.cut ∙ length-map sources (window_of (place_read s m n tile)) ∙ count;
  wide = wide;
  high = high;
  each = subst (λ (t : List SourceWindow). AllByRecursion (IsRead s tile (window_at t 0).view.frame_width (window_at t 0).view.frame_height) t) (sym cut.cut) (go sources cut.frames);
  kinds = kinds;
}
  where
    go : (fs : List Picture) → AllByRecursion (HasFrame m n) fs
        → AllByRecursion (IsRead s tile (window_at (map (window_of (place_read s m n tile)) fs) 0).view.frame_width (window_at (map (window_of (place_read s m n tile)) fs) 0).view.frame_height) (map (window_of (place_read s m n tile)) fs)
    go [] frames = tt
    go (f ∷ fs) frames = each_read s (f ∷ fs) m n f.width f.height tile frames cut.within narrow low frames.0.width frames.0.height

-- the samples of a window are those of its image
pub window_bounded_cut : (f : Picture) (place : Rect) → IsPicture f → IsWithin place f.width f.height → IsBounded (window_of place f)
window_bounded_cut f place picture within = λ k d lt.
    let cells = cells_in place (sample f) in
    let a = within.across in
    let b = within.down in
    let P : ℕ → Type 0 = λ n. n ≤ f.maxval in
    subst P (sym (get_or_default_zero cells k d lt))
    (cells_in_all P place (sample f) (λ i j across down. sample_bounded f picture (place.x + i) (place.y + j) (omega arith) (omega arith)) k (omega (arith, length-cells_in place (sample f))))

one_bounded : (s : PlanStep) (m n : ℕ) (tile : Rect) (f : Picture) → IsWithin tile m n → HasFrame m n f → IsPicture f → IsBounded (window_of (place_read s m n tile) f)
one_bounded s m n tile f inside frame picture =
    let a = inside.across in
    let b = inside.down in
    let place = place_read s m n tile in
    let within = stays_within m n (reach_of (looks_at s)) tile (omega arith) (omega arith) in
    window_bounded_cut f place picture (subst (λ (t : ℕ). IsWithin place t f.height) (sym frame.width) (subst (λ (t : ℕ). IsWithin place m t) (sym frame.height) within))

all_bounded : (s : PlanStep) (m n : ℕ) (tile : Rect) (fs : List Picture) → IsWithin tile m n → AllByRecursion (HasFrame m n) fs → AllByRecursion IsPicture fs → AllByRecursion IsBounded (map (window_of (place_read s m n tile)) fs)
all_bounded s m n tile [] inside frames pictures = tt
all_bounded s m n tile (f ∷ fs) inside frames pictures = (one_bounded s m n tile f inside frames.0 pictures.0, all_bounded s m n tile fs inside frames.1 pictures.1)

pub bounded_cut : (s : PlanStep) (sources : List Picture) (m n : ℕ) (tile : Rect) (ws : List SourceWindow) → AreCut s sources m n tile ws → AllByRecursion IsPicture sources → AllByRecursion IsBounded ws
bounded_cut s sources m n tile ws cut pictures = subst (λ (t : List SourceWindow). AllByRecursion IsBounded t) (sym cut.cut) (all_bounded s m n tile sources cut.within cut.frames pictures)
