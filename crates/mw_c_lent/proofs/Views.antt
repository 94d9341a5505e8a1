-- Views that have all samples of an image: what they show, and what ranks of it are.
use Rattle.std.proofs.Common.{◌≡◌, ℕ, ◌+◌, ◌*◌, ◌<◌, ℤ, pos, negsuc, ◌+ℤ◌, ◌-ℤ◌, List, [], ◌∷◌, Option, Some, None, option_map, map, length, get_or, slice_get, refl, ap, sym, arith, ◌∙◌, inl, inr}
use Rattle.std.specs.List.{cons_option}
use Rattle.std.proofs.lemmas.Bool.{cases_lt, lt-ltb, le-ltb}
use Rattle.std.proofs.lemmas.Int.{ints}
use Rattle.std.proofs.lemmas.List.{get_or-map, length-map}
use Rattle.std.proofs.lemmas.Nat.{mul-add-lt}
use Rattle.std.proofs.lemmas.Option.{slice_get-get_or, slice_get-map}
use Rattle.std.proofs.Math.Nat.{mul_comm}
use Rattle.mw_model.specs.declared.offsets.Offset.{Offset}
use Rattle.mw_model.specs.declared.offsets.Reach.{Reach}
use Rattle.mw_model.specs.declared.offsets.Rect.{Rect}
use Rattle.mw_model.specs.Flat.{under}
use Rattle.mw_model.specs.Pictures.{Picture, sample, sample_at}
use Rattle.mw_model.specs.PlanSteps.{Rank, ranked}
use Rattle.mw_model.specs.Plans.{plane_of}
use Rattle.mw_model.specs.Rasters.{raster, cell_at, seen_under}
use Rattle.mw_model.specs.Rectangles.{WithinReach, grown, rect}
use Rattle.mw_model.specs.Tasks.{cells_in}
use Rattle.mw_model.specs.Windows.{View, seen_at}
use Rattle.mw_grid.proofs.Reaching.{reaches_all}
use Rattle.mw_tile.specs.Windows.{IsWindow}
use Rattle.mw_tile.specs.mw_pixel.Images.{raster_of}
use Rattle.mw_tile.proofs.Shown.{seen_under-picture}
use Rattle.mw_rank_lent.specs.mw_rank.Ranks.{IsRank, levels_under}
use Rattle.mw_tile.specs.Cuts.{view_of}
use Rattle.mw_tile_pieces.proofs.TileCells.{cells_in_at, cells_in_is, length-cells_in}
use Rattle.mw_c_lent.specs.InPlace.{IsWholeView}
use Rattle.mw_c_lent.specs.Rows.{IsStrip}
use Rattle.mw_c_lent.proofs.Steps.{ranked_there}
use Rattle.mw_c_lent.proofs.Rows.{level_there, some_of}

-- the level of a sample that is seen
abbrev seen_level : {A : Type 0} → (A → ℕ) → Option A → Option ℕ
seen_level level None = None
seen_level level (Some s) = Some (level s)

-- the whole view of an image has the level at each place
level_in : {A : Type 0} (level : A → ℕ) (f : Picture) (cells : List A) → length f.samples ≡ f.height * f.width → map level cells ≡ f.samples
    → (column row : ℤ) → seen_level level (cell_at (raster f.width f.height cells) column row) ≡ sample_at f column row
level_in level f cells size is (negsuc x) row = refl
level_in level f cells size is (pos x) (negsuc y) = refl
level_in {A} level f cells size is (pos x) (pos y) =
    elim (cases_lt x f.width) [
      | inr past ↦ rw (le-ltb x f.width past) refl
      | inl across ↦ elim (cases_lt y f.height) [
        | inr past ↦ rw (lt-ltb x f.width across, le-ltb y f.height past) refl
        | inl down ↦ rw (lt-ltb x f.width across, lt-ltb y f.height down) (there across down)
      ]
    ]
  where
    there : x < f.width → y < f.height → seen_level level (slice_get cells (y * f.width + x)) ≡ Some (sample f x y)
    there across down =
        let k : ℕ = y * f.width + x in
        let count : length cells ≡ f.height * f.width = sym (length-map cells level) ∙ ap (λ (xs : List ℕ). length xs) is ∙ size in
        let within : k < length cells = omega (arith, count, mul-add-lt y f.width x f.height down across, mul_comm f.width f.height) in
        let d : A = some_of cells k within in
        ap (seen_level level) (slice_get-get_or cells k d within)
        ∙ ap (λ (t : ℕ). Some t) (sym (get_or-map level cells k d 0 within) ∙ ap (λ (xs : List ℕ). get_or xs k 0) is)

less_nothing : (column : ℤ) → column -ℤ pos 0 ≡ column
less_nothing column = omega (arith, ints)

-- and so under an element
levels_cons : {A : Type 0} (level : A → ℕ) (o : Option A) (p : Option ℕ) (xs : List A) (ys : List ℕ) → seen_level level o ≡ p → map level xs ≡ ys → map level (cons_option o xs) ≡ cons_option p ys
levels_cons level None p xs ys first rest = rest ∙ ap (λ (t : Option ℕ). cons_option t ys) first
levels_cons level (Some s) p xs ys first rest = ap (λ (t : List ℕ). level s ∷ t) rest ∙ ap (λ (t : Option ℕ). cons_option t ys) first

pub levels_whole : {A : Type 0} (level : A → ℕ) (w : View A) (f : Picture) → IsWholeView level w f
    → (offsets : List Offset) (x y : ℕ) → levels_under level (seen_at w) offsets x y ≡ under f offsets x y
levels_whole level w f whole [] x y = refl
levels_whole {A} level w f whole (b ∷ bs) x y =
    levels_cons level (seen_at w (pos x +ℤ b.dx) (pos y +ℤ b.dy)) (sample_at f (pos x +ℤ b.dx) (pos y +ℤ b.dy)) (seen_under (seen_at w) bs x y) (under f bs x y)
    (seen (pos x +ℤ b.dx) (pos y +ℤ b.dy)) (levels_whole level w f whole bs x y)
  where
    seen : (column row : ℤ) → seen_level level (seen_at w column row) ≡ sample_at f column row
    seen column row =
        ap (λ (v : View A). seen_level level (seen_at v column row)) whole.view
        ∙ ap (λ (c : ℤ). seen_level level (cell_at (raster f.width f.height w.cells) c (row -ℤ pos 0))) (less_nothing column)
        ∙ ap (λ (r : ℤ). seen_level level (cell_at (raster f.width f.height w.cells) column r)) (less_nothing row)
        ∙ level_in level f w.cells whole.size whole.samples column row

-- ---- views that have some rows of an image

-- the levels of a view's cells
abbrev pub leveled : {A : Type 0} → (A → ℕ) → View A → View ℕ
leveled level w = view_of w.frame_width w.frame_height w.place (map level w.cells)

mapped : {A : Type 0} (level : A → ℕ) (o : Option A) → seen_level level o ≡ option_map level o
mapped level None = refl
mapped level (Some s) = refl

level_seen : {A : Type 0} (level : A → ℕ) (m n : ℕ) (cells : List A) (column row : ℤ) → seen_level level (cell_at (raster m n cells) column row) ≡ cell_at (raster m n (map level cells)) column row
level_seen level m n cells (negsuc x) row = refl
level_seen level m n cells (pos x) (negsuc y) = refl
level_seen level m n cells (pos x) (pos y) =
    elim (cases_lt x m) [
      | inr past ↦ rw (le-ltb x m past) refl
      | inl across ↦ elim (cases_lt y n) [
        | inr past ↦ rw (lt-ltb x m across, le-ltb y n past) refl
        | inl down ↦ rw (lt-ltb x m across, lt-ltb y n down) (mapped level (slice_get cells (y * m + x)) ∙ sym (slice_get-map level cells (y * m + x)))
      ]
    ]

levels_leveled : {A : Type 0} (level : A → ℕ) (w : View A) (offsets : List Offset) (x y : ℕ) → levels_under level (seen_at w) offsets x y ≡ seen_under (seen_at (leveled level w)) offsets x y
levels_leveled level w [] x y = refl
levels_leveled level w (b ∷ bs) x y =
    levels_cons level (seen_at w (pos x +ℤ b.dx) (pos y +ℤ b.dy)) (seen_at (leveled level w) (pos x +ℤ b.dx) (pos y +ℤ b.dy)) (seen_under (seen_at w) bs x y) (seen_under (seen_at (leveled level w)) bs x y)
    (level_seen level w.place.width w.place.height w.cells (pos x +ℤ b.dx -ℤ pos w.place.x) (pos y +ℤ b.dy -ℤ pos w.place.y)) (levels_leveled level w bs x y)

-- what is seen of a view that has all that the image has under the element placed in the tile
pub levels_window : {A : Type 0} (level : A → ℕ) (w : View A) (g : Picture) (offsets : List Offset) (tile : Rect) → length g.samples ≡ g.height * g.width → IsWindow (leveled level w) (raster_of g) offsets tile
    → (x y : ℕ) → x < tile.width → y < tile.height → levels_under level (seen_at w) offsets (tile.x + x) (tile.y + y) ≡ under g offsets (tile.x + x) (tile.y + y)
levels_window level w g offsets tile size window x y across down =
    levels_leveled level w offsets (tile.x + x) (tile.y + y) ∙ seen_under-picture (leveled level w) g offsets tile size window x y across down

-- rows of an image that go as far beyond the tile as the element reaches are such a view
pub rows_window : {A : Type 0} (level : A → ℕ) (g : Picture) (m n : ℕ) (place tile : Rect) (reach : Reach) (offsets : List Offset) (part : List A) → m ≡ g.width → n ≡ g.height → length g.samples ≡ g.height * g.width → IsStrip place g
    → place ≡ grown m n reach tile → WithinReach reach offsets → map level part ≡ cells_in place (sample g) → IsWindow (leveled level (view_of m n place part)) (raster_of g) offsets tile
rows_window level g m n place tile reach offsets part wide high size strip is within rows = record {
  cut = record {
    frame_width = wide;
    frame_height = high;
    within = record { across = omega (arith, strip.left, strip.wide); down = strip.low };
    size = ap (λ (xs : List ℕ). length xs) rows ∙ length-cells_in place (sample g);
    same = same;
  };
  reaches = rw (sym wide, sym high, is) (reaches_all m n reach tile offsets within);
}
  where
    same : (i j : ℕ) → i < place.width → j < place.height → slice_get (map level part) (j * place.width + i) ≡ slice_get g.samples ((place.y + j) * g.width + (place.x + i))
    same i j across down =
        let here : j * place.width + i < length (cells_in place (sample g)) = omega (arith, length-cells_in place (sample g), mul-add-lt j place.width i place.height down across, mul_comm place.width place.height) in
        let there : (place.y + j) * g.width + (place.x + i) < length g.samples =
        omega (arith, size, mul-add-lt (place.y + j) g.width (place.x + i) g.height (omega (arith, down, strip.low)) (omega (arith, across, strip.left, strip.wide)), mul_comm g.width g.height) in
        ap (λ (xs : List ℕ). slice_get xs (j * place.width + i)) rows
        ∙ slice_get-get_or (cells_in place (sample g)) (j * place.width + i) 0 here
        ∙ ap (λ (t : ℕ). Some t) (cells_in_at place (sample g) i j across down)
        ∙ sym (slice_get-get_or g.samples ((place.y + j) * g.width + (place.x + i)) 0 there)

-- ranks of a whole view, in a tile of whole rows, are the rank filter's
pub ranks_whole : {A : Type 0} (level : A → ℕ) (w : View A) (f : Picture) (offsets element : List Offset) (k : ℕ) (r : Rect) (cells : List A)
    → IsWholeView level w f → IsStrip r f → offsets ≡ element → IsRank level k (seen_at w) offsets r (raster r.width r.height cells)
    → map level cells ≡ cells_in r (sample (plane_of (Rank element k) (f ∷ []) f.width f.height))
ranks_whole {A} level w f offsets element k r cells whole strip same ranks =
    sym (cells_in_is r (sample (plane_of (Rank element k) (f ∷ []) f.width f.height)) (map level cells) (length-map cells level ∙ ranks.size) each)
  where
    each : (i j : ℕ) → i < r.width → j < r.height → get_or (map level cells) (j * r.width + i) 0 ≡ sample (plane_of (Rank element k) (f ∷ []) f.width f.height) (r.x + i) (r.y + j)
    each i j across down =
        let within : j * r.width + i < length cells = omega (arith, ranks.size, mul-add-lt j r.width i r.height down across, mul_comm r.width r.height) in
        let left = strip.left in
        let wide = strip.wide in
        let low = strip.low in
        level_there level cells (j * r.width + i) (ranked k (levels_under level (seen_at w) offsets (r.x + i) (r.y + j))) within (λ d. ranks.cells i j d across down)
        ∙ ranked_there element offsets k f (r.x + i) (r.y + j) (ranked k (levels_under level (seen_at w) offsets (r.x + i) (r.y + j))) (omega arith) (omega arith) same
        (ap (ranked k) (levels_whole level w f whole offsets (r.x + i) (r.y + j)))

same_view : {A : Type 0} (m n o p : ℕ) (r s : Rect) (xs ys : List A) → m ≡ o → n ≡ p → r ≡ s → xs ≡ ys → view_of m n r xs ≡ view_of o p s ys
same_view m n o p r s xs ys a b c d = rw (a, b, c, d) refl

same_frame : (f : Picture) (m n : ℕ) (r : Rect) → m ≡ f.width → n ≡ f.height → r ≡ rect 0 0 m n → r ≡ rect 0 0 f.width f.height
same_frame f m n r wide high place = place ∙ ap (λ (t : ℕ). rect 0 0 t n) wide ∙ ap (λ (t : ℕ). rect 0 0 f.width t) high

-- samples that are all of an image's are a whole view of it
pub whole_is : {A : Type 0} (level : A → ℕ) (w : View A) (f : Picture) (m n : ℕ) (r : Rect) (cells : List A) → m ≡ f.width → n ≡ f.height → r ≡ rect 0 0 m n → w ≡ view_of m n r cells
    → map level cells ≡ f.samples → length f.samples ≡ f.height * f.width → IsWholeView level w f
whole_is {A} level w f m n r cells wide high place is samples size = record {
  view = is ∙ same_view m n f.width f.height r (rect 0 0 f.width f.height) cells w.cells wide high (same_frame f m n r wide high place) (sym (ap (λ (v : View A). v.cells) is));
  samples = ap (λ (v : View A). map level v.cells) is ∙ samples;
  size = size;
}

pub whole_count : {A : Type 0} (level : A → ℕ) (f : Picture) (m n : ℕ) (r : Rect) (cells : List A) → length f.samples ≡ f.height * f.width → m ≡ f.width → n ≡ f.height → r ≡ rect 0 0 m n
    → map level cells ≡ f.samples → length cells ≡ r.height * r.width
whole_count level f m n r cells size wide high place samples =
    sym (length-map cells level) ∙ ap (λ (xs : List ℕ). length xs) samples ∙ size ∙ sym (ap (λ (s : Rect). s.height * s.width) (same_frame f m n r wide high place))
