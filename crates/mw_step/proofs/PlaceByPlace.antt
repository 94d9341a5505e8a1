-- Planes that are made place by place are the images of their values.
use Rattle.std.proofs.Common.{◌≡◌, ℕ, ◌+◌, ◌-◌, ◌*◌, ◌<◌, List, length, map, get_or, replicate, unwrap_or, Option, Bool, true, false, refl, ap, sym, subst, arith, ◌∙◌}
use lib.Lanes.{zip2}
use Rattle.std.specs.Prelude.{◌==◌, ◌&&◌, if◌then◌else◌}
use Rattle.std.proofs.lemmas.List.{get_or-map, length-map, get_or-replicate, length-replicate}
use Rattle.std.proofs.lemmas.Nat.{mul-add-lt}
use Rattle.std.proofs.lemmas.Option.{unwrap_or-slice_get}
use Rattle.std.proofs.lemmas.Simd.{get_or-zip2, length-zip2}
use Rattle.mw_model.specs.declared.offsets.Rect.{Rect}
use Rattle.mw_model.specs.declared.shapes.Kind.{Kind}
use Rattle.mw_model.specs.declared.shapes.Kind.TheVariants as kind
use Rattle.mw_model.specs.Rasters.{Raster, raster}
use Rattle.mw_model.specs.Windows.{View, seen_at}
use Rattle.mw_model.specs.PlanSteps.{here}
use Rattle.mw_model.specs.Tasks.{cells_in}
use Rattle.mw_model.specs.Pictures.{picture}
use Rattle.mw_step_task.proofs.mw_tile.Shown.{seen_in}
use Rattle.mw_step_task.specs.Products.{tile_drawn, three_drawn, both_drawn, each_drawn, plane_drawn}
use Rattle.mw_step_task.proofs.mw_tile_pieces.TileCells.{cells_in_is}
use Rattle.mw_step_task.specs.mw_tile.Windows.{SourceWindow}
use Rattle.mw_step_task.proofs.mw_tile_pieces.Windows.{source_window}

-- the cells of a window fill its place
abbrev pub Fills : Rect → View ℕ → Type 0
Fills place a = length a.cells ≡ place.height * place.width

-- what a window shows in its place
here_own : (a : View ℕ) → Fills a.place a → (i j : ℕ) → i < a.place.width → j < a.place.height → here (seen_at a) (a.place.x + i) (a.place.y + j) ≡ get_or a.cells (j * a.place.width + i) 0
here_own a size i j across down =
    ap (λ (o : Option ℕ). unwrap_or o 0) (seen_in a (a.place.x + i) (a.place.y + j) (record { left = omega arith; right = omega arith; top = omega arith; bottom = omega arith }))
    ∙ unwrap_or-slice_get a.cells ((a.place.y + j - a.place.y) * a.place.width + (a.place.x + i - a.place.x)) 0
    ∙ ap (λ (t : ℕ). get_or a.cells (t * a.place.width + (a.place.x + i - a.place.x)) 0) (back a.place.y j)
    ∙ ap (λ (t : ℕ). get_or a.cells (j * a.place.width + t) 0) (back a.place.x i)
  where
    back : (m n : ℕ) → m + n - m ≡ n
    back m n = omega arith

pub here_in : (place : Rect) (a : View ℕ) → place ≡ a.place → Fills place a → (i j : ℕ) → i < place.width → j < place.height → here (seen_at a) (place.x + i) (place.y + j) ≡ get_or a.cells (j * place.width + i) 0
here_in place a is = subst P (sym is) (here_own a)
  where
    P : Rect → Type 0
    P r = Fills r a → (i j : ℕ) → i < r.width → j < r.height → here (seen_at a) (r.x + i) (r.y + j) ≡ get_or a.cells (j * r.width + i) 0

-- a value of what three windows show
pub three_cells : (value : ℕ → ℕ → ℕ → ℕ) (a b c : View ℕ) (xs : List ℕ) → a.place ≡ b.place → a.place ≡ c.place → Fills a.place a → Fills a.place b → Fills a.place c → length xs ≡ a.place.height * a.place.width
    → ((k : ℕ) → k < a.place.height * a.place.width → get_or xs k 0 ≡ value (get_or a.cells k 0) (get_or b.cells k 0) (get_or c.cells k 0))
    → cells_in a.place (λ x y. value (here (seen_at a) x y) (here (seen_at b) x y) (here (seen_at c) x y)) ≡ xs
three_cells value a b c xs b-place c-place a-size b-size c-size size each =
    cells_in_is a.place (λ x y. value (here (seen_at a) x y) (here (seen_at b) x y) (here (seen_at c) x y)) xs size (λ i j across down.
    let k = j * a.place.width + i in
    each k (omega (arith, mul-add-lt j a.place.width i a.place.height down across))
    ∙ ap (λ (t : ℕ). value t (get_or b.cells k 0) (get_or c.cells k 0)) (sym (here_in a.place a refl a-size i j across down))
    ∙ ap (λ (t : ℕ). value (here (seen_at a) (a.place.x + i) (a.place.y + j)) t (get_or c.cells k 0)) (sym (here_in a.place b b-place b-size i j across down))
    ∙ ap (λ (t : ℕ). value (here (seen_at a) (a.place.x + i) (a.place.y + j)) (here (seen_at b) (a.place.x + i) (a.place.y + j)) t) (sym (here_in a.place c c-place c-size i j across down)))

-- the image of a plane with these cells
drawn_is : (kind : Kind) (maxval : ℕ) (tile : Rect) (value : ℕ → ℕ → ℕ) (p : Raster ℕ) → p.width ≡ tile.width → p.height ≡ tile.height → cells_in tile value ≡ p.cells → tile_drawn kind maxval tile value ≡ picture kind p.width p.height maxval p.cells
drawn_is kind maxval tile value p width height cells =
    ap (λ (t : List ℕ). picture kind tile.width tile.height maxval t) cells
    ∙ ap (λ (t : ℕ). picture kind t tile.height maxval p.cells) (sym width)
    ∙ ap (λ (t : ℕ). picture kind p.width t maxval p.cells) (sym height)

-- the plane has the sides of the place
pub record HasSides (p : Raster ℕ) (place : Rect) : Type 0 where
  pub width : p.width ≡ place.width
  pub height : p.height ≡ place.height

pub three_held : (kind : Kind) (maxval : ℕ) (value : ℕ → ℕ → ℕ → ℕ) (a b c : View ℕ) (p : Raster ℕ) → HasSides p a.place → a.place ≡ b.place → a.place ≡ c.place → Fills a.place a → Fills a.place b → Fills a.place c
    → length p.cells ≡ a.place.height * a.place.width
    → ((k : ℕ) → k < a.place.height * a.place.width → get_or p.cells k 0 ≡ value (get_or a.cells k 0) (get_or b.cells k 0) (get_or c.cells k 0))
    → three_drawn kind maxval value a b c ≡ picture kind p.width p.height maxval p.cells
three_held kind maxval value a b c p sides b-place c-place a-size b-size c-size size each =
    drawn_is kind maxval a.place (λ x y. value (here (seen_at a) x y) (here (seen_at b) x y) (here (seen_at c) x y)) p sides.width sides.height (three_cells value a b c p.cells b-place c-place a-size b-size c-size size each)

pub both_held : (kind : Kind) (maxval : ℕ) (value : ℕ → ℕ → ℕ) (a b : View ℕ) (p : Raster ℕ) → HasSides p a.place → a.place ≡ b.place → Fills a.place a → Fills a.place b → p.cells ≡ zip2 value a.cells b.cells
    → both_drawn kind maxval value a b ≡ picture kind p.width p.height maxval p.cells
both_held kind maxval value a b p sides b-place a-size b-size cells =
    three_held kind maxval (λ m n _. value m n) a b b p sides b-place b-place a-size b-size b-size (ap (λ (t : List ℕ). length t) cells ∙ length-zip2 value a.cells b.cells (a-size ∙ sym b-size) ∙ a-size)
    (λ k lt. ap (λ (t : List ℕ). get_or t k 0) cells ∙ get_or-zip2 value a.cells b.cells k 0 0 0 (omega arith) (omega arith))

pub each_held : (kind : Kind) (maxval : ℕ) (value : ℕ → ℕ) (a : View ℕ) (p : Raster ℕ) → HasSides p a.place → Fills a.place a → p.cells ≡ map value a.cells
    → each_drawn kind maxval value a ≡ picture kind p.width p.height maxval p.cells
each_held kind maxval value a p sides a-size cells =
    three_held kind maxval (λ m _ _. value m) a a a p sides refl refl a-size a-size a-size (ap (λ (t : List ℕ). length t) cells ∙ length-map a.cells value ∙ a-size)
    (λ k lt. ap (λ (t : List ℕ). get_or t k 0) cells ∙ get_or-map value a.cells k 0 0 (omega arith))

pub inverted_held : (kind : Kind) (maxval : ℕ) (a : View ℕ) (p : Raster ℕ) → HasSides p a.place → Fills a.place a → p.cells ≡ zip2 (λ (m n : ℕ). m - n) (replicate (a.place.height * a.place.width) maxval) a.cells
    → each_drawn kind maxval (λ n. maxval - n) a ≡ picture kind p.width p.height maxval p.cells
inverted_held kind maxval a p sides a-size cells =
    let tops = replicate (a.place.height * a.place.width) maxval in
    let tops-size = length-replicate (a.place.height * a.place.width) maxval in
    three_held kind maxval (λ m _ _. maxval - m) a a a p sides refl refl a-size a-size a-size (ap (λ (t : List ℕ). length t) cells ∙ length-zip2 (λ (m n : ℕ). m - n) tops a.cells (tops-size ∙ sym a-size) ∙ tops-size)
    (λ k lt. ap (λ (t : List ℕ). get_or t k 0) cells ∙ get_or-zip2 (λ (m n : ℕ). m - n) tops a.cells k 0 0 0 (omega arith) (omega arith) ∙ ap (λ (t : ℕ). t - get_or a.cells k 0) (get_or-replicate (a.place.height * a.place.width) k maxval 0 lt))

pub blank_held : (kind : Kind) (maxval : ℕ) (tile : Rect) (p : Raster ℕ) → p ≡ raster tile.width tile.height (replicate (tile.height * tile.width) 0) → tile_drawn kind maxval tile (λ x y. 0) ≡ picture kind p.width p.height maxval p.cells
blank_held kind maxval tile p is =
    drawn_is kind maxval tile (λ x y. 0) p (ap (λ (r : Raster ℕ). r.width) is) (ap (λ (r : Raster ℕ). r.height) is)
    (cells_in_is tile (λ x y. 0) (replicate (tile.height * tile.width) 0) (length-replicate (tile.height * tile.width) 0)
    (λ i j across down. get_or-replicate (tile.height * tile.width) (j * tile.width + i) 0 0 (omega (arith, mul-add-lt j tile.width i tile.height down across))) ∙ sym (ap (λ (r : Raster ℕ). r.cells) is))

-- the cells of a value of two windows, and of three
pub both_cells : (kind : Kind) (maxval : ℕ) (value : ℕ → ℕ → ℕ) (a b : View ℕ) → a.place ≡ b.place → Fills a.place a → Fills a.place b → both_drawn kind maxval value a b ≡ plane_drawn kind maxval a.place (zip2 value a.cells b.cells)
both_cells kind maxval value a b place a-size b-size =
    both_held kind maxval value a b (raster a.place.width a.place.height (zip2 value a.cells b.cells)) (record { width = refl; height = refl }) place a-size b-size refl

pub marked_cells : (kind : Kind) (maxval v : ℕ) (a b c : View ℕ) → a.place ≡ b.place → a.place ≡ c.place → Fills a.place a → Fills a.place b → Fills a.place c
    → three_drawn kind maxval (λ s m n. if m == 1 && n == 0 then v else s) a b c ≡ plane_drawn kind maxval a.place (zip2 (λ (s m : ℕ). if m == 1 then v else s) a.cells (zip2 (λ (m n : ℕ). if m == 1 && n == 0 then 1 else 0) b.cells c.cells))
marked_cells kind maxval v a b c b-place c-place a-size b-size c-size =
    let mask = zip2 (λ (m n : ℕ). if m == 1 && n == 0 then 1 else 0) b.cells c.cells in
    let mask-size : length mask ≡ a.place.height * a.place.width = length-zip2 (λ (m n : ℕ). if m == 1 && n == 0 then 1 else 0) b.cells c.cells (b-size ∙ sym c-size) ∙ b-size in
    let cells = zip2 (λ (s m : ℕ). if m == 1 then v else s) a.cells mask in
    three_held kind maxval (λ s m n. if m == 1 && n == 0 then v else s) a b c (raster a.place.width a.place.height cells) (record { width = refl; height = refl }) b-place c-place a-size b-size c-size
    (length-zip2 (λ (s m : ℕ). if m == 1 then v else s) a.cells mask (a-size ∙ sym mask-size) ∙ a-size)
    (λ k lt. get_or-zip2 (λ (s m : ℕ). if m == 1 then v else s) a.cells mask k 0 0 0 (omega arith) (omega arith)
    ∙ ap (λ (t : ℕ). if t == 1 then v else get_or a.cells k 0) (get_or-zip2 (λ (m n : ℕ). if m == 1 && n == 0 then 1 else 0) b.cells c.cells k 0 0 0 (omega arith) (omega arith))
    ∙ choice (get_or b.cells k 0 == 1 && get_or c.cells k 0 == 0) v (get_or a.cells k 0))
  where
    choice : (b : Bool) (v s : ℕ) → (if (if b then 1 else 0) == 1 then v else s) ≡ (if b then v else s)
    choice true v s = refl
    choice false v s = refl

-- what is made place by place, where the windows and cells are given by equations
pub both_given : (kind : Kind) (maxval : ℕ) (value : ℕ → ℕ → ℕ) (a b s : View ℕ) (cells : List ℕ) → s ≡ b → cells ≡ s.cells → Fills s.place s → a.place ≡ b.place → Fills a.place a
    → plane_drawn kind maxval a.place (zip2 value a.cells cells) ≡ both_drawn kind maxval value a b
both_given kind maxval value a b s cells s-is cells-is s-size place a-size =
    ap (λ (t : List ℕ). plane_drawn kind maxval a.place (zip2 value a.cells t)) (cells-is ∙ ap (λ (t : View ℕ). t.cells) s-is)
    ∙ sym (both_cells kind maxval value a b place a-size (subst (λ (r : Rect). Fills r b) (sym place) (subst (λ (t : View ℕ). Fills t.place t) s-is s-size)))

pub marked_given : (kind : Kind) (maxval v : ℕ) (a b c s t : View ℕ) (cells : List ℕ) → s ≡ b → t ≡ c → cells ≡ zip2 (λ (m n : ℕ). if m == 1 && n == 0 then 1 else 0) s.cells t.cells → Fills s.place s → Fills s.place t
    → a.place ≡ b.place → b.place ≡ c.place → Fills a.place a
    → plane_drawn kind maxval a.place (zip2 (λ (s m : ℕ). if m == 1 then v else s) a.cells cells) ≡ three_drawn kind maxval (λ s m n. if m == 1 && n == 0 then v else s) a b c
marked_given kind maxval v a b c s t cells s-is t-is cells-is s-size t-size b-place c-place a-size =
    let mask : List ℕ → List ℕ → List ℕ = zip2 (λ (m n : ℕ). if m == 1 && n == 0 then 1 else 0) in
    let b-size : Fills a.place b = subst (λ (r : Rect). Fills r b) (sym b-place) (subst (λ (u : View ℕ). Fills u.place u) s-is s-size) in
    let c-size : Fills a.place c = subst (λ (r : Rect). Fills r c) (sym b-place) (subst (λ (u : View ℕ). Fills u.place c) s-is (subst (λ (u : View ℕ). Fills s.place u) t-is t-size)) in
    ap (λ (u : List ℕ). plane_drawn kind maxval a.place (zip2 (λ (s m : ℕ). if m == 1 then v else s) a.cells u))
    (cells-is ∙ ap (λ (u : View ℕ). mask u.cells t.cells) s-is ∙ ap (λ (u : View ℕ). mask b.cells u.cells) t-is)
    ∙ sym (marked_cells kind maxval v a b c b-place (b-place ∙ c-place) a-size b-size c-size)

-- planes of a source that is looked at by its kind
pub each_plane : (value : ℕ → ℕ) (u : SourceWindow) (kind : Kind) (maxval : ℕ) (k : Kind) (m : ℕ) (w : View ℕ) (p : Raster ℕ) → u ≡ source_window kind maxval w → HasSides p w.place → Fills w.place w → p.cells ≡ map value w.cells
    → each_drawn k m value u.view ≡ picture k p.width p.height m p.cells
each_plane value u kind maxval k m w p is sides size cells = ap (λ (s : SourceWindow). each_drawn k m value s.view) is ∙ each_held k m value w p sides size cells

pub inverted_plane : (u : SourceWindow) (kind : Kind) (maxval : ℕ) (w : View ℕ) (p : Raster ℕ) → u ≡ source_window kind maxval w → HasSides p w.place → Fills w.place w → p.cells ≡ zip2 (λ (m n : ℕ). m - n) (replicate (w.place.height * w.place.width) maxval) w.cells
    → each_drawn u.kind u.maxval (λ n. u.maxval - n) u.view ≡ picture kind p.width p.height maxval p.cells
inverted_plane u kind maxval w p is sides size cells = ap (λ (s : SourceWindow). each_drawn s.kind s.maxval (λ n. s.maxval - n) s.view) is ∙ inverted_held kind maxval w p sides size cells

pub flipped_plane : (u : SourceWindow) (w : View ℕ) (p : Raster ℕ) → u ≡ source_window kind.Bit 1 w → HasSides p w.place → Fills w.place w → p.cells ≡ map (λ (n : ℕ). 1 - n) w.cells
    → each_drawn u.kind u.maxval (λ n. u.maxval - n) u.view ≡ picture kind.Bit p.width p.height 1 p.cells
flipped_plane u w p is sides size cells = ap (λ (s : SourceWindow). each_drawn s.kind s.maxval (λ n. s.maxval - n) s.view) is ∙ each_held kind.Bit 1 (λ (n : ℕ). 1 - n) w p sides size cells

pub both_plane : (value : ℕ → ℕ → ℕ) (u : SourceWindow) (b second : View ℕ) (kind : Kind) (maxval : ℕ) (w : View ℕ) (p : Raster ℕ) → u ≡ source_window kind maxval w → second ≡ b → u.view.place ≡ b.place → HasSides p w.place → Fills w.place w → Fills w.place second
    → p.cells ≡ zip2 value w.cells second.cells → both_drawn u.kind u.maxval value u.view b ≡ picture kind p.width p.height maxval p.cells
both_plane value u b second kind maxval w p is second-is place sides size other-size cells =
    let same : w.place ≡ second.place = ap (λ (s : SourceWindow). s.view.place) (sym is) ∙ place ∙ ap (λ (v : View ℕ). v.place) (sym second-is) in
    ap (λ (s : SourceWindow). both_drawn s.kind s.maxval value s.view b) is
    ∙ ap (λ (v : View ℕ). both_drawn kind maxval value w v) (sym second-is)
    ∙ both_held kind maxval value w second p sides same size other-size cells

pub marked_plane : (u : SourceWindow) (v level : ℕ) (marks : List ℕ) (kind : Kind) (maxval : ℕ) (w : View ℕ) (p : Raster ℕ) → u ≡ source_window kind maxval w → HasSides p w.place → level ≡ v → p.cells ≡ zip2 (λ (s m : ℕ). if m == 1 then level else s) w.cells marks
    → plane_drawn u.kind u.maxval u.view.place (zip2 (λ (s m : ℕ). if m == 1 then v else s) u.view.cells marks) ≡ picture kind p.width p.height maxval p.cells
marked_plane u v level marks kind maxval w p is sides same cells =
    ap (λ (t : SourceWindow). plane_drawn t.kind t.maxval t.view.place (zip2 (λ (s m : ℕ). if m == 1 then v else s) t.view.cells marks)) is
    ∙ ap (λ (t : ℕ). picture kind t w.place.height maxval (zip2 (λ (s m : ℕ). if m == 1 then v else s) w.cells marks)) (sym sides.width)
    ∙ ap (λ (t : ℕ). picture kind p.width t maxval (zip2 (λ (s m : ℕ). if m == 1 then v else s) w.cells marks)) (sym sides.height)
    ∙ ap (λ (t : ℕ). picture kind p.width p.height maxval (zip2 (λ (s m : ℕ). if m == 1 then t else s) w.cells marks)) (sym same)
    ∙ ap (λ (t : List ℕ). picture kind p.width p.height maxval t) (sym cells)
