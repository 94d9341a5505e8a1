-- What a task makes.
use Rattle.std.specs.Prelude.{◌≡◌, ℕ, ◌≤◌, true, false, List, [], ◌∷◌}
use Rattle.std.specs.Arc.{arc_value}
use Rattle.mw_model.specs.declared.offsets.Rect.{Rect}
use Rattle.mw_model.specs.declared.shapes.Kind.{Kind}
use Rattle.mw_model.specs.Pictures.{Picture}
use Rattle.mw_model.specs.Windows.{View, seen_at}
use Rattle.mw_model.specs.PlanSteps.{here}
use Rattle.mw_model.specs.Plans.{is_sum}
use Rattle.mw_model.specs.Tasks.{cells_in}
use Rattle.mw_step_task.specs.WindowTasks.{made_of_windows, WindowTask, tile_made}
use Rattle.mw_element.specs.mw_pixel.Images.{set_of, grey_of}
use Rattle.mw_step_task.specs.declared.tile_result.TileResult.{TileResult}
use Rattle.mw_step_task.specs.declared.tile_result.TileResult.TheVariants.{Bits, Grey8, Grey16, Number}

-- the plane is this image, in samples of the size that its maxval wants
abbrev pub HoldsImage : Picture → TileResult → Type 0
HoldsImage f (Bits p) = f ≡ set_of (arc_value p)
HoldsImage f (Grey8 p maxval) = (f ≡ grey_of (arc_value p) maxval) × (1 ≤ maxval)
HoldsImage f (Grey16 p maxval) = (f ≡ grey_of (arc_value p) maxval) × (256 ≤ maxval)
HoldsImage f (Number n) = ⊥

-- the number is the only one of the list
abbrev pub HoldsNumber : List ℕ → TileResult → Type 0
HoldsNumber ns (Bits p) = ⊥
HoldsNumber ns (Grey8 p maxval) = ⊥
HoldsNumber ns (Grey16 p maxval) = ⊥
HoldsNumber ns (Number n) = ns ≡ n ∷ []

-- what was made is the sum of the tile for a Sum step, and for each other the image of the tile
abbrev pub IsMade : WindowTask → TileResult → Type 0
IsMade t (Bits p) = (is_sum t.step ≡ false) × HoldsImage (tile_made t) (Bits p)
IsMade t (Grey8 p maxval) = (is_sum t.step ≡ false) × HoldsImage (tile_made t) (Grey8 p maxval)
IsMade t (Grey16 p maxval) = (is_sum t.step ≡ false) × HoldsImage (tile_made t) (Grey16 p maxval)
IsMade t (Number n) = (is_sum t.step ≡ true) × HoldsNumber (made_of_windows t.step t.windows t.rect) (Number n)

-- an image of the size of a tile, with these values in the tile's places
abbrev pub tile_drawn : Kind → ℕ → Rect → (ℕ → ℕ → ℕ) → Picture
tile_drawn kind maxval tile value = record { kind = kind; width = tile.width; height = tile.height; maxval = maxval; samples = cells_in tile value }

-- the image of these values of what three windows of one place show there, place by place
abbrev pub three_drawn : Kind → ℕ → (ℕ → ℕ → ℕ → ℕ) → View ℕ → View ℕ → View ℕ → Picture
three_drawn kind maxval value a b c = tile_drawn kind maxval a.place (λ x y. value (here (seen_at a) x y) (here (seen_at b) x y) (here (seen_at c) x y))

-- the image of these values of what two windows of one place show there
abbrev pub both_drawn : Kind → ℕ → (ℕ → ℕ → ℕ) → View ℕ → View ℕ → Picture
both_drawn kind maxval value a b = tile_drawn kind maxval a.place (λ x y. value (here (seen_at a) x y) (here (seen_at b) x y))

-- the image of these values of what a window shows
abbrev pub each_drawn : Kind → ℕ → (ℕ → ℕ) → View ℕ → Picture
each_drawn kind maxval value a = tile_drawn kind maxval a.place (λ x y. value (here (seen_at a) x y))

-- an image of the size of a place, with these cells by rows
abbrev pub plane_drawn : Kind → ℕ → Rect → List ℕ → Picture
plane_drawn kind maxval place cells = record { kind = kind; width = place.width; height = place.height; maxval = maxval; samples = cells }
