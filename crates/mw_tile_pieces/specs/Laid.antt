-- Pieces whose cells are written into those of a window (own).
use Rattle.std.specs.Prelude.{◌≡◌, ℕ, List, length}
use Rattle.mw_model.specs.declared.offsets.Rect.{Rect}
use Rattle.mw_model.specs.Rectangles.{Holds}
use Rattle.mw_tile_pieces.specs.Patches.{Patch, patch, cell_of, ShowsIn}

-- where the piece is, the new cells of the rectangle show it, and else the old cells
pub record IsLaid {A : Type 0} (r : Rect) (p : Patch A) (old new : List A) : Type 0 where
  pub size : length new ≡ length old
  pub shows : ShowsIn r (cell_of (patch r new)) p
  pub rest : (x y : ℕ) → Holds r x y → ¬ Holds p.place x y → cell_of (patch r new) x y ≡ cell_of (patch r old) x y
