-- Blocks of cells that are copied from one list into another (own). Cells are read by their places, as samples or bits.
use Rattle.std.specs.Prelude.{◌≡◌, ◌≢◌, ◌⊎◌, ℕ, ◌+◌, ◌-◌, ◌*◌, ◌<◌, ◌≤◌}
use Rattle.mw_model.specs.declared.offsets.Rect.{Rect}
use Rattle.mw_model.specs.Rectangles.{Holds}
use Rattle.mw_tile_pieces.specs.Patches.{overlap_of}
use Rattle.mw_tile_pieces.specs.declared.blocks.Block.{Block}

abbrev pub block : ℕ → ℕ → ℕ → ℕ → ℕ → ℕ → Block
block start wide first own width high = record { start = start; wide = wide; first = first; own = own; width = width; high = high }

-- rectangle `o` of two rectangles, in lists with so many cells a row
abbrev pub block_at : Rect → Rect → Rect → ℕ → ℕ → Block
block_at r h o wide own = block ((o.y - r.y) * wide + (o.x - r.x)) wide ((o.y - h.y) * own + (o.x - h.x)) own o.width o.height

-- the rectangles have no place in common
abbrev pub AreApart : Rect → Rect → Type 0
AreApart r h = (x y : ℕ) → Holds r x y → ¬ Holds h x y

-- the block is what the rectangles have in common, and that is some place
pub record IsCommon (r h : Rect) (wide own : ℕ) (b : Block) : Type 0 where
  pub is : b ≡ block_at r h (overlap_of r h) wide own
  pub some : 0 < b.width
  pub high : 0 < b.high

-- the block lies in lists of these lengths, and its rows do not overlap
pub record BlockFits (b : Block) (n m : ℕ) : Type 0 where
  pub across : b.width ≤ b.wide
  pub room : (j : ℕ) → j < b.high → b.start + (j * b.wide + b.width) ≤ n
  pub other : (j : ℕ) → j < b.high → b.first + (j * b.own + b.width) ≤ m

-- from place `to` on the new cells are so many of the others from place `at` on; else they are the old
pub record CopiesRun {B : Type 0} (old new from : ℕ → B) (to at count : ℕ) : Type 0 where
  pub copied : (i : ℕ) → i < count → new (to + i) ≡ from (at + i)
  pub kept : (p : ℕ) → (p < to) ⊎ (to + count ≤ p) → new p ≡ old p

-- in the block the new cells are the others, and else the old
pub record IsPasted {B : Type 0} (b : Block) (old new from : ℕ → B) : Type 0 where
  pub inside : (i j : ℕ) → i < b.width → j < b.high → new (b.start + (j * b.wide + i)) ≡ from (b.first + (j * b.own + i))
  pub outside : (p : ℕ) → ((i j : ℕ) → i < b.width → j < b.high → p ≢ b.start + (j * b.wide + i)) → new p ≡ old p

-- all cells of the block that are read are v
abbrev pub ReadsOnly : {B : Type 0} → Block → (ℕ → B) → B → Type 0
ReadsOnly b from v = (i j : ℕ) → i < b.width → j < b.high → from (b.first + (j * b.own + i)) ≡ v
