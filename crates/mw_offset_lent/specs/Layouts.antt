-- Cells that are laid out around a tile, and the results that are made of them.
use Rattle.std.specs.Prelude.{◌≡◌, ℕ, ◌+◌, ◌*◌, ◌<◌, ◌≤◌, ◌^◌, pos, ◌+ℤ◌, ◌-ℤ◌, ◌≤ℤ◌, List, fold, map, slice_index_or}
use Rattle.std.specs.List.{AllByRecursion}
use Rattle.mw_model.specs.declared.offsets.Offset.{Offset}
use Rattle.mw_model.specs.declared.offsets.Rect.{Rect}
use Rattle.mw_model.specs.Rasters.{Sight, seen_under}
use Rattle.mw_model.specs.Windows.{View}
use Rattle.mw_offset_lent.specs.Parts.{IsPartOf}
use Rattle.mw_offset_lent.specs.declared.work.Laid.{Laid}
use Rattle.mw_offset_lent.specs.declared.work.Strip.{Strip}
use Rattle.mw_offset_lent.specs.declared.work.Work.{Work}
use Rattle.mw_offset_lent.specs.Offsets.{LeadsWithin, place_among}
use Rattle.mw_offset_lent.specs.Splits.{IsSplit}

-- The first cell of the first row lies as far before the tile's first place as offsets lead, and rows of cells have as much on
-- either side of the tile.
pub record IsLaidOut {A : Type 0} (w : View A) (l : Laid) : Type 0 where
  pub column : l.column ≡ pos l.tile.x -ℤ pos l.around.across -ℤ pos w.place.x
  pub row : l.row ≡ pos l.tile.y -ℤ pos l.around.down -ℤ pos w.place.y
  pub wide : l.wide ≡ l.tile.width + 2 * l.around.across
  pub part : IsPartOf l.column l.wide w.place.width l.part
  pub across : l.around.across ≤ 64
  pub down : l.around.down ≤ 64
  pub some : 0 < l.most
  pub few : l.most ≤ 2 ^ 18

-- the first rows of a result have at each place the extremum of n and what is seen under the offsets there
abbrev pub HasSeenRows : {A : Type 0} → (A → A → A) → A → Sight A → List Offset → Rect → ℕ → List A → Type 0
HasSeenRows merge n sight offsets tile rows cells = (x y : ℕ) → x < tile.width → y < rows → slice_index_or cells (y * tile.width + x) n ≡ fold merge n (seen_under sight offsets (tile.x + x) (tile.y + y))

-- in a tile, the result in column x and r rows below row y
abbrev pub HasSeenAt : {A : Type 0} → (A → A → A) → A → Sight A → List Offset → Rect → ℕ → ℕ → ℕ → List A → Type 0
HasSeenAt merge n sight offsets tile y r x cells = slice_index_or cells (y * tile.width + (r * tile.width + x)) n ≡ fold merge n (seen_under sight offsets (tile.x + x) (tile.y + (y + r)))

-- What rows that are read where they stand take: the tile has the place's columns, and at either edge a vector has all columns from
-- which other rows would be seen.
pub record HasLinesFor {A : Type 0} (lanes : ℕ) (w : View A) (k : Work) : Type 0 where
  pub all : k.lines ≤ w.place.height
  pub left : k.laid.tile.x ≡ w.place.x
  pub right : k.laid.tile.width ≡ w.place.width
  pub split : IsSplit lanes k.inner
  pub wide : k.inner.wide ≡ w.place.width
  pub width : k.inner.width ≡ k.laid.tile.width
  pub places : AllByRecursion (λ p. p ≤ 2 * k.laid.around.down * k.inner.wide + 2 * k.laid.around.across) k.inner.all.now
  pub narrow : k.narrow ≡ 4 * lanes
  pub edges : AllByRecursion (λ p. p ≤ 2 * k.laid.around.down * k.narrow + 2 * k.laid.around.across) k.edges.now
  pub across : k.laid.around.across ≤ lanes
  pub room : 4 * lanes ≤ k.laid.tile.width

-- what is laid out, and places of two rows of results in it, which lie within it
pub record IsWorkFor {A : Type 0} (lanes : ℕ) (w : View A) (k : Work) : Type 0 where
  pub laid : IsLaidOut w k.laid
  pub split : IsSplit lanes k.split
  pub wide : k.split.wide ≡ k.laid.wide
  pub width : k.split.width ≡ k.laid.tile.width
  pub places : AllByRecursion (λ p. p ≤ 2 * k.laid.around.down * k.laid.wide + 2 * k.laid.around.across) k.split.all.now
  pub lines : 0 < k.lines → HasLinesFor lanes w k

-- all places are those of the offsets, which lead no further than what is laid out
pub record AreLaid (k : Work) (offsets : List Offset) : Type 0 where
  pub places : k.split.all.now ≡ map (place_among k.laid.around k.laid.wide) offsets
  pub inner : 0 < k.lines → k.inner.all.now ≡ map (place_among k.laid.around k.inner.wide) offsets
  pub edges : 0 < k.lines → k.edges.now ≡ map (place_among k.laid.around k.narrow) offsets
  pub within : AllByRecursion (LeadsWithin k.laid.around.across k.laid.around.down) offsets

-- rows of the tile, no more than are laid out at once
pub record IsStripOf (k : Work) (s : Strip) : Type 0 where
  pub some : 0 < s.high
  pub within : s.y + s.high ≤ k.laid.tile.height
  pub most : s.high ≤ k.laid.most

-- the strip's rows see rows of the place alone that have one more above and below them
pub record StandsInLines (k : Work) (s : Strip) : Type 0 where
  pub some : 0 < k.lines
  pub top : pos 1 ≤ℤ (k.laid.row +ℤ pos s.y)
  pub bottom : (k.laid.row +ℤ pos (s.y + s.high + 2 * k.laid.around.down + 1)) ≤ℤ pos k.lines
