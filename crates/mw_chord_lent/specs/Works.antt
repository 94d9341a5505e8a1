-- Blocks of results, and what is needed for them.
use Rattle.std.specs.Prelude.{◌≡◌, ℕ, ◌+◌, ◌*◌, ◌<◌, ◌≤◌, ◌^◌, ◌-ℤ◌, ◌≤ℤ◌, List, length, fold, flat_map}
use Rattle.std.specs.List.{AllByRecursion}
use Rattle.mw_model.specs.declared.offsets.Rect.{Rect}
use Rattle.mw_model.specs.Rasters.{Sight, seen_under}
use Rattle.mw_model.specs.Rectangles.{nonnegative}
use Rattle.mw_offset.specs.mw_element_runs.declared.runs.Run.{Run}
use Rattle.mw_offset.specs.mw_element_runs.declared.runs.Extent.{Extent}
use Rattle.mw_offset.specs.mw_element_runs.Runs.{run_offsets, RunIsInside}
use Rattle.mw_chord_lent.specs.declared.plan.Plan.{Plan}
use Rattle.mw_chord_lent.specs.declared.blocks.Work.{Work}
use Rattle.mw_chord_lent.specs.Placed.{ArePlaced}
use Rattle.mw_chord_lent.specs.Sizes.{AreSizesTo}

-- blocks that a tile has, and lists of chords for each: an element has this extent and runs of at most so many offsets
pub record IsBlockPlan (lanes : ℕ) (tile : Rect) (e : Extent) (longest : ℕ) (p : Plan) : Type 0 where
  pub lanes_fit : 2 * lanes ≤ p.width
  pub across : p.width ≤ tile.width
  pub some : 0 < p.high
  pub down : p.high ≤ tile.height
  pub low : p.high ≤ 1000000
  pub narrow : p.width ≤ 2 ^ 12
  pub left : e.left ≤ℤ e.right
  pub top : e.top ≤ℤ e.bottom
  pub near : nonnegative (e.right -ℤ e.left) ≤ 255
  pub few : nonnegative (e.bottom -ℤ e.top) ≤ 255
  pub wide_is : p.wide ≡ p.width + nonnegative (e.right -ℤ e.left)
  pub cells : (p.high + nonnegative (e.bottom -ℤ e.top)) * p.wide ≤ p.chunks * (32 * lanes)
  pub span_is : p.span ≡ p.chunks * (32 * lanes) + 32 * lanes + longest
  pub small : p.span ≤ 2 ^ 40

-- what is done for a tile: lists of these lengths, and the places of runs in them
pub record IsBlockWork (lanes : ℕ) (runs : List Run) (k : Work) : Type 0 where
  pub longest : ℕ
  pub plan : IsBlockPlan lanes k.tile k.extent longest k.plan
  pub chain : AreSizesTo longest k.sizes.now
  pub short : longest ≤ 256
  pub few : length k.sizes.now ≤ 256
  pub inside : AllByRecursion (RunIsInside k.extent) runs
  pub placed : ArePlaced k.sizes.now k.plan.span k.extent k.plan.wide runs k.places.now
  pub low : k.tile.y + k.tile.height < 2 ^ 32

-- the sample at a place has the extremum of n and what is seen under the runs in this column and row of a tile
abbrev pub IsSeen : {A : Type 0} → (A → A → A) → A → Sight A → List Run → Rect → ℕ → ℕ → A → Type 0
IsSeen merge n sight runs tile x y sample = sample ≡ fold merge n (seen_under sight (flat_map run_offsets runs) (tile.x + x) (tile.y + y))
