-- A window has what its tile's offsets lead to.
use Rattle.std.proofs.Common.{◌≡◌, ℕ, ◌+◌, ◌-◌, ◌<◌, ◌≤◌, ℤ, pos, ◌+ℤ◌, ◌≤ℤ◌, min, List, [], ◌∷◌, arith}
use Rattle.std.proofs.lemmas.Int.{ints}
use Rattle.std.specs.List.{AllByRecursion}
use Rattle.mw_model.specs.declared.offsets.Offset.{Offset}
use Rattle.mw_model.specs.declared.offsets.Rect.{Rect}
use Rattle.mw_model.specs.declared.offsets.Reach.{Reach}
use Rattle.mw_model.specs.Rectangles.{grown, IsWithin, Leads, WithinReach}
use Rattle.mw_grid.specs.Rectangles.{Reaches, ReachesAll}

-- along one line
column-reached : (n a w left right i x : ℕ) (d : ℤ) → pos 0 ≤ℤ (d +ℤ pos left) → d ≤ℤ pos right → i < w → pos (a + i) +ℤ d ≡ pos x → x < n
    → (a - left ≤ x) × (x < a - left + (min (a + w + right) n - (a - left)))
column-reached n a w left right i x d low high lt e inside =
    let from : a ≤ x + left = omega (arith, ints) in
    let to : x ≤ a + i + right = omega (arith, ints) in
    (omega arith, omega arith)

reaches_one : (width height : ℕ) (reach : Reach) (tile : Rect) (x y : ℕ) (b : Offset) → Leads reach b → x < tile.width → y < tile.height
    → Reaches (grown width height reach tile) width height (pos (tile.x + x) +ℤ b.dx) (pos (tile.y + y) +ℤ b.dy)
reaches_one width height reach tile x y b leads across down = λ p q e f p-lt q-lt.
    let h = column-reached width tile.x tile.width reach.left reach.right x p b.dx leads.left leads.right across e p-lt in
    let v = column-reached height tile.y tile.height reach.up reach.down y q b.dy leads.up leads.down down f q-lt in
    record { left = h.0; right = h.1; top = v.0; bottom = v.1 }

reaches_each : (width height : ℕ) (reach : Reach) (tile : Rect) (x y : ℕ) (offsets : List Offset) → WithinReach reach offsets → x < tile.width → y < tile.height
    → AllByRecursion (λ (b : Offset). Reaches (grown width height reach tile) width height (pos (tile.x + x) +ℤ b.dx) (pos (tile.y + y) +ℤ b.dy)) offsets
reaches_each width height reach tile x y [] within across down = tt
reaches_each width height reach tile x y (b ∷ bs) within across down = (reaches_one width height reach tile x y b within.0 across down, reaches_each width height reach tile x y bs within.1 across down)

pub reaches_all : (width height : ℕ) (reach : Reach) (tile : Rect) (offsets : List Offset) → WithinReach reach offsets → ReachesAll (grown width height reach tile) width height offsets tile
reaches_all width height reach tile offsets within = λ x y across down. reaches_each width height reach tile x y offsets within across down

pub stays_within : (width height : ℕ) (reach : Reach) (tile : Rect) → tile.x ≤ width → tile.y ≤ height → IsWithin (grown width height reach tile) width height
stays_within width height reach tile across down = record { across = omega arith; down = omega arith }
