-- The cells of planes, one plane after another.
use Rattle.std.proofs.Common.{◌≡◌, ℕ, zero, suc, ◌+◌, ◌*◌, ◌/◌, ◌%◌, ◌<◌, List, [], ◌∷◌, ◌++◌, length, get_or, None, sym, ap, ◌∙◌, arith}
use Rattle.std.specs.List.{AllByRecursion}
use Rattle.std.proofs.lemmas.List.{length-append, get_or_append_left, get_or-append-add}
use Rattle.std.proofs.lemmas.Nat.{div-add-mod', mod_below}
use Rattle.mw_grid.proofs.Lines.{row_less}
use Rattle.mw_core_planes.specs.mw_tile_planes.Tiles.{Tiled}
use Rattle.mw_core_progress.specs.ProgressView.{cells_of_planes}

-- the plane has so many tiles
abbrev pub HasCount : ℕ → Tiled → Type 0
HasCount m p = length p.tiles ≡ m

pub all_counted : (planes : List Tiled) (m : ℕ) (d : Tiled) → ((k : ℕ) → length (get_or planes k d).tiles ≡ m) → AllByRecursion (HasCount m) planes
all_counted [] m d each = tt
all_counted (p ∷ ps) m d each = (each 0, all_counted ps m d (λ k. each (suc k)))

pub length-cells : (planes : List Tiled) (m : ℕ) → AllByRecursion (HasCount m) planes → length (cells_of_planes planes) ≡ length planes * m
length-cells [] m all = none m
  where
    none : (m : ℕ) → 0 ≡ 0 * m
    none m = omega arith
length-cells (p ∷ ps) m all = length-append p.tiles (cells_of_planes ps) ∙ more (length p.tiles) (length (cells_of_planes ps)) (length ps) m all.0 (length-cells ps m all.1)
  where
    more : (a b k m : ℕ) → a ≡ m → b ≡ k * m → a + b ≡ suc k * m
    more a b k m ea eb = omega arith

-- the cells of a tile of a step
pub cells_at : (planes : List Tiled) (m k v : ℕ) (d : Tiled) → AllByRecursion (HasCount m) planes → k < length planes → v < m → get_or (cells_of_planes planes) (k * m + v) None ≡ get_or (get_or planes k d).tiles v None
cells_at [] m k v d all lt v-lt = absurd (omega arith)
cells_at (p ∷ ps) m zero v d all lt v-lt =
    ap (λ (i : ℕ). get_or (p.tiles ++ cells_of_planes ps) i None) (first m v)
    ∙ get_or_append_left p.tiles (cells_of_planes ps) None v (let e : length p.tiles ≡ m = all.0 in omega arith)
  where
    first : (m v : ℕ) → 0 * m + v ≡ v
    first m v = omega arith
cells_at (p ∷ ps) m (suc k) v d all lt v-lt =
    ap (λ (i : ℕ). get_or (p.tiles ++ cells_of_planes ps) i None) (next m k v (length p.tiles) all.0)
    ∙ get_or-append-add p.tiles (cells_of_planes ps) (k * m + v) None
    ∙ cells_at ps m k v d all.1 (omega arith) v-lt
  where
    next : (m k v l : ℕ) → l ≡ m → suc k * m + v ≡ l + (k * m + v)
    next m k v l e = omega arith

-- the cells of a task
pub cells_of_task : (planes : List Tiled) (m n : ℕ) (d : Tiled) → AllByRecursion (HasCount m) planes → 0 < m → n < length planes * m → get_or (cells_of_planes planes) n None ≡ get_or (get_or planes (n / m) d).tiles (n % m) None
cells_of_task planes m n d all some lt =
    ap (λ (i : ℕ). get_or (cells_of_planes planes) i None) (sym (div-add-mod' n m))
    ∙ cells_at planes m (n / m) (n % m) d all (row_less (length planes) m n some lt) (mod_below n m some)
