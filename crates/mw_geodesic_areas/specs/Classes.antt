-- Classes of places, as they grow: places are taken by falling levels, and in each level from the last to the first.
use Rattle.std.specs.Prelude.{◌≡◌, ℕ, ◌+◌, ◌*◌, ◌<◌, ◌≤◌, ◌⊎◌, ◌==◌, List}
use Rattle.mw_geodesic.specs.Neighbours.{ElementCovers}
use Rattle.mw_geodesic_levels.specs.Levels.{IsPut}
use Rattle.mw_geodesic_areas.specs.Problems.{Problem, AreJoined, IsValue, tally_below}
use Rattle.mw_geodesic_areas.specs.Forests.{AreRoots}
use Rattle.mw_geodesic_areas.specs.Chains.{IsLast}

-- the place has a level over k, or level k and a number from m on
pub record WasTaken (levels : ℕ → ℕ) (k m i : ℕ) : Type 0 where
  pub high : k ≤ levels i
  pub after : levels i ≡ k → m ≤ i

-- two places have one root, or both of their roots have a value
abbrev pub SettledAlike : (ℕ → ℕ) → (ℕ → ℕ) → ℕ → ℕ → Type 0
SettledAlike out c i j = (c i ≡ c j) ⊎ ((1 ≤ out (c i)) × (1 ≤ out (c j)))

-- The places from m on of level k, and all above, are taken, and neighbours from s on are alike. A class is joined at level k. The root of a class has its size, which is too small; or it has a value other than 0, and that is the value of all of its places. What isn't taken is alone, and has its link.
pub record Stands (a : Problem) (k m s : ℕ) (c size out : ℕ → ℕ) : Type 0 where
  pub low : (i : ℕ) → i < a.height * a.width → c i ≤ i
  pub own : (i : ℕ) → i < a.height * a.width → c (c i) ≡ c i
  pub alone : (i : ℕ) → i < a.height * a.width → (WasTaken a.levels k m i → ⊥) → c i ≡ i
  pub apart : (i j : ℕ) → i < a.height * a.width → j < a.height * a.width → (WasTaken a.levels k m i → ⊥) → c j ≡ i → j ≡ i
  pub blank : (i : ℕ) → i < a.height * a.width → (WasTaken a.levels k m i → ⊥) → out i ≡ 0
  pub chain : (i : ℕ) → i < a.height * a.width → (WasTaken a.levels k m i → ⊥) → IsLast a.levels (a.levels i) i (size i)
  pub joined : (i j : ℕ) → i < a.height * a.width → j < a.height * a.width → WasTaken a.levels k m i → c i ≡ c j → AreJoined a k i j
  pub counted : (i : ℕ) → i < a.height * a.width → WasTaken a.levels k m i → out (c i) ≡ 0 → size (c i) ≡ tally_below (λ j. c j == c i) (a.height * a.width)
  pub small : (i : ℕ) → i < a.height * a.width → WasTaken a.levels k m i → out (c i) ≡ 0 → size (c i) < a.least
  pub valued : (i : ℕ) → i < a.height * a.width → WasTaken a.levels k m i → 1 ≤ out (c i) → IsValue a (out (c i)) i
  pub over : (i : ℕ) → i < a.height * a.width → WasTaken a.levels k m i → 1 ≤ out (c i) → k ≤ out (c i)
  pub closed : (x y u v : ℕ) → x < a.width → y < a.height → u < a.width → v < a.height → ElementCovers a.around x y u v
      → WasTaken a.levels k s (y * a.width + x) → WasTaken a.levels k s (v * a.width + u) → SettledAlike out c (y * a.width + x) (v * a.width + u)

-- a root gets a value, unless it has one
pub record HasItsLevel (v r : ℕ) (f g : ℕ → ℕ) : Type 0 where
  pub fresh : f r ≡ 0 → IsPut v r f g
  pub old : 1 ≤ f r → g ≡ f

-- a place of its own has the size 1, or a value where that is large
pub record IsBegun (least v p : ℕ) (size out size' out' : ℕ → ℕ) : Type 0 where
  pub sized : IsPut 1 p size size'
  pub large : least ≤ 1 → IsPut v p out out'
  pub small : 1 < least → out' ≡ out

-- one of two roots has a value, or their sizes together are large
pub data IsLargeBy (least r s : ℕ) (size out : ℕ → ℕ) : Type 0 where
  first : 1 ≤ out r → IsLargeBy least r s size out
  second : 1 ≤ out s → IsLargeBy least r s size out
  together : out r ≡ 0 → out s ≡ 0 → least ≤ size r + size s → IsLargeBy least r s size out

-- neither has a value, and they are small together
pub record IsSmallBy (least r s : ℕ) (size out : ℕ → ℕ) : Type 0 where
  pub first : out r ≡ 0
  pub second : out s ≡ 0
  pub small : size r + size s < least

-- Classes that are alike are so in the new state, and p and q are, where this is needed.
pub record HasMet (a : Problem) (k m s : ℕ) (Needed : Type 0) (p q : ℕ) (c out : ℕ → ℕ) (parent : List ℕ) (size' out' : ℕ → ℕ) : Type 0 where
  pub roots : ℕ → ℕ
  pub are : AreRoots parent roots
  pub stands : Stands a k m s roots size' out'
  pub keeps : (i j : ℕ) → i < a.height * a.width → j < a.height * a.width → SettledAlike out c i j → SettledAlike out' roots i j
  pub here : Needed → SettledAlike out' roots p q

-- the same of place p, in column x of row y, and all of row v that are near it
pub record HasMetRow (a : Problem) (k m s p x y v : ℕ) (c out : ℕ → ℕ) (parent : List ℕ) (size' out' : ℕ → ℕ) : Type 0 where
  pub roots : ℕ → ℕ
  pub are : AreRoots parent roots
  pub stands : Stands a k m s roots size' out'
  pub keeps : (i j : ℕ) → i < a.height * a.width → j < a.height * a.width → SettledAlike out c i j → SettledAlike out' roots i j
  pub here : (u : ℕ) → u < a.width → ElementCovers a.around x y u v → WasTaken a.levels k m (v * a.width + u) → SettledAlike out' roots p (v * a.width + u)

-- there are roots by which it stands
pub record Standing (a : Problem) (k m : ℕ) (parent : List ℕ) (size out : ℕ → ℕ) : Type 0 where
  pub roots : ℕ → ℕ
  pub are : AreRoots parent roots
  pub stands : Stands a k m m roots size out

-- What becomes of a state in which p was just taken: where p and q are to meet, they do.
abbrev pub Meets : Problem → ℕ → ℕ → Type 0 → List ℕ → (ℕ → ℕ) → (ℕ → ℕ) → List ℕ → (ℕ → ℕ) → (ℕ → ℕ) → Type 0
Meets a p q Needed parent size out parent' size' out' =
    (c : ℕ → ℕ) → AreRoots parent c → 1 ≤ a.levels p → Stands a (a.levels p) p (p + 1) c size out
    → (Needed → WasTaken a.levels (a.levels p) p q) → (Needed → AreJoined a (a.levels p) p q)
    → HasMet a (a.levels p) p (p + 1) Needed p q c out parent' size' out'

-- place p, in column x of row y, meets all of row v that are near it
abbrev pub MeetsRow : Problem → ℕ → ℕ → ℕ → ℕ → List ℕ → (ℕ → ℕ) → (ℕ → ℕ) → List ℕ → (ℕ → ℕ) → (ℕ → ℕ) → Type 0
MeetsRow a p x y v parent size out parent' size' out' =
    (c : ℕ → ℕ) → AreRoots parent c → 1 ≤ a.levels p → Stands a (a.levels p) p (p + 1) c size out
    → HasMetRow a (a.levels p) p (p + 1) p x y v c out parent' size' out'

-- it meets all that are near it
abbrev pub MeetsAll : Problem → ℕ → List ℕ → (ℕ → ℕ) → (ℕ → ℕ) → List ℕ → (ℕ → ℕ) → (ℕ → ℕ) → Type 0
MeetsAll a p parent size out parent' size' out' =
    (c : ℕ → ℕ) → AreRoots parent c → 1 ≤ a.levels p → Stands a (a.levels p) p (p + 1) c size out
    → Standing a (a.levels p) p parent' size' out'

-- place p was taken, and next comes the last of its level before it
pub record HasTaken (a : Problem) (p next : ℕ) (parent : List ℕ) (size out : ℕ → ℕ) : Type 0 where
  pub before : next ≤ p
  pub there : (j : ℕ) → j + 1 ≡ next → a.levels j ≡ a.levels p
  pub standing : Standing a (a.levels p) next parent size out
