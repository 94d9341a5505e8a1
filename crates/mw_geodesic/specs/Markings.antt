-- How labels are given: a place at a time, the components in the order of their first places.
use Rattle.std.specs.Prelude.{◌≡◌, ◌≢◌, ℕ, ◌+◌, ◌*◌, ◌≤◌, List, [], ◌∷◌, ◌++◌, length, slice_set}
use Rattle.mw_model.specs.declared.offsets.Offset.{Offset}
use Rattle.mw_model.specs.Pictures.{Picture, sample}
use Rattle.mw_geodesic.specs.declared.neighbours.Place.{Place}
use Rattle.mw_geodesic.specs.Neighbours.{IsPlace, Joins}
use Rattle.mw_geodesic.specs.Floods.{IsBehind}
use Rattle.mw_geodesic.specs.Paths.{AreConnected}
use Rattle.mw_geodesic.specs.Labels.{label_at}

-- What a place marks by an offset: nothing, where the one behind it is not in the set or has a label; or that takes its label, and waits.
pub data Marked (f : Picture) (b : Offset) (q : Place) (n : ℕ) (labels : List ℕ) (queue : List Place) : List ℕ → List Place → Type 0 where
  passed : ((x y : ℕ) → IsPlace f x y → Joins b x y q.x q.y → sample f x y ≡ 1 → label_at f labels x y ≢ 0) → Marked f b q n labels queue labels queue
  marked : (p : Place) → IsBehind f.width f.height b q.x q.y p → sample f p.x p.y ≡ 1 → label_at f labels p.x p.y ≡ 0
      → Marked f b q n labels queue (slice_set labels (p.y * f.width + p.x) n) (queue ++ p ∷ [])

-- what is labelled is in the set, with labels up to the count; one label is one component, and a component is labelled whole or not at all
pub record PartlyLabelled (e : List Offset) (f : Picture) (count : ℕ) (labels : List ℕ) : Type 0 where
  pub size : length labels ≡ f.height * f.width
  pub in_set : (x y : ℕ) → IsPlace f x y → label_at f labels x y ≢ 0 → sample f x y ≡ 1
  pub bounded : (x y : ℕ) → IsPlace f x y → label_at f labels x y ≤ count
  pub sound : (x y u v : ℕ) → IsPlace f x y → IsPlace f u v → label_at f labels x y ≢ 0 → label_at f labels x y ≡ label_at f labels u v → AreConnected e f x y u v
  pub whole : (x y u v : ℕ) → IsPlace f x y → IsPlace f u v → label_at f labels x y ≢ 0 → AreConnected e f x y u v → label_at f labels x y ≡ label_at f labels u v

-- A place was visited: it is not in the set or has a label, or its component has the next one.
pub data Visited (e : List Offset) (f : Picture) (x y count : ℕ) (labels : List ℕ) : ℕ → List ℕ → Type 0 where
  passed_by : (sample f x y ≡ 1 → label_at f labels x y ≢ 0) → Visited e f x y count labels count labels
  named : (labels' : List ℕ) → sample f x y ≡ 1 → label_at f labels x y ≡ 0 → PartlyLabelled e f (count + 1) labels'
      → ((u v : ℕ) → IsPlace f u v → label_at f labels u v ≢ 0 → label_at f labels' u v ≡ label_at f labels u v) → label_at f labels' x y ≡ count + 1
      → Visited e f x y count labels (count + 1) labels'
