-- Labels of a set, as a relation, after Soille, Morphological Image Analysis, chapter 2.
use Rattle.std.specs.Prelude.{◌≡◌, ◌↔◌, ◌==◌, ℕ, ◌+◌, ◌*◌, ◌<◌, ◌≤◌, List, length, take, count_by, slice_index}
use Rattle.mw_model.specs.declared.offsets.Offset.{Offset}
use Rattle.mw_model.specs.Pictures.{Picture, sample}
use Rattle.mw_model.specs.Flat.{greatest}
use Rattle.mw_geodesic.specs.Neighbours.{IsPlace}
use Rattle.mw_geodesic.specs.Paths.{AreConnected}

-- the label of a place
abbrev pub label_at : Picture → List ℕ → ℕ → ℕ → ℕ
label_at f labels x y = slice_index labels (y * f.width + x)

-- the places that are not in the set have label 0; two places of the set have one label exactly where they are connected; and by rows from the top each label is at most one more than those before it, so components are counted by their first places, from 1 up to the count
pub record IsLabelling (element : List Offset) (f : Picture) (count : ℕ) (labels : List ℕ) : Type 0 where
  pub size : length labels ≡ f.height * f.width
  pub outside : (x y : ℕ) → IsPlace f x y → (label_at f labels x y ≡ 0) ↔ (sample f x y ≡ 0)
  pub one : (x y u v : ℕ) → IsPlace f x y → IsPlace f u v → sample f x y ≡ 1 → (label_at f labels x y ≡ label_at f labels u v) ↔ AreConnected element f x y u v
  pub rises : (i : ℕ) → i < length labels → slice_index labels i ≤ greatest (take i labels) + 1
  pub counted : greatest labels ≡ count

-- the areas are those of the labels from 1 up to the count
pub record AreAreas (labels : List ℕ) (count : ℕ) (areas : List ℕ) : Type 0 where
  pub size : length areas ≡ count
  pub each : (k : ℕ) → k < length areas → slice_index areas k ≡ count_by (λ l. l == k + 1) labels
