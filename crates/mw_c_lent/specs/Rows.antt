-- Some rows of images.
use Rattle.std.specs.Prelude.{◌≡◌, ℕ, ◌+◌, ◌*◌, ◌<◌, ◌≤◌, List, take, drop, slice_index, slice_index_or}
use Rattle.mw_model.specs.declared.offsets.Rect.{Rect}
use Rattle.mw_model.specs.Pictures.{Picture}

-- so many samples of the image, from row `first` on
abbrev pub rows_from : ℕ → ℕ → Picture → List ℕ
rows_from first room f = take room (drop (first * f.width) f.samples)

-- ---- strips, and where rows end (own)

-- the rectangle has whole rows of the image, and one at least
pub record IsStrip (r : Rect) (f : Picture) : Type 0 where
  pub left : r.x ≡ 0
  pub wide : r.width ≡ f.width
  pub some : 1 ≤ r.height
  pub low : r.y + r.height ≤ f.height

-- so many samples from row `first` on are the rows before `end`
pub record EndAt (first end room : ℕ) (f : Picture) : Type 0 where
  pub some : first < end
  pub within : end ≤ f.height
  pub samples : end * f.width ≡ first * f.width + room

-- the cells begin with the samples of the image from number `base` on, up to number n
abbrev pub HasCells : {A : Type 0} → (A → ℕ) → Picture → ℕ → ℕ → List A → Type 0
HasCells {A} level f base n cells = (i : ℕ) (d : A) → base + i < n → level (slice_index_or cells i d) ≡ slice_index f.samples (base + i)

-- the cells begin with the rows of the image from row `first` on, up to row n
abbrev pub HasImageRows : {A : Type 0} → (A → ℕ) → Picture → ℕ → ℕ → List A → Type 0
HasImageRows level f first n cells = HasCells level f (first * f.width) (n * f.width) cells
