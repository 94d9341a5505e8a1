-- The lower envelope of the parabolas of a row: one stands at each column that has a gap which is not far.
use Rattle.std.specs.Prelude.{◌≡◌, ◌⊎◌, ℕ, ◌+◌, ◌*◌, ◌<◌, ◌≤◌}
use Rattle.mw_geodesic.specs.Distances.{apart_squared}
use Rattle.mw_geodesic_distances.specs.declared.columns.TheConstants.{FAR}

-- the height at column x of the parabola that stands at column u on the square of its gap
unfoldable pub height_at : ℕ → ℕ → ℕ → ℕ
height_at x u gap = apart_squared x u + gap * gap

-- the height of the parabola of column u
abbrev pub parabola : (ℕ → ℕ) → ℕ → ℕ → ℕ
parabola gaps x u = height_at x u (gaps u)

-- the height at column x of some parabola of the first n columns
pub record IsOn (gaps : ℕ → ℕ) (n x s : ℕ) : Type 0 where
  pub column : ℕ
  pub within : column < n
  pub finite : gaps column < FAR
  pub is : s ≡ parabola gaps x column

-- the least height at column x of the parabolas of n columns, or the top where that is less
pub record IsNearest (gaps : ℕ → ℕ) (n top x s : ℕ) : Type 0 where
  pub low : s ≤ top
  pub least : (u : ℕ) → u < n → gaps u < FAR → s ≤ parabola gaps x u
  pub reason : (s ≡ top) ⊎ IsOn gaps n x s

-- column x is before the start of part k + 1, if there is one
abbrev pub IsBeforeNext : ℕ → (ℕ → ℕ) → ℕ → ℕ → Type 0
IsBeforeNext count starts k x = (j : ℕ) → k + 1 ≡ j → j < count → x < starts j

-- The envelope of the parabolas before column u, over n columns: parts that follow one another from column 0 on, each with the
-- column whose parabola is the lowest there.
pub record IsEnvelope (gaps : ℕ → ℕ) (n u count : ℕ) (sites starts : ℕ → ℕ) : Type 0 where
  pub few : count ≤ u
  pub site : (k : ℕ) → k < count → sites k < u
  pub finite : (k : ℕ) → k < count → gaps (sites k) < FAR
  pub begin : 0 < count → starts 0 ≡ 0
  pub rising : (k j : ℕ) → k < j → j < count → starts k < starts j
  pub within : (k : ℕ) → k < count → starts k < n
  pub best : (k x i : ℕ) → k < count → starts k ≤ x → x < n → IsBeforeNext count starts k x → i < u → gaps i < FAR → parabola gaps x (sites k) ≤ parabola gaps x i
  pub none : count ≡ 0 → (i : ℕ) → i < u → gaps i < FAR → ⊥

-- the parabola of column u is below all others from part k of the envelope on, and part k - 1 begins before it
pub record IsEnvelopeCut (gaps : ℕ → ℕ) (n u count k : ℕ) (sites starts : ℕ → ℕ) : Type 0 where
  pub few : k ≤ count
  pub beaten : k < count → (x i : ℕ) → starts k ≤ x → x < n → i < u → gaps i < FAR → parabola gaps x u < parabola gaps x i

-- up to a column the first parabola is not over the second, and from there on it is over it
pub record IsMeeting (first second : ℕ → ℕ) (w : ℕ) : Type 0 where
  pub before : (x : ℕ) → x < w → first x ≤ second x
  pub behind : (x : ℕ) → w ≤ x → second x < first x
