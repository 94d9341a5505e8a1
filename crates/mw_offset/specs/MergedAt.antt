-- Places of a row of samples, laid out around a tile, at which runs are looked up.
use Rattle.std.specs.Prelude.{◌⊎◌, ℕ, ◌+◌, ◌-◌, ◌*◌, ◌≤◌, ◌-ℤ◌, ◌&&◌, nat_le, nat_lt, if◌then◌else◌, slice_index_or, List, [], ◌∷◌}
use Rattle.mw_element_runs.specs.declared.runs.Run.{Run}
use Rattle.mw_element_runs.specs.declared.runs.Extent.{Extent}
use Rattle.mw_model.specs.Rectangles.{nonnegative}
use Rattle.mw_line.specs.Extrema.{strided}
use Rattle.mw_element_runs.specs.Runs.{start_of}

-- a sample merged with the one that stands q places after p
abbrev pub merge_from : {A : Type 0} → (A → A → A) → List A → A → ℕ → A → ℕ → A
merge_from merge cells d q best p = merge best (slice_index_or cells (p + q) d)

-- the extremum of the samples of a run, looked up from place q of rows of `wide` cells that are laid out for an extent
abbrev pub run_extremum : {A : Type 0} → (A → A → A) → List A → A → Extent → ℕ → ℕ → Run → A
run_extremum merge cells d e wide q r = strided merge cells d 1 (r.count - 1) (start_of e wide r + q)

-- where the parts of `size` offsets begin that make up a run, if it has `size` offsets or more, and less than `next`
abbrev pub places_of : Extent → ℕ → ℕ → ℕ → Run → List ℕ
places_of e wide size next r =
    if nat_le size r.count && nat_lt r.count next then start_of e wide r ∷ (if nat_lt size r.count then (start_of e wide r + (r.count - size)) ∷ [] else []) else []

-- a step that is taken at the runs of `size` offsets and more, and less than `next`
abbrev pub sized_below : {A : Type 0} → ℕ → ℕ → (A → Run → A) → A → Run → A
sized_below size next step best r = if nat_le size r.count && nat_lt r.count next then step best r else best

-- few enough rows of a tile to be merged at one time: they have at most 131,072 samples, or there are at most 32 of them, or at
-- most as many as the element has after its first
abbrev pub IsMergedAtOnce : Extent → ℕ → ℕ → Type 0
IsMergedAtOnce e width height = (height * width ≤ 131072) ⊎ ((height ≤ 32) ⊎ (height ≤ nonnegative (e.bottom -ℤ e.top)))
