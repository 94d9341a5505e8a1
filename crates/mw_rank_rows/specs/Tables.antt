-- What eight lanes hold, and the columns that enter and leave.
use Rattle.std.specs.Prelude.{◌≡◌, ℕ, pos, ◌+ℤ◌, ◌-ℤ◌, ◌+◌, ◌-◌, ◌*◌, ◌<◌, ◌≤◌, List, length, min, slice_index_or}
use Rattle.mw_rank_counts.specs.Counting.{AllUnder}
use Rattle.mw_rank_rows.specs.declared.lanes.Lanes.{Lanes}
use Rattle.mw_rank_rows.specs.declared.slide.Strip.{Strip}
use Rattle.mw_rank_rows.specs.declared.slide.Span.{Span}
use Rattle.mw_rank_rows.specs.Columns.{total, column_count}
use Rattle.mw_rank_rows.specs.Lanes.{Counts, IsFound}

-- of so many levels, lane j has u v j samples below v
pub record LanesHold (levels : ℕ) (u : ℕ → ℕ → ℕ) (counts : List ℕ) (l : Lanes) : Type 0 where
  pub table : Counts levels u counts l.front.level l.front.below
  pub lanes : length l.held ≡ 8
  pub held : (j : ℕ) → j < 8 → slice_index_or l.held j 0 ≡ u levels j

-- the strip shows each column that is dx from a place: below v, lane j counts `column v x j` samples of the one at x
pub record ShowsColumns {A : Type 0} (level : A → ℕ) (d : A) (levels : ℕ) (column : ℕ → ℕ → ℕ → ℕ) (s : Strip A) (all : List ℕ) : Type 0 where
  pub inside : (i at : ℕ) → i < s.sheet.rows → at < s.sheet.width → i * s.sheet.width + at < length s.sheet.samples.now
  pub marked : s.sheet.rows + 7 ≤ length s.sheet.marks.now
  pub under : AllUnder level d s.sheet.samples.now levels
  pub lanes : length all ≡ 8
  pub every : (j : ℕ) → j < 8 → slice_index_or all j 0 ≡ total (λ i. slice_index_or s.sheet.marks.now (i + j) 0) s.sheet.rows
  pub seen : (x at v j : ℕ) → j < 8 → at < s.sheet.width → pos x +ℤ s.dx -ℤ pos s.first ≡ pos at → column v x j ≡ column_count level d s.sheet.samples.now s.sheet.width at s.sheet.marks.now v j s.sheet.rows
  pub unseen : (x v j : ℕ) → j < 8 → ((at : ℕ) → at < s.sheet.width → pos x +ℤ s.dx -ℤ pos s.first ≡ pos at → ⊥) → column v x j ≡ 0

-- `seen v x c j` samples below v are seen in c columns from x on: it grows by the column that enters, and loses the one that leaves
pub record ColumnsSlide (columns : ℕ) (column : ℕ → ℕ → ℕ → ℕ) (seen : ℕ → ℕ → ℕ → ℕ → ℕ) : Type 0 where
  pub none : (v x j : ℕ) → seen v x 0 j ≡ 0
  pub enters : (v x c j : ℕ) → seen v x (c + 1) j ≡ seen v x c j + column v (x + c) j
  pub leaves : (v x c j : ℕ) → seen v x (c + 1) j ≡ column v x j + seen v (x + 1) c j
  pub rises : (v x c j : ℕ) → seen v x c j ≤ seen (v + 1) x c j
  pub few : (v x c j : ℕ) → c ≤ columns → seen v x c j < 65536

-- the first n columns of eight rows have the levels that were found for a rank
abbrev pub HasFound : {A : Type 0} → (A → ℕ) → ℕ → (ℕ → ℕ → ℕ → ℕ → ℕ) → ℕ → ℕ → ℕ → ℕ → ℕ → List A → Type 0
HasFound {A} level levels seen columns k x width n made = (r q : ℕ) (e : A) → r < 8 → q < n
    → IsFound levels (λ v j. seen v (x + q) columns j) (min k (seen levels (x + q) columns (7 - r))) (7 - r) (level (slice_index_or made (r * width + q) e))

-- the first column of the element, placed at column x of the frame, lies in that column of the sheet
abbrev pub LiesAt : {A : Type 0} → Strip A → ℕ → ℕ → Type 0
LiesAt s x at = pos x +ℤ s.dx -ℤ pos s.first ≡ pos at

-- a part of what is seen: how many samples below v lane j counts of it
abbrev pub SeenPart : Type 0
SeenPart = (ℕ → ℕ → ℕ → ℕ → ℕ) → ℕ → ℕ → ℕ

-- what is seen in c columns from x on
abbrev pub seen_over : ℕ → ℕ → SeenPart
seen_over x c = λ seen v j. seen v x c j

-- the strip shows columns over which an element of so many slides, and the lanes hold that part of what is seen
abbrev pub SomeSlide : {A : Type 0} → (A → ℕ) → A → Strip A → List ℕ → ℕ → SeenPart → List ℕ → Lanes → Type 0
SomeSlide level d s all columns part counts l = (levels : ℕ) × (column : ℕ → ℕ → ℕ → ℕ) × (seen : ℕ → ℕ → ℕ → ℕ → ℕ) × ShowsColumns level d levels column s all × ColumnsSlide columns column seen × LanesHold levels (part seen) counts l

-- the same, with no more levels than there are up to the greatest
abbrev pub SomeLowSlide : {A : Type 0} → (A → ℕ) → A → ℕ → Strip A → List ℕ → ℕ → SeenPart → List ℕ → Lanes → Type 0
SomeLowSlide level d top s all columns part counts l = (levels : ℕ) × (column : ℕ → ℕ → ℕ → ℕ) × (seen : ℕ → ℕ → ℕ → ℕ → ℕ) × ShowsColumns level d levels column s all × ColumnsSlide columns column seen × LanesHold levels (part seen) counts l × (levels ≤ top + 1)

-- whatever columns the strip shows, and whatever is seen of them, this is so if the lanes hold that part of it
abbrev pub EachSlide : {A : Type 0} → (A → ℕ) → A → Strip A → List ℕ → ℕ → SeenPart → List ℕ → Lanes → (ℕ → (ℕ → ℕ → ℕ → ℕ → ℕ) → Type 0) → Type 0
EachSlide level d s all columns part counts l so = (levels : ℕ) (column : ℕ → ℕ → ℕ → ℕ) (seen : ℕ → ℕ → ℕ → ℕ → ℕ) → ShowsColumns level d levels column s all → ColumnsSlide columns column seen → LanesHold levels (part seen) counts l → so levels seen

-- lanes that held the first part of what is seen hold the second now
abbrev pub LanesMove : {A : Type 0} → (A → ℕ) → A → Strip A → List ℕ → ℕ → SeenPart → List ℕ → Lanes → SeenPart → List ℕ → Lanes → Type 0
LanesMove level d s all columns part counts l other next m = EachSlide level d s all columns part counts l (λ levels seen. LanesHold levels (other seen) next m)

-- where the lanes held that part of what is seen, the first n columns of the span have the levels that were found for its rank
abbrev pub LanesFind : {A : Type 0} → (A → ℕ) → A → Strip A → List ℕ → Span → SeenPart → List ℕ → Lanes → ℕ → List A → Type 0
LanesFind level d s all span part counts l n made = EachSlide level d s all span.columns part counts l (λ levels seen. HasFound level levels seen span.columns span.k span.x span.width n made)
