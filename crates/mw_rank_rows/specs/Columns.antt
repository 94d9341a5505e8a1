-- What eight lanes see of a column of samples.
use Rattle.std.specs.Prelude.{ℕ, zero, suc, ◌+◌, ◌*◌, List, nat_lt, cond, slice_index_or}
use Rattle.mw_rank_rows.specs.declared.column.Sheet.{Sheet}

-- the sum of the first n values
abbrev pub total : (ℕ → ℕ) → ℕ → ℕ
total f zero = 0
total f (suc n) = total f n + f n

-- how many samples below v lane j counts of the first n rows of a column: those of rows in which it is marked
abbrev pub column_count : {A : Type 0} → (A → ℕ) → A → List A → ℕ → ℕ → List ℕ → ℕ → ℕ → ℕ → ℕ
column_count level d samples width at marks v j n = total (λ i. slice_index_or marks (i + j) 0 * cond (nat_lt (level (slice_index_or samples (i * width + at) d)) v) 1 0) n

-- how many samples below v lane j counts of a column of the sheet
abbrev pub sheet_count : {A : Type 0} → (A → ℕ) → A → Sheet A → ℕ → ℕ → ℕ → ℕ
sheet_count level d sheet at v j = column_count level d sheet.samples.now sheet.width at sheet.marks.now v j sheet.rows
