-- Windows on a line of samples.
use Rattle.std.specs.Prelude.{ℕ, ◌+◌, ◌*◌, ℤ, pos, ◌+ℤ◌, List, fold, slice_range}
use Rattle.std.specs.Int.{div_ceil, int_max, int_min}
use lib.IntN.{neg_ℤ}
use Rattle.mw_model.specs.declared.offsets.Offset.{Offset}
use Rattle.mw_model.specs.Pictures.{Picture}
use Rattle.mw_model.specs.Rectangles.{nonnegative, span, box_offsets}

-- the samples at the places from first to last, both included, that exist
abbrev pub samples_between : {A : Type 0} → List A → ℤ → ℤ → List A
samples_between samples first last = slice_range samples (nonnegative first) (nonnegative (last +ℤ pos 1))

-- the extremum of the neutral sample and the samples at the places i + a to i + b
abbrev pub line_at : {A : Type 0} → (A → A → A) → A → List A → ℤ → ℤ → ℕ → A
line_at merge neutral samples a b i = fold merge neutral (samples_between samples (pos i +ℤ a) (pos i +ℤ b))

-- the number, or -n below -n, or n above n
abbrev pub cut_to : ℕ → ℤ → ℤ
cut_to n z = int_max (neg_ℤ (pos n)) (int_min (pos n) z)

-- how many places there are from a to b when both are cut to a line of n samples
abbrev pub places_within : ℕ → ℤ → ℤ → ℕ
places_within n a b = span (cut_to n a) (cut_to n b)

-- how many combines n windows of k places take: one for each place of as many blocks of k as hold n places, and two for each window
abbrev pub combines : ℕ → ℕ → ℕ
combines n k = div_ceil n k * k + 2 * n

-- the element of the offsets from (a, 0) to (b, 0)
abbrev pub segment : ℤ → ℤ → List Offset
segment a b = box_offsets (record { x0 = a; x1 = b; y0 = pos 0; y1 = pos 0 })

-- the samples of row y, from the left
abbrev pub row_samples : Picture → ℕ → List ℕ
row_samples f y = slice_range f.samples (y * f.width) (y * f.width + f.width)
