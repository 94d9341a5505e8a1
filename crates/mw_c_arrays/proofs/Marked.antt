-- Bytes that are pixels where they are not 0.
use Rattle.std.proofs.Common.{◌≡◌, ℕ, ◌+◌, ◌-◌, min, List, length, get_or, take, drop, ap, sym, arith, ◌∙◌, inl, inr, length-take, length-drop}
use Rattle.std.specs.Prelude.{nat_le, if◌then◌else◌, slice_range}
use Rattle.std.proofs.lemmas.Bool.{cases_lt}
use Rattle.std.proofs.lemmas.List.{length-map, take-map, drop-map, get_or-map, get_or-take, get_or-drop, get_or_past}
use Rattle.mw_c_arrays.specs.Arrays.{pixels_in_bytes}

-- 1 for a byte that is not 0
abbrev pub one_of : ℕ → ℕ
one_of s = if nat_le 1 s then 1 else 0

pub pixel_is : (bytes : List ℕ) (i : ℕ) → get_or (pixels_in_bytes bytes) i 0 ≡ one_of (get_or bytes i 0)
pixel_is bytes i =
    elim (cases_lt i (length bytes)) [
      | inl inside ↦ get_or-map one_of bytes i 0 0 inside
      | inr past ↦ get_or_past (pixels_in_bytes bytes) i 0 (omega (arith, past, length-map bytes one_of)) ∙ ap one_of (sym (get_or_past bytes i 0 past))
    ]

-- a byte behind a place
pub byte_behind : (bytes : List ℕ) (from at m i : ℕ) → at ≡ min from (length bytes) → m ≡ length bytes - at → get_or (take m (drop at bytes)) i 0 ≡ get_or bytes (from + i) 0
byte_behind bytes from at m i at-is m-is =
    elim (cases_lt (from + i) (length bytes)) [
      | inl inside ↦
          let here : at ≡ from = omega arith in
          get_or-take m (drop at bytes) i 0 (omega arith) ∙ get_or-drop at bytes i 0 ∙ ap (λ (t : ℕ). get_or bytes (t + i) 0) here
      | inr past ↦ get_or_past (take m (drop at bytes)) i 0 (omega (arith, length-take m (drop at bytes), length-drop at bytes)) ∙ sym (get_or_past bytes (from + i) 0 past)
    ]

-- a pixel behind a place
pub pixel_behind : (bytes : List ℕ) (from at m i : ℕ) → at ≡ min from (length bytes) → m ≡ length bytes - at → get_or (pixels_in_bytes (take m (drop at bytes))) i 0 ≡ get_or (pixels_in_bytes bytes) (from + i) 0
pixel_behind bytes from at m i at-is m-is =
    pixel_is (take m (drop at bytes)) i ∙ ap one_of (byte_behind bytes from at m i at-is m-is) ∙ sym (pixel_is bytes (from + i))

-- the pixels of a part
pub pixels_range : (bytes : List ℕ) (a n : ℕ) → pixels_in_bytes (slice_range bytes a (a + n)) ≡ slice_range (pixels_in_bytes bytes) a (a + n)
pixels_range bytes a n = sym (ap (take (a + n - a)) (drop-map one_of a bytes) ∙ take-map one_of (a + n - a) (drop a bytes))
