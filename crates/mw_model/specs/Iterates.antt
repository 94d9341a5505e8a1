-- Operators done again and again: skeletons (Lantuejoul) and granulometry by openings (Matheron).
use Rattle.std.specs.Prelude.{ℕ, zero, suc, ◌+◌, ◌&&◌, not, ◌==◌, Bool, List, map, flat_map, sum, max, if◌then◌else◌, pos, ◌-ℤ◌}
use Rattle.std.specs.List.{range_with_len}
use Rattle.mw_model.specs.declared.shapes.Kind.TheVariants.{Bit, Grey}
use Rattle.mw_model.specs.declared.offsets.Offset.{Offset}
use Rattle.mw_model.specs.Pictures.{Picture, sample, drawn, redrawn}
use Rattle.mw_model.specs.Flat.{erosion, dilation, reflected, opening}

-- the operator done n times
abbrev pub times : ℕ → (Picture → Picture) → Picture → Picture
times zero operator f = f
times (suc n) operator f = operator (times n operator f)

-- the full rectangle that reaches so far from its origin, by rows
abbrev pub rectangle : ℕ → ℕ → ℕ → ℕ → List Offset
rectangle left right up down =
    flat_map (λ y. map (λ x. record { dx = pos x -ℤ pos left; dy = pos y -ℤ pos up }) (range_with_len 0 (left + right + 1))) (range_with_len 0 (up + down + 1))

-- the place is in the set, and not in its opening
abbrev pub is_residue : List Offset → Picture → ℕ → ℕ → Bool
is_residue element f x y = sample f x y == 1 && not (sample (opening element f) x y == 1)

-- n + 1 at a place of the residue of the n-fold erosion, for an n below the depth, else 0 (own)
abbrev pub residue_mark : List Offset → Picture → ℕ → ℕ → ℕ → ℕ
residue_mark element f zero x y = 0
residue_mark element f (suc n) x y =
    if is_residue element (times n (erosion element) f) x y then n + 1 else residue_mark element f n x y

-- the residues of the erosions below the depth, and what the last erosion leaves, as their marks (own)
abbrev pub skeleton : List Offset → ℕ → Picture → Picture
skeleton element depth f =
    drawn Grey f.width f.height (depth + 1) (λ x y. if sample (times depth (erosion element) f) x y == 1 then depth + 1 else residue_mark element f depth x y)

-- the set of the places with this sample
abbrev pub level_set : ℕ → Picture → Picture
level_set n g = drawn Bit g.width g.height 1 (λ x y. if sample g x y == n then 1 else 0)

-- the greater of the two samples at each place; of sets, their union
abbrev pub union : Picture → Picture → Picture
union f g = redrawn f (λ x y. max (sample f x y) (sample g x y))

-- the union, for n up to the depth, of the n-fold dilation of the places marked n + 1 (own)
abbrev pub restoration : List Offset → ℕ → Picture → Picture
restoration element zero g = level_set 1 g
restoration element (suc n) g =
    union (restoration element n g) (times (suc n) (dilation (reflected element)) (level_set (n + 2) g))

-- the sum of all samples after n erosions and then n dilations by the reflected element
abbrev pub volume : List Offset → ℕ → Picture → ℕ
volume element n f = sum (times n (dilation (reflected element)) (times n (erosion element) f)).samples

-- the volumes from 0 to the depth
abbrev pub spectrum : List Offset → ℕ → Picture → List ℕ
spectrum element depth f = map (λ n. volume element n f) (range_with_len 0 (depth + 1))
