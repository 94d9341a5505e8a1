-- Flat operators, after Soille, Morphological Image Analysis. The rules at the edge of the frame are this project's own.
use Rattle.std.specs.Prelude.{ℕ, ◌-◌, ◌&&◌, ◌==◌, List, [], ◌∷◌, length, map, filter_map, pos, ◌+ℤ◌, neg_ℤ, nat_le, min, max, if◌then◌else◌, slice_index}
use Rattle.mw_model.specs.declared.shapes.Kind.TheVariants.{Bit}
use Rattle.mw_model.specs.declared.offsets.Offset.{Offset}
use Rattle.mw_model.specs.Pictures.{Picture, sample, sample_at, drawn, redrawn}

-- the samples under the element placed at column x of row y, within the frame
abbrev pub under : Picture → List Offset → ℕ → ℕ → List ℕ
under f element x y = filter_map (λ (b : Offset). sample_at f (pos x +ℤ b.dx) (pos y +ℤ b.dy)) element

-- the least of the top and the numbers
abbrev pub least : ℕ → List ℕ → ℕ
least top [] = top
least top (n ∷ ns) = min n (least top ns)

-- the greatest of the numbers, or 0 where there are none
abbrev pub greatest : List ℕ → ℕ
greatest [] = 0
greatest (n ∷ ns) = max n (greatest ns)

-- at each place the least sample under the element, or the maxval where there is none
abbrev pub erosion : List Offset → Picture → Picture
erosion element f = redrawn f (λ x y. least f.maxval (under f element x y))

-- at each place the greatest sample under the element, or 0 where there is none
abbrev pub dilation : List Offset → Picture → Picture
dilation element f = redrawn f (λ x y. greatest (under f element x y))

-- the element with each offset turned round
abbrev pub reflected : List Offset → List Offset
reflected element = map (λ (b : Offset). record { dx = neg_ℤ b.dx; dy = neg_ℤ b.dy }) element

-- an erosion, and then a dilation by the reflected element
abbrev pub opening : List Offset → Picture → Picture
opening element f = dilation (reflected element) (erosion element f)

-- a dilation, and then an erosion by the reflected element
abbrev pub closing : List Offset → Picture → Picture
closing element f = erosion (reflected element) (dilation element f)

-- f less g at each place, stopping at 0
abbrev pub minus : Picture → Picture → Picture
minus f g = redrawn f (λ x y. sample f x y - sample g x y)

-- the greatest sample less the least
abbrev pub gradient : List Offset → Picture → Picture
gradient element f = minus (dilation element f) (erosion element f)

-- what an opening takes away
abbrev pub white_top_hat : List Offset → Picture → Picture
white_top_hat element f = minus f (opening element f)

-- what a closing adds
abbrev pub black_top_hat : List Offset → Picture → Picture
black_top_hat element f = minus (closing element f) f

-- the set of the places with a sample of k or more
abbrev pub threshold : ℕ → Picture → Picture
threshold k f = drawn Bit f.width f.height 1 (λ x y. if nat_le k (sample f x y) then 1 else 0)

-- the maxval less each sample; of a set, what is not in it
abbrev pub complement : Picture → Picture
complement f = redrawn f (λ x y. f.maxval - sample f x y)

-- the erosion by the first element less the dilation by the second (Soille)
abbrev pub hit_or_miss : List Offset → List Offset → Picture → Picture
hit_or_miss hit miss f = minus (erosion hit f) (dilation miss f)

-- of two sets of one size, the places that are in both
abbrev pub intersection : Picture → Picture → Picture
intersection f g = redrawn f (λ x y. if sample f x y == 1 && sample g x y == 1 then 1 else 0)

-- of a set, the places where the first element fits in it and the second in its complement (Serra)
abbrev pub set_hit_or_miss : List Offset → List Offset → Picture → Picture
set_hit_or_miss hit miss f = intersection (erosion hit f) (erosion miss (complement f))

-- the number put into a list in rising order
abbrev pub put_in_order : ℕ → List ℕ → List ℕ
put_in_order n [] = n ∷ []
put_in_order n (m ∷ ms) = if nat_le n m then n ∷ m ∷ ms else m ∷ put_in_order n ms

-- the numbers in rising order, with repeats
abbrev pub in_rising_order : List ℕ → List ℕ
in_rising_order [] = []
in_rising_order (n ∷ ns) = put_in_order n (in_rising_order ns)

-- of the m samples under the element in rising order, number min(k, m), counted from 1 (own where m is below the number of offsets)
abbrev pub rank : List Offset → ℕ → Picture → Picture
rank element k f = redrawn f (λ x y. let found = under f element x y in slice_index (in_rising_order found) (min k (length found) - 1))
