-- What the operators give is an image.
use Rattle.std.proofs.Common.{◌≡◌, ℕ, zero, suc, ◌+◌, ◌-◌, ◌<◌, ◌≤◌, List, [], ◌∷◌, length, get_or, min, max, pos, ◌+ℤ◌, refl, arith, ◌∙◌, inl, inr}
use Rattle.std.specs.Prelude.{nat_le, slice_index, if◌then◌else◌, ◌==◌}
use Rattle.std.specs.List.{All, AllByRecursion, Contains, fold}
use Rattle.std.proofs.lemmas.Bool.{cases_lt, cases_Bool}
use Rattle.std.proofs.lemmas.List.Elements.{All-from_get_or, All-head, Contains-append_right}
use Rattle.mw_model.specs.declared.shapes.Kind.{Kind}
use Rattle.mw_model.specs.declared.shapes.Kind.TheVariants.{Bit, Grey}
use Rattle.mw_model.specs.declared.offsets.Offset.{Offset}
use Rattle.mw_model.specs.Pictures.{Picture, sample, drawn, redrawn, IsPicture}
use Rattle.mw_model.specs.Flat.{under, least, greatest, erosion, dilation, minus, threshold, rank, put_in_order, in_rising_order}
use Rattle.mw_model.specs.Iterates.{is_residue, residue_mark, times, skeleton}
use Rattle.mw_model.proofs.ImagePlaces.{sample-drawn, sample-redrawn, by_places, length-rows, sample_bounded}
use Rattle.mw_model.proofs.ImageOrder.{IsBounded, bounded_erosion, bounded_dilation}
use Rattle.mw_model.proofs.Covers.{in_frame, outside, seen}
use Rattle.mw_model.proofs.Extrema.{least_reached}

-- an image of this form is one if no value is above the maxval
pub drawn_picture : (kind : Kind) (width height maxval : ℕ) (value : ℕ → ℕ → ℕ) → ((x y : ℕ) → x < width → y < height → value x y ≤ maxval) → IsPicture (drawn kind width height maxval value)
drawn_picture kind width height maxval value low =
    let f = drawn kind width height maxval value in
    let size = length-rows value width 0 height in
    record {
      size = size;
      bounded = All-from_get_or (λ s. s ≤ maxval) f.samples 0 (λ i p. by_places (λ i. get_or f.samples i 0 ≤ maxval) width height
          (λ x y p' q'. least_of (sample f x y) (value x y) maxval (sample-drawn kind width height maxval value x y p' q') (low x y p' q')) i (omega (arith, size)));
    }
  where
    least_of : (a b c : ℕ) → a ≡ b → b ≤ c → a ≤ c
    least_of a b c e p = omega arith

-- an image of this form is one if it is bounded
redrawn_picture : (f : Picture) (value : ℕ → ℕ → ℕ) → IsBounded (redrawn f value) → IsPicture (redrawn f value)
redrawn_picture f value bounded = drawn_picture f.kind f.width f.height f.maxval value
    (λ x y p q. omega (arith, bounded x y p q, sample-redrawn f value x y p q))

pub erosion_picture : (b : List Offset) (f : Picture) → IsPicture (erosion b f)
erosion_picture b f = redrawn_picture f (λ x y. least f.maxval (under f b x y)) (bounded_erosion b f)

pub dilation_picture : (b : List Offset) (f : Picture) → IsPicture f → IsPicture (dilation b f)
dilation_picture b f picture = redrawn_picture f (λ x y. greatest (under f b x y)) (bounded_dilation b f (sample_bounded f picture))

pub minus_picture : (f g : Picture) → IsPicture f → IsPicture (minus f g)
minus_picture f g picture =
    drawn_picture f.kind f.width f.height f.maxval (λ x y. sample f x y - sample g x y) (λ x y p q. let h = sample_bounded f picture x y p q in omega arith)

pub threshold_picture : (k : ℕ) (f : Picture) → IsPicture (threshold k f)
threshold_picture k f = drawn_picture Bit f.width f.height 1 (λ x y. if nat_le k (sample f x y) then 1 else 0) (λ x y p q. small (nat_le k (sample f x y)))
  where
    small : (t : _) → (if t then 1 else 0) ≤ 1
    small t = elim (cases_Bool t) [ inl e ↦ rw e (omega arith) | inr e ↦ rw e (omega arith) ]

-- the numbers of a sorted list are those of the list
put_below : (top n : ℕ) (ns : List ℕ) → n ≤ top → AllByRecursion (λ m. m ≤ top) ns → AllByRecursion (λ m. m ≤ top) (put_in_order n ns)
put_below top n [] le all = (le, tt)
put_below top n (m ∷ ms) le all =
    elim (cases_Bool (nat_le n m)) [
      | inl e ↦ rw e (le, all)
      | inr e ↦ rw e (all.0, put_below top n ms le all.1)
    ]

pub sorted_below : (top : ℕ) (ns : List ℕ) → AllByRecursion (λ m. m ≤ top) ns → AllByRecursion (λ m. m ≤ top) (in_rising_order ns)
sorted_below top [] all = tt
sorted_below top (n ∷ ns) all = put_below top n (in_rising_order ns) all.0 (sorted_below top ns all.1)

pub index_below : (top : ℕ) (ns : List ℕ) (i : ℕ) → AllByRecursion (λ m. m ≤ top) ns → get_or ns i 0 ≤ top
index_below top [] i all = omega arith
index_below top (n ∷ ns) zero all = all.0
index_below top (n ∷ ns) (suc i) all = index_below top ns i all.1

under_below : (f : Picture) (bs : List Offset) (top x y : ℕ) → ((u v : ℕ) → u < f.width → v < f.height → sample f u v ≤ top) → AllByRecursion (λ m. m ≤ top) (under f bs x y)
under_below f [] top x y low = tt
under_below f (b ∷ bs) top x y low =
    elim (seen f (pos x +ℤ b.dx) (pos y +ℤ b.dy)) [
      | in_frame u v p q c r is ↦ rw is (low u v p q, under_below f bs top x y low)
      | outside is ↦ rw is (under_below f bs top x y low)
    ]

pub rank_picture : (b : List Offset) (k : ℕ) (f : Picture) → IsPicture f → IsPicture (rank b k f)
rank_picture b k f picture =
    drawn_picture f.kind f.width f.height f.maxval (λ x y. let found = under f b x y in slice_index (in_rising_order found) (min k (length found) - 1))
    (λ x y p q. index_below f.maxval (in_rising_order (under f b x y)) (min k (length (under f b x y)) - 1)
    (sorted_below f.maxval (under f b x y) (under_below f b f.maxval x y (sample_bounded f picture))))

mark_below : (b : List Offset) (f : Picture) (k x y : ℕ) → residue_mark b f k x y ≤ k
mark_below b f zero x y = omega arith
mark_below b f (suc k) x y =
    elim (cases_Bool (is_residue b (times k (erosion b) f) x y)) [
      | inl e ↦ rw e (omega arith)
      | inr e ↦ rw e (omega (arith, mark_below b f k x y))
    ]

pub skeleton_picture : (b : List Offset) (depth : ℕ) (f : Picture) → IsPicture (skeleton b depth f)
skeleton_picture b depth f =
    drawn_picture Grey f.width f.height (depth + 1) (λ x y. if sample (times depth (erosion b) f) x y == 1 then depth + 1 else residue_mark b f depth x y)
    (λ x y p q. elim (cases_Bool (sample (times depth (erosion b) f) x y == 1)) [
      | inl e ↦ rw e (omega arith)
      | inr e ↦ rw e (omega (arith, mark_below b f depth x y))
    ])

-- A fold from the neutral is the extremum.
pub fold-min : (top : ℕ) (ns : List ℕ) → fold (λ a n. min a n) top ns ≡ least top ns
fold-min top [] = refl
fold-min top (n ∷ ns) = fold-min (min top n) ns ∙ step top n ns
  where
    step : (top n : ℕ) (ns : List ℕ) → least (min top n) ns ≡ min n (least top ns)
    step top n [] = omega arith
    step top n (m ∷ ms) = omega (arith, step top n ms)

pub fold-max : (low : ℕ) (ns : List ℕ) → fold (λ a n. max a n) low ns ≡ max low (greatest ns)
fold-max low [] = omega arith
fold-max low (n ∷ ns) = omega (arith, fold-max (max low n) ns)

pub fold-max_from_none : (ns : List ℕ) → fold (λ a n. max a n) 0 ns ≡ greatest ns
fold-max_from_none ns = omega (arith, fold-max 0 ns)

-- Of numbers that are not above the top the least is one, if there is one.
pub least_among : (top n : ℕ) (ns : List ℕ) → All (λ m. m ≤ top) (n ∷ ns) → Contains (n ∷ ns) (least top (n ∷ ns))
least_among top n ns above =
    elim (least_reached top ns) [
      | inr among ↦ elim (cases_lt n (least top ns)) [
        | inl less ↦ (0, omega arith, first n (least top ns) less)
        | inr more ↦ let is : min n (least top ns) ≡ least top ns = omega arith in rw is (Contains-append_right (n ∷ []) ns (least top ns) among)
      ]
      | inl neutral ↦ let low = All-head (λ m. m ≤ top) n ns above in (0, omega arith, last n (least top ns) top neutral low)
    ]
  where
    first : (n m : ℕ) → n < m → n ≡ min n m
    first n m p = omega arith

    last : (n m top : ℕ) → m ≡ top → n ≤ top → n ≡ min n m
    last n m top e p = omega arith
