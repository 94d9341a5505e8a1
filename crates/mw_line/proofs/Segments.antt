-- What is seen under a segment in a row of an image.
use Rattle.std.proofs.Common.{◌≡◌, ℕ, zero, suc, ◌+◌, ◌-◌, ◌*◌, ◌<◌, ◌≤◌, List, [], ◌∷◌, ◌++◌, Option, None, length, take, drop, get_or, slice_range, min, max, ℤ, pos, negsuc, ◌+ℤ◌, ◌-ℤ◌, refl, ap, sym, arith, ◌∙◌, inl, inr, drop-cons, length-take, length-drop}
use Rattle.std.specs.List.{range_with_len, flat_map}
use Rattle.std.proofs.Math.Nat.{mul-le-mul_left}
use Rattle.std.proofs.lemmas.Bool.{cases_lt, le-ltb}
use Rattle.std.proofs.lemmas.Int.{ints}
use Rattle.std.proofs.lemmas.List.{append-nil, drop_all, get_or-take, get_or-drop}
use Rattle.mw_model.specs.Flat.{under, least, greatest, erosion, dilation}
use Rattle.mw_model.specs.Pictures.{Picture, IsPicture, sample, sample_at}
use Rattle.mw_model.specs.Rectangles.{nonnegative, span}
use Rattle.mw_model.proofs.Covers.{sample_at_in}
use Rattle.mw_model.proofs.ImagePlaces.{sample-redrawn}
use Rattle.mw_model.proofs.Nonnegative.{nonnegative_is}
use Rattle.mw_line.specs.Line.{samples_between, line_at, segment, row_samples}
use Rattle.mw_line.proofs.Levels.{fold-min, fold-max}
use Rattle.mw_line.proofs.Over.{those}
use Rattle.mw_line.proofs.Spans.{seen_boxed, row_of}

take_none : (n : ℕ) (xs : List ℕ) → xs ≡ [] → take n xs ≡ []
take_none zero xs same = refl
take_none (suc n) xs same = ap (take (suc n)) same

nothing_past : (row : List ℕ) (n m : ℕ) → length row ≤ m → take n (drop m row) ≡ []
nothing_past row n m le = take_none n (drop m row) (drop_all m row le)

-- a row of the image: as long as the image is wide, with its samples
record IsRow (f : Picture) (y : ℕ) (row : List ℕ) : Type 0 where
  pub inside : y < f.height
  pub size : length row ≡ f.width
  pub samples : (x : ℕ) → x < f.width → get_or row x 0 ≡ sample f x y

row_is : (f : Picture) (y : ℕ) → IsPicture f → y < f.height → IsRow f y (row_samples f y)
row_is f y picture lt =
    let w = f.width in
    let below : y + 1 ≤ f.height = omega arith in
    let room = mul-le-mul_left w below in
    let cut : y * w + w - y * w ≡ w = omega arith in
    record {
      inside = lt;
      size = omega (arith, cut, room, picture.size, length-take (y * w + w - y * w) (drop (y * w) f.samples), length-drop (y * w) f.samples);
      samples = λ x less. get_or-take (y * w + w - y * w) (drop (y * w) f.samples) x 0 (omega arith) ∙ get_or-drop (y * w) f.samples x 0;
    }

-- the sample at a place of the row, and those after it
one_seen : (f : Picture) (y : ℕ) (row : List ℕ) → IsRow f y row → (z : ℤ) (end : ℕ) → nonnegative (z +ℤ pos 1) ≤ end
    → those (sample_at f z (pos y)) ++ slice_range row (nonnegative (z +ℤ pos 1)) end ≡ slice_range row (nonnegative z) end
one_seen f y row is (negsuc k) end le =
    let none : nonnegative (negsuc k +ℤ pos 1) ≡ 0 = omega (arith, ints, nonnegative_is (negsuc k +ℤ pos 1)) in
    ap (λ (t : ℕ). slice_range row t end) none
one_seen f y row is (pos k) end le =
    let next : nonnegative (pos k +ℤ pos 1) ≡ k + 1 = omega (arith, ints, nonnegative_is (pos k +ℤ pos 1)) in
    elim (cases_lt k f.width) [
      | inl inside ↦
          let more : end - k ≡ suc (end - (k + 1)) = omega arith in
          let up : suc k ≡ k + 1 = omega arith in
          let whole : slice_range row k end ≡ get_or row k 0 ∷ slice_range row (k + 1) end =
          ap (λ (t : ℕ). take t (drop k row)) more
          ∙ ap (take (suc (end - (k + 1)))) (drop-cons row k 0 (omega (arith, is.size)))
          ∙ ap (λ (t : ℕ). get_or row k 0 ∷ take (end - (k + 1)) (drop t row)) up in
          ap (λ (t : Option ℕ). those t ++ slice_range row (nonnegative (pos k +ℤ pos 1)) end) (sample_at_in f k y inside is.inside)
          ∙ ap (λ (t : ℕ). sample f k y ∷ slice_range row t end) next
          ∙ ap (λ (t : ℕ). t ∷ slice_range row (k + 1) end) (sym (is.samples k inside))
          ∙ sym whole
      | inr past ↦
          let unseen : sample_at f (pos k) (pos y) ≡ None = rw (le-ltb k f.width past) refl in
          ap (λ (t : Option ℕ). those t ++ slice_range row (nonnegative (pos k +ℤ pos 1)) end) unseen
          ∙ ap (λ (t : ℕ). slice_range row t end) next
          ∙ nothing_past row (end - (k + 1)) (k + 1) (omega (arith, is.size))
          ∙ sym (nothing_past row (end - k) k (omega (arith, is.size)))
    ]

row_seen : (f : Picture) (y : ℕ) (row : List ℕ) → IsRow f y row → (x : ℕ) (a : ℤ) (n s : ℕ)
    → flat_map (λ (i : ℕ). those (sample_at f (pos x +ℤ (a +ℤ pos i)) (pos y))) (range_with_len s n) ≡ slice_range row (nonnegative (pos x +ℤ (a +ℤ pos s))) (nonnegative (pos x +ℤ (a +ℤ pos (s + n))))
row_seen f y row is x a zero s =
    let first = nonnegative (pos x +ℤ (a +ℤ pos s)) in
    let none : nonnegative (pos x +ℤ (a +ℤ pos (s + 0))) - first ≡ 0 = omega (arith, ints, nonnegative_is (pos x +ℤ (a +ℤ pos s)), nonnegative_is (pos x +ℤ (a +ℤ pos (s + 0)))) in
    sym (ap (λ (t : ℕ). take t (drop first row)) none)
row_seen f y row is x a (suc n) s =
    let z = pos x +ℤ (a +ℤ pos s) in
    let end = nonnegative (pos x +ℤ (a +ℤ pos (s + suc n))) in
    let next : nonnegative (pos x +ℤ (a +ℤ pos (s + 1))) ≡ nonnegative (z +ℤ pos 1) = omega (arith, ints, nonnegative_is (pos x +ℤ (a +ℤ pos (s + 1))), nonnegative_is (z +ℤ pos 1)) in
    let same : nonnegative (pos x +ℤ (a +ℤ pos (s + 1 + n))) ≡ end = omega (arith, ints, nonnegative_is (pos x +ℤ (a +ℤ pos (s + 1 + n))), nonnegative_is (pos x +ℤ (a +ℤ pos (s + suc n)))) in
    let le : nonnegative (z +ℤ pos 1) ≤ end = omega (arith, ints, nonnegative_is (z +ℤ pos 1), nonnegative_is (pos x +ℤ (a +ℤ pos (s + suc n)))) in
    ap (λ (t : List ℕ). those (sample_at f z (pos y)) ++ t) (row_seen f y row is x a n (s + 1))
    ∙ ap (λ (t : ℕ). those (sample_at f z (pos y)) ++ slice_range row t (nonnegative (pos x +ℤ (a +ℤ pos (s + 1 + n))))) next
    ∙ ap (λ (t : ℕ). those (sample_at f z (pos y)) ++ slice_range row (nonnegative (z +ℤ pos 1)) t) same
    ∙ one_seen f y row is z end le

under_segment : (f : Picture) → IsPicture f → (a b : ℤ) (x y : ℕ) → y < f.height → under f (segment a b) x y ≡ samples_between (row_samples f y) (pos x +ℤ a) (pos x +ℤ b)
under_segment f picture a b x y lt =
    let row = row_samples f y in
    let there : pos y +ℤ (pos 0 +ℤ pos 0) ≡ pos y = omega (arith, ints) in
    let first : nonnegative (pos x +ℤ (a +ℤ pos 0)) ≡ nonnegative (pos x +ℤ a) = omega (arith, ints, nonnegative_is (pos x +ℤ (a +ℤ pos 0)), nonnegative_is (pos x +ℤ a)) in
    let long : nonnegative (pos x +ℤ (a +ℤ pos (0 + span a b))) - nonnegative (pos x +ℤ a) ≡ nonnegative (pos x +ℤ b +ℤ pos 1) - nonnegative (pos x +ℤ a) =
    omega (arith, ints, nonnegative_is (pos x +ℤ a), nonnegative_is (pos x +ℤ (a +ℤ pos (0 + span a b))), nonnegative_is (pos x +ℤ b +ℤ pos 1), nonnegative_is (b -ℤ a +ℤ pos 1)) in
    seen_boxed (sample_at f) (record { x0 = a; x1 = b; y0 = pos 0; y1 = pos 0 }) x y
    ∙ append-nil (row_of (sample_at f) (record { x0 = a; x1 = b; y0 = pos 0; y1 = pos 0 }) x y 0)
    ∙ ap (λ (t : ℤ). flat_map (λ (i : ℕ). those (sample_at f (pos x +ℤ (a +ℤ pos i)) t)) (range_with_len 0 (span a b))) there
    ∙ row_seen f y row (row_is f y picture lt) x a (span a b) 0
    ∙ ap (λ (t : ℕ). slice_range row t (nonnegative (pos x +ℤ (a +ℤ pos (0 + span a b))))) first
    ∙ ap (λ (t : ℕ). take t (drop (nonnegative (pos x +ℤ a)) row)) long

pub erosion_is_line : (f : Picture) (a b : ℤ) → IsPicture f → (x y : ℕ) → x < f.width → y < f.height → sample (erosion (segment a b) f) x y ≡ line_at min f.maxval (row_samples f y) a b x
erosion_is_line f a b picture x y lt row_lt =
    sample-redrawn f (λ i j. least f.maxval (under f (segment a b) i j)) x y lt row_lt
    ∙ ap (least f.maxval) (under_segment f picture a b x y row_lt)
    ∙ sym (fold-min f.maxval (samples_between (row_samples f y) (pos x +ℤ a) (pos x +ℤ b)))

pub dilation_is_line : (f : Picture) (a b : ℤ) → IsPicture f → (x y : ℕ) → x < f.width → y < f.height → sample (dilation (segment a b) f) x y ≡ line_at max 0 (row_samples f y) a b x
dilation_is_line f a b picture x y lt row_lt =
    sample-redrawn f (λ i j. greatest (under f (segment a b) i j)) x y lt row_lt
    ∙ ap greatest (under_segment f picture a b x y row_lt)
    ∙ sym (fold-max (samples_between (row_samples f y) (pos x +ℤ a) (pos x +ℤ b)))
