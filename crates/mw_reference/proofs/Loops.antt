-- Loops over the offsets of an element, and over the pixels of an image.
use Rattle.std.proofs.Common.{◌≡◌, ℕ, zero, suc, ◌+◌, ◌<◌, ◌≤◌, List, [], ◌∷◌, ◌++◌, map, length, get_or, take, drop, min, max, pos, ◌+ℤ◌, Option, Some, None, refl, ap, sym, arith, ◌∙◌, length-append}
use Rattle.std.specs.Prelude.{Bool, cond, nat_lt, count_by, true, false, if◌then◌else◌, ℤ, ◌-ℤ◌, neg_ℤ}
use Rattle.std.specs.List.{range_with_len, flat_map, cons_option}
use Rattle.std.specs.Option.{option_to_list}
use Rattle.std.proofs.lemmas.List.{take_more, take_all, take-append-drop, get_or_default, append-nil, append_assoc}
use Rattle.std.proofs.lemmas.Int.{ints}
use Rattle.std.proofs.lemmas.List.Sums.{sum_by-append}
use Rattle.std.proofs.lemmas.List.Concat.{flat_map-append}
use Rattle.std.proofs.lemmas.List.FromFn.{map-range_with_len_more}
use Rattle.std.proofs.Math.Nat.{zero-add}
use Rattle.mw_model.proofs.mw_facts.Ranges.{range_with_len-more}
use Rattle.mw_model.specs.declared.offsets.Offset.{Offset}
use Rattle.mw_model.specs.declared.shapes.Kind.{Kind}
use Rattle.mw_model.specs.Pictures.{Picture, picture, sample_at, drawn}
use Rattle.mw_model.specs.Flat.{under, least, greatest, reflected}

under-append : (f : Picture) (bs cs : List Offset) (x y : ℕ) → under f (bs ++ cs) x y ≡ under f bs x y ++ under f cs x y
under-append f [] cs x y = refl
under-append f (b ∷ bs) cs x y = ap (cons_option (sample_at f (pos x +ℤ b.dx) (pos y +ℤ b.dy))) (under-append f bs cs x y) ∙ over (sample_at f (pos x +ℤ b.dx) (pos y +ℤ b.dy)) (under f bs x y) (under f cs x y)
  where
    over : (o : Option ℕ) (ns ms : List ℕ) → cons_option o (ns ++ ms) ≡ cons_option o ns ++ ms
    over None ns ms = refl
    over (Some n) ns ms = refl

one_or_none : (o : Option ℕ) → cons_option o [] ≡ option_to_list o
one_or_none None = refl
one_or_none (Some n) = refl

-- the samples under the first offsets of an element
abbrev pub under_first : Picture → List Offset → ℕ → ℕ → ℕ → List ℕ
under_first f bs i x y = under f (take i bs) x y

pub one_offset_more : (f : Picture) (bs : List Offset) (i x y : ℕ) (d : Offset) (seen : Option ℕ) → i < length bs
    → seen ≡ sample_at f (pos x +ℤ (get_or bs i d).dx) (pos y +ℤ (get_or bs i d).dy) → under_first f bs (i + 1) x y ≡ under_first f bs i x y ++ option_to_list seen
one_offset_more f bs i x y d seen lt is =
    ap (λ (t : List Offset). under f t x y) (take_more bs i d lt)
    ∙ under-append f (take i bs) (get_or bs i d ∷ []) x y
    ∙ ap (λ (o : Option ℕ). under f (take i bs) x y ++ cons_option o []) (sym is)
    ∙ ap (λ (t : List ℕ). under f (take i bs) x y ++ t) (one_or_none seen)

pub all_samples : (f : Picture) (bs : List Offset) (i x y : ℕ) → length bs ≤ i → under_first f bs i x y ≡ under f bs x y
all_samples f bs i x y le = ap (λ (t : List Offset). under f t x y) (take_all i bs le)

pub first_within : (f : Picture) (bs : List Offset) (i x y : ℕ) → length (under_first f bs i x y) ≤ length (under f bs x y)
first_within f bs i x y =
    omega (
      arith,
      ap (λ (t : List Offset). length (under f t x y)) (sym (take-append-drop i bs)),
      ap (λ (t : List ℕ). length t) (under-append f (take i bs) (drop i bs) x y),
      length-append (under f (take i bs) x y) (under f (drop i bs) x y),
    )

least-append : (top : ℕ) (ns ms : List ℕ) → least top (ns ++ ms) ≡ least (least top ns) ms
least-append top [] ms = refl
least-append top (n ∷ ns) ms = ap (min n) (least-append top ns ms) ∙ into n (least top ns) ms
  where
    into : (n t : ℕ) (ms : List ℕ) → min n (least t ms) ≡ least (min n t) ms
    into n t [] = refl
    into n t (m ∷ ms) = omega (arith, into n t ms)

greatest-append : (ns ms : List ℕ) → greatest (ns ++ ms) ≡ max (greatest ns) (greatest ms)
greatest-append [] ms = omega arith
greatest-append (n ∷ ns) ms = omega (arith, greatest-append ns ms)

pub lesser_so_far : (f : Picture) (bs : List Offset) (top i x y best new : ℕ) (d : Offset) (seen : Option ℕ) → i < length bs
    → seen ≡ sample_at f (pos x +ℤ (get_or bs i d).dx) (pos y +ℤ (get_or bs i d).dy) → best ≡ least top (under_first f bs i x y)
    → new ≡ least best (option_to_list seen) → new ≡ least top (under_first f bs (i + 1) x y)
lesser_so_far f bs top i x y best new d seen lt is so_far step =
    step
    ∙ ap (λ (t : ℕ). least t (option_to_list seen)) so_far
    ∙ sym (least-append top (under_first f bs i x y) (option_to_list seen))
    ∙ ap (least top) (sym (one_offset_more f bs i x y d seen lt is))

pub greater_so_far : (f : Picture) (bs : List Offset) (i x y best new : ℕ) (d : Offset) (seen : Option ℕ) → i < length bs
    → seen ≡ sample_at f (pos x +ℤ (get_or bs i d).dx) (pos y +ℤ (get_or bs i d).dy) → best ≡ greatest (under_first f bs i x y)
    → new ≡ max best (greatest (option_to_list seen)) → new ≡ greatest (under_first f bs (i + 1) x y)
greater_so_far f bs i x y best new d seen lt is so_far step =
    step
    ∙ ap (λ (t : ℕ). max t (greatest (option_to_list seen))) so_far
    ∙ sym (greatest-append (under_first f bs i x y) (option_to_list seen))
    ∙ ap greatest (sym (one_offset_more f bs i x y d seen lt is))

pub one_seen_more : (f : Picture) (bs : List Offset) (i x y count one : ℕ) (d : Offset) (seen : Option ℕ) → i < length bs
    → seen ≡ sample_at f (pos x +ℤ (get_or bs i d).dx) (pos y +ℤ (get_or bs i d).dy) → count ≡ length (under_first f bs i x y)
    → one ≡ length (option_to_list seen) → count + one ≡ length (under_first f bs (i + 1) x y)
one_seen_more f bs i x y count one d seen lt is so_far step =
    omega (arith, ap (λ (t : List ℕ). length t) (one_offset_more f bs i x y d seen lt is), length-append (under_first f bs i x y) (option_to_list seen))

pub one_below_more : (f : Picture) (bs : List Offset) (limit i x y count one : ℕ) (d : Offset) (seen : Option ℕ) → i < length bs
    → seen ≡ sample_at f (pos x +ℤ (get_or bs i d).dx) (pos y +ℤ (get_or bs i d).dy) → count ≡ count_by (λ s. nat_lt s limit) (under_first f bs i x y)
    → one ≡ count_by (λ s. nat_lt s limit) (option_to_list seen) → count + one ≡ count_by (λ s. nat_lt s limit) (under_first f bs (i + 1) x y)
one_below_more f bs limit i x y count one d seen lt is so_far step =
    omega (
      arith,
      ap (λ (t : List ℕ). count_by (λ s. nat_lt s limit) t) (one_offset_more f bs i x y d seen lt is),
      sum_by-append (λ s. cond (nat_lt s limit) 1 0) (under_first f bs i x y) (option_to_list seen),
    )

-- the rows that are drawn, and the beginning of the next
abbrev pub drawn_so_far : (ℕ → ℕ → ℕ) → ℕ → ℕ → ℕ → List ℕ
drawn_so_far value width y x = flat_map (λ y. map (λ x. value x y) (range_with_len 0 width)) (range_with_len 0 y) ++ map (λ x. value x y) (range_with_len 0 x)

pub one_pixel_more : (value : ℕ → ℕ → ℕ) (width y x n : ℕ) (before after : List ℕ) → before ≡ drawn_so_far value width y x → n ≡ value x y → after ≡ before ++ n ∷ []
    → after ≡ drawn_so_far value width y (x + 1)
one_pixel_more value width y x n before after is n-is new =
    let done = flat_map (λ y. map (λ x. value x y) (range_with_len 0 width)) (range_with_len 0 y) in
    new
    ∙ ap (λ (t : List ℕ). t ++ n ∷ []) is
    ∙ ap (λ (t : ℕ). drawn_so_far value width y x ++ t ∷ []) n-is
    ∙ append_assoc done (map (λ x. value x y) (range_with_len 0 x)) (value x y ∷ [])
    ∙ ap (λ (t : List ℕ). done ++ t) (sym (map-range_with_len_more (λ x. value x y) 0 x x (omega arith)))

-- a whole row more
pub one_row_more : (value : ℕ → ℕ → ℕ) (width y x : ℕ) (after : List ℕ) → x ≡ width → after ≡ drawn_so_far value width y x → after ≡ drawn_so_far value width (y + 1) 0
one_row_more value width y x after e is =
    let row = λ (y : ℕ). map (λ x. value x y) (range_with_len 0 width) in
    is
    ∙ ap (λ (t : ℕ). drawn_so_far value width y t) e
    ∙ ap (λ (t : List ℕ). flat_map row (range_with_len 0 y) ++ t) (sym (append-nil (row y)) ∙ ap (λ (t : ℕ). row t ++ []) (sym (zero-add y)))
    ∙ sym (flat_map-append row (range_with_len 0 y) ((0 + y) ∷ []))
    ∙ ap (flat_map row) (sym (range_with_len-more 0 y (0 + y) refl))
    ∙ sym (append-nil (flat_map row (range_with_len 0 (y + 1))))

-- what all the rows make
pub all_rows : (f : Picture) (kind : Kind) (maxval : ℕ) (value : ℕ → ℕ → ℕ) (width height y : ℕ) (samples : List ℕ) → width ≡ f.width → height ≡ f.height → y ≡ height
    → samples ≡ drawn_so_far value width y 0 → samples ≡ (drawn kind f.width f.height maxval value).samples
all_rows f kind maxval value width height y samples across down end is =
    let rows = λ (w n : ℕ). flat_map (λ y. map (λ x. value x y) (range_with_len 0 w)) (range_with_len 0 n) in
    is ∙ append-nil (rows width y) ∙ ap (rows width) (end ∙ down) ∙ ap (λ (w : ℕ). rows w f.height) across

-- the image that they make
pub whole_picture : (f : Picture) (kind : Kind) (maxval : ℕ) (value : ℕ → ℕ → ℕ) (width height : ℕ) (samples : List ℕ) → width ≡ f.width → height ≡ f.height
    → samples ≡ (drawn kind f.width f.height maxval value).samples → picture kind width height maxval samples ≡ drawn kind f.width f.height maxval value
whole_picture f kind maxval value width height samples across down is = rw (across, down, is) refl

-- an element as it lies, or turned round
abbrev pub placed : Bool → List Offset → List Offset
placed turned bs = if turned then reflected bs else bs

length-reflected : (bs : List Offset) → length (reflected bs) ≡ length bs
length-reflected [] = refl
length-reflected (b ∷ bs) = omega (arith, length-reflected bs)

pub length-placed : (t : Bool) (bs v : List Offset) → placed t bs ≡ v → length v ≡ length bs
length-placed true bs v e = ap (λ (l : List Offset). length l) (sym e) ∙ length-reflected bs
length-placed false bs v e = ap (λ (l : List Offset). length l) (sym e)

get_or-reflected : (bs : List Offset) (i : ℕ) (d e : Offset) → i < length bs → get_or (reflected bs) i d ≡ record { dx = neg_ℤ (get_or bs i e).dx; dy = neg_ℤ (get_or bs i e).dy }
get_or-reflected [] i d e lt = absurd (omega arith)
get_or-reflected (b ∷ bs) zero d e lt = refl
get_or-reflected (b ∷ bs) (suc i) d e lt = get_or-reflected bs i d e (omega arith)

sub-add_neg : (x : ℕ) (a : ℤ) → pos x -ℤ a ≡ pos x +ℤ neg_ℤ a
sub-add_neg x a = omega (arith, ints)

-- the sample under a turned offset
pub turned_under : (f : Picture) (t : Bool) (bs v : List Offset) (i x y : ℕ) (d e : Offset) (seen : Option ℕ) → t ≡ true → placed t bs ≡ v → i < length v
    → seen ≡ sample_at f (pos x -ℤ (get_or bs i e).dx) (pos y -ℤ (get_or bs i e).dy) → seen ≡ sample_at f (pos x +ℤ (get_or v i d).dx) (pos y +ℤ (get_or v i d).dy)
turned_under f t bs v i x y d e seen is view lt read =
    let here : reflected bs ≡ v = ap (λ (s : Bool). placed s bs) (sym is) ∙ view in
    let b : get_or v i d ≡ record { dx = neg_ℤ (get_or bs i e).dx; dy = neg_ℤ (get_or bs i e).dy } =
    ap (λ (l : List Offset). get_or l i d) (sym here) ∙ get_or-reflected bs i d e (omega (arith, length-placed t bs v view)) in
    read ∙ rw (sub-add_neg x (get_or bs i e).dx, sub-add_neg y (get_or bs i e).dy, b) refl

-- the sample under an offset as it lies
pub upright_under : (f : Picture) (t : Bool) (bs v : List Offset) (i x y : ℕ) (d e : Offset) (seen : Option ℕ) → t ≡ false → placed t bs ≡ v → i < length v
    → seen ≡ sample_at f (pos x +ℤ (get_or bs i e).dx) (pos y +ℤ (get_or bs i e).dy) → seen ≡ sample_at f (pos x +ℤ (get_or v i d).dx) (pos y +ℤ (get_or v i d).dy)
upright_under f t bs v i x y d e seen is view lt read =
    let here : bs ≡ v = ap (λ (s : Bool). placed s bs) (sym is) ∙ view in
    let b : get_or v i d ≡ get_or bs i e = ap (λ (l : List Offset). get_or l i d) (sym here) ∙ get_or_default bs i d e (omega (arith, length-placed t bs v view)) in
    read ∙ rw b refl
