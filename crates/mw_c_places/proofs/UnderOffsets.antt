-- Loops over the offsets of an element, from the last to the first, and a rank that is found by halving.
use Rattle.std.proofs.Common.{◌≡◌, ℕ, suc, ◌+◌, ◌<◌, ◌≤◌, List, [], ◌∷◌, length, get_or, drop, drop-cons, min, max, pos, ◌+ℤ◌, Option, Some, None, refl, ap, sym, subst, arith, ◌∙◌, cond}
use Rattle.std.specs.Prelude.{Bool, nat_lt}
use Rattle.std.specs.List.{cons_option}
use Rattle.std.specs.Option.{option_to_list}
use Rattle.std.proofs.lemmas.Bool.{lt-ltb, le-ltb}
use Rattle.std.proofs.lemmas.List.Sums.{sum_by-cons}
use Rattle.mw_model.specs.declared.offsets.Offset.{Offset}
use Rattle.mw_model.specs.Flat.{greatest, least, under}
use Rattle.mw_model.specs.Pictures.{IsPicture, Picture, sample, sample_at}
use Rattle.mw_model.specs.PlanSteps.{ranked}
use Rattle.mw_model.proofs.Covers.{in_frame, outside, seen}
use Rattle.mw_model.proofs.ImagePlaces.{sample_bounded}
use Rattle.mw_model.proofs.Ranks.{count_under, nth_from}

-- what is seen under the offsets from a place on, and one more before them
abbrev pub under_from : Picture → List Offset → ℕ → ℕ → ℕ → List ℕ
under_from f bs i x y = under f (drop i bs) x y

one_more : (f : Picture) (bs : List Offset) (i x y : ℕ) (d : Offset) (seen : Option ℕ) → i < length bs → seen ≡ sample_at f (pos x +ℤ (get_or bs i d).dx) (pos y +ℤ (get_or bs i d).dy)
    → under_from f bs i x y ≡ cons_option seen (under_from f bs (suc i) x y)
one_more f bs i x y d seen lt is =
    ap (λ (t : List Offset). under f t x y) (drop-cons bs i d lt) ∙ ap (λ (o : Option ℕ). cons_option o (under_from f bs (suc i) x y)) (sym is)

least-cons : (top : ℕ) (o : Option ℕ) (ns : List ℕ) → least top (cons_option o ns) ≡ least (least top ns) (option_to_list o)
least-cons top None ns = refl
least-cons top (Some n) ns = refl

greatest-cons : (o : Option ℕ) (ns : List ℕ) → greatest (cons_option o ns) ≡ max (greatest ns) (greatest (option_to_list o))
greatest-cons None ns = omega arith
greatest-cons (Some n) ns = omega arith

count-cons : (limit : ℕ) (o : Option ℕ) (ns : List ℕ) → count_under limit (cons_option o ns) ≡ count_under limit ns + count_under limit (option_to_list o)
count-cons limit None ns = omega arith
count-cons limit (Some n) ns = omega (arith, sum_by-cons (λ s. cond (nat_lt s limit) 1 0) n ns, sum_by-cons (λ s. cond (nat_lt s limit) 1 0) n [])

pub lesser_more : (f : Picture) (bs : List Offset) (k i x y best new : ℕ) (d : Offset) (seen : Option ℕ) → k ≡ suc i → i < length bs → seen ≡ sample_at f (pos x +ℤ (get_or bs i d).dx) (pos y +ℤ (get_or bs i d).dy)
    → best ≡ least f.maxval (under_from f bs k x y) → new ≡ least best (option_to_list seen) → new ≡ least f.maxval (under_from f bs i x y)
lesser_more f bs k i x y best new d seen next lt is so_far step =
    step
    ∙ ap (λ (t : ℕ). least t (option_to_list seen)) (so_far ∙ ap (λ (j : ℕ). least f.maxval (under_from f bs j x y)) next)
    ∙ sym (least-cons f.maxval seen (under_from f bs (suc i) x y))
    ∙ ap (least f.maxval) (sym (one_more f bs i x y d seen lt is))

pub greater_more : (f : Picture) (bs : List Offset) (k i x y best new : ℕ) (d : Offset) (seen : Option ℕ) → k ≡ suc i → i < length bs → seen ≡ sample_at f (pos x +ℤ (get_or bs i d).dx) (pos y +ℤ (get_or bs i d).dy)
    → best ≡ greatest (under_from f bs k x y) → new ≡ max best (greatest (option_to_list seen)) → new ≡ greatest (under_from f bs i x y)
greater_more f bs k i x y best new d seen next lt is so_far step =
    step
    ∙ ap (λ (t : ℕ). max t (greatest (option_to_list seen))) (so_far ∙ ap (λ (j : ℕ). greatest (under_from f bs j x y)) next)
    ∙ sym (greatest-cons seen (under_from f bs (suc i) x y))
    ∙ ap greatest (sym (one_more f bs i x y d seen lt is))

pub below_more : (f : Picture) (bs : List Offset) (limit k i x y count one : ℕ) (d : Offset) (seen : Option ℕ) → k ≡ suc i → i < length bs → seen ≡ sample_at f (pos x +ℤ (get_or bs i d).dx) (pos y +ℤ (get_or bs i d).dy)
    → count ≡ count_under limit (under_from f bs k x y) → one ≡ count_under limit (option_to_list seen) → count + one ≡ count_under limit (under_from f bs i x y)
below_more f bs limit k i x y count one d seen next lt is so_far step =
    let before : count ≡ count_under limit (under_from f bs (suc i) x y) = so_far ∙ ap (λ (j : ℕ). count_under limit (under_from f bs j x y)) next in
    omega (arith, before, step, count-cons limit seen (under_from f bs (suc i) x y), ap (λ (t : List ℕ). count_under limit t) (one_more f bs i x y d seen lt is))

-- ---- all levels are below 65,536

abbrev as_one : Bool → ℕ
as_one t = cond t 1 0

below_one : (n limit : ℕ) → n < limit → as_one (nat_lt n limit) ≡ 1
below_one n limit low = ap as_one (lt-ltb n limit low)

not_below_one : (n limit : ℕ) → limit ≤ n → as_one (nat_lt n limit) ≡ 0
not_below_one n limit high = ap as_one (le-ltb n limit high)

count_one : (limit n : ℕ) (ns : List ℕ) → n < limit → count_under limit ns ≡ length ns → count_under limit (n ∷ ns) ≡ length (n ∷ ns)
count_one limit n ns low all =
    omega (arith, sum_by-cons (λ s. as_one (nat_lt s limit)) n ns, below_one n limit low, all)

pub all_counted : (f : Picture) → IsPicture f → (limit : ℕ) → f.maxval < limit → (bs : List Offset) (x y : ℕ) → count_under limit (under f bs x y) ≡ length (under f bs x y)
all_counted f picture limit low [] x y = refl
all_counted f picture limit low (b ∷ bs) x y =
    elim (seen f (pos x +ℤ b.dx) (pos y +ℤ b.dy)) [
      | in_frame u v p q c r is ↦ rw is (count_one limit (sample f u v) (under f bs x y) (omega (arith, sample_bounded f picture u v p q, low)) (all_counted f picture limit low bs x y))
      | outside is ↦ rw is (all_counted f picture limit low bs x y)
    ]

-- none is below 0
pub none_below : (ns : List ℕ) → count_under 0 ns ≡ 0
none_below [] = refl
none_below (n ∷ ns) =
    omega (arith, sum_by-cons (λ s. as_one (nat_lt s 0)) n ns, not_below_one n 0 (omega arith), none_below ns)

-- ---- ranks

-- where nothing is seen it is 0
pub nothing_ranked : (k : ℕ) (ns : List ℕ) → length ns ≡ 0 → 0 ≡ ranked k ns
nothing_ranked k [] none = refl
nothing_ranked k (n ∷ ns) none = absurd (omega arith)

-- where the halves meet
pub halved : (found : List ℕ) (k n low high : ℕ) → n ≡ max 1 (min k (length found)) → count_under low found < n → n ≤ count_under high found → high ≡ low + 1 → low ≡ ranked k found
halved found k n low high is below above next = nth_from found k n low is (below, subst (λ (t : ℕ). n ≤ count_under t found) next above)
