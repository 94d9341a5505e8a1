-- Operators that change each sample by itself, under an element.
use Rattle.std.proofs.Common.{◌≡◌, ℕ, ◌-◌, ◌<◌, ◌≤◌, ◌&&◌, List, [], ◌∷◌, map, ℤ, pos, ◌+ℤ◌, Some, None, min, max, refl, ap, sym, arith, ◌∙◌, inl, inr}
use Rattle.std.specs.Prelude.{nat_le, ◌==◌, if◌then◌else◌}
use Rattle.std.proofs.lemmas.Bool.{cases_lt, cases_eq, le-leb, lt-leb, eq-eqb, ne_eqb}
use Rattle.mw_model.specs.declared.offsets.Offset.{Offset}
use Rattle.mw_model.specs.declared.shapes.Kind.TheVariants.{Bit}
use Rattle.mw_model.specs.Pictures.{Picture, sample, sample_at}
use Rattle.mw_model.specs.Flat.{under, least, greatest, erosion, dilation, reflected, opening, closing, threshold, complement, hit_or_miss, set_hit_or_miss}
use Rattle.mw_model.proofs.ImagePlaces.{sample-drawn, sample-redrawn, drawn_same}
use Rattle.mw_model.proofs.Covers.{in_frame, outside, seen, sample_at_in, least_at_most}
use Rattle.mw_model.proofs.ImageOrder.{sample-erosion, sample-dilation}

outside_too : (f g : Picture) → g.width ≡ f.width → g.height ≡ f.height → (column row : ℤ) → sample_at f column row ≡ None → sample_at g column row ≡ None
outside_too f g width height column row none =
    elim (seen g column row) [
      | in_frame u v p q c r is ↦
          let there = sample_at_in f u v (omega arith) (omega arith) in
          let here : sample_at f (pos u) (pos v) ≡ None = rw (c, r) at none in
          absurd (cc)
      | outside is ↦ is
    ]

-- Where g has t of the sample of f at each place, it has t of the samples under the element.
pub under_map : (f g : Picture) (t : ℕ → ℕ) → g.width ≡ f.width → g.height ≡ f.height → ((x y : ℕ) → x < f.width → y < f.height → sample g x y ≡ t (sample f x y))
    → (bs : List Offset) (x y : ℕ) → under g bs x y ≡ map t (under f bs x y)
under_map f g t width height each [] x y = refl
under_map f g t width height each (b ∷ bs) x y =
    elim (seen f (pos x +ℤ b.dx) (pos y +ℤ b.dy)) [
      | in_frame u v p q c r is ↦
          let there : sample_at g (pos x +ℤ b.dx) (pos y +ℤ b.dy) ≡ Some (t (sample f u v)) =
          rw (c, r) (sample_at_in g u v (omega arith) (omega arith) ∙ ap Some (each u v p q)) in
          rw (is, there) (ap (λ (ns : List ℕ). t (sample f u v) ∷ ns) (under_map f g t width height each bs x y))
      | outside is ↦
          let there = outside_too f g width height (pos x +ℤ b.dx) (pos y +ℤ b.dy) is in
          rw (is, there) (under_map f g t width height each bs x y)
    ]

-- 1 for a number of k or more, else 0
abbrev mark : ℕ → ℕ → ℕ
mark k n = if nat_le k n then 1 else 0

marked : (k n : ℕ) → k ≤ n → mark k n ≡ 1
marked k n le = rw (le-leb k n le) refl

unmarked : (k n : ℕ) → n < k → mark k n ≡ 0
unmarked k n lt = rw (lt-leb k n lt) refl

min-mark : (k a b : ℕ) → min (mark k a) (mark k b) ≡ mark k (min a b)
min-mark k a b =
    elim (cases_lt a k) [
      | inl low ↦ rw (unmarked k a low, unmarked k (min a b) (omega arith)) (omega arith)
      | inr high ↦ elim (cases_lt b k) [
        | inl low ↦ rw (marked k a high, unmarked k b low, unmarked k (min a b) (omega arith)) refl
        | inr high_too ↦ rw (marked k a high, marked k b high_too, marked k (min a b) (omega arith)) refl
      ]
    ]

max-mark : (k a b : ℕ) → max (mark k a) (mark k b) ≡ mark k (max a b)
max-mark k a b =
    elim (cases_lt a k) [
      | inr high ↦ elim (cases_lt b k) [
        | inl low ↦ rw (marked k a high, unmarked k b low, marked k (max a b) (omega arith)) refl
        | inr high_too ↦ rw (marked k a high, marked k b high_too, marked k (max a b) (omega arith)) refl
      ]
      | inl low ↦ elim (cases_lt b k) [
        | inl low_too ↦ rw (unmarked k a low, unmarked k b low_too, unmarked k (max a b) (omega arith)) refl
        | inr high ↦ rw (unmarked k a low, marked k b high, marked k (max a b) (omega arith)) refl
      ]
    ]

least-mark : (k top : ℕ) → k ≤ top → (ns : List ℕ) → least 1 (map (mark k) ns) ≡ mark k (least top ns)
least-mark k top le [] = sym (marked k top le)
least-mark k top le (n ∷ ns) = ap (min (mark k n)) (least-mark k top le ns) ∙ min-mark k n (least top ns)

greatest-mark : (k : ℕ) → 1 ≤ k → (ns : List ℕ) → greatest (map (mark k) ns) ≡ mark k (greatest ns)
greatest-mark k le [] = sym (unmarked k 0 (omega arith))
greatest-mark k le (n ∷ ns) = ap (max (mark k n)) (greatest-mark k le ns) ∙ max-mark k n (greatest ns)

under-threshold : (k : ℕ) (f : Picture) (b : List Offset) (x y : ℕ) → under (threshold k f) b x y ≡ map (mark k) (under f b x y)
under-threshold k f b x y = under_map f (threshold k f) (mark k) refl refl (λ x y p q. sample-drawn Bit f.width f.height 1 (λ x y. mark k (sample f x y)) x y p q) b x y

pub threshold-erosion : (k : ℕ) (b : List Offset) (f : Picture) → k ≤ f.maxval → threshold k (erosion b f) ≡ erosion b (threshold k f)
threshold-erosion k b f le =
    drawn_same Bit f.width f.height 1 (λ x y. mark k (sample (erosion b f) x y)) (λ x y. least 1 (under (threshold k f) b x y))
    (λ x y p q. ap (mark k) (sample-erosion b f x y p q) ∙ sym (least-mark k f.maxval le (under f b x y)) ∙ ap (least 1) (sym (under-threshold k f b x y)))

pub threshold-dilation : (k : ℕ) (b : List Offset) (f : Picture) → 1 ≤ k → threshold k (dilation b f) ≡ dilation b (threshold k f)
threshold-dilation k b f le =
    drawn_same Bit f.width f.height 1 (λ x y. mark k (sample (dilation b f) x y)) (λ x y. greatest (under (threshold k f) b x y))
    (λ x y p q. ap (mark k) (sample-dilation b f x y p q) ∙ sym (greatest-mark k le (under f b x y)) ∙ ap greatest (sym (under-threshold k f b x y)))

pub threshold-opening : (k : ℕ) (b : List Offset) (f : Picture) → 1 ≤ k → k ≤ f.maxval → threshold k (opening b f) ≡ opening b (threshold k f)
threshold-opening k b f low high = threshold-dilation k (reflected b) (erosion b f) low ∙ ap (dilation (reflected b)) (threshold-erosion k b f high)

pub threshold-closing : (k : ℕ) (b : List Offset) (f : Picture) → 1 ≤ k → k ≤ f.maxval → threshold k (closing b f) ≡ closing b (threshold k f)
threshold-closing k b f low high = threshold-erosion k (reflected b) (dilation b f) high ∙ ap (erosion (reflected b)) (threshold-dilation k b f low)

-- the erosion of the complement is the complement of the dilation
least-minus : (top : ℕ) (ns : List ℕ) → least top (map (λ n. top - n) ns) ≡ top - greatest ns
least-minus top [] = omega arith
least-minus top (n ∷ ns) = omega (arith, least-minus top ns)

pub erosion-complement : (b : List Offset) (f : Picture) (x y : ℕ) → x < f.width → y < f.height → sample (erosion b (complement f)) x y ≡ f.maxval - sample (dilation b f) x y
erosion-complement b f x y p q =
    sample-erosion b (complement f) x y p q
    ∙ ap (least f.maxval) (under_map f (complement f) (λ n. f.maxval - n) refl refl (λ x y p q. sample-redrawn f (λ x y. f.maxval - sample f x y) x y p q) b x y)
    ∙ least-minus f.maxval (under f b x y)
    ∙ ap (λ (t : ℕ). f.maxval - t) (sym (sample-dilation b f x y p q))

both_ones : (e d c : ℕ) → e ≤ 1 → c ≡ 1 - d → e - d ≡ (if e == 1 && c == 1 then 1 else 0)
both_ones e d c le is =
    elim (cases_eq e 1) [
      | inl one ↦ elim (cases_eq c 1) [
        | inl too ↦ rw (eq-eqb e 1 one, eq-eqb c 1 too) (omega arith)
        | inr not ↦ rw (eq-eqb e 1 one, ne_eqb c 1 not) (omega arith)
      ]
      | inr not ↦ rw (ne_eqb e 1 not) (omega arith)
    ]

pub hit-or-miss_of_set : (hit miss : List Offset) (f : Picture) → f.maxval ≡ 1 → hit_or_miss hit miss f ≡ set_hit_or_miss hit miss f
hit-or-miss_of_set hit miss f one =
    drawn_same f.kind f.width f.height f.maxval
    (λ x y. sample (erosion hit f) x y - sample (dilation miss f) x y)
    (λ x y. if sample (erosion hit f) x y == 1 && sample (erosion miss (complement f)) x y == 1 then 1 else 0)
    (λ x y p q. both_ones (sample (erosion hit f) x y) (sample (dilation miss f) x y) (sample (erosion miss (complement f)) x y)
    (omega (arith, sample-erosion hit f x y p q, least_at_most f.maxval (under f hit x y), one))
    (omega (arith, erosion-complement miss f x y p q, one)))
