-- What an element covers, and the extrema under it.
use Rattle.std.proofs.Common.{◌≡◌, ℕ, ◌<◌, ◌≤◌, ◌⊎◌, List, [], ◌∷◌, ℤ, pos, negsuc, ◌+ℤ◌, neg_ℤ, Option, Some, None, refl, arith, inl, inr}
use Rattle.std.specs.List.{cons_option}
use Rattle.std.proofs.lemmas.Bool.{cases_lt, lt-ltb, le-ltb}
use Rattle.std.proofs.lemmas.Int.{ints}
use Rattle.mw_model.specs.declared.offsets.Offset.{Offset}
use Rattle.mw_model.specs.Pictures.{Picture, sample, sample_at}
use Rattle.mw_model.specs.Flat.{under, least, greatest, reflected}

-- an offset by its two numbers
abbrev pub offset : ℤ → ℤ → Offset
offset x y = record { dx = x; dy = y }

pub offset-same : (x y z w : ℤ) → x ≡ z → y ≡ w → offset x y ≡ offset z w
offset-same x y z w p q = cc

-- the element placed at (x, y) covers (u, v)
abbrev pub Covers : List Offset → ℕ → ℕ → ℕ → ℕ → Type 0
Covers [] x y u v = ⊥
Covers (b ∷ bs) x y u v = ((pos x +ℤ b.dx ≡ pos u) × (pos y +ℤ b.dy ≡ pos v)) ⊎ Covers bs x y u v

-- the second element covers backwards what the first covers
abbrev pub IsTurned : List Offset → List Offset → Type 0
IsTurned b c = (x y u v : ℕ) → Covers b x y u v → Covers c u v x y

reflected-leads_back : (x u : ℕ) (d : ℤ) → pos x +ℤ d ≡ pos u → pos u +ℤ neg_ℤ d ≡ pos x
reflected-leads_back x u d e = omega (arith, ints)

turn_back : (x u : ℕ) (d : ℤ) → pos x +ℤ neg_ℤ d ≡ pos u → pos u +ℤ d ≡ pos x
turn_back x u d e = omega (arith, ints)

pub reflected-IsTurned : (bs : List Offset) → IsTurned bs (reflected bs)
reflected-IsTurned [] x y u v c = c
reflected-IsTurned (b ∷ bs) x y u v (inl e) = inl (reflected-leads_back x u b.dx e.0, reflected-leads_back y v b.dy e.1)
reflected-IsTurned (b ∷ bs) x y u v (inr c) = inr (reflected-IsTurned bs x y u v c)

pub turned_back : (bs : List Offset) → IsTurned (reflected bs) bs
turned_back [] x y u v c = c
turned_back (b ∷ bs) x y u v (inl e) = inl (turn_back x u b.dx e.0, turn_back y v b.dy e.1)
turned_back (b ∷ bs) x y u v (inr c) = inr (turned_back bs x y u v c)

-- a place of the plane is in the frame, or has no sample
pub data Seen (f : Picture) (column row : ℤ) : Type 0 where
  in_frame : (u v : ℕ) → u < f.width → v < f.height → column ≡ pos u → row ≡ pos v → sample_at f column row ≡ Some (sample f u v) → Seen f column row
  outside : sample_at f column row ≡ None → Seen f column row

pub sample_at_in : (f : Picture) (u v : ℕ) → u < f.width → v < f.height → sample_at f (pos u) (pos v) ≡ Some (sample f u v)
sample_at_in f u v p q = rw (lt-ltb u f.width p, lt-ltb v f.height q) refl

pub seen : (f : Picture) (column row : ℤ) → Seen f column row
seen f (negsuc x) row = outside refl
seen f (pos x) (negsuc y) = outside refl
seen f (pos x) (pos y) =
    elim (cases_lt x f.width) [
      | inr past ↦ outside (rw (le-ltb x f.width past) refl)
      | inl p ↦ elim (cases_lt y f.height) [
        | inr past ↦ outside (rw (lt-ltb x f.width p, le-ltb y f.height past) refl)
        | inl q ↦ in_frame x y p q refl refl (sample_at_in f x y p q)
      ]
    ]

-- The least under the element is at most each sample that it covers.
pub least_below : (f : Picture) (bs : List Offset) (top x y u v : ℕ) → u < f.width → v < f.height → Covers bs x y u v → least top (under f bs x y) ≤ sample f u v
least_below f [] top x y u v p q c = absurd c
least_below f (b ∷ bs) top x y u v p q (inl e) =
    let there : sample_at f (pos x +ℤ b.dx) (pos y +ℤ b.dy) ≡ Some (sample f u v) = rw (e.0, e.1) (sample_at_in f u v p q) in
    rw there (omega arith)
least_below f (b ∷ bs) top x y u v p q (inr c) = first top (sample f u v) _ (sample_at f (pos x +ℤ b.dx) (pos y +ℤ b.dy)) (least_below f bs top x y u v p q c)
  where
    first : (top s : ℕ) (ns : List ℕ) (o : Option ℕ) → least top ns ≤ s → least top (cons_option o ns) ≤ s
    first top s ns None h = h
    first top s ns (Some n) h = omega arith

-- What is at most the top and each sample that the element covers is at most the least of them.
pub below_least : (f : Picture) (bs : List Offset) (top x y t : ℕ) → t ≤ top → ((u v : ℕ) → u < f.width → v < f.height → Covers bs x y u v → t ≤ sample f u v) → t ≤ least top (under f bs x y)
below_least f [] top x y t le each = le
below_least f (b ∷ bs) top x y t le each =
    let rest = below_least f bs top x y t le (λ u v p q c. each u v p q (inr c)) in
    elim (seen f (pos x +ℤ b.dx) (pos y +ℤ b.dy)) [
      | in_frame u v p q column row is ↦ rw is (let this = each u v p q (inl (column, row)) in omega arith)
      | outside is ↦ rw is rest
    ]

-- Each sample that the element covers is at most the greatest under it.
pub below_greatest : (f : Picture) (bs : List Offset) (x y u v : ℕ) → u < f.width → v < f.height → Covers bs x y u v → sample f u v ≤ greatest (under f bs x y)
below_greatest f [] x y u v p q c = absurd c
below_greatest f (b ∷ bs) x y u v p q (inl e) =
    let there : sample_at f (pos x +ℤ b.dx) (pos y +ℤ b.dy) ≡ Some (sample f u v) = rw (e.0, e.1) (sample_at_in f u v p q) in
    rw there (omega arith)
below_greatest f (b ∷ bs) x y u v p q (inr c) = first (sample f u v) _ (sample_at f (pos x +ℤ b.dx) (pos y +ℤ b.dy)) (below_greatest f bs x y u v p q c)
  where
    first : (s : ℕ) (ns : List ℕ) (o : Option ℕ) → s ≤ greatest ns → s ≤ greatest (cons_option o ns)
    first s ns None h = h
    first s ns (Some n) h = omega arith

-- What is at least each sample that the element covers is at least the greatest of them.
pub greatest_below : (f : Picture) (bs : List Offset) (x y t : ℕ) → ((u v : ℕ) → u < f.width → v < f.height → Covers bs x y u v → sample f u v ≤ t) → greatest (under f bs x y) ≤ t
greatest_below f [] x y t each = omega arith
greatest_below f (b ∷ bs) x y t each =
    let rest = greatest_below f bs x y t (λ u v p q c. each u v p q (inr c)) in
    elim (seen f (pos x +ℤ b.dx) (pos y +ℤ b.dy)) [
      | in_frame u v p q column row is ↦ rw is (let this = each u v p q (inl (column, row)) in omega arith)
      | outside is ↦ rw is rest
    ]

-- The least is at most the top.
pub least_at_most : (top : ℕ) (ns : List ℕ) → least top ns ≤ top
least_at_most top [] = omega arith
least_at_most top (n ∷ ns) = omega (arith, least_at_most top ns)
