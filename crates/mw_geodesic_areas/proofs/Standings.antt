-- How the state stands: at first, when a level is done, and when a place is taken.
use Rattle.std.proofs.Common.{◌≡◌, ◌≢◌, ℕ, ◌+◌, ◌*◌, ◌<◌, ◌≤◌, ◌⊎◌, true, refl, ap, sym, subst, arith, ◌∙◌, inl, inr}
use Rattle.std.specs.Prelude.{◌==◌}
use Rattle.std.proofs.lemmas.Bool.{cases_lt, cases_eq, eq-eqb, ne_eqb, eqb-true}
use Rattle.mw_geodesic_areas.specs.Problems.{Problem, area_at, AreJoined, IsValue, tally_below}
use Rattle.mw_geodesic_areas.specs.Chains.{IsLast}
use Rattle.mw_geodesic_areas.specs.Classes.{WasTaken, SettledAlike, Stands, IsBegun}
use Rattle.mw_geodesic_areas.proofs.Areas.{joined_itself, joined_down, area_low}
use Rattle.mw_geodesic_areas.proofs.Tallies.{tally_one}

pub cases_taken : (levels : ℕ → ℕ) (k m i : ℕ) → WasTaken levels k m i ⊎ (WasTaken levels k m i → ⊥)
cases_taken levels k m i = elim (cases_lt (levels i) k) [
  | inl low ↦ inr (λ t. let high = t.high in absurd (omega arith))
  | inr high ↦ elim (cases_eq (levels i) k) [
    | inr other ↦ inl (record { high = high; after = λ e. absurd (other e) })
    | inl same ↦ elim (cases_lt i m) [
      | inl before ↦ inr (λ t. let after = t.after same in absurd (omega arith))
      | inr from ↦ inl (record { high = high; after = λ e. from })
    ]
  ]
]

-- Where as much is taken at a lower level, the state stands there too.
pub moved : {a : Problem} {c size out : ℕ → ℕ} (k m k' m' : ℕ) → k' ≤ k → ((i : ℕ) → i < a.height * a.width → WasTaken a.levels k m i → WasTaken a.levels k' m' i)
    → ((i : ℕ) → i < a.height * a.width → WasTaken a.levels k' m' i → WasTaken a.levels k m i) → ((x y : ℕ) → x < a.width → y < a.height → y * a.width + x < a.height * a.width)
    → Stands a k m m c size out → Stands a k' m' m' c size out
moved {a} {c} {size} {out} k m k' m' le on back in_frame s = record {
  low = s.low;
  own = s.own;
  alone = λ i lt not. s.alone i lt (λ t. not (on i lt t));
  apart = λ i j lt lt' not e. s.apart i j lt lt' (λ t. not (on i lt t)) e;
  blank = λ i lt not. s.blank i lt (λ t. not (on i lt t));
  chain = λ i lt not. s.chain i lt (λ t. not (on i lt t));
  joined = λ i j lt lt' t e. joined_down a k' k i j le lt' (s.joined i j lt lt' (back i lt t) e);
  counted = λ i lt t. s.counted i lt (back i lt t);
  small = λ i lt t. s.small i lt (back i lt t);
  valued = λ i lt t. s.valued i lt (back i lt t);
  over = λ i lt t some. let was = s.over i lt (back i lt t) some in omega arith;
  closed = λ x y u v p q p' q' covers t t'. s.closed x y u v p q p' q' covers (back _ (in_frame x y p q) t) (back _ (in_frame u v p' q') t');
}

-- before any place is taken
pub stands_first : (a : Problem) (k : ℕ) (size out : ℕ → ℕ) → ((i : ℕ) → i < a.height * a.width → a.levels i < k) → ((x y : ℕ) → x < a.width → y < a.height → y * a.width + x < a.height * a.width)
    → ((i : ℕ) → i < a.height * a.width → out i ≡ 0) → ((i : ℕ) → i < a.height * a.width → IsLast a.levels (a.levels i) i (size i)) → Stands a k 0 0 (λ i. i) size out
stands_first a k size out below in_frame none links = record {
  low = λ i lt. omega arith;
  own = λ i lt. refl;
  alone = λ i lt not. refl;
  apart = λ i j lt lt' not e. e;
  blank = λ i lt not. none i lt;
  chain = λ i lt not. links i lt;
  joined = λ i j lt lt' t e. absurd (let high = t.high in let top = below i lt in omega arith);
  counted = λ i lt t e. absurd (let high = t.high in let top = below i lt in omega arith);
  small = λ i lt t e. absurd (let high = t.high in let top = below i lt in omega arith);
  valued = λ i lt t e. absurd (let high = t.high in let top = below i lt in omega arith);
  over = λ i lt t e. absurd (let high = t.high in let top = below i lt in omega arith);
  closed = λ x y u v p q p' q' covers t t'. absurd (let high = t.high in let top = below _ (in_frame x y p q) in omega arith);
}

-- ---- a place is taken

-- what is taken with it was taken before, or is that place
pub taken_before : (levels : ℕ → ℕ) (k p i : ℕ) → levels p ≡ k → WasTaken levels k p i → WasTaken levels k (p + 1) i ⊎ (i ≡ p)
taken_before levels k p i is t = elim (cases_eq i p) [
  | inl same ↦ inr same
  | inr other ↦ inl (record { high = t.high; after = λ e. let after = t.after e in omega arith })
]

pub taken_more : (levels : ℕ → ℕ) (k p i : ℕ) → WasTaken levels k (p + 1) i → WasTaken levels k p i
taken_more levels k p i t = record { high = t.high; after = λ e. let after = t.after e in omega arith }

-- the place is taken itself
pub taken_here : (levels : ℕ → ℕ) (p : ℕ) → WasTaken levels (levels p) p p
taken_here levels p = record { high = omega arith; after = λ e. omega arith }

not_yet : (levels : ℕ → ℕ) (p : ℕ) → WasTaken levels (levels p) (p + 1) p → ⊥
not_yet levels p t = let after = t.after refl in omega arith

-- the number of places of a class of one
pub lone : (c : ℕ → ℕ) (n p : ℕ) → p < n → c p ≡ p → ((j : ℕ) → j < n → c j ≡ p → j ≡ p) → tally_below (λ j. c j == c p) n ≡ 1
lone c n p lt is apart =
    tally_one (λ j. c j == c p) n p lt (eq-eqb (c p) (c p) refl)
    (λ j lt' ne. ne_eqb (c j) (c p) (λ e. ne (apart j lt' (e ∙ is))))

-- what is known of the place that begins
record Begins (a : Problem) (p : ℕ) (c size out size' out' : ℕ → ℕ) : Type 0 where
  root : c p ≡ p
  apart : (j : ℕ) → j < a.height * a.width → c j ≡ p → j ≡ p
  here : size' p ≡ 1
  sizes : (j : ℕ) → j ≢ p → size' j ≡ size j
  outs : (j : ℕ) → j ≢ p → out' j ≡ out j
  none : 1 < a.least → out' p ≡ 0
  some : a.least ≤ 1 → out' p ≡ a.levels p

begins : (a : Problem) (p : ℕ) (c size out size' out' : ℕ → ℕ) → p < a.height * a.width → Stands a (a.levels p) (p + 1) (p + 1) c size out → IsBegun a.least (a.levels p) p size out size' out' → Begins a p c size out size' out'
begins a p c size out size' out' lt s begun = record {
  root = s.alone p lt (not_yet a.levels p);
  apart = λ j lt' e. s.apart p j lt lt' (not_yet a.levels p) e;
  here = begun.sized.here;
  sizes = begun.sized.others;
  outs = λ j ne. elim (cases_lt 1 a.least) [
    | inl more ↦ ap (λ (f : ℕ → ℕ). f j) (begun.small more)
    | inr less ↦ (begun.large less).others j ne
  ];
  none = λ more. ap (λ (f : ℕ → ℕ). f p) (begun.small more) ∙ s.blank p lt (not_yet a.levels p);
  some = λ less. (begun.large less).here;
}

-- the other classes keep what they have
root_other : (a : Problem) (p i : ℕ) (c size out size' out' : ℕ → ℕ) → i < a.height * a.width → Begins a p c size out size' out' → WasTaken a.levels (a.levels p) (p + 1) i → c i ≢ p
root_other a p i c size out size' out' lt b before = λ e. not_yet a.levels p (subst (λ (n : ℕ). WasTaken a.levels (a.levels p) (p + 1) n) (b.apart i lt e) before)

out_other : (a : Problem) (p i : ℕ) (c size out size' out' : ℕ → ℕ) → i < a.height * a.width → Begins a p c size out size' out' → WasTaken a.levels (a.levels p) (p + 1) i → out' (c i) ≡ out (c i)
out_other a p i c size out size' out' lt b before = b.outs (c i) (root_other a p i c size out size' out' lt b before)

size_other : (a : Problem) (p i : ℕ) (c size out size' out' : ℕ → ℕ) → i < a.height * a.width → Begins a p c size out size' out' → WasTaken a.levels (a.levels p) (p + 1) i → size' (c i) ≡ size (c i)
size_other a p i c size out size' out' lt b before = b.sizes (c i) (root_other a p i c size out size' out' lt b before)

alike_other : (a : Problem) (p i j : ℕ) (c size out size' out' : ℕ → ℕ) → i < a.height * a.width → j < a.height * a.width → Begins a p c size out size' out' → WasTaken a.levels (a.levels p) (p + 1) i → WasTaken a.levels (a.levels p) (p + 1) j
    → SettledAlike out c i j → SettledAlike out' c i j
alike_other a p i j c size out size' out' lt lt' b t t' (inl e) = inl e
alike_other a p i j c size out size' out' lt lt' b t t' (inr both) =
    inr (above (out (c i)) (out' (c i)) both.0 (out_other a p i c size out size' out' lt b t), above (out (c j)) (out' (c j)) both.1 (out_other a p j c size out size' out' lt' b t'))
  where
    above : (m n : ℕ) → 1 ≤ m → n ≡ m → 1 ≤ n
    above m n le e = omega arith

-- a value that the place has is its level
level_begun : (a : Problem) (p : ℕ) (c size out size' out' : ℕ → ℕ) → Begins a p c size out size' out' → 1 ≤ out' p → (a.least ≤ 1) × (out' p ≡ a.levels p)
level_begun a p c size out size' out' b high = elim (cases_lt 1 a.least) [
  | inl more ↦ absurd (let none = b.none more in omega arith)
  | inr less ↦ (less, b.some less)
]

value_begun : (a : Problem) (p : ℕ) → a.least ≤ 1 → 1 ≤ area_at a (a.levels p) p → IsValue a (a.levels p) p
value_begun a p less area = record { low = omega arith; large = omega arith; above = λ k over high. absurd (omega arith) }

here_at : (levels : ℕ → ℕ) (p i : ℕ) → i ≡ p → WasTaken levels (levels p) p i
here_at levels p i e = subst (λ (n : ℕ). WasTaken levels (levels p) p n) (sym e) (taken_here levels p)

-- the place joins itself alone
lone_joined : (a : Problem) (p i j : ℕ) → p < a.height * a.width → i ≡ p → j ≡ p → AreJoined a (a.levels p) i j
lone_joined a p i j lt e e' =
    subst (λ (n : ℕ). AreJoined a (a.levels p) n j) (sym e) (subst (λ (n : ℕ). AreJoined a (a.levels p) p n) (sym e') (joined_itself a (a.levels p) p lt (omega arith)))

same_root : (m n r : ℕ) → (m == n) ≡ true → n ≡ r → m ≡ r
same_root m n r is e = eqb-true m n is ∙ e

lone_area : (a : Problem) (p : ℕ) (c : ℕ → ℕ) → p < a.height * a.width → c p ≡ p → ((j : ℕ) → j < a.height * a.width → c j ≡ p → j ≡ p) → 1 ≤ area_at a (a.levels p) p
lone_area a p c lt root apart =
    let one = lone c (a.height * a.width) p lt root apart in
    let low = area_low a (a.levels p) p (λ j. c j == c p) lt (λ j lt' is. lone_joined a p j p lt (apart j lt' (same_root (c j) (c p) p is root)) refl) in
    omega arith

pub begun_stands : (a : Problem) (p : ℕ) (c size out size' out' : ℕ → ℕ) → p < a.height * a.width → 1 ≤ a.levels p → ((x y : ℕ) → x < a.width → y < a.height → y * a.width + x < a.height * a.width)
    → Stands a (a.levels p) (p + 1) (p + 1) c size out → IsBegun a.least (a.levels p) p size out size' out' → Stands a (a.levels p) p (p + 1) c size' out'
begun_stands a p c size out size' out' within some in_frame s begun =
    let k = a.levels p in
    let b = begins a p c size out size' out' within s begun in
    record {
      low = s.low;
      own = s.own;
      alone = λ i lt not. s.alone i lt (λ t. not (taken_more a.levels k p i t));
      apart = λ i j lt lt' not e. s.apart i j lt lt' (λ t. not (taken_more a.levels k p i t)) e;
      blank = λ i lt not. b.outs i (λ e. not (here_at a.levels p i e)) ∙ s.blank i lt (λ t. not (taken_more a.levels k p i t));
      chain = λ i lt not. subst (λ (n : ℕ). IsLast a.levels (a.levels i) i n) (sym (b.sizes i (λ e. not (here_at a.levels p i e)))) (s.chain i lt (λ t. not (taken_more a.levels k p i t)));
      joined = λ i j lt lt' t e. elim (taken_before a.levels k p i refl t) [
        | inl before ↦ s.joined i j lt lt' before e
        | inr same ↦ lone_joined a p i j within same (b.apart j lt' (sym e ∙ ap c same ∙ b.root))
      ];
      counted = λ i lt t none. elim (taken_before a.levels k p i refl t) [
        | inl before ↦ size_other a p i c size out size' out' lt b before ∙ s.counted i lt before (sym (out_other a p i c size out size' out' lt b before) ∙ none)
        | inr same ↦
            let at : c i ≡ p = ap c same ∙ b.root in
            ap size' at ∙ b.here ∙ sym (lone c (a.height * a.width) p within b.root b.apart) ∙ ap (λ (n : ℕ). tally_below (λ j. c j == n) (a.height * a.width)) (b.root ∙ sym at)
      ];
      small = λ i lt t none. elim (taken_before a.levels k p i refl t) [
        | inl before ↦
            let was = s.small i lt before (sym (out_other a p i c size out size' out' lt b before) ∙ none) in
            omega (arith, size_other a p i c size out size' out' lt b before)
        | inr same ↦
            let at : c i ≡ p = ap c same ∙ b.root in
            let one : size' (c i) ≡ 1 = ap size' at ∙ b.here in
            let zero : out' p ≡ 0 = ap out' (sym at) ∙ none in
            let positive = some in
            elim (cases_lt 1 a.least) [
              | inl more ↦ omega arith
              | inr less ↦ absurd (omega (arith, b.some less))
            ]
      ];
      valued = λ i lt t high. elim (taken_before a.levels k p i refl t) [
        | inl before ↦
            let is = out_other a p i c size out size' out' lt b before in
            subst (λ (n : ℕ). IsValue a n i) (sym is) (s.valued i lt before (omega arith))
        | inr same ↦
            let at : out' (c i) ≡ out' p = ap out' (ap c same ∙ b.root) in
            let is = level_begun a p c size out size' out' b (omega arith) in
            subst (λ (n : ℕ). IsValue a n i) (sym (at ∙ is.1)) (subst (λ (n : ℕ). IsValue a k n) (sym same) (value_begun a p is.0 (lone_area a p c within b.root b.apart)))
      ];
      over = λ i lt t high. elim (taken_before a.levels k p i refl t) [
        | inl before ↦
            let is = out_other a p i c size out size' out' lt b before in
            let was = s.over i lt before (omega arith) in
            omega arith
        | inr same ↦
            let at : out' (c i) ≡ out' p = ap out' (ap c same ∙ b.root) in
            let is = level_begun a p c size out size' out' b (omega arith) in
            omega (arith, is.1)
      ];
      closed = λ x y u v p' q' p'' q'' covers t t'.
          alike_other a p _ _ c size out size' out' (in_frame x y p' q') (in_frame u v p'' q'') b t t' (s.closed x y u v p' q' p'' q'' covers t t');
    }
