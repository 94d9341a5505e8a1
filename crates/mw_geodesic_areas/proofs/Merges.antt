-- Two small classes become one.
use Rattle.std.proofs.Common.{◌≡◌, ◌≢◌, ℕ, ◌+◌, ◌*◌, ◌<◌, ◌≤◌, ap, sym, subst, arith, ◌∙◌, inl, inr}
use Rattle.std.specs.Prelude.{◌==◌}
use Rattle.std.proofs.lemmas.Bool.{cases_eq, eq-eqb, ne_eqb}
use Rattle.mw_geodesic.specs.Neighbours.{IsSymmetric}
use Rattle.mw_geodesic_levels.specs.Levels.{IsPut}
use Rattle.mw_geodesic_areas.specs.Problems.{Problem, AreJoined, IsValue, tally_below}
use Rattle.mw_geodesic_areas.specs.Forests.{merged}
use Rattle.mw_geodesic_areas.specs.Chains.{IsLast}
use Rattle.mw_geodesic_areas.specs.Classes.{WasTaken, SettledAlike, Stands}
use Rattle.mw_geodesic_areas.proofs.Areas.{joined_on, joined_back}
use Rattle.mw_geodesic_areas.proofs.Roots.{cases_merged, moved, kept, merged_alike}
use Rattle.mw_geodesic_areas.proofs.Settlings.{root_taken}
use Rattle.mw_geodesic_areas.proofs.Tallies.{bit, bit_true, bit_false, tally_sum, tally_same}

-- ---- how many places two classes have together

pub tally_merged : (c : ℕ → ℕ) (r t n : ℕ) → r ≢ t → tally_below (λ j. merged c r t j == r) n ≡ tally_below (λ j. c j == r) n + tally_below (λ j. c j == t) n
tally_merged c r t n apart = tally_sum (λ j. c j == r) (λ j. c j == t) (λ j. merged c r t j == r) n (λ i lt. elim (cases_merged c r t i) [
  | moved e is ↦
      let one = bit_true (merged c r t i == r) (eq-eqb (merged c r t i) r is) in
      let none = bit_false (c i == r) (ne_eqb (c i) r (λ d. apart (sym d ∙ e))) in
      let other = bit_true (c i == t) (eq-eqb (c i) t e) in
      omega arith
  | kept ne is ↦
      let same : bit (merged c r t i == r) ≡ bit (c i == r) = ap (λ (u : ℕ). bit (u == r)) is in
      let none = bit_false (c i == t) (ne_eqb (c i) t ne) in
      omega arith
])

-- the other classes have the places that they had
tally_kept : (c : ℕ → ℕ) (r t n u : ℕ) → u ≢ r → u ≢ t → tally_below (λ j. merged c r t j == u) n ≡ tally_below (λ j. c j == u) n
tally_kept c r t n u other other' = tally_same (λ j. merged c r t j == u) (λ j. c j == u) n (λ i lt. elim (cases_merged c r t i) [
  | moved e is ↦ ne_eqb (merged c r t i) u (λ d. other (sym d ∙ is)) ∙ sym (ne_eqb (c i) u (λ d. other' (sym d ∙ e)))
  | kept ne is ↦ ap (λ (v : ℕ). v == u) is
])

-- ---- the state

pub record Mergers (a : Problem) (k m p q r t : ℕ) (c size out size' : ℕ → ℕ) : Type 0 where
  pub first : p < a.height * a.width
  pub second : q < a.height * a.width
  pub taken : WasTaken a.levels k m p
  pub taken' : WasTaken a.levels k m q
  pub root : c p ≡ r
  pub root' : c q ≡ t
  pub less : r < t
  pub none : out r ≡ 0
  pub none' : out t ≡ 0
  pub small : size r + size t < a.least
  pub put : IsPut (size r + size t) r size size'
  pub joined : AreJoined a k p q
  pub turns : IsSymmetric a.around

-- where a class is the joint one
data Joint (c size' : ℕ → ℕ) (r t i : ℕ) (size : ℕ → ℕ) : Type 0 where
  joint : merged c r t i ≡ r → Joint c size' r t i size
  other : merged c r t i ≡ c i → c i ≢ r → c i ≢ t → Joint c size' r t i size

cases_joint : (c size' : ℕ → ℕ) (r t i : ℕ) (size : ℕ → ℕ) → Joint c size' r t i size
cases_joint c size' r t i size = elim (cases_merged c r t i) [
  | moved e is ↦ joint is
  | kept ne is ↦ elim (cases_eq (c i) r) [
    | inl e ↦ joint (is ∙ e)
    | inr ne' ↦ other is ne' ne
  ]
]

apart_roots : (r t : ℕ) → r < t → r ≢ t
apart_roots r t less e = absurd (omega arith)

-- places of the joint class join one another
merged_joined : (a : Problem) (k m s p q r t : ℕ) (c size out size' : ℕ → ℕ) → Mergers a k m p q r t c size out size' → Stands a k m s c size out → (i j : ℕ) → i < a.height * a.width → j < a.height * a.width → WasTaken a.levels k m i
    → merged c r t i ≡ merged c r t j → AreJoined a k i j
merged_joined a k m s p q r t c size out size' g stands i j lt lt' taken e = elim (cases_merged c r t i) [
  | moved ei is ↦ elim (cases_merged c r t j) [
    | moved ej is' ↦ stands.joined i j lt lt' taken (ei ∙ sym ej)
    | kept ne is' ↦
        let to : c p ≡ c j = g.root ∙ sym is ∙ e ∙ is' in
        joined_on a k i q j (stands.joined i q lt g.second taken (ei ∙ sym g.root')) (joined_on a k q p j (joined_back a k p q g.turns g.joined) (stands.joined p j g.first lt' g.taken to))
  ]
  | kept ne is ↦ elim (cases_merged c r t j) [
    | kept ne' is' ↦ stands.joined i j lt lt' taken (sym is ∙ e ∙ is')
    | moved ej is' ↦
        let from : c i ≡ c p = sym is ∙ e ∙ is' ∙ sym g.root in
        joined_on a k i p j (stands.joined i p lt g.first taken from) (joined_on a k p q j g.joined (stands.joined q j g.second lt' g.taken' (g.root' ∙ sym ej)))
  ]
]

merged_counted : (a : Problem) (k m s p q r t : ℕ) (c size out size' : ℕ → ℕ) → Mergers a k m p q r t c size out size' → Stands a k m s c size out → (i : ℕ) → i < a.height * a.width → WasTaken a.levels k m i
    → out (merged c r t i) ≡ 0 → size' (merged c r t i) ≡ tally_below (λ j. merged c r t j == merged c r t i) (a.height * a.width)
merged_counted a k m s p q r t c size out size' g stands i lt taken none = elim (cases_joint c size' r t i size) [
  | joint is ↦
      let first : size r ≡ tally_below (λ j. c j == r) (a.height * a.width) = subst (λ (u : ℕ). size u ≡ tally_below (λ j. c j == u) (a.height * a.width)) g.root (stands.counted p g.first g.taken (ap out g.root ∙ g.none)) in
      let second : size t ≡ tally_below (λ j. c j == t) (a.height * a.width) = subst (λ (u : ℕ). size u ≡ tally_below (λ j. c j == u) (a.height * a.width)) g.root' (stands.counted q g.second g.taken' (ap out g.root' ∙ g.none')) in
      let whole : size' r ≡ tally_below (λ j. merged c r t j == r) (a.height * a.width) = omega (arith, g.put.here, tally_merged c r t (a.height * a.width) (apart_roots r t g.less)) in
      subst (λ (u : ℕ). size' u ≡ tally_below (λ j. merged c r t j == u) (a.height * a.width)) (sym is) whole
  | other is ne ne' ↦
      let was : size (c i) ≡ tally_below (λ j. c j == c i) (a.height * a.width) = stands.counted i lt taken (sym (ap out is) ∙ none) in
      let now : size' (c i) ≡ tally_below (λ j. merged c r t j == c i) (a.height * a.width) = g.put.others (c i) ne ∙ was ∙ sym (tally_kept c r t (a.height * a.width) (c i) ne ne') in
      subst (λ (u : ℕ). size' u ≡ tally_below (λ j. merged c r t j == u) (a.height * a.width)) (sym is) now
]

pub merged_stays : (c out : ℕ → ℕ) (r t i j : ℕ) → out t ≡ 0 → SettledAlike out c i j → SettledAlike out (merged c r t) i j
merged_stays c out r t i j none (inl e) = inl (merged_alike c r t i j e)
merged_stays c out r t i j none (inr both) = inr (high i both.0, high j both.1)
  where
    high : (i : ℕ) → 1 ≤ out (c i) → 1 ≤ out (merged c r t i)
    high i some = elim (cases_merged c r t i) [
      | moved e is ↦ absurd (let zero : out (c i) ≡ 0 = ap out e ∙ none in omega arith)
      | kept ne is ↦ let same : out (merged c r t i) ≡ out (c i) = ap out is in omega arith
    ]

pub merged_stands : (a : Problem) (k m s p q r t : ℕ) (c size out size' : ℕ → ℕ) → Mergers a k m p q r t c size out size' → Stands a k m s c size out → Stands a k m s (merged c r t) size' out
merged_stands a k m s p q r t c size out size' g stands =
    let apart : r ≢ t = apart_roots r t g.less in
    let less = g.less in
    let root_r : c r ≡ r = ap c (sym g.root) ∙ stands.own p g.first ∙ g.root in
    let not_r : (j : ℕ) → j < a.height * a.width → (WasTaken a.levels k m j → ⊥) → j ≢ r = λ j lt not e. root_taken a k m s p c size out g.first g.taken stands j lt not (e ∙ sym g.root) in
    let not_t : (j : ℕ) → j < a.height * a.width → (WasTaken a.levels k m j → ⊥) → j ≢ t = λ j lt not e. root_taken a k m s q c size out g.second g.taken' stands j lt not (e ∙ sym g.root') in
    record {
      low = λ i lt. let was = stands.low i lt in elim (cases_merged c r t i) [ moved e is ↦ omega arith | kept ne is ↦ omega arith ];
      own = λ i lt. elim (cases_merged c r t i) [
        | moved e is ↦ ap (merged c r t) is ∙ top_of c r t root_r apart ∙ sym is
        | kept ne is ↦ ap (merged c r t) is ∙ kept_of c r t (c i) (λ e. ne (sym (stands.own i lt) ∙ e)) ∙ stands.own i lt ∙ sym is
      ];
      alone = λ i lt not. elim (cases_merged c r t i) [
        | moved e is ↦ absurd (not_t i lt not (sym (stands.alone i lt not) ∙ e))
        | kept ne is ↦ is ∙ stands.alone i lt not
      ];
      apart = λ i j lt lt' not e. elim (cases_merged c r t j) [
        | moved e' is ↦ absurd (not_r i lt not (sym e ∙ is))
        | kept ne is ↦ stands.apart i j lt lt' not (sym is ∙ e)
      ];
      blank = stands.blank;
      chain = λ i lt not. subst (λ (n : ℕ). IsLast a.levels (a.levels i) i n) (sym (g.put.others i (not_r i lt not))) (stands.chain i lt not);
      joined = merged_joined a k m s p q r t c size out size' g stands;
      counted = merged_counted a k m s p q r t c size out size' g stands;
      small = λ i lt taken none. elim (cases_joint c size' r t i size) [
        | joint is ↦ let whole : size' (merged c r t i) ≡ size r + size t = ap size' is ∙ g.put.here in let few = g.small in omega arith
        | other is ne ne' ↦
            let was = stands.small i lt taken (sym (ap out is) ∙ none) in
            let same : size' (merged c r t i) ≡ size (c i) = ap size' is ∙ g.put.others (c i) ne in
            omega arith
      ];
      valued = λ i lt taken some. elim (cases_joint c size' r t i size) [
        | joint is ↦ absurd (let zero : out (merged c r t i) ≡ 0 = ap out is ∙ g.none in omega arith)
        | other is ne ne' ↦
            let same : out (merged c r t i) ≡ out (c i) = ap out is in
            subst (λ (n : ℕ). IsValue a n i) (sym same) (stands.valued i lt taken (omega arith))
      ];
      over = λ i lt taken some. elim (cases_joint c size' r t i size) [
        | joint is ↦ absurd (let zero : out (merged c r t i) ≡ 0 = ap out is ∙ g.none in omega arith)
        | other is ne ne' ↦
            let same : out (merged c r t i) ≡ out (c i) = ap out is in
            let was = stands.over i lt taken (omega arith) in
            omega arith
      ];
      closed = λ x y u v b d b' d' covers taken taken'. merged_stays c out r t _ _ g.none' (stands.closed x y u v b d b' d' covers taken taken');
    }
  where
    top_of : (c : ℕ → ℕ) (r t : ℕ) → c r ≡ r → r ≢ t → merged c r t r ≡ r
    top_of c r t root ne = elim (cases_merged c r t r) [ moved e is ↦ is | kept ne' is ↦ is ∙ root ]

    kept_of : (c : ℕ → ℕ) (r t i : ℕ) → c i ≢ t → merged c r t i ≡ c i
    kept_of c r t i ne = elim (cases_merged c r t i) [ moved e is ↦ absurd (ne e) | kept ne' is ↦ is ]
