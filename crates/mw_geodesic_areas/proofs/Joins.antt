-- What becomes of the classes of two neighbours.
use Rattle.std.proofs.Common.{◌≡◌, ◌≢◌, ℕ, ◌+◌, ◌*◌, ◌<◌, ◌≤◌, Bool, true, false, List, length, set, ap, sym, subst, arith, ◌∙◌, inl, inr}
use Rattle.std.specs.Prelude.{◌==◌}
use Rattle.std.proofs.lemmas.Bool.{eqb-true}
use Rattle.mw_geodesic.specs.Neighbours.{IsSymmetric}
use Rattle.mw_geodesic_levels.specs.Levels.{IsPut}
use Rattle.mw_geodesic_areas.specs.Problems.{Problem, area_at, AreJoined, tally_below}
use Rattle.mw_geodesic_areas.specs.Forests.{AreRoots, KeepsRoots, merged}
use Rattle.mw_geodesic_areas.specs.Classes.{WasTaken, SettledAlike, Stands, HasItsLevel, IsLargeBy, IsSmallBy, first, second, together, HasMet, Meets}
use Rattle.mw_geodesic_areas.proofs.Areas.{joined_on, joined_back, joined_itself, area_low, area_rises}
use Rattle.mw_geodesic_areas.proofs.Roots.{cases_merged, moved, kept, merged_roots}
use Rattle.mw_geodesic_areas.proofs.Settlings.{settled}
use Rattle.mw_geodesic_areas.proofs.Standings.{taken_here}
use Rattle.mw_geodesic_areas.proofs.Merges.{Mergers, merged_stands, merged_stays, tally_merged}

-- two places that are to meet
pub record Meeting (a : Problem) (k m s p q r t : ℕ) (c size out : ℕ → ℕ) : Type 0 where
  pub some : 1 ≤ k
  pub first : p < a.height * a.width
  pub second : q < a.height * a.width
  pub taken : WasTaken a.levels k m p
  pub taken' : WasTaken a.levels k m q
  pub root : c p ≡ r
  pub root' : c q ≡ t
  pub joined : AreJoined a k p q
  pub turns : IsSymmetric a.around
  pub stands : Stands a k m s c size out

pub alike_back : (c out : ℕ → ℕ) (i j : ℕ) → SettledAlike out c i j → SettledAlike out c j i
alike_back c out i j (inl e) = inl (sym e)
alike_back c out i j (inr both) = inr (both.1, both.0)

-- their roots are one
pub met_same : (Needed : Type 0) (a : Problem) (k m s p q r t : ℕ) (c size out : ℕ → ℕ) (parent : List ℕ) → Meeting a k m s p q r t c size out → r ≡ t → AreRoots parent c → HasMet a k m s Needed p q c out parent size out
met_same Needed a k m s p q r t c size out parent g same are = record {
  roots = c;
  are = are;
  stands = g.stands;
  keeps = λ i j lt lt' alike. alike;
  here = λ n. inl (g.root ∙ same ∙ sym g.root');
}

-- ---- they are large together

-- a place whose class is large among the places that join it
together_large : (a : Problem) (k m s p q r t : ℕ) (c size out : ℕ → ℕ) → Meeting a k m s p q r t c size out → r ≢ t → out r ≡ 0 → out t ≡ 0 → a.least ≤ size r + size t → a.least ≤ area_at a k p
together_large a k m s p q r t c size out g ne none none' large =
    let one : size r ≡ tally_below (λ j. c j == r) (a.height * a.width) = subst (λ (u : ℕ). size u ≡ tally_below (λ j. c j == u) (a.height * a.width)) g.root (g.stands.counted p g.first g.taken (ap out g.root ∙ none)) in
    let two : size t ≡ tally_below (λ j. c j == t) (a.height * a.width) = subst (λ (u : ℕ). size u ≡ tally_below (λ j. c j == u) (a.height * a.width)) g.root' (g.stands.counted q g.second g.taken' (ap out g.root' ∙ none')) in
    let low = area_low a k p (λ j. merged c r t j == r) g.first (λ j lt is. joins j lt (eqb-true (merged c r t j) r is)) in
    omega (arith, tally_merged c r t (a.height * a.width) ne)
  where
    joins : (j : ℕ) → j < a.height * a.width → merged c r t j ≡ r → AreJoined a k j p
    joins j lt e = elim (cases_merged c r t j) [
      | moved e' is ↦ joined_back a k p j g.turns (joined_on a k p q j g.joined (g.stands.joined q j g.second lt g.taken' (g.root' ∙ sym e')))
      | kept ne' is ↦ joined_back a k p j g.turns (g.stands.joined p j g.first lt g.taken (g.root ∙ sym e ∙ is))
    ]

large_here : (a : Problem) (k m s p q r t : ℕ) (c size out : ℕ → ℕ) → Meeting a k m s p q r t c size out → r ≢ t → IsLargeBy a.least r t size out → a.least ≤ area_at a k p
large_here a k m s p q r t c size out g ne (first full) =
    let some : 1 ≤ out (c p) = rw g.root full in
    let value = g.stands.valued p g.first g.taken some in
    let over = g.stands.over p g.first g.taken some in
    let high = g.taken.high in
    let rises = area_rises a k (out (c p)) p p over g.first g.first (joined_itself a k p g.first high) in
    let large = value.large in
    omega arith
large_here a k m s p q r t c size out g ne (second full) =
    let some : 1 ≤ out (c q) = rw g.root' full in
    let value = g.stands.valued q g.second g.taken' some in
    let over = g.stands.over q g.second g.taken' some in
    let rises = area_rises a k (out (c q)) p q over g.first g.second (joined_back a k p q g.turns g.joined) in
    let large = value.large in
    omega arith
large_here a k m s p q r t c size out g ne (together none none' large) = together_large a k m s p q r t c size out g ne none none' large

pub met_large : (Needed : Type 0) (a : Problem) (k m s p q r t : ℕ) (c size out out' out'' : ℕ → ℕ) (parent : List ℕ) → Meeting a k m s p q r t c size out → r ≢ t → IsLargeBy a.least r t size out → AreRoots parent c
    → HasItsLevel k r out out' → HasItsLevel k t out' out'' → HasMet a k m s Needed p q c out parent size out''
met_large Needed a k m s p q r t c size out out' out'' parent g ne large are one two =
    let here = large_here a k m s p q r t c size out g ne large in
    let there = area_rises a k k q p (omega arith) g.second g.first g.joined in
    let x = settled a k m s p r c size out out' g.some g.first g.taken g.root here one g.stands in
    let y = settled a k m s q t c size out' out'' g.some g.second g.taken' g.root' (omega arith) two x.stands in
    record {
      roots = c;
      are = are;
      stands = y.stands;
      keeps = λ i j lt lt' alike. y.alike i j (x.alike i j alike);
      here = λ n. inr (rw g.root (y.stays r x.full), rw g.root' y.full);
    }

-- ---- they become one

pub met_merged : (Needed : Type 0) (a : Problem) (k m s p q r t : ℕ) (c size out size' : ℕ → ℕ) (parent : List ℕ) → Meeting a k m s p q r t c size out → r < t → t < length parent → IsSmallBy a.least r t size out → AreRoots parent c
    → length parent ≡ a.height * a.width → IsPut (size r + size t) r size size' → HasMet a k m s Needed p q c out (set parent t r) size' out
met_merged Needed a k m s p q r t c size out size' parent g less within small are whole put =
    let own_r : c r ≡ r = ap c (sym g.root) ∙ g.stands.own p g.first ∙ g.root in
    let own_t : c t ≡ t = ap c (sym g.root') ∙ g.stands.own q g.second ∙ g.root' in
    let mergers : Mergers a k m p q r t c size out size' = record {
      first = g.first;
      second = g.second;
      taken = g.taken;
      taken' = g.taken';
      root = g.root;
      root' = g.root';
      less = less;
      none = small.first;
      none' = small.second;
      small = small.small;
      put = put;
      joined = g.joined;
      turns = g.turns;
    } in
    record {
      roots = merged c r t;
      are = merged_roots parent r t c less within own_r own_t are;
      stands = merged_stands a k m s p q r t c size out size' mergers g.stands;
      keeps = λ i j lt lt' alike. merged_stays c out r t i j small.second alike;
      here = λ n. inl (first_joins c r t p g.root ∙ sym (second_joins c r t q g.root'));
    }
  where
    first_joins : (c : ℕ → ℕ) (r t p : ℕ) → c p ≡ r → merged c r t p ≡ r
    first_joins c r t p e = elim (cases_merged c r t p) [ moved e' is ↦ is | kept ne is ↦ is ∙ e ]

    second_joins : (c : ℕ → ℕ) (r t q : ℕ) → c q ≡ t → merged c r t q ≡ r
    second_joins c r t q e = elim (cases_merged c r t q) [ moved e' is ↦ is | kept ne is ↦ absurd (ne e) ]

pub small_turned : (least r t : ℕ) (size out : ℕ → ℕ) → IsSmallBy least r t size out → IsSmallBy least t r size out
small_turned least r t size out small = let few = small.small in record { first = small.second; second = small.first; small = omega arith }

pub meeting_turned : (a : Problem) (k m s p q r t : ℕ) (c size out : ℕ → ℕ) → Meeting a k m s p q r t c size out → Meeting a k m s q p t r c size out
meeting_turned a k m s p q r t c size out g = record {
  some = g.some;
  first = g.second;
  second = g.first;
  taken = g.taken';
  taken' = g.taken;
  root = g.root';
  root' = g.root;
  joined = joined_back a k p q g.turns g.joined;
  turns = g.turns;
  stands = g.stands;
}

-- the other root is the lesser one
pub met_turned : (Needed : Type 0) (a : Problem) (k m s p q : ℕ) (c out size' out' : ℕ → ℕ) (parent : List ℕ) → HasMet a k m s Needed q p c out parent size' out' → HasMet a k m s Needed p q c out parent size' out'
met_turned Needed a k m s p q c out size' out' parent met = record {
  roots = met.roots;
  are = met.are;
  stands = met.stands;
  keeps = met.keeps;
  here = λ n. alike_back met.roots out' q p (met.here n);
}

-- ---- by the roots that were found

pub record Found (parent parent' : List ℕ) (p q r t : ℕ) : Type 0 where
  pub keeps : KeepsRoots parent parent'
  pub root : (c : ℕ → ℕ) → AreRoots parent c → c p ≡ r
  pub root' : (c : ℕ → ℕ) → AreRoots parent c → c q ≡ t

pub found_both : (parent mid parent' : List ℕ) (p q r t : ℕ) → KeepsRoots parent mid → KeepsRoots mid parent' → ((c : ℕ → ℕ) → AreRoots parent c → r ≡ c p) → ((c : ℕ → ℕ) → AreRoots mid c → t ≡ c q) → Found parent parent' p q r t
found_both parent mid parent' p q r t one two root root' = record {
  keeps = λ c are. two c (one c are);
  root = λ c are. sym (root c are);
  root' = λ c are. sym (root' c (one c are));
}

meeting_of : (a : Problem) (p q r t : ℕ) (c size out : ℕ → ℕ) (parent parent' : List ℕ) → p < a.height * a.width → q < a.height * a.width → IsSymmetric a.around → Found parent parent' p q r t → AreRoots parent c → 1 ≤ a.levels p
    → Stands a (a.levels p) p (p + 1) c size out → WasTaken a.levels (a.levels p) p q → AreJoined a (a.levels p) p q → Meeting a (a.levels p) p (p + 1) p q r t c size out
meeting_of a p q r t c size out parent parent' lt lt' turns found are some stands taken joined = record {
  some = some;
  first = lt;
  second = lt';
  taken = taken_here a.levels p;
  taken' = taken;
  root = found.root c are;
  root' = found.root' c are;
  joined = joined;
  turns = turns;
  stands = stands;
}

pub meets_same : (a : Problem) (p q r t : ℕ) (size out : ℕ → ℕ) (parent parent' : List ℕ) → p < a.height * a.width → q < a.height * a.width → IsSymmetric a.around → Found parent parent' p q r t → r ≡ t
    → Meets a p q (Unit {0}) parent size out parent' size out
meets_same a p q r t size out parent parent' lt lt' turns found same = λ c are some stands to joins.
    met_same (Unit {0}) a (a.levels p) p (p + 1) p q r t c size out parent' (meeting_of a p q r t c size out parent parent' lt lt' turns found are some stands (to tt) (joins tt)) same (found.keeps c are)

pub meets_large : (a : Problem) (p q r t : ℕ) (size out out' out'' : ℕ → ℕ) (parent parent' : List ℕ) → p < a.height * a.width → q < a.height * a.width → IsSymmetric a.around → Found parent parent' p q r t → r ≢ t → IsLargeBy a.least r t size out
    → HasItsLevel (a.levels p) r out out' → HasItsLevel (a.levels p) t out' out'' → Meets a p q (Unit {0}) parent size out parent' size out''
meets_large a p q r t size out out' out'' parent parent' lt lt' turns found ne large one two = λ c are some stands to joins.
    met_large (Unit {0}) a (a.levels p) p (p + 1) p q r t c size out out' out'' parent' (meeting_of a p q r t c size out parent parent' lt lt' turns found are some stands (to tt) (joins tt)) ne large (found.keeps c are) one two

pub meets_merged : (a : Problem) (p q r t : ℕ) (size out size' : ℕ → ℕ) (parent parent' parent'' : List ℕ) → p < a.height * a.width → q < a.height * a.width → IsSymmetric a.around → Found parent parent' p q r t → r < t → t < length parent'
    → length parent' ≡ a.height * a.width → IsSmallBy a.least r t size out → IsPut (size r + size t) r size size' → parent'' ≡ set parent' t r → Meets a p q (Unit {0}) parent size out parent'' size' out
meets_merged a p q r t size out size' parent parent' parent'' lt lt' turns found less within whole small put is = λ c are some stands to joins.
    subst (λ (l : List ℕ). HasMet a (a.levels p) p (p + 1) (Unit {0}) p q c out l size' out) (sym is)
    (met_merged (Unit {0}) a (a.levels p) p (p + 1) p q r t c size out size' parent' (meeting_of a p q r t c size out parent parent' lt lt' turns found are some stands (to tt) (joins tt)) less within small (found.keeps c are) whole put)

pub meets_turned : (a : Problem) (p q r t : ℕ) (size out size' : ℕ → ℕ) (parent parent' parent'' : List ℕ) → p < a.height * a.width → q < a.height * a.width → IsSymmetric a.around → Found parent parent' p q r t → t < r → r < length parent'
    → length parent' ≡ a.height * a.width → IsSmallBy a.least r t size out → IsPut (size t + size r) t size size' → parent'' ≡ set parent' r t → Meets a p q (Unit {0}) parent size out parent'' size' out
meets_turned a p q r t size out size' parent parent' parent'' lt lt' turns found less within whole small put is = λ c are some stands to joins.
    let g = meeting_of a p q r t c size out parent parent' lt lt' turns found are some stands (to tt) (joins tt) in
    let met = met_merged (Unit {0}) a (a.levels p) p (p + 1) q p t r c size out size' parent' (meeting_turned a (a.levels p) p (p + 1) p q r t c size out g) less within (small_turned a.least r t size out small) (found.keeps c are) whole put in
    subst (λ (l : List ℕ). HasMet a (a.levels p) p (p + 1) (Unit {0}) p q c out l size' out) (sym is)
    (met_turned (Unit {0}) a (a.levels p) p (p + 1) p q c out size' out (set parent' r t) met)

-- where two need not meet, all stays as it is
pub meets_not : (a : Problem) (p q : ℕ) (Needed : Type 0) (parent : List ℕ) (size out : ℕ → ℕ) → (Needed → ⊥) → Meets a p q Needed parent size out parent size out
meets_not a p q Needed parent size out none = λ c are some stands to joins.
    record { roots = c; are = are; stands = stands; keeps = λ i j lt lt' alike. alike; here = λ needed. absurd (none needed) }

pub not_both : (b : Bool) → b ≡ true → b ≡ false → ⊥
not_both true is_true is_false = cc
not_both false is_true is_false = cc
