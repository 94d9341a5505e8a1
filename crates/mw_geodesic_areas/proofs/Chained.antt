-- The places of a level are taken along their list.
use Rattle.std.proofs.Common.{◌≡◌, ℕ, ◌+◌, ◌*◌, ◌<◌, ◌≤◌, List, refl, sym, subst, arith, ◌∙◌, inl, inr}
use Rattle.std.proofs.lemmas.Bool.{cases_eq, cases_lt}
use Rattle.mw_geodesic_areas.specs.Problems.{Problem}
use Rattle.mw_geodesic_areas.specs.Forests.{EachByItself}
use Rattle.mw_geodesic_areas.specs.Chains.{IsLast}
use Rattle.mw_geodesic_areas.specs.Classes.{WasTaken, Standing, HasTaken, IsBegun, MeetsAll}
use Rattle.mw_geodesic_areas.proofs.Areas.{in_frame}
use Rattle.mw_geodesic_areas.proofs.Roots.{alone_roots}
use Rattle.mw_geodesic_areas.proofs.Standings.{moved, stands_first, begun_stands}

-- no place of the level stands between, so as much is taken
next_stands : (a : Problem) (k m next : ℕ) (parent : List ℕ) (size out : ℕ → ℕ) → IsLast a.levels k m next → Standing a k m parent size out → Standing a k next parent size out
next_stands a k m next parent size out last s =
    let before = last.before in
    record {
      roots = s.roots;
      are = s.are;
      stands = moved k m k next (omega arith)
          (λ i lt t. record { high = t.high; after = λ e. let after = t.after e in omega arith })
          (λ i lt t. record { high = t.high; after = λ e. from i (t.after e) e })
          (in_frame a.width a.height) s.stands;
    }
  where
    from : (i : ℕ) → next ≤ i → a.levels i ≡ k → m ≤ i
    from i low e = elim (cases_lt i m) [
      | inl lt ↦ absurd (last.none i low lt e)
      | inr le ↦ le
    ]

-- the next level begins behind the last place
pub level_stands : (a : Problem) (k head : ℕ) (parent : List ℕ) (size out : ℕ → ℕ) → IsLast a.levels k (a.height * a.width) head → Standing a (k + 1) 0 parent size out → Standing a k head parent size out
level_stands a k head parent size out last s =
    next_stands a k (a.height * a.width) head parent size out last (record {
      roots = s.roots;
      are = s.are;
      stands = moved (k + 1) 0 k (a.height * a.width) (omega arith)
          (λ i lt t. let high = t.high in record { high = omega arith; after = λ e. absurd (omega arith) })
          (λ i lt t. record { high = above i lt t; after = λ e. omega arith })
          (in_frame a.width a.height) s.stands;
    })
  where
    above : (i : ℕ) → i < a.height * a.width → WasTaken a.levels k (a.height * a.width) i → k + 1 ≤ a.levels i
    above i lt t = elim (cases_eq (a.levels i) k) [
      | inl e ↦ absurd (let after = t.after e in omega arith)
      | inr ne ↦ let high = t.high in omega arith
    ]

pub all_first : (a : Problem) (k : ℕ) (parent : List ℕ) (size out : ℕ → ℕ) → EachByItself parent → ((i : ℕ) → i < a.height * a.width → a.levels i < k) → ((i : ℕ) → i < a.height * a.width → out i ≡ 0)
    → ((i : ℕ) → i < a.height * a.width → IsLast a.levels (a.levels i) i (size i)) → Standing a k 0 parent size out
all_first a k parent size out alone below none links = record {
  roots = λ i. i;
  are = alone_roots parent alone;
  stands = stands_first a k size out below (in_frame a.width a.height) none links;
}

-- a place is taken, and meets all that are near it
pub place_taken : (a : Problem) (p next : ℕ) (parent parent' : List ℕ) (size out size' out' size'' out'' : ℕ → ℕ) → p < a.height * a.width → 1 ≤ a.levels p → size p ≡ next → IsBegun a.least (a.levels p) p size out size' out'
    → MeetsAll a p parent size' out' parent' size'' out'' → Standing a (a.levels p) (p + 1) parent size out → HasTaken a p next parent' size'' out''
place_taken a p next parent parent' size out size' out' size'' out'' lt some is begun meets s =
    let link : IsLast a.levels (a.levels p) p next = subst (λ (n : ℕ). IsLast a.levels (a.levels p) p n) is (s.stands.chain p lt (λ t. absurd (let after = t.after refl in omega arith))) in
    record {
      before = link.before;
      there = link.there;
      standing = next_stands a (a.levels p) p next parent' size'' out'' link
          (meets s.roots s.are some (begun_stands a p s.roots size out size' out' lt some (in_frame a.width a.height) s.stands begun));
    }

-- what the next place of a level knows
pub record GoesOn (a : Problem) (k p next : ℕ) (parent : List ℕ) (size out : ℕ → ℕ) : Type 0 where
  pub before : next ≤ p
  pub there : (j : ℕ) → j + 1 ≡ next → a.levels j ≡ k
  pub standing : Standing a k next parent size out

pub goes_on : (a : Problem) (k next p result : ℕ) (parent parent' : List ℕ) (size out size' out' : ℕ → ℕ) → p + 1 ≡ next → 1 ≤ k → ((j : ℕ) → j + 1 ≡ next → a.levels j ≡ k) → Standing a k next parent size out
    → (1 ≤ a.levels p → Standing a (a.levels p) (p + 1) parent size out → HasTaken a p result parent' size' out') → GoesOn a k p result parent' size' out'
goes_on a k next p result parent parent' size out size' out' is some there s taken =
    let at : a.levels p ≡ k = there p is in
    let before : Standing a (a.levels p) (p + 1) parent size out = subst (λ (n : ℕ). Standing a n (p + 1) parent size out) (sym at) (subst (λ (n : ℕ). Standing a k n parent size out) (sym is) s) in
    let t = taken (omega arith) before in
    record {
      before = t.before;
      there = λ j e. t.there j e ∙ at;
      standing = subst (λ (n : ℕ). Standing a n result parent' size' out') at t.standing;
    }
