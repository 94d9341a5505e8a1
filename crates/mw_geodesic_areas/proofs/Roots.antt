-- A forest and its roots: a path is halved, and a root gets a parent.
use Rattle.std.proofs.Common.{◌≡◌, ◌≢◌, ℕ, ◌<◌, ◌≤◌, List, [], ◌∷◌, ◌++◌, length, get_or, set, refl, ap, sym, arith, ◌∙◌, inl, inr, length-append}
use Rattle.std.specs.Prelude.{◌==◌, if◌then◌else◌}
use Rattle.std.proofs.lemmas.Bool.{cases_lt, cases_eq, eq-eqb, ne_eqb}
use Rattle.std.proofs.lemmas.List.{get_or-set_same, get_or-set_other, length-set, get_or_push, get_or_append_left}
use Rattle.mw_geodesic_areas.specs.Forests.{IsParentForest, AreRoots, KeepsRoots, EachByItself, merged}

-- ---- numbers that are alone

pub alone_none : EachByItself []
alone_none = record { own = λ i lt. absurd (omega arith) }

pub alone_more : (p : List ℕ) (n : ℕ) → length p ≡ n → EachByItself p → EachByItself (p ++ n ∷ [])
alone_more p n size alone = record {
  own = λ i lt. elim (cases_lt i n) [
    | inl less ↦ get_or_append_left p (n ∷ []) 0 i (omega arith) ∙ alone.own i (omega arith)
    | inr from ↦
        let same : i ≡ n = omega (arith, length-append p (n ∷ [])) in
        ap (λ (t : ℕ). get_or (p ++ n ∷ []) t 0) same ∙ get_or_push p n 0 n size ∙ sym same
  ];
}

pub alone_forest : (p : List ℕ) → EachByItself p → IsParentForest p
alone_forest p alone = record { lower = λ i lt. omega (arith, alone.own i lt) }

pub alone_roots : (p : List ℕ) → EachByItself p → AreRoots p (λ i. i)
alone_roots p alone = record {
  low = λ i lt. omega arith;
  root = λ i lt. alone.own i lt;
  own = λ i lt is. refl;
  up = λ i lt. alone.own i lt;
}

-- ---- one parent is set

pub set_forest : (p : List ℕ) (a b : ℕ) → a < length p → b ≤ a → IsParentForest p → IsParentForest (set p a b)
set_forest p a b lt low forest = record {
  lower = λ i within. elim (cases_eq i a) [
    | inl same ↦
        let is : get_or (set p a b) i 0 ≡ b = ap (λ (t : ℕ). get_or (set p a b) t 0) same ∙ get_or-set_same p a b 0 lt in
        omega arith
    | inr other ↦
        let is = get_or-set_other p a i b 0 other in
        let was = forest.lower i (omega (arith, length-set p a b)) in
        omega arith
  ];
}

-- a number that is no root gets another parent of its class
set_roots : (p : List ℕ) (a b : ℕ) (c : ℕ → ℕ) → a < length p → get_or p a 0 ≢ a → b < a → c b ≡ c a → AreRoots p c → AreRoots (set p a b) c
set_roots p a b c lt ne less alike are =
    let size = length-set p a b in
    record {
      low = λ i within. are.low i (omega arith);
      root = λ i within. elim (cases_eq (c i) a) [
        | inl same ↦ absurd (ne (ap (λ (t : ℕ). get_or p t 0) (sym same) ∙ are.root i (omega arith) ∙ same))
        | inr other ↦ get_or-set_other p a (c i) b 0 other ∙ are.root i (omega arith)
      ];
      own = λ i within is. elim (cases_eq i a) [
        | inl same ↦
            let here : get_or (set p a b) i 0 ≡ b = ap (λ (t : ℕ). get_or (set p a b) t 0) same ∙ get_or-set_same p a b 0 lt in
            absurd (omega arith)
        | inr other ↦ are.own i (omega arith) (sym (get_or-set_other p a i b 0 other) ∙ is)
      ];
      up = λ i within. elim (cases_eq i a) [
        | inl same ↦ ap c (ap (λ (t : ℕ). get_or (set p a b) t 0) same ∙ get_or-set_same p a b 0 lt) ∙ alike ∙ ap c (sym same)
        | inr other ↦ ap c (get_or-set_other p a i b 0 other) ∙ are.up i (omega arith)
      ];
    }

-- while a root is looked for
pub record Finding (old p : List ℕ) (i at : ℕ) : Type 0 where
  pub forest : IsParentForest p
  pub size : length p ≡ length old
  pub low : at ≤ i
  pub keeps : KeepsRoots old p
  pub one : (c : ℕ → ℕ) → AreRoots old c → c at ≡ c i

pub finding_begins : (p : List ℕ) (i : ℕ) → IsParentForest p → Finding p p i i
finding_begins p i forest = record {
  forest = forest;
  size = refl;
  low = omega arith;
  keeps = λ c are. are;
  one = λ c are. refl;
}

pub finding_lower : (old p : List ℕ) (i at b d : ℕ) → i < length old → get_or p at 0 ≡ b → get_or p b 0 ≡ d → b ≢ at → Finding old p i at → d < at
finding_lower old p i at b d within is is' ne was =
    let low = was.low in
    let size = was.size in
    let first = was.forest.lower at (omega arith) in
    let second = was.forest.lower b (omega arith) in
    omega arith

pub finding_on : (old p : List ℕ) (i at b d : ℕ) → i < length old → get_or p at 0 ≡ b → get_or p b 0 ≡ d → b ≢ at → Finding old p i at → Finding old (set p at d) i d
finding_on old p i at b d within is is' ne was =
    let low = was.low in
    let size = was.size in
    let less = finding_lower old p i at b d within is is' ne was in
    let lt : at < length p = omega arith in
    let first = was.forest.lower at lt in
    let alike : (c : ℕ → ℕ) → AreRoots p c → c d ≡ c at = λ c are. ap c (sym is') ∙ are.up b (omega arith) ∙ ap c (sym is) ∙ are.up at lt in
    record {
      forest = set_forest p at d lt (omega arith) was.forest;
      size = length-set p at d ∙ size;
      low = omega arith;
      keeps = λ c are. set_roots p at d c lt (λ e. ne (sym is ∙ e)) less (alike c (was.keeps c are)) (was.keeps c are);
      one = λ c are. alike c (was.keeps c are) ∙ was.one c are;
    }

-- what was found is the root
pub found_root : (old p : List ℕ) (i at : ℕ) (c : ℕ → ℕ) → i < length old → get_or p at 0 ≡ at → Finding old p i at → AreRoots old c → at ≡ c i
found_root old p i at c within is was are =
    let low = was.low in
    let size = was.size in
    sym ((was.keeps c are).own at (omega arith) is) ∙ was.one c are

-- a parent that is a root
pub root_above : (old p : List ℕ) (i at b : ℕ) → i < length old → get_or p at 0 ≡ b → Finding old p i at → b ≤ i
root_above old p i at b within is was =
    let low = was.low in
    let size = was.size in
    let first = was.forest.lower at (omega arith) in
    omega arith

pub found_above : (old p : List ℕ) (i at b : ℕ) (c : ℕ → ℕ) → i < length old → get_or p at 0 ≡ b → get_or p b 0 ≡ b → Finding old p i at → AreRoots old c → b ≡ c i
found_above old p i at b c within is root was are =
    let low = was.low in
    let size = was.size in
    let first = root_above old p i at b within is was in
    let now = was.keeps c are in
    sym (now.own b (omega arith) root) ∙ ap c (sym is) ∙ now.up at (omega arith) ∙ was.one c are

-- ---- two classes become one

pub data Merged (c : ℕ → ℕ) (r s i : ℕ) : Type 0 where
  moved : c i ≡ s → merged c r s i ≡ r → Merged c r s i
  kept : c i ≢ s → merged c r s i ≡ c i → Merged c r s i

pub cases_merged : (c : ℕ → ℕ) (r s i : ℕ) → Merged c r s i
cases_merged c r s i = elim (cases_eq (c i) s) [
  | inl e ↦ moved e (rw (eq-eqb (c i) s e) refl)
  | inr ne ↦ kept ne (rw (ne_eqb (c i) s ne) refl)
]

-- two numbers of one class stay in one
pub merged_alike : (c : ℕ → ℕ) (r s i j : ℕ) → c i ≡ c j → merged c r s i ≡ merged c r s j
merged_alike c r s i j e = ap (λ (t : ℕ). if t == s then r else t) e

pub merged_roots : (p : List ℕ) (r s : ℕ) (c : ℕ → ℕ) → r < s → s < length p → c r ≡ r → c s ≡ s → AreRoots p c → AreRoots (set p s r) (merged c r s)
merged_roots p r s c less lt is_r is_s are =
    let size = length-set p s r in
    let root_r : get_or p r 0 ≡ r = ap (λ (t : ℕ). get_or p t 0) (sym is_r) ∙ are.root r (omega arith) ∙ is_r in
    let still_r : get_or (set p s r) r 0 ≡ r = get_or-set_other p s r r 0 (λ e. absurd (omega arith)) ∙ root_r in
    record {
      low = λ i within.
          let was = are.low i (omega arith) in
          elim (cases_merged c r s i) [ moved e is ↦ omega arith | kept ne is ↦ omega arith ];
      root = λ i within. elim (cases_merged c r s i) [
        | moved e is ↦ ap (λ (t : ℕ). get_or (set p s r) t 0) is ∙ still_r ∙ sym is
        | kept ne is ↦ ap (λ (t : ℕ). get_or (set p s r) t 0) is ∙ get_or-set_other p s (c i) r 0 ne ∙ are.root i (omega arith) ∙ sym is
      ];
      own = λ i within is. elim (cases_eq i s) [
        | inl same ↦
            let here : get_or (set p s r) i 0 ≡ r = ap (λ (t : ℕ). get_or (set p s r) t 0) same ∙ get_or-set_same p s r 0 lt in
            absurd (omega arith)
        | inr other ↦
            let was : c i ≡ i = are.own i (omega arith) (sym (get_or-set_other p s i r 0 other) ∙ is) in
            elim (cases_merged c r s i) [ moved e is' ↦ absurd (other (sym was ∙ e)) | kept ne is' ↦ is' ∙ was ]
      ];
      up = λ i within. elim (cases_eq i s) [
        | inl same ↦
            let here : get_or (set p s r) i 0 ≡ r = ap (λ (t : ℕ). get_or (set p s r) t 0) same ∙ get_or-set_same p s r 0 lt in
            let top : merged c r s r ≡ r = elim (cases_merged c r s r) [ moved e is ↦ is | kept ne is ↦ is ∙ is_r ] in
            let mine : c i ≡ s = ap c same ∙ is_s in
            elim (cases_merged c r s i) [ moved e is ↦ ap (merged c r s) here ∙ top ∙ sym is | kept ne is ↦ absurd (ne mine) ]
        | inr other ↦ merged_alike c r s (get_or (set p s r) i 0) i (ap c (get_or-set_other p s i r 0 other) ∙ are.up i (omega arith))
      ];
    }

-- ---- the roots give their values

pub record Resolved (c out new : ℕ → ℕ) (n : ℕ) : Type 0 where
  pub done : (i : ℕ) → i < n → new i ≡ out (c i)
  pub rest : (i : ℕ) → n ≤ i → new i ≡ out i
