-- A forest by the colourings that respect it: a path is halved, and a root gets a parent.
use Rattle.std.proofs.Common.{◌≡◌, ◌≢◌, ℕ, ◌<◌, ◌≤◌, List, [], ◌∷◌, ◌++◌, length, get_or, set, refl, ap, sym, arith, ◌∙◌, inl, inr, length-append}
use Rattle.std.proofs.lemmas.Bool.{cases_lt, cases_eq}
use Rattle.std.proofs.lemmas.List.{get_or-set_same, get_or-set_other, length-set, get_or_push, get_or_append_left}
use Rattle.mw_geodesic_runs.specs.Forests.{IsForest, Respects, AllAlone, HasSameColours, HasJoined, HasJoinedIf}

-- ---- numbers that are alone

pub alone_none : AllAlone []
alone_none = record { own = λ i lt. absurd (omega arith) }

pub alone_more : (p : List ℕ) (n : ℕ) → length p ≡ n → AllAlone p → AllAlone (p ++ n ∷ [])
alone_more p n size alone = record {
  own = λ i lt. elim (cases_lt i n) [
    | inl less ↦ get_or_append_left p (n ∷ []) 0 i (omega arith) ∙ alone.own i (omega arith)
    | inr from ↦
        let same : i ≡ n = omega (arith, length-append p (n ∷ [])) in
        ap (λ (t : ℕ). get_or (p ++ n ∷ []) t 0) same ∙ get_or_push p n 0 n size ∙ sym same
  ];
}

pub alone_forest : (p : List ℕ) → AllAlone p → IsForest p
alone_forest p alone = record { lower = λ i lt. omega (arith, alone.own i lt) }

pub alone_respects : (p : List ℕ) (f : ℕ → ℕ) → AllAlone p → Respects p f
alone_respects p f alone = record { same = λ i lt. ap f (alone.own i lt) }

-- ---- one parent is set

pub set_forest : (p : List ℕ) (a b : ℕ) → a < length p → b ≤ a → IsForest p → IsForest (set p a b)
set_forest p a b lt low forest = record {
  lower = λ i within. elim (cases_eq i a) [
    | inl same ↦
        let is : get_or (set p a b) i 0 ≡ b = ap (λ (t : ℕ). get_or (set p a b) t 0) same ∙ get_or-set_same p a b 0 lt in
        omega arith
    | inr other ↦
        let is = get_or-set_other p a i b 0 other in
        let was = forest.lower i (omega (arith, length-set p a b)) in
        omega arith
  ];
}

-- what a colouring says of the parents that stayed
set_back : (p : List ℕ) (a b : ℕ) (f : ℕ → ℕ) → Respects (set p a b) f → f (get_or p a 0) ≡ f a → Respects p f
set_back p a b f respects here = record {
  same = λ i within. elim (cases_eq i a) [
    | inl same ↦ ap (λ (t : ℕ). f (get_or p t 0)) same ∙ here ∙ ap f (sym same)
    | inr other ↦ ap f (sym (get_or-set_other p a i b 0 other)) ∙ respects.same i (omega (arith, length-set p a b))
  ];
}

set_on : (p : List ℕ) (a b : ℕ) (f : ℕ → ℕ) → a < length p → Respects p f → f b ≡ f a → Respects (set p a b) f
set_on p a b f lt respects here = record {
  same = λ i within. elim (cases_eq i a) [
    | inl same ↦ ap (λ (t : ℕ). f (get_or (set p a b) t 0)) same ∙ ap f (get_or-set_same p a b 0 lt) ∙ here ∙ ap f (sym same)
    | inr other ↦ ap f (get_or-set_other p a i b 0 other) ∙ respects.same i (omega (arith, length-set p a b))
  ];
}

set_here : (p : List ℕ) (a b : ℕ) (f : ℕ → ℕ) → a < length p → Respects (set p a b) f → f b ≡ f a
set_here p a b f lt respects = ap f (sym (get_or-set_same p a b 0 lt)) ∙ respects.same a (omega (arith, length-set p a b))

-- ---- a path is halved

halved_here : (p : List ℕ) (a b c : ℕ) (f : ℕ → ℕ) → a < length p → b < length p → get_or p b 0 ≡ c → Respects (set p a c) f → f b ≡ f a
halved_here p a b c f lt lt' is respects = elim (cases_eq b a) [
  | inl same ↦ ap f same
  | inr other ↦
      let up : f c ≡ f b = ap f (sym is) ∙ ap f (sym (get_or-set_other p a b c 0 other)) ∙ respects.same b (omega (arith, length-set p a c)) in
      sym up ∙ set_here p a c f lt respects
]

pub halved_colours : (p : List ℕ) (a b c : ℕ) → a < length p → IsForest p → get_or p a 0 ≡ b → get_or p b 0 ≡ c → HasSameColours p (set p a c)
halved_colours p a b c lt forest is is' =
    let low = forest.lower a lt in
    let within : b < length p = omega arith in
    record {
      back = λ f respects. set_back p a c f respects (ap f is ∙ halved_here p a b c f lt within is' respects);
      on = λ f respects. set_on p a c f lt respects (ap f (sym is') ∙ respects.same b within ∙ ap f (sym is) ∙ respects.same a lt);
    }

pub colours_itself : (p : List ℕ) → HasSameColours p p
colours_itself p = record { back = λ f r. r; on = λ f r. r }

pub colours_trans : {p q r : List ℕ} → HasSameColours p q → HasSameColours q r → HasSameColours p r
colours_trans first second = record { back = λ f t. first.back f (second.back f t); on = λ f t. second.on f (first.on f t) }

-- while a root is looked for
pub record Finding (old p : List ℕ) (i at : ℕ) : Type 0 where
  pub forest : IsForest p
  pub size : length p ≡ length old
  pub low : at ≤ i
  pub roots : (k : ℕ) → get_or old k 0 ≡ k → get_or p k 0 ≡ k
  pub colours : HasSameColours old p
  pub one : (f : ℕ → ℕ) → Respects old f → f at ≡ f i

pub finding_begins : (p : List ℕ) (i : ℕ) → IsForest p → Finding p p i i
finding_begins p i forest = record {
  forest = forest;
  size = refl;
  low = omega arith;
  roots = λ k is. is;
  colours = colours_itself p;
  one = λ f respects. refl;
}

pub finding_lower : (old p : List ℕ) (i at b c : ℕ) → i < length old → get_or p at 0 ≡ b → get_or p b 0 ≡ c → b ≢ at → Finding old p i at → c < at
finding_lower old p i at b c within is is' ne was =
    let low = was.low in
    let size = was.size in
    let first = was.forest.lower at (omega arith) in
    let second = was.forest.lower b (omega arith) in
    omega arith

pub finding_on : (old p : List ℕ) (i at b c : ℕ) → i < length old → get_or p at 0 ≡ b → get_or p b 0 ≡ c → b ≢ at → Finding old p i at → Finding old (set p at c) i c
finding_on old p i at b c within is is' ne was =
    let low = was.low in
    let size = was.size in
    let less = finding_lower old p i at b c within is is' ne was in
    let lt : at < length p = omega arith in
    let first = was.forest.lower at lt in
    record {
      forest = set_forest p at c lt (omega arith) was.forest;
      size = length-set p at c ∙ size;
      low = omega arith;
      roots = λ k root. elim (cases_eq k at) [
        | inl same ↦
            let still : get_or p k 0 ≡ k = was.roots k root in
            let here : get_or p at 0 ≡ at = ap (λ (t : ℕ). get_or p t 0) (sym same) ∙ still ∙ same in
            absurd (ne (sym is ∙ here))
        | inr other ↦ get_or-set_other p at k c 0 other ∙ was.roots k root
      ];
      colours = colours_trans was.colours (halved_colours p at b c lt was.forest is is');
      one = λ f respects.
          let now = was.colours.on f respects in
          let up : f c ≡ f b = ap f (sym is') ∙ now.same b (omega arith) in
          let here : f b ≡ f at = ap f (sym is) ∙ now.same at lt in
          up ∙ here ∙ was.one f respects;
    }

-- ---- two classes become one

linked : (p : List ℕ) (a b : ℕ) → b < length p → get_or p b 0 ≡ b → HasJoined p a b (set p b a)
linked p a b lt root = record {
  back = λ f respects. set_back p b a f respects (ap f root);
  one = λ f respects. set_here p b a f lt respects;
  on = λ f respects same. set_on p b a f lt respects same;
}

joined_from : (old mid p new : List ℕ) (a b r s : ℕ) → HasSameColours old mid → HasSameColours mid p → ((f : ℕ → ℕ) → Respects old f → f r ≡ f a) → ((f : ℕ → ℕ) → Respects mid f → f s ≡ f b)
    → HasJoined p r s new → HasJoined old a b new
joined_from old mid p new a b r s first second at_a at_b joined = record {
  back = λ f respects. first.back f (second.back f (joined.back f respects));
  one = λ f respects.
      let now = second.back f (joined.back f respects) in
      sym (at_a f (first.back f now)) ∙ joined.one f respects ∙ at_b f now;
  on = λ f respects same.
      let now = first.on f respects in
      joined.on f (second.on f now) (at_a f respects ∙ same ∙ sym (at_b f now));
}

turned : (p new : List ℕ) (a b : ℕ) → HasJoined p a b new → HasJoined p b a new
turned p new a b joined = record {
  back = joined.back;
  one = λ f respects. sym (joined.one f respects);
  on = λ f respects same. joined.on f respects (sym same);
}

pub linked_down : (old mid p : List ℕ) (a b r s : ℕ) → s < length p → get_or p s 0 ≡ s → HasSameColours old mid → HasSameColours mid p → ((f : ℕ → ℕ) → Respects old f → f r ≡ f a)
    → ((f : ℕ → ℕ) → Respects mid f → f s ≡ f b) → HasJoined old a b (set p s r)
linked_down old mid p a b r s lt root first second at_a at_b = joined_from old mid p (set p s r) a b r s first second at_a at_b (linked p r s lt root)

pub linked_up : (old mid p : List ℕ) (a b r s : ℕ) → r < length p → get_or p r 0 ≡ r → HasSameColours old mid → HasSameColours mid p → ((f : ℕ → ℕ) → Respects old f → f r ≡ f a)
    → ((f : ℕ → ℕ) → Respects mid f → f s ≡ f b) → HasJoined old a b (set p r s)
linked_up old mid p a b r s lt root first second at_a at_b = joined_from old mid p (set p r s) a b r s first second at_a at_b (turned p (set p r s) s r (linked p s r lt root))

-- both have one parent
pub joined_already : (p : List ℕ) (a b : ℕ) → a < length p → b < length p → get_or p b 0 ≡ get_or p a 0 → HasJoined p a b p
joined_already p a b lt lt' same = record {
  back = λ f respects. respects;
  one = λ f respects. sym (respects.same a lt) ∙ ap f (sym same) ∙ respects.same b lt';
  on = λ f respects is. respects;
}

-- the second is a root, and takes the parent of the first
pub adopted : (p : List ℕ) (a b c : ℕ) → a < b → b < length p → get_or p a 0 ≡ c → get_or p b 0 ≡ b → HasJoined p a b (set p b c)
adopted p a b c less lt is root = record {
  back = λ f respects. set_back p b c f respects (ap f root);
  one = λ f respects.
      let here : f (get_or p a 0) ≡ f a = ap f (sym (get_or-set_other p b a c 0 (λ e. absurd (omega arith)))) ∙ respects.same a (omega (arith, length-set p b c)) in
      sym here ∙ ap f is ∙ set_here p b c f lt respects;
  on = λ f respects same. set_on p b c f lt respects (ap f (sym is) ∙ respects.same a (omega arith) ∙ same);
}

pub joined_if : (P : Type 0) (old new : List ℕ) (a b : ℕ) → P → HasJoined old a b new → HasJoinedIf P old a b new
joined_if P old new a b holds joined = record {
  back = joined.back;
  one = λ f respects h. joined.one f respects;
  on = λ f respects same. joined.on f respects (same holds);
}

pub joined_not : (P : Type 0) (old : List ℕ) (a b : ℕ) → (P → ⊥) → HasJoinedIf P old a b old
joined_not P old a b not = record {
  back = λ f respects. respects;
  one = λ f respects h. absurd (not h);
  on = λ f respects same. respects;
}
