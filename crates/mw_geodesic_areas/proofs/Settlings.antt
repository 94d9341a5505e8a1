-- A class that is large gets the level that is taken.
use Rattle.std.proofs.Common.{◌≡◌, ◌≢◌, ℕ, ◌+◌, ◌*◌, ◌<◌, ◌≤◌, refl, ap, sym, subst, arith, ◌∙◌, inl, inr}
use Rattle.std.specs.Prelude.{◌==◌}
use Rattle.std.proofs.lemmas.Bool.{cases_lt, cases_eq, eq-eqb, eqb-true}
use Rattle.mw_geodesic_levels.specs.Levels.{IsPut}
use Rattle.mw_geodesic_areas.specs.Problems.{Problem, area_at, IsValue}
use Rattle.mw_geodesic_areas.specs.Classes.{WasTaken, SettledAlike, Stands, HasItsLevel}
use Rattle.mw_geodesic_areas.proofs.Areas.{area_high, area_rises, IsClosed}

-- among the places whose neighbours are alike, a small class is closed
above_closed : (a : Problem) (k m s i : ℕ) (c size out : ℕ → ℕ) → i < a.height * a.width → Stands a k m s c size out → out (c i) ≡ 0 → (v : ℕ) → ((j : ℕ) → v ≤ a.levels j → WasTaken a.levels k s j) → IsClosed a v (λ j. c j == c i)
above_closed a k m s i c size out lt stands none v reached = record {
  closed = λ x y u w p q p' q' covers high high' is.
      let to : c (w * a.width + u) ≡ c i = eqb-true (c (w * a.width + u)) (c i) is in
      elim (stands.closed x y u w p q p' q' covers (reached (y * a.width + x) high) (reached (w * a.width + u) high')) [
        | inl e ↦ eq-eqb (c (y * a.width + x)) (c i) (e ∙ to)
        | inr both ↦ absurd (not_both (out (c (w * a.width + u))) both.1 (ap out to ∙ none))
      ];
}
  where
    not_both : (n : ℕ) → 1 ≤ n → n ≡ 0 → ⊥
    not_both n le e = absurd (omega arith)

-- so there the component of a place of it is small
pub small_component : (a : Problem) (k m s i : ℕ) (c size out : ℕ → ℕ) → i < a.height * a.width → WasTaken a.levels k m i → Stands a k m s c size out → out (c i) ≡ 0 → (v : ℕ) → ((j : ℕ) → v ≤ a.levels j → WasTaken a.levels k s j) → area_at a v i < a.least
small_component a k m s i c size out lt t stands none v reached =
    let most = area_high a v i (λ j. c j == c i) lt (eq-eqb (c i) (c i) refl) (above_closed a k m s i c size out lt stands none v reached) in
    let counted = stands.counted i lt t none in
    let small = stands.small i lt t none in
    omega arith

-- what is over a level is taken there
pub taken_over : (levels : ℕ → ℕ) (k s v j : ℕ) → k < v → v ≤ levels j → WasTaken levels k s j
taken_over levels k s v j over high = record { high = omega arith; after = λ e. absurd (omega arith) }

-- a root is taken with its places
pub root_taken : (a : Problem) (k m s i : ℕ) (c size out : ℕ → ℕ) → i < a.height * a.width → WasTaken a.levels k m i → Stands a k m s c size out → (j : ℕ) → j < a.height * a.width → (WasTaken a.levels k m j → ⊥) → j ≢ c i
root_taken a k m s i c size out lt t stands j lt' not = λ e. not (subst (λ (n : ℕ). WasTaken a.levels k m n) (stands.apart j i lt' lt not (sym e)) t)

-- what is alike stays so
settled_high : (k r i : ℕ) (out out' : ℕ → ℕ) → 1 ≤ k → IsPut k r out out' → 1 ≤ out i → 1 ≤ out' i
settled_high k r i out out' some put high = elim (cases_eq i r) [
  | inl e ↦ let is : out' i ≡ k = ap out' e ∙ put.here in omega arith
  | inr ne ↦ omega (arith, put.others i ne)
]

pub settled_alike : (k r : ℕ) (c out out' : ℕ → ℕ) (i j : ℕ) → 1 ≤ k → IsPut k r out out' → SettledAlike out c i j → SettledAlike out' c i j
settled_alike k r c out out' i j some put (inl e) = inl e
settled_alike k r c out out' i j some put (inr both) = inr (settled_high k r (c i) out out' some put both.0, settled_high k r (c j) out out' some put both.1)

-- the class of place p gets a value
pub class_settled : (a : Problem) (k m s p r : ℕ) (c size out out' : ℕ → ℕ) → 1 ≤ k → p < a.height * a.width → WasTaken a.levels k m p → c p ≡ r → out r ≡ 0 → a.least ≤ area_at a k p → IsPut k r out out'
    → Stands a k m s c size out → Stands a k m s c size out'
class_settled a k m s p r c size out out' some within taken root none large put stands =
    let other : (j : ℕ) → j < a.height * a.width → (WasTaken a.levels k m j → ⊥) → j ≢ r = λ j lt not e. root_taken a k m s p c size out within taken stands j lt not (e ∙ sym root) in
    let back : (i : ℕ) → out' (c i) ≡ 0 → c i ≢ r = λ i zero e. high_zero k (out' (c i)) some (ap out' e ∙ put.here) zero in
    let high : (i : ℕ) → c i ≢ r → out' (c i) ≡ out (c i) = λ i ne. put.others (c i) ne in
    record {
      low = stands.low;
      own = stands.own;
      alone = stands.alone;
      apart = stands.apart;
      blank = λ i lt not. put.others i (other i lt not) ∙ stands.blank i lt not;
      chain = stands.chain;
      joined = stands.joined;
      counted = λ i lt t zero. stands.counted i lt t (sym (high i (back i zero)) ∙ zero);
      small = λ i lt t zero. stands.small i lt t (sym (high i (back i zero)) ∙ zero);
      valued = λ i lt t full. elim (cases_eq (c i) r) [
        | inl e ↦
            subst (λ (n : ℕ). IsValue a n i) (sym (ap out' e ∙ put.here))
            (record {
              low = t.high;
              large = let rises = area_rises a k k i p (omega arith) lt within (stands.joined p i within lt taken (root ∙ sym e)) in omega arith;
              above = λ v over top. small_component a k m s i c size out lt t stands (ap out e ∙ none) v (λ j high. taken_over a.levels k s v j over high);
            })
        | inr ne ↦ subst (λ (n : ℕ). IsValue a n i) (sym (high i ne)) (stands.valued i lt t (at_least (out (c i)) (out' (c i)) full (high i ne)))
      ];
      over = λ i lt t full. elim (cases_eq (c i) r) [
        | inl e ↦ let is : out' (c i) ≡ k = ap out' e ∙ put.here in omega arith
        | inr ne ↦ let was = stands.over i lt t (at_least (out (c i)) (out' (c i)) full (high i ne)) in omega (arith, high i ne)
      ];
      closed = λ x y u v p q p' q' covers t t'. settled_alike k r c out out' _ _ some put (stands.closed x y u v p q p' q' covers t t');
    }
  where
    high_zero : (k n : ℕ) → 1 ≤ k → n ≡ k → n ≡ 0 → ⊥
    high_zero k n le e z = absurd (omega arith)

    at_least : (m n : ℕ) → 1 ≤ n → n ≡ m → 1 ≤ m
    at_least m n le e = omega arith

-- ---- whether it has one or not

pub record Settled (a : Problem) (k m s r : ℕ) (c size out out' : ℕ → ℕ) : Type 0 where
  pub stands : Stands a k m s c size out'
  pub alike : (i j : ℕ) → SettledAlike out c i j → SettledAlike out' c i j
  pub full : 1 ≤ out' r
  pub stays : (i : ℕ) → 1 ≤ out i → 1 ≤ out' i

pub settled : (a : Problem) (k m s p r : ℕ) (c size out out' : ℕ → ℕ) → 1 ≤ k → p < a.height * a.width → WasTaken a.levels k m p → c p ≡ r → a.least ≤ area_at a k p → HasItsLevel k r out out'
    → Stands a k m s c size out → Settled a k m s r c size out out'
settled a k m s p r c size out out' some within taken root large done stands = elim (cases_eq (out r) 0) [
  | inl none ↦
      let put = done.fresh none in
      record {
        stands = class_settled a k m s p r c size out out' some within taken root none large put stands;
        alike = λ i j alike. settled_alike k r c out out' i j some put alike;
        full = omega (arith, put.here);
        stays = λ i high. settled_high k r i out out' some put high;
      }
  | inr some' ↦
      let same = done.old (positive (out r) some') in
      record {
        stands = subst (λ (f : ℕ → ℕ). Stands a k m s c size f) (sym same) stands;
        alike = λ i j alike. subst (λ (f : ℕ → ℕ). SettledAlike f c i j) (sym same) alike;
        full = subst (λ (f : ℕ → ℕ). 1 ≤ f r) (sym same) (positive (out r) some');
        stays = λ i high. subst (λ (f : ℕ → ℕ). 1 ≤ f i) (sym same) high;
      }
]
  where
    positive : (n : ℕ) → n ≢ 0 → 1 ≤ n
    positive n ne = elim (cases_lt n 1) [ inl z ↦ absurd (ne (omega arith)) | inr le ↦ le ]
