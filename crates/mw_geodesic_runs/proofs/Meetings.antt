-- Two runs that go down a list: what they have not met does not touch.
use Rattle.std.proofs.Common.{◌≡◌, ℕ, ◌+◌, ◌<◌, ◌≤◌, List, length, ap, sym, subst, arith, ◌∙◌, inl, inr}
use Rattle.std.proofs.lemmas.Bool.{cases_lt, cases_order}
use Rattle.mw_geodesic_runs.specs.declared.runs.Run.{Run}
use Rattle.mw_geodesic_runs.specs.Runs.{run_numbered, Precedes, AreInOrder}
use Rattle.mw_geodesic_runs.specs.Forests.{IsForest, AllAlone, HasJoinedIf}
use Rattle.mw_geodesic_runs.specs.Touching.{Touches, EndsFirst, Agree, AreUnited}
use Rattle.mw_geodesic_runs.proofs.Classes.{alone_forest, alone_respects}

-- a run that ends first touches none behind the other
past_first : (reach : ℕ) (a b c : Run) → reach ≤ 1 → EndsFirst a b → Precedes b c → Touches reach a c → ⊥
past_first reach a b c low (inl above) (inl rows) t = omega (arith, t.below)
past_first reach a b c low (inl above) (inr same) t = omega (arith, t.below, same.0)
past_first reach a b c low (inr ends) (inl rows) t = omega (arith, t.below, ends.0)
past_first reach a b c low (inr ends) (inr same) t = omega (arith, t.left, ends.1, same.1)

-- a run that does not end after the other touches none behind that
past_second : (reach : ℕ) (a b c : Run) → reach ≤ 1 → (EndsFirst a b → ⊥) → Precedes a c → Touches reach c b → ⊥
past_second reach a b c low late (inl rows) t = let below = t.below in late (inl (omega arith))
past_second reach a b c low late (inr same) t =
    let below = t.below in
    let right = t.right in
    let row = same.0 in
    let gap = same.1 in
    late (inr (omega arith, omega arith))

-- no run ends before itself
ends_itself : (a : Run) → EndsFirst a a → ⊥
ends_itself a (inl above) = omega arith
ends_itself a (inr same) = omega (arith, same.0)

agree_first : (reach : ℕ) (runs : List Run) (i j : ℕ) (f : ℕ → ℕ) → reach ≤ 1 → AreInOrder runs → EndsFirst (run_numbered runs i) (run_numbered runs j) → Agree reach runs i j f
    → (Touches reach (run_numbered runs i) (run_numbered runs j) → f i ≡ f j) → Agree reach runs (i + 1) j f
agree_first reach runs i j f low order ends was here = record {
  one = λ p q in_p in_q which t. elim which [
    | inr before ↦ was.one p q in_p in_q (inr before) t
    | inl next ↦ elim (cases_lt p i) [
      | inl before ↦ was.one p q in_p in_q (inl before) t
      | inr from ↦
          let same : p ≡ i = omega arith in
          let t' : Touches reach (run_numbered runs i) (run_numbered runs q) = subst (λ (k : ℕ). Touches reach (run_numbered runs k) (run_numbered runs q)) same t in
          elim (cases_order q j) [
            | inl met ↦ ap f same ∙ here (subst (λ (k : ℕ). Touches reach (run_numbered runs i) (run_numbered runs k)) met t') ∙ ap f (sym met)
            | inr apart ↦ elim apart [
              | inl before ↦ was.one p q in_p in_q (inr before) t
              | inr behind ↦ absurd (past_first reach (run_numbered runs i) (run_numbered runs j) (run_numbered runs q) low ends (order.each j q behind in_q) t')
            ]
          ]
    ]
  ];
}

agree_second : (reach : ℕ) (runs : List Run) (i j : ℕ) (f : ℕ → ℕ) → reach ≤ 1 → AreInOrder runs → (EndsFirst (run_numbered runs i) (run_numbered runs j) → ⊥) → Agree reach runs i j f
    → (Touches reach (run_numbered runs i) (run_numbered runs j) → f i ≡ f j) → Agree reach runs i (j + 1) f
agree_second reach runs i j f low order late was here = record {
  one = λ p q in_p in_q which t. elim which [
    | inl before ↦ was.one p q in_p in_q (inl before) t
    | inr next ↦ elim (cases_lt q j) [
      | inl before ↦ was.one p q in_p in_q (inr before) t
      | inr from ↦
          let same : q ≡ j = omega arith in
          let t' : Touches reach (run_numbered runs p) (run_numbered runs j) = subst (λ (k : ℕ). Touches reach (run_numbered runs p) (run_numbered runs k)) same t in
          elim (cases_order p i) [
            | inl met ↦ ap f met ∙ here (subst (λ (k : ℕ). Touches reach (run_numbered runs k) (run_numbered runs j)) met t') ∙ ap f (sym same)
            | inr apart ↦ elim apart [
              | inl before ↦ was.one p q in_p in_q (inl before) t
              | inr behind ↦ absurd (past_second reach (run_numbered runs i) (run_numbered runs j) (run_numbered runs p) low late (order.each i p behind in_p) t')
            ]
          ]
    ]
  ];
}

pub agree_less : (reach : ℕ) (runs : List Run) (i j k l : ℕ) (f : ℕ → ℕ) → i ≤ k → j ≤ l → Agree reach runs k l f → Agree reach runs i j f
agree_less reach runs i j k l f low low' agree = record {
  one = λ p q in_p in_q which t. elim which [
    | inl before ↦ agree.one p q in_p in_q (inl (omega arith)) t
    | inr before ↦ agree.one p q in_p in_q (inr (omega arith)) t
  ];
}

pub uniting_begins : (reach : ℕ) (runs : List Run) (parent : List ℕ) → AllAlone parent → length runs ≡ length parent → AreUnited reach runs 0 0 parent
uniting_begins reach runs parent alone size = record {
  forest = alone_forest parent alone;
  size = sym size;
  ahead = omega arith;
  back = λ f respects. record { one = λ p q in_p in_q which t. elim which [ inl none ↦ absurd (omega arith) | inr none ↦ absurd (omega arith) ] };
  on = λ f agree. alone_respects parent f alone;
}

pub uniting_first : (reach : ℕ) (runs : List Run) (i j : ℕ) (parent new : List ℕ) → reach ≤ 1 → j < length runs → AreInOrder runs → length new ≡ length parent → IsForest new
    → HasJoinedIf (Touches reach (run_numbered runs i) (run_numbered runs j)) parent i j new → EndsFirst (run_numbered runs i) (run_numbered runs j) → AreUnited reach runs i j parent → AreUnited reach runs (i + 1) j new
uniting_first reach runs i j parent new low within order same_size forest joined ends was =
    let ahead = was.ahead in
    let apart : i < j = elim (cases_lt i j) [
      | inl less ↦ less
      | inr from ↦
          let same : i ≡ j = omega arith in
          absurd (ends_itself (run_numbered runs j) (subst (λ (k : ℕ). EndsFirst (run_numbered runs k) (run_numbered runs j)) same ends))
    ] in
    record {
      forest = forest;
      size = same_size ∙ was.size;
      ahead = omega arith;
      back = λ f respects. agree_first reach runs i j f low order ends (was.back f (joined.back f respects)) (joined.one f respects);
      on = λ f agree. joined.on f (was.on f (agree_less reach runs i j (i + 1) j f (omega arith) (omega arith) agree)) (λ t. agree.one i j (omega arith) within (inl (omega arith)) t);
    }

pub uniting_second : (reach : ℕ) (runs : List Run) (i j : ℕ) (parent new : List ℕ) → reach ≤ 1 → j < length runs → AreInOrder runs → length new ≡ length parent → IsForest new
    → HasJoinedIf (Touches reach (run_numbered runs i) (run_numbered runs j)) parent i j new → (EndsFirst (run_numbered runs i) (run_numbered runs j) → ⊥) → AreUnited reach runs i j parent → AreUnited reach runs i (j + 1) new
uniting_second reach runs i j parent new low within order same_size forest joined late was =
    let ahead = was.ahead in
    record {
      forest = forest;
      size = same_size ∙ was.size;
      ahead = omega arith;
      back = λ f respects. agree_second reach runs i j f low order late (was.back f (joined.back f respects)) (joined.one f respects);
      on = λ f agree. joined.on f (was.on f (agree_less reach runs i j i (j + 1) f (omega arith) (omega arith) agree)) (λ t. agree.one i j (omega arith) within (inr (omega arith)) t);
    }
