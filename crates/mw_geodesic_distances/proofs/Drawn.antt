-- How the envelopes of rows are drawn.
use Rattle.std.proofs.Common.{◌≡◌, ℕ, ◌+◌, ◌<◌, ◌≤◌, min, refl, sym, ap, subst, arith, ◌∙◌, inl, inr}
use Rattle.std.proofs.lemmas.Bool.{cases_lt, cases_eq}
use Rattle.mw_geodesic_distances.specs.declared.frame.Frame.{Frame}
use Rattle.mw_geodesic_distances.specs.Rows.{IsRewritten}
use Rattle.mw_geodesic_distances.specs.Envelopes.{height_at, parabola, IsNearest, IsEnvelope}
use Rattle.mw_geodesic_distances.proofs.Lists.{IsRowPut}

-- a row without parabolas
pub nearest_none : (gaps : ℕ → ℕ) (n top x s : ℕ) (sites starts : ℕ → ℕ) → IsEnvelope gaps n n 0 sites starts → s ≡ top → IsNearest gaps n top x s
nearest_none gaps n top x s sites starts env same = record {
  low = omega arith;
  least = λ u lt near. absurd (env.none refl u lt near);
  reason = inl same;
}

-- the columns before part k have their heights
abbrev pub IsDrawnTo : (ℕ → ℕ) → ℕ → ℕ → ℕ → ℕ → (ℕ → ℕ) → (ℕ → ℕ) → Type 0
IsDrawnTo gaps n top count k starts row = (x : ℕ) → x < n → (k < count → x < starts k) → IsNearest gaps n top x (row x)

pub drawn_none : (gaps : ℕ → ℕ) (n top count : ℕ) (sites starts row : ℕ → ℕ) → (count ≡ 0 → ⊥) → IsEnvelope gaps n n count sites starts → IsDrawnTo gaps n top count 0 starts row
drawn_none gaps n top count sites starts row some env x lt before =
    let begin = env.begin (omega arith) in
    let less = before (omega arith) in
    absurd (omega arith)

pub drawn_more : (gaps : ℕ → ℕ) (n top count k end : ℕ) (sites starts row made : ℕ → ℕ) → IsEnvelope gaps n n count sites starts → k < count → ((j : ℕ) → k + 1 ≡ j → j < count → end ≡ starts j) → (count ≤ k + 1 → end ≡ n)
    → IsRewritten (starts k) end (λ x. min (height_at x (sites k) (gaps (sites k))) top) row made → IsDrawnTo gaps n top count k starts row → IsDrawnTo gaps n top count (k + 1) starts made
drawn_more gaps n top count k end sites starts row made env lt next last drawn known x inside before =
    elim (cases_lt x (starts k)) [
      | inl earlier ↦ subst (λ (t : ℕ). IsNearest gaps n top x t) (sym (drawn.before x earlier)) (known x inside (λ some. earlier))
      | inr from ↦
          let is = drawn.done x from within in
          record {
            low = omega arith;
            least = λ u p near. let best = env.best k x u lt from inside part p near in omega arith;
            reason = elim (cases_lt (parabola gaps x (sites k)) top) [
              | inl under ↦ inr (record { column = sites k; within = env.site k lt; finite = env.finite k lt; is = omega arith })
              | inr over ↦ inl (omega arith)
            ];
          }
    ]
  where
    part : (j : ℕ) → k + 1 ≡ j → j < count → x < starts j
    part j e less = subst (λ (t : ℕ). x < starts t) e (before (omega arith))

    within : x < end
    within = elim (cases_lt (k + 1) count) [
      | inl some ↦
          let less = before some in
          let is = next (k + 1) refl some in
          omega arith
      | inr none ↦ let is = last none in omega arith
    ]

-- where a part of an envelope lies
pub record IsPart (n k end : ℕ) (starts : ℕ → ℕ) : Type 0 where
  pub order : starts k ≤ end
  pub room : end ≤ n

pub part_of : (gaps : ℕ → ℕ) (n count k end : ℕ) (sites starts : ℕ → ℕ) → IsEnvelope gaps n n count sites starts → k < count → ((j : ℕ) → k + 1 ≡ j → j < count → end ≡ starts j) → (count ≤ k + 1 → end ≡ n) → IsPart n k end starts
part_of gaps n count k end sites starts env lt next last = elim (cases_lt (k + 1) count) [
  | inl some ↦
      let is = next (k + 1) refl some in
      let up = env.rising k (k + 1) (omega arith) some in
      let within = env.within (k + 1) some in
      record { order = omega arith; room = omega arith }
  | inr none ↦
      let is = last none in
      let within = env.within k lt in
      record { order = omega arith; room = omega arith }
]

-- the same gaps have the same envelope
nearest_same : (gaps others : ℕ → ℕ) (n top x s : ℕ) → ((u : ℕ) → u < n → gaps u ≡ others u) → IsNearest gaps n top x s → IsNearest others n top x s
nearest_same gaps others n top x s same near = record {
  low = near.low;
  least = λ u p finite.
      let a = near.least u p (omega (arith, same u p)) in
      let b = ap (height_at x u) (same u p) in
      omega arith;
  reason = elim near.reason [
    | inl top_is ↦ inl top_is
    | inr on ↦
        let a = same on.column on.within in
        let b = ap (height_at x on.column) a in
        let finite = on.finite in
        let is = on.is in
        inr (record { column = on.column; within = on.within; finite = omega arith; is = omega arith })
  ];
}

-- the rows before row y have their squares
pub record IsSquaredTo (frame : Frame) (top y : ℕ) (f g : ℕ → ℕ → ℕ) : Type 0 where
  pub done : (x v : ℕ) → x < frame.width → v < y → v < frame.height → IsNearest (λ u. f u v) frame.width top x (g x v)
  pub rest : (x v : ℕ) → x < frame.width → y ≤ v → v < frame.height → g x v ≡ f x v

pub squared_none : (frame : Frame) (top : ℕ) (f : ℕ → ℕ → ℕ) → IsSquaredTo frame top 0 f f
squared_none frame top f = record { done = λ x v p lt q. absurd (omega arith); rest = λ x v p le q. refl }

pub squared_more : (frame : Frame) (top y : ℕ) (f g h : ℕ → ℕ → ℕ) (old made : ℕ → ℕ) → y < frame.height → ((x : ℕ) → x < frame.width → old x ≡ g x y) → ((x : ℕ) → x < frame.width → IsNearest old frame.width top x (made x))
    → IsRowPut frame.width frame.height y made g h → IsSquaredTo frame top y f g → IsSquaredTo frame top (y + 1) f h
squared_more frame top y f g h old made inside same near put known = record {
  done = λ x v p lt q. elim (cases_eq v y) [
    | inl here ↦ rw here (subst (λ (t : ℕ). IsNearest (λ u. f u y) frame.width top x t) (sym (put.here x p)) (nearest_same old (λ u. f u y) frame.width top x (made x) (λ u p'. same u p' ∙ known.rest u y p' (omega arith) inside) (near x p)))
    | inr other ↦ subst (λ (t : ℕ). IsNearest (λ u. f u v) frame.width top x t) (sym (put.others x v p q other)) (known.done x v p (omega arith) q)
  ];
  rest = λ x v p le q. put.others x v p q (λ e. absurd (omega arith)) ∙ known.rest x v p (omega arith) q;
}
