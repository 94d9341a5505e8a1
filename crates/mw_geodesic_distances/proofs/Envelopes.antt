-- How an envelope grows by one parabola.
use Rattle.std.proofs.Common.{◌≡◌, ℕ, ◌+◌, ◌<◌, ◌≤◌, List, length, set, refl, sym, ap, subst, arith, ◌∙◌, inl, inr}
use Rattle.std.proofs.lemmas.Bool.{cases_lt, cases_eq}
use Rattle.std.proofs.lemmas.List.{get_or-set_same, get_or-set_other}
use Rattle.mw_geodesic_distances.specs.Rows.{distance_at}
use Rattle.mw_geodesic_distances.specs.declared.columns.TheConstants.{FAR}
use Rattle.mw_geodesic_distances.specs.Envelopes.{parabola, IsBeforeNext, IsEnvelope, IsEnvelopeCut, IsMeeting}
use Rattle.mw_geodesic_distances.proofs.Heights.{later, earlier}

pub envelope_none : (gaps : ℕ → ℕ) (n : ℕ) (sites starts : ℕ → ℕ) → IsEnvelope gaps n 0 0 sites starts
envelope_none gaps n sites starts = record {
  few = omega arith;
  site = λ k lt. absurd (omega arith);
  finite = λ k lt. absurd (omega arith);
  begin = λ lt. absurd (omega arith);
  rising = λ k j lt less. absurd (omega arith);
  within = λ k lt. absurd (omega arith);
  best = λ k x i lt. absurd (omega arith);
  none = λ e i lt. absurd (omega arith);
}

-- a column that is far has no parabola
pub envelope_skipped : (gaps : ℕ → ℕ) (n u count : ℕ) (sites starts : ℕ → ℕ) → FAR ≤ gaps u → IsEnvelope gaps n u count sites starts → IsEnvelope gaps n (u + 1) count sites starts
envelope_skipped gaps n u count sites starts far env = record {
  few = (let few = env.few in omega arith);
  site = λ k lt. (let site = env.site k lt in omega arith);
  finite = env.finite;
  begin = env.begin;
  rising = env.rising;
  within = env.within;
  best = λ k x i lt from to next less near. env.best k x i lt from to next (before i less near) near;
  none = λ e i less near. env.none e i (before i less near) near;
}
  where
    before : (i : ℕ) → i < u + 1 → gaps i < FAR → i < u
    before i less near = elim (cases_eq i u) [
      | inl e ↦ absurd (omega (arith, ap gaps e))
      | inr ne ↦ omega arith
    ]

-- ---- parts that are cut off

pub cut_none : (gaps : ℕ → ℕ) (n u count : ℕ) (sites starts : ℕ → ℕ) → IsEnvelopeCut gaps n u count count sites starts
cut_none gaps n u count sites starts = record { few = omega arith; beaten = λ lt. absurd (omega arith) }

pub cut_more : (gaps : ℕ → ℕ) (n u count j k : ℕ) (sites starts : ℕ → ℕ) → j + 1 ≡ k → IsEnvelope gaps n u count sites starts → parabola gaps (starts j) u < parabola gaps (starts j) (sites j) → IsEnvelopeCut gaps n u count k sites starts
    → IsEnvelopeCut gaps n u count j sites starts
cut_more gaps n u count j k sites starts next env below known =
    let few = known.few in
    record {
      few = omega arith;
      beaten = λ lt x i from to less near. elim (cases_lt k count) [
        | inl some ↦ elim (cases_lt x (starts k)) [
          | inr behind ↦ known.beaten some x i behind to less near
          | inl before ↦ here x i from to less near (λ j' e lt'. subst (λ (t : ℕ). x < starts t) (sym next ∙ e) before)
        ]
        | inr last ↦ here x i from to less near (λ j' e lt'. absurd (omega arith))
      ];
    }
  where
    here : (x i : ℕ) → starts j ≤ x → x < n → i < u → gaps i < FAR → IsBeforeNext count starts j x → parabola gaps x u < parabola gaps x i
    here x i from to less near part =
        let few = known.few in
        let best = env.best j x i (omega arith) from to part less near in
        let over = later gaps (starts j) x (sites j) u from (env.site j (omega arith)) below in
        omega arith

-- ---- a parabola more

-- what is written at one index
pub record IsWritten (k s : ℕ) (old new : ℕ → ℕ) : Type 0 where
  pub here : new k ≡ s
  pub others : (j : ℕ) → (j ≡ k → ⊥) → new j ≡ old j

pub written : (k s : ℕ) (xs : List ℕ) → k < length xs → IsWritten k s (distance_at xs) (distance_at (set xs k s))
written k s xs lt = record { here = get_or-set_same xs k s 0 lt; others = λ j other. get_or-set_other xs k j s 0 other }

-- it is below all others everywhere
pub envelope_alone : (gaps : ℕ → ℕ) (n u count : ℕ) (sites starts sites' starts' : ℕ → ℕ) → u < n → gaps u < FAR → IsEnvelope gaps n u count sites starts → IsEnvelopeCut gaps n u count 0 sites starts
    → sites' 0 ≡ u → starts' 0 ≡ 0 → IsEnvelope gaps n (u + 1) 1 sites' starts'
envelope_alone gaps n u count sites starts sites' starts' inside near env cut site-is start-is = record {
  few = omega arith;
  site = λ k lt. let zero : k ≡ 0 = omega arith in rw (zero, site-is) (omega arith);
  finite = λ k lt. let zero : k ≡ 0 = omega arith in rw (zero, site-is) near;
  begin = λ lt. start-is;
  rising = λ k j lt less. absurd (omega arith);
  within = λ k lt. let zero : k ≡ 0 = omega arith in rw (zero, start-is) (omega arith);
  best = λ k x i lt from to next less far.
      let zero : k ≡ 0 = omega arith in
      rw (zero, site-is) (best x i to less far);
  none = λ e. absurd (omega arith);
}
  where
    best : (x i : ℕ) → x < n → i < u + 1 → gaps i < FAR → parabola gaps x u ≤ parabola gaps x i
    best x i to less far = elim (cases_eq i u) [
      | inl e ↦ rw e (omega arith)
      | inr ne ↦ elim (cases_eq count 0) [
        | inl e ↦ absurd (env.none e i (omega arith) far)
        | inr some ↦
            let begin = env.begin (omega arith) in
            let below = cut.beaten (omega arith) x i (omega arith) to (omega arith) far in
            omega arith
      ]
    ]

-- what is known where part j stays and the parabola of column u is below it from column w on
pub record IsMet (gaps : ℕ → ℕ) (n u count j k w : ℕ) (sites starts : ℕ → ℕ) : Type 0 where
  pub next : j + 1 ≡ k
  pub inside : u < n
  pub near : gaps u < FAR
  pub env : IsEnvelope gaps n u count sites starts
  pub cut : IsEnvelopeCut gaps n u count k sites starts
  pub stays : parabola gaps (starts j) (sites j) ≤ parabola gaps (starts j) u
  pub met : IsMeeting (λ x. parabola gaps x (sites j)) (λ x. parabola gaps x u) w

pub is_met : (gaps : ℕ → ℕ) (n u count j k w : ℕ) (sites starts : ℕ → ℕ) → j + 1 ≡ k → u < n → gaps u < FAR → IsEnvelope gaps n u count sites starts → IsEnvelopeCut gaps n u count k sites starts
    → parabola gaps (starts j) (sites j) ≤ parabola gaps (starts j) u → IsMeeting (λ x. parabola gaps x (sites j)) (λ x. parabola gaps x u) w → IsMet gaps n u count j k w sites starts
is_met gaps n u count j k w sites starts next inside near env cut stays met = record { next = next; inside = inside; near = near; env = env; cut = cut; stays = stays; met = met }

-- it meets behind the start of that part
met_behind : (gaps : ℕ → ℕ) (n u count j k w : ℕ) (sites starts : ℕ → ℕ) → IsMet gaps n u count j k w sites starts → starts j < w
met_behind gaps n u count j k w sites starts m = elim (cases_lt (starts j) w) [
  | inl lt ↦ lt
  | inr le ↦
      let below = m.met.behind (starts j) le in
      let stays = m.stays in
      absurd (omega arith)
]

-- and not behind its end
met_before : (gaps : ℕ → ℕ) (n u count j k w : ℕ) (sites starts : ℕ → ℕ) → IsMet gaps n u count j k w sites starts → k < count → w ≤ starts k
met_before gaps n u count j k w sites starts m some = elim (cases_lt (starts k) w) [
  | inr le ↦ le
  | inl lt ↦
      let next = m.next in
      let up = m.met.before (starts k) lt in
      let below = m.cut.beaten some (starts k) (sites j) (omega arith) (m.env.within k some) (m.env.site j (omega arith)) (m.env.finite j (omega arith)) in
      absurd (omega arith)
]

-- the parts that stay, before column w, are not over it
met_best : (gaps : ℕ → ℕ) (n u count j k w : ℕ) (sites starts : ℕ → ℕ) → IsMet gaps n u count j k w sites starts → (a x i : ℕ) → a < k → starts a ≤ x → x < n → x < w → ((b : ℕ) → a + 1 ≡ b → b < k → x < starts b) → i < u + 1 → gaps i < FAR
    → parabola gaps x (sites a) ≤ parabola gaps x i
met_best gaps n u count j k w sites starts m a x i lt from to less part before far =
    let next = m.next in
    let few = m.cut.few in
    elim (cases_eq i u) [
      | inr ne ↦ m.env.best a x i (omega arith) from to old_part (omega arith) far
      | inl e ↦ rw e (elim (cases_eq a j) [
        | inl same ↦ rw same (m.met.before x less)
        | inr other ↦
            let sooner : x < starts (a + 1) = part (a + 1) refl (omega arith) in
            let up : x ≤ starts j = (elim (cases_eq (a + 1) j) [
              | inl same ↦ let there = ap starts same in omega arith
              | inr more ↦ let rising = m.env.rising (a + 1) j (omega arith) (omega arith) in omega arith
            ]) in
            let site = m.env.site j (omega arith) in
            let here = m.env.best a x (sites j) (omega arith) from to old_part site (m.env.finite j (omega arith)) in
            let there = earlier gaps x (starts j) (sites j) u up site m.stays in
            omega arith
      ])
    ]
  where
    old_part : IsBeforeNext count starts a x
    old_part b e lt' = elim (cases_lt b k) [
      | inl less' ↦ part b e less'
      | inr more ↦
          let next = m.next in
          let same : b ≡ k = omega arith in
          let end = met_before gaps n u count j k w sites starts m (omega arith) in
          rw same (omega arith)
    ]

-- it meets behind the last column, and has no part
pub envelope_past : (gaps : ℕ → ℕ) (n u count j k w : ℕ) (sites starts : ℕ → ℕ) → n ≤ w → IsMet gaps n u count j k w sites starts → IsEnvelope gaps n (u + 1) k sites starts
envelope_past gaps n u count j k w sites starts past m =
    let next = m.next in
    let few = m.cut.few in
    let all = m.env.few in
    record {
      few = omega arith;
      site = λ a lt. (let site = m.env.site a (omega arith) in omega arith);
      finite = λ a lt. m.env.finite a (omega arith);
      begin = λ lt. m.env.begin (omega arith);
      rising = λ a b lt less. m.env.rising a b lt (omega arith);
      within = λ a lt. m.env.within a (omega arith);
      best = λ a x i lt from to part before far. met_best gaps n u count j k w sites starts m a x i lt from to (omega arith) part before far;
      none = λ e. absurd (omega arith);
    }

-- it has the last part
pub envelope_more : (gaps : ℕ → ℕ) (n u count j k w : ℕ) (sites starts sites' starts' : ℕ → ℕ) → w < n → IsMet gaps n u count j k w sites starts → IsWritten k u sites sites' → IsWritten k w starts starts' → IsEnvelope gaps n (u + 1) (k + 1) sites' starts'
envelope_more gaps n u count j k w sites starts sites' starts' inside m put put' =
    let next = m.next in
    let few = m.cut.few in
    let all = m.env.few in
    let site-is = put.here in
    let start-is = put'.here in
    record {
      few = omega arith;
      site = λ a lt. elim (cases_eq a k) [
        | inl e ↦ rw (e, site-is) (omega arith)
        | inr ne ↦
            let site = m.env.site a (omega arith) in
            omega (arith, put.others a ne)
      ];
      finite = λ a lt. elim (cases_eq a k) [
        | inl e ↦ rw (e, site-is) m.near
        | inr ne ↦ rw (put.others a ne) (m.env.finite a (omega arith))
      ];
      begin = λ lt. put'.others 0 (λ e. absurd (omega arith)) ∙ m.env.begin (omega arith);
      rising = λ a b lt less. elim (cases_eq b k) [
        | inr ne ↦
            let rising = m.env.rising a b lt (omega arith) in
            omega (arith, put'.others a (λ e. absurd (omega arith)), put'.others b ne)
        | inl e ↦ rw (e, start-is) (let up = last_rises a (omega arith) in omega (arith, put'.others a (λ e'. absurd (omega arith))))
      ];
      within = λ a lt. elim (cases_eq a k) [
        | inl e ↦ rw (e, start-is) inside
        | inr ne ↦ (let within = m.env.within a (omega arith) in omega (arith, put'.others a ne))
      ];
      best = λ a x i lt from to part before far. elim (cases_eq a k) [
        | inl e ↦
            let from' : w ≤ x = (let same = ap starts' e in omega arith) in
            rw (e, site-is) (newest x i from' to before far)
        | inr ne ↦
            let start = put'.others a ne in
            rw (put.others a ne) (met_best gaps n u count j k w sites starts m a x i (omega arith) (omega arith) to (ends a x (omega arith) (omega arith) part) (parts a x part) before far)
      ];
      none = λ e. absurd (omega arith);
    }
  where
    last_rises : (a : ℕ) → a < k → starts a < w
    last_rises a lt =
        let next = m.next in
        let few = m.cut.few in
        let behind = met_behind gaps n u count j k w sites starts m in
        elim (cases_eq a j) [
          | inl e ↦ let same = ap starts e in omega arith
          | inr ne ↦ let rising = m.env.rising a j (omega arith) (omega arith) in omega arith
        ]

    parts : (a x : ℕ) → IsBeforeNext (k + 1) starts' a x → (b : ℕ) → a + 1 ≡ b → b < k → x < starts b
    parts a x part b e lt =
        let up = part b e (omega arith) in
        omega (arith, put'.others b (λ e'. absurd (omega arith)))

    ends : (a x : ℕ) → a < k → starts a ≤ x → IsBeforeNext (k + 1) starts' a x → x < w
    ends a x lt from part =
        let next = m.next in
        let few = m.cut.few in
        let behind = met_behind gaps n u count j k w sites starts m in
        elim (cases_eq (a + 1) k) [
          | inl e ↦ let up = part k e (omega arith) in let start-is = put'.here in omega arith
          | inr ne ↦
              let up = parts a x part (a + 1) refl (omega arith) in
              let rises = last_rises (a + 1) (omega arith) in
              omega arith
        ]

    under : (x i : ℕ) → w ≤ x → x < n → i < u → gaps i < FAR → IsBeforeNext count starts j x → parabola gaps x u ≤ parabola gaps x i
    under x i from to less far part =
        let next = m.next in
        let few = m.cut.few in
        let behind = met_behind gaps n u count j k w sites starts m in
        let best = m.env.best j x i (omega arith) (omega arith) to part less far in
        let below = m.met.behind x from in
        omega arith

    newest : (x i : ℕ) → w ≤ x → x < n → i < u + 1 → gaps i < FAR → parabola gaps x u ≤ parabola gaps x i
    newest x i from to before far =
        let next = m.next in
        let few = m.cut.few in
        elim (cases_eq i u) [
          | inl e ↦ rw e (omega arith)
          | inr ne ↦ elim (cases_lt k count) [
            | inl some ↦ elim (cases_lt x (starts k)) [
              | inr behind ↦ let below = m.cut.beaten some x i behind to (omega arith) far in omega arith
              | inl sooner ↦ under x i from to (omega arith) far (λ b e lt. subst (λ (t : ℕ). x < starts t) (sym next ∙ e) sooner)
            ]
            | inr last ↦ under x i from to (omega arith) far (λ b e lt. absurd (omega arith))
          ]
        ]
