-- Levels at which the counters of eight lanes pass a number.
use Rattle.std.proofs.Common.{◌≡◌, ℕ, zero, suc, ◌+◌, ◌-◌, ◌*◌, ◌<◌, ◌≤◌, ◌⊎◌, inl, inr, List, length, get_or, ap, arith, Bool, false, cond, subst, sym, ◌↔◌}
use Rattle.std.specs.Prelude.{nat_lt, IsTrue}
use Rattle.std.proofs.lemmas.Bool.{cases_lt, lt-ltb, le-ltb}
use Rattle.mw_rank_rows.specs.Lanes.{Counts, IsFound}

-- the counters hold, with another front
pub counts_at : (levels : ℕ) (u : ℕ → ℕ → ℕ) (counts : List ℕ) (level l : ℕ) (below b : List ℕ) → l < levels → length b ≡ 8 → ((j : ℕ) → j < 8 → get_or b j 0 ≡ u l j) → Counts levels u counts level below → Counts levels u counts l b
counts_at levels u counts level l below b inside lanes under t = record { short = t.short; size = t.size; each = t.each; none = t.none; few = t.few; inside = inside; lanes = lanes; under = under }

-- more samples are below a higher level
pub rises : (levels : ℕ) (u : ℕ → ℕ → ℕ) (counts : List ℕ) (level : ℕ) (below : List ℕ) (v more j : ℕ) → v + more ≤ levels → j < 8 → Counts levels u counts level below → u v j ≤ u (v + more) j
rises levels u counts level below v zero j le lt t = omega (arith, ap (λ (w : ℕ). u w j) (let same : v + 0 ≡ v = omega arith in same))
rises levels u counts level below v (suc more) j le lt t =
    omega (arith, rises levels u counts level below v more j (omega arith) lt t, t.each (v + more) j (omega arith) lt, ap (λ (w : ℕ). u w j) (let same : v + suc more ≡ v + more + 1 = omega arith in same))

-- no lane has more samples than can be counted
pub small : (levels : ℕ) (u : ℕ → ℕ → ℕ) (counts : List ℕ) (level : ℕ) (below : List ℕ) (v j : ℕ) → v ≤ levels → j < 8 → Counts levels u counts level below → u v j < 65536
small levels u counts level below v j le lt t =
    omega (arith, rises levels u counts level below v (levels - v) j (omega arith) lt t, t.few j lt, ap (λ (w : ℕ). u w j) (let same : v + (levels - v) ≡ levels = omega arith in same))

-- one level down
pub lowered : (levels : ℕ) (u : ℕ → ℕ → ℕ) (counts : List ℕ) (level : ℕ) (below here b : List ℕ) → 0 < level → length b ≡ 8 → ((j : ℕ) → j < 8 → get_or here j 0 ≡ get_or counts ((level - 1) * 8 + j) 0)
    → ((j : ℕ) → j < 8 → get_or here j 0 ≤ get_or below j 0 → get_or below j 0 < 65536 → get_or b j 0 + get_or here j 0 ≡ get_or below j 0) → Counts levels u counts level below → Counts levels u counts (level - 1) b
lowered levels u counts level below here b high lanes here-is b-is t =
    counts_at levels u counts level (level - 1) below b (omega (arith, t.inside)) lanes
    (λ j lt.
    let whole : u (level - 1 + 1) j ≡ u level j = ap (λ (w : ℕ). u w j) (let same : level - 1 + 1 ≡ level = omega arith in same) in
    let step = t.each (level - 1) j (omega (arith, t.inside)) lt in
    omega (arith, whole, step, here-is j lt, t.under j lt, b-is j lt (omega (arith, whole, step, here-is j lt, t.under j lt)) (omega (arith, t.under j lt, small levels u counts level below level j (omega (arith, t.inside)) lt t))))
    t

-- how many samples are not above a level
pub summed : (levels : ℕ) (u : ℕ → ℕ → ℕ) (counts : List ℕ) (level : ℕ) (below from here sums : List ℕ) (at j : ℕ) → j < 8 → at < levels → get_or here j 0 ≡ get_or counts (at * 8 + j) 0 → get_or from j 0 ≡ u at j
    → (get_or from j 0 + get_or here j 0 < 65536 → get_or sums j 0 ≡ get_or from j 0 + get_or here j 0) → Counts levels u counts level below → get_or sums j 0 ≡ u (at + 1) j
summed levels u counts level below from here sums at j lt inside here-is from-is sums-is t =
    let step = t.each at j inside lt in
    omega (arith, step, here-is, from-is, sums-is (omega (arith, step, here-is, from-is, small levels u counts level below (at + 1) j (omega arith) lt t)))

-- the search of lane j went on to a level at most, and stands at one below which there are fewer than n samples; where it
-- stayed behind, n samples are not above
pub record IsReached (u : ℕ → ℕ → ℕ) (n j at level : ℕ) : Type 0 where
  pub up_to : level ≤ at
  pub few : (u level j < n) ⊎ (level ≡ 0)
  pub enough : level < at → n ≤ u (level + 1) j

abbrev one : Bool → ℕ
one b = cond b 1 0

-- where a lane has fewer than n samples up to a level, and n in all, there is a level above
pub has_room : (levels : ℕ) (u : ℕ → ℕ → ℕ) (at n sum j : ℕ) → at < levels → sum ≡ u (at + 1) j → sum < n → n ≤ u levels j → at + 1 < levels
has_room levels u at n sum j inside sum-is few all = elim (cases_lt (at + 1) levels) [
  | inl room ↦ room
  | inr last ↦ absurd (omega (arith, sum-is, ap (λ (v : ℕ). u v j) (let same : at + 1 ≡ levels = omega arith in same)))
]

-- one level more is looked at
pub reached_more : (levels : ℕ) (u : ℕ → ℕ → ℕ) (counts : List ℕ) (level : ℕ) (below : List ℕ) (n j at old new sum : ℕ) → j < 8 → at < levels → sum ≡ u (at + 1) j → (old + 1 < 65536 → new ≡ old + cond (nat_lt sum n) 1 0) → Counts levels u counts level below
    → IsReached u n j at old → IsReached u n j (at + 1) new
reached_more levels u counts level below n j at old new sum lt inside sum-is new-is t r =
    let step = new-is (omega (arith, r.up_to, t.short)) in
    elim (cases_lt sum n) [
      | inl few ↦
          let up : new ≡ old + 1 = omega (arith, step, ap one (lt-ltb sum n few)) in
          let last : old ≡ at = elim (cases_lt old at) [
            | inl behind ↦ absurd (omega (arith, r.enough behind, sum-is, rises levels u counts level below (old + 1) (at - old) j (omega arith) lt t, ap (λ (v : ℕ). u v j) (let same : old + 1 + (at - old) ≡ at + 1 = omega arith in same)))
            | inr here ↦ omega (arith, r.up_to)
          ] in
          let now : new ≡ at + 1 = omega (arith, up, last) in
          record { up_to = omega (arith, now); few = inl (omega (arith, sum-is, ap (λ (v : ℕ). u v j) now)); enough = λ less. absurd (omega (arith, now)) }
      | inr enough ↦
          let same : new ≡ old = omega (arith, step, ap one (le-ltb sum n enough)) in
          let kept : IsReached u n j (at + 1) old = record {
            up_to = omega (arith, r.up_to);
            few = r.few;
            enough = λ less. elim (cases_lt old at) [
              | inl behind ↦ r.enough behind
              | inr here ↦ omega (arith, sum-is, ap (λ (v : ℕ). u (v + 1) j) (let last : old ≡ at = omega arith in last))
            ];
          } in
          subst (λ (v : ℕ). IsReached u n j (at + 1) v) (sym same) kept
    ]

-- where no lane has fewer than n samples up to there, all are found
pub reached_last : (levels : ℕ) (u : ℕ → ℕ → ℕ) (n j at level sum : ℕ) → at < levels → sum ≡ u (at + 1) j → n ≤ sum → IsReached u n j at level → IsFound levels u n j level
reached_last levels u n j at level sum inside sum-is all r = record {
  few = r.few;
  enough = elim (cases_lt level at) [
    | inl behind ↦ r.enough behind
    | inr here ↦ omega (arith, sum-is, ap (λ (v : ℕ). u (v + 1) j) (let last : level ≡ at = omega (arith, r.up_to) in last))
  ];
  within = omega (arith, r.up_to);
}

pub reached_first : (u : ℕ → ℕ → ℕ) (n j at level below : ℕ) → level ≡ at → below ≡ u at j → (below < n) ⊎ (at ≡ 0) → IsReached u n j at level
reached_first u n j at level below level-is below-is few =
    let start : IsReached u n j at at = record {
      up_to = omega arith;
      few = elim few [ inl less ↦ inl (omega (arith, below-is)) | inr lowest ↦ inr lowest ];
      enough = λ behind. absurd (omega arith);
    } in
    subst (λ (v : ℕ). IsReached u n j at v) (sym level-is) start

-- the search goes on only where a level is above
pub goes_on : (levels : ℕ) (u : ℕ → ℕ → ℕ) (at : ℕ) (n sums : List ℕ) (done : Bool) → (IsTrue done ↔ ((j : ℕ) → j < 8 → get_or n j 0 ≤ get_or sums j 0)) → done ≡ false → at < levels → ((j : ℕ) → j < 8 → get_or sums j 0 ≡ u (at + 1) j)
    → ((j : ℕ) → j < 8 → get_or n j 0 ≤ u levels j) → at + 1 < levels
goes_on levels u at n sums done both not_done inside sums-are all = elim (cases_lt (at + 1) levels) [
  | inl room ↦ room
  | inr last ↦ absurd (differs done not_done (both.1 (λ j lt. omega (arith, all j lt, sums-are j lt, ap (λ (v : ℕ). u v j) (let same : at + 1 ≡ levels = omega arith in same)))))
]
  where
    differs : (b : Bool) → b ≡ false → IsTrue b → ⊥
    differs b not_so so = cc
