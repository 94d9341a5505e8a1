-- Lowering counters, one place, one row, one box after another.
use Rattle.std.proofs.Common.{◌≡◌, ◌≢◌, ℕ, ◌+◌, ◌*◌, ◌/◌, ◌%◌, ◌<◌, ◌≤◌, Bool, true, false, ◌&&◌, nat_eq, List, length, refl, ap, sym, ◌∙◌, arith, inl, inr, get_or}
use Rattle.std.proofs.Math.Bool.{and-false, and-true}
use Rattle.std.proofs.lemmas.Bool.{cases_lt, cases_eq, eqb-true, and_parts}
use Rattle.mw_model.specs.Tasks.{flag}
use Rattle.mw_grid.specs.Counts.{bit, in_range}
use Rattle.mw_grid.proofs.Meeting.{row_is}
use Rattle.mw_grid.proofs.Counts.{bit-at, bit-other, in-yes, in-low, in-high}
use Rattle.mw_ready_queue.specs.Queues.{Queued}
use Rattle.mw_ready.specs.Counters.{Lowers, AreWaiting, NoneIsZero}

-- one place more
pub range_more : (a t x : ℕ) → a ≤ t → bit (in_range a (t + 1) x) ≡ bit (in_range a t x) + bit (nat_eq x t)
range_more a t x le =
    elim (cases_lt x a) [
      | inl low ↦ omega (arith, ap bit (in-low a (t + 1) x low), ap bit (in-low a t x low), bit-other x t (λ e. absurd (omega arith)))
      | inr from ↦ elim (cases_lt x t) [
        | inl before ↦ omega (arith, ap bit (in-yes a (t + 1) x from (omega arith)), ap bit (in-yes a t x from before), bit-other x t (λ e. absurd (omega arith)))
        | inr reached ↦ elim (cases_eq x t) [
          | inl here ↦ omega (arith, ap bit (in-yes a (t + 1) x from (omega arith)), ap bit (in-high a t x reached), bit-at x t here)
          | inr past ↦ omega (arith, ap bit (in-high a (t + 1) x (beyond x t reached past)), ap bit (in-high a t x reached), bit-other x t past)
        ]
      ]
    ]
  where
    beyond : (x t : ℕ) → t ≤ x → x ≢ t → t + 1 ≤ x
    beyond x t le ne = omega arith

pub lowers_more : (here row more : ℕ → Bool) (old now out : List ℕ) → ((x : ℕ) → bit (more x) ≡ bit (here x) + bit (row x)) → Lowers here old now → Lowers row now out → Lowers more old out
lowers_more here row more old now out same before after =
    record { size = after.size ∙ before.size; each = λ x lt. let e = before.size in omega (arith, before.each x lt, after.each x (omega arith), same x) }

pub and_bits : (a b c d : Bool) → bit a ≡ bit b + bit c → bit (a && d) ≡ bit (b && d) + bit (c && d)
and_bits a b c true e = rw (and-true a, and-true b, and-true c) e
and_bits a b c false e = rw (and-false a, and-false b, and-false c) (none 0)
  where
    none : (k : ℕ) → 0 ≡ 0 + 0
    none k = omega arith

-- one row of a box more
pub box_more : (columns top row left right x : ℕ) → 0 < columns → right ≤ columns → top ≤ row
    → bit (in_range top (row + 1) (x / columns) && in_range left right (x % columns))
    ≡ bit (in_range top row (x / columns) && in_range left right (x % columns)) + bit (in_range (row * columns + left) (row * columns + right) x)
box_more columns top row left right x some le from =
    and_bits (in_range top (row + 1) (x / columns)) (in_range top row (x / columns)) (nat_eq (x / columns) row) (in_range left right (x % columns)) (range_more top row (x / columns) from)
    ∙ ap (λ (b : Bool). bit (in_range top row (x / columns) && in_range left right (x % columns)) + bit b) (sym (row_is columns row left right x some le))

-- the next row of a box has not been lowered
pub row_still : (columns top bottom left right row : ℕ) (old now : List ℕ) → 0 < columns → right ≤ columns → top ≤ row → row < bottom
    → Lowers (λ t. in_range top row (t / columns) && in_range left right (t % columns)) old now → (t : ℕ) → t < length now → in_range (row * columns + left) (row * columns + right) t ≡ true
    → (t < length old) × (in_range top bottom (t / columns) && in_range left right (t % columns) ≡ true) × (get_or now t 0 ≡ get_or old t 0)
row_still columns top bottom left right row old now some le from to lowers t lt here =
    let both = and_parts (nat_eq (t / columns) row) (in_range left right (t % columns)) (sym (row_is columns row left right t some le) ∙ here) in
    let r-is : t / columns ≡ row = eqb-true (t / columns) row both.0 in
    let t-lt : t < length old = let e = lowers.size in omega arith in
    let not_yet : bit (in_range top row (t / columns) && in_range left right (t % columns)) ≡ 0 = rw (in-high top row (t / columns) (omega arith)) refl in
    (t-lt, rw (in-yes top bottom (t / columns) (omega arith) (omega arith)) both.1, omega (arith, lowers.each t t-lt))

pub row_waits : (columns top bottom left right row : ℕ) (old now : Queued) → 0 < columns → right ≤ columns → top ≤ row → row < bottom → now.started ≡ old.started
    → AreWaiting (λ t. in_range top bottom (t / columns) && in_range left right (t % columns)) old
    → Lowers (λ t. in_range top row (t / columns) && in_range left right (t % columns)) old.waiting now.waiting
    → AreWaiting (in_range (row * columns + left) (row * columns + right)) now
row_waits columns top bottom left right row old now some le from to started waiting lowers = λ t lt here.
    let still = row_still columns top bottom left right row old.waiting now.waiting some le from to lowers t lt here in
    let was = waiting t still.0 still.1 in
    (omega (arith, was.0, still.2), ap (λ (xs : List Bool). flag xs t) started ∙ was.1)

pub row_counted : (columns top bottom left right row : ℕ) (old now : List ℕ) → 0 < columns → right ≤ columns → top ≤ row → row < bottom
    → NoneIsZero (λ t. in_range top bottom (t / columns) && in_range left right (t % columns)) old
    → Lowers (λ t. in_range top row (t / columns) && in_range left right (t % columns)) old now → NoneIsZero (in_range (row * columns + left) (row * columns + right)) now
row_counted columns top bottom left right row old now some le from to counted lowers = λ t lt here.
    let still = row_still columns top bottom left right row old now some le from to lowers t lt here in
    omega (arith, counted t still.0 still.1, still.2)

-- a test that is the same everywhere
pub lowers_same : (here there : ℕ → Bool) (old now : List ℕ) → ((t : ℕ) → here t ≡ there t) → Lowers here old now → Lowers there old now
lowers_same here there old now same lowers = record { size = lowers.size; each = λ t lt. omega (arith, lowers.each t lt, ap bit (same t)) }

pub waiting_same : (here there : ℕ → Bool) (q : Queued) → ((t : ℕ) → here t ≡ there t) → AreWaiting there q → AreWaiting here q
waiting_same here there q same waiting = λ t lt so. waiting t lt (sym (same t) ∙ so)

pub counted_same : (here there : ℕ → Bool) (counts : List ℕ) → ((t : ℕ) → here t ≡ there t) → NoneIsZero there counts → NoneIsZero here counts
counted_same here there counts same counted = λ t lt so. counted t lt (sym (same t) ∙ so)
