-- The nodes of a tree of sums.
use Rattle.std.proofs.Common.{◌≡◌, ℕ, zero, suc, ◌+◌, ◌-◌, ◌*◌, ◌<◌, ◌≤◌, ◌^◌, List, ap, sym, ◌∙◌, arith, get_or, inl, inr}
use Rattle.std.proofs.Math.Nat.{mul-le-mul_left, pow-suc, one-le-pow}
use Rattle.std.proofs.lemmas.Bool.{cases_lt}
use Rattle.std.proofs.lemmas.Nat.{mul-le}
use Rattle.mw_core_sums.specs.Trees.{span_sum, IsSum, IsTree}
use Rattle.mw_core_sums.proofs.Spans.{span-add}

-- a node is no more than all leaves may come to
node_times : (t : List ℕ) (room most fuel q : ℕ) → 2 * room ≤ q + fuel → 1 ≤ q → q < 2 * room → ((r : ℕ) → q ≤ r → r < room → IsSum t r) → ((j : ℕ) → room ≤ j → j < 2 * room → get_or t j 0 ≤ most)
    → get_or t q 0 * q ≤ most * (2 * room)
node_times t room most zero q enough some lt sums small = absurd (omega arith)
node_times t room most (suc fuel) q enough some lt sums small =
    elim (cases_lt q room) [
      | inl inner ↦
          let a = get_or t (2 * q) 0 in
          let b = get_or t (2 * q + 1) 0 in
          let left : a * (2 * q) ≤ most * (2 * room) = node_times t room most fuel (2 * q) (omega arith) (omega arith) (omega arith) (λ r from to. sums r (omega arith) to) small in
          let right : b * (2 * q + 1) ≤ most * (2 * room) = node_times t room most fuel (2 * q + 1) (omega arith) (omega arith) (omega arith) (λ r from to. sums r (omega arith) to) small in
          let whole : get_or t q 0 * q ≡ (a + b) * q = ap (λ (k : ℕ). k * q) (sums q (omega arith) inner) in
          halves a b q (get_or t q 0 * q) (most * (2 * room)) left right whole
      | inr leaf ↦ mul-le (get_or t q 0) q most (2 * room) (small q leaf lt) (omega arith)
    ]
  where
    halves : (a b q x lim : ℕ) → a * (2 * q) ≤ lim → b * (2 * q + 1) ≤ lim → x ≡ (a + b) * q → x ≤ lim
    halves a b q x lim left right e = omega arith

pub node_small : (t : List ℕ) (room q : ℕ) → room ≤ 131072 → 1 ≤ q → q < 2 * room → ((r : ℕ) → q ≤ r → r < room → IsSum t r) → ((j : ℕ) → j < room → get_or t (room + j) 0 < 2 ^ 32) → get_or t q 0 ≤ 2 ^ 50
node_small t room q few some lt sums small =
    let times = node_times t room (2 ^ 32) (2 * room) q (omega arith) some lt sums (λ j from to. let e : get_or t j 0 ≡ get_or t (room + (j - room)) 0 = ap (λ (k : ℕ). get_or t k 0) (split room j from) in let s = small (j - room) (omega arith) in omega arith) in
    let least : get_or t q 0 * 1 ≤ get_or t q 0 * q = mul-le-mul_left (get_or t q 0) some in
    omega arith
  where
    split : (room j : ℕ) → room ≤ j → j ≡ room + (j - room)
    split room j from = omega arith

-- a node is the sum of the leaves below it
pub node_span : (t : List ℕ) (room k i : ℕ) → ((q : ℕ) → 1 ≤ q → q < room → IsSum t q) → 1 ≤ i → i * 2 ^ k + 2 ^ k ≤ 2 * room → get_or t i 0 ≡ span_sum t (i * 2 ^ k) (2 ^ k)
node_span t room zero i sums some fits = ap (λ (j : ℕ). get_or t j 0) (one i) ∙ front (get_or t (i * 1 + 0) 0)
  where
    one : (i : ℕ) → i ≡ i * 1 + 0
    one i = omega arith

    front : (k : ℕ) → k ≡ 0 + k
    front k = omega arith
node_span t room (suc k) i sums some fits =
    let p = 2 ^ k in
    let p-is : 2 ^ suc k ≡ p * 2 = pow-suc 2 k in
    let p-some : 1 ≤ p = one-le-pow k 2 (omega arith) in
    let up : (i + 1) * (p * 2) ≤ 2 * room = omega (arith, ap (λ (n : ℕ). i * n + n) p-is) in
    let low : (i + 1) * 1 ≤ (i + 1) * p = mul-le-mul_left (i + 1) p-some in
    let left : get_or t (2 * i) 0 ≡ span_sum t (2 * i * p) p = node_span t room k (2 * i) sums (omega arith) (omega arith) in
    let right : get_or t (2 * i + 1) 0 ≡ span_sum t ((2 * i + 1) * p) p = node_span t room k (2 * i + 1) sums (omega arith) (omega arith) in
    let both : span_sum t (2 * i * p) (p + p) ≡ span_sum t (2 * i * p) p + span_sum t (2 * i * p + p) p = span-add t (2 * i * p) p p in
    let next : span_sum t ((2 * i + 1) * p) p ≡ span_sum t (2 * i * p + p) p = ap (λ (n : ℕ). span_sum t n p) (along i p) in
    sums i some (omega arith)
    ∙ ap (λ (n : ℕ). n + get_or t (2 * i + 1) 0) left
    ∙ ap (λ (n : ℕ). span_sum t (2 * i * p) p + n) (right ∙ next)
    ∙ sym both
    ∙ ap (λ (n : ℕ). span_sum t n (p + p)) (grouped i p)
    ∙ ap (λ (n : ℕ). span_sum t (i * (p * 2)) n) (twice p)
    ∙ ap (λ (n : ℕ). span_sum t (i * n) n) (sym p-is)
  where
    along : (i p : ℕ) → (2 * i + 1) * p ≡ 2 * i * p + p
    along i p = omega arith

    grouped : (i p : ℕ) → 2 * i * p ≡ i * (p * 2)
    grouped i p = omega arith

    twice : (p : ℕ) → p + p ≡ p * 2
    twice p = omega arith

-- a node on the way down to the leaf of a position
pub record Holds (t : List ℕ) (room node rest position : ℕ) : Type 0 where
  pub height : ℕ
  pub some : 1 ≤ node
  pub low : room ≤ node * 2 ^ height
  pub high : node * 2 ^ height + 2 ^ height ≤ 2 * room
  pub here : rest < get_or t node 0
  pub before : span_sum t room (node * 2 ^ height - room) + rest ≡ position

-- one step down
descend-down : (t : List ℕ) (room node rest position h : ℕ) → IsTree t room → node < room → 1 ≤ node → room ≤ node * 2 ^ suc h → node * 2 ^ suc h + 2 ^ suc h ≤ 2 * room → rest < get_or t node 0
    → span_sum t room (node * 2 ^ suc h - room) + rest ≡ position → (rest < get_or t (2 * node) 0 → Holds t room (2 * node) rest position) × (get_or t (2 * node) 0 ≤ rest → Holds t room (2 * node + 1) (rest - get_or t (2 * node) 0) position)
descend-down t room node rest position h tree inner some low high here before =
    let p = 2 ^ h in
    let p-is : 2 ^ suc h ≡ p * 2 = pow-suc 2 h in
    let p-some : 1 ≤ p = one-le-pow h 2 (omega arith) in
    let n-is : node * 2 ^ suc h ≡ 2 * node * p = ap (λ (n : ℕ). node * n) p-is ∙ grouped node p in
    let place : node * 2 ^ suc h - room ≡ 2 * node * p - room = ap (λ (n : ℕ). n - room) n-is in
    let start : span_sum t room (node * 2 ^ suc h - room) ≡ span_sum t room (2 * node * p - room) = ap (span_sum t room) place in
    let left : get_or t (2 * node) 0 ≡ span_sum t (2 * node * p) p = node_span t room h (2 * node) tree.sums (omega arith) (omega arith) in
    let sum = tree.sums node some inner in
    let more : span_sum t room (2 * node * p - room + p) ≡ span_sum t room (2 * node * p - room) + span_sum t (room + (2 * node * p - room)) p = span-add t room (2 * node * p - room) p in
    let joined : span_sum t (room + (2 * node * p - room)) p ≡ span_sum t (2 * node * p) p = ap (λ (n : ℕ). span_sum t n p) (back room (2 * node * p) (omega arith)) in
    let right : span_sum t room ((2 * node + 1) * p - room) ≡ span_sum t room (2 * node * p - room + p) = ap (span_sum t room) (along node p room (omega arith)) in
    let odd : (2 * node + 1) * p ≡ 2 * node * p + p = share node p in (
      λ lt. record { height = h; some = omega arith; low = omega arith; high = omega arith; here = lt; before = omega arith },
      λ le. record { height = h; some = omega arith; low = omega arith; high = omega arith; here = omega arith; before = omega arith },
    )
  where
    grouped : (n p : ℕ) → n * (p * 2) ≡ 2 * n * p
    grouped n p = omega arith

    share : (n p : ℕ) → (2 * n + 1) * p ≡ 2 * n * p + p
    share n p = omega arith

    back : (room x : ℕ) → room ≤ x → room + (x - room) ≡ x
    back room x le = omega arith

    along : (n p room : ℕ) → room ≤ 2 * n * p → (2 * n + 1) * p - room ≡ 2 * n * p - room + p
    along n p room le = omega arith

pub goes_down : (t : List ℕ) (room node rest position : ℕ) → IsTree t room → node < room → Holds t room node rest position
    → (rest < get_or t (2 * node) 0 → Holds t room (2 * node) rest position) × (get_or t (2 * node) 0 ≤ rest → Holds t room (2 * node + 1) (rest - get_or t (2 * node) 0) position)
goes_down t room node rest position tree inner holds = go holds.height holds.low holds.high holds.before
  where
    go : (h : ℕ) → room ≤ node * 2 ^ h → node * 2 ^ h + 2 ^ h ≤ 2 * room → span_sum t room (node * 2 ^ h - room) + rest ≡ position
        → (rest < get_or t (2 * node) 0 → Holds t room (2 * node) rest position) × (get_or t (2 * node) 0 ≤ rest → Holds t room (2 * node + 1) (rest - get_or t (2 * node) 0) position)
    go zero low high before = absurd (omega arith)
    go (suc h) low high before = descend-down t room node rest position h tree inner holds.some low high holds.here before

-- at a leaf
pub at_leaf : (t : List ℕ) (room node rest position : ℕ) → room ≤ node → Holds t room node rest position → (node < 2 * room) × (span_sum t room (node - room) + rest ≡ position)
at_leaf t room node rest position leaf holds = go holds.height holds.high holds.before
  where
    one : (n : ℕ) → n * 1 ≡ n
    one n = omega arith

    go : (h : ℕ) → node * 2 ^ h + 2 ^ h ≤ 2 * room → span_sum t room (node * 2 ^ h - room) + rest ≡ position → (node < 2 * room) × (span_sum t room (node - room) + rest ≡ position)
    go zero high before = (omega arith, ap (λ (n : ℕ). span_sum t room (n - room) + rest) (sym (one node)) ∙ before)
    go (suc h) high before =
        let p = 2 ^ h in
        let p-is : 2 ^ suc h ≡ p * 2 = pow-suc 2 h in
        let p-some : 1 ≤ p = one-le-pow h 2 (omega arith) in
        let up : (node + 1) * 1 ≤ (node + 1) * p = mul-le-mul_left (node + 1) p-some in
        absurd (omega (arith, ap (λ (n : ℕ). node * n + n) p-is))
