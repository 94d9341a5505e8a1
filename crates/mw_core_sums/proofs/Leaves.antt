-- The first leaves of a tree as a list of numbers.
use Rattle.std.proofs.Common.{◌≡◌, ◌≢◌, ℕ, zero, suc, ◌+◌, ◌-◌, ◌*◌, ◌<◌, ◌≤◌, ◌^◌, List, [], ◌∷◌, ◌++◌, length, take, drop, sum, ap, sym, ◌∙◌, arith, get_or, subst, max, inl, inr, length-append, length-drop, zero-add}
use Rattle.std.proofs.Math.Nat.{pow-suc}
use Rattle.std.proofs.lemmas.Bool.{cases_lt, cases_eq}
use Rattle.std.proofs.lemmas.List.{ext_get_or, get_or-take, get_or-drop, length-take-le, get_or_append_left, get_or_push}
use Rattle.mw_core_sums.specs.Trees.{span_sum, leaves, IsPower, Uses}
use Rattle.mw_core_sums.proofs.Spans.{span-add, span-same, span-none, sum-span}
use Rattle.mw_core_sums.proofs.Nodes.{node_span}

pub length-leaves : (t : List ℕ) (room n : ℕ) → length t ≡ 2 * room → n ≤ room → length (leaves t room n) ≡ n
length-leaves t room n size le = length-take-le n (drop room t) (omega (arith, length-drop room t))

pub leaf-at : (t : List ℕ) (room n i : ℕ) → i < n → get_or (leaves t room n) i 0 ≡ get_or t (room + i) 0
leaf-at t room n i lt = get_or-take n (drop room t) i 0 lt ∙ get_or-drop room t i 0

pub leaves-same : (t s : List ℕ) (room more n : ℕ) → length t ≡ 2 * room → length s ≡ 2 * more → n ≤ room → n ≤ more → ((j : ℕ) → j < n → get_or t (room + j) 0 ≡ get_or s (more + j) 0) → leaves t room n ≡ leaves s more n
leaves-same t s room more n t-size s-size t-le s-le same =
    let a = length-leaves t room n t-size t-le in
    let b = length-leaves s more n s-size s-le in
    ext_get_or 0 (leaves t room n) (leaves s more n) (a ∙ sym b) (λ i lt. leaf-at t room n i (omega arith) ∙ same i (omega arith) ∙ sym (leaf-at s more n i (omega arith)))

pub leaves-push : (t s : List ℕ) (room n v : ℕ) → length t ≡ 2 * room → length s ≡ 2 * room → n < room → get_or s (room + n) 0 ≡ v → ((j : ℕ) → j ≢ n → get_or s (room + j) 0 ≡ get_or t (room + j) 0) → leaves s room (n + 1) ≡ leaves t room n ++ v ∷ []
leaves-push t s room n v t-size s-size lt here others =
    let a = length-leaves t room n t-size (omega arith) in
    let b = length-leaves s room (n + 1) s-size (omega arith) in
    let c = length-append (leaves t room n) (v ∷ []) in
    ext_get_or 0 (leaves s room (n + 1)) (leaves t room n ++ v ∷ []) (omega arith) (λ i i-lt. leaf-at s room (n + 1) i (omega arith) ∙ elim (cases_eq i n) [
      | inl e ↦ ap (λ (k : ℕ). get_or s (room + k) 0) e ∙ here ∙ sym (get_or_push (leaves t room n) v 0 i (a ∙ sym e))
      | inr ne ↦ others i ne ∙ sym (get_or_append_left (leaves t room n) (v ∷ []) 0 i (omega arith) ∙ leaf-at t room n i (omega arith))
    ])

-- sums of leaves
pub sum-first : (t : List ℕ) (room n k : ℕ) → length t ≡ 2 * room → n ≤ room → k ≤ n → sum (take k (leaves t room n)) ≡ span_sum t room k
sum-first t room n k size n-le k-le =
    sum-span (leaves t room n) k (let e = length-leaves t room n size n-le in omega arith)
    ∙ span-same (leaves t room n) t 0 room k (λ j lt. ap (λ (i : ℕ). get_or (leaves t room n) i 0) (zero-add j) ∙ leaf-at t room n j (omega arith))

pub sum-all : (t : List ℕ) (room n : ℕ) → length t ≡ 2 * room → n ≤ room → sum (leaves t room n) ≡ span_sum t room n
sum-all t room n size le =
    sum-span (drop room t) n (omega (arith, length-drop room t))
    ∙ span-same (drop room t) t 0 room n (λ j lt. ap (λ (i : ℕ). get_or (drop room t) i 0) (zero-add j) ∙ get_or-drop room t j 0)

-- the root is the sum of all
pub root_is : (t : List ℕ) (room n : ℕ) → Uses t room n → 1 ≤ room → get_or t 1 0 ≡ sum (leaves t room n)
root_is t room n uses some =
    let tree = uses.tree in
    let power = tree.power some in
    let is = power.is in
    let h = power.height in
    let whole : get_or t 1 0 ≡ span_sum t (1 * 2 ^ h) (2 ^ h) = node_span t room h 1 tree.sums (omega arith) (omega arith) in
    let there : 1 * 2 ^ h ≡ room = omega arith in
    let split : 2 ^ h ≡ n + (room - n) = let le = uses.within in omega arith in
    whole
    ∙ ap (λ (k : ℕ). span_sum t k (2 ^ h)) there
    ∙ ap (span_sum t room) split
    ∙ span-add t room n (room - n)
    ∙ (let none : span_sum t (room + n) (room - n) ≡ 0 = span-none t (room + n) (room - n) (λ j lt. ap (λ (k : ℕ). get_or t k 0) (along room n j) ∙ uses.rest (n + j) (omega arith) (let le = uses.within in omega arith)) in
    let all = sum-all t room n tree.size uses.within in
    omega arith)
  where
    along : (a b c : ℕ) → a + b + c ≡ a + (b + c)
    along a b c = omega arith

-- where something is left at a leaf, it is used
pub leaf_used : (t : List ℕ) (room n place rest : ℕ) → Uses t room n → place < room → rest < get_or t (room + place) 0 → place < n
leaf_used t room n place rest uses lt more = elim (cases_lt place n) [
  | inl less ↦ less
  | inr past ↦ absurd (let none = uses.rest place past lt in omega arith)
]

-- twice the room
pub power_twice : (room more : ℕ) → (1 ≤ room → IsPower room) → more ≡ max (2 * room) 1 → IsPower more
power_twice zero more power is = record { height = 0; is = omega arith }
power_twice (suc n) more power is =
    let p = power (omega arith) in
    let e = p.is in
    let twice : 2 ^ suc p.height ≡ 2 ^ p.height * 2 = pow-suc 2 p.height in
    record { height = suc p.height; is = omega arith }

-- a tree with something in it has room
pub room_some : (t : List ℕ) (room n position : ℕ) → Uses t room n → position < sum (leaves t room n) → 1 ≤ room
room_some t zero n position uses lt =
    let none : n ≡ 0 = let le = uses.within in omega arith in
    let all : sum (leaves t 0 n) ≡ 0 = sum-all t 0 n uses.tree.size uses.within ∙ ap (span_sum t 0) none in
    absurd (omega arith)
room_some t (suc m) n position uses lt = omega arith

-- what a way down has found, in the words of the numbers
pub span-found : (t s xs : List ℕ) (room n place rest position : ℕ) → Uses t room n → s ≡ t → leaves t room n ≡ xs → place < room → rest < get_or s (room + place) 0 → span_sum s room place + rest ≡ position
    → (sum (take place xs) + rest ≡ position) × (rest < get_or xs place 0)
span-found t s xs room n place rest position uses s-is xs-is lt more before =
    let here : rest < get_or t (room + place) 0 = subst (λ (l : List ℕ). rest < get_or l (room + place) 0) s-is more in
    let used = leaf_used t room n place rest uses lt here in
    let first : sum (take place xs) ≡ span_sum t room place = ap (λ (l : List ℕ). sum (take place l)) (sym xs-is) ∙ sum-first t room n place uses.tree.size uses.within (omega arith) in
    let same : span_sum s room place ≡ span_sum t room place = ap (λ (l : List ℕ). span_sum l room place) s-is in
    let at : get_or xs place 0 ≡ get_or t (room + place) 0 = ap (λ (l : List ℕ). get_or l place 0) (sym xs-is) ∙ leaf-at t room n place used in
    (omega arith, omega arith)
