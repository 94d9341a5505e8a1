-- Which pieces of a line a window along it meets.
use Rattle.std.proofs.Common.{◌≡◌, ℕ, ◌+◌, ◌-◌, ◌*◌, ◌/◌, ◌<◌, ◌≤◌, min, Bool, true, false, ◌&&◌, nat_lt, nat_le, refl, arith, sym, lt_of_mul-lt-mul_right}
use Rattle.std.proofs.lemmas.Bool.{lt-ltb, ltb-true, leb-true, and_parts}
use Rattle.std.proofs.Math.Nat.{div-mul-le_self, lt-div-mul-add, mul-le-mul_left}
use Rattle.std.proofs.lemmas.Nat.{le-div}
use Rattle.mw_grid.proofs.Lines.{piece_begins}
use Rattle.mw_model.specs.Tasks.{share}
use Rattle.mw_grid.specs.Counts.{in_range}
use Rattle.mw_grid.proofs.Counts.{in-yes}

same_bool : (p q : Bool) → (p ≡ true → q ≡ true) → (q ≡ true → p ≡ true) → p ≡ q
same_bool true q f g = sym (f refl)
same_bool false true f g = g refl
same_bool false false f g = refl

both_true : (a b c d : ℕ) → a < b → c < d → nat_lt a b && nat_lt c d ≡ true
both_true a b c d p q = rw (lt-ltb a b p, lt-ltb c d q) refl

-- the piece c, grown, meets these pieces
pub share-range : (n side c at before after : ℕ) → 0 < side → 0 < n → c < (n - 1) / side + 1 → at < (n - 1) / side + 1
    → in_range ((c * side - before) / side) (min ((n - 1) / side + 1) ((c * side + side - 1 + after) / side + 1)) at
    ≡ share (c * side - before) (min (c * side + min side (n - c * side) + after) n - (c * side - before)) (at * side) (min side (n - at * side))
share-range n side c at before after some there c-lt at-lt =
    let p-lt : c * side < n = piece_begins n side c some there c-lt in
    let q-lt : at * side < n = piece_begins n side at some there at-lt in
    same_bool _ _
    (λ e.
    let h = and_parts (nat_le ((c * side - before) / side) at) (nat_lt at (min ((n - 1) / side + 1) ((c * side + side - 1 + after) / side + 1))) e in
    let low : (c * side - before) / side ≤ at = leb-true ((c * side - before) / side) at h.0 in
    let high : at < min ((n - 1) / side + 1) ((c * side + side - 1 + after) / side + 1) = ltb-true at (min ((n - 1) / side + 1) ((c * side + side - 1 + after) / side + 1)) h.1 in
    let low-side : (c * side - before) / side * side ≤ at * side = omega (arith, mul-le-mul_left side low) in
    let past : c * side - before < (c * side - before) / side * side + side = lt-div-mul-add some in
    let le : at ≤ (c * side + side - 1 + after) / side = omega arith in
    let high-side : at * side ≤ (c * side + side - 1 + after) / side * side = omega (arith, mul-le-mul_left side le) in
    let self : (c * side + side - 1 + after) / side * side ≤ c * side + side - 1 + after = div-mul-le_self (c * side + side - 1 + after) side in
    both_true (c * side - before) (at * side + min side (n - at * side)) (at * side) (c * side - before + (min (c * side + min side (n - c * side) + after) n - (c * side - before))) (omega arith) (omega arith))
    (λ e.
    let h = and_parts (nat_lt (c * side - before) (at * side + min side (n - at * side))) (nat_lt (at * side) (c * side - before + (min (c * side + min side (n - c * side) + after) n - (c * side - before)))) e in
    let p = ltb-true (c * side - before) (at * side + min side (n - at * side)) h.0 in
    let q = ltb-true (at * side) (c * side - before + (min (c * side + min side (n - c * side) + after) n - (c * side - before))) h.1 in
    let low : (c * side - before) / side < at + 1 = lt_of_mul-lt-mul_right side (let d = div-mul-le_self (c * side - before) side in omega arith) in
    let high : at ≤ (c * side + side - 1 + after) / side = le-div at (c * side + side - 1 + after) side some (omega arith) in
    in-yes ((c * side - before) / side) (min ((n - 1) / side + 1) ((c * side + side - 1 + after) / side + 1)) at (omega arith) (omega arith))

-- a piece meets another that is grown where the other, grown to the other side, meets it
pub share-turned : (n side a b before after : ℕ) → 0 < side → a < n → b < n
    → share (a - before) (min (a + min side (n - a) + after) n - (a - before)) b (min side (n - b)) ≡ share (b - after) (min (b + min side (n - b) + before) n - (b - after)) a (min side (n - a))
share-turned n side a b before after some a-lt b-lt =
    same_bool _ _ (λ e. one a b before after a-lt b-lt e) (λ e. one b a after before b-lt a-lt e)
  where
    one : (a b before after : ℕ) → a < n → b < n → share (a - before) (min (a + min side (n - a) + after) n - (a - before)) b (min side (n - b)) ≡ true
        → share (b - after) (min (b + min side (n - b) + before) n - (b - after)) a (min side (n - a)) ≡ true
    one a b before after a-lt b-lt e =
        let h = and_parts (nat_lt (a - before) (b + min side (n - b))) (nat_lt b (a - before + (min (a + min side (n - a) + after) n - (a - before)))) e in
        let p = ltb-true (a - before) (b + min side (n - b)) h.0 in
        let q = ltb-true b (a - before + (min (a + min side (n - a) + after) n - (a - before))) h.1 in
        both_true (b - after) (a + min side (n - a)) a (b - after + (min (b + min side (n - b) + before) n - (b - after))) (omega arith) (omega arith)
