-- A line of n places cut into pieces of one length.
use Rattle.std.proofs.Common.{◌≡◌, ℕ, ◌+◌, ◌-◌, ◌*◌, ◌/◌, ◌<◌, ◌≤◌, min, arith}
use Rattle.std.proofs.Math.Nat.{div-mul-le_self, lt-div-mul-add, div-eq_of_lt-le, mul-le-mul_left}
use Rattle.std.proofs.lemmas.Nat.{le-div, div_below}
use Rattle.std.proofs.Math.Arith.{digits_lt}

-- the place x is in the piece x / side
pub piece_has : (n side x : ℕ) → 0 < side → x < n → (x / side * side ≤ x) × (x < x / side * side + min side (n - x / side * side))
piece_has n side x some lt =
    let from : x / side * side ≤ x = div-mul-le_self x side in
    let to : x < x / side * side + side = lt-div-mul-add some in
    (from, omega arith)

-- and in no other
pub piece_only : (side x c : ℕ) → 0 < side → c * side ≤ x → x < c * side + side → x / side ≡ c
piece_only side x c some from to = div-eq_of_lt-le side (omega arith) (omega arith)

-- it is one of the pieces
pub piece_counts : (n side x : ℕ) → 0 < side → x < n → x / side < (n - 1) / side + 1
piece_counts n side x some lt =
    let from : x / side * side ≤ x = div-mul-le_self x side in
    let most : x / side ≤ (n - 1) / side = le-div (x / side) (n - 1) side some (omega arith) in
    omega arith

-- a piece begins before the end
pub piece_begins : (n side c : ℕ) → 0 < side → 0 < n → c < (n - 1) / side + 1 → c * side < n
piece_begins n side c some there lt =
    let le : c ≤ (n - 1) / side = omega arith in
    let up : c * side ≤ (n - 1) / side * side = omega (arith, mul-le-mul_left side le) in
    let most : (n - 1) / side * side ≤ n - 1 = div-mul-le_self (n - 1) side in
    omega arith

-- a number by its row and column
pub number_of : (rows columns c r : ℕ) → c < columns → r < rows → r * columns + c < rows * columns
number_of rows columns c r across down = digits_lt down across

pub row_less : (rows columns i : ℕ) → 0 < columns → i < rows * columns → i / columns < rows
row_less rows columns i some lt = div_below i columns rows some lt
