-- What neighbours are by rows and columns, and which runs they lie in.
use Rattle.std.proofs.Common.{◌≡◌, ℕ, ◌+◌, ◌<◌, ◌≤◌, List, length, ap, sym, arith, inl, inr}
use Rattle.std.proofs.lemmas.Int.{ints}
use Rattle.std.proofs.lemmas.Bool.{cases_order}
use Rattle.mw_geodesic.specs.Neighbours.{ElementCovers, IsSymmetric, neighbours_of}
use Rattle.mw_geodesic.proofs.NeighbourLemmas.{four_symmetric, eight_symmetric}
use Rattle.mw_geodesic.specs.declared.neighbours.Neighbours.{Neighbours}
use Rattle.mw_geodesic.specs.declared.neighbours.Neighbours.TheVariants.{Four, Eight}
use Rattle.mw_geodesic_runs.specs.declared.runs.Run.{Run}
use Rattle.mw_geodesic_runs.specs.Runs.{run_numbered, HasPlace, AreInOrder}
use Rattle.mw_geodesic_runs.specs.Touching.{columns_reached, Touches, Agree}

pub symmetric : (n : Neighbours) → IsSymmetric (neighbours_of n)
symmetric Four = four_symmetric
symmetric Eight = eight_symmetric

-- where the second place is, seen from the first
data Near (reach x y u v : ℕ) : Type 0 where
  right : y ≡ v → x + 1 ≡ u → Near reach x y u v
  left : y ≡ v → u + 1 ≡ x → Near reach x y u v
  down : v ≡ y + 1 → x ≤ u + reach → u ≤ x + reach → Near reach x y u v
  up : y ≡ v + 1 → x ≤ u + reach → u ≤ x + reach → Near reach x y u v

near : (n : Neighbours) (x y u v : ℕ) → ElementCovers (neighbours_of n) x y u v → Near (columns_reached n) x y u v
near Four x y u v (inl j) = up (omega (arith, ints, j.rows)) (omega (arith, ints, j.columns)) (omega (arith, ints, j.columns))
near Four x y u v (inr (inl j)) = left (omega (arith, ints, j.rows)) (omega (arith, ints, j.columns))
near Four x y u v (inr (inr (inl j))) = right (omega (arith, ints, j.rows)) (omega (arith, ints, j.columns))
near Four x y u v (inr (inr (inr (inl j)))) = down (omega (arith, ints, j.rows)) (omega (arith, ints, j.columns)) (omega (arith, ints, j.columns))
near Four x y u v (inr (inr (inr (inr none)))) = absurd none
near Eight x y u v (inl j) = up (omega (arith, ints, j.rows)) (omega (arith, ints, j.columns)) (omega (arith, ints, j.columns))
near Eight x y u v (inr (inl j)) = up (omega (arith, ints, j.rows)) (omega (arith, ints, j.columns)) (omega (arith, ints, j.columns))
near Eight x y u v (inr (inr (inl j))) = up (omega (arith, ints, j.rows)) (omega (arith, ints, j.columns)) (omega (arith, ints, j.columns))
near Eight x y u v (inr (inr (inr (inl j)))) = left (omega (arith, ints, j.rows)) (omega (arith, ints, j.columns))
near Eight x y u v (inr (inr (inr (inr (inl j))))) = right (omega (arith, ints, j.rows)) (omega (arith, ints, j.columns))
near Eight x y u v (inr (inr (inr (inr (inr (inl j)))))) = down (omega (arith, ints, j.rows)) (omega (arith, ints, j.columns)) (omega (arith, ints, j.columns))
near Eight x y u v (inr (inr (inr (inr (inr (inr (inl j))))))) = down (omega (arith, ints, j.rows)) (omega (arith, ints, j.columns)) (omega (arith, ints, j.columns))
near Eight x y u v (inr (inr (inr (inr (inr (inr (inr (inl j)))))))) = down (omega (arith, ints, j.rows)) (omega (arith, ints, j.columns)) (omega (arith, ints, j.columns))
near Eight x y u v (inr (inr (inr (inr (inr (inr (inr (inr none)))))))) = absurd none

pub step_left : (n : Neighbours) (x y : ℕ) → ElementCovers (neighbours_of n) (x + 1) y x y
step_left Four x y = inr (inl (record { columns = omega (arith, ints); rows = omega (arith, ints) }))
step_left Eight x y = inr (inr (inr (inl (record { columns = omega (arith, ints); rows = omega (arith, ints) }))))

pub step_down : (n : Neighbours) (x y u : ℕ) → x ≤ u + columns_reached n → u ≤ x + columns_reached n → ElementCovers (neighbours_of n) x y u (y + 1)
step_down Four x y u low high = inr (inr (inr (inl (record { columns = omega (arith, ints); rows = omega (arith, ints) }))))
step_down Eight x y u low high = elim (cases_order x u) [
  | inl same ↦ inr (inr (inr (inr (inr (inr (inl (record { columns = omega (arith, ints); rows = omega (arith, ints) })))))))
  | inr apart ↦ elim apart [
    | inl less ↦ inr (inr (inr (inr (inr (inr (inr (inl (record { columns = omega (arith, ints); rows = omega (arith, ints) }))))))))
    | inr more ↦ inr (inr (inr (inr (inr (inl (record { columns = omega (arith, ints); rows = omega (arith, ints) }))))))
  ]
]

-- ---- runs of places that are neighbours

touches : (reach : ℕ) (a b : Run) (x y u v : ℕ) → HasPlace a x y → HasPlace b u v → v ≡ y + 1 → x ≤ u + reach → u ≤ x + reach → Touches reach a b
touches reach a b x y u v one other below low high =
    let row = one.row in
    let from = one.from in
    let to = one.to in
    let row' = other.row in
    let from' = other.from in
    let to' = other.to in
    record { below = omega arith; left = omega arith; right = omega arith }

beside : (runs : List Run) (i j x y u v : ℕ) → AreInOrder runs → i < length runs → j < length runs → HasPlace (run_numbered runs i) x y → HasPlace (run_numbered runs j) u v → y ≡ v → x + 1 ≡ u → i ≡ j
beside runs i j x y u v order lt lt' one other row next =
    let row_i = one.row in
    let from_i = one.from in
    let to_i = one.to in
    let row_j = other.row in
    let from_j = other.from in
    let to_j = other.to in
    elim (cases_order i j) [
      | inl same ↦ same
      | inr apart ↦ elim apart [
        | inl less ↦ elim (order.each i j less lt') [
          | inl above ↦ absurd (omega arith)
          | inr gap ↦ absurd (omega (arith, gap.1))
        ]
        | inr more ↦ elim (order.each j i more lt) [
          | inl above ↦ absurd (omega arith)
          | inr gap ↦ absurd (omega (arith, gap.1))
        ]
      ]
    ]

near_agree : (reach : ℕ) (runs : List Run) (f : ℕ → ℕ) (i j x y u v : ℕ) → AreInOrder runs → Agree reach runs 0 (length runs) f → i < length runs → j < length runs → HasPlace (run_numbered runs i) x y → HasPlace (run_numbered runs j) u v
    → Near reach x y u v → f i ≡ f j
near_agree reach runs f i j x y u v order agree lt lt' one other (right row next) = ap f (beside runs i j x y u v order lt lt' one other row next)
near_agree reach runs f i j x y u v order agree lt lt' one other (left row next) = ap f (sym (beside runs j i u v x y order lt' lt other one (sym row) next))
near_agree reach runs f i j x y u v order agree lt lt' one other (down row low high) = agree.one i j lt lt' (inr lt') (touches reach (run_numbered runs i) (run_numbered runs j) x y u v one other row low high)
near_agree reach runs f i j x y u v order agree lt lt' one other (up row low high) = sym (agree.one j i lt' lt (inr lt) (touches reach (run_numbered runs j) (run_numbered runs i) u v x y other one row high low))

-- a colouring in which runs that touch have one colour gives one to runs of places that are neighbours
pub neighbours_agree : (n : Neighbours) (runs : List Run) (f : ℕ → ℕ) (i j x y u v : ℕ) → AreInOrder runs → Agree (columns_reached n) runs 0 (length runs) f → i < length runs → j < length runs → HasPlace (run_numbered runs i) x y
    → HasPlace (run_numbered runs j) u v → ElementCovers (neighbours_of n) x y u v → f i ≡ f j
neighbours_agree n runs f i j x y u v order agree lt lt' one other covers = near_agree (columns_reached n) runs f i j x y u v order agree lt lt' one other (near n x y u v covers)
