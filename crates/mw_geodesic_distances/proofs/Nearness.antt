-- What is near a place: what the offsets of the cross and the square lead to.
use Rattle.std.proofs.Common.{◌≡◌, ℕ, ℤ, pos, negsuc, ◌+ℤ◌, ◌+◌, ◌<◌, ◌≤◌, ◌⊎◌, refl, arith, inl, inr}
use Rattle.std.proofs.lemmas.Bool.{cases_order}
use Rattle.std.proofs.lemmas.Int.{ints}
use Rattle.mw_model.specs.declared.offsets.Offset.{Offset}
use Rattle.mw_geodesic.specs.Neighbours.{Joins, ElementCovers}
use Rattle.mw_geodesic.specs.declared.neighbours.Neighbours.{Neighbours}
use Rattle.mw_geodesic.specs.declared.neighbours.Neighbours.TheVariants.{Four, Eight}
use Rattle.mw_geodesic_distances.specs.Metrics.{metric_element, diagonal_reach}
use Rattle.mw_geodesic_distances.specs.Grids.{IsAdjoining}

-- ---- what is covered is near

abbrev IsUnit : ℤ → Type 0
IsUnit d = (d ≡ negsuc 0) ⊎ ((d ≡ pos 0) ⊎ (d ≡ pos 1))

one_to : (x u : ℕ) (d : ℤ) → pos x +ℤ d ≡ pos u → IsUnit d → (x ≤ u + 1) × (u ≤ x + 1)
one_to x u d is (inl e) = (omega (arith, ints), omega (arith, ints))
one_to x u d is (inr (inl e)) = (omega (arith, ints), omega (arith, ints))
one_to x u d is (inr (inr e)) = (omega (arith, ints), omega (arith, ints))

none_to : (x u : ℕ) (d : ℤ) → pos x +ℤ d ≡ pos u → d ≡ pos 0 → u ≡ x
none_to x u d is e = omega (arith, ints)

in_row : (reach x y u v : ℕ) (d e : ℤ) → pos x +ℤ d ≡ pos u → pos y +ℤ e ≡ pos v → IsUnit d → e ≡ pos 0 → IsAdjoining reach x y u v
in_row reach x y u v d e columns rows across down =
    let near = one_to x u d columns across in
    inl (none_to y v e rows down, near.0, near.1)

in_column : (reach x y u v : ℕ) (d e : ℤ) → pos x +ℤ d ≡ pos u → pos y +ℤ e ≡ pos v → d ≡ pos 0 → IsUnit e → IsAdjoining reach x y u v
in_column reach x y u v d e columns rows across down =
    let same = none_to x u d columns across in
    let near = one_to y v e rows down in
    inr (omega arith, omega arith, near.0, near.1)

at_corner : (x y u v : ℕ) (d e : ℤ) → pos x +ℤ d ≡ pos u → pos y +ℤ e ≡ pos v → IsUnit d → IsUnit e → IsAdjoining 1 x y u v
at_corner x y u v d e columns rows across down =
    let near = one_to x u d columns across in
    let next = one_to y v e rows down in
    inr (near.0, near.1, next.0, next.1)

pub near_from : (neighbours : Neighbours) (x y u v : ℕ) → ElementCovers (metric_element neighbours) x y u v → IsAdjoining (diagonal_reach neighbours) x y u v
near_from Four x y u v (inl j) = in_row 0 x y u v _ _ j.columns j.rows (inr (inl refl)) refl
near_from Four x y u v (inr (inl j)) = in_column 0 x y u v _ _ j.columns j.rows refl (inl refl)
near_from Four x y u v (inr (inr (inl j))) = in_row 0 x y u v _ _ j.columns j.rows (inl refl) refl
near_from Four x y u v (inr (inr (inr (inl j)))) = in_row 0 x y u v _ _ j.columns j.rows (inr (inr refl)) refl
near_from Four x y u v (inr (inr (inr (inr (inl j))))) = in_column 0 x y u v _ _ j.columns j.rows refl (inr (inr refl))
near_from Four x y u v (inr (inr (inr (inr (inr none))))) = absurd none
near_from Eight x y u v (inl j) = at_corner x y u v _ _ j.columns j.rows (inr (inl refl)) (inr (inl refl))
near_from Eight x y u v (inr (inl j)) = at_corner x y u v _ _ j.columns j.rows (inl refl) (inl refl)
near_from Eight x y u v (inr (inr (inl j))) = at_corner x y u v _ _ j.columns j.rows (inr (inl refl)) (inl refl)
near_from Eight x y u v (inr (inr (inr (inl j)))) = at_corner x y u v _ _ j.columns j.rows (inr (inr refl)) (inl refl)
near_from Eight x y u v (inr (inr (inr (inr (inl j))))) = at_corner x y u v _ _ j.columns j.rows (inl refl) (inr (inl refl))
near_from Eight x y u v (inr (inr (inr (inr (inr (inl j)))))) = at_corner x y u v _ _ j.columns j.rows (inr (inr refl)) (inr (inl refl))
near_from Eight x y u v (inr (inr (inr (inr (inr (inr (inl j))))))) = at_corner x y u v _ _ j.columns j.rows (inl refl) (inr (inr refl))
near_from Eight x y u v (inr (inr (inr (inr (inr (inr (inr (inl j)))))))) = at_corner x y u v _ _ j.columns j.rows (inr (inl refl)) (inr (inr refl))
near_from Eight x y u v (inr (inr (inr (inr (inr (inr (inr (inr (inl j))))))))) = at_corner x y u v _ _ j.columns j.rows (inr (inr refl)) (inr (inr refl))
near_from Eight x y u v (inr (inr (inr (inr (inr (inr (inr (inr (inr none))))))))) = absurd none

-- ---- what is near is covered

joins : (b : Offset) (x y u v : ℕ) → pos x +ℤ b.dx ≡ pos u → pos y +ℤ b.dy ≡ pos v → Joins b x y u v
joins b x y u v across down = record { columns = across; rows = down }

less : (x u : ℕ) → u < x → x ≤ u + 1 → pos x +ℤ negsuc 0 ≡ pos u
less x u p q = omega (arith, ints)

same : (x u : ℕ) → u ≡ x → pos x +ℤ pos 0 ≡ pos u
same x u p = omega (arith, ints)

more : (x u : ℕ) → x < u → u ≤ x + 1 → pos x +ℤ pos 1 ≡ pos u
more x u p q = omega (arith, ints)

cross_in_row : (x y u v : ℕ) → v ≡ y → x ≤ u + 1 → u ≤ x + 1 → ElementCovers (metric_element Four) x y u v
cross_in_row x y u v row left right = elim (cases_order u x) [
  | inl e ↦ inl (joins _ x y u v (same x u e) (same y v row))
  | inr (inl before) ↦ inr (inr (inl (joins _ x y u v (less x u before left) (same y v row))))
  | inr (inr after) ↦ inr (inr (inr (inl (joins _ x y u v (more x u after right) (same y v row)))))
]

cross_in_column : (x y u v : ℕ) → u ≡ x → y ≤ v + 1 → v ≤ y + 1 → ElementCovers (metric_element Four) x y u v
cross_in_column x y u v column above below = elim (cases_order v y) [
  | inl d ↦ inl (joins _ x y u v (same x u column) (same y v d))
  | inr (inl up) ↦ inr (inl (joins _ x y u v (same x u column) (less y v up above)))
  | inr (inr down) ↦ inr (inr (inr (inr (inl (joins _ x y u v (same x u column) (more y v down below))))))
]

square_at : (x y u v : ℕ) → x ≤ u + 1 → u ≤ x + 1 → y ≤ v + 1 → v ≤ y + 1 → ElementCovers (metric_element Eight) x y u v
square_at x y u v left right above below = elim (cases_order v y) [
  | inl d ↦ elim (cases_order u x) [
    | inl e ↦ inl (joins _ x y u v (same x u e) (same y v d))
    | inr (inl before) ↦ inr (inr (inr (inr (inl (joins _ x y u v (less x u before left) (same y v d))))))
    | inr (inr after) ↦ inr (inr (inr (inr (inr (inl (joins _ x y u v (more x u after right) (same y v d)))))))
  ]
  | inr (inl up) ↦ elim (cases_order u x) [
    | inl e ↦ inr (inr (inl (joins _ x y u v (same x u e) (less y v up above))))
    | inr (inl before) ↦ inr (inl (joins _ x y u v (less x u before left) (less y v up above)))
    | inr (inr after) ↦ inr (inr (inr (inl (joins _ x y u v (more x u after right) (less y v up above)))))
  ]
  | inr (inr down) ↦ elim (cases_order u x) [
    | inl e ↦ inr (inr (inr (inr (inr (inr (inr (inl (joins _ x y u v (same x u e) (more y v down below)))))))))
    | inr (inl before) ↦ inr (inr (inr (inr (inr (inr (inl (joins _ x y u v (less x u before left) (more y v down below))))))))
    | inr (inr after) ↦ inr (inr (inr (inr (inr (inr (inr (inr (inl (joins _ x y u v (more x u after right) (more y v down below))))))))))
  ]
]

pub covered : (neighbours : Neighbours) (x y u v : ℕ) → IsAdjoining (diagonal_reach neighbours) x y u v → ElementCovers (metric_element neighbours) x y u v
covered Four x y u v (inl near) = cross_in_row x y u v near.0 near.1 near.2
covered Four x y u v (inr near) =
    let a = near.0 in
    let b = near.1 in
    cross_in_column x y u v (omega arith) near.2 near.3
covered Eight x y u v (inl near) =
    let d = near.0 in
    square_at x y u v near.1 near.2 (omega arith) (omega arith)
covered Eight x y u v (inr near) = square_at x y u v near.0 near.1 near.2 near.3
