-- What is near a place: what its neighbours' offsets lead to, and the place itself.
use Rattle.std.proofs.Common.{◌≡◌, ℕ, ℤ, pos, negsuc, ◌+ℤ◌, ◌+◌, ◌<◌, ◌≤◌, ◌⊎◌, Bool, true, false, refl, arith, inl, inr}
use Rattle.std.proofs.lemmas.Bool.{cases_order, false≢true}
use Rattle.std.proofs.lemmas.Int.{ints}
use Rattle.mw_model.specs.declared.offsets.Offset.{Offset}
use Rattle.mw_geodesic.specs.Neighbours.{Joins, ElementCovers}
use Rattle.mw_geodesic_levels.specs.Levels.{IsNearby}
use Rattle.mw_geodesic_levels.specs.Pictures.{element_with_corners}

-- ---- what is covered is near

beside : (corners : Bool) (x u : ℕ) (y v : ℕ) (d e : ℤ) → pos x +ℤ d ≡ pos u → pos y +ℤ e ≡ pos v → (d ≡ negsuc 0) ⊎ ((d ≡ pos 0) ⊎ (d ≡ pos 1)) → (e ≡ negsuc 0) ⊎ ((e ≡ pos 0) ⊎ (e ≡ pos 1))
    → (corners ≡ true) ⊎ ((d ≡ pos 0) ⊎ (e ≡ pos 0)) → IsNearby corners x y u v
beside corners x u y v d e columns rows across down corner = record {
  left = elim across [ inl a ↦ omega (arith, ints) | inr (inl a) ↦ omega (arith, ints) | inr (inr a) ↦ omega (arith, ints) ];
  right = elim across [ inl a ↦ omega (arith, ints) | inr (inl a) ↦ omega (arith, ints) | inr (inr a) ↦ omega (arith, ints) ];
  above = elim down [ inl a ↦ omega (arith, ints) | inr (inl a) ↦ omega (arith, ints) | inr (inr a) ↦ omega (arith, ints) ];
  below = elim down [ inl a ↦ omega (arith, ints) | inr (inl a) ↦ omega (arith, ints) | inr (inr a) ↦ omega (arith, ints) ];
  across = elim corner [
    | inl c ↦ inl c
    | inr (inl a) ↦ inr (inl (omega (arith, ints)))
    | inr (inr a) ↦ inr (inr (omega (arith, ints)))
  ];
}

pub near_from : (corners : Bool) (x y u v : ℕ) → ElementCovers (element_with_corners corners) x y u v → IsNearby corners x y u v
near_from false x y u v (inl j) = beside false x u y v _ _ j.columns j.rows (inr (inl refl)) (inl refl) (inr (inl refl))
near_from false x y u v (inr (inl j)) = beside false x u y v _ _ j.columns j.rows (inl refl) (inr (inl refl)) (inr (inr refl))
near_from false x y u v (inr (inr (inl j))) = beside false x u y v _ _ j.columns j.rows (inr (inr refl)) (inr (inl refl)) (inr (inr refl))
near_from false x y u v (inr (inr (inr (inl j)))) = beside false x u y v _ _ j.columns j.rows (inr (inl refl)) (inr (inr refl)) (inr (inl refl))
near_from false x y u v (inr (inr (inr (inr none)))) = absurd none
near_from true x y u v (inl j) = beside true x u y v _ _ j.columns j.rows (inl refl) (inl refl) (inl refl)
near_from true x y u v (inr (inl j)) = beside true x u y v _ _ j.columns j.rows (inr (inl refl)) (inl refl) (inl refl)
near_from true x y u v (inr (inr (inl j))) = beside true x u y v _ _ j.columns j.rows (inr (inr refl)) (inl refl) (inl refl)
near_from true x y u v (inr (inr (inr (inl j)))) = beside true x u y v _ _ j.columns j.rows (inl refl) (inr (inl refl)) (inl refl)
near_from true x y u v (inr (inr (inr (inr (inl j))))) = beside true x u y v _ _ j.columns j.rows (inr (inr refl)) (inr (inl refl)) (inl refl)
near_from true x y u v (inr (inr (inr (inr (inr (inl j)))))) = beside true x u y v _ _ j.columns j.rows (inl refl) (inr (inr refl)) (inl refl)
near_from true x y u v (inr (inr (inr (inr (inr (inr (inl j))))))) = beside true x u y v _ _ j.columns j.rows (inr (inl refl)) (inr (inr refl)) (inl refl)
near_from true x y u v (inr (inr (inr (inr (inr (inr (inr (inl j)))))))) = beside true x u y v _ _ j.columns j.rows (inr (inr refl)) (inr (inr refl)) (inl refl)
near_from true x y u v (inr (inr (inr (inr (inr (inr (inr (inr none)))))))) = absurd none

-- ---- what is near is covered, or the place itself

joins : (b : Offset) (x y u v : ℕ) → pos x +ℤ b.dx ≡ pos u → pos y +ℤ b.dy ≡ pos v → Joins b x y u v
joins b x y u v across down = record { columns = across; rows = down }

abbrev Covered : Bool → ℕ → ℕ → ℕ → ℕ → Type 0
Covered corners x y u v = ((u ≡ x) × (v ≡ y)) ⊎ ElementCovers (element_with_corners corners) x y u v

less : (x u : ℕ) → u < x → x ≤ u + 1 → pos x +ℤ negsuc 0 ≡ pos u
less x u p q = omega (arith, ints)

same : (x u : ℕ) → u ≡ x → pos x +ℤ pos 0 ≡ pos u
same x u p = omega (arith, ints)

more : (x u : ℕ) → x < u → u ≤ x + 1 → pos x +ℤ pos 1 ≡ pos u
more x u p q = omega (arith, ints)

pub covered : (corners : Bool) (x y u v : ℕ) → IsNearby corners x y u v → Covered corners x y u v
covered false x y u v near =
    elim (cases_order u x) [
      | inl e ↦ elim (cases_order v y) [
        | inl d ↦ inl (e, d)
        | inr (inl up) ↦ inr (inl (joins _ x y u v (same x u e) (less y v up near.above)))
        | inr (inr down) ↦ inr (inr (inr (inr (inl (joins _ x y u v (same x u e) (more y v down near.below))))))
      ]
      | inr (inl before) ↦ inr (inr (inl (joins _ x y u v (less x u before near.left) (same y v (in_row (λ e. omega arith))))))
      | inr (inr after) ↦ inr (inr (inr (inl (joins _ x y u v (more x u after near.right) (same y v (in_row (λ e. omega arith)))))))
    ]
  where
    in_row : (u ≡ x → ⊥) → v ≡ y
    in_row other = elim near.across [
      | inl corner ↦ absurd (false≢true corner)
      | inr (inl e) ↦ absurd (other e)
      | inr (inr d) ↦ d
    ]
covered true x y u v near =
    elim (cases_order v y) [
      | inl d ↦ elim (cases_order u x) [
        | inl e ↦ inl (e, d)
        | inr (inl before) ↦ inr (inr (inr (inr (inl (joins _ x y u v (less x u before near.left) (same y v d))))))
        | inr (inr after) ↦ inr (inr (inr (inr (inr (inl (joins _ x y u v (more x u after near.right) (same y v d)))))))
      ]
      | inr (inl up) ↦ elim (cases_order u x) [
        | inl e ↦ inr (inr (inl (joins _ x y u v (same x u e) (less y v up near.above))))
        | inr (inl before) ↦ inr (inl (joins _ x y u v (less x u before near.left) (less y v up near.above)))
        | inr (inr after) ↦ inr (inr (inr (inl (joins _ x y u v (more x u after near.right) (less y v up near.above)))))
      ]
      | inr (inr down) ↦ elim (cases_order u x) [
        | inl e ↦ inr (inr (inr (inr (inr (inr (inr (inl (joins _ x y u v (same x u e) (more y v down near.below)))))))))
        | inr (inl before) ↦ inr (inr (inr (inr (inr (inr (inl (joins _ x y u v (less x u before near.left) (more y v down near.below))))))))
        | inr (inr after) ↦ inr (inr (inr (inr (inr (inr (inr (inr (inl (joins _ x y u v (more x u after near.right) (more y v down near.below))))))))))
      ]
    ]
