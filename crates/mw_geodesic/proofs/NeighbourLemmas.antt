-- The neighbours of a place are symmetric.
use Rattle.std.proofs.Common.{◌≡◌, ℕ, ℤ, pos, ◌+ℤ◌, refl, arith, inl, inr}
use Rattle.std.proofs.lemmas.Int.{ints}
use Rattle.mw_model.specs.declared.offsets.Offset.{Offset}
use Rattle.mw_geodesic.specs.Neighbours.{Joins, IsSymmetric, four_neighbours, eight_neighbours}

-- an offset leads back where its opposite came from
back : (b c : Offset) (x y u v : ℕ) → b.dx +ℤ c.dx ≡ pos 0 → b.dy +ℤ c.dy ≡ pos 0 → Joins b x y u v → Joins c u v x y
back b c x y u v across down joins = record {
  columns = turn x u b.dx c.dx across joins.columns;
  rows = turn y v b.dy c.dy down joins.rows;
}
  where
    turn : (x u : ℕ) (d e : ℤ) → d +ℤ e ≡ pos 0 → pos x +ℤ d ≡ pos u → pos u +ℤ e ≡ pos x
    turn x u d e zero is = omega (arith, ints)

pub four_symmetric : IsSymmetric four_neighbours
four_symmetric x y u v (inl j) = inr (inr (inr (inl (back _ _ x y u v refl refl j))))
four_symmetric x y u v (inr (inl j)) = inr (inr (inl (back _ _ x y u v refl refl j)))
four_symmetric x y u v (inr (inr (inl j))) = inr (inl (back _ _ x y u v refl refl j))
four_symmetric x y u v (inr (inr (inr (inl j)))) = inl (back _ _ x y u v refl refl j)
four_symmetric x y u v (inr (inr (inr (inr none)))) = absurd none

pub eight_symmetric : IsSymmetric eight_neighbours
eight_symmetric x y u v (inl j) = inr (inr (inr (inr (inr (inr (inr (inl (back _ _ x y u v refl refl j))))))))
eight_symmetric x y u v (inr (inl j)) = inr (inr (inr (inr (inr (inr (inl (back _ _ x y u v refl refl j)))))))
eight_symmetric x y u v (inr (inr (inl j))) = inr (inr (inr (inr (inr (inl (back _ _ x y u v refl refl j))))))
eight_symmetric x y u v (inr (inr (inr (inl j)))) = inr (inr (inr (inr (inl (back _ _ x y u v refl refl j)))))
eight_symmetric x y u v (inr (inr (inr (inr (inl j))))) = inr (inr (inr (inl (back _ _ x y u v refl refl j))))
eight_symmetric x y u v (inr (inr (inr (inr (inr (inl j)))))) = inr (inr (inl (back _ _ x y u v refl refl j)))
eight_symmetric x y u v (inr (inr (inr (inr (inr (inr (inl j))))))) = inr (inl (back _ _ x y u v refl refl j))
eight_symmetric x y u v (inr (inr (inr (inr (inr (inr (inr (inl j)))))))) = inl (back _ _ x y u v refl refl j)
eight_symmetric x y u v (inr (inr (inr (inr (inr (inr (inr (inr none)))))))) = absurd none
