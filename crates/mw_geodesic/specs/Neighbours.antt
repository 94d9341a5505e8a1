-- Places of a frame, and which of them an element shows to which. Neighbours after Soille, Morphological Image Analysis, chapter 2.
use Rattle.std.specs.Prelude.{◌≡◌, ℕ, ◌<◌, ◌⊎◌, List, [], ◌∷◌, pos, negsuc, ◌+ℤ◌}
use Rattle.mw_model.specs.declared.offsets.Offset.{Offset}
use Rattle.mw_model.specs.Pictures.{Picture}
use Rattle.mw_geodesic.specs.declared.neighbours.Neighbours.{Neighbours}
use Rattle.mw_geodesic.specs.declared.neighbours.Neighbours.TheVariants.{Four, Eight}

-- the place belongs to the frame
pub record IsPlace (f : Picture) (x y : ℕ) : Type 0 where
  pub column : x < f.width
  pub row : y < f.height

-- the offset leads from the first place to the second
pub record Joins (b : Offset) (x y u v : ℕ) : Type 0 where
  pub columns : pos x +ℤ b.dx ≡ pos u
  pub rows : pos y +ℤ b.dy ≡ pos v

-- the element placed at (x, y) covers (u, v)
abbrev pub ElementCovers : List Offset → ℕ → ℕ → ℕ → ℕ → Type 0
ElementCovers [] x y u v = ⊥
ElementCovers (b ∷ bs) x y u v = Joins b x y u v ⊎ ElementCovers bs x y u v

-- where the element placed at one place covers a second, it covers the first from the second
abbrev pub IsSymmetric : List Offset → Type 0
IsSymmetric element = (x y u v : ℕ) → ElementCovers element x y u v → ElementCovers element u v x y

-- the places above, to the left, to the right and below
abbrev pub four_neighbours : List Offset
four_neighbours =
    record { dx = pos 0; dy = negsuc 0 } ∷ record { dx = negsuc 0; dy = pos 0 } ∷ record { dx = pos 1; dy = pos 0 } ∷ record { dx = pos 0; dy = pos 1 } ∷ []

-- these, and the four places at the corners
abbrev pub eight_neighbours : List Offset
eight_neighbours =
    record { dx = negsuc 0; dy = negsuc 0 }
    ∷ record { dx = pos 0; dy = negsuc 0 }
    ∷ record { dx = pos 1; dy = negsuc 0 }
    ∷ record { dx = negsuc 0; dy = pos 0 }
    ∷ record { dx = pos 1; dy = pos 0 }
    ∷ record { dx = negsuc 0; dy = pos 1 }
    ∷ record { dx = pos 0; dy = pos 1 }
    ∷ record { dx = pos 1; dy = pos 1 }
    ∷ []

-- the element of these neighbours
abbrev pub neighbours_of : Neighbours → List Offset
neighbours_of Four = four_neighbours
neighbours_of Eight = eight_neighbours
