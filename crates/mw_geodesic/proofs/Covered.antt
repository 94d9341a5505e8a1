-- The extrema under an element, by the places that it covers.
use Rattle.std.proofs.Common.{ℕ, ◌<◌, ◌≤◌, List, [], ◌∷◌, inl, inr}
use Rattle.mw_model.specs.declared.offsets.Offset.{Offset}
use Rattle.mw_model.specs.Pictures.{Picture, sample}
use Rattle.mw_model.specs.Flat.{under, least, greatest}
use Rattle.mw_model.proofs.Covers as model
use Rattle.mw_geodesic.specs.Neighbours.{ElementCovers}

pub covers_to : (e : List Offset) (x y u v : ℕ) → ElementCovers e x y u v → model.Covers e x y u v
covers_to [] x y u v c = absurd c
covers_to (b ∷ bs) x y u v (inl j) = inl (j.columns, j.rows)
covers_to (b ∷ bs) x y u v (inr c) = inr (covers_to bs x y u v c)

pub covers_from : (e : List Offset) (x y u v : ℕ) → model.Covers e x y u v → ElementCovers e x y u v
covers_from [] x y u v c = absurd c
covers_from (b ∷ bs) x y u v (inl e) = inl (record { columns = e.0; rows = e.1 })
covers_from (b ∷ bs) x y u v (inr c) = inr (covers_from bs x y u v c)

pub least_below : (f : Picture) (bs : List Offset) (top x y u v : ℕ) → u < f.width → v < f.height → ElementCovers bs x y u v → least top (under f bs x y) ≤ sample f u v
least_below f bs top x y u v p q c = model.least_below f bs top x y u v p q (covers_to bs x y u v c)

pub below_least : (f : Picture) (bs : List Offset) (top x y t : ℕ) → t ≤ top → ((u v : ℕ) → u < f.width → v < f.height → ElementCovers bs x y u v → t ≤ sample f u v) → t ≤ least top (under f bs x y)
below_least f bs top x y t low each = model.below_least f bs top x y t low (λ u v p q c. each u v p q (covers_from bs x y u v c))

pub below_greatest : (f : Picture) (bs : List Offset) (x y u v : ℕ) → u < f.width → v < f.height → ElementCovers bs x y u v → sample f u v ≤ greatest (under f bs x y)
below_greatest f bs x y u v p q c = model.below_greatest f bs x y u v p q (covers_to bs x y u v c)

pub greatest_below : (f : Picture) (bs : List Offset) (x y t : ℕ) → ((u v : ℕ) → u < f.width → v < f.height → ElementCovers bs x y u v → sample f u v ≤ t) → greatest (under f bs x y) ≤ t
greatest_below f bs x y t each = model.greatest_below f bs x y t (λ u v p q c. each u v p q (covers_from bs x y u v c))
