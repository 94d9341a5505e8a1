-- Planes of levels of grey as pictures, and what is made of them as images.
use Rattle.std.proofs.Common.{◌≡◌, ℕ, ◌*◌, ◌≤◌, List, [], ◌∷◌, length, map, sym, subst, ◌∙◌}
use Rattle.std.specs.Prelude.{All, IfOk, Result}
use Rattle.std.proofs.lemmas.List.{length-map}
use Rattle.std.proofs.lemmas.List.Elements.{All-cons, All-head, All-map, All-nil, All-tail}
use Rattle.mw_model.specs.Pictures.{Picture, IsPicture}
use Rattle.mw_model.specs.Rasters.{Raster}
use Rattle.mw_geodesic_levels.specs.Pictures.{picture_by}

-- what holds of the levels holds of the samples by their levels
unmapped : {A : Type 0} (level : A → ℕ) (P : ℕ → Type 0) (xs : List A) → All P (map level xs) → All (λ s. P (level s)) xs
unmapped level P [] all = All-nil (λ s. P (level s))
unmapped level P (x ∷ xs) all =
    All-cons (λ s. P (level s)) x xs (All-head P (level x) (map level xs) all) (unmapped level P xs (All-tail P (level x) (map level xs) all))

-- no sample of a plane is over the maxval
pub plane_picture : {A : Type 0} (level : A → ℕ) (maxval : ℕ) (p : Raster A) → length p.cells ≡ p.height * p.width → All (λ s. level s ≤ maxval) p.cells → IsPicture (picture_by level maxval p)
plane_picture level maxval p size low = record { size = length-map p.cells level ∙ size; bounded = All-map (λ s. s ≤ maxval) level p.cells low }

-- nor of a plane that is some picture
pub within_by : {A : Type 0} (level : A → ℕ) (maxval : ℕ) (r : Raster A) (g : Picture) → picture_by level maxval r ≡ g → IsPicture g → All (λ s. level s ≤ maxval) r.cells
within_by level maxval r g is sound =
    let moved = subst (λ (t : Picture). IsPicture t) (sym is) sound in
    unmapped level (λ s. s ≤ maxval) r.cells moved.bounded

-- a result that is one picture is one that equals it
pub ok_same : {E : Type 0} (r : Result Picture E) (a b : Picture) → a ≡ b → IfOk r (λ g. g ≡ a) → IfOk r (λ g. g ≡ b)
ok_same {E} r a b same is = subst (λ (t : Picture). IfOk r (λ g. g ≡ t)) same is
