-- The cells of a picture, seen as those of a raster.
use Rattle.std.proofs.Common.{◌≡◌, ℕ, ◌+◌, ◌*◌, ◌<◌, ◌≤◌, ℤ, pos, negsuc, ◌+ℤ◌, List, [], ◌∷◌, Option, Some, None, slice_get, length, refl, ap, sym, arith, ◌∙◌, inl, inr}
use Rattle.std.proofs.lemmas.Bool.{cases_lt, lt-ltb, le-ltb}
use Rattle.std.proofs.lemmas.Nat.{mul-add-lt}
use Rattle.std.proofs.lemmas.Option.{slice_get-get_or}
use Rattle.std.specs.List.{cons_option}
use Rattle.mw_model.specs.declared.offsets.Offset.{Offset}
use Rattle.mw_model.specs.Rasters.{Raster, cell_at, seen_under}
use Rattle.mw_model.specs.Pictures.{Picture, sample, sample_at}
use Rattle.mw_model.specs.Flat.{under}
use Rattle.mw_model.proofs.Covers.{sample_at_in}
use Rattle.mw_pixel.specs.Images.{raster_of}

pub cell_at-inside : {A : Type 0} (f : Raster A) (x y : ℕ) → x < f.width → y < f.height → cell_at f (pos x) (pos y) ≡ slice_get f.cells (y * f.width + x)
cell_at-inside f x y across down = rw (lt-ltb x f.width across, lt-ltb y f.height down) refl

pub cell_at-right : {A : Type 0} (f : Raster A) (x y : ℕ) → f.width ≤ x → cell_at f (pos x) (pos y) ≡ None
cell_at-right f x y past = rw (le-ltb x f.width past) refl

pub cell_at-below : {A : Type 0} (f : Raster A) (x y : ℕ) → x < f.width → f.height ≤ y → cell_at f (pos x) (pos y) ≡ None
cell_at-below f x y across past = rw (lt-ltb x f.width across, le-ltb y f.height past) refl

pub cell_at-above : {A : Type 0} (f : Raster A) (column : ℤ) (n : ℕ) → cell_at f column (negsuc n) ≡ None
cell_at-above f (pos x) n = refl
cell_at-above f (negsuc x) n = refl

sample_at-right : (f : Picture) (x y : ℕ) → f.width ≤ x → sample_at f (pos x) (pos y) ≡ None
sample_at-right f x y past = rw (le-ltb x f.width past) refl

sample_at-below : (f : Picture) (x y : ℕ) → x < f.width → f.height ≤ y → sample_at f (pos x) (pos y) ≡ None
sample_at-below f x y across past = rw (lt-ltb x f.width across, le-ltb y f.height past) refl

-- a place of a picture has its sample
pub slice_get-samples : (f : Picture) → length f.samples ≡ f.height * f.width → (x y : ℕ) → x < f.width → y < f.height → slice_get f.samples (y * f.width + x) ≡ Some (sample f x y)
slice_get-samples f size x y across down = slice_get-get_or f.samples (y * f.width + x) 0 (omega (arith, mul-add-lt y f.width x f.height down across))

-- the raster of a picture shows what the picture has
pub cell_at-raster_of : (f : Picture) → length f.samples ≡ f.height * f.width → (column row : ℤ) → cell_at (raster_of f) column row ≡ sample_at f column row
cell_at-raster_of f size (negsuc n) row = refl
cell_at-raster_of f size (pos x) (negsuc n) = refl
cell_at-raster_of f size (pos x) (pos y) =
    elim (cases_lt x f.width) [
      | inr past ↦ cell_at-right (raster_of f) x y past ∙ sym (sample_at-right f x y past)
      | inl across ↦ elim (cases_lt y f.height) [
        | inr past ↦ cell_at-below (raster_of f) x y across past ∙ sym (sample_at-below f x y across past)
        | inl down ↦ cell_at-inside (raster_of f) x y across down ∙ slice_get-samples f size x y across down ∙ sym (sample_at_in f x y across down)
      ]
    ]

-- and under an element it shows what stands under that in the picture
pub seen_under-raster_of : (f : Picture) → length f.samples ≡ f.height * f.width → (element : List Offset) (x y : ℕ) → seen_under (cell_at (raster_of f)) element x y ≡ under f element x y
seen_under-raster_of f size [] x y = refl
seen_under-raster_of f size (b ∷ bs) x y =
    ap (λ (t : Option ℕ). cons_option t (seen_under (cell_at (raster_of f)) bs x y)) (cell_at-raster_of f size (pos x +ℤ b.dx) (pos y +ℤ b.dy))
    ∙ ap (cons_option (sample_at f (pos x +ℤ b.dx) (pos y +ℤ b.dy))) (seen_under-raster_of f size bs x y)
