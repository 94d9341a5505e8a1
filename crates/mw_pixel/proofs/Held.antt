-- Images that are held as different samples differ.
use Rattle.std.proofs.Common.{◌≡◌, ℕ, ap, refl, arith, rules, sym, ◌∙◌}
use Rattle.std.specs.declared.sync.Arc.{Arc}
use Rattle.std.specs.declared.alloc.Global.{Global}
use Rattle.mw_model.specs.Rasters.{Raster}
use Rattle.mw_model.specs.Pictures.{Picture}
use Rattle.mw_model.specs.declared.shapes.Kind.TheVariants as kind
use Rattle.mw_pixel.specs.declared.image.Samples.{Samples}
use Rattle.mw_pixel.specs.declared.image.Samples.TheVariants.{Bits, Grey8, Grey16}
use Rattle.mw_pixel.specs.Images.{picture_of, IsHeld}

-- a plane with its owners
abbrev Owned : Type 0
Owned = Arc (Raster ℕ) Global

grey_is_no_bit : kind.Grey ≡ kind.Bit → ⊥
grey_is_no_bit e = search rules

pub grey8_is_no_other : (p : Owned) (m : ℕ) (s t : Samples) (f g : Picture) → s ≡ Grey8 p m → IsHeld s → IsHeld t → ((q : Owned) (n : ℕ) → t ≡ Grey8 q n → ⊥)
    → picture_of s ≡ f → picture_of t ≡ g → f ≡ g → ⊥
grey8_is_no_other p m s t f g s-is held other not f-is g-is e = go s t s-is held other not (f-is ∙ e ∙ sym g-is)
  where
    go : (s t : Samples) → s ≡ Grey8 p m → IsHeld s → IsHeld t → ((q : Owned) (n : ℕ) → t ≡ Grey8 q n → ⊥) → picture_of s ≡ picture_of t → ⊥
    go s (Grey8 q n) s-is held other not e = not q n refl
    go (Grey8 r k) (Bits q) s-is held other not e = grey_is_no_bit (ap (λ f. f.kind) e)
    go (Grey8 r k) (Grey16 q n) s-is held other not e = let same : k ≡ n = ap (λ f. f.maxval) e in let a = held.2 in let b = other.1 in omega arith
    go (Bits r) (Bits q) s-is held other not e = search rules
    go (Bits r) (Grey16 q n) s-is held other not e = search rules
    go (Grey16 r k) (Bits q) s-is held other not e = search rules
    go (Grey16 r k) (Grey16 q n) s-is held other not e = search rules

pub grey16_is_no_other : (p : Owned) (m : ℕ) (s t : Samples) (f g : Picture) → s ≡ Grey16 p m → IsHeld s → IsHeld t → ((q : Owned) (n : ℕ) → t ≡ Grey16 q n → ⊥)
    → picture_of s ≡ f → picture_of t ≡ g → f ≡ g → ⊥
grey16_is_no_other p m s t f g s-is held other not f-is g-is e = go s t s-is held other not (f-is ∙ e ∙ sym g-is)
  where
    go : (s t : Samples) → s ≡ Grey16 p m → IsHeld s → IsHeld t → ((q : Owned) (n : ℕ) → t ≡ Grey16 q n → ⊥) → picture_of s ≡ picture_of t → ⊥
    go s (Grey16 q n) s-is held other not e = not q n refl
    go (Grey16 r k) (Bits q) s-is held other not e = grey_is_no_bit (ap (λ f. f.kind) e)
    go (Grey16 r k) (Grey8 q n) s-is held other not e = let same : k ≡ n = ap (λ f. f.maxval) e in let a = held.1 in let b = other.2 in omega arith
    go (Bits r) (Bits q) s-is held other not e = search rules
    go (Bits r) (Grey8 q n) s-is held other not e = search rules
    go (Grey8 r k) (Bits q) s-is held other not e = search rules
    go (Grey8 r k) (Grey8 q n) s-is held other not e = search rules
