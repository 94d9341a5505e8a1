-- Sets whose pixels are 0 and 1 already.
use Rattle.std.proofs.Common.{◌≡◌, ℕ, zero, suc, ◌≤◌, List, [], ◌∷◌, map, refl, ap, sym, subst, ◌∙◌, arith}
use Rattle.std.specs.Prelude.{All, nat_le, if◌then◌else◌}
use Rattle.std.proofs.lemmas.List.Elements.{All-head, All-tail}
use Rattle.mw_model.specs.declared.shapes.Kind.TheVariants as kind
use Rattle.mw_model.specs.Pictures.{IsImage, picture}
use Rattle.mw_c_arrays.specs.declared.arrays.Set.{Set}
use Rattle.mw_c_arrays.specs.declared.sources.ArrayImage.{ArrayImage}
use Rattle.mw_c_arrays.specs.declared.sources.ArrayImage.TheVariants as source
use Rattle.mw_c_arrays.specs.Arrays.{pixels_in_bytes, set_in_bytes, set_picture}
use Rattle.mw_c_arrays.specs.Sources.{picture_in}
use Rattle.mw_c_strips.specs.Refilled.{refilled}

pub map_itself : (xs : List ℕ) → map (λ (s : ℕ). s) xs ≡ xs
map_itself [] = refl
map_itself (x ∷ xs) = ap (λ (ys : List ℕ). x ∷ ys) (map_itself xs)

one_same : (s : ℕ) → s ≤ 1 → (if nat_le 1 s then 1 else 0) ≡ s
one_same zero small = refl
one_same (suc zero) small = refl
one_same (suc (suc n)) small = absurd (omega arith)

ones_same : (xs : List ℕ) → All (λ s. s ≤ 1) xs → pixels_in_bytes xs ≡ xs
ones_same [] small = refl
ones_same (x ∷ xs) small =
    ap (λ (y : ℕ). y ∷ pixels_in_bytes xs) (one_same x (All-head (λ s. s ≤ 1) x xs small)) ∙ ap (λ (ys : List ℕ). x ∷ ys) (ones_same xs (All-tail (λ s. s ≤ 1) x xs small))

-- their bytes show the set that they are
pub pixels_like : (s : ArrayImage) (f : Set) (samples : List ℕ) → s ≡ source.Pixels f → IsImage (refilled (picture_in s) (map (λ (p : ℕ). p) samples)) → set_in_bytes f.width f.height samples ≡ refilled (picture_in s) (map (λ (p : ℕ). p) samples)
pixels_like s f samples is image =
    let own : IsImage (refilled (set_picture f) samples) = subst (λ (xs : List ℕ). IsImage (refilled (set_picture f) xs)) (map_itself samples) (subst (λ (t : ArrayImage). IsImage (refilled (picture_in t) (map (λ (p : ℕ). p) samples))) is image) in
    ap (λ (xs : List ℕ). picture kind.Bit f.width f.height 1 xs) (ones_same samples own.picture.bounded ∙ sym (map_itself samples))
    ∙ ap (λ (t : ArrayImage). refilled (picture_in t) (map (λ (p : ℕ). p) samples)) (sym is)
