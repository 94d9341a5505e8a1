-- Images that are made have the sides of the image that they are made of, and levels of its kind.
use Rattle.std.proofs.Common.{◌≡◌, ℕ, zero, suc, ◌+◌, ◌*◌, ◌≤◌, List, length, refl, ap, sym, subst, ◌∙◌, arith}
use Rattle.std.specs.Prelude.{IfOk, Result, Ok, Err}
use Rattle.std.proofs.lemmas.List.FromFn.{length-map-range_with_len}
use Rattle.mw_model.specs.declared.codes.Code.{Code}
use Rattle.mw_model.specs.declared.offsets.Offset.{Offset}
use Rattle.mw_model.specs.Iterates.{restoration, spectrum, volume}
use Rattle.mw_model.specs.Pictures.{IsImage, Picture}
use Rattle.mw_c_arrays.specs.declared.sources.ArrayImage.{ArrayImage}
use Rattle.mw_c_arrays.specs.declared.sources.ArrayImage.TheVariants as source
use Rattle.mw_c_arrays.specs.Sources.{IsArrayImage, array_sample_count, picture_in}
use Rattle.mw_c_arrays.proofs.SourceImages.{source_image, source_samples}
use Rattle.mw_c_calls.specs.Sources.{LevelsStandIn}

-- levels up to the same maxval stand alike
pub source_levels : (f : ArrayImage) (maxval : ℕ) → IsArrayImage f → maxval ≡ (picture_in f).maxval → LevelsStandIn f maxval
source_levels (source.Grey8 f) maxval is same = subst (λ (n : ℕ). n ≤ 255) (sym same) is.byte
source_levels (source.Grey16 f) maxval is same = subst (λ (n : ℕ). 256 ≤ n) (sym same) is.high
source_levels (source.Pixels f) maxval is same = subst (λ (n : ℕ). n ≤ 255) (sym same) (omega arith)

-- the sides of a restored set, and its maxval
pub record IsRestored (g f : Picture) : Type 0 where
  pub width : g.width ≡ f.width
  pub height : g.height ≡ f.height
  pub maxval : g.maxval ≡ 1

pub restored : (e : List Offset) (n : ℕ) (f : Picture) → IsRestored (restoration e n f) f
restored e zero f = record { width = refl; height = refl; maxval = refl }
restored e (suc n) f = let is = restored e n f in record { width = is.width; height = is.height; maxval = is.maxval }

-- what was made fills as much room
pub fills_room : (g : Picture) (f : ArrayImage) (room : ℕ) → IsImage g → IsArrayImage f → g.width ≡ (picture_in f).width → g.height ≡ (picture_in f).height → room ≡ array_sample_count f → length g.samples ≡ room
fills_room g f room made given width height is =
    let wide = ap (λ (n : ℕ). g.height * n) width in
    let high = ap (λ (n : ℕ). n * (picture_in f).width) height in
    made.picture.size ∙ wide ∙ high ∙ sym (source_image f given).picture.size ∙ source_samples f ∙ sym is

-- a restoration fills as much room, if it was made, and its levels are small
pub restored_fills : (r : Result Picture Code) (e : List Offset) (n : ℕ) (f : ArrayImage) (room : ℕ) → IfOk r IsImage → IfOk r (λ g. g ≡ restoration e n (picture_in f)) → IsArrayImage f → room ≡ array_sample_count f → IfOk r (λ g. length g.samples ≡ room)
restored_fills (Ok g) e n f room made value given is =
    let shape = restored e n (picture_in f) in
    fills_room g f room made given (ap (λ (h : Picture). h.width) value ∙ shape.width) (ap (λ (h : Picture). h.height) value ∙ shape.height) is
restored_fills (Err c) e n f room made value given is = tt

pub restored_small : (r : Result Picture Code) (e : List Offset) (n : ℕ) (f : Picture) → IfOk r (λ g. g ≡ restoration e n f) → IfOk r (λ g. g.maxval ≤ 255)
restored_small (Ok g) e n f value =
    let shape = restored e n f in
    let one : g.maxval ≡ 1 = ap (λ (h : Picture). h.maxval) value ∙ shape.maxval in
    omega (arith, one)
restored_small (Err c) e n f value = tt

-- a spectrum has one volume more than there are erosions
pub length-spectrum : (e : List Offset) (n : ℕ) (f : Picture) → length (spectrum e n f) ≡ n + 1
length-spectrum e n f = length-map-range_with_len (λ k. volume e k f) 0 (n + 1)

pub volumes_fill : (r : Result (List ℕ) Code) (e : List Offset) (n : ℕ) (f : Picture) (room : ℕ) → IfOk r (λ v. v ≡ spectrum e n f) → room ≡ n + 1 → IfOk r (λ v. length v ≡ room)
volumes_fill (Ok v) e n f room value is = ap (λ (w : List ℕ). length w) value ∙ length-spectrum e n f ∙ sym is
volumes_fill (Err c) e n f room value is = tt
