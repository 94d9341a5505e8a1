-- What rules make at one place.
use Rattle.std.proofs.Common.{◌≡◌, ℕ, ◌+◌, ◌*◌, ◌<◌, [], ◌∷◌, ap, sym, ◌∙◌, arith, cond, nat_le}
use Rattle.std.proofs.lemmas.Nat.{mul-add-lt}
use Rattle.std.proofs.Math.Nat.{mul_comm}
use Rattle.mw_model.specs.Pictures.{Picture, sample}
use Rattle.mw_model.specs.PlanSteps.{AtLeast}
use Rattle.mw_model.specs.Plans.{plane_of}
use Rattle.mw_step_task.proofs.Cut.{here_sample}
use Rattle.mw_c_arrays.specs.declared.sources.ArrayImage.{ArrayImage}
use Rattle.mw_c_arrays.specs.Sources.{IsArrayImage, array_sample_count, picture_in}
use Rattle.mw_c_arrays.proofs.SourceImages.{source_image, source_samples}
use Rattle.mw_c_lent.proofs.Steps.{step_there}

pub upper_there : (k : ℕ) (f : Picture) (x y level n : ℕ) → x < f.width → y < f.height → level ≡ sample f x y → n ≡ cond (nat_le k level) 1 0 → n ≡ sample (plane_of (AtLeast k) (f ∷ []) f.width f.height) x y
upper_there k f x y level n across down same is =
    is ∙ ap (λ (t : ℕ). cond (nat_le k t) 1 0) (same ∙ sym (here_sample f x y across down)) ∙ sym (step_there (AtLeast k) f x y across down)

-- the number of a place
pub place_within : (f : ArrayImage) (x y width : ℕ) → IsArrayImage f → width ≡ (picture_in f).width → x < (picture_in f).width → y < (picture_in f).height → y * width + x < array_sample_count f
place_within f x y width is wide across down =
    let w = (picture_in f).width in
    let h = (picture_in f).height in
    let there : y * w + x < w * h = mul-add-lt y w x h down across in
    let same : y * width + x ≡ y * w + x = ap (λ (t : ℕ). y * t + x) wide in
    omega (arith, there, same, mul_comm w h, sym (source_samples f) ∙ (source_image f is).picture.size)
