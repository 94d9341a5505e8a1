-- What differences have at one place.
use Rattle.std.proofs.Common.{◌≡◌, ℕ, ◌-◌, ◌<◌, ap, sym, ◌∙◌}
use Rattle.mw_model.specs.Flat.{minus}
use Rattle.mw_model.specs.Pictures.{Picture, sample}
use Rattle.mw_model.proofs.ImagePlaces.{sample-redrawn}

pub difference_there : (a b : Picture) (x y m n d : ℕ) → x < a.width → y < a.height → m ≡ sample a x y → n ≡ sample b x y → d ≡ m - n → d ≡ sample (minus a b) x y
difference_there a b x y m n d across down first second is =
    is ∙ ap (λ (t : ℕ). t - n) first ∙ ap (λ (t : ℕ). sample a x y - t) second ∙ sym (sample-redrawn a (λ u v. sample a u v - sample b u v) x y across down)
