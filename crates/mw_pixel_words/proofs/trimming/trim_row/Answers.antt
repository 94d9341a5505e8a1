use Rattle.std.proofs.Common.{ℕ, ◌-◌, ◌*◌, ◌/◌, ◌%◌, ◌^◌, ap, arith, refl}
use Rattle.std.proofs.lemmas.Nat.{one_shl}
use Rattle.mw_pixel_words.proofs.Trims.{trim_last}
use Rattle.mw_pixel_words.proofs.trimming.trim_row.Goals as goal

pub returns : goal.returns
returns c = λ x lt.
    let width = c.args.width in
    let rest = width % 64 in
    trim_last width rest (width / 64) (1 * 2 ^ rest % 2 ^ 64 - 1) c.args.out.now x refl c.requires.part refl (ap (λ (t : ℕ). t - 1) (one_shl rest 64 (omega arith))) c.requires.room lt
