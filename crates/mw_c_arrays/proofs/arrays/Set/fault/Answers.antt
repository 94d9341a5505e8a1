use Rattle.std.proofs.Common.{◌≡◌, rules}
use Rattle.mw_model.specs.Pictures.{IsImage}
use Rattle.mw_c_arrays.specs.Arrays.{set_picture}
use Rattle.mw_c_arrays.specs.Faults.{set_fault}
use Rattle.mw_c_arrays.proofs.FirstCases.{if_none}
use Rattle.mw_c_arrays.proofs.SoundImages.{set_sound}
use Rattle.mw_c_arrays.proofs.arrays.Set.fault.Goals as goal

pub returns-clause-sound : goal.returns-clause-sound
returns-clause-sound c =
    let f = c.args.self.now in
    let first : c.first_of.result ≡ set_fault c.args.self.now = search rules in
    if_none c.first_of.result (set_fault c.args.self.now) (IsImage (set_picture c.args.self.now)) first (set_sound f.width f.height f.pixels.now)
