use Rattle.std.proofs.Common.{◌≡◌, rules, arith}
use Rattle.mw_c_arrays.specs.Faults.{grey8_fault}
use Rattle.mw_c_arrays.specs.Sound.{IsGrey8}
use Rattle.mw_c_arrays.proofs.FirstCases.{if_none}
use Rattle.mw_c_arrays.proofs.SoundImages.{levels_sound}
use Rattle.mw_c_arrays.proofs.arrays.Grey8.fault.Goals as goal

pub returns-clause-sound : goal.returns-clause-sound
returns-clause-sound c =
    let f = c.args.self.now in
    let first : c.first_of.result ≡ grey8_fault c.args.self.now = search rules in
    if_none c.first_of.result (grey8_fault c.args.self.now) (IsGrey8 c.args.self.now) first (λ none.
    let is = levels_sound 1 255 f.width f.height f.maxval f.samples.now (omega arith) (omega arith) none in
    record { image = is.image; byte = is.high })
