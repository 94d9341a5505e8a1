use Rattle.std.proofs.Common.{◌≡◌, ◌∙◌, of_z, rules, to_z, w32}
use Rattle.mw_c_calls.proofs.Answered.{answered}
use Rattle.mw_c_calls.proofs.spectra.spectrum_u16.Goals as goal

pub returns-clause-first : goal.returns-clause-first
returns-clause-first c =
    let same : to_z w32 (of_z w32 c.answer_volumes.result) ≡ c.answer_volumes.result = search rules in
    answered _ _ c.volumes.result (to_z w32 (of_z w32 c.answer_volumes.result)) (same ∙ c.answer_volumes.ensures.answer) c.volumes.ensures.told
