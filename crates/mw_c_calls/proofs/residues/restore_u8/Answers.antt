use Rattle.std.proofs.Common.{◌≡◌, ◌∙◌, of_z, rules, to_z, w32}
use Rattle.mw_c_calls.proofs.Answered.{answered}
use Rattle.mw_c_calls.proofs.residues.restore_u8.Goals as goal

pub returns-clause-first : goal.returns-clause-first
returns-clause-first c =
    let same : to_z w32 (of_z w32 c.answer_bytes.result) ≡ c.answer_bytes.result = search rules in
    answered _ _ c.restored.result (to_z w32 (of_z w32 c.answer_bytes.result)) (same ∙ c.answer_bytes.ensures.answer) c.restored.ensures.told
