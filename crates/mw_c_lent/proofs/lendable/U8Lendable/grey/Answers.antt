use Rattle.std.proofs.Common.{◌≡◌, subst, arith}
use Rattle.mw_c_arrays.specs.declared.sources.ArrayImage.{ArrayImage}
use Rattle.mw_c_lent.specs.Levels.{HasLevelsUpTo}
use Rattle.mw_c_lent.proofs.lendable.U8Lendable.grey.Goals as goal

pub returns-in-Grey16-clause-none : goal.returns-in-Grey16-clause-none
returns-in-Grey16-clause-none c = λ top.
    let no : 255 ≡ 65535 = subst (λ (f : ArrayImage). HasLevelsUpTo 255 f) c.in-Grey16.is top in
    absurd (omega (arith, no))

pub returns-in-Pixels-clause-none : goal.returns-in-Pixels-clause-none
returns-in-Pixels-clause-none c = λ top. subst (λ (f : ArrayImage). HasLevelsUpTo 255 f) c.in-Pixels.is top
