use Rattle.std.proofs.Common.{◌≡◌, subst, arith}
use Rattle.mw_c_arrays.specs.declared.sources.ArrayImage.{ArrayImage}
use Rattle.mw_c_lent.specs.Levels.{HasLevelsUpTo}
use Rattle.mw_c_lent.proofs.lendable.U16Lendable.grey.Goals as goal

pub returns-in-Grey8-clause-none : goal.returns-in-Grey8-clause-none
returns-in-Grey8-clause-none c = λ top.
    let no : 65535 ≡ 255 = subst (λ (f : ArrayImage). HasLevelsUpTo 65535 f) c.in-Grey8.is top in
    absurd (omega (arith, no))

pub returns-in-Pixels-clause-none : goal.returns-in-Pixels-clause-none
returns-in-Pixels-clause-none c = λ top. subst (λ (f : ArrayImage). HasLevelsUpTo 65535 f) c.in-Pixels.is top
