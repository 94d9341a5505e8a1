use Rattle.std.proofs.Common.{arith, refl}
use Rattle.mw_c_strips.proofs.cuts.strip_from.Goals as goal

pub returns-clause-before : goal.returns-clause-before
returns-clause-before c = omega arith

pub returns-clause-strip : goal.returns-clause-strip
returns-clause-strip c = λ f wide high. record { left = refl; wide = wide; some = omega arith; low = omega (arith, high) }
