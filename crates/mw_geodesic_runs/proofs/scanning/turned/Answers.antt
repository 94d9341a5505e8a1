use Rattle.std.proofs.Common.{◌-◌, Bool, w64, ap, sym, ◌∙◌}
use Rattle.std.specs.Prelude.{if◌then◌else◌}
use Rattle.std.specs.Int.{bit_at}
use Rattle.std.proofs.lemmas.Nat.Bits.{bit_at_not}
use Rattle.mw_geodesic_runs.proofs.scanning.turned.Goals as goal

pub returns-else-wanted : goal.returns-else-wanted
returns-else-wanted c = λ i lt. bit_at_not w64 c.args.word i c.ranges.word.fits lt ∙ ap (λ (t : Bool). if t then bit_at c.args.word i else 1 - bit_at c.args.word i) (sym c.if-wanted.false)
