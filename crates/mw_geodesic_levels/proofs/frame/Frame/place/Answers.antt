use Rattle.std.proofs.Common.{arith}
use Rattle.std.proofs.lemmas.Nat.{div-add-mod'}
use Rattle.mw_geodesic_levels.proofs.frame.Frame.place.Goals as goal

pub returns-clause-value : goal.returns-clause-value
returns-clause-value c = omega (arith, div-add-mod' c.args.number c.args.self.width)
