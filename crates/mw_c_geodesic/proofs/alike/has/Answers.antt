use Rattle.std.proofs.Common.{arith}
use Rattle.mw_geodesic.proofs.Raised.{covers_at}
use Rattle.mw_c_geodesic.proofs.alike.has.Goals as goal

pub returns-then-is_same : goal.returns-then-is_same
returns-then-is_same c =
    λ same x y u v joins. covers_at c.args.element.now c.loop-i.i _ x y u v (omega arith) (c.is_same.ensures c.if-is_same.true x y u v joins)
