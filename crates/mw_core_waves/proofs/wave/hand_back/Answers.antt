use Rattle.std.proofs.Common.{Err, [], arith}
use Rattle.mw_core_waves.proofs.Waving.{wave-run}
use Rattle.mw_core_waves.proofs.wave.hand_back.Goals as goal

pub returns : goal.returns
returns c = λ m old u.
    c.hand_in.ensures m old [] 1 (omega arith) (wave-run m old c.args.core.now [] 1 c.args.work (Err c.new-refused.result) c.new-refused.ensures u)
