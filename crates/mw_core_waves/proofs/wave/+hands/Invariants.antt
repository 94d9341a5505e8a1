use Prim.Native.Nat.{◌+◌, ◌*◌}
use Rattle.mw_core_waves.proofs.wave.+hands.Given as goal

abbrev pub decreases-make_beside : goal.decreases-make_beside
decreases-make_beside g l = 2 * l.making.others

abbrev pub decreases-rest : goal.decreases-rest
decreases-rest g l = 2 * l.fewer.others + 1
