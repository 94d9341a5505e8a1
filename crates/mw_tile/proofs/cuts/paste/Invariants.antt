use Rattle.mw_tile.proofs.Rows.{upper}
use Rattle.mw_tile.specs.Cuts.{Pastes}
use Rattle.mw_tile.proofs.cuts.paste.Given as goal

abbrev pub invariant-loop-y : goal.invariant-loop-y
invariant-loop-y g l = Pastes l.initial.plane l.plane l.part (upper l.rect l.y)
