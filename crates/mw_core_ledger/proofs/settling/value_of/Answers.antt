use Rattle.std.proofs.Common.{sym, subst}
use Rattle.mw_core_tasks.specs.mw_tile_planes.Tiles.{AllPlaced, Tiled}
use Rattle.mw_core_tasks.proofs.mw_core_laws.Settling.{last-full}
use Rattle.mw_core_ledger.proofs.settling.value_of.Goals as goal

pub of-requires : goal.of-requires
of-requires c =
    let P : Tiled → Type 0 = λ p. AllPlaced p in
    subst P (sym c.into_plane.ensures) (last-full c.args.progress c.remaining-whole.ensures.whole c.requires.done)
