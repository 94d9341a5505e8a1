use Rattle.std.proofs.Common.{◌∙◌}
use Rattle.mw_tile_pieces.proofs.Laid.{blank_packed}
use Rattle.mw_tile_pieces.proofs.whole_windows.laid.Goals as goal

pub lay_all-requires : goal.lay_all-requires
lay_all-requires c = blank_packed c.args.pieces.now.place c.place-place.result c.stride.result c.deref_mut.result.now c.place-place.ensures c.stride.ensures.value (c.deref_mut.ensures.value ∙ c.in_ok-words.ensures)
