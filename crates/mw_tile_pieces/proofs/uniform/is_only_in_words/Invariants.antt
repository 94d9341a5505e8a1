use Rattle.std.proofs.Common.{◌+◌, ◌*◌, ◌/◌, get_or, cond}
use Rattle.mw_tile_pieces.proofs.Only.{Gathered}
use Rattle.mw_tile_pieces.proofs.uniform.is_only_in_words.Given as goal

abbrev pub invariant-loop-y : goal.invariant-loop-y
invariant-loop-y l = Gathered (cond l.is_set 1 0) l.others l.y (λ j. get_or l.from (l.block.first / 64 + j * (l.block.own / 64)) 0)
