use Rattle.std.proofs.Common.{◌≡◌, ℕ, ◌+◌, ◌*◌, ◌/◌, ◌<◌, length}
use Rattle.mw_bits.specs.mw_pixel_words.Packed.{bit_of}
use Rattle.mw_rank_bits.specs.Walks.{is_below}
use Rattle.mw_rank_bits.proofs.walk.walk_all.Given as goal

abbrev pub invariant-loop-i : goal.invariant-loop-i
invariant-loop-i l =
    (x y : ℕ) → x < 128 * l.i → y < l.rows.high → bit_of l.out (y * (64 * (2 * l.rows.pairs)) + x) ≡ is_below (length l.fn.planes / 2) l.rows.start l.cells l.places.seen.now (y * (64 * l.rows.wide) + x)
