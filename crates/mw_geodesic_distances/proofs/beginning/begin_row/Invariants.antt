use Rattle.mw_pixel.specs.mw_pixel_words.Packed.{bit_of}
use Rattle.mw_geodesic_distances.specs.Rows.{distance_at, begin_of_bit, IsRewritten}
use Rattle.mw_geodesic_distances.proofs.beginning.begin_row.Given as goal

abbrev pub invariant-loop-x : goal.invariant-loop-x
invariant-loop-x l = IsRewritten 0 l.x (λ k. begin_of_bit l.top (bit_of l.words k)) (distance_at l.initial.row) (distance_at l.row)
