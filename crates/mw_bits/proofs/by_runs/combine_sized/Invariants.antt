use Rattle.std.proofs.Common.{◌≡◌, ℕ, ◌+◌, ◌*◌, ◌/◌, ◌<◌, length, take, fold, IfSome}
use Rattle.mw_offset.specs.mw_element_runs.Runs.{two_parts}
use Rattle.mw_offset.specs.MergedAt.{sized_below}
use Rattle.mw_offset.specs.mw_pixel_words.Packed.{bit_of}
use Rattle.mw_bits_rows.specs.Rows.{laid_bits}
use Rattle.mw_bits.specs.Waiting.{with_waiting}
use Rattle.mw_bits.proofs.by_runs.combine_sized.Given as goal

abbrev pub invariant-loop-i : goal.invariant-loop-i
invariant-loop-i g l =
    let f = g.E.Extremum.merge in
    record {
      waits : IfSome l.waiting (λ a. a / 64 + length l.out < length l.cells);
      done : (q d : ℕ) → q < 64 * length l.out
          → with_waiting f l.cells q l.waiting (bit_of l.out q) ≡ fold (sized_below l.sizes.least l.sizes.next (two_parts f (laid_bits l.cells) d l.laid.extent l.laid.wide l.sizes.least q)) (bit_of l.initial.out q) (take l.i l.runs);
    }
