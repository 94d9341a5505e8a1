use Rattle.std.proofs.Common.{◌/◌, ◌%◌, ℕ, ap, arith, bit_or, get_or, set}
use Rattle.std.proofs.lemmas.Nat.{one_shl}
use Rattle.mw_rank_numbers.proofs.Sets.{kept_there, marked_here}
use Rattle.mw_rank_numbers.proofs.level_set.mark.Goals as goal

pub returns-clause-marked : goal.returns-clause-marked
returns-clause-marked c =
    let words = c.args.words.now in
    let v = c.args.level in
    let small = c.ranges.level.fits in
    marked_here words _ v (omega (arith, small, c.requires)) (ap (λ (m : ℕ). set words (v / 64) (bit_or (get_or words (v / 64) 0) m)) (one_shl (v % 64) 64 (omega arith)))

pub returns-clause-kept : goal.returns-clause-kept
returns-clause-kept c = λ v had.
    let words = c.args.words.now in
    let s = c.args.level in
    let small = c.ranges.level.fits in
    kept_there words _ s v (omega (arith, small, c.requires)) (ap (λ (m : ℕ). set words (s / 64) (bit_or (get_or words (s / 64) 0) m)) (one_shl (s % 64) 64 (omega arith))) had
