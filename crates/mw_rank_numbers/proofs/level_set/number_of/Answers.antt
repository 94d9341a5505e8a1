use Rattle.std.proofs.Common.{◌%◌, arith}
use Rattle.std.proofs.lemmas.Nat.{one_shl, pow_pos}
use Rattle.mw_rank_numbers.proofs.Sets.{number_coded, number_small}
use Rattle.mw_rank_numbers.proofs.level_set.number_of.Goals as goal

pub overflow_sub-lower : goal.overflow_sub-lower
overflow_sub-lower c = omega (arith, one_shl (c.args.level % 64) 64 (omega arith), pow_pos (c.args.level % 64))

pub bounds-before-at : goal.bounds-before-at
bounds-before-at c = omega (arith, c.requires.summed.1.size, c.ranges.level.fits)

pub overflow_add-result : goal.overflow_add-result
overflow_add-result c = let small = number_small c.args.words.now c.args.before.now c.requires.summed.0 c.args.level c.requires.summed.1 c.ranges.level.fits in omega (arith, small)

pub overflow_cast-result : goal.overflow_cast-result
overflow_cast-result c = let small = number_small c.args.words.now c.args.before.now c.requires.summed.0 c.args.level c.requires.summed.1 c.ranges.level.fits in omega (arith, small)

pub returns : goal.returns
returns c = number_coded c.args.words.now c.args.before.now c.requires.summed.0 c.args.level c.requires.summed.1 c.ranges.level.fits
