use Rattle.std.proofs.Common.{◌+◌, ◌/◌, refl, arith}
use Rattle.mw_geodesic_runs.proofs.ChangedPlaces.{not_zero, none_behind, passing_begins, passing_on, no_more, found_next, left_behind}
use Rattle.mw_geodesic_runs.proofs.changes.next_change.Goals as goal

pub zeros-init : goal.zeros-init
zeros-init c = passing_begins c.args.words.now c.args.at (c.args.at / 64) c.args.left.now refl c.requires.within c.requires.left

pub zeros-preserved : goal.zeros-preserved
zeros-preserved c = passing_on c.args.words.now c.args.at c.zeros.k (c.zeros.k + 1) c.zeros.bits c.changes_of-bits.result refl (omega arith) c.zeros-test.true c.changes_of-bits.ensures c.zeros.invariant

pub without_lowest-requires : goal.without_lowest-requires
without_lowest-requires c = not_zero c.zeros.bits c.zeros-test.false

pub lowest_one-requires : goal.lowest_one-requires
lowest_one-requires c = not_zero c.zeros.bits c.zeros-test.false

pub returns-then-k-words-clause-next : goal.returns-then-k-words-clause-next
returns-then-k-words-clause-next c = no_more c.args.words.now c.args.at c.zeros.k c.zeros.bits c.requires.within (omega arith) c.zeros-test.true c.zeros.invariant

pub returns-then-k-words-clause-left : goal.returns-then-k-words-clause-left
returns-then-k-words-clause-left c = none_behind c.args.words.now _ _ (omega arith)

pub returns-clause-next : goal.returns-clause-next
returns-clause-next c =
    found_next c.args.words.now c.args.at c.zeros.k c.zeros.bits c.lowest_one.result _ refl c.lowest_one.ensures.within c.lowest_one.ensures.lowest c.zeros.invariant

pub returns-clause-left : goal.returns-clause-left
returns-clause-left c =
    left_behind c.args.words.now c.args.at c.zeros.k c.zeros.bits c.lowest_one.result _ c.without_lowest.result refl c.lowest_one.ensures.within c.lowest_one.ensures.lowest (c.without_lowest.ensures c.lowest_one.result c.lowest_one.ensures.lowest)
    c.zeros.invariant
