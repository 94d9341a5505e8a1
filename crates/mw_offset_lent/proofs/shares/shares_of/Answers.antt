use Rattle.std.proofs.Common.{ℕ, ◌+◌, ◌^◌, List, refl, sym, subst, arith}
use Rattle.std.specs.List.{Contains}
use Rattle.mw_offset_lent.proofs.Covers.{cover_by}
use Rattle.mw_offset_lent.proofs.Rooms.{all_below}
use Rattle.mw_offset_lent.proofs.shares.shares_of.Goals as goal

pub shared_of-requires : goal.shared_of-requires
shared_of-requires c = all_below c.args.all.now c.saturating_sub-ahead.result (c.args.wide + 8) (2 ^ 64) (omega (arith, c.saturating_sub-ahead.ensures, c.requires.shift.right)) c.requires.places

pub rest_of-requires-clause-small : goal.rest_of-requires-clause-small
rest_of-requires-clause-small c = all_below c.args.all.now 0 (c.args.wide + 8) (2 ^ 64) (omega arith) c.requires.places

pub rest_of-requires-clause-shared : goal.rest_of-requires-clause-shared
rest_of-requires-clause-shared c = λ p has. (p, c.in_ok-both.ensures.within p (subst (λ (t : List ℕ). Contains t p) c.as_slice-shared.ensures.value has), omega arith)

pub rest_of-requires-2-clause-small : goal.rest_of-requires-2-clause-small
rest_of-requires-2-clause-small c = all_below c.args.all.now c.saturating_sub-ahead.result (c.args.wide + 8) (2 ^ 64) (omega (arith, c.saturating_sub-ahead.ensures, c.requires.shift.right)) c.requires.places

pub rest_of-requires-2-clause-shared : goal.rest_of-requires-2-clause-shared
rest_of-requires-2-clause-shared c = λ p has. c.in_ok-both.ensures.ahead p (subst (λ (t : List ℕ). Contains t p) c.as_slice-shared.ensures.value has)

pub returns-clause-upper : goal.returns-clause-upper
returns-clause-upper c = cover_by c.as_slice-shared.result.now c.in_ok-upper.upper.items c.args.all.now c.in_ok-both.both.items c.in_ok-upper.upper.items 0 (sym c.as_slice-shared.ensures.value) refl c.in_ok-upper.ensures

pub returns-clause-lower : goal.returns-clause-lower
returns-clause-lower c =
    cover_by c.as_slice-shared.result.now c.in_ok-lower.lower.items c.args.all.now c.in_ok-both.both.items c.in_ok-lower.lower.items c.saturating_sub-ahead.result (sym c.as_slice-shared.ensures.value) refl c.in_ok-lower.ensures

pub returns-clause-ahead : goal.returns-clause-ahead
returns-clause-ahead c = λ far. omega (arith, c.saturating_sub-ahead.ensures, c.requires.shift.left)
