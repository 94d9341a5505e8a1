use Rattle.std.proofs.Common.{◌≡◌, [], length, take, drop}
use Rattle.mw_model.specs.Machine.{cascaded}
use Rattle.mw_store.proofs.cascade.fail_dependents.Given as goal

abbrev pub invariant-loop-t : goal.invariant-loop-t
invariant-loop-t l =
    (length l.outcomes ≡ length l.fn.outcomes)
    × (cascaded (take l.t l.outcomes) (drop l.t l.submissions) (drop l.t l.outcomes) ≡ cascaded [] l.submissions l.fn.outcomes)
