use Rattle.std.proofs.Common.{subst, sym, List, ℕ, ◌<◌, ◌^◌}
use Rattle.std.specs.Prelude.{sum}
use Rattle.mw_reference.proofs.Iterates.{sum_fits}
use Rattle.mw_reference.proofs.images.ReferenceImage.sum.Goals as goal

pub total-requires : goal.total-requires
total-requires c = subst (λ (t : List ℕ). sum t < 2 ^ 64) (sym c.deref.ensures.value) (sum_fits _ c.self.invariant)
