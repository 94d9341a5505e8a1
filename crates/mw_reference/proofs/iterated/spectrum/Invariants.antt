use Rattle.std.proofs.Common.{◌≡◌, map}
use Rattle.std.specs.List.{range_with_len}
use Rattle.mw_model.specs.Iterates.{volume}
use Rattle.mw_reference.proofs.iterated.spectrum.Given as goal

abbrev pub invariant-loop-n : goal.invariant-loop-n
invariant-loop-n l = l.volumes.items ≡ map (λ n. volume l.element n l.image) (range_with_len 0 l.n)
