-- what was counted so far: the log and the entries before this one
use Rattle.std.proofs.Common.{◌≡◌, ◌+◌, ◌*◌, length, map, sum}
use Rattle.std.specs.List.{range_with_len}
use Rattle.mw_core.specs.declared.costs.TheConstants.{ENTRY, ITEM}
use Rattle.mw_core.specs.Costs.{told_bytes, entry_bytes}
use Rattle.mw_core.proofs.machine.Core.bytes.Given as goal

abbrev pub invariant-loop-t : goal.invariant-loop-t
invariant-loop-t l = l.bytes ≡ told_bytes ((length l.self.log + 16) * ITEM + sum (map (λ t. entry_bytes l.self t + ENTRY) (range_with_len 0 l.t)))
