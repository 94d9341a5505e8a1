use Rattle.std.proofs.Common.{◌≡◌, ℕ, ◌+◌, ◌*◌, length, map, sum, ap, arith}
use Rattle.std.specs.List.{range_with_len}
use Rattle.mw_core_ledger.proofs.mw_core_laws.CountLemmas.{sum-more}
use Rattle.mw_core.specs.declared.costs.TheConstants.{ENTRY, ITEM}
use Rattle.mw_core.specs.Costs.{told_bytes, entry_bytes}
use Rattle.mw_core.proofs.machine.Core.bytes.Goals as goal

pub loop-t-preserved : goal.loop-t-preserved
loop-t-preserved c =
    let one : ℕ → ℕ = λ t. entry_bytes c.args.self.now t + ENTRY in
    omega (arith, sum-more one c.loop-t.t, c.loop-t.invariant, c.entry_bytes.ensures, c.saturating_add-entry.ensures, c.saturating_add-bytes.ensures)
