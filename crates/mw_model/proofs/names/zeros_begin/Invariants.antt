use Rattle.std.proofs.Common.{◌≤◌}
use Rattle.std.specs.List.{position_or_len}
use Rattle.mw_model.specs.Names.{is_zero}
use Rattle.mw_model.proofs.names.zeros_begin.Given as goal

abbrev pub invariant-loop-i : goal.invariant-loop-i
invariant-loop-i l = l.i ≤ position_or_len is_zero l.bytes
