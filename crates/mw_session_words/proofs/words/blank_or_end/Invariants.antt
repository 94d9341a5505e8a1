use Rattle.std.proofs.Common.{◌≤◌}
use Rattle.std.specs.List.{position_or_len}
use Rattle.mw_session_words.specs.Words.{is_blank}
use Rattle.mw_session_words.proofs.words.blank_or_end.Given as goal

abbrev pub invariant-loop-i : goal.invariant-loop-i
invariant-loop-i l = l.i ≤ position_or_len is_blank l.line
