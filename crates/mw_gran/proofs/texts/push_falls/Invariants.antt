use Rattle.std.proofs.Common.{◌≡◌, ◌++◌}
use Rattle.mw_gran.proofs.CurveTexts.{lines_below, fall_text}
use Rattle.mw_gran.proofs.texts.push_falls.Given as goal

abbrev pub invariant-loop-i : goal.invariant-loop-i
invariant-loop-i l = l.text.items ≡ l.initial.text.items ++ lines_below (fall_text l.volumes) l.i
