use Rattle.std.proofs.Common.{◌≡◌, take}
use Rattle.mw_step.proofs.make.put_together.Given as goal

abbrev pub invariant-loop-window : goal.invariant-loop-window
invariant-loop-window l = l.joined.items ≡ take l.window-index l.windows
