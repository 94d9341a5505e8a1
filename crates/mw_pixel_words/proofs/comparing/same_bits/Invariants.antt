use Rattle.std.proofs.Common.{◌-◌, ◌≤◌}
use Rattle.mw_pixel_words.specs.Runs.{HasSame}
use Rattle.mw_pixel_words.proofs.comparing.same_bits.Given as goal

abbrev pub invariant-parts : goal.invariant-parts
invariant-parts l = (l.done ≤ l.count) × HasSame l.place l.from l.done l.words l.other

abbrev pub decreases-parts : goal.decreases-parts
decreases-parts l = l.count - l.done
