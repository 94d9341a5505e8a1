use Rattle.std.proofs.Common.{◌-◌, ◌≤◌}
use Rattle.mw_pixel_words.specs.Runs.{HasCopied}
use Rattle.mw_pixel_words.proofs.copying.copy_bits.Given as goal

abbrev pub invariant-parts : goal.invariant-parts
invariant-parts l = (l.done ≤ l.count) × HasCopied l.place l.from l.done l.other l.fn.words l.words

abbrev pub decreases-parts : goal.decreases-parts
decreases-parts l = l.count - l.done
