-- The roll of the tasks that were handed out.
use Rattle.std.specs.Prelude.{ℕ, ◌≡◌, ◌==◌, true, List, [], ◌∷◌, ◌++◌, length, MatchBool, Option, Some, None, IfSome}
use Rattle.logbook.specs.Pages.{Cell, Step, View, Book, Named}
use Rattle.mw_pool_passes.specs.mw_step_task.WindowTasks.{WindowTask}
use Rattle.mw_pool_passes.specs.mw_core.declared.answers.Started.{Started}
use Rattle.mw_pool_passes.specs.mw_core.declared.answers.Started.TheVariants as started

-- the first word of the book is the length of the roll. A book has two words, of which this one leaves the second at 0
abbrev pub IsBookOf : List Cell → List WindowTask → Type 0
IsBookOf cells roll = cells ≡ (length roll, true) ∷ (0, true) ∷ []

-- that word
abbrev pub book_head : Book → Named
book_head b = record { tracked = true; key = 0; book = b }

-- the task was added to all that had been seen; or the roll was longer
abbrev pub Adds : Step WindowTask → View WindowTask ℕ → ℕ → View WindowTask ℕ → Type 0
Adds s v found w = MatchBool (found == s.old) (w.0 ≡ v.0 ++ s.ask ∷ []) (length w.0 ≡ found)

-- the task is the last of the roll as it was seen
abbrev pub EndsWith : List WindowTask → WindowTask → Type 0
EndsWith seen w = (before : List WindowTask) × (seen ≡ before ++ w ∷ [])

-- the task stands in the roll
abbrev pub StandsIn : List WindowTask → WindowTask → Type 0
StandsIn roll w = (before : List WindowTask) × (after : List WindowTask) × (roll ≡ before ++ w ∷ after)

-- the task that was started was written at the end of the roll, which was then seen; or nothing was written
abbrev pub Writes : List WindowTask → Started → Option (List WindowTask) → List WindowTask → Type 0
Writes old (started.Work w) (Some seen) new = (new ≡ old ++ w ∷ []) × (seen ≡ new)
Writes old s (Some seen) new = ⊥
Writes old s None new = new ≡ old

-- what was seen of the roll ends with the task that was started
abbrev pub IsSlipOf : Started → Option (List WindowTask) → Type 0
IsSlipOf (started.Work w) slip = IfSome slip (λ seen. EndsWith seen w)
IsSlipOf s slip = slip ≡ None
