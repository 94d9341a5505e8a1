use Rattle.std.specs.List.{AllByRecursion}
use Rattle.mw_core.specs.EventEffects.{IsServable}
use Rattle.test_core.proofs.many.questions.Given as goal

abbrev pub invariant-questions : goal.invariant-questions
invariant-questions g l = AllByRecursion IsServable l.events.items
