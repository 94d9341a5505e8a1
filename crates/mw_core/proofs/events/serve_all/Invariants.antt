use Rattle.std.proofs.Common.{◌≡◌, ◌+◌, ◌≤◌, length}
use Rattle.std.specs.Prelude.{vec_capacity}
use Rattle.std.specs.List.{AllByRecursion}
use Rattle.mw_model.specs.Machine.{Machine}
use Rattle.mw_model.specs.Stands.{StandsFor}
use Rattle.mw_core.specs.EventEffects.{IsServable, HaveEffects}
use Rattle.mw_core.proofs.events.serve_all.Given as goal

abbrev pub invariant-loop-event : goal.invariant-loop-event
invariant-loop-event l =
    AllByRecursion IsServable l.event-iterator.rest.items
    × ((m : Machine) → StandsFor l.fn.core m → (n : Machine) × HaveEffects l.fn.core m l.yielded l.answers.items l.core n × StandsFor l.core n)
    × (length l.answers.items + length l.event-iterator.rest.items ≤ vec_capacity l.answers)
    × (l.core.side ≡ l.fn.core.side)
