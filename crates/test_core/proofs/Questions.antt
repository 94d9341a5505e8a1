-- Lists of questions about a name.
use Rattle.std.proofs.Common.{List, [], ◌∷◌, ◌++◌}
use Rattle.std.specs.List.{AllByRecursion}
use Rattle.mw_facts.proofs.Alls.{all-push}
use Rattle.mw_model.specs.declared.names.Name.{Name}
use Rattle.mw_core.specs.declared.events.Event.{Event}
use Rattle.mw_core.specs.declared.events.Event.TheVariants as event
use Rattle.mw_core.specs.EventEffects.{IsServable}

-- each question can be served
pub one_more : (events : List Event) (name : Name) → AllByRecursion IsServable events → AllByRecursion IsServable (events ++ event.Status name ∷ [])
one_more events name all = all-push IsServable events (event.Status name) all tt
