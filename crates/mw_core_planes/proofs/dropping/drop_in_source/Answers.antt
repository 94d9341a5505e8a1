use Rattle.std.proofs.Common.{refl, ap, ◌∙◌}
use Rattle.std.proofs.lemmas.Bool.{eq-eqb}
use Rattle.mw_ready.specs.Boards.{is_source}
use Rattle.mw_core_planes.proofs.dropping.drop_in_source.Goals as goal

pub drop_in_step-requires-clause-step : goal.drop_in_step-requires-clause-step
drop_in_step-requires-clause-step c = (c.requires.step c.in-Some.step (ap (is_source c.in-Some.step) c.in-Some.is ∙ eq-eqb c.in-Some.step c.in-Some.step refl)).0

pub drop_in_step-requires-clause-within : goal.drop_in_step-requires-clause-within
drop_in_step-requires-clause-within c = (c.requires.step c.in-Some.step (ap (is_source c.in-Some.step) c.in-Some.is ∙ eq-eqb c.in-Some.step c.in-Some.step refl)).1
