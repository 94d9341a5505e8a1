use Rattle.mw_geodesic_levels.proofs.last_look.rise_along.Goals as goal

pub returns-clause-none : goal.returns-clause-none
returns-clause-none g c = λ none. c.may_rise_along.ensures c.if-may_rise_along.false
