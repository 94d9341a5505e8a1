use Rattle.mw_geodesic.proofs.Components.{own_component, one_component}
use Rattle.mw_geodesic.proofs.laws.components.Goals as goal

pub returns-clause-own : goal.returns-clause-own
returns-clause-own c = own_component

pub returns-clause-one : goal.returns-clause-one
returns-clause-one c = one_component
