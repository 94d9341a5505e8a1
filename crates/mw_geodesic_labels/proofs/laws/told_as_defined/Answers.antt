use Rattle.mw_geodesic_labels.proofs.RegionLaws.{told, as_defined, as_many}
use Rattle.mw_geodesic_labels.proofs.laws.told_as_defined.Goals as goal

pub returns-clause-told : goal.returns-clause-told
returns-clause-told c = told

pub returns-clause-defined : goal.returns-clause-defined
returns-clause-defined c = as_defined

pub returns-clause-count : goal.returns-clause-count
returns-clause-count c = as_many
