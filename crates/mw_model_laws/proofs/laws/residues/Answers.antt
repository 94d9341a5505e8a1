use Rattle.mw_model_laws.proofs.ResidueLaws.{residues_disjoint, residue_not_last, residue_marked, last_marked}
use Rattle.mw_model_laws.proofs.laws.residues.Goals as goal

pub returns : goal.returns
returns c = record { disjoint = residues_disjoint; not_last = residue_not_last; marked = residue_marked; last_marked = last_marked }
