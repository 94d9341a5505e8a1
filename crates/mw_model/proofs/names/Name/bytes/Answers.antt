use Rattle.std.proofs.Common.{arith}
use Rattle.mw_model.specs.Names.{is_zero}
use Rattle.mw_facts.proofs.Positions.{position_length}
use Rattle.mw_model.proofs.names.Name.bytes.Goals as goal

pub shared_ref_as_front-result : goal.shared_ref_as_front-result
shared_ref_as_front-result c = omega (arith, position_length is_zero c.args.self.now.bytes)
