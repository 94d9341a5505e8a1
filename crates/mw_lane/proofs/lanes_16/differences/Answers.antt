use Rattle.std.proofs.Common.{refl, ◌+◌, ◌-◌, ◌%◌, ℕ}
use Rattle.std.specs.Int.{w16}
use Rattle.mw_lane.proofs.Differences.{difference_block, wrapped_16}
use Rattle.mw_lane.proofs.lanes_16.differences.Goals as goal

pub returns : goal.returns
returns c = difference_block w16 (λ (x y : ℕ). (x + (65536 - y)) % 65536) 65536 wrapped_16 c.args.a.now c.args.b.now c.requires.first c.requires.second refl c.type_inv.a c.type_inv.b
