use Rattle.std.proofs.Common.{refl, ◌+◌, ◌-◌, ◌%◌, ℕ}
use Rattle.std.specs.Int.{w8}
use Rattle.mw_lane.proofs.Differences.{difference_block, wrapped_8}
use Rattle.mw_lane.proofs.lanes_8.differences.Goals as goal

pub returns : goal.returns
returns c = difference_block w8 (λ (x y : ℕ). (x + (256 - y)) % 256) 256 wrapped_8 c.args.a.now c.args.b.now c.requires.first c.requires.second refl c.type_inv.a c.type_inv.b
