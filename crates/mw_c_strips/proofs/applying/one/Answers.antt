use Rattle.std.proofs.Common.{◌∙◌}
use Rattle.mw_c_strips.proofs.Filtered.{fills}
use Rattle.mw_c_strips.proofs.applying.one.Goals as goal

pub write_all-requires : goal.write_all-requires
write_all-requires g c = record { sound = c.requires.sound; size = c.requires.room ∙ fills c.args.f c.requires.sound; stands = c.requires.stands }
