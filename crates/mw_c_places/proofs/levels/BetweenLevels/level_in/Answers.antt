use Rattle.mw_c_arrays.proofs.SourceImages.{source_image}
use Rattle.mw_c_places.proofs.levels.BetweenLevels.level_in.Goals as goal

pub made_at-requires : goal.made_at-requires
made_at-requires c = record { sound = c.requires.sound; image = source_image c.args.self.now.f c.requires.sound; across = c.requires.across; down = c.requires.down }
