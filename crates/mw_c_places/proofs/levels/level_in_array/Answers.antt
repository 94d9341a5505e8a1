use Rattle.std.proofs.Common.{ℕ, ◌+◌, ◌*◌, ap, ◌∙◌}
use Rattle.std.specs.Prelude.{slice_index}
use Rattle.mw_c_arrays.specs.Sources.{picture_in}
use Rattle.mw_c_places.proofs.PixelValues.{place_within}
use Rattle.mw_c_places.proofs.levels.level_in_array.Goals as goal

pub level-requires : goal.level-requires
level-requires c = place_within c.args.f c.args.x c.args.y c.width.result c.requires.sound c.width.ensures c.requires.across c.requires.down

pub returns : goal.returns
returns c = c.level.ensures ∙ ap (λ (w : ℕ). slice_index (picture_in c.args.f).samples (c.args.y * w + c.args.x)) c.width.ensures
