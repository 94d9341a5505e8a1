use Rattle.std.proofs.Common.{ap, arith}
use Rattle.mw_model.specs.declared.offsets.Rect.{Rect}
use Rattle.mw_rank_rows.proofs.blocks.window_of.Goals as goal

pub overflow_add-place : goal.overflow_add-place
overflow_add-place g c = omega (arith, c.place-all.ensures.within.across, ap (λ (p : Rect). p.width) c.place-all.ensures.value, c.requires.across, c.frame_width-wide.ensures)

pub overflow_add-place-2 : goal.overflow_add-place-2
overflow_add-place-2 g c = omega (arith, c.place-all.ensures.within.down, ap (λ (p : Rect). p.height) c.place-all.ensures.value, c.requires.down, c.frame_height-high.ensures)
