use Rattle.std.proofs.Common.{ap, sym, subst, ◌∙◌, List}
use Rattle.std.specs.List.{AllByRecursion}
use Rattle.mw_model.specs.Plans.{is_sum}
use Rattle.mw_tile.specs.Windows.{SourceWindow}
use Rattle.mw_step_task.specs.Meanings.{meaning}
use Rattle.mw_step_task.specs.WindowTasks.{IsBounded}
use Rattle.mw_c_layers.proofs.Cutting.{tile_is}
use Rattle.mw_c_layers.proofs.strips.made_of.Goals as goal

pub into_image-requires : goal.into_image-requires
into_image-requires c = record {
  plane = ap is_sum c.in_ok-done.ensures.step ∙ c.requires.unsummed;
  bounded = subst (λ (ws : List SourceWindow). AllByRecursion IsBounded ws) (sym c.in_ok-done.ensures.windows) c.requires.bounded;
}

pub returns : goal.returns
returns c = c.into_image.ensures ∙ tile_is c.in_ok-done.done (meaning c.args.step) c.args.windows.items c.args.tile c.in_ok-done.ensures.step c.in_ok-done.ensures.place c.in_ok-done.ensures.windows
