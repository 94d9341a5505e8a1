-- Work of which one more task is started.
use Rattle.std.proofs.Common.{◌≡◌, ℕ, ◌<◌, Bool, true, false, not, List, length, set, refl, sym, ap, ◌∙◌, inl, inr}
use Rattle.std.proofs.lemmas.Bool.{cases_eq, and_parts}
use Rattle.std.proofs.lemmas.List.{length-set, get_or-set_other}
use Rattle.mw_model.specs.Plans.{Plan}
use Rattle.mw_model.specs.Tasks.{flag, is_ready}
use Rattle.mw_grid.specs.Grids.{Tiling}
use Rattle.mw_core_planes.specs.mw_tile_planes.Tiles.{Tiled}
use Rattle.mw_core_planes.specs.Levels.{Level}
use Rattle.mw_core_progress.specs.ProgressView.{IsWhole, has_all_read}
use Rattle.mw_core_progress.specs.Parts.{underway}
use Rattle.mw_core_progress.proofs.Flags.{flag-set}

pub started_whole : (plan : Plan) (input : Level) (g : Tiling) (started finished : List Bool) (planes : List Tiled) (order now : List ℕ) (n : ℕ) → IsWhole (underway plan input g started finished planes order)
    → n < length started → is_ready (underway plan input g started finished planes order).progress n ≡ true → IsWhole (underway plan input g (set started n true) finished planes now)
started_whole plan input g started finished planes order now n whole lt ready =
    let old = (underway plan input g started finished planes order).progress in
    let new = (underway plan input g (set started n true) finished planes now).progress in
    let read : has_all_read old n ≡ true = (and_parts (not (flag started n)) (has_all_read old n) ready).1 in
    record {
      workable = whole.workable;
      tiling = whole.tiling;
      width = refl;
      height = refl;
      tiles = refl;
      started = length-set started n true ∙ whole.started;
      finished = whole.finished;
      begun = λ k e. flag-set started n k (whole.begun k e);
      calm = λ k k-lt e. elim (cases_eq k n) [
        | inl here ↦ ap (has_all_read old) here ∙ read
        | inr other ↦ whole.calm k k-lt (sym (get_or-set_other started n k true false other) ∙ e)
      ];
      planes = whole.planes;
      levels = whole.levels;
      tilings = whole.tilings;
      counts = whole.counts;
      placed = refl;
      needed = whole.needed;
    }
