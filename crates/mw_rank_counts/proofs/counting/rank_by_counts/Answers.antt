use Rattle.std.proofs.Common.{◌+◌, Option, subst}
use Rattle.std.specs.Prelude.{IfSome}
use Rattle.mw_model.specs.PlanSteps.{ranked}
use Rattle.mw_model.specs.Windows.{seen_at}
use Rattle.mw_rank.specs.Ranks.{levels_under, HasRows}
use Rattle.mw_rank.proofs.Rows.{is_rank, on_frame}
use Rattle.mw_rank_counts.proofs.counting.rank_by_counts.Goals as goal

pub returns-in-Some-clause-over_frame : goal.returns-in-Some-clause-over_frame
returns-in-Some-clause-over_frame g c = λ f window.
    let tile = c.args.tile in
    let rows : HasRows g.P.Pixel.level (λ x y. ranked c.args.k (levels_under g.P.Pixel.level (seen_at c.args.window.now) c.args.offsets.now (tile.x + x) (tile.y + y))) tile.width tile.height c.in-Some.samples.items =
    subst (λ (o : Option _). IfSome o (λ v. HasRows g.P.Pixel.level (λ x y. ranked c.args.k (levels_under g.P.Pixel.level (seen_at c.args.window.now) c.args.offsets.now (tile.x + x) (tile.y + y))) tile.width tile.height v.items)) c.in-Some.is c.in_ok-samples.ensures in
    on_frame g.P.Pixel.level c.args.k c.args.window.now f c.args.offsets.now tile c.new.result (is_rank g.P.Pixel.level c.args.k (seen_at c.args.window.now) c.args.offsets.now tile c.in-Some.samples.items c.new.result c.new.ensures rows) window
