use Rattle.std.proofs.Common.{Option, IfSome, ℕ, ◌*◌, replicate, ap, subst, ◌∙◌}
use Rattle.mw_model.specs.Rasters.{raster}
use Rattle.mw_model.specs.Windows.{seen_at}
use Rattle.mw_rank_bits.specs.Elements.{IsSetRank}
use Rattle.mw_step.proofs.SetRanks.{blank_ranks, ranks_of_pixels}
use Rattle.mw_step.proofs.ranks.rank_of_set.Goals as goal

pub returns-then-is_blank : goal.returns-then-is_blank
returns-then-is_blank c =
    let tile = c.args.tile in
    blank_ranks c.args.k c.args.set.now c.args.offsets.now tile c.in_ok-filled.field-0 (c.is_blank.ensures.only.0 c.if-is_blank.true)
    (c.in_ok-filled.ensures.value ∙ ap (λ (s : ℕ). raster tile.width tile.height (replicate (tile.height * tile.width) s)) c.new.ensures)

pub returns-in-Some : goal.returns-in-Some
returns-in-Some c =
    ranks_of_pixels c.args.k c.args.set.now c.args.offsets.now c.args.tile c.in-Some.ranks
    (subst (λ (o : Option _). IfSome o (IsSetRank c.args.k (seen_at c.args.set.now) c.args.offsets.now c.args.tile)) c.in-Some.is c.in_ok-ranks.ensures)
