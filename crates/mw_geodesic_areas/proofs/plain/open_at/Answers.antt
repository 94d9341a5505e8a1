use Rattle.std.proofs.Common.{◌≡◌, ◌<◌, ◌∙◌, ℕ, List, ap, length, subst}
use Rattle.std.specs.Prelude.{slice_index}
use Rattle.mw_model.specs.Flat.{threshold}
use Rattle.mw_geodesic_areas.proofs.PlainOpenings.{level_absent, level_given}
use Rattle.mw_geodesic_areas.proofs.plain.open_at.Goals as goal

pub returns-then-not-occurs : goal.returns-then-not-occurs
returns-then-not-occurs c =
    level_absent c.args.around.now c.args.least c.args.image.now c.args.level c.args.levels.now c.samples.ensures.small.picture c.requires.some c.requires.low
    (subst (λ (t : List ℕ). (i : ℕ) → i < length t → slice_index t i ≡ c.args.level → ⊥) c.samples.ensures.is (c.occurs.ensures c.if-not-occurs.true))
    c.requires.above

pub returns : goal.returns
returns c =
    level_given c.args.around.now c.args.least c.args.image.now c.in_ok-set.set c.in_ok-large.large c.args.level c.samples-2.result.now c.args.levels.now c.give.new.levels c.requires.some c.requires.low
    (c.in_ok-set.ensures ∙ ap (λ (k : ℕ). threshold k c.args.image.now) c.from.ensures) c.in_ok-large.ensures c.samples-2.ensures.is c.give.ensures.size c.give.ensures.each c.requires.above
