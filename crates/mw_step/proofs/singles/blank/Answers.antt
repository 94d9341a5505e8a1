use Rattle.mw_model.specs.declared.shapes.Kind.TheVariants as kind
use Rattle.mw_step.proofs.PlaceByPlace.{blank_held}
use Rattle.mw_step.proofs.singles.blank.Goals as goal

pub returns-in_ok-plane : goal.returns-in_ok-plane
returns-in_ok-plane c = c.made_bytes.ensures _ (blank_held kind.Grey c.args.maxval c.args.tile c.in_ok-plane.plane c.in_ok-plane.ensures.value)

pub returns-in_ok-plane-2 : goal.returns-in_ok-plane-2
returns-in_ok-plane-2 c = c.made_words.ensures _ (blank_held kind.Grey c.args.maxval c.args.tile c.in_ok-plane-2.plane c.in_ok-plane-2.ensures.value)
