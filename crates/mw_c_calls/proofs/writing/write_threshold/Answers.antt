use Rattle.std.proofs.Common.{◌≤◌, arith, sym, subst}
use Rattle.mw_model.specs.Pictures.{Picture}
use Rattle.mw_c_calls.proofs.writing.write_threshold.Goals as goal

pub write_plan-requires : goal.write_plan-requires
write_plan-requires c = record { sound = c.requires.sound; strips = c.in_ok-plan.ensures.strips; room = c.requires.room; stands = subst (λ (p : Picture). p.maxval ≤ 255) (sym c.in_ok-plan.ensures.plan) (omega arith) }
