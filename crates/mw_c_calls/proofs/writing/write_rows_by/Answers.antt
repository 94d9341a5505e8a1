use Rattle.std.proofs.Common.{ℕ, sym, subst, ◌∙◌}
use Rattle.mw_plan.specs.Steps.{last_plane}
use Rattle.mw_c_arrays.specs.Arrays.{element_in}
use Rattle.mw_c_arrays.specs.Sources.{picture_in}
use Rattle.mw_c_calls.proofs.Planned.{maxval_is}
use Rattle.mw_c_calls.proofs.writing.write_rows_by.Goals as goal

pub write_plan_rows-requires : goal.write_plan_rows-requires
write_plan_rows-requires g c =
    let f = picture_in c.args.f in
    record {
      sound = c.requires.sound;
      alone = c.in-Ok.ensures.rows ∙ c.requires.alone;
      rows = c.requires.rows;
      stands = subst (λ (m : ℕ). g.P.Sample.stands m) (sym (maxval_is c.args.op.now (element_in c.args.b.now) f (last_plane c.in-Ok.plan f) c.requires.one c.in-Ok.ensures.plan)) c.requires.stands;
    }
