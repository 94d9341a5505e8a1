use Rattle.std.proofs.Common.{ℕ, ◌+◌, ◌∙◌, ap, arith}
use Rattle.mw_rank_rows.proofs.Steps.{column_whole, holds_same}
use Rattle.mw_rank_rows.proofs.slide.leave.Goals as goal

pub returns-in-Some : goal.returns-in-Some
returns-in-Some g c = λ levels column u w shows t more up.
    let x = c.args.x in
    let at = c.in-Some.at in
    let here = c.in-Some.ensures in
    record {
      table = c.leave_column-lanes.ensures.counts levels u w t.table shows.under (λ v j lt. more v j lt ∙ ap (λ (n : ℕ). w v j + n) (shows.seen x at v j lt here.0 here.1)) up;
      lanes = c.minus-lanes.ensures.size;
      held = λ j lt.
          let whole = column_whole g.P.Pixel.level g.P.Pixel.TOP levels column c.args.strip c.args.all x at j lt here.0 here.1 shows in
          omega (arith, c.minus-lanes.ensures.lanes j lt (omega (arith, whole, more levels j lt, t.held j lt)) (omega (arith, t.held j lt, t.table.few j lt)), whole, more levels j lt, t.held j lt);
    }

pub returns-in_default : goal.returns-in_default
returns-in_default g c = λ levels column u w shows t more up.
    holds_same levels u w c.args.counts.now c.args.lanes.now (λ v j lt. omega (arith, more v j lt, shows.unseen c.args.x v j lt c.in_default.ensures)) t
