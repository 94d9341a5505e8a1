use Rattle.std.proofs.Common.{ℕ, ◌+◌, ◌∙◌, ap, arith}
use Rattle.mw_rank_rows.proofs.Steps.{column_whole}
use Rattle.mw_rank_rows.proofs.slide.enter.Goals as goal

pub returns-in-Some : goal.returns-in-Some
returns-in-Some g c = λ levels column u w shows t more few.
    let x = c.args.x in
    let at = c.in-Some.at in
    let here = c.in-Some.ensures in
    record {
      table = c.enter_column-lanes.ensures.counts levels u w t.table shows.under (λ v j lt. more v j lt ∙ ap (λ (n : ℕ). u v j + n) (shows.seen x at v j lt here.0 here.1)) few;
      lanes = c.plus-lanes.ensures.size;
      held = λ j lt.
          let whole = column_whole g.P.Pixel.level g.P.Pixel.TOP levels column c.args.strip c.args.all x at j lt here.0 here.1 shows in
          omega (arith, c.plus-lanes.ensures.lanes j lt (omega (arith, whole, more levels j lt, few j lt, t.held j lt)), whole, more levels j lt, t.held j lt);
    }
