use Rattle.std.proofs.Common.{◌≡◌, ◌∙◌, ℕ, ap, sym}
use Rattle.mw_c_arrays.specs.Sources.{array_sample_count, picture_in}
use Rattle.mw_c_strips.specs.Rows.{are_rows}
use Rattle.mw_c_strips.proofs.SomeRows.{rows_there}
use Rattle.mw_c_strips.proofs.room.are_rows.Goals as goal

pub returns-clause-rows : goal.returns-clause-rows
returns-clause-rows c =
    let first = c.args.first in
    let room = c.args.room in
    let w = (picture_in c.args.f).width in
    let is : c.are_rows_of.result ≡ are_rows first room w (array_sample_count c.args.f) = c.are_rows_of.ensures ∙ ap (λ (n : ℕ). are_rows first room n c.count.result) c.width.ensures ∙ ap (λ (n : ℕ). are_rows first room w n) c.count.ensures in
    λ given yes. rows_there c.args.f first room given (sym is ∙ yes)
