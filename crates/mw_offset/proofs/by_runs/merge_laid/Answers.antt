use Rattle.std.proofs.Common.{◌≡◌, ℕ, ◌+◌, ◌-◌, ◌*◌, List, length, get_or, refl, ap, sym, ◌∙◌, arith}
use Rattle.std.proofs.lemmas.Result.{on_ok_weaker}
use Rattle.mw_model.proofs.mw_facts.Elements.{take-written, get_or-replicate_same}
use Rattle.mw_offset.proofs.Lists.{listed}
use Rattle.mw_offset.proofs.Rooms.{row_fits}
use Rattle.mw_offset.proofs.by_runs.merge_laid.Goals as goal

pub returns-then-wide-width : goal.returns-then-wide-width
returns-then-wide-width g c =
    let laid = c.args.laid in
    let wide = laid.wide in
    let width = laid.width in
    let count = (laid.height - 1) * wide + width in
    on_ok_weaker c.combine_runs.result
    (λ known. λ x y less row_less.
    let fits = row_fits y laid.height wide width count row_less (omega arith) in
    listed g.E.Extremum.merge c.args.neutral c.args.runs.now c.args.cells.now c.combine_runs.new.out laid.extent wide count x y (y * width + x) (omega (arith, fits)) (ap (λ (t : ℕ). y * t + x) (sym c.if-wide-width.true))
    (known c.args.neutral c.requires.blank))
    c.combine_runs.ensures

pub returns : goal.returns
returns g c = λ x y less row_less.
    let n = c.args.neutral in
    let laid = c.args.laid in
    let wide = laid.wide in
    let count = (laid.height - 1) * wide + laid.width in
    let place = y * wide + x in
    let fits = row_fits y laid.height wide laid.width count row_less (omega arith) in
    let items = c.in_ok-listed.listed.items in
    let made = c.combine_runs-2.new.out in
    let whole : length made ≡ c.in_ok-listed.listed.len = omega arith in
    c.pick_columns.ensures x y n less row_less
    ∙ ap (λ (t : List g.row.P.Denot). get_or t place n) (c.as_slice.ensures.value ∙ take-written items made c.in_ok-listed.listed.len whole)
    ∙ listed g.E.Extremum.merge n c.args.runs.now c.args.cells.now made laid.extent wide count x y place (omega (arith, fits)) refl
    (c.in_ok-combine_runs.ensures n
    (λ q. ap (λ (t : List g.row.P.Denot). get_or t q n) (c.as_mut_slice.ensures.value ∙ c.in_ok-listed.ensures) ∙ get_or-replicate_same count q n))
