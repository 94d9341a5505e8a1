use Rattle.std.proofs.Common.{◌≡◌, ◌+◌, ◌-◌, ◌*◌, List, length, take, drop, get_or, refl, ap, arith, ◌∙◌, length-take, length-drop}
use Rattle.std.proofs.lemmas.List.{get_or-take, get_or-drop, get_or_default}
use Rattle.mw_line.proofs.Rows.{rows_more}
use Rattle.mw_offset.proofs.Rooms.{row_fits}
use Rattle.mw_offset.proofs.narrow.pick_columns.Goals as goal

pub loop-y-init : goal.loop-y-init
loop-y-init g c = λ d. record { size = c.requires.size; done = λ x j e less row_less. absurd (omega arith); rest = λ p e from. refl }

pub loop-y-preserved : goal.loop-y-preserved
loop-y-preserved g c = λ d.
    let list = c.args.list.now in
    let wide = c.args.wide in
    let width = c.args.width in
    let y = c.loop-y.y in
    let m = y * width + width - y * width in
    let k = y * wide + width - y * wide in
    let out = c.loop-y.out in
    let made = c.copy_from_slice.new.self in
    let row = take k (drop (y * wide) list) in
    let before = c.loop-y.invariant d in
    let fits = row_fits y c.args.height wide width (length list) c.loop-y-test.true c.requires.list in
    let whole : length row ≡ width = omega (arith, fits, length-take k (drop (y * wide) list), length-drop (y * wide) list) in
    let size : length made ≡ width = ap length c.copy_from_slice.ensures.after ∙ whole in
    rows_more (λ held x j. get_or list (j * wide + x) d) width c.args.height y m c.args.out.now out made c.loop-y-test.true (omega arith) size
    (λ x e less.
    get_or_default made x e d (omega arith)
    ∙ ap (λ (t : List g.row.P.Denot). get_or t x d) c.copy_from_slice.ensures.after
    ∙ get_or-take k (drop (y * wide) list) x d (omega arith)
    ∙ get_or-drop (y * wide) list x d)
    before

pub returns : goal.returns
returns g c = λ x y d less row_less. (c.loop-y.invariant d).done x y d less (omega arith)
