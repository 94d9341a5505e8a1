use Rattle.std.proofs.Common.{◌∙◌, ◌++◌, List, length, ap, sym, subst, append-nil, arith}
use Rattle.mw_pixel.specs.Images.{set_of}
use Rattle.mw_geodesic_runs.specs.declared.runs.Run.{Run}
use Rattle.mw_geodesic_runs.specs.Runs.{RunsBefore}
use Rattle.mw_geodesic_runs.proofs.Cuts.{begun_most}
use Rattle.mw_geodesic_runs.proofs.Found.{set_is}
use Rattle.mw_geodesic_runs.proofs.RowsOfAll.{cut_next, row_is}
use Rattle.mw_geodesic_runs.proofs.runs.runs_in_row.Goals as goal

pub cut_row-requires-clause-room : goal.cut_row-requires-clause-room
cut_row-requires-clause-room c =
    let p = c.args.set.now in
    let f = set_of p in
    let most = begun_most f c.args.y f.width (set_is p c.width-width.ensures.size c.width-width.ensures.small) c.requires.row (omega arith) in
    let room = c.requires.room in
    let none = c.clear.ensures.len in
    omega (arith, c.clear.ensures.capacity, ap (λ (t : List Run). length t) c.clear.ensures.items)

pub returns-clause-are : goal.returns-clause-are
returns-clause-are c =
    let f = set_of c.args.set.now in
    λ all n whole was. row_is f c.args.y n all c.cut_row.new.runs.items c.requires.row whole
    (λ runs before. c.cut_row.ensures.runs runs (subst (λ (t : List Run). RunsBefore f 0 c.args.y t) (sym (ap (λ (t : List Run). runs ++ t) c.clear.ensures.items ∙ append-nil runs)) before)) was

pub returns-clause-next : goal.returns-clause-next
returns-clause-next c =
    let f = set_of c.args.set.now in
    λ n was. cut_next f c.args.y n c.cut_row.new.runs.items
    (λ runs before. c.cut_row.ensures.runs runs (subst (λ (t : List Run). RunsBefore f 0 c.args.y t) (sym (ap (λ (t : List Run). runs ++ t) c.clear.ensures.items ∙ append-nil runs)) before)) was
