use Rattle.std.proofs.Common.{◌≡◌, ◌+◌, ◌<◌, ◌∙◌, ℕ, List, length, ap, sym, subst, arith}
use Rattle.mw_pixel.specs.Images.{set_of}
use Rattle.mw_geodesic_runs.specs.declared.runs.Run.{Run}
use Rattle.mw_geodesic_runs.specs.Rows.{AreCutAbove, AreRowRunsFrom}
use Rattle.mw_geodesic_runs.proofs.Found.{set_is}
use Rattle.mw_geodesic_runs.proofs.UnitedRows.{held_next, next_row, above_ended, cut_most, runs_most}
use Rattle.mw_geodesic_runs.proofs.spans.unite_set.Goals as goal

pub unite_rows-requires-clause-few : goal.unite_rows-requires-clause-few
unite_rows-requires-clause-few c =
    let most = runs_most (set_of c.args.set.now) (set_is c.args.set.now c.width-width.ensures.size c.width-width.ensures.small) in
    let size = c.requires.size in
    let few = c.requires.few in
    omega (arith, c.loop-y.auto.parent)

pub unite_rows-requires-clause-within : goal.unite_rows-requires-clause-within
unite_rows-requires-clause-within c =
    let f = set_of c.args.set.now in
    let y = c.loop-y.y in
    let known = c.loop-y.invariant in
    let many = known.many in
    let high : y < f.height = omega (arith, c.height-y-end.ensures) in
    let before : AreCutAbove f y (length c.loop-y.spans.items) = subst (λ (t : ℕ). AreCutAbove f y t) known.held.size (known.held.cut y (omega arith)) in
    let most = cut_most f (y + 1) (length c.loop-y.spans.items + length c.runs_in_row.new.runs.items) (omega arith) (c.runs_in_row.ensures.next (length c.loop-y.spans.items) before) in
    let size = c.requires.size in
    let upper = ap (λ (t : List Run). length t) c.deref.ensures.value in
    let lower = ap (λ (t : List Run). length t) c.deref-in-loop-y.ensures.value in
    omega (arith, c.loop-y.auto.parent)

pub keep_row-requires : goal.keep_row-requires
keep_row-requires c =
    let f = set_of c.args.set.now in
    let y = c.loop-y.y in
    let known = c.loop-y.invariant in
    let room = known.spans_room in
    let high : y < f.height = omega (arith, c.height-y-end.ensures) in
    let before : AreCutAbove f y (length c.loop-y.spans.items) = subst (λ (t : ℕ). AreCutAbove f y t) known.held.size (known.held.cut y (omega arith)) in
    let most = cut_most f (y + 1) (length c.loop-y.spans.items + length c.runs_in_row.new.runs.items) (omega arith) (c.runs_in_row.ensures.next (length c.loop-y.spans.items) before) in
    let lower = ap (λ (t : List Run). length t) c.deref-in-loop-y-2.ensures.value in
    record { room = omega arith }

pub overflow_cast-len : goal.overflow_cast-len
overflow_cast-len c =
    let f = set_of c.args.set.now in
    let y = c.loop-y.y in
    let known = c.loop-y.invariant in
    let high : y < f.height = omega (arith, c.height-y-end.ensures) in
    let before : AreCutAbove f y (length c.loop-y.spans.items) = subst (λ (t : ℕ). AreCutAbove f y t) known.held.size (known.held.cut y (omega arith)) in
    let most = cut_most f (y + 1) (length c.loop-y.spans.items + length c.runs_in_row.new.runs.items) (omega arith) (c.runs_in_row.ensures.next (length c.loop-y.spans.items) before) in
    let lower = ap (λ (t : List Run). length t) c.deref-in-loop-y-2.ensures.value in
    let size = c.keep_row.ensures.kept.size in
    let all = runs_most f (set_is c.args.set.now c.width-width.ensures.size c.width-width.ensures.small) in
    let few = c.requires.few in
    omega (arith, c.len.ensures, c.keep_row.new.spans.ok.0)

pub loop-y-preserved : goal.loop-y-preserved
loop-y-preserved c =
    let f = set_of c.args.set.now in
    let y = c.loop-y.y in
    let known = c.loop-y.invariant in
    let many = known.many in
    let n = length c.loop-y.spans.items in
    let lower = c.runs_in_row.new.runs.items in
    let high : y < f.height = omega (arith, c.height-y-end.ensures) in
    let before : AreCutAbove f y n = subst (λ (t : ℕ). AreCutAbove f y t) known.held.size (known.held.cut y (omega arith)) in
    let next : AreCutAbove f (y + 1) (n + length lower) = c.runs_in_row.ensures.next n before in
    let row = c.deref-in-loop-y-2.result.now in
    let row_is : row ≡ lower = c.deref-in-loop-y-2.ensures.value in
    let size = c.keep_row.ensures.kept.size in
    let row_size = ap (λ (t : List Run). length t) row_is in
    let above : c.loop-y.above + c.len-above.result ≡ c.loop-y.above + length c.loop-y.upper.items = omega (arith, c.len-above.ensures, c.loop-y.upper.ok.0) in
    record {
      spans_room = c.keep_row.ensures.room ∙ known.spans_room;
      starts_room = let room = known.starts_room in omega (arith, c.push_reserved-in-loop-y.ensures.capacity);
      upper_room = rw c.swap.ensures.x_after (omega (arith, c.runs_in_row.ensures.room, known.lower_room));
      lower_room = rw c.swap.ensures.y_after known.upper_room;
      forest = c.unite_rows.ensures.forest;
      many = rw c.swap.ensures.x_after (omega arith);
      held = held_next f y c.len.result row c.loop-y.spans.items c.keep_row.new.spans.items c.loop-y.starts.items c.push_reserved-in-loop-y.new.self.items c.keep_row.ensures.kept c.push_reserved-in-loop-y.ensures.items (omega (arith, c.len.ensures, c.keep_row.new.spans.ok.0))
          (subst (λ (t : List Run). AreCutAbove f (y + 1) (n + length t)) (sym row_is) next)
          (λ runs cut. subst (λ (t : List Run). AreRowRunsFrom runs n t) (sym row_is) (c.runs_in_row.ensures.are runs n cut before)) known.held;
      rows = λ runs cut. rw c.swap.ensures.x_after
          (next_row f c.args.reach y c.loop-y.above n (c.loop-y.above + c.len-above.result) c.loop-y.upper.items c.deref.result.now lower c.deref-in-loop-y.result.now c.loop-y.parent c.unite_rows.new.parent high many above c.deref.ensures.value
          c.deref-in-loop-y.ensures.value before next (λ all whole. c.runs_in_row.ensures.are all n whole before) c.unite_rows.ensures.united runs cut (known.rows runs cut));
    }

pub returns-clause-united : goal.returns-clause-united
returns-clause-united c =
    let f = set_of c.args.set.now in
    let y = c.loop-y.y in
    let known = c.loop-y.invariant in
    let many = known.many in
    let end : y ≡ f.height = omega (arith, c.height-y-end.ensures) in
    let before : AreCutAbove f y (c.loop-y.above + length c.loop-y.upper.items) = subst (λ (t : ℕ). AreCutAbove f y t) (known.held.size ∙ many) (known.held.cut y (omega arith)) in
    λ runs cut. above_ended f c.args.reach runs y c.loop-y.above c.loop-y.upper.items c.loop-y.parent end cut before (known.rows runs cut)
