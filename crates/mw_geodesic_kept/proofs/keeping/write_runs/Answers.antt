use Rattle.std.proofs.Common.{◌≡◌, ◌+◌, ◌<◌, ◌≤◌, ◌∙◌, ℕ, length, get_or, refl, ap, sym, subst, arith}
use Rattle.mw_model.specs.Rasters.{Raster}
use Rattle.mw_pixel.specs.Images.{set_of}
use Rattle.mw_geodesic_runs.specs.declared.runs.Run.{Run}
use Rattle.mw_geodesic_runs.specs.Rows.{span_numbered}
use Rattle.mw_geodesic_labels.specs.Painting.{run_of}
use Rattle.mw_geodesic_kept.specs.Keeping.{mark_of, RunsWritten}
use Rattle.mw_geodesic_kept.proofs.Writing.{same_mark, other_mark, written_none, run_put_by, written_next, written_past}
use Rattle.mw_geodesic_kept.proofs.keeping.write_runs.Goals as goal
use Rattle.mw_geodesic_kept.proofs.keeping.write_runs.Goals.{then-mark-wanted, else-mark-wanted}

pub loop-y-init : goal.loop-y-init
loop-y-init c = λ held.
    subst (λ (t : ℕ). RunsWritten (set_of c.args.set.now) held.runs c.args.numbers.now c.args.marks.now c.args.wanted t (set_of c.args.out.now) (set_of c.args.out.now)) (sym held.begins)
    (written_none (set_of c.args.set.now) (set_of c.args.out.now) held.runs c.args.numbers.now c.args.marks.now c.args.wanted c.width-out.ensures.size)

pub loop-k-init : goal.loop-k-init
loop-k-init c = c.loop-y.invariant

pub loop-k-preserved : goal.loop-k-preserved
loop-k-preserved c = λ held.
    let set = c.args.set.now in
    let old = c.args.out.now in
    let now = c.loop-k.out in
    let numbers = c.args.numbers.now in
    let marks = c.args.marks.now in
    let k = c.loop-k.k in
    let y = c.loop-y.y in
    let from : get_or c.args.starts.now y 0 ≤ k = omega (arith, c.loop-k.auto.k) in
    let is = held.is y k (omega arith) from (omega arith) in
    let inside = held.within (y + 1) (omega arith) in
    let lie = held.known in
    let r = run_of y (span_numbered c.args.spans.now k) in
    let some = subst (λ (t : Run). t.first < t.end) is (lie.some k (omega arith)) in
    let across = subst (λ (t : Run). t.end ≤ set.width) is (lie.across k (omega arith)) in
    let down = subst (λ (t : Run). t.row < set.height) is (lie.down k (omega arith)) in
    let was = c.loop-k.invariant held in
    let wide = was.shape.width in
    let tall = was.shape.height in
    elim c.if-mark-wanted.branch [
      | then-mark-wanted w ↦
          written_next set old now c.if-mark-wanted.out held.runs numbers marks c.args.wanted k (k + 1) r refl is (λ j less. omega (arith, lie.across j (omega arith))) (same_mark (mark_of marks (get_or numbers k 0)) c.args.wanted w.if-mark-wanted.true)
          (run_put_by set now c.if-mark-wanted.out r w.from-first.result w.from.result w.from-first.ensures w.from.ensures (w.out-is ∙ w.copy_run.ensures) (c.requires.width ∙ sym was.shape.width) (c.requires.height ∙ sym was.shape.height) c.width-set.ensures.size was.size some (omega arith) (omega arith)) was
      | else-mark-wanted w ↦
          subst (λ (t : Raster ℕ). RunsWritten (set_of set) held.runs numbers marks c.args.wanted (k + 1) (set_of old) (set_of t)) (sym w.out-is)
          (written_past (set_of set) (set_of old) (set_of now) held.runs numbers marks c.args.wanted k (other_mark (mark_of marks (get_or numbers k 0)) c.args.wanted w.if-mark-wanted.false) was)
    ]

pub overflow_sub-from : goal.overflow_sub-from
overflow_sub-from c =
    let held = c.requires.lie in
    let y = c.loop-y.y in
    let k = c.loop-k.k in
    let s = span_numbered c.args.spans.now k in
    let from : get_or c.args.starts.now y 0 ≤ k = omega (arith, c.loop-k.auto.k) in
    let is = held.is y k (omega arith) from (omega arith) in
    let inside = held.within (y + 1) (omega arith) in
    let some : s.first < s.end = subst (λ (t : Run). t.first < t.end) is (held.known.some k (omega arith)) in
    let across : s.end ≤ c.args.set.now.width = subst (λ (t : Run). t.end ≤ c.args.set.now.width) is (held.known.across k (omega arith)) in
    let first_is : c.from-first.result ≡ s.first = c.from-first.ensures in
    let end_is : c.from.result ≡ s.end = c.from.ensures in
    omega arith

pub copy_run-requires-clause-across : goal.copy_run-requires-clause-across
copy_run-requires-clause-across c =
    let held = c.requires.lie in
    let y = c.loop-y.y in
    let k = c.loop-k.k in
    let s = span_numbered c.args.spans.now k in
    let from : get_or c.args.starts.now y 0 ≤ k = omega (arith, c.loop-k.auto.k) in
    let is = held.is y k (omega arith) from (omega arith) in
    let inside = held.within (y + 1) (omega arith) in
    let some : s.first < s.end = subst (λ (t : Run). t.first < t.end) is (held.known.some k (omega arith)) in
    let across : s.end ≤ c.args.set.now.width = subst (λ (t : Run). t.end ≤ c.args.set.now.width) is (held.known.across k (omega arith)) in
    let first_is : c.from-first.result ≡ s.first = c.from-first.ensures in
    let end_is : c.from.result ≡ s.end = c.from.ensures in
    let was = c.loop-k.invariant held in
    let wide = was.shape.width in
    let tall = was.shape.height in
    let width = c.requires.width in
    let height = c.requires.height in
    omega arith

pub copy_run-requires-clause-down : goal.copy_run-requires-clause-down
copy_run-requires-clause-down c =
    let was = c.loop-k.invariant c.requires.lie in
    let tall = was.shape.height in
    let height = c.requires.height in
    omega arith

pub copy_run-requires-clause-across_other : goal.copy_run-requires-clause-across_other
copy_run-requires-clause-across_other c =
    let held = c.requires.lie in
    let y = c.loop-y.y in
    let k = c.loop-k.k in
    let s = span_numbered c.args.spans.now k in
    let from : get_or c.args.starts.now y 0 ≤ k = omega (arith, c.loop-k.auto.k) in
    let is = held.is y k (omega arith) from (omega arith) in
    let inside = held.within (y + 1) (omega arith) in
    let some : s.first < s.end = subst (λ (t : Run). t.first < t.end) is (held.known.some k (omega arith)) in
    let across : s.end ≤ c.args.set.now.width = subst (λ (t : Run). t.end ≤ c.args.set.now.width) is (held.known.across k (omega arith)) in
    let first_is : c.from-first.result ≡ s.first = c.from-first.ensures in
    let end_is : c.from.result ≡ s.end = c.from.ensures in
    omega arith

pub loop-y-preserved : goal.loop-y-preserved
loop-y-preserved c = λ held.
    let rises = held.rises c.loop-y.y (omega arith) in
    let end : c.loop-k.k ≡ get_or c.args.starts.now (c.loop-y.y + 1) 0 = omega (arith, c.loop-k.auto.k-end rises) in
    subst (λ (t : ℕ). RunsWritten (set_of c.args.set.now) held.runs c.args.numbers.now c.args.marks.now c.args.wanted t (set_of c.args.out.now) (set_of c.loop-k.out)) end (c.loop-k.invariant held)

pub returns : goal.returns
returns c = λ held.
    let end : c.loop-y.y ≡ c.args.set.now.height = omega arith in
    let all : get_or c.args.starts.now c.loop-y.y 0 ≡ length held.runs = ap (λ (t : ℕ). get_or c.args.starts.now t 0) end ∙ held.ends in
    subst (λ (t : ℕ). RunsWritten (set_of c.args.set.now) held.runs c.args.numbers.now c.args.marks.now c.args.wanted t (set_of c.args.out.now) (set_of c.loop-y.out)) all (c.loop-y.invariant held)
