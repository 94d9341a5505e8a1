use Rattle.std.proofs.Common.{◌≡◌, ◌+◌, List, length, refl, arith}
use Rattle.mw_pixel.specs.Images.{set_of}
use Rattle.mw_geodesic.specs.Neighbours.{neighbours_of}
use Rattle.mw_geodesic_runs.specs.declared.runs.Run.{Run}
use Rattle.mw_geodesic_runs.specs.Runs.{RunsBefore}
use Rattle.mw_geodesic_kept.specs.Keeping.{IsAtEdge, AreMarked, IsKeptPart}
use Rattle.mw_geodesic_kept.proofs.Results.{spans_found, lie_held, of_lie, border_by}
use Rattle.mw_geodesic_kept.proofs.border.by_border.Goals as goal

pub marks_at_edge-requires : goal.marks_at_edge-requires
marks_at_edge-requires c =
    let e = neighbours_of c.args.neighbours in
    let p = c.args.set.now in
    let found = c.in_ok-found.found in
    let spans = c.as_slice-spans.result.now in
    let starts = c.as_slice-starts.result.now in
    let numbers = c.as_slice-numbers.result.now in
    let are = spans_found e p c.words.result.now found.spans.items spans found.starts.items starts found.numbers.items numbers found.count c.in_ok-found.ensures c.words.ensures.value c.as_slice-spans.ensures.value c.as_slice-starts.ensures.value c.as_slice-numbers.ensures.value in
    lie_held e (set_of p) spans starts numbers found.count c.width.result c.height.result (found.count + 1) are c.width.ensures.value c.height.ensures.value (omega arith)

pub kept-requires : goal.kept-requires
kept-requires c =
    let e = neighbours_of c.args.neighbours in
    let p = c.args.set.now in
    let found = c.in_ok-found.found in
    let spans = c.as_slice-spans.result.now in
    let starts = c.as_slice-starts.result.now in
    let numbers = c.as_slice-numbers.result.now in
    let are = spans_found e p c.words.result.now found.spans.items spans found.starts.items starts found.numbers.items numbers found.count c.in_ok-found.ensures c.words.ensures.value c.as_slice-spans.ensures.value c.as_slice-starts.ensures.value c.as_slice-numbers.ensures.value in
    let size : length c.deref.result.now ≡ found.count + 1 = omega (arith, c.deref.ensures.len, c.in_ok-marks.ensures.size) in
    lie_held e (set_of p) spans starts numbers found.count p.width p.height (length c.deref.result.now) are refl refl (omega arith)

pub returns : goal.returns
returns c =
    let e = neighbours_of c.args.neighbours in
    let p = c.args.set.now in
    let found = c.in_ok-found.found in
    let spans = c.as_slice-spans.result.now in
    let starts = c.as_slice-starts.result.now in
    let numbers = c.as_slice-numbers.result.now in
    let are = spans_found e p c.words.result.now found.spans.items spans found.starts.items starts found.numbers.items numbers found.count c.in_ok-found.ensures c.words.ensures.value c.as_slice-spans.ensures.value c.as_slice-starts.ensures.value c.as_slice-numbers.ensures.value in
    let w = c.width.result in
    let h = c.height.result in
    let marks = c.in_ok-marks.marks.items in
    let marks' = c.deref.result.now in
    let made = set_of c.in_ok-part.part in
    let size : length marks' ≡ found.count + 1 = omega (arith, c.deref.ensures.len, c.in_ok-marks.ensures.size) in
    let runs = are.some.runs in
    let marked : AreMarked (IsAtEdge w h) runs numbers (length runs) marks =
    of_lie (λ (t : List Run). AreMarked (IsAtEdge w h) t numbers (length t) marks) e (set_of p) spans starts numbers found.count w h (found.count + 1) are c.width.ensures.value c.height.ensures.value (omega arith) c.in_ok-marks.ensures.marked in
    let part : RunsBefore (set_of p) 0 p.height runs → IsKeptPart (set_of p) runs numbers marks' c.args.touching made =
    of_lie (λ (t : List Run). RunsBefore (set_of p) 0 p.height t → IsKeptPart (set_of p) t numbers marks' c.args.touching made) e (set_of p) spans starts numbers found.count p.width p.height (length marks') are refl refl (omega arith) c.in_ok-part.ensures in
    border_by e (set_of p) made runs numbers marks marks' c.args.touching found.count w h (are.each runs are.some.cut) c.width.ensures.value c.height.ensures.value
    c.deref.ensures.value marked (part are.some.cut)
