use Rattle.std.proofs.Common.{◌≡◌, ◌+◌, ◌<◌, ◌≤◌, ◌∙◌, ℕ, length, get_or, refl, ap, sym, subst, arith}
use Rattle.mw_pixel.specs.Images.{set_of}
use Rattle.mw_geodesic_kept.specs.Keeping.{HasPixelOf, AreMarked}
use Rattle.mw_geodesic_runs.specs.declared.runs.Run.{Run}
use Rattle.mw_geodesic_kept.proofs.Marking.{marked_none, marked_next, as_many_marks}
use Rattle.mw_geodesic_kept.proofs.marks.marks_met.Goals as goal

pub loop-y-init : goal.loop-y-init
loop-y-init c = record {
  size = omega (arith, c.in_ok-marks.ensures.size, c.in_ok-marks.marks.ok.0);
  marked = λ held.
      subst (λ (t : ℕ). AreMarked (HasPixelOf (set_of c.args.marker.now)) held.runs c.args.numbers.now t c.in_ok-marks.marks.items) (sym held.begins)
      (marked_none (HasPixelOf (set_of c.args.marker.now)) held.runs c.args.numbers.now c.in_ok-marks.marks.items c.in_ok-marks.ensures.none);
}

pub loop-k-init : goal.loop-k-init
loop-k-init c = record { size = c.loop-y.invariant.size; marked = c.loop-y.invariant.marked }

pub mark-requires : goal.mark-requires
mark-requires c =
    let held = c.requires in
    let within = held.within (c.loop-y.y + 1) (omega arith) in
    let bounded = held.known.bounded c.loop-k.k (omega arith) in
    let size = c.loop-k.invariant.size in
    omega arith

pub meets-requires-clause-some : goal.meets-requires-clause-some
meets-requires-clause-some c =
    let held = c.requires in
    let k = c.loop-k.k in
    let from : get_or c.args.starts.now c.loop-y.y 0 ≤ k = omega (arith, c.loop-k.auto.k) in
    let is = held.is c.loop-y.y k (omega arith) from (omega arith) in
    let within = held.within (c.loop-y.y + 1) (omega arith) in
    subst (λ (t : Run). t.first < t.end) is (held.known.some k (omega arith))

pub meets-requires-clause-across : goal.meets-requires-clause-across
meets-requires-clause-across c =
    let held = c.requires in
    let k = c.loop-k.k in
    let from : get_or c.args.starts.now c.loop-y.y 0 ≤ k = omega (arith, c.loop-k.auto.k) in
    let is = held.is c.loop-y.y k (omega arith) from (omega arith) in
    let within = held.within (c.loop-y.y + 1) (omega arith) in
    subst (λ (t : Run). t.end ≤ c.args.marker.now.width) is (held.known.across k (omega arith))

pub meets-requires-clause-down : goal.meets-requires-clause-down
meets-requires-clause-down c =
    let held = c.requires in
    let k = c.loop-k.k in
    let from : get_or c.args.starts.now c.loop-y.y 0 ≤ k = omega (arith, c.loop-k.auto.k) in
    let is = held.is c.loop-y.y k (omega arith) from (omega arith) in
    let within = held.within (c.loop-y.y + 1) (omega arith) in
    subst (λ (t : Run). t.row < c.args.marker.now.height) is (held.known.down k (omega arith))

pub loop-k-preserved : goal.loop-k-preserved
loop-k-preserved c =
    let k = c.loop-k.k in
    record {
      size = as_many_marks c.loop-k.marks.items c.mark.new.marks.items _ _ c.mark.ensures ∙ c.loop-k.invariant.size;
      marked = λ held.
          let from : get_or c.args.starts.now c.loop-y.y 0 ≤ k = omega (arith, c.loop-k.auto.k) in
          let is = held.is c.loop-y.y k (omega arith) from (omega arith) in
          let within = held.within (c.loop-y.y + 1) (omega arith) in
          let bounded = held.known.bounded k (omega arith) in
          let size = c.loop-k.invariant.size in
          marked_next (HasPixelOf (set_of c.args.marker.now)) held.runs c.args.numbers.now c.loop-k.marks.items c.mark.new.marks.items k _ (get_or c.args.numbers.now k 0) _ _ is refl refl (omega arith) c.meets.ensures.yes c.meets.ensures.no c.mark.ensures (c.loop-k.invariant.marked held);
    }

pub loop-y-preserved : goal.loop-y-preserved
loop-y-preserved c = record {
  size = c.loop-k.invariant.size;
  marked = λ held.
      let rises = held.rises c.loop-y.y (omega arith) in
      let end : c.loop-k.k ≡ get_or c.args.starts.now (c.loop-y.y + 1) 0 = omega (arith, c.loop-k.auto.k-end rises) in
      subst (λ (t : ℕ). AreMarked (HasPixelOf (set_of c.args.marker.now)) held.runs c.args.numbers.now t c.loop-k.marks.items) end (c.loop-k.invariant.marked held);
}

pub returns-clause-marked : goal.returns-clause-marked
returns-clause-marked c = λ held.
    let end : c.loop-y.y ≡ c.args.marker.now.height = omega arith in
    let all : get_or c.args.starts.now c.loop-y.y 0 ≡ length held.runs = ap (λ (t : ℕ). get_or c.args.starts.now t 0) end ∙ held.ends in
    subst (λ (t : ℕ). AreMarked (HasPixelOf (set_of c.args.marker.now)) held.runs c.args.numbers.now t c.loop-y.marks.items) all (c.loop-y.invariant.marked held)
