use Rattle.std.proofs.Common.{◌≡◌, ◌+◌, ◌≤◌, ◌∙◌, ℕ, length, get_or, ap, sym, subst, arith}
use Rattle.mw_geodesic_labels.specs.Gathering.{AreRowsGathered}
use Rattle.mw_geodesic_labels.proofs.RowsWritten.{rows_none, can_add_row, row_gathered}
use Rattle.mw_geodesic_labels.proofs.regions.gather_rows.Goals as goal

pub loop-y-init : goal.loop-y-init
loop-y-init c = λ held. subst (λ (t : ℕ). AreRowsGathered held.runs c.args.numbers.now t c.args.out.now 0 c.args.out.now) (sym held.begins) (rows_none held.runs c.args.numbers.now c.args.out.now)

pub loop-k-init : goal.loop-k-init
loop-k-init c = c.loop-y.invariant

pub add_run-count-requires : goal.add_run-count-requires
add_run-count-requires c =
    let held = c.requires in
    let k = c.loop-k.k in
    let from : get_or c.args.starts.now c.loop-y.y 0 ≤ k = omega (arith, c.loop-k.auto.k) in
    let is = held.is c.loop-y.y k (omega arith) from (omega arith) in
    let within = held.within (c.loop-y.y + 1) (omega arith) in
    can_add_row held.runs c.args.numbers.now k _ c.args.out.now c.loop-k.count c.loop-k.out (sym is) (omega arith) held.known (c.loop-k.invariant held)

pub loop-k-preserved : goal.loop-k-preserved
loop-k-preserved c = λ held.
    let k = c.loop-k.k in
    let from : get_or c.args.starts.now c.loop-y.y 0 ≤ k = omega (arith, c.loop-k.auto.k) in
    let is = held.is c.loop-y.y k (omega arith) from (omega arith) in
    let within = held.within (c.loop-y.y + 1) (omega arith) in
    row_gathered held.runs c.args.numbers.now k _ c.args.out.now c.loop-k.count _ c.loop-k.out c.add_run-count.new.out (sym is) (omega arith) held.known c.add_run-count.ensures (c.loop-k.invariant held)

pub loop-y-preserved : goal.loop-y-preserved
loop-y-preserved c = λ held.
    let rises = held.rises c.loop-y.y (omega arith) in
    let end : c.loop-k.k ≡ get_or c.args.starts.now (c.loop-y.y + 1) 0 = omega (arith, c.loop-k.auto.k-end rises) in
    subst (λ (t : ℕ). AreRowsGathered held.runs c.args.numbers.now t c.args.out.now c.loop-k.count c.loop-k.out) end (c.loop-k.invariant held)

pub returns : goal.returns
returns c = λ held.
    let end : c.loop-y.y ≡ c.args.height = omega arith in
    let all : get_or c.args.starts.now c.loop-y.y 0 ≡ length held.runs = ap (λ (t : ℕ). get_or c.args.starts.now t 0) end ∙ held.ends in
    subst (λ (t : ℕ). AreRowsGathered held.runs c.args.numbers.now t c.args.out.now c.loop-y.count c.loop-y.out) all (c.loop-y.invariant held)
