use Rattle.std.proofs.Common.{ℕ, ◌≡◌, ◌+◌, ◌-◌, ◌∙◌, ap, sym, arith}
use Rattle.mw_rank_rows.proofs.Steps.{seen_from}
use Rattle.mw_rank_rows.proofs.slide.leave_all.Goals as goal

pub loop-c-init : goal.loop-c-init
loop-c-init g c = λ levels column seen shows slides t.
    let x = c.args.x in
    let columns = c.args.columns in
    seen_from levels seen c.args.counts.now c.args.lanes.now x (x + 0) columns (columns - 0) (omega arith) (omega arith) t

pub leave-requires-clause-known : goal.leave-requires-clause-known
leave-requires-clause-known g c =
    let known = c.requires.known in
    let n = c.loop-c.c in
    (known.0, known.1, (λ v j. known.2 v (c.args.x + n) (c.args.columns - n) j), known.3, c.loop-c.invariant known.0 known.1 known.2 known.3 known.4 known.5)

pub loop-c-preserved : goal.loop-c-preserved
loop-c-preserved g c = λ levels column seen shows slides t.
    let x = c.args.x in
    let n = c.loop-c.c in
    let rest = c.args.columns - (n + 1) in
    c.leave.ensures levels column (λ v j. seen v (x + n) (c.args.columns - n) j) (λ v j. seen v (x + (n + 1)) rest j) shows (c.loop-c.invariant levels column seen shows slides t)
    (λ v j lt.
    ap (λ (m : ℕ). seen v (x + n) m j) (let e : c.args.columns - n ≡ rest + 1 = omega arith in e)
    ∙ slides.leaves v (x + n) rest j
    ∙ ap (λ (m : ℕ). column v (x + n) j + seen v m rest j) (let e : x + n + 1 ≡ x + (n + 1) = omega arith in e)
    ∙ ap (λ (m : ℕ). column v (x + m) j + seen v (x + (n + 1)) rest j) (sym c.from.ensures)
    ∙ (let e : column v (x + c.from.result) j + seen v (x + (n + 1)) rest j ≡ seen v (x + (n + 1)) rest j + column v (x + c.from.result) j = omega arith in e))
    (λ v j. slides.rises v (x + (n + 1)) rest j)

pub returns : goal.returns
returns g c = λ levels column seen shows slides t.
    let n = c.loop-c.c in
    let x = c.args.x in
    let columns = c.args.columns in
    seen_from levels seen c.loop-c.counts c.loop-c.lanes (x + n) (x + columns) (columns - n) 0 (omega arith) (omega arith) (c.loop-c.invariant levels column seen shows slides t)
