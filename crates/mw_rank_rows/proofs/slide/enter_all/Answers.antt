use Rattle.std.proofs.Common.{ℕ, ◌+◌, ◌∙◌, refl, ap, sym, arith}
use Rattle.mw_rank_rows.proofs.Steps.{seen_from}
use Rattle.mw_rank_rows.proofs.slide.enter_all.Goals as goal

pub enter-requires-clause-known : goal.enter-requires-clause-known
enter-requires-clause-known g c =
    let known = c.requires.known in
    (known.0, known.1, (λ v j. known.2 v c.args.x c.loop-c.c j), known.3, c.loop-c.invariant known.0 known.1 known.2 known.3 known.4 known.5)

pub loop-c-preserved : goal.loop-c-preserved
loop-c-preserved g c = λ levels column seen shows slides t.
    let x = c.args.x in
    let n = c.loop-c.c in
    c.enter.ensures levels column (λ v j. seen v x n j) (λ v j. seen v x (n + 1) j) shows (c.loop-c.invariant levels column seen shows slides t)
    (λ v j lt. slides.enters v x n j ∙ ap (λ (m : ℕ). seen v x n j + column v (x + m) j) (sym c.from.ensures)) (λ j lt. slides.few levels x (n + 1) j (omega arith))

pub returns : goal.returns
returns g c = λ levels column seen shows slides t.
    seen_from levels seen c.loop-c.counts c.loop-c.lanes c.args.x c.args.x c.loop-c.c c.args.columns refl (omega arith) (c.loop-c.invariant levels column seen shows slides t)
