use Rattle.std.proofs.Common.{ℕ, ◌≡◌, ◌+◌, ap, sym, refl, subst}
use Rattle.std.proofs.lemmas.Bool.{eqb-true}
use Rattle.mw_rank_rows.specs.Tables.{HasFound}
use Rattle.mw_rank_rows.proofs.Steps.{holds_same, seen_from}
use Rattle.mw_rank_rows.proofs.slide.rank_rows.Goals as goal

pub enter_all-requires-clause-known : goal.enter_all-requires-clause-known
enter_all-requires-clause-known g c =
    let known = c.requires.known in
    (known.0, known.1, known.2, known.3, known.4, holds_same known.0 (λ v j. 0) (λ v j. known.2 v c.args.span.x 0 j) c.args.counts.now c.args.lanes.now (λ v j lt. known.4.none v c.args.span.x j) known.5)

pub slide-done-requires-clause-known : goal.slide-done-requires-clause-known
slide-done-requires-clause-known g c =
    let known = c.requires.known in
    let start = holds_same known.0 (λ v j. 0) (λ v j. known.2 v c.args.span.x 0 j) c.args.counts.now c.args.lanes.now (λ v j lt. known.4.none v c.args.span.x j) known.5 in
    (known.0, known.1, known.2, known.3, known.4, c.enter_all.ensures known.0 known.1 known.2 known.3 known.4 start, known.6)

pub leave_all-requires-clause-known : goal.leave_all-requires-clause-known
leave_all-requires-clause-known g c =
    let known = c.requires.known in
    let span = c.args.span in
    let start = holds_same known.0 (λ v j. 0) (λ v j. known.2 v span.x 0 j) c.args.counts.now c.args.lanes.now (λ v j lt. known.4.none v span.x j) known.5 in
    let moved = c.slide-done.ensures.moved known.0 known.1 known.2 known.3 known.4 (c.enter_all.ensures known.0 known.1 known.2 known.3 known.4 start) in
    (known.0, known.1, known.2, known.3, known.4, seen_from known.0 known.2 c.slide-done.new.counts c.slide-done.new.lanes (span.x + c.slide-done.result) (span.x + c.from.result) span.columns span.columns (ap (λ (n : ℕ). span.x + n) (sym c.from.ensures)) refl moved)

pub returns-clause-empty : goal.returns-clause-empty
returns-clause-empty g c = λ levels column seen shows slides t.
    let span = c.args.span in
    let start = holds_same levels (λ v j. 0) (λ v j. seen v span.x 0 j) c.args.counts.now c.args.lanes.now (λ v j lt. slides.none v span.x j) t in
    let moved = c.slide-done.ensures.moved levels column seen shows slides (c.enter_all.ensures levels column seen shows slides start) in
    let last = seen_from levels seen c.slide-done.new.counts c.slide-done.new.lanes (span.x + c.slide-done.result) (span.x + c.from.result) span.columns span.columns (ap (λ (n : ℕ). span.x + n) (sym c.from.ensures)) refl moved in
    let end = span.x + c.from.result + span.columns in
    holds_same levels (λ v j. seen v end 0 j) (λ v j. 0) c.leave_all.new.counts c.leave_all.new.lanes (λ v j lt. sym (slides.none v end j)) (c.leave_all.ensures levels column seen shows slides last)

pub returns-clause-found : goal.returns-clause-found
returns-clause-found g c = λ whole levels column seen shows slides t.
    let span = c.args.span in
    let start = holds_same levels (λ v j. 0) (λ v j. seen v span.x 0 j) c.args.counts.now c.args.lanes.now (λ v j lt. slides.none v span.x j) t in
    let all : c.slide-done.result ≡ span.width = eqb-true c.slide-done.result span.width whole in
    subst (λ (n : ℕ). HasFound g.P.Pixel.level levels seen span.columns span.k span.x span.width n c.slide-done.new.made) all (c.slide-done.ensures.found levels column seen shows slides (c.enter_all.ensures levels column seen shows slides start))
