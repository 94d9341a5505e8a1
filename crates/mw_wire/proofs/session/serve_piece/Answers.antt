use Rattle.std.proofs.Common.{◌≡◌, ◌≢◌, ◌++◌, ◌+◌, ◌<◌, ◌≤◌, ℕ, List, [], take, drop, length, length-drop, refl, sym, subst, ◌∙◌, arith}
use Rattle.std.proofs.lemmas.Result.{err_from_is_err_and}
use Rattle.mw_wire.specs.declared.fault.SessionFault.TheVariants.{Write}
use Rattle.mw_session_intake.specs.Intake.{IsPortion}
use Rattle.mw_wire.proofs.Rooms.{some_dropped}
use Rattle.mw_wire.proofs.Ends.{progress-drained}
use Rattle.mw_wire.proofs.Serving.{some_left, progress-portion, drains-no-room, drains-finished, drains-cut}
use Rattle.mw_wire.proofs.session.serve_piece.Goals as goal

pub returns-in-Err-clause-ran : goal.returns-in-Err-clause-ran
returns-in-Err-clause-ran g c = λ left.
    let i = c.portions.invariant in
    let some : drop c.portions.at c.args.piece.now ≢ [] = λ e. some_dropped c.portions.at c.args.piece.now (omega (arith, c.portions-test.true)) e in
    let fed : c.split_at-in-portions.result.0.now ≡ take c.portion-n.result (drop c.portions.at c.args.piece.now) = rw (c.split_at-in-portions.ensures.front, c.split_at.ensures.back) refl in
    let portion = rw c.split_at.ensures.back at c.portion-n.ensures.portion in
    let Less : List ℕ → Type 0 = λ l. c.take_in.new.intake.spare < length l in
    drains-no-room g.D.Handler.Answer left c.args.intake.now.bytes c.args.piece.now c.portions.intake c.take_in.new.intake c.portions.at c.portion-n.result c.args.kept.now c.portions.kept
    (g.W.Write.contents c.args.sink.now.inner) (g.W.Write.contents c.portions.sink.inner) (g.W.Write.contents c.end_within.new.sink.inner) c.end_within.result
    c.in-Err.ensures.err i.progress i.waits some portion (subst Less fed c.in-Err.ensures.still) c.end_within.ensures.wrote _ c.end_within.ensures.remembers.flag

pub returns-in_err-end-clause-ran : goal.returns-in_err-end-clause-ran
returns-in_err-end-clause-ran g c = λ left.
    let x = g.W.Write.contents c.args.sink.now.inner in
    let y = g.W.Write.contents c.portions.sink.inner in
    let fault = c.in_err-end.field-0.0 in
    let fed : c.take_in.new.intake.bytes ≡ c.portions.intake.bytes ++ take c.portion-n.result (drop c.portions.at c.args.piece.now) = rw (c.split_at-in-portions.ensures.front, c.split_at.ensures.back) at c.in-Ok.ensures.ok in
    let h = progress-portion g.D.Handler.Answer c.args.intake.now.bytes c.args.piece.now c.portions.intake.bytes c.take_in.new.intake.bytes c.portions.at c.portion-n.result c.args.kept.now c.portions.kept x y fed c.portions.invariant.progress in
    let is_write : fault ≡ Write = let e = c.in_err-end.ensures.remembers.flag.0 in cc in
    let p = err_from_is_err_and c.from_residual.result c.from_residual.ensures.1 in
    rw (p.1, p.2)
    (drains-cut g.D.Handler.Answer left c.args.intake.now.bytes c.args.piece.now c.take_in.new.intake.bytes c.drain.new.intake (c.portions.at + c.portion-n.result) c.args.kept.now c.portions.kept c.drain.new.kept x y (g.W.Write.contents c.drain.new.sink.inner)
    fault is_write h (c.in_err-end.ensures.ran some_left))

pub returns-in-Some-clause-ran : goal.returns-in-Some-clause-ran
returns-in-Some-clause-ran g c = λ left.
    let x = g.W.Write.contents c.args.sink.now.inner in
    let y = g.W.Write.contents c.portions.sink.inner in
    let fed : c.take_in.new.intake.bytes ≡ c.portions.intake.bytes ++ take c.portion-n.result (drop c.portions.at c.args.piece.now) = rw (c.split_at-in-portions.ensures.front, c.split_at.ensures.back) at c.in-Ok.ensures.ok in
    let h = progress-portion g.D.Handler.Answer c.args.intake.now.bytes c.args.piece.now c.portions.intake.bytes c.take_in.new.intake.bytes c.portions.at c.portion-n.result c.args.kept.now c.portions.kept x y fed c.portions.invariant.progress in
    drains-finished g.D.Handler.Answer left c.args.intake.now.bytes c.args.piece.now c.take_in.new.intake.bytes c.drain.new.intake (c.portions.at + c.portion-n.result) c.args.kept.now c.portions.kept c.drain.new.kept x y (g.W.Write.contents c.drain.new.sink.inner) c.in-Some.end
    h (rw c.in-Some.is at (c.in_ok-end.ensures.ran some_left))

pub portions-preserved : goal.portions-preserved
portions-preserved g c =
    let i = c.portions.invariant in
    let piece = c.args.piece.now in
    let x = g.W.Write.contents c.args.sink.now.inner in
    let y = g.W.Write.contents c.portions.sink.inner in
    let fed : c.take_in.new.intake.bytes ≡ c.portions.intake.bytes ++ take c.portion-n.result (drop c.portions.at piece) = rw (c.split_at-in-portions.ensures.front, c.split_at.ensures.back) at c.in-Ok.ensures.ok in
    let short : c.portion-n.result ≤ length (drop c.portions.at piece) = rw c.split_at.ensures.back at c.portion-n.ensures.within in
    let h = progress-portion g.D.Handler.Answer c.args.intake.now.bytes piece c.portions.intake.bytes c.take_in.new.intake.bytes c.portions.at c.portion-n.result c.args.kept.now c.portions.kept x y fed i.progress in
    let d = rw c.in_default.is at (c.in_ok-end.ensures.ran some_left) in
    record {
      within = omega (arith, short, length-drop c.portions.at piece, i.within);
      progress = progress-drained g.D.Handler.Answer (c.args.intake.now.bytes ++ take (c.portions.at + c.portion-n.result) piece) c.take_in.new.intake.bytes c.drain.new.intake.bytes c.args.kept.now c.portions.kept c.drain.new.kept x y (g.W.Write.contents c.drain.new.sink.inner) h d;
      waits = c.in_ok-end.ensures.waits c.in_default.is;
      is_open = c.in_ok-end.ensures.is_open c.in_default.is;
      same = c.in_ok-end.ensures.remembers.kept ∙ i.same;
    }

pub drain-requires-clause-tidy : goal.drain-requires-clause-tidy
drain-requires-clause-tidy g c =
    let P : List ℕ → Type 0 = λ l. IsPortion c.portions.intake l in
    let taken = c.split_at-in-portions.ensures.front in
    let portion : IsPortion c.portions.intake c.split_at-in-portions.result.0.now = subst P (sym taken) c.portion-n.ensures.portion in
    c.in-Ok.ensures.tidy c.portions.invariant.is_open c.portions.invariant.waits portion
