use Rattle.std.proofs.Common.{◌≡◌, ◌≢◌, ◌∙◌, refl, inl, subst}
use Rattle.std.proofs.lemmas.Result.{err_from_is_err_and}
use Rattle.mw_wire.specs.declared.fault.SessionFault.TheVariants.{Write}
use Rattle.mw_model.specs.declared.requests.Ask.TheVariants as ask
use Rattle.mw_model.specs.declared.requests.Next.{Next}
use Rattle.mw_model.specs.Lines.{AskAlone, Found, Fault}
use Rattle.mw_session_intake.specs.Reading.{front}
use Rattle.mw_session_intake.specs.Intake.{IsTidy, Leaves, asked}
use Rattle.mw_session_intake.proofs.Front.{is_front}
use Rattle.mw_session_intake.proofs.Tidy.{tidy_never}
use Rattle.mw_wire.proofs.Ends.{progress-start}
use Rattle.mw_wire.proofs.Serving.{drains-partial, drains-quit, drains-ended, drains-broken, progress-given}
use Rattle.mw_wire.proofs.Rooms.{fault_has_room}
use Rattle.mw_wire.proofs.session.drain.Goals as goal

pub requests-init : goal.requests-init
requests-init g c = (progress-start g.D.Handler.Answer c.args.intake.now.bytes c.args.kept.now (g.W.Write.contents c.args.sink.now.inner), refl, c.requires.tidy)

pub unreachable-requires : goal.unreachable-requires
unreachable-requires g c = tidy_never c.requests.intake c.requests.invariant.2 c.in-Err.ensures.memory

pub returns-in-Ok-More-clause-ran : goal.returns-in-Ok-More-clause-ran
returns-in-Ok-More-clause-ran g c = λ left.
    let told = rw c.in-Ok-More.field-0-is at c.in-Ok-More.ensures.ok in
    drains-partial g.D.Handler.Answer left c.args.intake.now.bytes c.requests.intake.bytes c.next.new.self c.args.kept.now c.requests.kept
    (g.W.Write.contents c.args.sink.now.inner) (g.W.Write.contents c.requests.sink.inner) told.1 c.requests.invariant.0 told.0

pub returns-in-Ok-Bad-clause-ran : goal.returns-in-Ok-Bad-clause-ran
returns-in-Ok-Bad-clause-ran g c = λ left.
    let told = rw c.in-Ok-Bad.field-0-is at c.in-Ok-Bad.ensures.ok in
    drains-ended g.D.Handler.Answer left c.args.intake.now.bytes c.requests.intake.bytes c.next.new.self c.args.kept.now c.requests.kept
    (g.W.Write.contents c.args.sink.now.inner) (g.W.Write.contents c.requests.sink.inner) (g.W.Write.contents c.end_within.new.sink.inner) c.in-Ok-Bad.code c.end_within.result
    c.requests.invariant.0 (inl (is_front c.requests.intake.bytes (Fault c.in-Ok-Bad.code) told.0), fault_has_room c.requests.intake.bytes c.in-Ok-Bad.code told.0) c.end_within.ensures.wrote _ c.end_within.ensures.remembers.flag

pub returns-then-is_quit-clause-ran : goal.returns-then-is_quit-clause-ran
returns-then-is_quit-clause-ran g c = λ left.
    let found : front c.requests.intake.bytes ≡ Found (asked c.in-Ok-Request.request) c.next.new.self.bytes = rw c.in-Ok-Request.field-0-is at c.in-Ok-Request.ensures.ok in
    let quit : asked c.in-Ok-Request.request ≡ AskAlone ask.Quit = c.if-is_quit.ensures.0 refl in
    drains-quit g.D.Handler.Answer left c.args.intake.now.bytes c.requests.intake.bytes c.next.new.self.bytes c.next.new.self c.args.kept.now c.requests.kept
    (g.W.Write.contents c.args.sink.now.inner) (g.W.Write.contents c.requests.sink.inner) c.requests.invariant.0 (rw quit at found)

pub answer-requires-clause-open_still : goal.answer-requires-clause-open_still
answer-requires-clause-open_still g c = λ e. let t = c.if-is_quit.ensures.1 e in cc

pub returns-in_err-answer-in-Ok-Request-clause-ran : goal.returns-in_err-answer-in-Ok-Request-clause-ran
returns-in_err-answer-in-Ok-Request-clause-ran g c = λ left.
    let fault = c.in_err-answer-in-Ok-Request.field-0.0 in
    let found : front c.requests.intake.bytes ≡ Found (asked c.in-Ok-Request.request) c.next.new.self.bytes = rw c.in-Ok-Request.field-0-is at c.in-Ok-Request.ensures.ok in
    let asks : asked c.in-Ok-Request.request ≢ AskAlone ask.Quit = λ e. let t = c.if-is_quit.ensures.1 e in cc in
    let is_write : fault ≡ Write = let e = c.in_err-answer-in-Ok-Request.ensures.remembers.flag.0 in cc in
    let p = err_from_is_err_and c.from_residual.result c.from_residual.ensures.1 in
    rw (p.1, p.2)
    (drains-broken g.D.Handler.Answer left c.args.intake.now.bytes c.requests.intake.bytes c.next.new.self.bytes c.next.new.self c.args.kept.now c.requests.kept c.answer.new.kept
    (g.W.Write.contents c.args.sink.now.inner) (g.W.Write.contents c.requests.sink.inner) (g.W.Write.contents c.answer.new.sink.inner) (asked c.in-Ok-Request.request) fault
    c.requests.invariant.0 found asks c.in_err-answer-in-Ok-Request.ensures.answered is_write)

pub returns-in-Ok-More-clause-is_open : goal.returns-in-Ok-More-clause-is_open
returns-in-Ok-More-clause-is_open g c = λ e.
    let P : Next → Type 0 = λ n. IsTidy c.requests.intake → Leaves n c.next.new.self in
    let left = subst P c.in-Ok-More.field-0-is c.in-Ok-More.ensures.tidy in
    left c.requests.invariant.2

pub requests-preserved : goal.requests-preserved
requests-preserved g c =
    let P : Next → Type 0 = λ n. IsTidy c.requests.intake → Leaves n c.next.new.self in
    let left = subst P c.in-Ok-Request.field-0-is c.in-Ok-Request.ensures.tidy in
    let found : front c.requests.intake.bytes ≡ Found (asked c.in-Ok-Request.request) c.next.new.self.bytes = rw c.in-Ok-Request.field-0-is at c.in-Ok-Request.ensures.ok in
    let asks : asked c.in-Ok-Request.request ≢ AskAlone ask.Quit = λ e. let t = c.if-is_quit.ensures.1 e in cc in (
      progress-given g.D.Handler.Answer c.args.intake.now.bytes c.requests.intake.bytes c.next.new.self.bytes c.args.kept.now c.requests.kept c.answer.new.kept
          (g.W.Write.contents c.args.sink.now.inner) (g.W.Write.contents c.requests.sink.inner) (g.W.Write.contents c.answer.new.sink.inner) (asked c.in-Ok-Request.request) tt
          c.requests.invariant.0 found asks c.in_ok-answer-in-Ok-Request.ensures.answered,
      c.in_ok-answer-in-Ok-Request.ensures.remembers.kept ∙ c.requests.invariant.1,
      inl (left c.requests.invariant.2).0,
    )
