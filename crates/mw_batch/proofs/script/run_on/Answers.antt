use Rattle.std.proofs.Common.{Ok, Err, refl, ap, sym, subst, ◌∙◌}
use Rattle.mw_model.specs.Machine.{start_state}
use Rattle.mw_session.specs.mw_wire.Faults.{fault_line}
use Rattle.mw_session.specs.mw_wire.Writes.{Wrote}
use Rattle.mw_batch.specs.Batches.{end_status}
use Rattle.mw_batch.specs.EndLines.{end_line}
use Rattle.mw_batch.proofs.Served.{TellsBy, ends-of, served-session, told-line}
use Rattle.mw_batch.proofs.script.run_on.Goals as goal

pub returns-in-Ok-Quit : goal.returns-in-Ok-Quit
returns-in-Ok-Quit g c =
    let from = c.args.source.now in
    let to = c.args.sink.now in
    let source = c.run_counted.new.source in
    let sink = c.run_counted.new.sink in
    let faults = c.args.faults.now in
    let told = g.F.Write.contents faults.inner in
    let old = ends-of (g.R.Read.remaining from.inner) from.reads from.failed (g.W.Write.contents to.inner) to.failed told faults.failed in
    let new = ends-of (g.R.Read.remaining source.inner) source.reads source.failed (g.W.Write.contents sink.inner) sink.failed told faults.failed in
    let tally = c.run_counted.new.tally in
    let e = c.in-Ok-Quit.ensures in
    let ran = e.ran start_state c.requires.stands in
    served-session old new c.args.tally.now.core tally.core tally (Ok c.in-Ok-Quit.field-0) 0 c.requires.log ran.0 ran.1
    (subst (λ o. TellsBy old new tally (Ok o)) (sym c.in-Ok-Quit.field-0-is) (refl, refl)) e.failures
    (ap (λ o. end_status (Ok o)) (sym c.in-Ok-Quit.field-0-is))

pub returns-in-Ok-Ended : goal.returns-in-Ok-Ended
returns-in-Ok-Ended g c =
    let from = c.args.source.now in
    let to = c.args.sink.now in
    let source = c.run_counted.new.source in
    let sink = c.run_counted.new.sink in
    let before = c.args.faults.now in
    let after = c.send-told.new.sink in
    let old = ends-of (g.R.Read.remaining from.inner) from.reads from.failed (g.W.Write.contents to.inner) to.failed (g.F.Write.contents before.inner) before.failed in
    let new = ends-of (g.R.Read.remaining source.inner) source.reads source.failed (g.W.Write.contents sink.inner) sink.failed (g.F.Write.contents after.inner) after.failed in
    let tally = c.run_counted.new.tally in
    let e = c.in-Ok-Ended.ensures in
    let ran = e.ran start_state c.requires.stands in
    let line = c.as_bytes.ensures ∙ c.end_line.ensures in
    let wrote = subst (λ l. Wrote old.told new.told l c.send-told.result) line c.send-told.ensures.wrote in
    served-session old new c.args.tally.now.core tally.core tally (Ok c.in-Ok-Ended.field-0) 1 c.requires.log ran.0 ran.1
    (subst (λ o. TellsBy old new tally (Ok o)) (sym c.in-Ok-Ended.field-0-is)
    (told-line old new (end_line tally.line c.in-Ok-Ended.code) c.send-told.result wrote c.send-told.ensures.remembers.kept _ c.send-told.ensures.remembers.flag)) e.failures
    (ap (λ o. end_status (Ok o)) (sym c.in-Ok-Ended.field-0-is))

pub returns-in-Err : goal.returns-in-Err
returns-in-Err g c =
    let from = c.args.source.now in
    let to = c.args.sink.now in
    let source = c.run_counted.new.source in
    let sink = c.run_counted.new.sink in
    let before = c.args.faults.now in
    let after = c.tell-told.new.sink in
    let old = ends-of (g.R.Read.remaining from.inner) from.reads from.failed (g.W.Write.contents to.inner) to.failed (g.F.Write.contents before.inner) before.failed in
    let new = ends-of (g.R.Read.remaining source.inner) source.reads source.failed (g.W.Write.contents sink.inner) sink.failed (g.F.Write.contents after.inner) after.failed in
    let tally = c.run_counted.new.tally in
    let e = c.in-Err.ensures in
    let ran = e.ran start_state c.requires.stands in
    served-session old new c.args.tally.now.core tally.core tally (Err c.in-Err.fault) 1 c.requires.log ran.0 ran.1
    (told-line old new (fault_line c.in-Err.fault) c.tell-told.result c.tell-told.ensures.wrote c.tell-told.ensures.remembers.kept _ c.tell-told.ensures.remembers.flag) e.failures
    refl
