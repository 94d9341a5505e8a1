use Rattle.std.proofs.Common.{refl}
use Rattle.mw_model.specs.declared.calls.Call.TheVariants as call
use Rattle.mw_model.specs.declared.requests.Ask.TheVariants as ask
use Rattle.mw_session_fetch.specs.mw_wire.Writes.{told_text}
use Rattle.mw_pool_session.proofs.Texts.{served-load, served-element, served-alone}
use Rattle.mw_pool_session.proofs.counter.BoardHandlerHandler.answer.Goals as goal

pub returns-in-Load-clause-answered : goal.returns-in-Load-clause-answered
returns-in-Load-clause-answered g c = rw c.in-Load.is (
  told_text c.load.result,
  served-load c.in-Load.name c.in-Load.payload.items c.args.pass.now c.load.new.pass c.load.result c.load.ensures.receipt c.load.ensures.shows_nothing c.load.ensures.err,
  c.say_told.ensures.wrote,
)

pub returns-in-Element-clause-answered : goal.returns-in-Element-clause-answered
returns-in-Element-clause-answered g c = rw c.in-Element.is (
  told_text c.element.result,
  served-element c.in-Element.name c.in-Element.ox c.in-Element.oy c.in-Element.payload.items c.deref.result.now c.args.pass.now c.element.new.pass c.element.result c.deref.ensures.value c.element.ensures.receipt c.element.ensures.shows_nothing c.element.ensures.err,
  c.say_told-in-Element.ensures.wrote,
)

pub returns-in-Run-clause-answered : goal.returns-in-Run-clause-answered
returns-in-Run-clause-answered g c = rw c.in-Run.is (
  told_text c.run.result,
  served-alone (ask.Run c.in-Run.name c.in-Run.op) (call.Run c.in-Run.name c.in-Run.op) c.args.pass.now c.run.new.pass c.run.result refl c.run.ensures.receipt c.run.ensures.shows_nothing c.run.ensures.err,
  c.say_told-in-Run.ensures.wrote,
)

pub returns-in-Cancel-clause-answered : goal.returns-in-Cancel-clause-answered
returns-in-Cancel-clause-answered g c = rw c.in-Cancel.is (
  told_text c.cancel.result,
  served-alone (ask.Cancel c.in-Cancel.name) (call.Cancel c.in-Cancel.name) c.args.pass.now c.cancel.new.pass c.cancel.result refl c.cancel.ensures.receipt c.cancel.ensures.shows_nothing c.cancel.ensures.err,
  c.say_told-in-Cancel.ensures.wrote,
)

pub returns-in-Release-clause-answered : goal.returns-in-Release-clause-answered
returns-in-Release-clause-answered g c = rw c.in-Release.is (
  told_text c.release.result,
  served-alone (ask.Release c.in-Release.name) (call.Release c.in-Release.name) c.args.pass.now c.release.new.pass c.release.result refl c.release.ensures.receipt c.release.ensures.shows_nothing c.release.ensures.err,
  c.say_told-in-Release.ensures.wrote,
)

pub returns-in-Status-clause-answered : goal.returns-in-Status-clause-answered
returns-in-Status-clause-answered g c = rw c.in-Status.is (
  told_text c.status.result,
  served-alone (ask.Status c.in-Status.name) (call.Status c.in-Status.name) c.args.pass.now c.status.new.pass c.status.result refl c.status.ensures.receipt c.status.ensures.shows_nothing c.status.ensures.err,
  c.say_told-in-Status.ensures.wrote,
)

pub returns-in-Wait-clause-answered : goal.returns-in-Wait-clause-answered
returns-in-Wait-clause-answered g c = rw c.in-Wait.is (
  told_text c.wait.result,
  served-alone (ask.Wait c.in-Wait.name) (call.Status c.in-Wait.name) c.args.pass.now c.wait.new.pass c.wait.result refl c.wait.ensures.receipt c.wait.ensures.shows_nothing c.wait.ensures.err,
  c.say_told-in-Wait.ensures.wrote,
)

pub returns-in-Fetch-clause-answered : goal.returns-in-Fetch-clause-answered
returns-in-Fetch-clause-answered g c = rw c.in-Fetch.is c.fetch.ensures.answered
