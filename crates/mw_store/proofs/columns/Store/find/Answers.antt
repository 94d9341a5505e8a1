use Rattle.std.proofs.Common.{◌∙◌, ap}
use Rattle.mw_model.specs.Refusals.{ticket_of}
use Rattle.mw_store.proofs.columns.Store.find.Goals as goal

pub returns-in-Some-clause-value : goal.returns-in-Some-clause-value
unfolding ticket_of
returns-in-Some-clause-value c = c.in-Some.ensures.index ∙ ap (λ v. ticket_of v.table.names c.args.name) c.self.view_is

pub returns-in-None-clause-value : goal.returns-in-None-clause-value
unfolding ticket_of
returns-in-None-clause-value c = c.in-None.ensures.index ∙ ap (λ v. ticket_of v.table.names c.args.name) c.self.view_is
