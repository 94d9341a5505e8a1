use Rattle.std.proofs.Common.{ap, ap₂, ◌∙◌}
use Rattle.std.proofs.lemmas.Result.{IfOk-weaker}
use Rattle.clap.specs.Words.{App, with_subcommand}
use Rattle.mw_cli.proofs.line.command.Goals as goal

pub returns : goal.returns
returns c =
    let batch = c.in_ok-batch_command.ensures in
    let listen = c.in_ok-listen_command.ensures in
    let serve = c.in_ok-serve_command.ensures in
    let first = c.in_ok-subcommand.ensures.shape batch.1 ∙ ap₂ with_subcommand c.program.ensures (ap (λ (a : App). a.top) batch.0) in
    let second = c.in_ok-subcommand-2.ensures.shape listen.1 ∙ ap₂ with_subcommand first (ap (λ (a : App). a.top) listen.0) in
    IfOk-weaker c.subcommand-3.result _ _
    (λ r h. h.shape serve.1 ∙ ap₂ with_subcommand second (ap (λ (a : App). a.top) serve.0)) c.subcommand-3.ensures
