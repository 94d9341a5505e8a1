use Rattle.std.proofs.Common.{ap₂, codes, Bool, ◌≡◌, ◌∙◌}
use Rattle.std.specs.Prelude.{◌||◌}
use Rattle.std.proofs.lemmas.Result.{IfOk-weaker}
use Rattle.clap.specs.Words.{app_of, new_app, with_rule}
use Rattle.mw_cli.specs.CommandLine.{HasNoGlobals}
use Rattle.mw_cli.proofs.line.batch_command.Goals as goal

pub returns : goal.returns
returns c =
    let head : app_of c.job_command.result ≡ new_app (codes "batch") = c.job_command.ensures.words in
    let first = c.in_ok-arg.ensures.shape c.tile_option.ensures.local ∙ ap₂ with_rule head c.tile_option.ensures.rule in
    let second = c.in_ok-arg-2.ensures.shape c.number_option.ensures.local ∙ ap₂ with_rule first c.number_option.ensures.rule in
    let both : Bool → Bool → Bool = λ x y. x || y in
    let free : HasNoGlobals c.job_command.result = c.job_command.ensures.local in
    let free_1 = c.in_ok-arg.ensures.globals ∙ ap₂ both free c.tile_option.ensures.local in
    let free_2 = c.in_ok-arg-2.ensures.globals ∙ ap₂ both free_1 c.number_option.ensures.local in
    IfOk-weaker c.arg-3.result _ _ (λ r h. (
      h.shape c.flag_option.ensures.local ∙ ap₂ with_rule second c.flag_option.ensures.rule,
      h.globals ∙ ap₂ both free_2 c.flag_option.ensures.local,
    )) c.arg-3.ensures
