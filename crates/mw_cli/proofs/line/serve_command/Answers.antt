use Rattle.std.proofs.Common.{ap, ap₂, codes, true, Bool, ◌≡◌, ◌∙◌}
use Rattle.std.specs.Prelude.{◌||◌}
use Rattle.std.proofs.lemmas.Result.{IfOk-weaker}
use Rattle.clap.specs.Words.{app_of, new_app, rule_of, with_rule}
use Rattle.clap.specs.declared.builder.arg.Arg.{Arg}
use Rattle.mw_cli.specs.CommandLine.{HasNoGlobals}
use Rattle.mw_cli.proofs.line.serve_command.Goals as goal

pub returns : goal.returns
returns c =
    let port_is = c.usual_option.ensures.rule in
    let port_own = c.usual_option.ensures.local in
    let head : app_of c.job_command.result ≡ new_app (codes "serve") = c.job_command.ensures.words in
    let first = c.in_ok-arg.ensures.shape port_own ∙ ap₂ with_rule head port_is in
    let second = c.in_ok-arg-2.ensures.shape c.usual_option-2.ensures.local ∙ ap₂ with_rule first c.usual_option-2.ensures.rule in
    let third = c.in_ok-arg-3.ensures.shape c.usual_option-3.ensures.local ∙ ap₂ with_rule second c.usual_option-3.ensures.rule in
    let fourth = c.in_ok-arg-4.ensures.shape c.tile_option.ensures.local ∙ ap₂ with_rule third c.tile_option.ensures.rule in
    let fifth = c.in_ok-arg-5.ensures.shape c.idle_option.ensures.local ∙ ap₂ with_rule fourth c.idle_option.ensures.rule in
    let both : Bool → Bool → Bool = λ x y. x || y in
    let free : HasNoGlobals c.job_command.result = c.job_command.ensures.local in
    let free_1 = c.in_ok-arg.ensures.globals ∙ ap₂ both free port_own in
    let free_2 = c.in_ok-arg-2.ensures.globals ∙ ap₂ both free_1 c.usual_option-2.ensures.local in
    let free_3 = c.in_ok-arg-3.ensures.globals ∙ ap₂ both free_2 c.usual_option-3.ensures.local in
    let free_4 = c.in_ok-arg-4.ensures.globals ∙ ap₂ both free_3 c.tile_option.ensures.local in
    let free_5 = c.in_ok-arg-5.ensures.globals ∙ ap₂ both free_4 c.idle_option.ensures.local in
    let sixth = c.in_ok-arg-6.ensures.shape c.flag_option.ensures.local ∙ ap₂ with_rule fifth c.flag_option.ensures.rule in
    let free_6 = c.in_ok-arg-6.ensures.globals ∙ ap₂ both free_5 c.flag_option.ensures.local in
    let seventh = c.in_ok-arg-7.ensures.shape c.usual_option-4.ensures.local ∙ ap₂ with_rule sixth c.usual_option-4.ensures.rule in
    let free_7 = c.in_ok-arg-7.ensures.globals ∙ ap₂ both free_6 c.usual_option-4.ensures.local in
    let eighth = c.in_ok-arg-8.ensures.shape c.number_option.ensures.local ∙ ap₂ with_rule seventh c.number_option.ensures.rule in
    let free_8 = c.in_ok-arg-8.ensures.globals ∙ ap₂ both free_7 c.number_option.ensures.local in
    let ninth = c.in_ok-arg-9.ensures.shape c.number_option-2.ensures.local ∙ ap₂ with_rule eighth c.number_option-2.ensures.rule in
    let free_9 = c.in_ok-arg-9.ensures.globals ∙ ap₂ both free_8 c.number_option-2.ensures.local in
    let tenth = c.in_ok-arg-10.ensures.shape c.number_option-3.ensures.local ∙ ap₂ with_rule ninth c.number_option-3.ensures.rule in
    let free_10 = c.in_ok-arg-10.ensures.globals ∙ ap₂ both free_9 c.number_option-3.ensures.local in
    IfOk-weaker c.arg-11.result _ _ (λ r h. (
      h.shape c.number_option-4.ensures.local ∙ ap₂ with_rule tenth c.number_option-4.ensures.rule,
      h.globals ∙ ap₂ both free_10 c.number_option-4.ensures.local,
    )) c.arg-11.ensures
