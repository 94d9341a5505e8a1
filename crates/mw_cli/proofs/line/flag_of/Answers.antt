use Rattle.std.proofs.Common.{◌≡◌, ◌∙◌, sym, subst, Option}
use Rattle.clap.specs.Words.{Text, found_of, one_text, subcommand_rows_of}
use Rattle.clap.proofs.WalkLemmas.{one_text-rows}
use Rattle.mw_cli.specs.CommandLine.{Sets, text_in}
use Rattle.mw_cli.proofs.CommandReads.{text_in-rows}
use Rattle.mw_cli.proofs.line.flag_of.Goals as goal

pub returns-in-Some : goal.returns-in-Some
returns-in-Some c =
    let text_is : text_in c.args.id.now (subcommand_rows_of c.args.matches.now) ≡ one_text (found_of c.in-Some.given.now) c.args.id.now =
    text_in-rows _ _ _ c.in-Some.ensures.rows ∙ sym (one_text-rows (found_of c.in-Some.given.now) c.args.id.now) in
    subst (λ (text : Option Text). Sets text c.get_flag.result) (sym text_is)
    (c.get_flag.ensures.value, c.get_flag.ensures.other, c.get_flag.ensures.none)
