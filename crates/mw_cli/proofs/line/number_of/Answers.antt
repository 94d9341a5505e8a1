use Rattle.std.proofs.Common.{◌≡◌, ◌∙◌, sym, subst, Option}
use Rattle.std.specs.Str.Parse.{ExplainsUnsignedError, HasUnsignedDigitsIfOk, ParsesUnsigned}
use Rattle.clap.specs.Words.{Text, found_of, one_text, subcommand_rows_of}
use Rattle.clap.proofs.WalkLemmas.{one_text-rows}
use Rattle.mw_cli.specs.CommandLine.{Reads, text_in}
use Rattle.mw_cli.proofs.CommandReads.{text_in-rows, tried_is_read}
use Rattle.mw_cli.proofs.line.number_of.Goals as goal

pub returns-in-Some : goal.returns-in-Some
returns-in-Some c =
    let text_is : text_in c.args.id.now (subcommand_rows_of c.args.matches.now) ≡ one_text (found_of c.in-Some.given.now) c.args.id.now =
    text_in-rows _ _ _ c.in-Some.ensures.rows ∙ sym (one_text-rows (found_of c.in-Some.given.now) c.args.id.now) in
    subst (λ (text : Option Text). Reads text c.try_get_one.result) (sym text_is)
    (tried_is_read _ (λ bs r. ParsesUnsigned 32 10 bs r × ExplainsUnsignedError 10 bs r × HasUnsignedDigitsIfOk bs r) (λ t x g. g.0) _ c.try_get_one.result c.try_get_one.ensures.none c.try_get_one.ensures.value)
