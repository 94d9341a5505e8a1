-- A job that the words ask for is one that can be done.
use Rattle.std.proofs.Common.{ℕ, List, Option, Some, None, codes, refl, inl, inr}
use Rattle.clap.specs.Words.{Text, subcommand_of}
use Rattle.mw_cli.specs.CommandLine.{AsksSide, IsAsked, program_words, text_in}
use Rattle.mw_cli.specs.declared.line.Job.{Job}
use Rattle.mw_cli.specs.declared.line.Job.TheVariants as job
use Rattle.mw_cli_program.specs.mw_batch.Batches.{IsSideAsked}
use Rattle.mw_cli_program.specs.Jobs.{IsPossible, side_in}

side-asked : (text : Option Text) (asked : Option ℕ) → AsksSide text asked → IsSideAsked (side_in asked)
side-asked None None h = inl refl
side-asked None (Some n) h = cc
side-asked (Some t) None h = absurd h
side-asked (Some t) (Some n) h = inr h.1

pub asked_is_possible : (processors : ℕ) (words : List Text) (j : Job) → IsAsked processors words j → IsPossible j
asked_is_possible processors words (job.Batch given) asked = side-asked (text_in (codes "tile") (subcommand_of program_words words)) given.side asked.1.2.1
asked_is_possible processors words (job.Listen given) asked = let a = asked.1.1 in (a.0.1.0, a.1.1, a.2.1, side-asked (text_in (codes "tile") (subcommand_of program_words words)) given.side a.3)
asked_is_possible processors words (job.Serve given) asked = side-asked (text_in (codes "tile") (subcommand_of program_words words)) given.side asked.1.1.3
