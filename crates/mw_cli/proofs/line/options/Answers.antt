use Rattle.std.proofs.Common.{◌≡◌, [], true, map, List, Option, refl, subst, inl, inr}
use Rattle.std.proofs.lemmas.Result.{IfErr-weaker, IfOk-weaker}
use Rattle.std.specs.String.{string_bytes}
use Rattle.clap.specs.Faults.{fault_of, is_simple_and_free}
use Rattle.clap.specs.Words.{App, HasKind, HasMatchesOf, Row, Text}
use Rattle.mw_cli.specs.CommandLine.{AreTaken, Asks, Faults}
use Rattle.mw_cli.proofs.CommandReads.{faults_refuse, not_both}
use Rattle.mw_cli.proofs.line.options.Goals as goal

pub returns-in-Ok-try_get_matches_from-clause-fault :
    goal.returns-in-Ok-try_get_matches_from-clause-fault
returns-in-Ok-try_get_matches_from-clause-fault c =
    let words : List Text = map string_bytes c.args.words.now in
    let matches = c.in-Ok-try_get_matches_from.matches in
    let e = c.in-Ok-try_get_matches_from.ensures in
    let taken : AreTaken words = subst (λ (a : App). is_simple_and_free a ≡ true → fault_of a words ≡ []) c.in-Ok.ensures e.kinds refl in
    let same = (subst (λ (a : App). HasMatchesOf a words matches) c.in-Ok.ensures e.matches refl).1 in
    IfErr-weaker c.job_of.result _ _
    (λ f h. faults_refuse c.args.processors words f taken (subst (λ (rows : Option (Text × List Row)). Faults c.args.processors rows f) same h)) c.job_of.ensures.err

pub returns-in-Ok-try_get_matches_from-clause-job :
    goal.returns-in-Ok-try_get_matches_from-clause-job
returns-in-Ok-try_get_matches_from-clause-job c =
    let words : List Text = map string_bytes c.args.words.now in
    let matches = c.in-Ok-try_get_matches_from.matches in
    let e = c.in-Ok-try_get_matches_from.ensures in
    let taken : AreTaken words = subst (λ (a : App). is_simple_and_free a ≡ true → fault_of a words ≡ []) c.in-Ok.ensures e.kinds refl in
    let same = (subst (λ (a : App). HasMatchesOf a words matches) c.in-Ok.ensures e.matches refl).1 in
    IfOk-weaker c.job_of.result _ _
    (λ j h. (taken, subst (λ (rows : Option (Text × List Row)). Asks c.args.processors rows j) same h)) c.job_of.ensures.ok

pub returns-else-is_memory-clause-fault : goal.returns-else-is_memory-clause-fault
returns-else-is_memory-clause-fault c =
    let words : List Text = map string_bytes c.args.words.now in
    let h = subst (λ (a : App). is_simple_and_free a ≡ true → HasKind (fault_of a words) c.in-Err.error) c.in-Ok.ensures c.in-Err.ensures.kinds refl in
    elim h [ inl out ↦ absurd (not_both _ (c.is_memory.ensures.1 out) c.if-is_memory.false) | inr among ↦ among ]
