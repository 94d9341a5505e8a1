use Rattle.std.proofs.Common.{sym}
use Rattle.mw_session_words.proofs.Splits.{words_some}
use Rattle.mw_session_words.proofs.words.LineWords.end.Goals as goal

pub returns-in-Some : goal.returns-in-Some
returns-in-Some g c =
    let is = rw c.in-Some.is at c.self.view_is in
    rw (← is) (sym (words_some c.in-Some.field-0.now c.args.value))
