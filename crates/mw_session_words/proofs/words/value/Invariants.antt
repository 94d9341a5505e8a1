use Rattle.std.proofs.Common.{◌≡◌, ◌<◌, ◌^◌, take}
use Rattle.mw_session_words.specs.Words.{digits_number}
use Rattle.mw_session_words.proofs.words.value.Given as goal

abbrev pub invariant-loop-d : goal.invariant-loop-d
invariant-loop-d l = (l.n ≡ digits_number (take l.d-index l.digits)) × (l.n < 10 ^ l.d-index)
