use Rattle.std.proofs.Common.{◌≡◌, ◌-◌, ◌<◌, ◌^◌}
use Rattle.mw_netpbm_plain.specs.Plain.{front_at}
use Rattle.mw_netpbm_plain.specs.SetWords.{word_at}
use Rattle.mw_netpbm_plain.proofs.PlainSets.{numbered}
use Rattle.mw_netpbm_plain.proofs.sets.word.Given as goal

abbrev pub invariant-pixels : goal.invariant-pixels
invariant-pixels l = record {
  made : numbered l.word l.i (front_at (l.count - l.i) l.rest) ≡ word_at l.count l.fn.bytes;
  small : l.word < 2 ^ l.i;
}
