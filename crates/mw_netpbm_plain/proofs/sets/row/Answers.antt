use Rattle.std.proofs.Common.{arith}
use Rattle.std.proofs.lemmas.Result.{err_from_is_err_and}
use Rattle.mw_netpbm_plain.specs.SetWords.{row_at}
use Rattle.mw_netpbm_plain.proofs.PlainSets.{one_word_more, fault_word, all_words}
use Rattle.mw_netpbm_plain.proofs.sets.row.Goals as goal

pub words-preserved : goal.words-preserved
words-preserved c = record {
  made = one_word_more c.words.left c.min-count.result c.in_ok-word.word c.words.out.items c.push_reserved.new.self.items c.words.rest.now c.in_ok-word.after.now (row_at c.args.out.now.items c.args.width c.args.bytes.now) c.words-test.true c.min-count.ensures c.in_ok-word.ensures c.push_reserved.ensures.items c.words.invariant.made;
  filled = omega (arith, c.push_reserved.ensures.len, c.words.invariant.filled, c.min-count.ensures);
  room = omega (arith, c.push_reserved.ensures.capacity, c.words.invariant.room);
  less = omega (arith, c.words.invariant.less);
}

pub returns-in_err-word-clause-value : goal.returns-in_err-word-clause-value
returns-in_err-word-clause-value c =
    let p = err_from_is_err_and c.from_residual.result c.from_residual.ensures.1 in
    rw (p.1, p.2) (fault_word c.words.left c.min-count.result c.words.out.items c.words.rest.now c.in_err-word.field-0.0 (row_at c.args.out.now.items c.args.width c.args.bytes.now) c.words-test.true c.min-count.ensures c.in_err-word.ensures c.words.invariant.made)

pub returns-clause-value : goal.returns-clause-value
returns-clause-value c = all_words c.words.left c.words.out.items c.words.rest.now (row_at c.args.out.now.items c.args.width c.args.bytes.now) c.words-test.false c.words.invariant.made
