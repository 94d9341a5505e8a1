use Rattle.std.proofs.Common.{◌≡◌, ◌<◌, ◌+◌, ◌-◌, length, drop, arith, sym, refl, ◌∙◌, length-drop}
use Rattle.std.specs.List.{position_or_len}
use Rattle.std.proofs.lemmas.List.{take_all}
use Rattle.mw_session_words.specs.Words.{is_blank}
use Rattle.mw_session_words.proofs.Splits.{words_first, words_last}
use Rattle.mw_session_words.proofs.words.first_word.Goals as goal

pub returns-then-end-line : goal.returns-then-end-line
returns-then-end-line c = words_last c.args.line.now (omega arith)

pub returns : goal.returns
returns c =
    let here : position_or_len is_blank c.args.line.now ≡ c.blank_or_end-end.result = sym c.blank_or_end-end.ensures.place in
    let inside : position_or_len is_blank c.args.line.now < length c.args.line.now = omega (arith, c.if-end-line.false) in
    let all = take_all (length c.args.line.now - (c.blank_or_end-end.result + 1)) (drop (c.blank_or_end-end.result + 1) c.args.line.now) (simp length-drop (omega arith)) in
    let first = rw here at (words_first c.args.line.now inside) in
    first ∙ rw all refl
