use Rattle.std.proofs.Common.{◌≡◌, ℕ, ◌+◌, ◌-◌, ◌*◌, ◌<◌, length, take, drop, get_or, length-take, length-drop, ap, arith, refl, ◌∙◌, sym}
use Rattle.std.specs.Prelude.{◌==◌, if◌then◌else◌}
use Rattle.mw_step_task.specs.mw_pixel_words.Packed.{bit_of}
use Rattle.mw_step_task.proofs.mw_pixel_words.Bits.{bit_of_word}
use Rattle.mw_step.proofs.Painted.{cells_part}
use Rattle.mw_step.proofs.painting.mark_row.Goals as goal

pub loop-k-preserved : goal.loop-k-preserved
loop-k-preserved g c =
    let words = c.args.words.now in
    let v = c.args.v in
    let k = c.loop-k.k in
    let out = c.loop-k.acc in
    let start = 64 * k in
    let count = c.min-count.result in
    let m = start + count - start in
    let known = c.loop-k.invariant in
    let size = known.size in
    let inside : start < length out = omega (arith, c.requires.words, c.loop-k-test.true) in
    let count-is = c.min-count.ensures in
    let part = take m (drop start out) in
    let whole : length part ≡ m = omega (arith, length-take m (drop start out), length-drop start out) in
    cells_part (λ s (x : ℕ). if bit_of words x == 1 then v else s) start start m (64 * (k + 1)) c.args.acc.now out c.mark_word.new.acc refl (omega arith) (c.mark_word.auto.acc ∙ whole) (omega arith) (λ x less here. omega arith)
    (λ x d lt. c.mark_word.ensures x d (omega (arith, whole)) ∙ ap (λ (b : ℕ). if b == 1 then v else get_or part x d) (sym (bit_of_word words k x (start + x) (omega arith) refl))) known

pub mark_word-requires-clause-clean : goal.mark_word-requires-clause-clean
mark_word-requires-clause-clean g c = λ x less past.
    let words = c.args.words.now in
    let k = c.loop-k.k in
    let start = 64 * k in
    let out = c.loop-k.acc in
    let known = c.loop-k.invariant in
    let size = known.size in
    let count-is = c.min-count.ensures in
    let m = start + c.min-count.result - start in
    let inside : start < length out = omega (arith, c.requires.words, c.loop-k-test.true) in
    let whole : length (take m (drop start out)) ≡ m = omega (arith, length-take m (drop start out), length-drop start out) in
    sym (bit_of_word words k x (start + x) less refl) ∙ c.requires.clean (start + x) (omega arith)
