use Rattle.std.proofs.Common.{◌≡◌, ◌+◌, ◌≤◌, get_or, take, arith}
use Rattle.std.proofs.lemmas.List.Sums.{fold_more}
use Rattle.std.proofs.lemmas.Nat.{ones-le}
use Rattle.mw_bits_rows.specs.Rows.{bits_in}
use Rattle.mw_bits_rows.proofs.counting.count_bits.Goals as goal
use lib.Count.{ones}

pub loop-word-preserved : goal.loop-word-preserved
loop-word-preserved c =
    let words = c.args.words.now in
    let i = c.loop-word.word-index in
    let few : ones (get_or words i 0) ≤ 64 = let fits = c.type_inv.words i in ones-le 64 (get_or words i 0) (omega arith) in
    let known = c.loop-word.invariant in
    let more : bits_in (take (i + 1) words) ≡ bits_in (take i words) + ones (get_or words i 0) = fold_more (λ a x. a + ones x) 0 words i 0 (omega arith) in
    record { so_far = omega arith; few = omega arith }
