use Rattle.std.proofs.Common.{◌≡◌, ◌⊎◌, ℕ, ◌+◌, ◌*◌, ◌%◌, ◌<◌, ◌≤◌, inl, inr, ap, sym, arith, ◌∙◌}
use Rattle.mw_bits.specs.mw_pixel_words.Packed.{bit_of}
use Rattle.mw_bits.proofs.mw_pixel_words.Bits.{bit_of-lt}
use Rattle.mw_rank_bits.proofs.counter.step_plane.Goals as goal

pub returns-clause-digit : goal.returns-clause-digit
returns-clause-digit g c = λ q lt.
    let seen = g.W.Way.seen in
    let i = c.args.i in
    let place : 64 * (2 * i) + q ≡ 128 * i + q = omega arith in
    let was : bit_of c.load-digit.result.words q ≡ bit_of c.args.planes.now (128 * i + q) = c.load-digit.ensures q lt ∙ ap (bit_of c.args.planes.now) place in
    let a = bit_of c.load-digit.result.words q in
    let b = bit_of c.args.other.words q in
    let d = bit_of c.args.carry.words q in
    let small : bit_of c.args.other.words q < 2 = bit_of-lt c.args.other.words q in
    let less : bit_of c.args.carry.words q < 2 = bit_of-lt c.args.carry.words q in
    let regroup : a + b + d ≡ a + (b + d) = omega arith in
    let made : bit_of c.store.new.out (128 * i + q) ≡ (a + (b + d)) % 2 = ap (bit_of c.store.new.out) (sym place) ∙ c.store.ensures.put q lt ∙ c.parity.ensures q lt ∙ ap (λ (t : ℕ). t % 2) regroup in
    let law = g.met.W.Way.law a (b + d) (bit_of-lt c.load-digit.result.words q) (omega arith) in
    omega (arith, ap seen made, c.carried.ensures q lt, law, ap seen was)

pub returns-clause-others : goal.returns-clause-others
returns-clause-others g c = λ p other.
    let i = c.args.i in
    let away : (p < 64 * (2 * i)) ⊎ (64 * (2 * i) + 128 ≤ p) = elim other [ inl below ↦ inl (omega arith) | inr above ↦ inr (omega arith) ] in
    c.store.ensures.others p away
