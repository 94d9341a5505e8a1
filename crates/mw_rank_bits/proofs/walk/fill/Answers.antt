use Rattle.std.proofs.Common.{◌≡◌, ℕ, ◌/◌, length, subst, arith}
use Rattle.mw_rank_bits.proofs.Walks.{HasDigits, digits_more, filled}
use Rattle.mw_rank_bits.proofs.walk.fill.Goals as goal

pub loop-i-init : goal.loop-i-init
loop-i-init c = λ k q lt less. absurd (omega arith)

pub loop-i-preserved : goal.loop-i-preserved
loop-i-preserved c = digits_more c.args.number c.loop-i.i c.loop-i.planes c.store.new.out c.all_or_none.result.words c.all_or_none.ensures c.store.ensures.put c.store.ensures.others c.loop-i.invariant

pub returns : goal.returns
returns c = λ q lt.
    let n = length c.args.planes.now / 2 in
    let end : c.loop-i.i ≡ n = omega arith in
    filled c.args.number n c.loop-i.planes q c.requires.small lt (subst (λ (t : ℕ). HasDigits c.args.number t c.loop-i.planes) end c.loop-i.invariant)
