use Rattle.std.proofs.Common.{◌≡◌, ℕ, ◌+◌, get_or, ap, sym, subst, arith, ◌∙◌, get_or-set_same}
use Rattle.std.specs.Prelude.{slice_set}
use Rattle.mw_offset_lent.proofs.Puts.{put_none, put_on, put_part, put_set}
use Rattle.mw_offset_lent.proofs.parts.fill.Goals as goal

pub loop-i-init : goal.loop-i-init
loop-i-init g c = record { put = put_none c.args.at c.args.n c.args.out.now; made = λ i d lt. absurd (omega (arith, lt)) }

pub loop-i-preserved : goal.loop-i-preserved
loop-i-preserved g c =
    let at = c.args.at in
    let i = c.loop-i.i in
    let mid = c.loop-i.out in
    let put = put_set mid (at + i) c.args.neutral in
    let new = slice_set mid (at + i) c.args.neutral in
    record {
      put = put_part at c.args.n (at + i) 1 c.args.out.now mid new (omega arith) (omega arith) c.loop-i.invariant.put put;
      made = λ j d lt. put_on (λ j v. v ≡ c.args.neutral) d at i i 1 mid new (omega arith) put
          (λ j less. let first : j ≡ 0 = omega (arith, less) in subst (λ (t : ℕ). get_or new (at + i + t) d ≡ c.args.neutral) (sym first) (ap (λ (t : ℕ). get_or new t d) (let e : at + i + 0 ≡ at + i = omega arith in e) ∙ get_or-set_same mid (at + i) c.args.neutral d (omega (arith, c.loop-i.invariant.put.size, c.requires))))
          (λ j less. c.loop-i.invariant.made j d less) j lt;
    }
