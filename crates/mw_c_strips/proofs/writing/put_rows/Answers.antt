use Rattle.std.proofs.Common.{◌≡◌, ℕ, ◌+◌, ◌-◌, ◌*◌, ap, arith, ◌∙◌}
use borrow.Rule.Slice.PartMut.{put_mid}
use Rattle.mw_model.specs.Pictures.{Picture}
use Rattle.mw_c_lent.proofs.Written.{rows_put}
use Rattle.mw_c_strips.proofs.writing.put_rows.Goals as goal

pub returns : goal.returns
returns g c = λ f first part strip size row before.
    let a : ℕ = c.args.done * c.args.strip.width in
    let k : ℕ = c.args.strip.height * c.args.strip.width in
    let same : a + k - a ≡ k = omega arith in
    rows_put g.P.Pixel.level f c.args.strip first c.args.done c.args.out.now c.put.new.out (put_mid a (a + k - a) c.args.out.now c.put.new.out) strip size row c.requires.room
    (c.put.ensures ∙ ap (λ (h : Picture). h.samples) part) (ap (λ (m : ℕ). put_mid a m c.args.out.now c.put.new.out) same) before
