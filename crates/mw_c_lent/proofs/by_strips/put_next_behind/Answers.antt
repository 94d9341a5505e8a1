use Rattle.std.proofs.Common.{◌≡◌, ℕ, ◌+◌, ◌-◌, ◌*◌, true, map, refl, ap, arith}
use Rattle.std.proofs.lemmas.Result.{IfOk-weaker}
use borrow.Rule.Slice.PartMut.{put_mid}
use Rattle.mw_model.specs.Pictures.{sample}
use Rattle.mw_model.specs.Tasks.{cells_in}
use Rattle.mw_c_arrays.specs.Sources.{picture_in}
use Rattle.mw_c_arrays.proofs.SourceImages.{source_image}
use Rattle.mw_c_lent.specs.Composites.{composite_picture}
use Rattle.mw_c_lent.specs.Rows.{HasImageRows}
use Rattle.mw_c_lent.proofs.InStrips.{composite_size, composite_strip}
use Rattle.mw_c_lent.proofs.Slid.{frame_strip}
use Rattle.mw_c_lent.proofs.Written.{rows_put}
use Rattle.mw_c_lent.proofs.by_strips.put_next_behind.Goals as goal

pub returns-clause-made : goal.returns-clause-made
returns-clause-made g c =
    let level = g.P.Pixel.level in
    let k = c.args.composition in
    let f = picture_in k.f in
    let made = composite_picture k.composite f in
    let r = c.args.next.strip in
    let first = c.args.next.first in
    let old = c.args.out.now in
    let part = c.put_next.new.out in
    let a : ℕ = (r.y - first) * r.width in
    let n : ℕ = r.height * r.width in
    let same : a + n - a ≡ n = omega arith in
    let strip = composite_strip k.composite f r (frame_strip f.width f.height r f refl refl c.requires.strip) in
    let size = composite_size k.composite f (source_image k.f c.requires.sound.image).picture in
    let row : r.y ≡ first + (r.y - first) = omega (arith, c.requires.first) in
    IfOk-weaker c.put_next.result (λ done. done ≡ true → map level part ≡ cells_in r (sample made))
    (λ done. done ≡ true → HasImageRows level made first r.y old → HasImageRows level made first (r.y + r.height) (put_mid a (a + n - a) old part))
    (λ done is yes before. rows_put level made r first (r.y - first) old part (put_mid a (a + n - a) old part) strip size row c.requires.room (is yes) (ap (λ (m : ℕ). put_mid a m old part) same) before)
    c.put_next.ensures.made
