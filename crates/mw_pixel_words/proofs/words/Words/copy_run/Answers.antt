use Rattle.std.proofs.Common.{◌≡◌, ℕ, ◌+◌, ◌-◌, ◌*◌, List, length, slice_range, get_or, ap, ◌∙◌, arith}
use Rattle.mw_model.proofs.mw_facts.Elements.{take-written}
use Rattle.mw_model.specs.Rasters.{Raster, raster}
use Rattle.mw_pixel_words.specs.Packed.{samples_of}
use Rattle.mw_pixel_words.specs.Runs.{put_at}
use Rattle.mw_pixel_words.proofs.Bits.{rows_fit}
use Rattle.mw_pixel_words.proofs.Copies.{RowCopied, copied_packed, copied_samples, copied_whole}
use Rattle.mw_pixel_words.proofs.words.Words.copy_run.Goals as goal
use borrow.Rule.Slice.PartMut.{put_mid}

pub invariant_of-self : goal.invariant_of-self
invariant_of-self c =
    let inside = c.self.inside in
    let other = c.args.other.now in
    let x = c.args.x in
    let y = c.args.y in
    let u = c.args.u in
    let v = c.args.v in
    let count = c.args.count in
    let s = c.stride-stride.result in
    let m = y * s + s - y * s in
    let words = c.deref_mut.result.now in
    let made = c.copy_bits.new.words in
    let a = v * other.width + u in
    let width-is : inside.width ≡ c.args.self.now.width = ap (λ (t : Raster ℕ). t.width) c.self.view_is in
    let height-is : inside.height ≡ c.args.self.now.height = ap (λ (t : Raster ℕ). t.height) c.self.view_is in
    let group : (i : ℕ) → v * other.width + (u + i) ≡ a + i = λ i. omega arith in
    let is : RowCopied inside.width inside.height x y s m count a u words made other.cells c.row.result.now = record {
      stride = c.stride-stride.ensures.value;
      whole = omega arith;
      down = omega arith;
      across = omega arith;
      packed = rw c.deref_mut.ensures.value c.self.invariant;
      copied = c.copy_bits.ensures;
      inside = omega (arith, c.width-other.ensures.size, rows_fit v other.height other.width c.requires.down_other);
      same = λ i lt. c.row.ensures.samples (u + i) (omega arith) ∙ ap (λ (t : ℕ). get_or other.cells t 0) (group i);
    } in
    let whole : length (put_mid (y * s) m words made) ≡ inside.words.len =
    copied_whole inside.width inside.height x y s m count a u words made other.cells c.row.result.now is ∙ ap length c.deref_mut.ensures.value ∙ omega arith in
    rw (take-written inside.words.items (put_mid (y * s) m words made) inside.words.len whole)
    (copied_packed inside.width inside.height x y s m count a u words made other.cells c.row.result.now is)

pub returns : goal.returns
returns c =
    let inside = c.self.inside in
    let other = c.args.other.now in
    let x = c.args.x in
    let y = c.args.y in
    let u = c.args.u in
    let v = c.args.v in
    let count = c.args.count in
    let s = c.stride-stride.result in
    let m = y * s + s - y * s in
    let words = c.deref_mut.result.now in
    let made = c.copy_bits.new.words in
    let a = v * other.width + u in
    let width-is : inside.width ≡ c.args.self.now.width = ap (λ (t : Raster ℕ). t.width) c.self.view_is in
    let height-is : inside.height ≡ c.args.self.now.height = ap (λ (t : Raster ℕ). t.height) c.self.view_is in
    let group : (i : ℕ) → v * other.width + (u + i) ≡ a + i = λ i. omega arith in
    let is : RowCopied inside.width inside.height x y s m count a u words made other.cells c.row.result.now = record {
      stride = c.stride-stride.ensures.value;
      whole = omega arith;
      down = omega arith;
      across = omega arith;
      packed = rw c.deref_mut.ensures.value c.self.invariant;
      copied = c.copy_bits.ensures;
      inside = omega (arith, c.width-other.ensures.size, rows_fit v other.height other.width c.requires.down_other);
      same = λ i lt. c.row.ensures.samples (u + i) (omega arith) ∙ ap (λ (t : ℕ). get_or other.cells t 0) (group i);
    } in
    let whole : length (put_mid (y * s) m words made) ≡ inside.words.len =
    copied_whole inside.width inside.height x y s m count a u words made other.cells c.row.result.now is ∙ ap length c.deref_mut.ensures.value ∙ omega arith in
    let run = slice_range other.cells a (a + count) in
    ap (λ (t : List ℕ). raster inside.width inside.height (samples_of inside.width inside.height t)) (take-written inside.words.items (put_mid (y * s) m words made) inside.words.len whole)
    ∙ ap (raster inside.width inside.height) (copied_samples inside.width inside.height x y s m count a u words made other.cells c.row.result.now is)
    ∙ ap (λ (t : List ℕ). raster inside.width inside.height (put_at (y * inside.width + x) run (samples_of inside.width inside.height t))) c.deref_mut.ensures.value
    ∙ ap (λ (t : Raster ℕ). raster t.width t.height (put_at (y * t.width + x) run t.cells)) c.self.view_is
