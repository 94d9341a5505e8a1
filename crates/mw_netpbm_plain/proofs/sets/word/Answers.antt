use Rattle.std.proofs.Common.{◌≡◌, ◌<◌, ◌≤◌, ◌+◌, ◌*◌, ◌%◌, ◌^◌, ℕ, sym, ap, ◌∙◌, arith}
use Rattle.std.proofs.lemmas.Result.{err_from_is_err_and}
use Rattle.mw_netpbm_plain.specs.SetWords.{word_at}
use Rattle.mw_netpbm_plain.proofs.PlainSets.{one_pixel_more, fault_pixel, all_pixels, no_pixels, shifted, grown, fits_word}
use Rattle.mw_netpbm_plain.proofs.sets.word.Goals as goal

pub pixels-init : goal.pixels-init
pixels-init c = record {
  made = no_pixels c.args.count c.args.bytes.now;
  small = omega arith;
}

pub overflow_add-word : goal.overflow_add-word
overflow_add-word c =
    let low : c.pixels.i < 64 = omega (arith, c.requires, c.pixels-test.true) in
    let bit : c.from.result ≤ 1 = omega (arith, c.from.ensures, c.in_ok-s.ensures.small) in
    record {
      fits = fits_word (c.pixels.word + c.from.result * 2 ^ c.pixels.i % 2 ^ 64) c.pixels.i (grown c.pixels.word c.from.result c.pixels.i c.pixels.invariant.small bit low) low;
    }

pub pixels-preserved : goal.pixels-preserved
pixels-preserved c =
    let i = c.pixels.i in
    let s = c.in_ok-s.s in
    let low : c.pixels.i < 64 = omega (arith, c.requires, c.pixels-test.true) in
    let bit : c.from.result ≤ 1 = omega (arith, c.from.ensures, c.in_ok-s.ensures.small) in
    let added : c.pixels.word + c.from.result * 2 ^ c.pixels.i % 2 ^ 64 ≡ c.pixels.word + c.in_ok-s.s * 2 ^ c.pixels.i =
    ap (λ (n : ℕ). c.pixels.word + n) (shifted c.from.result i bit low) ∙ ap (λ (n : ℕ). c.pixels.word + n * 2 ^ i) c.from.ensures in
    record {
      made = one_pixel_more c.args.count i c.pixels.word (c.pixels.word + c.from.result * 2 ^ i % 2 ^ 64) s c.pixels.rest.now c.in_ok-s.after.now (word_at c.args.count c.args.bytes.now) c.pixels-test.true (sym c.in_ok-s.ensures.value) added c.pixels.invariant.made;
      small = grown c.pixels.word c.from.result i c.pixels.invariant.small bit low;
    }

pub returns-in_err-s : goal.returns-in_err-s
returns-in_err-s c =
    let p = err_from_is_err_and c.from_residual.result c.from_residual.ensures.1 in
    rw (p.1, p.2) (fault_pixel c.args.count c.pixels.i c.pixels.word c.pixels.rest.now c.in_err-s.field-0.0 (word_at c.args.count c.args.bytes.now) c.pixels-test.true (sym c.in_err-s.ensures.value) c.pixels.invariant.made)

pub returns : goal.returns
returns c = all_pixels c.args.count c.pixels.i c.pixels.word c.pixels.rest.now (word_at c.args.count c.args.bytes.now) c.pixels-test.false c.pixels.invariant.made
