use Rattle.std.proofs.Common.{◌≡◌, ℕ, ◌+◌, ◌*◌, get_or, ap, ◌∙◌, arith}
use Rattle.mw_pixel_words.proofs.Bits.{rows_fit}
use Rattle.mw_pixel_words.proofs.Compared.{IsRun, runs_same, bits_same}
use Rattle.mw_pixel_words.proofs.words.Words.same_run.Goals as goal

pub returns : goal.returns
returns c =
    let self = c.args.self.now in
    let other = c.args.other.now in
    let x = c.args.x in
    let y = c.args.y in
    let u = c.args.u in
    let v = c.args.v in
    let count = c.args.count in
    let a = y * self.width + x in
    let b = v * other.width + u in
    let group : (p q r i : ℕ) → p * q + (r + i) ≡ p * q + r + i = λ p q r i. omega arith in
    let is : IsRun x count a c.row.result.now self.cells = record {
      inside = omega (arith, c.width-first.ensures.size, rows_fit y self.height self.width c.requires.down);
      bits = λ i lt. c.row.ensures.samples (x + i) (omega arith) ∙ ap (λ (t : ℕ). get_or self.cells t 0) (group y self.width x i);
    } in
    let are : IsRun u count b c.row-2.result.now other.cells = record {
      inside = omega (arith, c.width-second.ensures.size, rows_fit v other.height other.width c.requires.down_other);
      bits = λ i lt. c.row-2.ensures.samples (u + i) (omega arith) ∙ ap (λ (t : ℕ). get_or other.cells t 0) (group v other.width u i);
    } in (
      λ true. runs_same x u count a b c.row.result.now c.row-2.result.now self.cells other.cells is are (c.same_bits.ensures.0 true),
      λ same. c.same_bits.ensures.1 (bits_same x u count a b c.row.result.now c.row-2.result.now self.cells other.cells is are same),
    )
