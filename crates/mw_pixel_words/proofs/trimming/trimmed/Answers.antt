use Rattle.std.proofs.Common.{◌≡◌, ℕ, ◌+◌, ◌*◌, List, length, ap, ◌∙◌, arith}
use Rattle.mw_model.proofs.mw_facts.Elements.{take-written}
use Rattle.mw_pixel_words.specs.Packed.{bit_of}
use Rattle.mw_pixel_words.proofs.Trims.{first_trimmed, trimmed_rows}
use Rattle.mw_pixel_words.proofs.trimming.trimmed.Goals as goal

pub returns-clause-packed : goal.returns-clause-packed
returns-clause-packed c =
    let out = c.trim_rows.new.out in
    let whole : length out ≡ c.in_ok-out.out.len = omega arith in
    let size : c.args.high * c.stride.result ≡ c.args.high * _ = ap (λ (t : ℕ). c.args.high * t) c.stride.ensures.value in
    rw (take-written c.in_ok-out.out.items out c.in_ok-out.out.len whole) (trimmed_rows c.args.width c.args.high c.as_mut_slice.result.now out (whole ∙ c.in_ok-out.ensures.size ∙ size) c.trim_rows.ensures)

pub returns-clause-bits : goal.returns-clause-bits
returns-clause-bits c =
    let out = c.trim_rows.new.out in
    let whole : length out ≡ c.in_ok-out.out.len = omega arith in
    rw (take-written c.in_ok-out.out.items out c.in_ok-out.out.len whole)
    (first_trimmed c.args.width c.args.high c.stride.result c.args.wide c.args.cells.now c.as_mut_slice.result.now out c.stride.ensures.value
    (λ x y lt row_less. ap (λ (t : List ℕ). bit_of t (y * (64 * c.stride.result) + x)) c.as_mut_slice.ensures.value ∙ c.in_ok-out.ensures.bits x y lt row_less) c.trim_rows.ensures)
