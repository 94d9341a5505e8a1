use Rattle.std.proofs.Common.{◌≡◌, ℕ, ap, refl, ◌∙◌, ◌+◌, ◌-◌, ◌*◌, drop, length-take, arith}
use Rattle.mw_offset.specs.mw_pixel_words.Packed.{stride_of}
use Rattle.mw_model.specs.declared.offsets.Rect.{Rect}
use Rattle.mw_bits_rows.proofs.Paddings.{IsNeutral}
use Rattle.mw_bits.proofs.HeldRows.{copied_rows, rows_still_packed}
use Rattle.mw_bits.proofs.spread.copy_held.Goals as goal

pub copy_rows-requires-clause-packed : goal.copy_rows-requires-clause-packed
copy_rows-requires-clause-packed g c =
    let place = c.args.set.now.place in
    let s = c.stride-wide.result in
    let row = c.args.row in
    let width-is = ap (λ (t : Rect). t.width) c.place-width.ensures.value in
    rows_still_packed c.place-width.result.width place.width place.height row c.args.high s ((row + c.args.high) * s - row * s) c.words_of-words.result.now width-is c.stride-wide.ensures.value refl c.requires.inside c.words_of-words.ensures.packed

pub returns : goal.returns
returns g c =
    let n = g.E.Extremum.neutral_of 1 in
    let laws : IsNeutral g.E.Extremum.merge n = record { commutes = g.met.E.Extremum.commutes; changes_none = g.met.E.Extremum.neutral_changes_none 1 } in
    let set = c.args.set.now in
    let s = c.stride-wide.result in
    let row = c.args.row in
    let high = c.args.high in
    let width-is = ap (λ (t : Rect). t.width) c.place-width.ensures.value in
    let sizes : high * s ≡ high * stride_of set.place.width = ap (λ (t : ℕ). high * t) (c.stride-wide.ensures.value ∙ ap stride_of width-is) in
    copied_rows g.E.Extremum.merge n laws c.place-width.result.width set.place.width set.place.height row high s ((row + high) * s - row * s) c.words_of-words.result.now set.cells c.copy_rows.new.out (drop (high * s) c.args.out.now)
    width-is c.stride-wide.ensures.value refl c.words_of-words.ensures.samples c.requires.inside (omega (arith, sizes, length-take (high * s) c.args.out.now)) c.copy_rows.ensures
