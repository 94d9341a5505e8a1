use Rattle.std.proofs.Common.{◌≡◌, ℕ, ◌+◌, ◌∙◌, ap, sym, get_or, arith}
use Rattle.mw_offset.proofs.mw_line.Folds.{IsExtremum}
use Rattle.mw_offset.proofs.Rooms.{merged_again}
use Rattle.mw_offset.specs.mw_pixel_words.Packed.{bit_of}
use Rattle.mw_bits_rows.specs.Rows.{laid_bits}
use Rattle.mw_bits_rows.proofs.Laid.{laid_bit}
use Rattle.mw_bits.specs.Waiting.{with_waiting}
use Rattle.mw_bits.proofs.by_runs.combine_run.Goals as goal

pub returns-then-extra-eq0-clause-value : goal.returns-then-extra-eq0-clause-value
returns-then-extra-eq0-clause-value g c = λ q d lt.
    let f = g.E.Extremum.merge in
    let laws : IsExtremum f = record { commutes = g.met.E.Extremum.commutes; associates = g.met.E.Extremum.associates; is_idempotent = g.met.E.Extremum.is_idempotent } in
    let cells = c.args.cells.now in
    let start = c.args.start in
    let best = with_waiting f cells q c.args.waiting (bit_of c.args.out.now q) in
    let room = c.requires.room in
    let same : start + q ≡ start + c.args.extra + q = omega arith in
    c.combine_next-first.ensures.value q lt
    ∙ ap (f best) (sym (laid_bit cells (start + q) d (omega arith)))
    ∙ sym (merged_again f laws best (get_or (laid_bits cells) (start + q) d))
    ∙ ap (λ (t : ℕ). f (f best (get_or (laid_bits cells) (start + q) d)) (get_or (laid_bits cells) t d)) same

pub returns-clause-value : goal.returns-clause-value
returns-clause-value g c = λ q d lt.
    let f = g.E.Extremum.merge in
    let cells = c.args.cells.now in
    let start = c.args.start in
    let last = start + c.args.extra + q in
    let best = with_waiting f cells q c.args.waiting (bit_of c.args.out.now q) in
    let room = c.requires.room in
    c.combine_next.ensures.value q (omega arith)
    ∙ ap (λ (t : ℕ). f t (bit_of cells last)) (c.combine_next-first.ensures.value q lt)
    ∙ ap (λ (t : ℕ). f (f best t) (bit_of cells last)) (sym (laid_bit cells (start + q) d (omega arith)))
    ∙ ap (f (f best (get_or (laid_bits cells) (start + q) d))) (sym (laid_bit cells last d (omega arith)))
