use Rattle.std.proofs.Common.{arith, refl, ◌-◌, ◌*◌, ◌∙◌, length}
use Rattle.mw_line.proofs.Folds.{IsExtremum}
use Rattle.mw_line.proofs.Joined.{taken_fits, taken_all}
use Rattle.mw_bits_rows.specs.Rows.{laid_bits}
use Rattle.mw_bits_rows.proofs.Laid.{slid_more}
use Rattle.mw_bits_rows.proofs.doubling.slide_words.Goals as goal

pub overflow_sub-left-in-doubling : goal.overflow_sub-left-in-doubling
overflow_sub-left-in-doubling g c =
    taken_fits g.E.Extremum.merge (laid_bits c.args.cells.now) (64 * (length c.args.cells.now - 1)) c.args.stride c.args.k c.doubling.taken c.doubling.left c.doubling.taken (laid_bits c.doubling.cells) c.doubling.invariant.taken_by (omega arith) c.requires.room

pub doubling-preserved : goal.doubling-preserved
doubling-preserved g c =
    let laws : IsExtremum g.E.Extremum.merge = record { commutes = g.met.E.Extremum.commutes; associates = g.met.E.Extremum.associates; is_idempotent = g.met.E.Extremum.is_idempotent } in
    let known = c.doubling.invariant in
    record {
      cells_size = c.combine_ahead.auto.cells ∙ known.cells_size;
      taken_by = slid_more g.E.Extremum.merge laws c.args.cells.now c.doubling.cells c.combine_ahead.new.cells c.args.stride c.args.k c.doubling.taken c.doubling.left c.doubling.taken (c.doubling.taken * c.args.stride) (c.doubling.left - c.doubling.taken * c.args.stride) (c.doubling.taken * 2)
          known.cells_size c.combine_ahead.auto.cells known.taken_by (omega arith) (omega arith) c.requires.room refl refl (omega arith) c.combine_ahead.ensures;
    }

pub returns-then-taken-k : goal.returns-then-taken-k
returns-then-taken-k g c =
    let f = g.E.Extremum.merge in
    let laws : IsExtremum f = record { commutes = g.met.E.Extremum.commutes; associates = g.met.E.Extremum.associates; is_idempotent = g.met.E.Extremum.is_idempotent } in
    let known = c.doubling.invariant in
    let j = c.args.k - c.doubling.taken in
    let rest = c.doubling.left - j * c.args.stride in
    let made = c.combine_ahead-then-taken-k.new.cells in
    let all = slid_more f laws c.args.cells.now c.doubling.cells made c.args.stride c.args.k c.doubling.taken c.doubling.left j (j * c.args.stride) rest c.args.k
    known.cells_size c.combine_ahead-then-taken-k.auto.cells known.taken_by (omega arith) (omega arith) c.requires.room refl refl (omega arith) c.combine_ahead-then-taken-k.ensures in
    λ p d lt. taken_all f (laid_bits c.args.cells.now) (64 * (length c.args.cells.now - 1)) c.args.stride c.args.k c.args.k rest (laid_bits made) all refl p d lt
