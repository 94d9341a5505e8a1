use Rattle.std.proofs.Common.{◌≡◌, ℕ, ◌+◌, ◌-◌, ◌≤◌, ◌∙◌, List, ap, arith, fold, get_or, length, refl}
use Rattle.std.proofs.lemmas.List.{take_all}
use Rattle.mw_model.proofs.mw_facts.Alls.{all-get_or}
use Rattle.mw_offset.specs.MergedAt.{merge_from}
use Rattle.mw_offset.proofs.Parts.{merged_more}
use Rattle.mw_offset.proofs.Rooms.{part_merged, part_size}
use Rattle.mw_offset.proofs.merging.merge_block.Goals as goal

pub loop-place-init : goal.loop-place-init
loop-place-init g c = record {
  size = omega (arith, c.requires.whole, ap length c.copy_from_slice.ensures.after);
  done = λ q d lt. ap (λ (t : List g.row.P.Denot). get_or t q d) c.copy_from_slice.ensures.after;
}

pub loop-place-preserved : goal.loop-place-preserved
loop-place-preserved g c =
    let f = g.E.Extremum.merge in
    let cells = c.args.cells.now in
    let places = c.args.places.now in
    let at = c.args.at in
    let j = c.loop-place.place-index in
    let place = get_or places j 0 in
    let from = place + at in
    let best = c.loop-place.best in
    let made = c.combine_block.new.acc in
    let inside = all-get_or (λ (p : ℕ). p + (at + 64) ≤ length cells) places j 0 (omega arith) c.requires.room in
    let size : length best ≡ 64 = c.loop-place.invariant.size in
    record {
      size = part_size f best cells made from (from + 64 - from) (omega arith) (omega arith) c.combine_block.ensures ∙ size;
      done = λ q d lt.
          merged_more f cells d at q j place places (get_or c.args.block.now q d) (get_or best q d) (get_or made q d) (omega arith) refl (c.loop-place.invariant.done q d lt)
          (part_merged f best cells made from (from + 64 - from) q d (omega arith) (omega arith) c.combine_block.ensures (omega arith));
    }

pub returns : goal.returns
returns g c = λ q d lt.
    let f = g.E.Extremum.merge in
    let places = c.args.places.now in
    ap (λ (t : List g.row.P.Denot). get_or t q d) c.copy_from_slice-2.ensures.after
    ∙ c.loop-place.invariant.done q d lt
    ∙ ap (fold (merge_from f c.args.cells.now d (c.args.at + q)) (get_or c.args.block.now q d)) (take_all c.loop-place.place-index places (omega arith))
