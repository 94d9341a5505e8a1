use Rattle.std.proofs.Common.{◌≡◌, ◌+◌, ◌++◌, ◌∙◌, ℕ, List, length, take, drop, get_or, ap, sym, subst, arith}
use Rattle.std.proofs.lemmas.List.{take_at}
use Rattle.mw_c_geodesic.specs.Sides.{IsLeastTold, how_far}
use Rattle.mw_c_geodesic.proofs.Nearest.{told_next}
use Rattle.mw_c_geodesic.proofs.sides.nearest.Goals as goal

pub loop-i-preserved : goal.loop-i-preserved
loop-i-preserved c =
    let told = how_far c.args.side c.args.width c.args.height in
    let labels = c.args.labels.now in
    let items = c.loop-i.least.items in
    let old = c.deref_mut.result.now in
    let new = c.take_note.new.least in
    let size : length new ≡ c.loop-i.least.len = omega (arith, c.take_note.ensures.size, c.deref_mut.ensures.len) in
    let whole : take c.loop-i.least.len (new ++ drop (length new) items) ≡ new = take_at new (drop (length new) items) c.loop-i.least.len size in
    let same = ap length c.deref_mut.ensures.value in
    let known = c.loop-i.invariant.size in
    record {
      size = ap length whole ∙ c.take_note.ensures.size ∙ same ∙ known;
      each = λ k lt.
          subst (λ (t : List ℕ). IsLeastTold told labels (c.loop-i.i + 1) (k + 1) (get_or t k 0)) (sym whole)
          (told_next told labels items old c.loop-i.i k c.how_far.result (get_or new k 0) c.deref_mut.ensures.value c.how_far.ensures (c.take_note.ensures.each k (omega (arith, same, known))) (c.loop-i.invariant.each k lt));
    }
