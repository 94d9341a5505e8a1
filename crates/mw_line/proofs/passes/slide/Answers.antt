use Rattle.std.proofs.Common.{◌≡◌, ◌+◌, ◌-◌, ◌*◌, ◌≤◌, ◌<◌, length-take, length-drop, take, drop, length, arith, ◌∙◌, inl, inr}
use Rattle.std.proofs.lemmas.Bool.{cases_lt}
use Rattle.std.proofs.lemmas.List.{take_rest}
use Rattle.mw_model.proofs.mw_facts.Parts.{length-put_mid, get_or-put_mid_below, get_or-put_mid_within}
use Rattle.std.specs.Int.{div_ceil}
use Rattle.mw_line.proofs.Cut.{div_ceil-block}
use Rattle.mw_line.proofs.Folds.{IsExtremum, window_done}
use borrow.Rule.Slice.PartMut.{put_mid}
use Rattle.mw_line.proofs.passes.slide.Goals as goal
use Rattle.mw_line.proofs.passes.slide.Goals.{then-k-room, else-k-room}

pub chunks-preserved : goal.chunks-preserved
chunks-preserved g c =
    let f = g.C.Counted.merge in
    let n = c.args.neutral in
    let padded = c.args.padded.now in
    let at = c.chunks.at in
    let k = c.args.k in
    let m = c.if-k-room.m in
    let laws : IsExtremum f = record { commutes = g.met.C.Counted.commutes; associates = g.met.C.Counted.associates; is_idempotent = g.met.C.Counted.is_idempotent } in
    let short : m ≤ k = elim c.if-k-room.branch [ then-k-room w ↦ omega arith | else-k-room w ↦ omega arith ] in
    let fits : at + m ≤ length c.chunks.out = elim c.if-k-room.branch [ then-k-room w ↦ omega arith | else-k-room w ↦ omega arith ] in
    let full : at + m < length c.chunks.out → m ≡ k = elim c.if-k-room.branch [ then-k-room w ↦ λ h. omega arith | else-k-room w ↦ λ h. omega arith ] in
    let counted_back = c.backward.ensures.counted in
    let counted_on = c.forward.ensures.counted in
    let whole = c.chunks.invariant.whole c.chunks-test.true in
    let some : 0 < m = elim c.if-k-room.branch [ then-k-room w ↦ omega arith | else-k-room w ↦ omega arith ] in
    let blocks : div_ceil (at + m) k * k ≡ at + k = div_ceil-block at m k whole some short in
    let written : length c.forward.new.out ≡ m = omega (arith, c.forward.auto.out, length-take (at + m - at) (drop at c.chunks.out), length-drop at c.chunks.out) in
    let same : length (put_mid at (at + m - at) c.chunks.out c.forward.new.out) ≡ length c.chunks.out = length-put_mid at (at + m - at) c.chunks.out c.forward.new.out (omega arith) (omega arith) in
    let so_far = c.chunks.invariant.counted in
    record {
      within = omega arith;
      whole = λ lt. let all : m ≡ k = full (omega arith) in omega (arith, blocks, all);
      counted = omega (arith, counted_back, counted_on, so_far, whole, blocks, length-take (at + k - at) (drop at padded), length-drop at padded, length-take (at + m - at) (drop at c.chunks.out), length-drop at c.chunks.out);
      done = λ i lt. elim (cases_lt i at) [
        | inl before ↦ get_or-put_mid_below at (at + m - at) c.chunks.out c.forward.new.out i n (omega arith) before ∙ c.chunks.invariant.done i before
        | inr from ↦ get_or-put_mid_within at (at + m - at) c.chunks.out c.forward.new.out i n (omega arith) from (omega arith)
            ∙ window_done f laws n padded (take (length padded - (at + k)) (drop (at + k) padded)) c.backward.new.tail c.forward.new.out at k (at + k - at) m i (omega arith) (take_rest padded (at + k)) short (omega arith) c.backward.ensures.value (λ r less. c.forward.ensures.value r (omega (arith, length-take (at + m - at) (drop at c.chunks.out), length-drop at c.chunks.out))) from lt
      ];
    }
