use Rattle.std.proofs.Common.{ℕ, List, ◌≡◌, ◌+◌, ◌-◌, ◌∙◌, ap, arith, take, drop, get_or, length-take, length-drop, length}
use Rattle.std.proofs.lemmas.Simd.{put_chunk_whole}
use borrow.Rule.Slice.PartMut.{put_mid}
use Rattle.mw_rank_counts.proofs.Lanes.{put_at}
use Rattle.mw_rank_counts.proofs.squeezed.put_lanes.Goals as goal

pub returns-clause-put : goal.returns-clause-put
returns-clause-put c = λ j lt.
    let at = c.args.at in
    let bytes = c.args.bytes.now in
    let old = take (at + 32 - at) (drop at bytes) in
    let whole : length old ≡ length c.args.lanes = omega (arith, length-take (at + 32 - at) (drop at bytes), length-drop at bytes) in
    ap (λ (t : List ℕ). get_or (put_mid at (at + 32 - at) bytes t) (at + j) 0) (put_chunk_whole old c.args.lanes whole)
    ∙ put_at bytes c.args.lanes _ at j (omega arith) (omega arith)
