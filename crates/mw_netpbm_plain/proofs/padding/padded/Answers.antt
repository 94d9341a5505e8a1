use Rattle.std.proofs.Common.{◌++◌, List, ℕ, length, replicate, drop, ap, ◌∙◌}
use Rattle.std.proofs.lemmas.List.{drop-replicate}
use Rattle.mw_netpbm_plain.proofs.padding.padded.Goals as goal

pub returns : goal.returns
returns c =
    let size = length c.args.bytes.now in
    ap (λ (t : List ℕ). t ++ drop size (replicate 64 c.args.filler)) c.copy_from_slice.ensures.after ∙ ap (λ (t : List ℕ). c.args.bytes.now ++ t) (drop-replicate size 64 c.args.filler)
