use Rattle.std.proofs.Common.{ℕ, List, ◌++◌, ap, ◌∙◌}
use Rattle.mw_netpbm.proofs.Chunks.{rest_words}
use Rattle.mw_netpbm.proofs.raw.push_rest.Goals as goal

pub returns : goal.returns
returns c =
    c.in_ok-extend_from_slice.ensures.items
    ∙ ap (λ (ws : List ℕ). c.args.out.now.items ++ ws) (rest_words c.args.left c.args.rest.now c.block_of.result c.pixels_in-words.result c.requires.some.1 c.block_of.ensures c.pixels_in-words.ensures)
