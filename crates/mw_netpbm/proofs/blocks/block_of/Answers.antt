use Rattle.std.proofs.Common.{◌≡◌, ℕ, ◌+◌, ◌-◌, ◌*◌, List, ◌++◌, length, replicate, set, get_or, ap, ◌∙◌, arith}
use Rattle.std.specs.List.{flat_map}
use Rattle.mw_model.specs.NetpbmGrammar.{bits_of}
use Rattle.mw_netpbm.specs.Rasters.{row_bits}
use Rattle.mw_netpbm.proofs.CutRows.{cut, cut_row, bytes_small}
use Rattle.mw_netpbm.proofs.blocks.block_of.Goals as goal

pub returns : goal.returns
returns c =
    let row = c.args.row.now in
    let count = c.args.count in
    let behind : ℕ = 64 - length row in
    let spare : ℕ = 8 * length row - count in
    let last : ℕ = length row - 1 in
    let zeros : 8 * length row - count + 8 * (64 - length row) ≡ 512 - count = omega arith in
    ap (λ (bs : List ℕ). flat_map bits_of (set bs last (cut spare (get_or bs last 0)))) c.padded-block.ensures
    ∙ cut_row row count spare behind last (omega arith) c.requires.long (omega arith) (bytes_small row c.type_inv.row)
    ∙ ap (λ (n : ℕ). row_bits count row ++ replicate n 0) zeros
