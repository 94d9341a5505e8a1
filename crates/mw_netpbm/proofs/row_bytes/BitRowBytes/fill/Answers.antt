use Rattle.std.proofs.Common.{ℕ, List, ◌+◌, ◌/◌, ◌++◌, ap, arith, ◌∙◌}
use Rattle.std.specs.List.{flat_map}
use Rattle.mw_model.specs.NetpbmWriting.{packed}
use Rattle.mw_netpbm.specs.SetWords.{pixels_of}
use Rattle.mw_netpbm.proofs.Packing.{packed_length}
use Rattle.mw_netpbm.proofs.SetRows.{only_row}
use Rattle.mw_netpbm.proofs.row_bytes.BitRowBytes.fill.Goals as goal

pub push_packed-requires-clause-room : goal.push_packed-requires-clause-room
push_packed-requires-clause-room c =
    let room = c.requires.room in
    omega (arith, packed_length ((c.args.row.now.width + 7) / 8) c.args.row.now.cells, c.width.ensures.value, c.clear.ensures.len, c.clear.ensures.capacity)

pub returns-clause-value : goal.returns-clause-value
returns-clause-value c =
    let set = c.args.row.now in
    c.push_packed.ensures.bytes
    ∙ ap (λ (bs : List ℕ). bs ++ packed ((c.width.result + 7) / 8) (flat_map pixels_of c.row.result.now)) c.clear.ensures.items
    ∙ only_row set.width set.height ((c.width.result + 7) / 8) c.row.result.now set.cells c.requires.one c.width.ensures.size c.row.ensures.samples c.row.ensures.clean
    ∙ ap (λ (n : ℕ). packed ((n + 7) / 8) set.cells) c.width.ensures.value
