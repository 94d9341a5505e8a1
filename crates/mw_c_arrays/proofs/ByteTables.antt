-- Tables of the pixels of bytes.
use Rattle.std.proofs.Common.{◌≡◌, ℕ, ◌+◌, ◌*◌, ◌/◌, ◌%◌, ◌<◌, List, get_or, take, drop, ap, arith, ◌∙◌}
use Rattle.std.specs.Int.{bit_at}
use Rattle.std.proofs.lemmas.List.{get_or-take, get_or-drop}
use Rattle.mw_c_arrays.specs.Tables.{IsTable}

-- the pixels that a table has for a byte
pub table_pixels : (cells : List ℕ) (byte at m b : ℕ) → IsTable cells → byte < 256 → at ≡ 8 * byte → m ≡ 8 → b < 8 → get_or (take m (drop at cells)) b 0 ≡ bit_at byte b
table_pixels cells byte at m b table small at-is m-is lt =
    let whole : (at + b) / 8 ≡ byte = omega arith in
    let rest : (at + b) % 8 ≡ b = omega arith in
    get_or-take m (drop at cells) b 0 (omega arith)
    ∙ get_or-drop at cells b 0
    ∙ table.bits (at + b) (omega arith)
    ∙ ap (λ (t : ℕ). bit_at t ((at + b) % 8)) whole
    ∙ ap (bit_at byte) rest
