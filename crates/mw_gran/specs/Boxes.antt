-- Boxes of offsets with multiplied bounds.
use Rattle.std.specs.Prelude.{ℕ, pos, ◌*ℤ◌}
use Rattle.mw_model.specs.declared.offsets.OffsetBox.{OffsetBox}

-- the box with all four bounds multiplied
abbrev pub multiplied : ℕ → OffsetBox → OffsetBox
multiplied n box = record { x0 = pos n *ℤ box.x0; x1 = pos n *ℤ box.x1; y0 = pos n *ℤ box.y0; y1 = pos n *ℤ box.y1 }
