use Rattle.std.proofs.Common.{ℕ}
use Rattle.std.specs.Prelude.{nat_le, if◌then◌else◌}
use Rattle.mw_model.specs.declared.shapes.Kind.TheVariants as kind
use Rattle.mw_step.proofs.PlaceByPlace.{each_plane}
use Rattle.mw_step.proofs.singles.at_least.Goals as goal

pub returns-in_ok-upper_of_set-in-Bits : goal.returns-in_ok-upper_of_set-in-Bits
returns-in_ok-upper_of_set-in-Bits c = c.made_bits.ensures _ (each_plane (λ (n : ℕ). if nat_le c.args.k n then 1 else 0) c.args.a.now kind.Bit 1 kind.Bit 1 c.in-Bits.set.now c.in_ok-upper_of_set-in-Bits.field-0 c.in-Bits.ensures (record { width = c.in_ok-upper_of_set-in-Bits.ensures.width; height = c.in_ok-upper_of_set-in-Bits.ensures.height }) c.upper_of_set.ensures.size c.in_ok-upper_of_set-in-Bits.ensures.cells)

pub returns-in_ok-upper_set-in-Grey8 : goal.returns-in_ok-upper_set-in-Grey8
returns-in_ok-upper_set-in-Grey8 c = c.made_bits-in-Grey8.ensures _ (each_plane (λ (n : ℕ). if nat_le c.args.k n then 1 else 0) c.args.a.now kind.Grey c.in-Grey8.field-1 kind.Bit 1 c.in-Grey8.samples.now c.in_ok-upper_set-in-Grey8.field-0 c.in-Grey8.ensures.0 (record { width = c.in_ok-upper_set-in-Grey8.ensures.width; height = c.in_ok-upper_set-in-Grey8.ensures.height }) c.upper_set.ensures.size c.in_ok-upper_set-in-Grey8.ensures.cells)

pub returns-in_ok-upper_set-in-Grey16 : goal.returns-in_ok-upper_set-in-Grey16
returns-in_ok-upper_set-in-Grey16 c = c.made_bits-in-Grey16.ensures _ (each_plane (λ (n : ℕ). if nat_le c.args.k n then 1 else 0) c.args.a.now kind.Grey c.in-Grey16.field-1 kind.Bit 1 c.in-Grey16.samples.now c.in_ok-upper_set-in-Grey16.field-0 c.in-Grey16.ensures.0 (record { width = c.in_ok-upper_set-in-Grey16.ensures.width; height = c.in_ok-upper_set-in-Grey16.ensures.height }) c.upper_set-in-Grey16.ensures.size c.in_ok-upper_set-in-Grey16.ensures.cells)
