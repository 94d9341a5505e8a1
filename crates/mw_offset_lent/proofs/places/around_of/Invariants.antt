use Rattle.std.proofs.Common.{◌≤◌, take}
use Rattle.std.specs.List.{AllByRecursion}
use Rattle.mw_offset_lent.specs.Offsets.{LeadsWithin}
use Rattle.mw_offset_lent.proofs.places.around_of.Given as goal

abbrev pub invariant-loop-i : goal.invariant-loop-i
invariant-loop-i l = record {
  within : AllByRecursion (LeadsWithin l.across l.down) (take l.i l.offsets);
  across : AllByRecursion (LeadsWithin 64 64) l.offsets → l.across ≤ 64;
  down : AllByRecursion (LeadsWithin 64 64) l.offsets → l.down ≤ 64;
}
