-- Lists of places with their counts.
use Rattle.std.specs.Prelude.{◌≡◌, length}
use Rattle.mw_offset_lent.specs.declared.wide.Counted.{Counted}

-- the counts are those of the lists
pub record HasCounts (c : Counted) : Type 0 where
  pub shared : c.shared ≡ length c.split.shared.now
  pub upper : c.upper ≡ length c.split.upper.now
  pub lower : c.lower ≡ length c.split.lower.now
