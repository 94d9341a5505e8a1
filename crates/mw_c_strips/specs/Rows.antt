-- Some rows of images.
use Rattle.std.specs.Prelude.{◌≡◌, ℕ, ◌+◌, ◌*◌, ◌%◌, ◌≤◌, ◌==◌, ◌&&◌, Bool, nat_le}
use Rattle.mw_model.specs.Pictures.{Picture}
pub use Rattle.mw_c_lent.specs.Rows.{EndAt, rows_from}

-- so many samples are whole rows, one at least, and the image has them from row `first` on
pub record AreRows (first room : ℕ) (f : Picture) : Type 0 where
  pub some : 1 ≤ room
  pub whole : room % f.width ≡ 0
  pub within : first * f.width + room ≤ f.height * f.width

-- ---- what is asked of a room for rows

-- so many samples fill rows of this width
abbrev pub fill_rows : ℕ → ℕ → Bool
fill_rows room width = nat_le 1 width && (room % width == 0)

-- so many samples are whole rows, one at least, from row `first` on, of an image of this width and so many samples
abbrev pub are_rows : ℕ → ℕ → ℕ → ℕ → Bool
are_rows first room width count = (nat_le 1 room && fill_rows room width) && nat_le (first * width + room) count
