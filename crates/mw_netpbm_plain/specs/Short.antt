-- Samples as nearly all plain files have them.
use Rattle.std.specs.Prelude.{ℕ, zero, suc, ◌+◌, ◌≤◌, List, [], ◌∷◌, length, drop, slice_index_or, IsTrue, if◌then◌else◌}
use Rattle.mw_model.specs.NetpbmGrammar.{is_white, is_digit}

-- how many digits stand at the front of the bytes, or so many if there are more
unfoldable pub digits_ahead : ℕ → List ℕ → ℕ
digits_ahead zero bytes = 0
digits_ahead (suc most) [] = 0
digits_ahead (suc most) (b ∷ bs) = if is_digit b then suc (digits_ahead most bs) else 0

-- white space, a sample of up to so many digits, and white space, in seven bytes or more
pub record IsShort (most : ℕ) (bytes : List ℕ) : Type 0 where
  pub long : 7 ≤ length bytes
  pub before : IsTrue (is_white (slice_index_or bytes 0 0))
  pub digit : IsTrue (is_digit (slice_index_or bytes 1 0))
  pub after : IsTrue (is_white (slice_index_or bytes (1 + digits_ahead most (drop 1 bytes)) 0))
