-- The part of an integer that is not below zero.
use Rattle.std.proofs.Common.{◌≡◌, ℤ, pos, negsuc, ◌-◌, arith}
use borrow.Author.Differences.{up, down}
use Rattle.mw_model.specs.Rectangles.{nonnegative}

pub nonnegative_is : (z : ℤ) → nonnegative z ≡ up z - down z
nonnegative_is (pos n) = omega arith
nonnegative_is (negsuc n) = omega arith
