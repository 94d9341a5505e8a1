-- Texts written one after another.
use Rattle.std.proofs.Common.{ℕ, ◌+◌, List, ◌++◌, length, length-append, take, Option, Result, Ok, Err, arith}
use Rattle.std.specs.Io.KnownBytes.{Appends}
use Rattle.std.proofs.KnownBytes.{Appends-trans}
use Rattle.std.proofs.lemmas.List.{take-append-le}
use Rattle.std.proofs.Math.Seq.{take-append-add}
use Rattle.mw_wire.specs.Writes.{CutsShort, Wrote}

-- a front of the first text is a front of both
pub front_of_both : (a b : Option (List ℕ)) (x y : List ℕ) → CutsShort a b x → CutsShort a b (x ++ y)
front_of_both a b x y (k, less, h) = (k, omega (arith, less, length-append x y), rw (take-append-le k x y (omega (arith, less))) h)

-- the first text was written, and of the second what the result tells
pub wrote_then : {E : Type 0} (a b c : Option (List ℕ)) (x y : List ℕ) (r : Result (Unit {0}) E) → Appends a b x → Wrote b c y r → Wrote a c (x ++ y) r
wrote_then a b c x y (Ok u) h w = Appends-trans a b c x y h w
wrote_then a b c x y (Err e) h w = (length x + w.0, omega (arith, w.1, length-append x y), rw take-append-add (Appends-trans a b c x (take w.0 y) h w.2))
