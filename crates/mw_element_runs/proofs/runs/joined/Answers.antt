use Rattle.std.proofs.Common.{◌≡◌, to_z, of_z, w32, arith}
use Rattle.std.proofs.lemmas.Int.{ints}
use Rattle.mw_element_runs.proofs.runs.joined.Goals as goal

pub returns-clause-first : goal.returns-clause-first
returns-clause-first c = record { left = omega (arith, ints); right = omega (arith, ints); top = omega (arith, ints); bottom = omega (arith, ints) }

pub returns-clause-second : goal.returns-clause-second
returns-clause-second c = record { left = omega (arith, ints); right = omega (arith, ints); top = omega (arith, ints); bottom = omega (arith, ints) }

pub returns-clause-least : goal.returns-clause-least
returns-clause-least c =
    let a-left : to_z w32 (of_z w32 c.args.a.left) ≡ c.args.a.left = omega (arith, ints) in
    let b-left : to_z w32 (of_z w32 c.args.b.left) ≡ c.args.b.left = omega (arith, ints) in
    let made-left : to_z w32 (of_z w32 c.lesser.result) ≡ c.lesser.result = omega (arith, ints) in
    let a-right : to_z w32 (of_z w32 c.args.a.right) ≡ c.args.a.right = omega (arith, ints) in
    let b-right : to_z w32 (of_z w32 c.args.b.right) ≡ c.args.b.right = omega (arith, ints) in
    let made-right : to_z w32 (of_z w32 c.greater.result) ≡ c.greater.result = omega (arith, ints) in
    let a-top : to_z w32 (of_z w32 c.args.a.top) ≡ c.args.a.top = omega (arith, ints) in
    let b-top : to_z w32 (of_z w32 c.args.b.top) ≡ c.args.b.top = omega (arith, ints) in
    let made-top : to_z w32 (of_z w32 c.lesser-2.result) ≡ c.lesser-2.result = omega (arith, ints) in
    let a-bottom : to_z w32 (of_z w32 c.args.a.bottom) ≡ c.args.a.bottom = omega (arith, ints) in
    let b-bottom : to_z w32 (of_z w32 c.args.b.bottom) ≡ c.args.b.bottom = omega (arith, ints) in
    let made-bottom : to_z w32 (of_z w32 c.greater-2.result) ≡ c.greater-2.result = omega (arith, ints) in
    λ o first second. record {
      left = rw made-left (c.lesser.ensures.least o.left (rw a-left first.left) (rw b-left second.left));
      right = rw made-right (c.greater.ensures.least o.right (rw a-right first.right) (rw b-right second.right));
      top = rw made-top (c.lesser-2.ensures.least o.top (rw a-top first.top) (rw b-top second.top));
      bottom = rw made-bottom (c.greater-2.ensures.least o.bottom (rw a-bottom first.bottom) (rw b-bottom second.bottom));
    }
