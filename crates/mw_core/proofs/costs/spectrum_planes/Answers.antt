use Rattle.std.proofs.Common.{◌≡◌, ℕ, ◌+◌, ◌-◌, ◌*◌, ◌/◌, ◌^◌, ◌<◌, ◌≤◌, Bool, false, if◌then◌else◌, min, arith, ap, ◌∙◌}
use Rattle.std.proofs.Math.Nat.{min-eq_left}
use Rattle.std.proofs.lemmas.Nat.{mul-le}
use Rattle.mw_core.proofs.costs.spectrum_planes.Goals as goal

in_bounds : (n : ℕ) → n < 2 ^ 32 → n * ((n + 1) / 2 + 2) ≤ 2 ^ 64 - 1
in_bounds n few = omega (arith, mul-le n ((n + 1) / 2 + 2) (2 ^ 32) (2 ^ 31 + 3) (omega arith) (omega arith))

unboxed : (r n m : ℕ) (b : Bool) → b ≡ false → m ≡ n → n < 2 ^ 32 → r ≡ min (m * ((m + 1) / 2 + 2)) (2 ^ 64 - 1) → r ≡ n * ((if b then 0 else (n + 1) / 2) + 2)
unboxed r n m b not same few said =
    rw not (said ∙ ap (λ (t : ℕ). min (t * ((t + 1) / 2 + 2)) (2 ^ 64 - 1)) same ∙ min-eq_left (in_bounds n few))

pub returns : goal.returns
returns c = unboxed _ c.args.count _ c.args.is_boxed c.if-is_boxed.false c.from-count.ensures (omega (arith, c.ranges.count)) c.saturating_mul.ensures
