use Rattle.std.proofs.Common.{◌≡◌, ℕ, ◌+◌, ◌-◌, ◌*◌, ap, sym, arith, ◌∙◌}
use Rattle.mw_pixel.specs.mw_pixel_words.Packed.{bit_of}
use Rattle.mw_geodesic_runs.specs.Runs.{left_of}
use Rattle.mw_geodesic_runs.proofs.Tallies.{last_more}
use Rattle.mw_geodesic_runs.proofs.changes.bit_before.Goals as goal

pub returns-then-k-eq0 : goal.returns-then-k-eq0
returns-then-k-eq0 c = ap (λ (t : ℕ). left_of (bit_of c.args.words.now) (64 * t)) (sym c.if-k-eq0.true)

pub returns : goal.returns
returns c =
    let back : c.args.k - 1 + 1 ≡ c.args.k = omega arith in
    last_more c.args.words.now (c.args.k - 1) c.last_bit.result c.last_bit.ensures ∙ ap (λ (t : ℕ). left_of (bit_of c.args.words.now) (64 * t)) back
