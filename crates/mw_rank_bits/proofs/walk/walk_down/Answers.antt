use Rattle.std.proofs.Common.{◌≡◌, ◌⊎◌, ℕ, ◌+◌, ◌-◌, ◌*◌, ◌/◌, ◌<◌, ◌≤◌, ◌^◌, length, ap, subst, sym, arith, ◌∙◌}
use Rattle.std.proofs.Math.Nat.{mul-le-mul_right}
use Rattle.mw_bits.specs.mw_pixel_words.Packed.{bit_of}
use Rattle.mw_rank_bits.specs.Numbers.{bits_at, number_at}
use Rattle.mw_rank_bits.specs.Walks.{is_below, HasColumn}
use Rattle.mw_rank_bits.proofs.Walks.{as_is, started, below_same, column_more, column_none}
use Rattle.mw_rank_bits.proofs.walk.walk_down.Goals as goal

pub loop-y-init : goal.loop-y-init
loop-y-init c =
    let n = length c.args.planes.now / 2 in
    let rows = c.args.rows in
    let cells = c.args.cells.now in
    let seen = c.args.places.seen.now in
    let j = c.args.j in
    let value : ℕ → ℕ → ℕ = λ q y. is_below n rows.start cells seen (64 * (y * rows.wide + j) + q) in
    let first : (1 - 1) * rows.wide + j ≡ j = omega arith in
    let row : 0 * rows.wide + j ≡ j = omega arith in
    let word : 0 * (2 * rows.pairs) + j ≡ j = omega arith in
    let is : (q : ℕ) → q < 128 → number_at as_is n c.add_bits.new.planes q ≡ rows.start + bits_at cells seen (64 * j + q) =
    λ q lt. started n (length c.fill.new.planes / 2) rows.start cells seen j q c.fill.new.planes c.add_bits.new.planes (omega arith) lt c.requires.small (c.fill.ensures q lt) c.add_bits.ensures in
    record {
      number = λ q lt. is q lt ∙ ap (λ (t : ℕ). rows.start + bits_at cells seen (64 * t + q)) (sym first);
      column = column_more value (2 * rows.pairs) j 0 1 c.args.out.now c.args.out.now c.write_below.new.out (omega arith) c.requires.inside
          (λ q lt. ap (λ (t : ℕ). bit_of c.write_below.new.out (64 * t + q)) word ∙ c.write_below.ensures.put q lt ∙ below_same n (length c.add_bits.new.planes / 2) rows.start cells seen c.add_bits.new.planes (64 * j + q) q (omega arith) (is q lt) ∙ ap (λ (t : ℕ). is_below n rows.start cells seen (64 * t + q)) (sym row))
          (λ p away. c.write_below.ensures.others p (subst (λ (t : ℕ). (p < 64 * t) ⊎ (64 * t + 128 ≤ p)) word away))
          (column_none value (2 * rows.pairs) j c.args.out.now);
    }

pub loop-y-preserved : goal.loop-y-preserved
loop-y-preserved c =
    let n = length c.args.planes.now / 2 in
    let rows = c.args.rows in
    let cells = c.args.cells.now in
    let seen = c.args.places.seen.now in
    let j = c.args.j in
    let y = c.loop-y.y in
    let value : ℕ → ℕ → ℕ = λ q y. is_below n rows.start cells seen (64 * (y * rows.wide + j) + q) in
    let m-is : length c.loop-y.planes / 2 ≡ n = omega arith in
    let next : y + 1 - 1 ≡ y = omega arith in
    let down : (y - 1) * rows.wide + rows.wide ≡ y * rows.wide = let up : y - 1 + 1 ≡ y = omega arith in let e = ap (λ (t : ℕ). t * rows.wide) up in omega (arith, e) in
    let is : (q : ℕ) → q < 128 → number_at as_is n c.step_down.new.planes q ≡ rows.start + bits_at cells seen (64 * (y * rows.wide + j) + q) =
    λ q lt.
    let place : 64 * ((y - 1) * rows.wide + j) + q + 64 * rows.wide ≡ 64 * (y * rows.wide + j) + q = omega (arith, down) in
    let small = subst (λ (t : ℕ). rows.start + length seen < 2 ^ t) (sym m-is) c.requires.small in
    ap (λ (t : ℕ). number_at as_is t c.step_down.new.planes q) (sym m-is)
    ∙ c.step_down.ensures rows.start (64 * rows.wide) q lt c.requires.moves small (ap (λ (t : ℕ). number_at as_is t c.loop-y.planes q) m-is ∙ c.loop-y.invariant.number q lt)
    ∙ ap (λ (t : ℕ). rows.start + bits_at cells seen t) place in
    record {
      number = λ q lt. is q lt ∙ ap (λ (t : ℕ). rows.start + bits_at cells seen (64 * (t * rows.wide + j) + q)) (sym next);
      column = column_more value (2 * rows.pairs) j y (y + 1) c.args.out.now c.loop-y.out c.write_below-in-loop-y.new.out (omega arith) c.requires.inside
          (λ q lt. c.write_below-in-loop-y.ensures.put q lt ∙ below_same n (length c.step_down.new.planes / 2) rows.start cells seen c.step_down.new.planes (64 * (y * rows.wide + j) + q) q (omega arith) (is q lt))
          c.write_below-in-loop-y.ensures.others c.loop-y.invariant.column;
    }

pub returns : goal.returns
returns c =
    let rows = c.args.rows in
    let n = length c.args.planes.now / 2 in
    let end : c.loop-y.y ≡ rows.high = omega arith in
    subst (λ (t : ℕ). HasColumn (λ q y. is_below n rows.start c.args.cells.now c.args.places.seen.now (64 * (y * rows.wide + c.args.j) + q)) (2 * rows.pairs) c.args.j t c.args.out.now c.loop-y.out) end c.loop-y.invariant.column

pub overflow_mul-y : goal.overflow_mul-y
overflow_mul-y c =
    let le : c.loop-y.y - 1 ≤ c.args.rows.high = omega arith in
    let most = mul-le-mul_right c.args.rows.wide le in
    omega (arith, most, c.requires.fits)

pub overflow_add-y : goal.overflow_add-y
overflow_add-y c =
    let le : c.loop-y.y - 1 ≤ c.args.rows.high = omega arith in
    let most = mul-le-mul_right c.args.rows.wide le in
    omega (arith, most, c.requires.fits, c.requires.inside)
