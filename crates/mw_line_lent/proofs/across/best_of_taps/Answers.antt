use Rattle.std.proofs.Common.{◌≡◌, ℕ, ◌+◌, ◌-◌, ◌*◌, ◌≤◌, get_or, refl, ap, sym, arith, ◌∙◌}
use Rattle.std.proofs.Math.Nat.{mul-le-mul_left}
use Rattle.mw_line.proofs.Folds.{IsExtremum}
use Rattle.mw_line_lent.proofs.Bests.{best_at, best_joined}
use Rattle.mw_line_lent.proofs.across.best_of_taps.Goals as goal

pub loop-tap-init : goal.loop-tap-init
loop-tap-init g c = record {
  some = omega arith;
  within = omega arith;
  made = λ value i d lt has.
      let taps = c.args.taps in
      let at = c.args.at in
      let place : taps.from + (at + i + 0) ≡ taps.from + at + i = omega arith in
      best_at g.E.Extremum.merge value (at + i + 0) (at + i + 0 + taps.step) (at + i) (at + i + 1 * taps.step) (get_or c.args.line.now (taps.from + (at + i + 0)) d) _ (omega arith) (omega arith)
      (ap (λ (t : ℕ). get_or c.args.line.now t d) place ∙ sym (c.load-best.ensures i d lt)) (has 0 (omega arith));
}

pub loop-tap-preserved : goal.loop-tap-preserved
loop-tap-preserved g c =
    let f = g.E.Extremum.merge in
    let laws : IsExtremum f = record { commutes = g.met.E.Extremum.commutes; associates = g.met.E.Extremum.associates; is_idempotent = g.met.E.Extremum.is_idempotent } in
    let taps = c.args.taps in
    let at = c.args.at in
    let tap = c.loop-tap.tap in
    let less : tap ≤ taps.count - 1 = omega arith in
    let near : tap * taps.step ≤ taps.last = omega (arith, mul-le-mul_left taps.step less, c.requires.near) in
    record {
      some = omega arith;
      within = omega arith;
      made = λ value i d lt has.
          let from = at + i in
          let far = at + i + tap * taps.step in
          let best = g.P.Laned.lane c.loop-tap.best i in
          let place : taps.from + far ≡ taps.from + at + tap * taps.step + i = omega arith in
          best_at f value from (far + taps.step) from (from + (tap + 1) * taps.step) (f best (get_or c.args.line.now (taps.from + far) d)) _ (omega arith) (omega arith)
          (ap (f best) (ap (λ (t : ℕ). get_or c.args.line.now t d) place ∙ sym (c.load.ensures i d lt)) ∙ sym (c.merged-best.ensures i lt))
          (best_joined f laws value from far far (far + taps.step) best (get_or c.args.line.now (taps.from + far) d) (c.loop-tap.invariant.made value i d lt has) (has (tap * taps.step) near) (omega arith) (omega arith) (omega arith));
    }

pub returns : goal.returns
returns g c = λ value i d lt has.
    let f = g.E.Extremum.merge in
    let laws : IsExtremum f = record { commutes = g.met.E.Extremum.commutes; associates = g.met.E.Extremum.associates; is_idempotent = g.met.E.Extremum.is_idempotent } in
    let taps = c.args.taps in
    let at = c.args.at in
    let tap = c.loop-tap.tap in
    let from = at + i in
    let far = at + i + taps.last in
    let best = g.P.Laned.lane c.loop-tap.best i in
    let place : taps.from + far ≡ taps.from + at + taps.last + i = omega arith in
    let all : taps.count ≤ tap = omega arith in
    let enough : taps.last ≤ tap * taps.step = omega (arith, mul-le-mul_left taps.step all, c.requires.joined) in
    let before : tap - 1 ≤ taps.count - 1 = c.loop-tap.invariant.within in
    let back : tap ≡ tap - 1 + 1 = omega (arith, c.loop-tap.invariant.some) in
    let few : tap * taps.step ≤ taps.last + taps.step = omega (arith, mul-le-mul_left taps.step before, c.requires.near, ap (λ (t : ℕ). t * taps.step) back, split (tap - 1) taps.step) in
    best_at f value from (from + (taps.last + taps.step)) from (from + (taps.last + taps.step)) (f best (get_or c.args.line.now (taps.from + far) d)) _ (omega arith) (omega arith)
    (ap (f best) (ap (λ (t : ℕ). get_or c.args.line.now t d) place ∙ sym (c.load-2.ensures i d lt)) ∙ sym (c.merged.ensures i lt))
    (best_at f value from (far + taps.step) from (from + (taps.last + taps.step)) _ _ (omega arith) (omega arith) refl
    (best_joined f laws value from (from + tap * taps.step) far (far + taps.step) best (get_or c.args.line.now (taps.from + far) d) (c.loop-tap.invariant.made value i d lt has) (has taps.last (omega arith)) (omega arith) (omega (arith, enough)) (omega (arith, few))))
  where
    split : (a m : ℕ) → (a + 1) * m ≡ a * m + m
    split a m = omega arith
