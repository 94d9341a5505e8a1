use Rattle.std.proofs.Common.{ℕ, ◌≡◌, ◌+◌, ◌<◌, get_or, take, length, length-take, ap, arith, refl, inl, inr}
use Rattle.std.specs.Prelude.{max}
use Rattle.std.proofs.lemmas.Bool.{cases_lt}
use Rattle.std.proofs.lemmas.List.{get_or_default}
use Rattle.mw_rank.specs.Tallies.{count_under}
use Rattle.mw_rank.proofs.Counts.{count-zero, count_within, one-lt}
use Rattle.mw_rank_medians.proofs.Gathered.{count_grows, counted_more, not_below_all}
use Rattle.mw_rank_medians.proofs.cut.greatest.Goals as goal

pub loop-level-init : goal.loop-level-init
loop-level-init c = record { few = omega (arith, count-zero c.args.levels.now, c.requires); enough = refl }

pub loop-level-preserved : goal.loop-level-preserved
loop-level-preserved c =
    let levels = c.args.levels.now in
    let i = c.loop-level.level-index in
    let before = c.loop-level.greatest in
    let new = c.max-greatest.result in
    let v = get_or levels i 0 in
    let within : i < length levels = omega arith in
    let is : new ≡ max before v = c.max-greatest.ensures in
    let same = get_or_default levels i 0 v within in
    record {
      few = elim (cases_lt before v) [
        | inl low ↦ omega (arith, not_below_all i v levels within same, ap (λ (t : ℕ). count_under t levels) (let e : new ≡ v = omega (arith, is, low) in e))
        | inr high ↦ omega (arith, c.loop-level.invariant.few, ap (λ (t : ℕ). count_under t levels) (let e : new ≡ before = omega (arith, is, high) in e))
      ];
      enough =
          omega (
            arith,
            counted_more (new + 1) v i levels within same,
            one-lt v (new + 1) (omega (arith, is)),
            count_grows (before + 1) (new + 1) (take i levels) (omega (arith, is)),
            count_within (new + 1) (take i levels),
            length-take i levels,
            c.loop-level.invariant.enough,
          );
    }
