use Rattle.std.proofs.Common.{◌≡◌, ◌≤◌, ◌-◌, ◌<◌, ℕ, List, ap, arith, refl, length, inl, inr}
use Rattle.std.proofs.lemmas.Bool.{cases_lt}
use Rattle.std.proofs.lemmas.List.{get_or_read}
use Rattle.mw_rank.specs.Tallies.{count_under}
use Rattle.mw_rank.proofs.Counts.{count_before, count_rises, count-zero, next_below, tallies_moved}
use Rattle.mw_rank.proofs.histogram.Histogram.step_down.Goals as goal

-- where some are below a level, it isn't the lowest one
not_lowest : (n level : ℕ) (ns : List ℕ) → 1 ≤ n → n ≤ count_under level ns → 1 ≤ level
not_lowest n level ns some many = elim (cases_lt 0 level) [
  | inl above ↦ omega (arith, above)
  | inr lowest ↦
      let none : count_under level ns ≡ count_under 0 ns = ap (λ (v : ℕ). count_under v ns) (let zero : level ≡ 0 = omega (arith, lowest) in zero) in
      omega (arith, none, count-zero ns, some, many)
]

pub levels-init : goal.levels-init
levels-init c = record {
  place = λ top ns t. (t.below, t.level);
  enough = λ top ns t many. omega (arith, t.below, count_rises c.args.self.now.level ns);
}

pub overflow_sub-level : goal.overflow_sub-level
overflow_sub-level c =
    let r = c.requires.held.1 in
    let i = c.levels.invariant.place c.requires.held.0 r.others r.tallies in
    not_lowest c.args.n c.levels.level r.others c.requires.some (omega (arith, i.0, c.if-below-n.false))

pub index-requires : goal.index-requires
index-requires c =
    let r = c.requires.held.1 in
    let i = c.levels.invariant.place c.requires.held.0 r.others r.tallies in
    omega (arith, r.tallies.size, i.1, not_lowest c.args.n c.levels.level r.others c.requires.some (omega (arith, i.0, c.if-below-n.false)))

pub overflow_sub-below : goal.overflow_sub-below
overflow_sub-below c =
    let r = c.requires.held.1 in
    let h = c.args.self.now in
    let level = c.levels.level in
    let i = c.levels.invariant.place c.requires.held.0 r.others r.tallies in
    let above = not_lowest c.args.n level r.others c.requires.some (omega (arith, i.0, c.if-below-n.false)) in
    let within : level - 1 < length h.counts.items = omega (arith, r.tallies.size, i.1, above) in
    omega (
      arith,
      i.0,
      c.from-below.ensures,
      get_or_read h.counts.items (level - 1) c.index.result.now within c.index.ensures 0,
      next_below c.requires.held.0 level h r.others r.tallies (omega (arith, above)),
    )

pub levels-preserved : goal.levels-preserved
levels-preserved c = record {
  place = λ top ns t.
      let h = c.args.self.now in
      let level = c.levels.level in
      let i = c.levels.invariant.place top ns t in
      let above = not_lowest c.args.n level ns c.requires.some (omega (arith, i.0, c.if-below-n.false)) in
      let within : level - 1 < length h.counts.items = omega (arith, t.size, i.1, above) in
      let below = next_below top level h ns t (omega (arith, above)) in
      (omega (arith, i.0, c.from-below.ensures, get_or_read h.counts.items (level - 1) c.index.result.now within c.index.ensures 0, below), omega (arith, i.1));
  enough = λ top ns t many.
      let i = c.levels.invariant.place top ns t in
      let above = not_lowest c.args.n c.levels.level ns c.requires.some (omega (arith, i.0, c.if-below-n.false)) in
      omega (arith, i.0, c.if-below-n.false, count_before c.levels.level ns (omega (arith, above)));
}

pub returns-clause-tallies : goal.returns-clause-tallies
returns-clause-tallies c = λ top ns t.
    let i = c.levels.invariant.place top ns t in
    tallies_moved top c.args.self.now _ ns refl refl i.1 i.0 t
