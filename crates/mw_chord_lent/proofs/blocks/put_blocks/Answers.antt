use Rattle.std.proofs.Common.{◌≡◌, ℕ, ◌+◌, ◌-◌, ◌*◌, get_or, refl, sym, subst, arith, ◌∙◌, inl, inr}
use Rattle.std.proofs.lemmas.Bool.{cases_lt}
use Rattle.std.proofs.lemmas.Nat.{mul-add-lt}
use Rattle.mw_model.specs.Windows.{seen_at}
use Rattle.mw_chord_lent.specs.Works.{IsSeen}
use Rattle.mw_chord_lent.proofs.blocks.put_blocks.Goals as goal

pub by_rows-init : goal.by_rows-init
by_rows-init g c = record { within = omega arith; lists = refl; size = refl; made = λ runs work x y across lt. absurd (omega (arith, lt)) }

pub put_columns-requires-clause-down : goal.put_columns-requires-clause-down
put_columns-requires-clause-down g c =
    let plan = c.requires.work.1.plan in
    omega (arith, plan.down, c.min-y.ensures)

pub by_rows-preserved : goal.by_rows-preserved
by_rows-preserved g c =
    let k = c.args.work in
    let wide = k.tile.width in
    let plan = c.requires.work.1.plan in
    let from = c.min-y.result in
    let n = c.args.neutral in
    let new = c.put_columns.new.out in
    record {
      within = omega (arith, plan.down, c.min-y.ensures);
      lists = c.put_columns.ensures.lists ∙ c.by_rows.invariant.lists;
      size = c.put_columns.ensures.size ∙ c.by_rows.invariant.size;
      made = λ runs work x y across lt. elim (cases_lt y from) [
        | inl above ↦
            subst (IsSeen g.E.Extremum.merge n (seen_at c.args.lent.now) runs k.tile x y) (sym (c.put_columns.ensures.before (y * wide + x) n (omega (arith, mul-add-lt y wide x from above across))))
            (c.by_rows.invariant.made runs work x y across (omega (arith, above, c.min-y.ensures)))
        | inr below ↦
            let here : from + (y - from) ≡ y = omega (arith, below) in
            subst (λ (t : ℕ). IsSeen g.E.Extremum.merge n (seen_at c.args.lent.now) runs k.tile x t (get_or new (t * wide + x) n)) here
            (c.put_columns.ensures.made runs work (y - from) x (omega (arith, below, lt)) across)
      ];
    }

pub returns-clause-made : goal.returns-clause-made
returns-clause-made g c = λ runs work x y across lt. c.by_rows.invariant.made runs work x y across (omega (arith, lt))
