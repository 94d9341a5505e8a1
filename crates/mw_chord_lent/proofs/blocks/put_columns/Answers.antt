use Rattle.std.proofs.Common.{◌≡◌, ℕ, ◌+◌, ◌*◌, ◌≤◌, get_or, refl, subst, arith, ◌∙◌, inl}
use Rattle.mw_model.specs.Windows.{seen_at}
use Rattle.mw_chord_lent.specs.Works.{IsSeen}
use Rattle.mw_chord_lent.proofs.Puts.{in_rows_none, in_rows_on, in_rows_part}
use Rattle.mw_chord_lent.proofs.blocks.put_columns.Goals as goal

pub by_columns-init : goal.by_columns-init
by_columns-init g c =
    let k = c.args.work in
    record {
      within = omega arith;
      lists = refl;
      put = in_rows_none k.plan.high (c.args.y * k.tile.width) k.tile.width k.tile.width c.args.out.now;
      made = λ runs work r x few lt. absurd (omega (arith, lt));
    }

pub put_block-requires-clause-across : goal.put_block-requires-clause-across
put_block-requires-clause-across g c =
    let plan = c.requires.work.1.plan in
    omega (arith, plan.across, c.min-x.ensures)

pub by_columns-preserved : goal.by_columns-preserved
by_columns-preserved g c =
    let k = c.args.work in
    let wide = k.tile.width in
    let plan = c.requires.work.1.plan in
    let at = c.args.y * wide in
    let x = c.min-x.result in
    let mid = c.by_columns.out in
    let new = c.put_block.new.out in
    let n = c.args.neutral in
    let fits : x + k.plan.width ≤ wide = omega (arith, plan.across, c.min-x.ensures) in
    record {
      within = fits;
      lists = c.put_block.ensures.lists ∙ c.by_columns.invariant.lists;
      put = in_rows_part k.plan.high at wide wide x k.plan.width c.args.out.now mid new fits c.by_columns.invariant.put c.put_block.ensures.put;
      made = λ runs work r i few lt.
          in_rows_on (λ r i v. IsSeen g.E.Extremum.merge n (seen_at c.args.lent.now) runs k.tile i (c.args.y + r) v) n k.plan.high at wide wide c.by_columns.done x k.plan.width mid new (omega (arith, c.min-x.ensures)) fits (omega arith) c.put_block.ensures.put
          (λ r i few lt. c.put_block.ensures.made runs work r i few lt) (λ r i few lt. c.by_columns.invariant.made runs work r i few lt) r i few lt;
    }

pub returns-clause-before : goal.returns-clause-before
returns-clause-before g c = λ p d lt. c.by_columns.invariant.put.kept p d (λ r few. inl (omega (arith, lt)))

pub returns-clause-made : goal.returns-clause-made
returns-clause-made g c = λ runs work r x few lt.
    let k = c.args.work in
    let wide = k.tile.width in
    let here : c.args.y * wide + r * wide + x ≡ (c.args.y + r) * wide + x = omega (arith, spread c.args.y r wide) in
    subst (λ (t : ℕ). IsSeen g.E.Extremum.merge c.args.neutral (seen_at c.args.lent.now) runs k.tile x (c.args.y + r) (get_or c.by_columns.out t c.args.neutral)) here
    (c.by_columns.invariant.made runs work r x few (omega (arith, lt)))
  where
    spread : (a b m : ℕ) → (a + b) * m ≡ a * m + b * m
    spread a b m = omega arith
