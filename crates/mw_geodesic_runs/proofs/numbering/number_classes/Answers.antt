use Rattle.std.proofs.Common.{ℕ, ◌+◌, ◌<◌, List, length, get_or, set, refl, sym, subst, arith}
use Rattle.mw_geodesic_runs.specs.Forests.{NumbersClasses}
use Rattle.mw_geodesic_runs.proofs.Numbered.{numbering_root, numbering_child}
use Rattle.mw_geodesic_runs.proofs.numbering.number_classes.Goals as goal
use Rattle.mw_geodesic_runs.proofs.numbering.number_classes.Goals.{then-above-i, else-above-i}

pub loop-i-preserved : goal.loop-i-preserved
loop-i-preserved c =
    let old = c.args.parent.now in
    let p = c.loop-i.parent in
    let i = c.loop-i.i in
    let count = c.loop-i.count in
    let size = c.loop-i.invariant.size in
    let lt : i < length old = omega arith in
    elim c.if-above-i.branch [
      | then-above-i w ↦
          subst (λ (t : List ℕ). NumbersClasses old (i + 1) t c.if-above-i.count) (sym w.parent-is)
          (subst (λ (t : ℕ). NumbersClasses old (i + 1) (set p i (count + 1)) t) (sym w.count-is)
          (numbering_root old i p count lt c.requires.forest w.if-above-i.true c.loop-i.invariant))
      | else-above-i w ↦
          subst (λ (t : List ℕ). NumbersClasses old (i + 1) t c.if-above-i.count) (sym w.parent-is)
          (subst (λ (t : ℕ). NumbersClasses old (i + 1) (set p i (get_or p (get_or p i 0) 0)) t) (sym w.count-is)
          (numbering_child old i (get_or p i 0) p count lt c.requires.forest refl w.if-above-i.false c.loop-i.invariant))
    ]
