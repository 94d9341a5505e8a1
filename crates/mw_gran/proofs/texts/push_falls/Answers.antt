use Rattle.std.proofs.Common.{◌≡◌, ◌∙◌, ◌++◌, ℕ, ap, arith}
use Rattle.std.specs.Prelude.{codes}
use Rattle.mw_model.specs.Curves.{line}
use Rattle.mw_gran.proofs.CurveTexts.{one_line_more, all_falls, fall_text}
use Rattle.mw_gran.proofs.texts.push_falls.Goals as goal

pub loop-i-preserved : goal.loop-i-preserved
loop-i-preserved c =
    let here : c.push_line.new.text.items ≡ c.loop-i.text.items ++ fall_text c.args.volumes.now c.loop-i.i =
    c.in_ok-push_line.ensures ∙ ap (λ (fall : ℕ). c.loop-i.text.items ++ line (codes "S ") c.loop-i.i fall) c.saturating_sub.ensures in
    one_line_more (fall_text c.args.volumes.now) c.loop-i.i c.args.text.now.items c.loop-i.text.items c.push_line.new.text.items c.loop-i.invariant here

pub returns : goal.returns
returns c = all_falls c.args.volumes.now c.loop-i.i c.args.text.now.items c.loop-i.text.items (omega arith) c.loop-i.invariant
