use Rattle.std.proofs.Common.{◌≡◌, ℕ, ◌+◌, [], ◌∷◌, pos, length, get_or, ap, sym, arith, ◌∙◌, append-nil}
use Rattle.std.specs.Global.{Vec}
use Rattle.std.proofs.lemmas.List.{get_or_default}
use Rattle.mw_model.specs.declared.offsets.Offset.{Offset}
use Rattle.mw_model.specs.Windows.{seen_at}
use Rattle.mw_rank.specs.Tallies.{count_under}
use Rattle.mw_rank_medians.proofs.Gathered.{offset_gathered, small_more}
use Rattle.mw_rank_medians.proofs.cut.gather.Goals as goal
use Rattle.mw_rank_medians.proofs.cut.gather.Goals.{in-Some+in_ok-push, in_default}

pub loop-offset-preserved : goal.loop-offset-preserved
loop-offset-preserved g c =
    let none : Offset = record { dx = pos 0; dy = pos 0 } in
    let level = g.P.Pixel.level in
    let sight = seen_at c.args.window.now in
    let offsets = c.args.offsets.now in
    let i = c.loop-offset.offset-index in
    let b = get_or offsets i none in
    let old = c.loop-offset.seen.items in
    let before = c.loop-offset.invariant in
    let is : get_or offsets i b ≡ b = sym (get_or_default offsets i none b (omega arith)) in
    elim c.match-level_at.branch [
      | in-Some+in_ok-push w ↦
          let added = ap (λ (v : Vec ℕ). v.items) w.seen-is ∙ w.in_ok-push.ensures.items in
          record {
            levels = offset_gathered level sight offsets b i c.args.x c.args.y old _ (w.in-Some.level ∷ []) (omega arith) is w.in-Some.ensures.levels added before.levels;
            small = small_more g.P.Pixel.top_level w.in-Some.level old _ w.in-Some.ensures.small added before.small;
          }
      | in_default w ↦
          let same = ap (λ (v : Vec ℕ). v.items) w.seen-is in
          record {
            levels = offset_gathered level sight offsets b i c.args.x c.args.y old _ [] (omega arith) is w.in_default.ensures.levels (same ∙ sym (append-nil old)) before.levels;
            small = ap (count_under (g.P.Pixel.top_level + 1)) same ∙ before.small ∙ sym (ap length same);
          }
    ]
