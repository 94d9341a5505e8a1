use Rattle.std.proofs.Common.{◌≡◌, ℕ, List, [], arith, get_or, pos, rules, subst, sym, take}
use Rattle.std.proofs.lemmas.List.{get_or_default, take_all}
use Rattle.mw_model.specs.declared.offsets.Offset.{Offset}
use Rattle.mw_model.specs.Windows.{seen_at}
use Rattle.mw_rank_counts.specs.Counting.{ArePlaces}
use Rattle.mw_rank_counts.proofs.Standing.{are_places_none, are_places_more}
use Rattle.mw_rank_counts.proofs.inner_columns.row_places.Goals as goal

pub loop-offset-init : goal.loop-offset-init
loop-offset-init g c =
    subst (λ (t : List ℕ). ArePlaces g.P.Pixel.level g.P.Pixel.TOP (seen_at c.args.window.now) c.args.window.now.cells [] c.args.x c.args.y c.args.count t) (sym c.clear.ensures.items)
    (are_places_none g.P.Pixel.level g.P.Pixel.TOP (seen_at c.args.window.now) c.args.window.now.cells c.args.x c.args.y c.args.count)

pub loop-offset-preserved : goal.loop-offset-preserved
loop-offset-preserved g c =
    let none : Offset = record { dx = pos 0; dy = pos 0 } in
    let i = c.loop-offset.offset-index in
    let offsets = c.args.offsets.now in
    let b = get_or offsets i none in
    are_places_more g.P.Pixel.level g.P.Pixel.TOP (seen_at c.args.window.now) c.args.window.now.cells offsets b i c.args.x c.args.y c.args.count c.loop-offset.places.items c.push_place.new.places.items (omega arith)
    (sym (get_or_default offsets i none b (omega arith))) (c.in_ok-push_place.ensures (search rules)) c.loop-offset.invariant

pub returns : goal.returns
returns g c = λ _.
    let all : take c.loop-offset.offset-index c.args.offsets.now ≡ c.args.offsets.now = take_all c.loop-offset.offset-index c.args.offsets.now (omega arith) in
    subst (λ (t : List Offset). ArePlaces g.P.Pixel.level g.P.Pixel.TOP (seen_at c.args.window.now) c.args.window.now.cells t c.args.x c.args.y c.args.count c.loop-offset.places.items) all c.loop-offset.invariant
