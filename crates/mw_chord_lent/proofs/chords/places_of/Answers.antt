use Rattle.std.proofs.Common.{ℕ, ◌+◌, ◌-◌, ◌*◌, ◌<◌, [], ◌∷◌, ◌++◌, List, take, get_or, pos, ap, sym, subst, arith}
use Rattle.std.proofs.lemmas.List.{take_more}
use Rattle.mw_model.proofs.mw_facts.Alls.{all-get_or}
use Rattle.mw_offset.specs.mw_element_runs.declared.runs.Run.{Run}
use Rattle.mw_chord_lent.specs.Placed.{ArePlaced, IsRunPlaced, one_or_two}
use Rattle.mw_chord_lent.proofs.Places.{placed_more}
use Rattle.mw_chord_lent.proofs.chords.places_of.Goals as goal

pub list_of-list-requires-clause-last : goal.list_of-list-requires-clause-last
list_of-list-requires-clause-last c = λ j is.
    let none : Run = record { dx = pos 0; dy = pos 0; count = 0 } in
    let below = all-get_or (λ (r : Run). r.count < 2 * get_or c.args.sizes.now j 0) c.args.runs.now c.loop-i.i none (omega arith) (c.requires.last j is) in
    omega (arith, below)

pub loop-i-preserved : goal.loop-i-preserved
loop-i-preserved c =
    let none : Run = record { dx = pos 0; dy = pos 0; count = 0 } in
    let sizes = c.args.sizes.now in
    let span = c.args.span in
    let e = c.args.extent in
    let wide = c.args.wide in
    let runs = c.args.runs.now in
    let i = c.loop-i.i in
    let run = get_or runs i none in
    let list = c.list_of-list.result in
    let start = list * span + c.start_of_run.result in
    let more = run.count - get_or sizes list 0 in
    let placed : IsRunPlaced sizes span e wide run (one_or_two start more) = record {
      list = list;
      inside = c.list_of-list.ensures.inside;
      within = c.list_of-list.ensures.within;
      twice = c.list_of-list.ensures.twice;
      places_are = ap (λ (t : ℕ). one_or_two (list * span + t) more) c.start_of_run.ensures;
    } in
    subst (λ (t : List Run). ArePlaced sizes span e wide t c.push_places.new.places.items) (sym (take_more runs i none (omega arith)))
    (subst (ArePlaced sizes span e wide (take i runs ++ run ∷ [])) (sym c.in_ok-push_places.ensures) (placed_more sizes span e wide (take i runs) c.loop-i.places.items run (one_or_two start more) c.loop-i.invariant placed))
