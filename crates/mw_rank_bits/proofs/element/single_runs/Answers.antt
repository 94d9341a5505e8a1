use Rattle.std.proofs.Common.{◌≡◌, ℤ, List, get_or, [], ◌∷◌, ◌++◌, map, take, pos, to_z, of_z, w16, ap, sym, arith, ◌∙◌}
use Rattle.std.proofs.lemmas.Int.{ints}
use Rattle.std.proofs.lemmas.List.{map_more, take_all}
use Rattle.mw_model.specs.declared.offsets.Offset.{Offset}
use Rattle.mw_bits.specs.mw_element_runs.declared.runs.Run.{Run}
use Rattle.mw_rank_bits.specs.Elements.{single_run}
use Rattle.mw_rank_bits.proofs.element.single_runs.Goals as goal

the_run : (b : Offset) (dx dy : ℤ) → dx ≡ b.dx → dy ≡ b.dy → ◌≡◌ {A = Run} (record { dx = dx; dy = dy; count = 1 }) (single_run b)
the_run b dx dy dx-is dy-is =
    let first : ℤ → Run = λ t. record { dx = t; dy = dy; count = 1 } in
    let second : ℤ → Run = λ t. record { dx = b.dx; dy = t; count = 1 } in
    ap first dx-is ∙ ap second dy-is

pub loop-i-preserved : goal.loop-i-preserved
loop-i-preserved c =
    let none : Offset = record { dx = pos 0; dy = pos 0 } in
    let offsets = c.args.offsets.now in
    let offset : Offset = get_or offsets c.loop-i.i none in
    let dx : ℤ = to_z w16 (of_z w16 offset.dx) in
    let dy : ℤ = to_z w16 (of_z w16 offset.dy) in
    let dx-is : dx ≡ offset.dx = omega (arith, ints) in
    let dy-is : dy ≡ offset.dy = omega (arith, ints) in
    let made : Run = record { dx = dx; dy = dy; count = 1 } in
    c.in_ok-push.ensures.items
    ∙ ap (λ (t : List Run). t ++ made ∷ []) c.loop-i.invariant
    ∙ ap (λ (r : Run). map single_run (take c.loop-i.i offsets) ++ r ∷ []) (the_run offset dx dy dx-is dy-is)
    ∙ sym (map_more single_run offsets c.loop-i.i none c.loop-i-test.true)

pub returns : goal.returns
returns c = c.loop-i.invariant ∙ ap (map single_run) (take_all c.loop-i.i c.args.offsets.now (omega arith))
