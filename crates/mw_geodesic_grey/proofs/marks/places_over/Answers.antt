use Rattle.std.proofs.Common.{◌≡◌, length, arith}
use Rattle.mw_model.proofs.mw_facts.Elements.{take-written}
use Rattle.mw_geodesic_grey.proofs.Marked.{set_by}
use Rattle.mw_geodesic_grey.proofs.marks.places_over.Goals as goal

pub new-requires-2 : goal.new-requires-2
new-requires-2 g c =
    let out = c.mark_rows.new.out in
    let whole : length out ≡ c.in_ok-words.words.len = omega arith in
    rw (take-written c.in_ok-words.words.items out c.in_ok-words.words.len whole, c.width-width.ensures.value, c.height-height.ensures.value) c.mark_rows.ensures.packed

pub returns : goal.returns
returns g c = λ maxval.
    let words = c.in_ok-words.words in
    let out = c.mark_rows.new.out in
    set_by g.P.Pixel.level maxval c.width-width.result c.height-height.result words.len c.args.upper.now c.args.lower.now c.of_words.result c.new-2.result words.items out c.width-width.ensures.value c.height-height.ensures.value
    c.requires.width c.of_words.ensures c.new-2.ensures (omega arith) c.mark_rows.ensures.marked
