use Rattle.std.proofs.Common.{subst, sym}
use Rattle.std.proofs.lemmas.Result.{err_from_is_err_and}
use Rattle.mw_model.specs.Elements.{element_side, no_bitmap}
use Rattle.mw_netpbm_plain.specs.Faults.{bitmap_code_of, facts_of}
use Rattle.mw_element.specs.Figures.{OffsetsRise}
use Rattle.mw_element.proofs.Order.{offsets_rise}
use Rattle.mw_element.proofs.Found.{bitmap_sides, no_element, no_place, IsElement-no_ones, origin_refused, empty_told, facts_same, Told-figure, told_element, made_is_figure, made_element, made_only}
use Rattle.mw_element.proofs.Few.{few_offsets}
use Rattle.mw_element.proofs.Room.{offsets_told}
use Rattle.mw_element.proofs.element.Element.parse.Goals as goal

pub returns-in_err-facts-clause-only : goal.returns-in_err-facts-clause-only
returns-in_err-facts-clause-only c = λ figure is. absurd (no_element c.args.bytes.now c.args.ox c.args.oy c.in_err-facts.field-0.0 figure c.in_err-facts.ensures.only is)

pub returns-in_err-facts-clause-refused : goal.returns-in_err-facts-clause-refused
returns-in_err-facts-clause-refused c =
    let p = err_from_is_err_and c.from_residual.result c.from_residual.ensures.1 in
    rw (p.1, p.2) (λ n. no_bitmap (bitmap_code_of c.in_err-facts.field-0.0) c.in_err-facts.ensures.refused)

pub returns-then-ox-facts-clause-only : goal.returns-then-ox-facts-clause-only
returns-then-ox-facts-clause-only c = λ figure is. absurd (no_place c.args.bytes.now c.args.ox c.args.oy c.in_ok-facts.facts figure c.in_ok-facts.ensures.only c.then-ox-facts.either is)

pub returns-then-ox-facts-clause-refused : goal.returns-then-ox-facts-clause-refused
returns-then-ox-facts-clause-refused c =
    λ n.
    let f = c.in_ok-facts.ensures.found in
    origin_refused c.args.bytes.now c.args.ox c.args.oy c.in_ok-facts.facts f.0 f.1 f.2 c.then-ox-facts.either

pub returns-then-facts-eq0-clause-only : goal.returns-then-facts-eq0-clause-only
returns-then-facts-eq0-clause-only c = λ figure is. absurd (IsElement-no_ones c.args.bytes.now c.args.ox c.args.oy c.in_ok-facts.facts figure c.in_ok-facts.ensures.only c.if-facts-eq0.true is)

pub returns-then-facts-eq0-clause-refused : goal.returns-then-facts-eq0-clause-refused
returns-then-facts-eq0-clause-refused c =
    λ n.
    let f = c.in_ok-facts.ensures.found in
    empty_told c.args.bytes.now c.args.ox c.args.oy c.in_ok-facts.facts f.0 f.1 f.2 c.if-ox-facts.false c.if-oy-facts.false c.if-facts-eq0.true

pub returns-in_default-clause-memory : goal.returns-in_default-clause-memory
returns-in_default-clause-memory c =
    λ e.
    let f = c.in_ok-facts.ensures.found in
    told_element c.args.bytes.now c.args.ox c.args.oy f.0 (Told-figure c.args.bytes.now c.args.ox c.args.oy c.in_ok-facts.facts f.0 f.1 f.2 c.if-ox-facts.false c.if-oy-facts.false c.if-facts-eq0.false)

pub offsets-requires-clause-count : goal.offsets-requires-clause-count
offsets-requires-clause-count c =
    let f = c.in-Ok.bitmap in
    let is = c.in-Ok.ensures.found in
    offsets_told c.args.bytes.now c.in_ok-facts.facts f c.args.ox c.args.oy is (facts_same c.in_ok-facts.facts (facts_of f) (c.in_ok-facts.ensures.only f is))

pub new-requires-clause-figure : goal.new-requires-clause-figure
new-requires-clause-figure c =
    let f = c.in-Ok.bitmap in
    let is = c.in-Ok.ensures.found in
    let same = facts_same c.in_ok-facts.facts (facts_of f) (c.in_ok-facts.ensures.only f is) in
    let t = Told-figure c.args.bytes.now c.args.ox c.args.oy c.in_ok-facts.facts f is same c.if-ox-facts.false c.if-oy-facts.false c.if-facts-eq0.false in
    made_is_figure c.args.bytes.now c.args.ox c.args.oy c.in_ok-facts.facts f c.in_ok-found.found.items t same c.in_ok-found.ensures.items

pub returns-clause-found : goal.returns-clause-found
returns-clause-found c =
    let f = c.in-Ok.bitmap in
    let is = c.in-Ok.ensures.found in
    let same = facts_same c.in_ok-facts.facts (facts_of f) (c.in_ok-facts.ensures.only f is) in
    let t = Told-figure c.args.bytes.now c.args.ox c.args.oy c.in_ok-facts.facts f is same c.if-ox-facts.false c.if-oy-facts.false c.if-facts-eq0.false in
    made_element c.args.bytes.now c.args.ox c.args.oy c.in_ok-facts.facts f c.in_ok-found.found.items c.in_ok-made.made t same c.in_ok-found.ensures.items c.in_ok-made.ensures

pub returns-clause-only : goal.returns-clause-only
returns-clause-only c =
    let f = c.in-Ok.bitmap in
    let is = c.in-Ok.ensures.found in
    let same = facts_same c.in_ok-facts.facts (facts_of f) (c.in_ok-facts.ensures.only f is) in
    let t = Told-figure c.args.bytes.now c.args.ox c.args.oy c.in_ok-facts.facts f is same c.if-ox-facts.false c.if-oy-facts.false c.if-facts-eq0.false in
    λ figure element. made_only c.args.bytes.now c.args.ox c.args.oy c.in_ok-facts.facts f c.in_ok-found.found.items c.in_ok-made.made figure t same c.in_ok-found.ensures.items c.in_ok-made.ensures (λ g h. c.in-Ok.ensures.only g h) element

pub returns-in_err-found-clause-memory : goal.returns-in_err-found-clause-memory
returns-in_err-found-clause-memory c =
    λ e.
    let f = c.in_ok-facts.ensures.found in
    told_element c.args.bytes.now c.args.ox c.args.oy f.0 (Told-figure c.args.bytes.now c.args.ox c.args.oy c.in_ok-facts.facts f.0 f.1 f.2 c.if-ox-facts.false c.if-oy-facts.false c.if-facts-eq0.false)

pub returns-in_err-made-clause-memory : goal.returns-in_err-made-clause-memory
returns-in_err-made-clause-memory c =
    λ e.
    let f = c.in_ok-facts.ensures.found in
    told_element c.args.bytes.now c.args.ox c.args.oy f.0 (Told-figure c.args.bytes.now c.args.ox c.args.oy c.in_ok-facts.facts f.0 f.1 f.2 c.if-ox-facts.false c.if-oy-facts.false c.if-facts-eq0.false)

pub new-requires-clause-few : goal.new-requires-clause-few
new-requires-clause-few c =
    few_offsets c.args.bytes.now c.in-Ok.bitmap c.args.ox c.args.oy c.in_ok-found.found.items c.in-Ok.ensures.found c.in_ok-found.ensures.items

pub new-requires-clause-ordered : goal.new-requires-clause-ordered
new-requires-clause-ordered c =
    let f = c.in-Ok.bitmap in
    let sides = bitmap_sides c.args.bytes.now element_side f c.in-Ok.ensures.found in
    subst OffsetsRise (sym c.in_ok-found.ensures.items) (offsets_rise f c.args.ox c.args.oy sides.2)
