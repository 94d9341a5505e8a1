use Rattle.std.proofs.Common.{◌≡◌, ◌+◌, true, length, sym, arith}
use Rattle.std.proofs.lemmas.Result.{IfOk-weaker}
use Rattle.mw_c_arrays.specs.Sources.{picture_in}
use Rattle.mw_c_lent.specs.Rows.{HasImageRows}
use Rattle.mw_c_lent.specs.Rules.{rule_picture}
use Rattle.mw_c_lent.specs.Standing.{seen_from, seen_to}
use Rattle.mw_c_lent.proofs.Slid.{grown_in}
use Rattle.mw_c_lent.proofs.Stood.{grown_held, rows_at}
use Rattle.mw_c_lent.proofs.lacking.let_stand.Goals as goal

pub move_to_front-requires-clause-behind : goal.move_to_front-requires-clause-behind
move_to_front-requires-clause-behind g c =
    let f = picture_in c.args.source.f in
    let reach = c.args.source.reach in
    let rows = grown_in f.width f.height c.width-width.result c.height-height.result reach c.args.strip c.grown-place.result c.width-width.ensures c.height-height.ensures c.requires.strip c.grown-place.ensures.value in
    omega (arith, rows.from, c.requires.behind)

pub move_to_front-requires-clause-joined : goal.move_to_front-requires-clause-joined
move_to_front-requires-clause-joined g c =
    let f = picture_in c.args.source.f in
    let reach = c.args.source.reach in
    let rows = grown_in f.width f.height c.width-width.result c.height-height.result reach c.args.strip c.grown-place.result c.width-width.ensures c.height-height.ensures c.requires.strip c.grown-place.ensures.value in
    omega (arith, rows.from, c.requires.joined)

pub make_lacking-requires-clause-joined : goal.make_lacking-requires-clause-joined
make_lacking-requires-clause-joined g c =
    let f = picture_in c.args.source.f in
    let reach = c.args.source.reach in
    let rows = grown_in f.width f.height c.width-width.result c.height-height.result reach c.args.strip c.grown-place.result c.width-width.ensures c.height-height.ensures c.requires.strip c.grown-place.ensures.value in
    omega (arith, rows.from, c.requires.joined)

pub make_lacking-requires-clause-low : goal.make_lacking-requires-clause-low
make_lacking-requires-clause-low g c =
    let f = picture_in c.args.source.f in
    let reach = c.args.source.reach in
    let rows = grown_in f.width f.height c.width-width.result c.height-height.result reach c.args.strip c.grown-place.result c.width-width.ensures c.height-height.ensures c.requires.strip c.grown-place.ensures.value in
    let within = c.grown-place.ensures.within in
    omega (arith, within.down, c.height-height.ensures)

pub make_lacking-requires-clause-held : goal.make_lacking-requires-clause-held
make_lacking-requires-clause-held g c =
    let f = picture_in c.args.source.f in
    let reach = c.args.source.reach in
    let rows = grown_in f.width f.height c.width-width.result c.height-height.result reach c.args.strip c.grown-place.result c.width-width.ensures c.height-height.ensures c.requires.strip c.grown-place.ensures.value in
    grown_held f.width f.height reach c.args.strip c.grown-place.result f.width (length c.move_to_front.new.between) rows (sym c.requires.strip.across) (omega (arith, c.requires.between, c.move_to_front.ensures.between))

pub make_lacking-requires-clause-stands : goal.make_lacking-requires-clause-stands
make_lacking-requires-clause-stands g c =
    let f = picture_in c.args.source.f in
    let reach = c.args.source.reach in
    let rows = grown_in f.width f.height c.width-width.result c.height-height.result reach c.args.strip c.grown-place.result c.width-width.ensures c.height-height.ensures c.requires.strip c.grown-place.ensures.value in
    c.move_to_front.ensures.moved (rule_picture c.args.source.rule f) (sym c.requires.strip.across) c.requires.stands

pub returns-clause-made : goal.returns-clause-made
returns-clause-made g c =
    let f = picture_in c.args.source.f in
    let reach = c.args.source.reach in
    let rows = grown_in f.width f.height c.width-width.result c.height-height.result reach c.args.strip c.grown-place.result c.width-width.ensures c.height-height.ensures c.requires.strip c.grown-place.ensures.value in
    let level = g.P.Pixel.level in
    let made = rule_picture c.args.source.rule f in
    let place = c.grown-place.result in
    let between = c.make_lacking.new.between in
    IfOk-weaker c.make_lacking.result (λ done. done ≡ true → HasImageRows level made place.y (place.y + place.height) between)
    (λ done. done ≡ true → HasImageRows level made (seen_from reach c.args.strip) (seen_to f.height reach c.args.strip) between)
    (λ done is yes. rows_at level made place.y (place.y + place.height) (seen_from reach c.args.strip) (seen_to f.height reach c.args.strip) between rows.from rows.to (is yes))
    c.make_lacking.ensures.made

pub returns-clause-taken : goal.returns-clause-taken
returns-clause-taken g c = λ none fits suit.
    let f = picture_in c.args.source.f in
    let reach = c.args.source.reach in
    let rows = grown_in f.width f.height c.width-width.result c.height-height.result reach c.args.strip c.grown-place.result c.width-width.ensures c.height-height.ensures c.requires.strip c.grown-place.ensures.value in
    c.make_lacking.ensures.taken (omega (arith, rows.from, none, c.requires.behind, c.requires.joined)) fits c.args.strip c.requires.strip.across (omega (arith, rows.from, rows.to, c.requires.strip.low)) suit
