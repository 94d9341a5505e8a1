use Rattle.std.proofs.Common.{◌≡◌, ℕ, ◌+◌, ◌*◌, ◌≤◌, true, min, map, length, refl, sym, subst, ◌∙◌}
use Rattle.std.proofs.lemmas.Result.{IfOk-weaker}
use Rattle.mw_model.specs.Pictures.{sample}
use Rattle.mw_model.specs.Tasks.{cells_in}
use Rattle.mw_model.specs.Windows.{View, seen_at}
use Rattle.mw_c_arrays.specs.Sources.{picture_in}
use Rattle.mw_c_arrays.proofs.SourceImages.{source_image}
use Rattle.mw_c_lent.specs.Boxes.{IsMadeUnder}
use Rattle.mw_c_lent.specs.InTurn.{rule_offsets, rule_value}
use Rattle.mw_c_lent.specs.Rules.{rule_picture}
use Rattle.mw_c_lent.proofs.InTurn.{in_turn_made}
use Rattle.mw_c_lent.proofs.Slid.{frame_strip, grown_in, room_for}
use Rattle.mw_c_lent.proofs.Steps.{strip_above}
use Rattle.mw_c_lent.proofs.Stood.{rows_at}
use Rattle.mw_c_lent.proofs.in_turn.put_turn.Goals as goal

pub front_rows-rows-requires : goal.front_rows-rows-requires
front_rows-rows-requires g c =
    let f = picture_in c.args.sequence.f in
    let strip = c.args.strip in
    let reach = c.args.sequence.reach in
    let place = c.grown-place.result in
    let rows = grown_in f.width f.height c.width-width.result c.height-height.result reach strip place c.width-width.ensures c.height-height.ensures c.requires.strip c.grown-place.ensures.value in
    let same : strip.width ≡ place.width = c.requires.strip.across ∙ sym rows.across in
    let most : ℕ = min (strip.height + (reach.up + reach.down)) f.height in
    room_for place.height most place.width (length c.args.between.now) rows.few (subst (λ (t : ℕ). most * t ≤ length c.args.between.now) same c.requires.between)

pub returns-clause-made : goal.returns-clause-made
returns-clause-made g c =
    let level = g.P.Pixel.level in
    let s = c.args.sequence in
    let f = picture_in s.f in
    let strip = c.args.strip in
    let place = c.grown-place.result in
    let made = rule_picture s.first f in
    let out = c.put_under.new.out in
    let between = c.args.between.now in
    let image = source_image s.f c.requires.sound.image in
    let rows = grown_in f.width f.height c.width-width.result c.height-height.result s.reach strip place c.width-width.ensures c.height-height.ensures c.requires.strip c.grown-place.ensures.value in
    let own = strip_above s.first f place (frame_strip f.width f.height place f refl refl rows.rows) in
    let stands = rows_at level made _ _ place.y (place.y + place.height) between (sym rows.from) (sym rows.to) c.requires.stands in
    let part = c.front_rows-rows.ensures.rows made own stands in
    IfOk-weaker c.put_under.result (λ done. done ≡ true → IsMadeUnder (rule_value (level c.args.top) s.second) level (seen_at c.new-seen.result) (rule_offsets s.second) strip out)
    (λ done. done ≡ true → map level out ≡ cells_in strip (sample (rule_picture s.second made)))
    (λ done is yes.
    in_turn_made level f s.first s.second s.reach c.args.top c.width-width.result c.height-height.result place strip c.front_rows-rows.result.now out c.requires.sound.first c.requires.sound.second image.picture
    c.requires.top c.width-width.ensures c.height-height.ensures (frame_strip f.width f.height strip f refl refl c.requires.strip) c.grown-place.ensures.value c.requires.sound.within part
    (subst (λ (v : View g.row.P.Denot). IsMadeUnder (rule_value (level c.args.top) s.second) level (seen_at v) (rule_offsets s.second) strip out) c.new-seen.ensures (is yes)))
    c.put_under.ensures.made
