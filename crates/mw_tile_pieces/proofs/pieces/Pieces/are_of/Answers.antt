use Rattle.std.proofs.Common.{◌≡◌, ◌<◌, length, List, ap, sym, subst, arith, rules, ◌∙◌}
use Rattle.std.specs.List.{AllByRecursion}
use Rattle.mw_model.proofs.mw_facts.Alls.{all-take_whole}
use Rattle.mw_model.specs.declared.offsets.Rect.{Rect}
use Rattle.mw_grid.specs.Rectangles.{whole_frame}
use Rattle.mw_tile_pieces.specs.Patches.{IsPatchOf, Patch, ShowsIn}
use Rattle.mw_tile_pieces.proofs.Patches.{all_next, at_frame, each_shows, frame_at, inside_frame, patch_of, read_at, shown_by, within_as}
use Rattle.mw_tile_pieces.proofs.pieces.Pieces.are_of.Goals as goal

pub agrees-requires : goal.agrees-requires
agrees-requires g c =
    let j = c.args.self.now in
    let f = c.args.plane.now in
    let joint = c.pieces-pieces.ensures.joint in
    let wide : j.frame_width ≡ c.width-width.result = sym c.frame_width.ensures ∙ c.if-frame_width-width.false in
    let high : j.frame_height ≡ c.height-height.result = sym c.frame_height.ensures ∙ c.if-frame_height-height.false in
    let k = c.loop-piece.piece-index in
    let p = c.piece-item.result in
    let lt : k < length j.pieces = subst (λ (t : List (Patch _)). k < length t) c.pieces-pieces.ensures.value c.loop-piece-test.true in
    let is = read_at j.pieces c.pieces-pieces.result.now k p c.pieces-pieces.ensures.value lt c.piece-item.is in
    let within = within_as j c.place-place.result c.width-width.result c.height-height.result joint c.place-place.ensures (sym wide) (sym high) in
    let across = within.across in
    let down = within.down in
    let at-is : c.whole_frame-at.result ≡ whole_frame c.width-width.result c.height-height.result = c.whole_frame-at.ensures.value in
    let xs = ap (λ (q : Rect). q.x) at-is in
    let ys = ap (λ (q : Rect). q.y) at-is in
    let ws = ap (λ (q : Rect). q.width) at-is in
    let hs = ap (λ (q : Rect). q.height) at-is in
    let patch : IsPatchOf c.width-width.result c.height-height.result p = subst (λ m. IsPatchOf m c.height-height.result p) wide (subst (λ n. IsPatchOf j.frame_width n p) high (patch_of j k p joint lt is)) in
    record {
      across = omega arith;
      down = omega arith;
      across_at = omega arith;
      down_at = omega arith;
      width = sym c.width-width.ensures.value ∙ sym ws;
      height = sym c.height-height.ensures.value ∙ sym hs;
      inside = inside_frame c.width-width.result c.height-height.result p c.whole_frame-at.result patch at-is;
    }

pub returns-then-not-agrees : goal.returns-then-not-agrees
returns-then-not-agrees g c =
    let j = c.args.self.now in
    let f = c.args.plane.now in
    let k = c.loop-piece.piece-index in
    let p = c.piece-item.result in
    let lt : k < length j.pieces = subst (λ (t : List (Patch _)). k < length t) c.pieces-pieces.ensures.value c.loop-piece-test.true in
    let is = read_at j.pieces c.pieces-pieces.result.now k p c.pieces-pieces.ensures.value lt c.piece-item.is in
    let at-is = frame_at c.width-width.result c.height-height.result f.width f.height c.whole_frame-at.result c.whole_frame-at.ensures.value c.width-width.ensures.value c.height-height.ensures.value in
    ((λ no. absurd cc), (λ shows. c.if-not-agrees.ensures.1 (each_shows j f c.place-place.result c.whole_frame-at.result k p c.pieces-pieces.ensures.joint c.place-place.ensures at-is lt is shows)))

pub loop-piece-preserved : goal.loop-piece-preserved
loop-piece-preserved g c =
    all_next (ShowsIn c.place-place.result (at_frame c.whole_frame-at.result c.args.plane.now)) c.pieces-pieces.result.now c.loop-piece.piece-index c.piece-item.result c.loop-piece-test.true c.piece-item.is (c.agrees.ensures.0 c.if-not-agrees.false)
    c.loop-piece.invariant

pub returns : goal.returns
returns g c =
    let j = c.args.self.now in
    let f = c.args.plane.now in
    let wide : j.frame_width ≡ f.width = sym c.frame_width.ensures ∙ c.if-frame_width-width.false ∙ c.width-width.ensures.value in
    let high : j.frame_height ≡ f.height = sym c.frame_height.ensures ∙ c.if-frame_height-height.false ∙ c.height-height.ensures.value in
    let at-is = frame_at c.width-width.result c.height-height.result f.width f.height c.whole_frame-at.result c.whole_frame-at.ensures.value c.width-width.ensures.value c.height-height.ensures.value in
    let P : Patch _ → Type 0 = ShowsIn c.place-place.result (at_frame c.whole_frame-at.result f) in
    let all : AllByRecursion P j.pieces = subst (AllByRecursion P) c.pieces-pieces.ensures.value (all-take_whole P c.pieces-pieces.result.now c.loop-piece.piece-index (omega (arith, c.loop-piece-test.false)) c.loop-piece.invariant) in
    ((λ yes. shown_by j f c.place-place.result c.whole_frame-at.result c.pieces-pieces.ensures.joint c.place-place.ensures at-is wide high all), (λ shows. search rules))
