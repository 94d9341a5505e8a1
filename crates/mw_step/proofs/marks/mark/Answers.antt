use Rattle.std.proofs.Common.{◌≡◌, ◌*◌, ℕ, length, subst}
use Rattle.std.specs.Prelude.{◌==◌, ◌&&◌, if◌then◌else◌}
use lib.Lanes.{zip2}
use Rattle.mw_model.specs.Pictures.{Picture}
use Rattle.mw_step_task.specs.Products.{HoldsImage, three_drawn, plane_drawn}
use Rattle.mw_step.proofs.Images.{if_ok_too}
use Rattle.mw_step.proofs.PlaceByPlace.{marked_given}
use Rattle.mw_step.proofs.Shared.{kept_marked}
use Rattle.mw_step.proofs.marks.mark.Goals as goal

pub returns-in-Some : goal.returns-in-Some
returns-in-Some c =
    let within = c.is_within.ensures in
    subst (λ (f : Picture). HoldsImage f c.in-Some.made)
    (kept_marked c.args.held.now c.args.a.now c.args.v c.args.set.now.view c.args.other.now.view c.bits_of-places.result.now c.bits_of-others.result.now c.requires.held c.bits_of-places.ensures c.bits_of-others.ensures
    c.requires.place c.requires.other_place c.shared.ensures.size within.first within.second (within.within.0 c.if-is_within.true))
    (rw c.in-Some.is at c.in_ok-made.ensures.held)

pub returns : goal.returns
returns c =
    let a = c.args.a.now.view in
    let K = c.args.a.now.kind in
    let M = c.args.a.now.maxval in
    let v = c.args.v in
    if_ok_too c.mark_places.result (HoldsImage (plane_drawn K M a.place (zip2 (λ (s m : ℕ). if m == 1 then v else s) a.cells c.in_ok-rest.rest.cells))) (λ _. length a.cells ≡ a.place.height * a.place.width)
    (HoldsImage (three_drawn K M (λ s m n. if m == 1 && n == 0 then v else s) a c.args.set.now.view c.args.other.now.view))
    (λ m holds fills. subst (λ (f : Picture). HoldsImage f m)
    (marked_given K M v a c.args.set.now.view c.args.other.now.view c.bits_of-places.result.now c.bits_of-others.result.now c.in_ok-rest.rest.cells c.bits_of-places.ensures c.bits_of-others.ensures c.in_ok-rest.ensures.places
    c.without.ensures.first c.without.ensures.second c.requires.place c.requires.other_place fills) holds)
    c.mark_places.ensures.held c.mark_places.ensures.fills
