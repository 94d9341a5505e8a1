use Rattle.std.proofs.Common.{◌≡◌, ◌*◌, ℕ, length, refl, subst}
use Rattle.std.specs.Prelude.{◌==◌, if◌then◌else◌}
use lib.Lanes.{zip2}
use Rattle.mw_model.specs.Pictures.{Picture}
use Rattle.mw_step_task.specs.Products.{HoldsImage, both_drawn, plane_drawn}
use Rattle.mw_step.proofs.Images.{if_ok_too}
use Rattle.mw_step.proofs.PlaceByPlace.{both_given}
use Rattle.mw_step.proofs.Shared.{kept_last}
use Rattle.mw_step.proofs.marks.mark_last.Goals as goal

pub returns-in-Some : goal.returns-in-Some
returns-in-Some c =
    subst (λ (f : Picture). HoldsImage f c.in-Some.made)
    (kept_last c.args.held.now c.args.a.now c.args.v c.args.set.now.view c.bits_of-places.result.now c.requires.held c.bits_of-places.ensures c.requires.place c.shared.ensures.size c.is_blank.ensures.size (c.is_blank.ensures.only.0 c.if-is_blank.true))
    (rw c.in-Some.is at c.in_ok-made.ensures.held)

pub returns : goal.returns
returns c =
    let a = c.args.a.now.view in
    let K = c.args.a.now.kind in
    let M = c.args.a.now.maxval in
    let v = c.args.v in
    if_ok_too c.mark_places.result (HoldsImage (plane_drawn K M a.place (zip2 (λ (s m : ℕ). if m == 1 then v else s) a.cells c.bits_of-places.result.now.cells))) (λ _. length a.cells ≡ a.place.height * a.place.width)
    (HoldsImage (both_drawn K M (λ s m. if m == 1 then v else s) a c.args.set.now.view))
    (λ m holds fills. subst (λ (f : Picture). HoldsImage f m)
    (both_given K M (λ s m. if m == 1 then v else s) a c.args.set.now.view c.bits_of-places.result.now c.bits_of-places.result.now.cells c.bits_of-places.ensures refl c.is_blank.ensures.size c.requires.place fills) holds)
    c.mark_places.ensures.held c.mark_places.ensures.fills
