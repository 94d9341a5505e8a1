use Rattle.std.proofs.Common.{◌≡◌, ◌∙◌, ap, arith, subst, sym}
use Rattle.std.proofs.lemmas.Result.{IfOk-weaker}
use Rattle.mw_model.specs.Flat.{complement}
use Rattle.mw_model.specs.Pictures.{Picture, IsImage}
use Rattle.mw_geodesic.specs.Neighbours.{neighbours_of}
use Rattle.mw_geodesic.proofs.Reconstructed.{rebuilt_shape}
use Rattle.mw_c_geodesic.specs.Methods.{rebuilt_by}
use Rattle.mw_c_geodesic.proofs.RebuiltImages.{eroded_by_turns, turned_rebuilt}
use Rattle.mw_c_geodesic.proofs.TurnedSamples.{complement_image}
use Rattle.mw_c_geodesic.proofs.rebuilding.rebuilt_set.Goals as goal

pub dilated_set-requires-2-clause-image : goal.dilated_set-requires-2-clause-image
dilated_set-requires-2-clause-image c = subst (λ (t : Picture). IsImage t) (sym c.in_ok-within.ensures) (complement_image c.args.mask.now c.requires.mask)

pub turned-requires-3-clause-image : goal.turned-requires-3-clause-image
turned-requires-3-clause-image c =
    turned_rebuilt (neighbours_of c.args.neighbours) c.args.mask.now c.args.marker.now c.in_ok-below.below c.in_ok-within.within c.in_ok-rebuilt.rebuilt c.requires.mask c.requires.shape c.in_ok-below.ensures c.in_ok-within.ensures c.in_ok-rebuilt.ensures

pub turned-requires-3-clause-kind : goal.turned-requires-3-clause-kind
turned-requires-3-clause-kind c =
    ap (λ (t : Picture). t.kind) c.in_ok-rebuilt.ensures
    ∙ (rebuilt_shape (neighbours_of c.args.neighbours) c.in_ok-within.within c.in_ok-below.below).kind
    ∙ ap (λ (t : Picture). t.kind) c.in_ok-below.ensures
    ∙ c.requires.shape.kind
    ∙ c.requires.kind

pub returns : goal.returns
returns c =
    let e = neighbours_of c.args.neighbours in
    IfOk-weaker c.turned-3.result (λ g. g ≡ complement c.in_ok-rebuilt.rebuilt) (λ g. g ≡ rebuilt_by c.args.method e c.args.mask.now c.args.marker.now)
    (λ g is.
    eroded_by_turns c.args.method e c.args.mask.now c.args.marker.now c.in_ok-below.below c.in_ok-within.within c.in_ok-rebuilt.rebuilt g (λ same. omega arith) c.requires.marker.picture c.requires.mask.picture c.requires.shape
    c.in_ok-below.ensures c.in_ok-within.ensures c.in_ok-rebuilt.ensures is) c.turned-3.ensures
