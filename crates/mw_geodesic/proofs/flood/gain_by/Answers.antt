use Rattle.std.proofs.Common.{◌≡◌, ◌∙◌, ℕ, min, ap, arith}
use Rattle.mw_model.specs.Pictures.{sample}
use Rattle.mw_model.proofs.ImagePlaces.{sample_bounded}
use Rattle.mw_geodesic.specs.Floods.{IsLedTo, kept, gained, with_sample}
use Rattle.mw_geodesic.proofs.flood.gain_by.Goals as goal

pub set-requires-clause-bounded : goal.set-requires-clause-bounded
set-requires-clause-bounded c =
    let q = c.in-Some.q in
    let bounded = sample_bounded c.args.canvas.now c.requires.picture q.x q.y (omega (arith, c.in-Some.ensures.column)) (omega (arith, c.in-Some.ensures.row)) in
    omega arith

pub returns-in_default : goal.returns-in_default
returns-in_default c = kept

pub returns-else-sample-s : goal.returns-else-sample-s
returns-else-sample-s c = kept

pub returns-then-sample-s : goal.returns-then-sample-s
returns-then-sample-s c =
    let f = c.args.canvas.now in
    let q = c.in-Some.q in
    let p = c.args.p in
    let s : c.min-s.result ≡ min (sample f q.x q.y) (sample c.args.mask.now p.x p.y) = omega arith in
    let drawn : c.set.new.self ≡ with_sample f p.x p.y (min (sample f q.x q.y) (sample c.args.mask.now p.x p.y)) = c.set.ensures ∙ ap (λ (t : ℕ). with_sample f p.x p.y t) s in
    let at : IsLedTo f.width f.height c.args.b p.x p.y q = record { column = omega (arith, c.in-Some.ensures.column); row = omega (arith, c.in-Some.ensures.row); joins = c.in-Some.ensures.joins } in
    rw drawn (gained q at (omega arith))
