use Rattle.mw_pixel.proofs.listed.copies.Goals as goal

pub returns : goal.returns
returns g c = c.in_ok-samples.ensures.items_if_clones_equal (λ y is. g.met.P.Pixel.clone_is_same c.args.sample y is)
