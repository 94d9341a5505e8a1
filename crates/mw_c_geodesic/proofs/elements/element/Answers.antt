use Rattle.mw_c_geodesic.proofs.elements.element.Goals as goal

pub plane-requires : goal.plane-requires
plane-requires c = c.requires.size
