use Rattle.mw_gran.proofs.BoxBounds.{bounds_near, product_is, same_box}
use Rattle.mw_gran.proofs.boxes.multiplied.Goals as goal

pub returns : goal.returns
returns c =
    let near = bounds_near c.args.offsets c.requires.near in
    let small = c.requires.small in
    same_box _ _ _ _ _ _ _ _ (product_is c.args.n c.args.offsets.x0 small near.0) (product_is c.args.n c.args.offsets.x1 small near.1) (product_is c.args.n c.args.offsets.y0 small near.2) (product_is c.args.n c.args.offsets.y1 small near.3)
