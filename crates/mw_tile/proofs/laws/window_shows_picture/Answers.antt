use Rattle.mw_tile.proofs.Shown.{seen_under-picture}
use Rattle.mw_tile.proofs.laws.window_shows_picture.Goals as goal

pub returns : goal.returns
returns c = λ f tile picture window x y across down. seen_under-picture c.args.window.now.view f c.args.element.now tile picture.size window x y across down
