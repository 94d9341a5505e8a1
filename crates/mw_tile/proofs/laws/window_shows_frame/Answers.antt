use Rattle.mw_tile.proofs.Shown.{seen_under-window}
use Rattle.mw_tile.proofs.laws.window_shows_frame.Goals as goal

pub returns : goal.returns
returns g c = λ f tile window x y across down. seen_under-window c.args.window.now f c.args.element.now tile window x y across down
