use Rattle.mw_tile.proofs.Shown.{window_of_cut}
use Rattle.mw_tile.proofs.laws.cut_is_window.Goals as goal

pub returns : goal.returns
returns g c = λ f width height cut. window_of_cut c.args.window.now f c.args.grid c.args.i c.args.reach c.args.element.now width height c.requires.place cut c.requires.reach
