use Rattle.std.proofs.Common.{◌≡◌, sym, subst}
use Rattle.std.specs.Prelude.{IfOk}
use Rattle.mw_tile.specs.Windows.{SourceWindow, window_of}
use Rattle.mw_c_layers.specs.declared.origins.Origin.{Origin}
use Rattle.mw_c_layers.specs.Origins.{IsOrigin, origin_picture}
use Rattle.mw_c_layers.specs.Parts.{IsStrip}
use Rattle.mw_c_layers.proofs.windows.window.Goals as goal

pub window_of_array-requires : goal.window_of_array-requires
window_of_array-requires c = record {
  sound = subst IsOrigin c.in-Array.is c.requires.sound;
  strip = subst (λ (o : Origin). IsStrip c.args.place (origin_picture o)) c.in-Array.is c.requires.strip;
}

pub returns-in-Array-clause-window : goal.returns-in-Array-clause-window
returns-in-Array-clause-window c = subst (λ (o : Origin). IfOk c.window_of_array.result (λ (w : SourceWindow). w ≡ window_of c.args.place (origin_picture o))) (sym c.in-Array.is) c.window_of_array.ensures.window

pub window_of_made-requires : goal.window_of_made-requires
window_of_made-requires c = subst (λ (o : Origin). IsStrip c.args.place (origin_picture o)) c.in-Made.is c.requires.strip

pub returns-in-Made-clause-window : goal.returns-in-Made-clause-window
returns-in-Made-clause-window c = subst (λ (o : Origin). IfOk c.window_of_made.result (λ (w : SourceWindow). w ≡ window_of c.args.place (origin_picture o))) (sym c.in-Made.is) c.window_of_made.ensures.window
