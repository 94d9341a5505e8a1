-- What a window of a source is, and what is seen of it.
use Rattle.std.specs.Prelude.{◌≡◌, ℕ, ◌≤◌}
use Rattle.mw_model.specs.declared.shapes.Kind.TheVariants as kind
use Rattle.mw_model.specs.Windows.{View}
use Rattle.mw_tile.specs.Windows.{SourceWindow}
use Rattle.mw_tile.specs.declared.any.WindowView.{WindowView}
use Rattle.mw_tile.specs.declared.any.WindowView.TheVariants as view
use Rattle.mw_tile.specs.declared.any.Samples.{Samples}
use Rattle.mw_tile.specs.declared.any.Samples.TheVariants.{Bits, Grey8, Grey16}

-- the window of a set
abbrev pub set_window : View ℕ → SourceWindow
set_window w = record { kind = kind.Bit; maxval = 1; view = w }

-- the window of a source in levels of grey up to the maxval
abbrev pub grey_window : View ℕ → ℕ → SourceWindow
grey_window w maxval = record { kind = kind.Grey; maxval = maxval; view = w }

-- the window that is held
abbrev pub window_held : Samples → SourceWindow
window_held (Bits w) = set_window w
window_held (Grey8 w maxval) = grey_window w maxval
window_held (Grey16 w maxval) = grey_window w maxval

-- the maxval is one of this size of samples: up to 255 in one byte, and else in two
abbrev pub WindowIsHeld : Samples → Type 0
WindowIsHeld (Bits w) = Unit {0}
WindowIsHeld (Grey8 w maxval) = (1 ≤ maxval) × (maxval ≤ 255)
WindowIsHeld (Grey16 w maxval) = 256 ≤ maxval

-- what is looked at is this window
abbrev pub ShowsWindow : SourceWindow → WindowView → Type 0
ShowsWindow s (view.Bits w) = s ≡ set_window w.now
ShowsWindow s (view.Grey8 w maxval) = (s ≡ grey_window w.now maxval) × (1 ≤ maxval) × (maxval ≤ 255)
ShowsWindow s (view.Grey16 w maxval) = (s ≡ grey_window w.now maxval) × (256 ≤ maxval)
