-- Rows that stand for a step that looks beyond a strip (own).
use Rattle.std.specs.Prelude.{◌≡◌, ℕ, ◌+◌, ◌-◌, List, min}
use Rattle.mw_model.specs.declared.offsets.Reach.{Reach}
use Rattle.mw_model.specs.declared.offsets.Rect.{Rect}
use Rattle.mw_model.specs.Pictures.{Picture}
use Rattle.mw_model.specs.Windows.{View}
use Rattle.mw_c_lent.specs.declared.slides.Slide.{Slide}
use Rattle.mw_c_lent.specs.InPlace.{IsWholeView}
use Rattle.mw_c_lent.specs.Rows.{HasImageRows}
use Rattle.mw_c_lent.specs.Slides.{slide_picture}

-- the first row that is looked at for a strip by a step that looks so far beyond it
abbrev pub seen_from : Reach → Rect → ℕ
seen_from reach r = r.y - reach.up

-- the row behind the last one, in an image of so many rows
abbrev pub seen_to : ℕ → Reach → Rect → ℕ
seen_to height reach r = min (r.y + r.height + reach.down) height

-- the cells begin with what the extremum makes of the image that the view has: with its rows from one on, before another
abbrev pub HasMadeRows : {A : Type 0} → (A → ℕ) → View A → Slide → ℕ → ℕ → ℕ → List A → Type 0
HasMadeRows level w s top from to cells = (f : Picture) → IsWholeView level w f → f.maxval ≡ top → HasImageRows level (slide_picture s f) from to cells

-- and they are all that are looked at for a strip by a step that looks so far beyond it
abbrev pub HasRowsAround : {A : Type 0} → (A → ℕ) → View A → Slide → Reach → ℕ → Rect → List A → Type 0
HasRowsAround level w s reach top r cells = HasMadeRows level w s top (seen_from reach r) (seen_to w.frame_height reach r) cells
