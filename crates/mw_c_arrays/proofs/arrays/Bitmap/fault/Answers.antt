use Rattle.std.proofs.Common.{◌≡◌, rules}
use Rattle.mw_c_arrays.specs.Faults.{bitmap_fault}
use Rattle.mw_c_arrays.specs.Sound.{IsElementBitmap}
use Rattle.mw_c_arrays.proofs.FirstCases.{if_none}
use Rattle.mw_c_arrays.proofs.Bitmaps.{bitmap_sound}
use Rattle.mw_c_arrays.proofs.arrays.Bitmap.fault.Goals as goal

pub returns-clause-sound : goal.returns-clause-sound
returns-clause-sound c =
    let b = c.args.self.now in
    let first : c.first_of.result ≡ bitmap_fault c.args.self.now = search rules in
    if_none c.first_of.result (bitmap_fault c.args.self.now) (IsElementBitmap c.args.self.now) first (λ none.
    let is = bitmap_sound b.width b.height b.origin_x b.origin_y b.pixels.now none in
    record { sides = is.sides; size = is.size; origin = is.origin; some = is.some })
