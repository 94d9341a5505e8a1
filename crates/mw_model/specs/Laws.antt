-- What the laws say.
use Rattle.std.specs.Prelude.{◌≡◌, ℕ, ◌<◌, ◌≤◌, List, Contains, pos}
use Rattle.mw_model.specs.declared.offsets.Offset.{Offset}
use Rattle.mw_model.specs.Pictures.{Picture, sample}

-- no sample of f is above that of g in its place
abbrev pub Below : Picture → Picture → Type 0
Below f g = (x y : ℕ) → x < f.width → y < f.height → sample f x y ≤ sample g x y

-- the two images have one kind, size and maxval
pub record SameShape (f g : Picture) : Type 0 where
  pub kind : f.kind ≡ g.kind
  pub width : f.width ≡ g.width
  pub height : f.height ≡ g.height
  pub maxval : f.maxval ≡ g.maxval

-- the element holds its origin
abbrev pub HoldsOrigin : List Offset → Type 0
HoldsOrigin element = Contains element (record { dx = pos 0; dy = pos 0 })
