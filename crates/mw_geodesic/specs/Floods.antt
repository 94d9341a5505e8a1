-- How a flood goes on (Vincent 1993): samples are raised one at a time, and each place that was raised waits in a queue.
use Rattle.std.specs.Prelude.{◌≡◌, ℕ, ◌+◌, ◌*◌, ◌<◌, ◌≤◌, ◌⊎◌, List, [], ◌∷◌, ◌++◌, min, slice_set}
use Rattle.mw_model.specs.declared.offsets.Offset.{Offset}
use Rattle.mw_model.specs.Pictures.{Picture, picture, sample, IsPicture}
use Rattle.mw_model.specs.Laws.{Below, SameShape}
use Rattle.mw_geodesic.specs.Neighbours.{Joins, ElementCovers}
use Rattle.mw_geodesic.specs.Geodesics.{meet, reconstruction}
use Rattle.mw_geodesic.specs.declared.neighbours.Place.{Place}

-- the image with another sample in column x of row y
abbrev pub with_sample : Picture → ℕ → ℕ → ℕ → Picture
with_sample f x y s = picture f.kind f.width f.height f.maxval (slice_set f.samples (y * f.width + x) s)

-- the place is in the frame, and the offset leads from it to (u, v)
pub record IsBehind (width height : ℕ) (b : Offset) (u v : ℕ) (p : Place) : Type 0 where
  pub column : p.x < width
  pub row : p.y < height
  pub joins : Joins b p.x p.y u v

-- the place is in the frame, and the offset leads to it from (x, y)
pub record IsLedTo (width height : ℕ) (b : Offset) (x y : ℕ) (q : Place) : Type 0 where
  pub column : q.x < width
  pub row : q.y < height
  pub joins : Joins b x y q.x q.y

-- What a place offers to the one behind it by an offset: nothing is raised where that has no more to gain; else that takes the lesser of the offer and its mask, and waits.
pub data OfferMade (mask : Picture) (b : Offset) (q : Place) (f : Picture) (queue : List Place) : Picture → List Place → Type 0 where
  refused : ((x y : ℕ) → x < f.width → y < f.height → Joins b x y q.x q.y → min (sample f q.x q.y) (sample mask x y) ≤ sample f x y) → OfferMade mask b q f queue f queue
  taken : (p : Place) → IsBehind f.width f.height b q.x q.y p → sample f p.x p.y < min (sample f q.x q.y) (sample mask p.x p.y)
      → OfferMade mask b q f queue (with_sample f p.x p.y (min (sample f q.x q.y) (sample mask p.x p.y))) (queue ++ p ∷ [])

-- What a place gains by an offset: nothing, or the lesser of what stands there and its mask.
pub data Gained (mask : Picture) (b : Offset) (p : Place) (f : Picture) : Picture → Type 0 where
  kept : Gained mask b p f f
  gained : (q : Place) → IsLedTo f.width f.height b p.x p.y q → sample f p.x p.y < min (sample f q.x q.y) (sample mask p.x p.y)
      → Gained mask b p f (with_sample f p.x p.y (min (sample f q.x q.y) (sample mask p.x p.y)))

-- a place of the list stands in column u of row v
abbrev pub Has : List Place → ℕ → ℕ → Type 0
Has [] u v = ⊥
Has (q ∷ qs) u v = ((q.x ≡ u) × (q.y ≡ v)) ⊎ Has qs u v

-- the image is between the marker, cut to the mask, and the reconstruction
pub record IsPartlyRebuilt (e : List Offset) (mask marker f : Picture) : Type 0 where
  pub shape : SameShape f marker
  pub picture : IsPicture f
  pub above : Below (meet marker mask) f
  pub below : Below f (reconstruction e mask marker)

-- whatever marker the first image came from: if it is between that and the reconstruction, so is the second
abbrev pub StaysBetween : List Offset → Picture → Picture → Picture → Type 0
StaysBetween e mask f g = (marker : Picture) → IsPartlyRebuilt e mask marker f → IsPartlyRebuilt e mask marker g

-- the second image stays between as the first does, has its size, and can be taken for an image
pub record HasGrown (e : List Offset) (mask f g : Picture) : Type 0 where
  pub stays : StaysBetween e mask f g
  pub picture : IsPicture g
  pub width : g.width ≡ f.width
  pub height : g.height ≡ f.height

-- whatever a place has to offer, it is taken already, or the place waits
pub record AllWait (e : List Offset) (mask f : Picture) (queue : List Place) : Type 0 where
  pub inside : (u v : ℕ) → Has queue u v → (u < f.width) × (v < f.height)
  pub waits : (x y u v : ℕ) → x < f.width → y < f.height → u < f.width → v < f.height → ElementCovers e x y u v
      → (min (sample f u v) (sample mask x y) ≤ sample f x y) ⊎ Has queue u v

-- the place has nothing to offer
abbrev pub HasNothing : List Offset → Picture → Picture → ℕ → ℕ → Type 0
HasNothing e mask f u v = (x y : ℕ) → x < f.width → y < f.height → ElementCovers e x y u v → min (sample f u v) (sample mask x y) ≤ sample f x y

-- the place has nothing to offer by one offset
abbrev pub HasNothingBy : Offset → Picture → Picture → ℕ → ℕ → Type 0
HasNothingBy b mask f u v = (x y : ℕ) → x < f.width → y < f.height → Joins b x y u v → min (sample f u v) (sample mask x y) ≤ sample f x y

-- the place was put into the queue, or there was no need to
pub data QueuedIfNeeded (NoNeed : Type 0) (q : Place) (queue : List Place) : List Place → Type 0 where
  left_out : NoNeed → QueuedIfNeeded NoNeed q queue queue
  put_in : QueuedIfNeeded NoNeed q queue (queue ++ q ∷ [])
