-- Steps of plans: what each gives at a place, of what is seen of its sources (own).
use Rattle.std.specs.Prelude.{ℕ, ◌-◌, ◌&&◌, ◌==◌, List, [], ◌∷◌, length, pos, min, max, nat_le, if◌then◌else◌, unwrap_or, slice_index}
use Rattle.mw_model.specs.declared.offsets.Offset.{Offset}
use Rattle.mw_model.specs.declared.offsets.OffsetBox.{OffsetBox}
use Rattle.mw_model.specs.declared.shapes.Kind.{Kind}
use Rattle.mw_model.specs.declared.shapes.Kind.TheVariants as kind
use Rattle.mw_model.specs.Rectangles.{box_offsets}
use Rattle.mw_model.specs.Rasters.{Sight, seen_under}
use Rattle.mw_model.specs.Flat.{least, greatest, in_rising_order}

-- What one step computes. An element stands as its offsets.
pub data PlanStep : Type 0 where
  Erode : List Offset → PlanStep
  Dilate : List Offset → PlanStep
  ErodeBox : OffsetBox → PlanStep
  DilateBox : OffsetBox → PlanStep
  Rank : List Offset → ℕ → PlanStep
  Minus : PlanStep
  AtLeast : ℕ → PlanStep
  Invert : PlanStep
  Meet : PlanStep
  Join : PlanStep
  Blank : ℕ → PlanStep
  Mark : ℕ → PlanStep
  MarkLast : ℕ → PlanStep
  Equal : ℕ → PlanStep
  Sum : PlanStep

-- the place itself
abbrev pub origin : List Offset
origin = record { dx = pos 0; dy = pos 0 } ∷ []

-- where the step looks, from each place
abbrev pub looks_at : PlanStep → List Offset
looks_at (Erode e) = e
looks_at (Dilate e) = e
looks_at (ErodeBox b) = box_offsets b
looks_at (DilateBox b) = box_offsets b
looks_at (Rank e k) = e
looks_at (Blank m) = []
looks_at s = origin

-- the sample at the place itself
abbrev pub here : Sight ℕ → ℕ → ℕ → ℕ
here f x y = unwrap_or (f (pos x) (pos y)) 0

-- number min(k, m) of the m samples in rising order, counted from 1
abbrev pub ranked : ℕ → List ℕ → ℕ
ranked k found = slice_index (in_rising_order found) (min k (length found) - 1)

-- the value of the step at (x, y), of up to three sources; top is the maxval of the first
abbrev pub step_at : PlanStep → ℕ → Sight ℕ → Sight ℕ → Sight ℕ → ℕ → ℕ → ℕ
step_at (Erode e) top f g h x y = least top (seen_under f e x y)
step_at (Dilate e) top f g h x y = greatest (seen_under f e x y)
step_at (ErodeBox b) top f g h x y = least top (seen_under f (box_offsets b) x y)
step_at (DilateBox b) top f g h x y = greatest (seen_under f (box_offsets b) x y)
step_at (Rank e k) top f g h x y = ranked k (seen_under f e x y)
step_at Minus top f g h x y = here f x y - here g x y
step_at (AtLeast k) top f g h x y = if nat_le k (here f x y) then 1 else 0
step_at Invert top f g h x y = top - here f x y
step_at Meet top f g h x y = min (here f x y) (here g x y)
step_at Join top f g h x y = max (here f x y) (here g x y)
step_at (Blank m) top f g h x y = 0
step_at (Mark v) top f g h x y = if here g x y == 1 && here h x y == 0 then v else here f x y
step_at (MarkLast v) top f g h x y = if here g x y == 1 then v else here f x y
step_at (Equal v) top f g h x y = if here f x y == v then 1 else 0
step_at Sum top f g h x y = here f x y

-- the kind of a step's plane, of the kind of its first source
abbrev pub kind_of_step : PlanStep → Kind → Kind
kind_of_step (AtLeast k) first = kind.Bit
kind_of_step (Blank m) first = kind.Grey
kind_of_step (Equal v) first = kind.Bit
kind_of_step s first = first

-- the maxval of a step's plane, of the maxval of its first source
abbrev pub maxval_of_step : PlanStep → ℕ → ℕ
maxval_of_step (AtLeast k) top = 1
maxval_of_step (Blank m) top = m
maxval_of_step (Equal v) top = 1
maxval_of_step s top = top
