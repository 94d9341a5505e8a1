-- How many bytes a core is counted as: by the shapes of its entries, whatever the allocator gives (own).
use Rattle.std.specs.Prelude.{ℕ, ◌+◌, ◌-◌, ◌*◌, ◌/◌, ◌^◌, ◌&&◌, ◌==◌, Bool, true, false, nat_le, min, max, sum, map, length, reverse, List, [], ◌∷◌, Option, Some, None, is_some, option_map, option_and_then, slice_get, if◌then◌else◌}
use Rattle.std.specs.Option.{option_map_or}
use Rattle.std.specs.List.{range_with_len}
use Rattle.mw_model.specs.declared.names.Name.{Name}
use Rattle.mw_model.specs.declared.offsets.Offset.{Offset}
use Rattle.mw_model.specs.declared.offsets.Reach.{Reach}
use Rattle.mw_model.specs.declared.shapes.Kind.{Kind}
use Rattle.mw_model.specs.declared.shapes.Kind.TheVariants as kind
use Rattle.mw_model.specs.declared.shapes.Shape.{Shape}
use Rattle.mw_model.specs.declared.shapes.Shape.TheVariants as shape
use Rattle.mw_model.specs.declared.operations.Op.{Op}
use Rattle.mw_model.specs.declared.operations.Op.TheVariants as op
use Rattle.mw_model.specs.declared.operations.FlatOp.TheVariants as flat
use Rattle.mw_model.specs.declared.operations.GranOp.TheVariants as gran
use Rattle.mw_model.specs.Elements.{Figure, holds_origin, reach_of}
use Rattle.mw_model.specs.Values.{Value, value_at}
use Rattle.mw_model.specs.Refusals.{Table, Wanted, AnImage, AnElement, inputs_wanted, is_pending, outcome_at, shape_at, submission_at, ticket_of}
use Rattle.mw_model.specs.Stands.{CoreView}
use Rattle.mw_element_runs.specs.Runs.{follows}
use Rattle.mw_core_refusals.specs.mw_plan.Tables.{figure_in}
use Rattle.mw_core_refusals.specs.mw_store.Entries.{op_of}
use Rattle.mw_core.specs.declared.costs.Planes.{Planes}
use Rattle.mw_core.specs.declared.costs.TheConstants.{BESIDE_ELEMENT, BESIDE_TILE, ENTRY, ITEM, LONG_ITEM, STEP, TASK}
use Rattle.mw_core.specs.declared.readers.TheConstants.{LEAST_SUITED}

-- a number of bytes as it is told: no more than 64 bits hold
abbrev pub told_bytes : ℕ → ℕ
told_bytes n = min n (2 ^ 64 - 1)

-- ---- planes

-- a row of samples: a bit each, in words of 64, or a byte each, or two
abbrev pub bytes_of_row : Kind → ℕ → ℕ → ℕ
bytes_of_row kind.Bit maxval width = (width + 63) / 64 * 8
bytes_of_row kind.Grey maxval width = if nat_le maxval 255 then width else width * 2

-- a plane in one piece
abbrev pub bytes_of_plane : Kind → ℕ → ℕ → ℕ → ℕ
bytes_of_plane k maxval width height = bytes_of_row k maxval width * height

-- how many tiles of this side a frame has, at most
abbrev pub most_tiles : ℕ → ℕ → ℕ → ℕ
most_tiles width height side = (width / side + 1) * (height / side + 1)

-- The rows that all tiles under one another have room for, where each goes so many rows beyond its own: within the frame.
abbrev pub rows_with_room : ℕ → ℕ → ℕ → ℕ
rows_with_room height side beyond = min (height + (height / side + 1) * beyond) ((height / side + 1) * height)

-- the rows of a plane in tiles of this side: sets have no room beyond their own
abbrev pub tiled_rows : Kind → ℕ → ℕ → ℕ → ℕ
tiled_rows kind.Bit height side beyond = height
tiled_rows kind.Grey height side beyond = rows_with_room height side beyond

-- a plane in tiles of this side, that go so many rows beyond their own
abbrev pub tiled_bytes : Shape → ℕ → ℕ → ℕ
tiled_bytes (shape.Image k w h m) side beyond = bytes_of_plane k m w (tiled_rows k h side beyond) + most_tiles w h side * BESIDE_TILE
tiled_bytes s side beyond = 0

-- ---- elements

-- how many runs offsets are cut into: one for each that does not stand right behind the one before it
abbrev pub runs_in : List Offset → ℕ
runs_in [] = 0
runs_in (a ∷ []) = 1
runs_in (a ∷ b ∷ os) = (if follows a b then 0 else 1) + runs_in (b ∷ os)

-- the fewest, in their order or in the opposite one
abbrev pub fewest_runs : List Offset → ℕ
fewest_runs offsets = min (runs_in offsets) (runs_in (reverse offsets))

-- an element
abbrev pub figure_bytes : Figure → ℕ
figure_bytes b = length b.offsets * 4 + fewest_runs b.offsets * 8 + BESIDE_ELEMENT

-- how many places a rectangle of this reach has
abbrev pub places_of_reach : Reach → ℕ
places_of_reach r = (r.left + r.right + 1) * (r.up + r.down + 1)

-- the offsets are a full rectangle that holds its origin
abbrev pub is_full_box : List Offset → Bool
is_full_box offsets = holds_origin offsets && (length offsets == places_of_reach (reach_of offsets))

-- ---- operations

-- how many planes of each kind a plan has
abbrev pub PlaneCounts : Type 0
PlaneCounts = Planes

-- the planes that the plan of an operation has, at most; by boxes where the element is one
abbrev pub most_planes : Op → Bool → Planes
most_planes (op.Flat (flat.Threshold f k)) is_boxed = record { own = 0; sets = 1; levels = 0 }
most_planes (op.Flat (flat.Erode f b)) is_boxed = record { own = 1; sets = 0; levels = 0 }
most_planes (op.Flat (flat.Dilate f b)) is_boxed = record { own = 1; sets = 0; levels = 0 }
most_planes (op.Flat (flat.Rank f b k)) is_boxed = record { own = 1; sets = 0; levels = 0 }
most_planes (op.Flat (flat.Opening f b)) is_boxed = record { own = 2; sets = 0; levels = 0 }
most_planes (op.Flat (flat.Closing f b)) is_boxed = record { own = 2; sets = 0; levels = 0 }
most_planes (op.Flat o) is_boxed = record { own = 4; sets = 0; levels = 0 }
most_planes (op.Gran (gran.Skeleton f b n)) is_boxed = record { own = 0; sets = n * 2 + 2; levels = n + 2 }
most_planes (op.Gran (gran.Restore f b n)) is_boxed = record { own = 0; sets = n * 3 + 2; levels = 0 }
most_planes (op.Gran (gran.Spectrum f b n)) is_boxed = record { own = n * ((if is_boxed then 0 else (n + 1) / 2) + 2); sets = 0; levels = 0 }

-- the steps of a plan of so many planes, at most: a spectrum sums up once for each erosion
abbrev pub steps_of_planes : Planes → ℕ
steps_of_planes p = (p.own + p.sets + p.levels) * 2 + 2

-- the planes of a plan on an image of this shape, by elements that go so many rows beyond one, and the lists of its tasks
abbrev pub plan_bytes : Planes → Shape → ℕ → ℕ → ℕ
plan_bytes p (shape.Image k w h m) side beyond =
    tiled_bytes (shape.Image k w h m) side beyond * p.own
    + tiled_bytes (shape.Image kind.Bit w h 1) side 0 * p.sets
    + tiled_bytes (shape.Image kind.Grey w h 255) side 0 * p.levels
    + (most_tiles w h side * steps_of_planes p * TASK + steps_of_planes p * STEP)
plan_bytes p s side beyond = 0

-- the last step of the operation is an extremum
abbrev pub ends_by_extremum : Op → Bool
ends_by_extremum (op.Flat (flat.Erode f b)) = true
ends_by_extremum (op.Flat (flat.Dilate f b)) = true
ends_by_extremum (op.Flat (flat.Opening f b)) = true
ends_by_extremum (op.Flat (flat.Closing f b)) = true
ends_by_extremum o = false

-- the name of what an operation wants
abbrev pub wanted_name : Wanted → Name
wanted_name (AnImage n) = n
wanted_name (AnElement n) = n

-- the name of an input, if the operation has so many
abbrev pub input_named : Op → ℕ → Option Name
input_named o k = option_map wanted_name (slice_get (inputs_wanted o) k)

-- ---- a core

-- the least side of its tiles
abbrev pub least_side : ℕ → ℕ
least_side side = if side == 0 then LEAST_SUITED else side

-- the shape of the value of a name
abbrev pub named_shape : Table → Option Name → Option Shape
named_shape w n = option_map (shape_at w.submissions) (option_and_then (ticket_of w.names) n)

-- how many rows an element of this shape goes beyond one
abbrev pub rows_of_element : Option Shape → ℕ
rows_of_element (Some (shape.Element w h)) = h - 1
rows_of_element s = 0

-- how many rows the element of a name goes beyond one, also where it was released since
abbrev pub rows_of_named : Table → Option Name → ℕ
rows_of_named w n = rows_of_element (named_shape w n)

-- the element that is kept under a name
abbrev pub figure_named : CoreView → Option Name → Option Figure
figure_named c n = option_and_then (λ t. figure_in (value_at c.kept t)) (option_and_then (ticket_of c.table.names) n)

-- the element of a name, and the same reflected
abbrev pub turned_bytes : Option Figure → ℕ
turned_bytes b = option_map_or (λ (f : Figure). figure_bytes f * 2) b 0

-- the element is a full rectangle that holds its origin
abbrev pub is_boxed_by : Option Figure → Bool
is_boxed_by b = option_map_or (λ (f : Figure). is_full_box f.offsets) b false

-- the plan of an operation
abbrev pub planned_bytes : CoreView → Op → ℕ
planned_bytes c o =
    option_map_or (λ s. plan_bytes (most_planes o (is_boxed_by (figure_named c (input_named o 1)))) s (least_side c.side) (max (rows_of_named c.table (input_named o 1)) (rows_of_named c.table (input_named o 2)))) (named_shape c.table (input_named o 0)) 0

-- a RUN until its result is made: its plan, its elements and its item of the log
abbrev pub pending_bytes : CoreView → Op → ℕ
pending_bytes c o =
    planned_bytes c o + turned_bytes (figure_named c (input_named o 1)) + turned_bytes (figure_named c (input_named o 2)) + LONG_ITEM

-- an entry's row of the table, and an item of the log
abbrev pub entry_row : ℕ
entry_row = ENTRY

abbrev pub log_item : ℕ
log_item = ITEM

-- a RUN that is accepted, with its row of the table
abbrev pub run_bytes : CoreView → Op → ℕ
run_bytes c o = pending_bytes c o + ENTRY

-- how many rows the tiles of a result have room for beyond their own
abbrev pub result_beyond : Table → Option Op → ℕ
result_beyond w o = option_map_or (λ p. if ends_by_extremum p then rows_of_named w (input_named p 1) else 0) o 0

-- the value of an entry of this shape
abbrev pub shaped_bytes : Shape → Option Value → ℕ → ℕ → ℕ
shaped_bytes (shape.Image k w h m) v side beyond = tiled_bytes (shape.Image k w h m) side beyond
shaped_bytes (shape.Element w h) v side beyond = option_map_or figure_bytes (figure_in v) 0
shaped_bytes (shape.Curve n) v side beyond = n * 8

-- what is kept of an entry
abbrev pub value_bytes : CoreView → ℕ → ℕ
value_bytes c t =
    if is_some (value_at c.kept t)
    then shaped_bytes (shape_at c.table.submissions t) (value_at c.kept t) (least_side c.side) (result_beyond c.table (op_of (submission_at c.table.submissions t).command))
    else 0

-- what an entry is counted as beside its row: a pending one by its command, and any other by what is kept
abbrev pub entry_bytes : CoreView → ℕ → ℕ
entry_bytes c t =
    if is_pending (outcome_at c.table.outcomes t)
    then option_map_or (pending_bytes c) (op_of (submission_at c.table.submissions t).command) 0
    else value_bytes c t

-- what a core is counted as: the rows of its log and one more, and its entries, each with its row of the table
abbrev pub core_bytes : CoreView → ℕ
core_bytes c = (length c.log + 16) * ITEM + sum (map (λ t. entry_bytes c t + ENTRY) (range_with_len 0 (length c.table.names)))
