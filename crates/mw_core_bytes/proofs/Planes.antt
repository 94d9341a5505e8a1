-- A plan has at least the planes of its result.
use Rattle.std.proofs.Common.{◌≡◌, ℕ, ◌+◌, ◌*◌, ◌/◌, ◌≤◌, min, max, Bool, true, false, Option, if◌then◌else◌, nat_le, arith}
use Rattle.std.proofs.lemmas.Nat.{mul-le}
use Rattle.mw_model.specs.declared.shapes.Kind.{Kind}
use Rattle.mw_model.specs.declared.shapes.Kind.TheVariants as kind
use Rattle.mw_model.specs.declared.shapes.Shape.{Shape}
use Rattle.mw_model.specs.declared.shapes.Shape.TheVariants as shape
use Rattle.mw_model.specs.declared.operations.Op.{Op}
use Rattle.mw_model.specs.declared.operations.Op.TheVariants as op
use Rattle.mw_model.specs.declared.operations.FlatOp.TheVariants as flat
use Rattle.mw_model.specs.declared.operations.GranOp.TheVariants as gran
use Rattle.mw_model.specs.Values.{Value}
use Rattle.mw_model.specs.Refusals.{is_image}
use Rattle.mw_model.specs.Machine.{as_bits, as_grey}
use Rattle.mw_core.specs.Costs.{PlaneCounts, bytes_of_row, most_tiles, rows_with_room, tiled_bytes, most_planes, steps_of_planes, plan_bytes, ends_by_extremum, shaped_bytes}

-- ---- numbers

trans : (a b c : ℕ) → a ≤ b → b ≤ c → a ≤ c
trans a b c first second = omega (arith, first, second)

times : (x n : ℕ) → 1 ≤ n → x ≤ x * n
times x n some = omega (arith, mul-le x 1 x n (omega arith) some)

le-max : (a b : ℕ) → a ≤ max a b
le-max a b = omega arith

zero-le : (a : ℕ) → 0 ≤ a
zero-le a = omega arith

first-of : (a b c d : ℕ) → a ≤ a + b + c + d
first-of a b c d = omega arith

second-of : (a b c d : ℕ) → b ≤ a + b + c + d
second-of a b c d = omega arith

third-of : (a b c d : ℕ) → c ≤ a + b + c + d
third-of a b c d = omega arith

fourth-of : (a b c d : ℕ) → d ≤ a + b + c + d
fourth-of a b c d = omega arith

-- ---- planes in tiles

rows-beyond : (h q a b : ℕ) → a ≤ b → min (h + q * a) (q * h) ≤ min (h + q * b) (q * h)
rows-beyond h q a b le = omega (arith, mul-le q a q b (omega arith) le)

more-rows : (row a b tiles : ℕ) → a ≤ b → row * a + tiles ≤ row * b + tiles
more-rows row a b tiles le = omega (arith, mul-le row a row b (omega arith) le)

same-le : (a : ℕ) → a ≤ a
same-le a = omega arith

tiled-beyond : (k : Kind) (w h m side a b : ℕ) → a ≤ b → tiled_bytes (shape.Image k w h m) side a ≤ tiled_bytes (shape.Image k w h m) side b
tiled-beyond kind.Bit w h m side a b le = same-le (tiled_bytes (shape.Image kind.Bit w h m) side a)
tiled-beyond kind.Grey w h m side a b le =
    more-rows (bytes_of_row kind.Grey m w) (rows_with_room h side a) (rows_with_room h side b) (most_tiles w h side * 160) (rows-beyond h (h / side + 1) a b le)

-- levels of grey take at most two bytes each
grey-row : (b : Bool) (w : ℕ) → (if b then w else w * 2) ≤ w * 2
grey-row true w = omega arith
grey-row false w = omega arith

more-levels : (r w rows tiles n : ℕ) → r ≤ w * 2 → r * rows + tiles ≤ (w * rows + tiles) * (n + 2)
more-levels r w rows tiles n le =
    let one : r * rows ≤ (w * 2) * rows = mul-le r rows (w * 2) rows le (same-le rows) in
    let two : (w * rows + tiles) * 2 ≤ (w * rows + tiles) * (n + 2) = mul-le (w * rows + tiles) 2 (w * rows + tiles) (n + 2) (same-le (w * rows + tiles)) (omega arith) in
    omega (arith, one, two)

-- ---- plans

own-planes : (p : PlaneCounts) (k : Kind) (w h m side a beyond : ℕ) → a ≤ beyond → 1 ≤ p.own → tiled_bytes (shape.Image k w h m) side a ≤ plan_bytes p (shape.Image k w h m) side beyond
own-planes p k w h m side a beyond le some =
    let s = shape.Image k w h m in
    let one = tiled_bytes s side beyond in
    trans (tiled_bytes s side a) one (plan_bytes p s side beyond) (tiled-beyond k w h m side a beyond le)
    (trans one (one * p.own) (plan_bytes p s side beyond) (times one p.own some)
    (first-of (one * p.own) (tiled_bytes (shape.Image kind.Bit w h 1) side 0 * p.sets) (tiled_bytes (shape.Image kind.Grey w h 255) side 0 * p.levels)
    (most_tiles w h side * steps_of_planes p * 40 + steps_of_planes p * 384)))

set-planes : (p : PlaneCounts) (k : Kind) (w h m side beyond : ℕ) → 1 ≤ p.sets → tiled_bytes (shape.Image kind.Bit w h 1) side 0 ≤ plan_bytes p (shape.Image k w h m) side beyond
set-planes p k w h m side beyond some =
    let s = shape.Image k w h m in
    let one = tiled_bytes (shape.Image kind.Bit w h 1) side 0 in
    trans one (one * p.sets) (plan_bytes p s side beyond) (times one p.sets some)
    (second-of (tiled_bytes s side beyond * p.own) (one * p.sets) (tiled_bytes (shape.Image kind.Grey w h 255) side 0 * p.levels)
    (most_tiles w h side * steps_of_planes p * 40 + steps_of_planes p * 384))

level-planes : (p : PlaneCounts) (k : Kind) (w h m side beyond n x : ℕ) → p.levels ≡ n + 2 → tiled_bytes (shape.Image kind.Grey w h x) side 0 ≤ plan_bytes p (shape.Image k w h m) side beyond
level-planes p k w h m side beyond n x is =
    let s = shape.Image k w h m in
    let one = tiled_bytes (shape.Image kind.Grey w h 255) side 0 in
    let more : tiled_bytes (shape.Image kind.Grey w h x) side 0 ≤ one * (n + 2) =
    more-levels (bytes_of_row kind.Grey x w) w (rows_with_room h side 0) (most_tiles w h side * 160) n (grey-row (nat_le x 255) w) in
    let all : one * (n + 2) ≤ one * p.levels = rw is (same-le (one * (n + 2))) in
    trans (tiled_bytes (shape.Image kind.Grey w h x) side 0) (one * (n + 2)) (plan_bytes p s side beyond) more
    (trans (one * (n + 2)) (one * p.levels) (plan_bytes p s side beyond) all
    (third-of (tiled_bytes s side beyond * p.own) (tiled_bytes (shape.Image kind.Bit w h 1) side 0 * p.sets) (one * p.levels)
    (most_tiles w h side * steps_of_planes p * 40 + steps_of_planes p * 384)))

few-volumes : (n y d : ℕ) → (n + 1) * 8 ≤ d + ((n * (y + 2) + 0 + 0) * 2 + 2) * 384
few-volumes n y d = omega arith

-- the lists of the plan of a spectrum take more than its volumes
spectrum-lists : (k : Kind) (w h m side beyond n y : ℕ) → (n + 1) * 8 ≤ plan_bytes (record { own = n * (y + 2); sets = 0; levels = 0 }) (shape.Image k w h m) side beyond
spectrum-lists k w h m side beyond n y =
    let p : PlaneCounts = record { own = n * (y + 2); sets = 0; levels = 0 } in
    let s = shape.Image k w h m in
    let tasks = most_tiles w h side * steps_of_planes p * 40 in
    trans ((n + 1) * 8) (tasks + steps_of_planes p * 384) (plan_bytes p s side beyond) (few-volumes n y tasks)
    (fourth-of (tiled_bytes s side beyond * p.own) (tiled_bytes (shape.Image kind.Bit w h 1) side 0 * p.sets) (tiled_bytes (shape.Image kind.Grey w h 255) side 0 * p.levels) (tasks + steps_of_planes p * 384))

-- ---- results

-- the shape of a result, of that of the image
abbrev pub result_shape : Op → Shape → Shape
result_shape (op.Flat (flat.Threshold f k)) s = as_bits s
result_shape (op.Flat o) s = s
result_shape (op.Gran (gran.Skeleton f b n)) s = as_grey (n + 1) s
result_shape (op.Gran (gran.Restore f b n)) s = as_bits s
result_shape (op.Gran (gran.Spectrum f b n)) s = shape.Curve (n + 1)

within-plan : (o : Op) (k : Kind) (w h m side rows more : ℕ) (boxed : Bool) (v : Option Value)
    → shaped_bytes (result_shape o (shape.Image k w h m)) v side (if ends_by_extremum o then rows else 0) ≤ plan_bytes (most_planes o boxed) (shape.Image k w h m) side (max rows more)
within-plan (op.Flat (flat.Erode f b)) k w h m side rows more boxed v = own-planes (most_planes (op.Flat (flat.Erode f b)) boxed) k w h m side rows (max rows more) (le-max rows more) (omega arith)
within-plan (op.Flat (flat.Dilate f b)) k w h m side rows more boxed v = own-planes (most_planes (op.Flat (flat.Dilate f b)) boxed) k w h m side rows (max rows more) (le-max rows more) (omega arith)
within-plan (op.Flat (flat.Opening f b)) k w h m side rows more boxed v = own-planes (most_planes (op.Flat (flat.Opening f b)) boxed) k w h m side rows (max rows more) (le-max rows more) (omega arith)
within-plan (op.Flat (flat.Closing f b)) k w h m side rows more boxed v = own-planes (most_planes (op.Flat (flat.Closing f b)) boxed) k w h m side rows (max rows more) (le-max rows more) (omega arith)
within-plan (op.Flat (flat.Gradient f b)) k w h m side rows more boxed v = own-planes (most_planes (op.Flat (flat.Gradient f b)) boxed) k w h m side 0 (max rows more) (zero-le (max rows more)) (omega arith)
within-plan (op.Flat (flat.WhiteTopHat f b)) k w h m side rows more boxed v = own-planes (most_planes (op.Flat (flat.WhiteTopHat f b)) boxed) k w h m side 0 (max rows more) (zero-le (max rows more)) (omega arith)
within-plan (op.Flat (flat.BlackTopHat f b)) k w h m side rows more boxed v = own-planes (most_planes (op.Flat (flat.BlackTopHat f b)) boxed) k w h m side 0 (max rows more) (zero-le (max rows more)) (omega arith)
within-plan (op.Flat (flat.Rank f b n)) k w h m side rows more boxed v = own-planes (most_planes (op.Flat (flat.Rank f b n)) boxed) k w h m side 0 (max rows more) (zero-le (max rows more)) (omega arith)
within-plan (op.Flat (flat.Threshold f n)) k w h m side rows more boxed v = set-planes (most_planes (op.Flat (flat.Threshold f n)) boxed) k w h m side (max rows more) (omega arith)
within-plan (op.Flat (flat.HitMiss f a b)) k w h m side rows more boxed v = own-planes (most_planes (op.Flat (flat.HitMiss f a b)) boxed) k w h m side 0 (max rows more) (zero-le (max rows more)) (omega arith)
within-plan (op.Gran (gran.Skeleton f b n)) k w h m side rows more boxed v = level-planes (most_planes (op.Gran (gran.Skeleton f b n)) boxed) k w h m side (max rows more) n (n + 1) refl-levels
  where
    refl-levels : n + 2 ≡ n + 2
    refl-levels = omega arith
within-plan (op.Gran (gran.Restore f b n)) k w h m side rows more boxed v = set-planes (most_planes (op.Gran (gran.Restore f b n)) boxed) k w h m side (max rows more) (omega arith)
within-plan (op.Gran (gran.Spectrum f b n)) k w h m side rows more boxed v = spectrum-lists k w h m side (max rows more) n (if boxed then 0 else (n + 1) / 2)

pub result-within : (o : Op) (s : Shape) (side rows more : ℕ) (boxed : Bool) (v : Option Value) → is_image s ≡ true
    → shaped_bytes (result_shape o s) v side (if ends_by_extremum o then rows else 0) ≤ plan_bytes (most_planes o boxed) s side (max rows more)
result-within o (shape.Image k w h m) side rows more boxed v is = within-plan o k w h m side rows more boxed v
result-within o (shape.Element w h) side rows more boxed v is = absurd cc
result-within o (shape.Curve n) side rows more boxed v is = absurd cc
