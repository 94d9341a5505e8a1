-- What two extrema under elements of any shape make of an image, in strips.
use Rattle.std.proofs.Common.{◌≡◌, ℕ, zero, suc, ℤ, pos, negsuc, neg_ℤ, ◌+ℤ◌, ◌≤ℤ◌, ◌+◌, ◌-◌, ◌*◌, ◌/◌, ◌%◌, ◌<◌, ◌≤◌, List, [], ◌∷◌, length, Option, None, Some, inl, inr, ap, sym, arith, ◌∙◌}
use Rattle.std.proofs.lemmas.Bool.{cases_lt}
use Rattle.std.proofs.lemmas.Int.{ints}
use Rattle.std.specs.List.{AllByRecursion}
use Rattle.std.proofs.lemmas.Nat.{mul-le}
use Rattle.std.proofs.Math.Nat.{div-add-mod, mod-lt}
use Rattle.std.specs.Prelude.{IfNone}
use Rattle.std.specs.Arc.{arc_value}
use Rattle.mw_model.specs.declared.offsets.Offset.{Offset}
use Rattle.mw_model.specs.declared.offsets.Rect.{Rect}
use Rattle.mw_model.specs.Pictures.{IsPicture, Picture}
use Rattle.mw_model.specs.Windows.{View}
use Rattle.mw_grid.specs.Rectangles.{whole_frame}
use Rattle.mw_model.specs.Elements.{reach_of}
use Rattle.mw_model.specs.Rectangles.{nonnegative}
use Rattle.mw_offset_lent.specs.Offsets.{LeadsWithin}
use Rattle.mw_c_lent.specs.declared.composites.Composite.{Composite}
use Rattle.mw_c_lent.specs.declared.composites.Composite.TheVariants as composite
use Rattle.mw_c_lent.specs.declared.rules.Rule.{Rule}
use Rattle.mw_c_lent.specs.declared.rules.Rule.TheVariants as rules
use Rattle.mw_c_lent.specs.Composites.{composite_picture, first_made}
use Rattle.mw_c_lent.specs.InPlace.{IsWholeView}
use Rattle.mw_c_lent.specs.InTurn.{IsElementRule}
use Rattle.mw_c_lent.specs.Rows.{IsStrip}
use Rattle.mw_c_lent.specs.Rules.{rule_picture}
use Rattle.mw_c_lent.specs.Slides.{AreFrameRows}
use Rattle.mw_c_lent.specs.Suited.{IsFirstHeight, IsNearRule, SuitComposite, SuitRule, SuitTile, rows_beside}
use Rattle.mw_c_lent.proofs.Lessened.{less_size}
use Rattle.mw_c_lent.proofs.Rows.{between_count}
use Rattle.mw_c_lent.proofs.Slid.{whole_sides}
use Rattle.mw_c_lent.proofs.Steps.{rule_is_picture, strip_above}

-- a strip of an image is one of what is made of it
pub composite_strip : (c : Composite) (f : Picture) (r : Rect) → IsStrip r f → IsStrip r (composite_picture c f)
composite_strip (composite.InTurn a b) f r is = strip_above b (rule_picture a f) r (strip_above a f r is)
composite_strip (composite.Taken a b) f r is = record { left = is.left; wide = is.wide; some = is.some; low = is.low }
composite_strip (composite.Added a b) f r is = record { left = is.left; wide = is.wide; some = is.some; low = is.low }
composite_strip (composite.Less a b) f r is = record { left = is.left; wide = is.wide; some = is.some; low = is.low }

pub composite_size : (c : Composite) (f : Picture) → IsPicture f → length (composite_picture c f).samples ≡ (composite_picture c f).height * (composite_picture c f).width
composite_size (composite.InTurn a b) f is = (rule_is_picture b (rule_picture a f) (rule_is_picture a f is)).size
composite_size (composite.Taken a b) f is = less_size f (rule_picture b (rule_picture a f))
composite_size (composite.Added a b) f is = less_size (rule_picture b (rule_picture a f)) f
composite_size (composite.Less a b) f is = less_size (rule_picture a f) (rule_picture b f)

-- ---- views of whole images

-- such a view stands in the whole frame
pub view_place : {A : Type 0} (level : A → ℕ) (w : View A) (f : Picture) → IsWholeView level w f → w.place ≡ whole_frame w.frame_width w.frame_height
view_place {A} level w f whole =
    let sides = whole_sides level w f whole in
    ap (λ (v : View A). v.place) whole.view ∙ ap (λ (t : ℕ). whole_frame t f.height) (sym sides.0) ∙ ap (λ (t : ℕ). whole_frame w.frame_width t) (sym sides.1)

-- rows of an image are rows of its view
pub view_rows : {A : Type 0} (level : A → ℕ) (w : View A) (f : Picture) (r : Rect) → IsWholeView level w f → AreFrameRows r f.width f.height → AreFrameRows r w.frame_width w.frame_height
view_rows level w f r whole rows =
    let sides = whole_sides level w f whole in
    record { left = rows.left; across = rows.across ∙ sym sides.0; some = rows.some; low = omega (arith, rows.low, sides.1); wide = omega (arith, rows.wide, sides.0) }

-- ---- room

-- there is room for the rows of a strip behind those above it
pub room_behind : (first y high end w m n : ℕ) → first ≤ y → y + high ≤ end → first < end → w ≡ m → end * m ≡ first * m + n → (y - first) * w + high * w ≤ n
room_behind first y high end w m n behind within some wide is =
    omega (arith, between_count first end w m n some wide is, mul-le (y - first + high) w (end - first) w (omega (arith, behind, within)) (omega arith), split (y - first) high w)
  where
    split : (a b k : ℕ) → (a + b) * k ≡ a * k + b * k
    split a b k = omega arith

-- no rows have room
pub none_held : (a b w n : ℕ) → a ≡ b → (a - b) * w ≤ n
none_held a b w n is =
    let none : a - b ≡ 0 = omega (arith, is) in
    let zero : (a - b) * w ≡ 0 * w = ap (λ (t : ℕ). t * w) none in
    omega (arith, zero)

-- a buffer of so many rows has room for them
pub held_room : (held most w m n : ℕ) → held ≡ most → w ≡ m → n ≡ held * w → most * m ≤ n
held_room held most w m n rows wide is =
    let all : n ≡ most * m = is ∙ ap (λ (t : ℕ). t * w) rows ∙ ap (λ (t : ℕ). most * t) wide in
    omega (arith, all)

-- ---- what there are kernels for

-- a tile of more rows suits too
tile_more : (b : List Offset) (r s : Rect) → SuitTile b r → r.width ≡ s.width → r.height ≤ s.height → SuitTile b s
tile_more b r s is across low = record {
  few = is.few;
  near = is.near;
  wide = omega (arith, is.wide, across);
  high = omega (arith, is.high, low);
  many = omega (arith, is.many, mul-le r.width r.height s.width s.height (omega (arith, across)) low);
}

pub rule_more_rows : (x : Rule) (r s : Rect) → SuitRule x r → r.width ≡ s.width → r.height ≤ s.height → SuitRule x s
rule_more_rows (rules.Least e) r s is across low = tile_more (arc_value e.now).offsets r s is across low
rule_more_rows (rules.Greatest e) r s is across low = tile_more (arc_value e.now).offsets r s is across low
rule_more_rows (rules.LeastBox b) r s is across low = absurd is
rule_more_rows (rules.GreatestBox b) r s is across low = absurd is
rule_more_rows (rules.Nth e k) r s is across low = absurd is
rule_more_rows (rules.AtLeast k) r s is across low = absurd is

-- the rule that is made first suits
pub first_suits : (c : Composite) (r : Rect) → SuitComposite c r → SuitRule (first_made c) r
first_suits (composite.InTurn a b) r is = is.0
first_suits (composite.Taken a b) r is = is.0
first_suits (composite.Added a b) r is = is.0
first_suits (composite.Less a b) r is = is.1

-- a first strip is no small tile
pub first_size : (w rows count high : ℕ) → 128 ≤ w → w ≤ 8192 → 64 ≤ count → (rows < count → (16 ≤ rows) × (131072 < (rows + 1) * (2 * w))) → IsFirstHeight rows count high → (8 ≤ high) × (8192 ≤ w * high)
first_size w rows count high wide near some many is =
    elim (cases_lt rows count) [
      | inl less ↦
          let half = is.half less in
          let both = many less in
          let high-is : 8 ≤ high = omega (arith, half, both.0) in
          let all : (rows + 1) * (2 * w) ≤ (2 * high + 1) * (2 * w) = mul-le (rows + 1) (2 * w) (2 * high + 1) (2 * w) (omega (arith, half)) (omega arith) in
          (high-is, omega (arith, all, both.1, near))
      | inr all ↦
          let same = is.whole all in
          (omega (arith, same, some), omega (arith, mul-le 128 64 w high wide (omega (arith, same, some))))
    ]

-- a rule suits tiles that are not small
pub near_suits : (x : Rule) (r : Rect) → IsNearRule x → 128 ≤ r.width → 8 ≤ r.height → 8192 ≤ r.width * r.height → SuitRule x r
near_suits (rules.Least e) r is wide high many = record { few = is.0; near = is.1; wide = omega (arith, wide); high = high; many = many }
near_suits (rules.Greatest e) r is wide high many = record { few = is.0; near = is.1; wide = omega (arith, wide); high = high; many = many }
near_suits (rules.LeastBox b) r is wide high many = absurd is
near_suits (rules.GreatestBox b) r is wide high many = absurd is
near_suits (rules.Nth e k) r is wide high many = absurd is
near_suits (rules.AtLeast k) r is wide high many = absurd is

pub near_element : (x : Rule) → IsNearRule x → IsElementRule x
near_element (rules.Least e) is = tt
near_element (rules.Greatest e) is = tt
near_element (rules.LeastBox b) is = absurd is
near_element (rules.GreatestBox b) is = absurd is
near_element (rules.Nth e k) is = absurd is
near_element (rules.AtLeast k) is = absurd is

-- so many bytes are less than those of as many rows as fit, and one
pub bytes_within : (bytes row rows w : ℕ) → 131072 ≤ bytes → 1 ≤ row → row ≤ 2 * w → bytes / row ≤ rows → 131072 < (rows + 1) * (2 * w)
bytes_within bytes row rows w least some narrow few =
    let rest : bytes % row < row = mod-lt bytes {m = row} (omega (arith, some)) in
    let parts : row * (bytes / row) + bytes % row ≡ bytes = div-add-mod bytes row in
    let all : (bytes / row + 1) * row ≤ (rows + 1) * (2 * w) = mul-le (bytes / row + 1) row (rows + 1) (2 * w) (omega (arith, few)) narrow in
    omega (arith, least, rest, parts, all)

pub none_then : {X : Type 0} (r : Option X) {P Q : Type 0} → IfNone r P → (P → Q) → IfNone r Q
none_then None h f = f h
none_then (Some x) h f = tt

-- ---- how far near offsets lead

up_near : (z : ℤ) (m : ℕ) → pos 0 ≤ℤ (z +ℤ pos m) → nonnegative (neg_ℤ z) ≤ m
up_near (pos zero) m is = omega arith
up_near (pos (suc n)) m is = omega arith
up_near (negsuc n) m is = omega (arith, ints, is)

down_near : (z : ℤ) (m : ℕ) → z ≤ℤ pos m → nonnegative z ≤ m
down_near (pos n) m is = omega (arith, ints, is)
down_near (negsuc n) m is = omega arith

rows_near : (bs : List Offset) → AllByRecursion (LeadsWithin 64 64) bs → ((reach_of bs).up ≤ 64) × ((reach_of bs).down ≤ 64)
rows_near [] is = (omega arith, omega arith)
rows_near (b ∷ bs) is =
    let rest = rows_near bs is.1 in
    let above = up_near b.dy 64 is.0.up in
    let below = down_near b.dy 64 is.0.down in
    (omega (arith, above, rest.0), omega (arith, below, rest.1))

-- a rule looks at few rows beside one
pub near_low : (x : Rule) → IsNearRule x → rows_beside x ≤ 128
near_low (rules.Least e) is = let both = rows_near (arc_value e.now).offsets is.1 in omega (arith, both.0, both.1)
near_low (rules.Greatest e) is = let both = rows_near (arc_value e.now).offsets is.1 in omega (arith, both.0, both.1)
near_low (rules.LeastBox b) is = absurd is
near_low (rules.GreatestBox b) is = absurd is
near_low (rules.Nth e k) is = absurd is
near_low (rules.AtLeast k) is = absurd is
