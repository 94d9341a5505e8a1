-- Windows in pieces: what they show, and how they are put together and compared.
use Rattle.std.proofs.Common.{◌≡◌, ℕ, ◌+◌, ◌-◌, ◌*◌, ◌<◌, ◌≤◌, Bool, true, false, ◌||◌, cond, List, [], ◌∷◌, ◌++◌, length, get_or, slice_get, slice_range, take, Option, Some, refl, sym, ap, subst, arith, rules, ◌∙◌, inl, inr}
use Rattle.std.specs.List.{AllByRecursion}
use Rattle.std.proofs.lemmas.Bool.{cases_lt}
use Rattle.std.proofs.lemmas.Nat.{mul-add-lt}
use Rattle.std.proofs.lemmas.Option.{slice_get-get_or}
use Rattle.std.proofs.lemmas.List.{get_or_default, take_more}
use Rattle.std.proofs.Math.Nat.{sub-zero}
use Rattle.mw_model.proofs.mw_facts.Alls.{all-get_or, all-push, all-weaker}
use Rattle.mw_model.proofs.mw_facts.Elements.{same_elements}
use Rattle.mw_model.specs.declared.offsets.Rect.{Rect}
use Rattle.mw_model.specs.Rectangles.{Holds, IsWithin}
use Rattle.mw_model.specs.Rasters.{Raster, raster}
use Rattle.mw_grid.specs.Rectangles.{whole_frame}
use Rattle.mw_tile.proofs.Rows.{get_from_column, length-run, run_fits}
use Rattle.mw_tile_pieces.specs.Patches.{Patch, patch_at, no_patch, cell_of, has_place, held_in, value_in, overlap_of, patch, IsFull, IsInside, IsPatchOf, ShowsIn, PiecesCover, Joint, IsJoint, ShowsFrame, frame_value}

-- ---- places of a rectangle

pub has_yes : (r : Rect) (x y : ℕ) → Holds r x y → has_place r x y ≡ true
has_yes r x y holds =
    let a = holds.left in
    let b = holds.right in
    let c = holds.top in
    let d = holds.bottom in
    search rules

pub has_holds : (r : Rect) (x y : ℕ) → has_place r x y ≡ true → Holds r x y
has_holds r x y is = search rules

-- ---- what the pieces show

pub value_is : {A : Type 0} (value : ℕ → ℕ → Option A) (r : Rect) (ps : List (Patch A)) (x y : ℕ) → AllByRecursion (ShowsIn r value) ps → Holds r x y → held_in ps x y ≡ true → value_in ps x y ≡ value x y
value_is value r [] x y all holds held = absurd (never held)
  where
    never : false ≡ true → ⊥
    never e = cc
value_is value r (p ∷ ps) x y all holds held = go (has_place p.place x y) refl held (value_is value r ps x y all.1 holds)
  where
    go : (b : Bool) → has_place p.place x y ≡ b → (b || held_in ps x y) ≡ true → (held_in ps x y ≡ true → value_in ps x y ≡ value x y) → cond b (cell_of p x y) (value_in ps x y) ≡ value x y
    go true is held rest = all.0 x y holds (has_holds p.place x y is)
    go false is held rest = rest held

-- pieces that have these values in a rectangle, each place of which is one of theirs, agree there
pub agree : {A : Type 0} (value : ℕ → ℕ → Option A) (r : Rect) (ps : List (Patch A)) → PiecesCover r ps → AllByRecursion (ShowsIn r value) ps → AllByRecursion (ShowsIn r (value_in ps)) ps
agree {A} value r ps covers all = all-weaker (ShowsIn r value) (ShowsIn r (value_in ps)) ps (λ p shows x y holds here. shows x y holds here ∙ sym (value_is value r ps x y all holds (covers x y holds))) all

pub shows_of_values : {A : Type 0} (value : ℕ → ℕ → Option A) (r : Rect) (ps : List (Patch A)) → AllByRecursion (ShowsIn r (value_in ps)) ps → ((x y : ℕ) → Holds r x y → value_in ps x y ≡ value x y) → AllByRecursion (ShowsIn r value) ps
shows_of_values {A} value r ps all same = all-weaker (ShowsIn r (value_in ps)) (ShowsIn r value) ps (λ p shows x y holds here. shows x y holds here ∙ same x y holds) all

pub values_of_shows : {A : Type 0} (value : ℕ → ℕ → Option A) (r : Rect) (ps : List (Patch A)) → PiecesCover r ps → AllByRecursion (ShowsIn r value) ps → (x y : ℕ) → Holds r x y → value_in ps x y ≡ value x y
values_of_shows value r ps covers all x y holds = value_is value r ps x y all holds (covers x y holds)

-- a piece has a cell at each of its places
pub cell_some : {A : Type 0} (p : Patch A) (x y : ℕ) → IsFull p → Holds p.place x y → (v : A) × (cell_of p x y ≡ Some v)
cell_some p x y full holds =
    let a = holds.left in
    let b = holds.right in
    let c = holds.top in
    let d = holds.bottom in
    found p.cells ((y - p.place.y) * p.place.width + (x - p.place.x)) (omega (arith, full, mul-add-lt (y - p.place.y) p.place.width (x - p.place.x) p.place.height (omega arith) (omega arith)))
  where
    found : {A : Type 0} (xs : List A) (i : ℕ) → i < length xs → (v : A) × (slice_get xs i ≡ Some v)
    found [] i lt = absurd (omega arith)
    found (x ∷ xs) i lt = (get_or (x ∷ xs) i x, slice_get-get_or (x ∷ xs) i x lt)

pub value_some : {A : Type 0} (m n : ℕ) (ps : List (Patch A)) (x y : ℕ) → AllByRecursion (IsPatchOf m n) ps → held_in ps x y ≡ true → (v : A) × (value_in ps x y ≡ Some v)
value_some m n [] x y all held = absurd (never held)
  where
    never : false ≡ true → ⊥
    never e = cc
value_some {A} m n (p ∷ ps) x y all held = go (has_place p.place x y) refl held (value_some m n ps x y all.1)
  where
    go : (b : Bool) → has_place p.place x y ≡ b → (b || held_in ps x y) ≡ true → (held_in ps x y ≡ true → (v : A) × (value_in ps x y ≡ Some v)) → (v : A) × (cond b (cell_of p x y) (value_in ps x y) ≡ Some v)
    go true is held rest = cell_some p x y all.0.full (has_holds p.place x y is)
    go false is held rest = rest held

-- ---- compared row by row

-- the first rows of the rectangle, up to row y of the frame, are these values
abbrev pub ShowsAbove : {A : Type 0} → Rect → (ℕ → ℕ → Option A) → Patch A → ℕ → Type 0
ShowsAbove r value p y = (x q : ℕ) → Holds r x q → q < y → cell_of p x q ≡ value x q

-- a row has these values from column x of row y on
abbrev pub RowIs : {A : Type 0} → (ℕ → ℕ → Option A) → ℕ → ℕ → ℕ → List A → Type 0
RowIs value x y n row = (k : ℕ) → k < n → slice_get row k ≡ value (x + k) y

pub above_run : {A : Type 0} (r : Rect) (value : ℕ → ℕ → Option A) (p : Patch A) (y : ℕ) → ((k : ℕ) → k < r.width → cell_of p (r.x + k) y ≡ value (r.x + k) y) → ShowsAbove r value p y → ShowsAbove r value p (y + 1)
above_run r value p y run before x q holds lt =
    elim (cases_lt q y) [
      | inl above ↦ before x q holds above
      | inr from ↦
          let q-is : q ≡ y = omega arith in
          let left = holds.left in
          let right = holds.right in
          let k = x - r.x in
          let k-lt : k < r.width = omega arith in
          let back : r.x + k ≡ x = omega arith in
          rw q-is (ap (λ (t : ℕ). cell_of p t y) (sym back) ∙ run k k-lt ∙ ap (λ (t : ℕ). value t y) back)
    ]

pub above_more : {A : Type 0} (r : Rect) (value : ℕ → ℕ → Option A) (p : Patch A) (y : ℕ) (row held : List A) → RowIs (cell_of p) r.x y r.width row → RowIs value r.x y r.width held → row ≡ held → ShowsAbove r value p y → ShowsAbove r value p (y + 1)
above_more r value p y row held row-is held-is same before = above_run r value p y (λ k lt. sym (row-is k lt) ∙ ap (λ (t : List _). slice_get t k) same ∙ held-is k lt) before

-- where the piece has these values, so has each of its rows
pub run_shows : {A : Type 0} (r place : Rect) (value : ℕ → ℕ → Option A) (p : Patch A) (y : ℕ) → r ≡ overlap_of place p.place → r.y ≤ y → y < r.y + r.height → ShowsIn place value p → (k : ℕ) → k < r.width → cell_of p (r.x + k) y ≡ value (r.x + k) y
run_shows r place value p y r-is top bottom shows k lt =
    let a = ap (λ (q : Rect). q.x) r-is in
    let b = ap (λ (q : Rect). q.y) r-is in
    let c = ap (λ (q : Rect). q.width) r-is in
    let d = ap (λ (q : Rect). q.height) r-is in
    let first : Holds place (r.x + k) y = record { left = omega arith; right = omega arith; top = omega arith; bottom = omega arith } in
    let second : Holds p.place (r.x + k) y = record { left = omega arith; right = omega arith; top = omega arith; bottom = omega arith } in
    shows (r.x + k) y first second

pub row_same : {A : Type 0} (r place : Rect) (value : ℕ → ℕ → Option A) (p : Patch A) (y : ℕ) (row held : List A) → r ≡ overlap_of place p.place → r.y ≤ y → y < r.y + r.height → length row ≡ r.width → length held ≡ r.width
    → RowIs (cell_of p) r.x y r.width row → RowIs value r.x y r.width held → ShowsIn place value p → row ≡ held
row_same r place value p y row held r-is top bottom row-size held-size row-is held-is shows =
    same_elements row held (row-size ∙ sym held-size) (λ k lt. row-is k (omega arith) ∙ run_shows r place value p y r-is top bottom shows k (omega arith) ∙ sym (held-is k (omega arith)))

both_hold : (r a b : Rect) (x y : ℕ) → r ≡ overlap_of a b → Holds a x y → Holds b x y → Holds r x y
both_hold r a b x y r-is first second =
    let xs = ap (λ (q : Rect). q.x) r-is in
    let ys = ap (λ (q : Rect). q.y) r-is in
    let ws = ap (λ (q : Rect). q.width) r-is in
    let hs = ap (λ (q : Rect). q.height) r-is in
    let a1 = first.left in
    let a2 = first.right in
    let a3 = first.top in
    let a4 = first.bottom in
    let b1 = second.left in
    let b2 = second.right in
    let b3 = second.top in
    let b4 = second.bottom in
    record { left = omega arith; right = omega arith; top = omega arith; bottom = omega arith }

pub above_end : {A : Type 0} (r place : Rect) (value : ℕ → ℕ → Option A) (p : Patch A) (y : ℕ) → r ≡ overlap_of place p.place → r.y + r.height ≤ y → ShowsAbove r value p y → ShowsIn place value p
above_end r place value p y r-is past shows x q first second =
    let holds = both_hold r place p.place x q r-is first second in
    let under = holds.bottom in
    shows x q holds (omega arith)

pub above_none : {A : Type 0} (r place : Rect) (value : ℕ → ℕ → Option A) (p : Patch A) → r ≡ overlap_of place p.place → r.width ≡ 0 → ShowsIn place value p
above_none r place value p r-is none x q first second =
    let holds = both_hold r place p.place x q r-is first second in
    let a = holds.left in
    let b = holds.right in
    absurd (omega arith)

-- ---- one piece after another

pub all_next : {A : Type 0} (P : A → Type 0) (xs : List A) (i : ℕ) (x : A) → i < length xs → x ≡ get_or xs i x → P x → AllByRecursion P (take i xs) → AllByRecursion P (take (i + 1) xs)
all_next P xs i x lt is here before = subst (AllByRecursion P) (sym (take_more xs i x lt ∙ ap (λ (t : _). take i xs ++ t ∷ []) (sym is))) (all-push P (take i xs) x before here)

-- ---- put together

-- the piece that was read at a number
pub read_at : {A : Type 0} (ps qs : List (Patch A)) (k : ℕ) (p : Patch A) → qs ≡ ps → k < length ps → p ≡ get_or qs k p → p ≡ patch_at ps k
read_at ps qs k p same lt is = is ∙ ap (λ (t : List (Patch _)). get_or t k p) same ∙ sym (get_or_default ps k no_patch p lt)

pub patch_of : {A : Type 0} (j : Joint A) (k : ℕ) (p : Patch A) → IsJoint j → k < length j.pieces → p ≡ patch_at j.pieces k → IsPatchOf j.frame_width j.frame_height p
patch_of {A} j k p joint lt is = subst (IsPatchOf j.frame_width j.frame_height) (sym is) (all-get_or (IsPatchOf j.frame_width j.frame_height) j.pieces k no_patch lt joint.patches)

-- the rows of a plane that stands in a rectangle
pub row_of_plane : {A : Type 0} (cells row : List A) (at : Rect) (x y n w : ℕ) → w ≡ at.width → at.x ≤ x → row ≡ slice_range cells ((y - at.y) * w + (x - at.x)) ((y - at.y) * w + (x - at.x) + n) → RowIs (cell_of (patch at cells)) x y n row
row_of_plane cells row at x y n w w-is le row-is k lt =
    get_from_column cells row ((y - at.y) * w) (x - at.x) n k row-is lt ∙ ap (λ (t : ℕ). slice_get cells ((y - at.y) * t + (x - at.x + k))) w-is ∙ ap (λ (t : ℕ). slice_get cells ((y - at.y) * at.width + t)) (again x at.x k le)
  where
    again : (x a k : ℕ) → a ≤ x → x - a + k ≡ x + k - a
    again x a k le = omega arith

pub within_as : {A : Type 0} (j : Joint A) (r : Rect) (m n : ℕ) → IsJoint j → r ≡ j.place → m ≡ j.frame_width → n ≡ j.frame_height → IsWithin r m n
within_as j r m n joint r-is m-is n-is = rw (r-is, m-is, n-is) joint.within

-- ---- compared with a plane

pub overlap_begins : (r place p at : Rect) → r ≡ overlap_of place p → IsInside p at → at.x ≤ r.x
overlap_begins r place p at r-is inside = let xs = ap (λ (q : Rect). q.x) r-is in let left = inside.left in omega arith

-- so many cells of a row of the frame from column x on, of a list that stands in a rectangle in rows of this width
abbrev pub run_in : {A : Type 0} → List A → Rect → ℕ → ℕ → ℕ → ℕ → List A
run_in cells at w x y n = let a = (y - at.y) * w + (x - at.x) in slice_range cells a (a + n)

pub run_size : {A : Type 0} (cells : List A) (at : Rect) (w h x y n : ℕ) → length cells ≡ h * w → y - at.y < h → x - at.x + n ≤ w → length (run_in cells at w x y n) ≡ n
run_size cells at w h x y n size down across = length-run cells ((y - at.y) * w + (x - at.x)) n (omega (arith, size, run_fits (y - at.y) h w (x - at.x) n down across))

pub run_of_own : {A : Type 0} (p : Patch A) (own : Raster A) (stands : Rect) (x y n : ℕ) → own ≡ raster p.place.width p.place.height p.cells → stands ≡ p.place → p.place.x ≤ x → RowIs (cell_of p) x y n (run_in own.cells stands own.width x y n)
run_of_own {A} p own stands x y n own-is stands-is le =
    subst (λ (q : Rect). RowIs (cell_of p) x y n (run_in own.cells q own.width x y n)) (sym stands-is)
    (subst (λ (f : Raster A). RowIs (cell_of p) x y n (run_in f.cells p.place f.width x y n)) (sym own-is) (row_of_plane p.cells (run_in p.cells p.place p.place.width x y n) p.place x y n p.place.width refl le refl))

pub size_of_own : {A : Type 0} (p : Patch A) (own : Raster A) → own ≡ raster p.place.width p.place.height p.cells → IsFull p → length own.cells ≡ own.height * own.width
size_of_own {A} p own own-is full =
    let wide : own.width ≡ p.place.width = ap (λ (g : Raster A). g.width) own-is in
    let high : own.height ≡ p.place.height = ap (λ (g : Raster A). g.height) own-is in
    ap (λ (g : Raster A). length g.cells) own-is ∙ full ∙ sym (ap (λ (t : ℕ). t * own.width) high ∙ ap (λ (t : ℕ). p.place.height * t) wide)

-- a row that a piece has in common with a rectangle, and that row of a plane that stands around the piece
pub record RowsOf {A : Type 0} (r at : Rect) (p : Patch A) (f : Raster A) (y : ℕ) (row held : List A) : Type 0 where
  pub own : RowIs (cell_of p) r.x y r.width row
  pub other : RowIs (cell_of (patch at f.cells)) r.x y r.width held
  pub own_size : length row ≡ r.width
  pub other_size : length held ≡ r.width

pub rows_of : {A : Type 0} (r place at stands : Rect) (p : Patch A) (own f : Raster A) (y : ℕ) → r ≡ overlap_of place p.place → 0 < r.width → own ≡ raster p.place.width p.place.height p.cells → stands ≡ p.place → IsFull p → f.width ≡ at.width → f.height ≡ at.height
    → length f.cells ≡ f.height * f.width → IsInside p.place at → r.y ≤ y → y < r.y + r.height → RowsOf r at p f y (run_in own.cells stands own.width r.x y r.width) (run_in f.cells at f.width r.x y r.width)
rows_of {A} r place at stands p own f y r-is some own-is stands-is full width height size inside top bottom =
    let xs = ap (λ (q : Rect). q.x) r-is in
    let ys = ap (λ (q : Rect). q.y) r-is in
    let ws = ap (λ (q : Rect). q.width) r-is in
    let hs = ap (λ (q : Rect). q.height) r-is in
    let us = ap (λ (q : Rect). q.x) stands-is in
    let vs = ap (λ (q : Rect). q.y) stands-is in
    let wide : own.width ≡ p.place.width = ap (λ (g : Raster A). g.width) own-is in
    let high : own.height ≡ p.place.height = ap (λ (g : Raster A). g.height) own-is in
    let a = inside.left in
    let b = inside.right in
    let c = inside.top in
    let d = inside.bottom in
    record {
      own = run_of_own p own stands r.x y r.width own-is stands-is (omega arith);
      other = row_of_plane f.cells (run_in f.cells at f.width r.x y r.width) at r.x y r.width f.width width (omega arith) refl;
      own_size = run_size own.cells stands own.width own.height r.x y r.width (size_of_own p own own-is full) (omega arith) (omega arith);
      other_size = run_size f.cells at f.width f.height r.x y r.width size (omega arith) (omega arith);
    }

-- a plane that stands in its whole frame
abbrev pub at_frame : {A : Type 0} → Rect → Raster A → ℕ → ℕ → Option A
at_frame r f = cell_of (patch r f.cells)

frame_is : {A : Type 0} (f : Raster A) (r : Rect) (x y : ℕ) → r ≡ whole_frame f.width f.height → at_frame r f x y ≡ frame_value f x y
frame_is f r x y r-is = ap (λ (q : Rect). at_frame q f x y) r-is ∙ ap (λ (t : ℕ). slice_get f.cells (t * f.width + (x - 0))) (sub-zero y) ∙ ap (λ (t : ℕ). slice_get f.cells (y * f.width + t)) (sub-zero x)

pub frame_at : (w h m n : ℕ) (r : Rect) → r ≡ whole_frame w h → w ≡ m → h ≡ n → r ≡ whole_frame m n
frame_at w h m n r r-is w-is h-is = rw (← w-is, ← h-is) r-is

pub inside_frame : {A : Type 0} (m n : ℕ) (p : Patch A) (r : Rect) → IsPatchOf m n p → r ≡ whole_frame m n → IsInside p.place r
inside_frame m n p r of r-is =
    let across = of.within.across in
    let down = of.within.down in
    let xs = ap (λ (q : Rect). q.x) r-is in
    let ys = ap (λ (q : Rect). q.y) r-is in
    let ws = ap (λ (q : Rect). q.width) r-is in
    let hs = ap (λ (q : Rect). q.height) r-is in
    record { left = omega arith; right = omega arith; top = omega arith; bottom = omega arith }

pub shown_by : {A : Type 0} (j : Joint A) (f : Raster A) (r at : Rect) → IsJoint j → r ≡ j.place → at ≡ whole_frame f.width f.height → j.frame_width ≡ f.width → j.frame_height ≡ f.height → AllByRecursion (ShowsIn r (at_frame at f)) j.pieces
    → ShowsFrame f j
shown_by {A} j f r at joint r-is at-is width height all = record {
  width = width;
  height = height;
  same = λ x y holds. values_of_shows (at_frame at f) j.place j.pieces joint.covers (subst (λ (s : Rect). AllByRecursion (ShowsIn s (at_frame at f)) j.pieces) r-is all) x y holds ∙ frame_is f at x y at-is;
}

-- where the window shows what the frame has, so does each piece
pub each_shows : {A : Type 0} (j : Joint A) (f : Raster A) (r at : Rect) (k : ℕ) (p : Patch A) → IsJoint j → r ≡ j.place → at ≡ whole_frame f.width f.height → k < length j.pieces → p ≡ patch_at j.pieces k → ShowsFrame f j → ShowsIn r (at_frame at f) p
each_shows {A} j f r at k p joint r-is at-is lt is shows =
    let all : AllByRecursion (ShowsIn j.place (at_frame at f)) j.pieces = shows_of_values (at_frame at f) j.place j.pieces joint.agree (λ x y holds. shows.same x y holds ∙ sym (frame_is f at x y at-is)) in
    subst (λ (s : Rect). ShowsIn s (at_frame at f) p) (sym r-is) (subst (ShowsIn j.place (at_frame at f)) (sym is) (all-get_or (ShowsIn j.place (at_frame at f)) j.pieces k no_patch lt all))

-- of a whole frame
pub shown_plain : {A : Type 0} (j : Joint A) (f : Raster A) (r : Rect) → IsJoint j → r ≡ j.place → j.frame_width ≡ f.width → j.frame_height ≡ f.height → AllByRecursion (ShowsIn r (frame_value f)) j.pieces → ShowsFrame f j
shown_plain {A} j f r joint r-is width height all = record {
  width = width;
  height = height;
  same = values_of_shows (frame_value f) j.place j.pieces joint.covers (subst (λ (s : Rect). AllByRecursion (ShowsIn s (frame_value f)) j.pieces) r-is all);
}

pub each_plain : {A : Type 0} (j : Joint A) (f : Raster A) (r : Rect) (k : ℕ) (p : Patch A) → IsJoint j → r ≡ j.place → k < length j.pieces → p ≡ patch_at j.pieces k → ShowsFrame f j → ShowsIn r (frame_value f) p
each_plain {A} j f r k p joint r-is lt is shows =
    let all : AllByRecursion (ShowsIn j.place (frame_value f)) j.pieces = shows_of_values (frame_value f) j.place j.pieces joint.agree shows.same in
    subst (λ (s : Rect). ShowsIn s (frame_value f) p) (sym r-is) (subst (ShowsIn j.place (frame_value f)) (sym is) (all-get_or (ShowsIn j.place (frame_value f)) j.pieces k no_patch lt all))
