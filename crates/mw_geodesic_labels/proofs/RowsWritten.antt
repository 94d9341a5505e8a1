-- Regions in rows of a list, one behind the other.
use Rattle.std.proofs.Common.{◌≡◌, ℕ, ◌+◌, ◌-◌, ◌*◌, ◌/◌, ◌<◌, ◌≤◌, ◌^◌, List, [], ◌∷◌, ◌++◌, length, get_or, set, take, drop, refl, ap, sym, subst, arith, ◌∙◌}
use Rattle.std.proofs.lemmas.List.{append_assoc, append-nil, drop_at, drop-drop, drop_more, drop-set, get_or-drop, length-append, length-drop, length-set, length-take-le, length_push, take_at, take-append-drop, take-set}
use Rattle.mw_pixel.specs.Planes.{put_at}
use Rattle.mw_geodesic_runs.specs.declared.runs.Run.{Run}
use Rattle.mw_geodesic_runs.specs.Runs.{run_numbered}
use Rattle.mw_geodesic_labels.specs.declared.regions.Region.{Region}
use Rattle.mw_geodesic_labels.specs.Regions.{region_row, region_rows}
use Rattle.mw_geodesic_labels.specs.Gathering.{no_region, rows_over, HasRegionAt, TellsRun, TellsMore, begun, added, CanAdd, CanAddToRows, AreRowsAdded, AreRowsGathered, AreCounted}
use Rattle.mw_geodesic_labels.proofs.Gathered.{can_add, gathered_none, gathered_on}

pub rows_append : (xs ys : List Region) → region_rows (xs ++ ys) ≡ region_rows xs ++ region_rows ys
rows_append [] ys = refl
rows_append (x ∷ xs) ys = ap (λ (t : List ℕ). region_row x ++ t) (rows_append xs ys) ∙ sym (append_assoc (region_row x) (region_rows xs) (region_rows ys))

pub length-rows : (xs : List Region) → length (region_rows xs) ≡ 7 * length xs
length-rows [] = refl
length-rows (x ∷ xs) = let rest = length-rows xs in omega arith

-- the list is no shorter than the old one
pub rows_fit : (regions : List Region) (old out : List ℕ) → out ≡ rows_over regions old → length old ≤ length out
rows_fit regions old out is =
    let size = ap (λ (t : List ℕ). length t) is in
    let parts = length-append (region_rows regions) (drop (7 * length regions) old) in
    let front = length-rows regions in
    let behind = length-drop (7 * length regions) old in
    omega arith

-- one row more
pub rows_push : (regions : List Region) (r : Region) (n : ℕ) (old out : List ℕ) → n ≡ length regions → out ≡ rows_over regions old → put_at (7 * n) (region_row r) out ≡ rows_over (regions ++ r ∷ []) old
rows_push regions r n old out many is =
    let before = region_rows regions in
    let size : length before ≡ 7 * n = length-rows regions ∙ ap (λ (t : ℕ). 7 * t) (sym many) in
    let front : take (7 * n) out ≡ before = ap (take (7 * n)) is ∙ take_at before (drop (7 * length regions) old) (7 * n) size in
    let behind : drop (7 * n) out ≡ drop (7 * length regions) old = ap (drop (7 * n)) is ∙ drop_at before (drop (7 * length regions) old) (7 * n) size in
    let next : drop 7 (drop (7 * n) out) ≡ drop (7 * length (regions ++ r ∷ [])) old =
    ap (drop 7) behind ∙ drop-drop 7 (7 * length regions) old ∙ ap (λ (t : ℕ). drop t old) (more (length regions) (length (regions ++ r ∷ [])) (length_push regions r)) in
    let rows : region_rows (regions ++ r ∷ []) ≡ before ++ region_row r = rows_append regions (r ∷ []) ∙ ap (λ (t : List ℕ). before ++ t) (append-nil (region_row r)) in
    ap (λ (t : List ℕ). t ++ (region_row r ++ drop 7 (drop (7 * n) out))) front
    ∙ ap (λ (t : List ℕ). before ++ (region_row r ++ t)) next
    ∙ sym (append_assoc before (region_row r) (drop (7 * length (regions ++ r ∷ [])) old))
    ∙ ap (λ (t : List ℕ). t ++ drop (7 * length (regions ++ r ∷ [])) old) (sym rows)
  where
    more : (m m' : ℕ) → m' ≡ m + 1 → 7 * m + 7 ≡ 7 * m'
    more m m' is = omega arith

-- the rows before one, itself, and those behind it
record IsCut (regions : List Region) (k : ℕ) (rest out : List ℕ) : Type 0 where
  front : take (7 * k) out ≡ region_rows (take k regions)
  behind : drop (7 * k) out ≡ region_row (get_or regions k no_region) ++ (region_rows (drop (k + 1) regions) ++ rest)

cut : (regions : List Region) (k : ℕ) (rest out : List ℕ) → k < length regions → out ≡ region_rows regions ++ rest → IsCut regions k rest out
cut regions k rest out lt is =
    let here = region_row (get_or regions k no_region) in
    let above = region_rows (take k regions) in
    let below = region_rows (drop (k + 1) regions) in
    let parts : regions ≡ take k regions ++ (get_or regions k no_region ∷ drop (k + 1) regions) = sym (take-append-drop k regions) ∙ ap (λ (t : List Region). take k regions ++ t) (drop_more regions k no_region lt) in
    let rows : region_rows regions ≡ above ++ (here ++ below) = ap region_rows parts ∙ rows_append (take k regions) (get_or regions k no_region ∷ drop (k + 1) regions) in
    let all : out ≡ above ++ ((here ++ below) ++ rest) = is ∙ ap (λ (t : List ℕ). t ++ rest) rows ∙ append_assoc above (here ++ below) rest in
    let size : length above ≡ 7 * k = length-rows (take k regions) ∙ ap (λ (n : ℕ). 7 * n) (length-take-le k regions (omega arith)) in
    record {
      front = ap (take (7 * k)) all ∙ take_at above ((here ++ below) ++ rest) (7 * k) size;
      behind = ap (drop (7 * k)) all ∙ drop_at above ((here ++ below) ++ rest) (7 * k) size ∙ append_assoc here below rest;
    }

-- another row in the place of one
pub rows_set : (regions : List Region) (r : Region) (k : ℕ) (old out : List ℕ) → k < length regions → out ≡ rows_over regions old → put_at (7 * k) (region_row r) out ≡ rows_over (set regions k r) old
rows_set regions r k old out lt is =
    let rest = drop (7 * length regions) old in
    let above = region_rows (take k regions) in
    let below = region_rows (drop (k + 1) regions) in
    let c = cut regions k rest out lt is in
    let behind : drop 7 (drop (7 * k) out) ≡ below ++ rest = ap (drop 7) c.behind ∙ drop_at (region_row (get_or regions k no_region)) (below ++ rest) 7 refl in
    let parts : set regions k r ≡ take k regions ++ (r ∷ drop (k + 1) regions) =
    sym (take-append-drop k (set regions k r))
    ∙ ap (λ (t : List Region). t ++ drop k (set regions k r)) (take-set regions k r)
    ∙ ap (λ (t : List Region). take k regions ++ t) (drop-set regions k r lt) in
    let rows : region_rows (set regions k r) ≡ above ++ (region_row r ++ below) = ap region_rows parts ∙ rows_append (take k regions) (r ∷ drop (k + 1) regions) in
    ap (λ (t : List ℕ). t ++ (region_row r ++ drop 7 (drop (7 * k) out))) c.front
    ∙ ap (λ (t : List ℕ). above ++ (region_row r ++ t)) behind
    ∙ ap (λ (t : List ℕ). above ++ t) (sym (append_assoc (region_row r) below rest))
    ∙ sym (append_assoc above (region_row r ++ below) rest)
    ∙ ap (λ (t : List ℕ). t ++ rest) (sym rows)
    ∙ ap (λ (n : ℕ). region_rows (set regions k r) ++ drop (7 * n) old) (sym (length-set regions k r))

same_region : (a b : Region) → a.x ≡ b.x → a.y ≡ b.y → a.area ≡ b.area → a.left ≡ b.left → a.top ≡ b.top → a.right ≡ b.right → a.bottom ≡ b.bottom → a ≡ b
same_region a b x y area left top right bottom =
    ap (λ (t : ℕ). record { x = t; y = a.y; area = a.area; left = a.left; top = a.top; right = a.right; bottom = a.bottom }) x
    ∙ ap (λ (t : ℕ). record { x = b.x; y = t; area = a.area; left = a.left; top = a.top; right = a.right; bottom = a.bottom }) y
    ∙ ap (λ (t : ℕ). record { x = b.x; y = b.y; area = t; left = a.left; top = a.top; right = a.right; bottom = a.bottom }) area
    ∙ ap (λ (t : ℕ). record { x = b.x; y = b.y; area = b.area; left = t; top = a.top; right = a.right; bottom = a.bottom }) left
    ∙ ap (λ (t : ℕ). record { x = b.x; y = b.y; area = b.area; left = b.left; top = t; right = a.right; bottom = a.bottom }) top
    ∙ ap (λ (t : ℕ). record { x = b.x; y = b.y; area = b.area; left = b.left; top = b.top; right = t; bottom = a.bottom }) right
    ∙ ap (λ (t : ℕ). record { x = b.x; y = b.y; area = b.area; left = b.left; top = b.top; right = b.right; bottom = t }) bottom

-- what stands in the row of a region
pub row_read : (regions : List Region) (k : ℕ) (old out : List ℕ) (r : Region) → k < length regions → out ≡ rows_over regions old → HasRegionAt out (7 * k) r → r ≡ get_or regions k no_region
row_read regions k old out r lt is has =
    let rest = drop (7 * length regions) old in
    let g = get_or regions k no_region in
    let tail = region_rows (drop (k + 1) regions) ++ rest in
    let c = cut regions k rest out lt is in
    let read : (j : ℕ) → get_or out (7 * k + j) 0 ≡ get_or (region_row g ++ tail) j 0 = λ j. sym (get_or-drop (7 * k) out j 0) ∙ ap (λ (t : List ℕ). get_or t j 0) c.behind in
    let first : get_or out (7 * k) 0 ≡ g.x = ap (λ (t : ℕ). get_or out t 0) (from (7 * k)) ∙ read 0 in
    same_region r g (sym has.x ∙ first) (sym has.y ∙ read 1) (sym has.area ∙ read 2) (sym has.left ∙ read 3) (sym has.top ∙ read 4) (sym has.right ∙ read 5) (sym has.bottom ∙ read 6)
  where
    from : (n : ℕ) → n ≡ n + 0
    from n = omega arith

-- ---- runs that are added

-- the run begins a row
pub row_begun : (run : Run) (number count k : ℕ) (out new : List ℕ) (r : Region) → (can : CanAddToRows run number count out) → k + 1 ≡ number → k ≡ count → TellsRun run r → new ≡ put_at (7 * k) (region_row r) out
    → AreRowsAdded run number can.regions can.before (count + 1) new
row_begun run number count k out new r can next same tells is =
    let many = can.many in
    record {
      now = can.regions ++ r ∷ [];
      added = begun r (omega arith) tells;
      many = let size = length_push can.regions r in omega arith;
      rows = is ∙ rows_push can.regions r k can.before out (omega arith) can.rows;
    }

-- another number is that of a region
pub row_within : (run : Run) (number count k : ℕ) (out : List ℕ) → (can : CanAddToRows run number count out) → k + 1 ≡ number → (k ≡ count → ⊥) → k < length can.regions
row_within run number count k out can next other =
    let many = can.many in
    let most = can.can.next in
    omega arith

-- the row of its number tells of it too
pub row_added : (run : Run) (number count k : ℕ) (out new : List ℕ) (r r' : Region) → (can : CanAddToRows run number count out) → k + 1 ≡ number → (k ≡ count → ⊥) → HasRegionAt out (7 * k) r → TellsMore r run r' → new ≡ put_at (7 * k) (region_row r') out
    → AreRowsAdded run number can.regions can.before count new
row_added run number count k out new r r' can next other has tells is =
    let many = can.many in
    let within : k < length can.regions = row_within run number count k out can next other in
    let read = row_read can.regions k can.before out r within can.rows has in
    record {
      now = set can.regions k r';
      added = added r' k (sym next) within (subst (λ (t : Region). TellsMore t run r') read tells);
      many = many ∙ sym (length-set can.regions k r');
      rows = is ∙ rows_set can.regions r' k can.before out within can.rows;
    }

-- there is room for its area
pub row_fits : (run : Run) (number count k : ℕ) (out : List ℕ) (r : Region) → (can : CanAddToRows run number count out) → k + 1 ≡ number → (k ≡ count → ⊥) → HasRegionAt out (7 * k) r → r.area + (run.end - run.first) < 2 ^ 32
row_fits run number count k out r can next other has =
    let within = row_within run number count k out can next other in
    let read = ap (λ (t : Region). t.area) (row_read can.regions k can.before out r within can.rows has) in
    let fits = can.can.fits k within in
    omega arith

-- ---- runs row by row

pub rows_none : (runs : List Run) (numbers : List ℕ) (old : List ℕ) → AreRowsGathered runs numbers 0 old 0 old
rows_none runs numbers old = record { regions = []; are = gathered_none runs numbers; many = refl; rows = refl }

pub can_add_row : (runs : List Run) (numbers : List ℕ) (i : ℕ) (run : Run) (old : List ℕ) (count : ℕ) (out : List ℕ) → run ≡ run_numbered runs i → i < length runs → AreCounted runs numbers (length old / 7) → AreRowsGathered runs numbers i old count out
    → CanAddToRows run (get_or numbers i 0) count out
can_add_row runs numbers i run old count out run_is lt counted was = record {
  regions = was.regions;
  before = old;
  can = subst (λ (t : Run). CanAdd t (get_or numbers i 0) was.regions) (sym run_is) (can_add runs numbers (length old / 7) i was.regions lt counted.wide was.are);
  many = was.many;
  rows = was.rows;
  room = let most = counted.most i lt in omega arith;
}

pub row_gathered : (runs : List Run) (numbers : List ℕ) (i : ℕ) (run : Run) (old : List ℕ) (count count' : ℕ) (out out' : List ℕ) → run ≡ run_numbered runs i → i < length runs → (counted : AreCounted runs numbers (length old / 7))
    → ((can : CanAddToRows run (get_or numbers i 0) count out) → AreRowsAdded run (get_or numbers i 0) can.regions can.before count' out') → AreRowsGathered runs numbers i old count out → AreRowsGathered runs numbers (i + 1) old count' out'
unfolding can_add_row
row_gathered runs numbers i run old count count' out out' run_is lt counted adds was =
    let can = can_add_row runs numbers i run old count out run_is lt counted was in
    let more : AreRowsAdded run (get_or numbers i 0) was.regions old count' out' = adds can in
    let some : run.first < run.end = subst (λ (t : Run). t.first < t.end) (sym run_is) (counted.wide.run i lt) in
    record {
      regions = more.now;
      are = gathered_on runs numbers i (get_or numbers i 0) run was.regions more.now run_is refl some more.added was.are;
      many = more.many;
      rows = more.rows;
    }
