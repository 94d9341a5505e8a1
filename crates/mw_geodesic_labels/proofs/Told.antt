-- What is gathered of runs is what is told of components.
use Rattle.std.proofs.Common.{◌≡◌, ℕ, zero, suc, ◌+◌, ◌-◌, ◌*◌, ◌<◌, ◌≤◌, List, [], ◌∷◌, length, get_or, set, cond, true, false, refl, ap, sym, subst, arith, ◌∙◌, inl, inr}
use Rattle.std.specs.Prelude.{count_by, ◌==◌}
use Rattle.std.proofs.lemmas.Bool.{cases_lt, cases_eq, eq-eqb, ne_eqb}
use Rattle.std.proofs.Math.Nat.{mul-le-mul_left}
use Rattle.std.proofs.lemmas.List.{get_or_default}
use Rattle.std.proofs.lemmas.List.Sums.{sum_by-cons, sum_by-set}
use Rattle.mw_model.specs.declared.offsets.Offset.{Offset}
use Rattle.mw_model.specs.Pictures.{Picture}
use Rattle.mw_geodesic.specs.Labels.{IsLabelling}
use Rattle.mw_geodesic_runs.specs.declared.runs.Run.{Run}
use Rattle.mw_geodesic_labels.specs.declared.regions.Region.{Region}
use Rattle.mw_geodesic_runs.specs.Runs.{run_numbered, HasPlace, RunsBefore}
use Rattle.mw_geodesic_runs.specs.Components.{AreComponents}
use Rattle.mw_geodesic_labels.specs.Painting.{painted, painted_runs, begin_of, stop_of}
use Rattle.mw_geodesic_labels.specs.Regions.{HasLabel, IsRegion, AreRegionsOf}
use Rattle.mw_geodesic_labels.specs.Gathering.{no_region, area_of, HasNumberBefore, IsGathered, AreGathered}
use Rattle.mw_geodesic_runs.proofs.Found.{held}
use Rattle.mw_geodesic_runs.proofs.Joinings.{frame_run}
use Rattle.mw_geodesic_labels.proofs.Labellings.{ShowsNumbers, in_set, earlier, labelling}
use Rattle.mw_geodesic_labels.proofs.Paintings.{length-painted, length-painted_runs, painted_outside, unpainted, ends_before, shows_numbers, blank, length-blank, blank_zero}
use Rattle.mw_geodesic_labels.proofs.Gathered.{area_here, area_other}

-- ---- how often a number is written

count_none : (n : ℕ) (xs : List ℕ) → 1 ≤ n → ((k : ℕ) → get_or xs k 0 ≡ 0) → count_by (λ l. l == n) xs ≡ 0
count_none n [] some none = refl
count_none n (x ∷ xs) some none =
    let rest = count_none n xs some (λ k. none (suc k)) in
    let first : x ≡ 0 = none zero in
    let more = sum_by-cons (λ s. cond (s == n) 1 0) x xs in
    let is : (x == n) ≡ false = ne_eqb x n (λ e. absurd (omega arith)) in
    let nothing : ◌≡◌ {A = ℕ} (cond (x == n) 1 0) 0 = ap (λ b. cond b 1 0) is in
    omega (arith, more, nothing, rest)

-- one more place is written, which was blank
count_at : (start m v n : ℕ) (xs : List ℕ) → 1 ≤ n → start + m < length xs → get_or xs (start + m) 0 ≡ 0
    → count_by (λ l. l == n) (set (painted start m v xs) (start + m) v) ≡ count_by (λ l. l == n) (painted start m v xs) + cond (v == n) 1 0
count_at start m v n xs some fits blank =
    let was : get_or (painted start m v xs) (start + m) 0 ≡ 0 = painted_outside start m v xs (start + m) (inr (omega arith)) ∙ blank in
    let less = sum_by-set (λ l. cond (l == n) 1 0) (painted start m v xs) (start + m) v 0 (omega (arith, length-painted start m v xs)) in
    let not : (get_or (painted start m v xs) (start + m) 0 == n) ≡ false = ne_eqb (get_or (painted start m v xs) (start + m) 0) n (λ e. absurd (omega arith)) in
    let now = rw not at less in
    omega (arith, now)

count_same : (start m v n : ℕ) (xs : List ℕ) → 1 ≤ n → v ≡ n → start + m ≤ length xs → ((k : ℕ) → start ≤ k → k < start + m → get_or xs k 0 ≡ 0)
    → count_by (λ l. l == n) (painted start m v xs) ≡ count_by (λ l. l == n) xs + m
count_same start zero v n xs some same fits blank = omega arith
count_same start (suc m) v n xs some same fits blank =
    let rest = count_same start m v n xs some same (omega arith) (λ k from to. blank k from (omega arith)) in
    let more = count_at start m v n xs some (omega arith) (blank (start + m) (omega arith) (omega arith)) in
    let is : (v == n) ≡ true = eq-eqb v n same in
    let now = rw is at more in
    omega (arith, now, rest)

count_other : (start m v n : ℕ) (xs : List ℕ) → 1 ≤ n → (v ≡ n → ⊥) → start + m ≤ length xs → ((k : ℕ) → start ≤ k → k < start + m → get_or xs k 0 ≡ 0)
    → count_by (λ l. l == n) (painted start m v xs) ≡ count_by (λ l. l == n) xs
count_other start zero v n xs some ne fits blank = refl
count_other start (suc m) v n xs some ne fits blank =
    let rest = count_other start m v n xs some ne (omega arith) (λ k from to. blank k from (omega arith)) in
    let more = count_at start m v n xs some (omega arith) (blank (start + m) (omega arith) (omega arith)) in
    let is : (v == n) ≡ false = ne_eqb v n ne in
    let now = rw is at more in
    omega (arith, now, rest)

pub counted_runs : (f : Picture) (runs : List Run) (numbers : List ℕ) (n i : ℕ) (xs : List ℕ) → RunsBefore f 0 f.height runs → i ≤ length runs → length xs ≡ f.height * f.width → ((k : ℕ) → get_or xs k 0 ≡ 0) → 1 ≤ n
    → count_by (λ l. l == n) (painted_runs f.width runs numbers i xs) ≡ area_of runs numbers n i
counted_runs f runs numbers n zero xs before le size blank some = count_none n xs some blank
counted_runs f runs numbers n (suc i) xs before le size blank some =
    let w = f.width in
    let r = run_numbered runs i in
    let frame = frame_run f runs i before (omega arith) in
    let run_some = frame.run.some in
    let within = frame.run.within in
    let row = frame.row in
    let rest = counted_runs f runs numbers n i xs before (omega arith) size blank some in
    let length_is = length-painted_runs w runs numbers i xs in
    let fits : begin_of w r + (stop_of w r - begin_of w r) ≤ length (painted_runs w runs numbers i xs) = fitting f.height w r.row r.first r.end (length (painted_runs w runs numbers i xs)) row (omega arith) within (omega arith) in
    let free : (k : ℕ) → begin_of w r ≤ k → k < begin_of w r + (stop_of w r - begin_of w r) → get_or (painted_runs w runs numbers i xs) k 0 ≡ 0 = λ k from to.
    unpainted w runs numbers i xs k (λ j lt. let other = frame_run f runs j before (omega arith) in let other_some = other.run.some in omega arith)
    (λ j lt from' to'.
    let other = frame_run f runs j before (omega arith) in
    let other_some = other.run.some in
    let gap = ends_before w (run_numbered runs j) r other.run.within (omega arith) (before.order.each j i lt (omega arith)) in
    omega arith)
    ∙ blank k in
    let one : suc i ≡ i + 1 = omega arith in
    let next = ap (area_of runs numbers n) one in
    elim (cases_eq (get_or numbers i 0) n) [
      | inl same ↦
          let more = count_same (begin_of w r) (stop_of w r - begin_of w r) (get_or numbers i 0) n (painted_runs w runs numbers i xs) some same fits free in
          let here = area_here runs numbers n i same in
          omega (arith, more, here, next, rest)
      | inr ne ↦
          let more = count_other (begin_of w r) (stop_of w r - begin_of w r) (get_or numbers i 0) n (painted_runs w runs numbers i xs) some ne fits free in
          let here = area_other runs numbers n i ne in
          more ∙ rest ∙ sym here ∙ sym next
    ]
  where
    fitting : (h w row first end size : ℕ) → row < h → first ≤ end → end ≤ w → size ≡ h * w → row * w + first + (row * w + end - (row * w + first)) ≤ size
    fitting h w row first end size lt low within is =
        let le : row + 1 ≤ h = omega arith in
        omega (arith, mul-le-mul_left w le)

-- ---- a region

-- the run of a place with a label
record HasRun (runs : List Run) (numbers : List ℕ) (n x y : ℕ) : Type 0 where
  at : ℕ
  of : HasNumberBefore numbers (length runs) n at
  holds : HasPlace (run_numbered runs at) x y

run_of : (e : List Offset) (f : Picture) (runs : List Run) (numbers labels : List ℕ) (count n x y : ℕ) → AreComponents e f runs numbers count → ShowsNumbers f runs numbers labels → 1 ≤ n → HasLabel f labels n x y → HasRun runs numbers n x y
run_of e f runs numbers labels count n x y are shows some has =
    let label = has.label in
    let one = in_set e f runs numbers labels count x y are shows has.place (omega arith) in
    let run = held e f runs numbers count x y are has.place one in
    record { at = run.at; of = record { before = run.within; is = sym (shows.shown run.at x y run.within run.holds) ∙ label }; holds = run.holds }

label_in : (f : Picture) (runs : List Run) (numbers labels : List ℕ) (n j x y : ℕ) → RunsBefore f 0 f.height runs → ShowsNumbers f runs numbers labels → HasNumberBefore numbers (length runs) n j → (run_numbered runs j).first ≤ x → x < (run_numbered runs j).end
    → y ≡ (run_numbered runs j).row → HasLabel f labels n x y
label_in f runs numbers labels n j x y before shows of from to row =
    let frame = frame_run f runs j before of.before in
    let within = frame.run.within in
    let high = frame.row in
    record {
      place = record { column = omega arith; row = omega arith };
      label = shows.shown j x y of.before (record { row = row; from = from; to = to }) ∙ of.is;
    }

first_place_of : (f : Picture) (runs : List Run) (i j u v x y : ℕ) → RunsBefore f 0 f.height runs → i ≤ j → j < length runs → u ≡ (run_numbered runs i).first → v ≡ (run_numbered runs i).row → HasPlace (run_numbered runs j) x y → v * f.width + u ≤ y * f.width + x
first_place_of f runs i j u v x y before le lt column row holds = elim (cases_lt i j) [
  | inl less ↦
      let frame = frame_run f runs i before (omega arith) in
      let some = frame.run.some in
      let within = frame.run.within in
      let far = earlier f.width (run_numbered runs i) (run_numbered runs j) x y (omega arith) some (before.order.each i j less lt) holds in
      let rows : v * f.width ≡ (run_numbered runs i).row * f.width = ap (λ (t : ℕ). t * f.width) row in
      omega arith
  | inr past ↦
      let same : i ≡ j = omega arith in
      let column' : u ≡ (run_numbered runs j).first = column ∙ ap (λ (t : ℕ). (run_numbered runs t).first) same in
      let row' : v ≡ y = row ∙ ap (λ (t : ℕ). (run_numbered runs t).row) same ∙ sym holds.row in
      let rows : v * f.width ≡ y * f.width = ap (λ (t : ℕ). t * f.width) row' in
      let from = holds.from in
      omega arith
]

is_region : (e : List Offset) (f : Picture) (runs : List Run) (numbers labels : List ℕ) (count n : ℕ) (r : Region) → AreComponents e f runs numbers count → ShowsNumbers f runs numbers labels → 1 ≤ n
    → count_by (λ l. l == n) labels ≡ area_of runs numbers n (length runs) → IsGathered runs numbers (length runs) n r → IsRegion f labels n r
is_region e f runs numbers labels count n r are shows some counted told =
    let first_run = (frame_run f runs told.first.at are.cut told.first.of.before).run.some in
    let left_run = (frame_run f runs told.left.at are.cut told.left.of.before).run.some in
    let top_run = (frame_run f runs told.top.at are.cut told.top.of.before).run.some in
    let right_run = (frame_run f runs told.right.at are.cut told.right.of.before).run.some in
    let bottom_run = (frame_run f runs told.bottom.at are.cut told.bottom.of.before).run.some in
    let first_column = told.first.column in
    let left_is = told.left.is in
    let right_is = told.right.is in
    record {
      place = label_in f runs numbers labels n told.first.at r.x r.y are.cut shows told.first.of (omega arith) (omega arith) told.first.row;
      first = λ x y has.
          let run = run_of e f runs numbers labels count n x y are shows some has in
          first_place_of f runs told.first.at run.at r.x r.y x y are.cut (told.first.least run.at run.of) run.of.before first_column told.first.row run.holds;
      area = told.area ∙ sym counted;
      left = record {
        met = ((run_numbered runs told.left.at).row, label_in f runs numbers labels n told.left.at r.left (run_numbered runs told.left.at).row are.cut shows told.left.of (omega arith) (omega arith) refl);
        least = λ x column.
            let run = run_of e f runs numbers labels count n x (column.0) are shows some (column.1) in
            let low = told.left.least run.at run.of in
            let from = run.holds.from in
            omega arith;
      };
      top = record {
        met = ((run_numbered runs told.top.at).first, label_in f runs numbers labels n told.top.at (run_numbered runs told.top.at).first r.top are.cut shows told.top.of (omega arith) top_run told.top.is);
        least = λ y row.
            let run = run_of e f runs numbers labels count n (row.0) y are shows some (row.1) in
            let low = told.top.least run.at run.of in
            let at = run.holds.row in
            omega arith;
      };
      right = record {
        met = ((run_numbered runs told.right.at).row, label_in f runs numbers labels n told.right.at r.right (run_numbered runs told.right.at).row are.cut shows told.right.of (omega arith) (omega arith) refl);
        greatest = λ x column.
            let run = run_of e f runs numbers labels count n x (column.0) are shows some (column.1) in
            let high = told.right.greatest run.at run.of in
            let to = run.holds.to in
            omega arith;
      };
      bottom = record {
        met = ((run_numbered runs told.bottom.at).first, label_in f runs numbers labels n told.bottom.at (run_numbered runs told.bottom.at).first r.bottom are.cut shows told.bottom.of (omega arith) bottom_run told.bottom.is);
        greatest = λ y row.
            let run = run_of e f runs numbers labels count n (row.0) y are shows some (row.1) in
            let high = told.bottom.greatest run.at run.of in
            let at = run.holds.row in
            omega arith;
      };
    }

-- there are as many regions as labels
pub as_many : (e : List Offset) (f : Picture) (runs : List Run) (numbers : List ℕ) (count : ℕ) (regions : List Region) → AreComponents e f runs numbers count → AreGathered runs numbers (length runs) regions → length regions ≡ count
as_many e f runs numbers count regions are told =
    let low : length regions ≤ count = below (length regions) (λ k next.
    let first = (told.each k (omega arith)).first in
    let most = are.most first.at first.of.before in
    let is = first.of.is in
    omega arith) in
    let high : count ≤ length regions = elim (cases_lt count 1) [
      | inl none ↦ omega arith
      | inr some ↦
          let top = are.top some in
          let most = told.most top.at top.before in
          let is = top.is in
          omega arith
    ] in
    omega arith
  where
    below : (n : ℕ) → ((k : ℕ) → k + 1 ≡ n → k + 1 ≤ count) → n ≤ count
    below zero each = omega arith
    below (suc k) each = let le = each k (omega arith) in omega arith

pub are_regions : (e : List Offset) (f : Picture) (runs : List Run) (numbers : List ℕ) (count : ℕ) (regions : List Region) → AreComponents e f runs numbers count → AreGathered runs numbers (length runs) regions → AreRegionsOf e f regions
are_regions e f runs numbers count regions are told =
    let xs = blank (f.height * f.width) in
    let none : (k : ℕ) → get_or xs k 0 ≡ 0 = blank_zero (f.height * f.width) in
    let size : length xs ≡ f.height * f.width = length-blank (f.height * f.width) in
    let labels = painted_runs f.width runs numbers (length runs) xs in
    let shows = shows_numbers f runs numbers xs labels are.cut size none refl in
    let many = as_many e f runs numbers count regions are told in
    record {
      labels = labels;
      labelling = subst (λ (c : ℕ). IsLabelling e f c labels) (sym many) (labelling e f runs numbers labels count are shows);
      each = λ k d lt.
          let counted = counted_runs f runs numbers (k + 1) (length runs) xs are.cut (omega arith) size none (omega arith) in
          let here = is_region e f runs numbers labels count (k + 1) (get_or regions k no_region) are shows (omega arith) counted (told.each k lt) in
          subst (λ (t : Region). IsRegion f labels (k + 1) t) (get_or_default regions k no_region d lt) here;
    }
