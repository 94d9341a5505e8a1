-- What a run shows of a row of a window.
use Rattle.std.proofs.Common.{◌≡◌, ℕ, zero, suc, ◌+◌, ◌-◌, ◌*◌, ◌<◌, ◌≤◌, ℤ, pos, negsuc, ◌+ℤ◌, ◌-ℤ◌, List, [], ◌∷◌, ◌++◌, map, length, get_or, take, drop, min, Option, None, refl, ap, sym, arith, ◌∙◌, length-append, length-take, length-drop, inl, inr, subst}
use Rattle.std.specs.Option.{option_to_list}
use Rattle.std.proofs.lemmas.Bool.{cases_lt}
use Rattle.std.proofs.lemmas.Int.{ints}
use Rattle.std.proofs.lemmas.Nat.{mul-add-lt}
use Rattle.std.proofs.lemmas.List.{take_more, get_or-take, get_or-drop, map-append, drop_more}
use Rattle.std.proofs.lemmas.Option.{slice_get-get_or}
use Rattle.std.proofs.lemmas.List.Concat.{flat_map-cons}
use Rattle.std.proofs.Math.ListN.{length-map}
use Rattle.mw_model.specs.Rectangles.{nonnegative}
use Rattle.mw_model.specs.Rasters.{Sight, raster, cell_at}
use Rattle.mw_model.specs.Windows.{View, seen_at}
use Rattle.mw_model.specs.declared.offsets.Offset.{Offset}
use Rattle.mw_tile.proofs.mw_pixel.Cells.{cell_at-inside, cell_at-right}
use Rattle.mw_rank.specs.declared.histogram.Histogram.{Histogram}
use Rattle.mw_element_runs.specs.declared.runs.Run.{Run}
use Rattle.mw_element_runs.specs.Runs.{start_offset}
use Rattle.mw_rank.specs.Ranks.{levels_under, levels_at}
use Rattle.mw_rank.specs.Runs.{next_offset, offsets_from, offsets_of_run, element_of}
use Rattle.mw_rank.specs.Tallies.{Tallies}
use Rattle.mw_rank.proofs.Counts.{tallies_same}
use Rattle.mw_rank.proofs.Edges.{more_entered}
use Rattle.mw_rank.proofs.Sights.{levels-cons, levels-append, length-levels, length-offsets}
use Rattle.mw_rank.proofs.Moves.{same_snoc, element_snoc, element_size}

-- the levels of n columns of a row
abbrev pub column_levels : {A : Type 0} → (A → ℕ) → (ℤ → Option A) → ℤ → ℕ → List ℕ
column_levels level at from zero = []
column_levels level at from (suc n) = map level (option_to_list (at from)) ++ column_levels level at (from +ℤ pos 1) n

run_columns : {A : Type 0} (level : A → ℕ) (w : View A) (b : Offset) (n x y row : ℕ) (from : ℤ) → pos x +ℤ b.dx -ℤ pos w.place.x ≡ from → pos y +ℤ b.dy -ℤ pos w.place.y ≡ pos row
    → levels_under level (seen_at w) (offsets_from b n) x y ≡ column_levels level (λ c. cell_at (raster w.place.width w.place.height w.cells) c (pos row)) from n
run_columns level w b zero x y row from from-is row-is = refl
run_columns level w b (suc n) x y row from from-is row-is =
    let frame = raster w.place.width w.place.height w.cells in
    levels-cons level (seen_at w) b (offsets_from (next_offset b) n) x y
    ∙ ap (λ (t : List ℕ). levels_at level (seen_at w) b x y ++ t) (run_columns level w (next_offset b) n x y row (from +ℤ pos 1) (omega (arith, ints)) row-is)
    ∙ ap (λ (t : ℤ). map level (option_to_list (cell_at frame t (pos y +ℤ b.dy -ℤ pos w.place.y))) ++ column_levels level (λ c. cell_at frame c (pos row)) (from +ℤ pos 1) n) from-is
    ∙ ap (λ (t : ℤ). map level (option_to_list (cell_at frame from t)) ++ column_levels level (λ c. cell_at frame c (pos row)) (from +ℤ pos 1) n) row-is

-- the part of a row from one clamped column to another
abbrev pub between : {A : Type 0} → List A → ℕ → ℤ → ℤ → List A
between row width from to = take (min (nonnegative to) width - min (nonnegative from) width) (drop (min (nonnegative from) width) row)

-- a row of which the columns are known
pub record IsRow {A : Type 0} (row : List A) (width : ℕ) (at : ℤ → Option A) : Type 0 where
  pub size : length row ≡ width
  pub left : (n : ℕ) → at (negsuc n) ≡ None
  pub right : (n : ℕ) → width ≤ n → at (pos n) ≡ None
  pub inside : (n : ℕ) (d : A) → n < width → option_to_list (at (pos n)) ≡ get_or row n d ∷ []

none_more : {A : Type 0} (level : A → ℕ) (o : Option A) (ns ms : List ℕ) → o ≡ None → ns ≡ ms → map level (option_to_list o) ++ ns ≡ ms
none_more level o ns ms o-is same = ap (λ (t : Option _). map level (option_to_list t) ++ ns) o-is ∙ same

-- the part from a column of the row is its cell and the part from the next
one_more : {A : Type 0} (row : List A) (width p t : ℕ) (d : A) → p < width → p < t → length row ≡ width → take (min t width - min p width) (drop (min p width) row) ≡ get_or row p d ∷ take (min t width - min (suc p) width) (drop (min (suc p) width) row)
one_more row width p t d lt before size =
    let here : min p width ≡ p = omega arith in
    let there : min (suc p) width ≡ p + 1 = omega arith in
    let count : min t width - p ≡ suc (min t width - (p + 1)) = omega arith in
    ap (λ (q : ℕ). take (min t width - q) (drop q row)) here
    ∙ ap (λ (q : ℕ). take q (drop p row)) count
    ∙ ap (λ (q : List _). take (suc (min t width - (p + 1))) q) (drop_more row p d (omega arith))
    ∙ ap (λ (q : ℕ). get_or row p d ∷ take (min t width - q) (drop q row)) (sym there)

pub columns_between : {A : Type 0} (level : A → ℕ) (d : A) (row : List A) (width : ℕ) (at : ℤ → Option A) (from to : ℤ) (n : ℕ) → IsRow row width at → to ≡ from +ℤ pos n → column_levels level at from n ≡ map level (between row width from to)
columns_between level d row width at from to zero known to-is =
    ap (λ (t : ℕ). map level (take t (drop (min (nonnegative from) width) row))) (nothing width from to to-is)
  where
    nothing : (width : ℕ) (from to : ℤ) → to ≡ from +ℤ pos 0 → 0 ≡ min (nonnegative to) width - min (nonnegative from) width
    nothing width from to is =
        let same : to ≡ from = omega (arith, ints) in
        let e : nonnegative to ≡ nonnegative from = ap nonnegative same in
        omega arith
columns_between level d row width at (negsuc m) to (suc n) known to-is =
    none_more level (at (negsuc m)) _ _ (known.left m)
    (columns_between level d row width at (negsuc m +ℤ pos 1) to n known (omega (arith, ints))
    ∙ ap (λ (t : ℕ). map level (take (min (nonnegative to) width - min t width) (drop (min t width) row))) (still m))
  where
    still : (m : ℕ) → nonnegative (negsuc m +ℤ pos 1) ≡ 0
    still zero = refl
    still (suc m) = ap nonnegative (let e : negsuc (suc m) +ℤ pos 1 ≡ negsuc m = omega (arith, ints) in e)
columns_between level d row width at (pos p) to (suc n) known to-is =
    let to-on : to ≡ pos (suc p + n) = omega (arith, ints) in
    let end : nonnegative to ≡ suc p + n = ap nonnegative to-on in
    let next : pos p +ℤ pos 1 ≡ pos (suc p) = omega (arith, ints) in
    let rest : column_levels level at (pos p +ℤ pos 1) n ≡ map level (between row width (pos (suc p)) to) =
    ap (λ (t : ℤ). column_levels level at t n) next ∙ columns_between level d row width at (pos (suc p)) to n known (omega (arith, ints)) in
    elim (cases_lt p width) [
      | inr past ↦
          none_more level (at (pos p)) _ _ (known.right p past)
          (rest ∙ ap (λ (t : ℕ). map level (take (min (nonnegative to) width - t) (drop t row))) (let both : min (suc p) width ≡ min p width = omega arith in both))
      | inl here ↦
          ap (λ (t : List _). map level t ++ column_levels level at (pos p +ℤ pos 1) n) (known.inside p d here)
          ∙ ap (λ (t : List ℕ). level (get_or row p d) ∷ t) rest
          ∙ sym (ap (map level) (one_more row width p (nonnegative to) d here (omega arith) known.size))
    ]

-- the row of a window
is_row : {A : Type 0} (w : View A) (row : ℕ) (samples : List A) → row < w.place.height → length w.cells ≡ w.place.height * w.place.width → length samples ≡ w.place.width
    → samples ≡ take (row * w.place.width + w.place.width - row * w.place.width) (drop (row * w.place.width) w.cells) → IsRow samples w.place.width (λ c. cell_at (raster w.place.width w.place.height w.cells) c (pos row))
is_row w row samples down cells_size size is = record {
  size = size;
  left = λ n. refl;
  right = λ n past. cell_at-right (raster w.place.width w.place.height w.cells) n row past;
  inside = λ n d lt.
      let width = w.place.width in
      let here : get_or samples n d ≡ get_or w.cells (row * width + n) d =
      ap (λ (t : List _). get_or t n d) is ∙ get_or-take (row * width + width - row * width) (drop (row * width) w.cells) n d (omega arith) ∙ get_or-drop (row * width) w.cells n d in
      ap option_to_list (cell_at-inside (raster width w.place.height w.cells) n row lt down ∙ slice_get-get_or w.cells (row * width + n) d (omega (arith, cells_size, mul-add-lt row width n w.place.height down lt)))
      ∙ ap (λ (t : _). t ∷ []) (sym here);
}

-- what a run shows is a part of the row
pub part_seen : {A : Type 0} (level : A → ℕ) (d : A) (w : View A) (run : Run) (x y row : ℕ) (from to : ℤ) (begin end wide : ℕ) (samples : List A) → wide ≡ w.place.width → row < w.place.height → length w.cells ≡ w.place.height * w.place.width → length samples ≡ w.place.width
    → samples ≡ take (row * w.place.width + w.place.width - row * w.place.width) (drop (row * w.place.width) w.cells) → pos x +ℤ run.dx -ℤ pos w.place.x ≡ from → pos y +ℤ run.dy -ℤ pos w.place.y ≡ pos row
    → to ≡ from +ℤ pos (suc (run.count - 1)) → begin ≡ min (nonnegative from) wide → end ≡ min (nonnegative to) wide → map level (take (end - begin) (drop begin samples)) ≡ levels_under level (seen_at w) (offsets_of_run run) x y
part_seen level d w run x y row from to begin end wide samples wide-is down cells_size size is from-is row-is to-is begin-is end-is =
    ap (λ (t : ℕ). map level (take (end - t) (drop t samples))) (begin-is ∙ ap (min (nonnegative from)) wide-is)
    ∙ ap (λ (t : ℕ). map level (take (t - min (nonnegative from) w.place.width) (drop (min (nonnegative from) w.place.width) samples))) (end-is ∙ ap (min (nonnegative to)) wide-is)
    ∙ sym (columns_between level d samples w.place.width (λ c. cell_at (raster w.place.width w.place.height w.cells) c (pos row)) from to (suc (run.count - 1)) (is_row w row samples down cells_size size is) to-is)
    ∙ sym (run_columns level w (start_offset run) (suc (run.count - 1)) x y row from from-is row-is)

-- a run in a row that the window lacks shows nothing
pub part_unseen : {A : Type 0} (level : A → ℕ) (w : View A) (b : Offset) (n x y : ℕ) → ((column : ℤ) → cell_at (raster w.place.width w.place.height w.cells) column (pos y +ℤ b.dy -ℤ pos w.place.y) ≡ None) → levels_under level (seen_at w) (offsets_from b n) x y ≡ []
part_unseen level w b zero x y none = refl
part_unseen level w b (suc n) x y none =
    levels-cons level (seen_at w) b (offsets_from (next_offset b) n) x y
    ∙ none_more level (seen_at w (pos x +ℤ b.dx) (pos y +ℤ b.dy)) _ [] (none (pos x +ℤ b.dx -ℤ pos w.place.x)) (part_unseen level w (next_offset b) n x y none)

taken_one : (runs : List Run) (j : ℕ) (r : Run) → j < length runs → get_or runs j r ≡ r → element_of (take (j + 1) runs) ≡ element_of (take j runs) ++ offsets_of_run r
taken_one runs j r lt is = ap element_of (take_more runs j r lt ∙ ap (λ (t : Run). take j runs ++ t ∷ []) is) ∙ element_snoc (take j runs) r

dropped_one : (runs : List Run) (j : ℕ) (r : Run) → j < length runs → get_or runs j r ≡ r → element_of (drop j runs) ≡ offsets_of_run r ++ element_of (drop (j + 1) runs)
dropped_one runs j r lt is = ap element_of (drop_more runs j r lt ∙ ap (λ (t : Run). t ∷ drop (j + 1) runs) is) ∙ flat_map-cons offsets_of_run r (drop (j + 1) runs)

-- a run more is counted
pub run_entered : {A : Type 0} (level : A → ℕ) (sight : Sight A) (runs : List Run) (j : ℕ) (r : Run) (x y top : ℕ) (h : Histogram) (part : List ℕ) → j < length runs → get_or runs j r ≡ r → part ≡ levels_under level sight (offsets_of_run r) x y
    → Tallies top h (part ++ levels_under level sight (element_of (take j runs)) x y) → Tallies top h (levels_under level sight (element_of (take (j + 1) runs)) x y)
run_entered level sight runs j r x y top h part lt is part-is t =
    let split : levels_under level sight (element_of (take (j + 1) runs)) x y ≡ levels_under level sight (element_of (take j runs)) x y ++ part =
    ap (λ (t : List Offset). levels_under level sight t x y) (taken_one runs j r lt is)
    ∙ levels-append level sight (element_of (take j runs)) (offsets_of_run r) x y
    ∙ ap (λ (t : List ℕ). levels_under level sight (element_of (take j runs)) x y ++ t) (sym part-is) in
    subst (λ (l : List ℕ). Tallies top h l) (sym split) (tallies_same top h _ _ (same_snoc (levels_under level sight (element_of (take j runs)) x y) part) t)

-- the next run that is to leave
pub run_left : {A : Type 0} (level : A → ℕ) (sight : Sight A) (runs : List Run) (j : ℕ) (r : Run) (x y top : ℕ) (h : Histogram) (part : List ℕ) → j < length runs → get_or runs j r ≡ r → part ≡ levels_under level sight (offsets_of_run r) x y
    → Tallies top h (levels_under level sight (element_of (drop j runs)) x y) → Tallies top h (part ++ levels_under level sight (element_of (drop (j + 1) runs)) x y)
run_left level sight runs j r x y top h part lt is part-is t =
    let split : levels_under level sight (element_of (drop j runs)) x y ≡ part ++ levels_under level sight (element_of (drop (j + 1) runs)) x y =
    ap (λ (t : List Offset). levels_under level sight t x y) (dropped_one runs j r lt is)
    ∙ levels-append level sight (offsets_of_run r) (element_of (drop (j + 1) runs)) x y
    ∙ ap (λ (t : List ℕ). t ++ levels_under level sight (element_of (drop (j + 1) runs)) x y) (sym part-is) in
    subst (λ (l : List ℕ). Tallies top h l) split t

-- there is room for one run more
pub room_for_run : {A : Type 0} (level : A → ℕ) (sight : Sight A) (runs : List Run) (j : ℕ) (r : Run) (x y : ℕ) (part : List A) → j < length runs → get_or runs j r ≡ r → map level part ≡ levels_under level sight (offsets_of_run r) x y
    → length (levels_under level sight (element_of (take j runs)) x y) + length part ≤ length (element_of runs)
room_for_run level sight runs j r x y part lt is part-is =
    omega (
      arith,
      length-levels level sight (element_of (take j runs)) x y,
      length-levels level sight (offsets_of_run r) x y,
      ap length part-is,
      length-map part level,
      element_size runs j r lt is,
      length-offsets (start_offset r) (suc (r.count - 1)),
    )

pub few_after : {A : Type 0} (level : A → ℕ) (sight : Sight A) (runs : List Run) (j : ℕ) (r : Run) (x y : ℕ) (part : List ℕ) → j < length runs → get_or runs j r ≡ r → part ≡ levels_under level sight (offsets_of_run r) x y
    → length (part ++ levels_under level sight (element_of (drop (j + 1) runs)) x y) ≤ length (element_of runs)
few_after level sight runs j r x y part lt is part-is =
    omega (
      arith,
      length-append part (levels_under level sight (element_of (drop (j + 1) runs)) x y),
      length-levels level sight (element_of (drop (j + 1) runs)) x y,
      length-levels level sight (offsets_of_run r) x y,
      ap length part-is,
      element_size runs j r lt is,
      length-offsets (start_offset r) (suc (r.count - 1)),
    )

-- one sample more of a part is counted
pub sample_entered : {A : Type 0} (level : A → ℕ) (samples : List A) (j top v : ℕ) (s : A) (h : Histogram) (ns : List ℕ) → j < length samples → s ≡ get_or samples j s → v ≡ level s → Tallies top h (v ∷ (map level (take j samples) ++ ns))
    → Tallies top h (map level (take (j + 1) samples) ++ ns)
sample_entered level samples j top v s h ns lt is v-is t =
    more_entered top h v (map level (take j samples)) _ ns
    (ap (map level) (take_more samples j s lt) ∙ map-append level (take j samples) (_ ∷ []) ∙ ap (λ (t : _). map level (take j samples) ++ level t ∷ []) (sym is) ∙ ap (λ (t : ℕ). map level (take j samples) ++ t ∷ []) (sym v-is)) t

-- the next sample of a part that is to leave
pub sample_left : {A : Type 0} (level : A → ℕ) (samples : List A) (j top v : ℕ) (s : A) (h : Histogram) (ns : List ℕ) → j < length samples → s ≡ get_or samples j s → v ≡ level s → Tallies top h (map level (drop j samples) ++ ns)
    → Tallies top h (v ∷ (map level (drop (j + 1) samples) ++ ns))
sample_left level samples j top v s h ns lt is v-is t =
    subst (λ (l : List ℕ). Tallies top h (l ++ ns))
    (ap (map level) (drop_more samples j s lt) ∙ ap (λ (t : _). level t ∷ map level (drop (j + 1) samples)) (sym is) ∙ ap (λ (t : ℕ). t ∷ map level (drop (j + 1) samples)) (sym v-is)) t

pub length-part : {A : Type 0} (level : A → ℕ) (samples : List A) (j : ℕ) (ns : List ℕ) → length (map level (take j samples) ++ ns) ≤ j + length ns
length-part level samples j ns = omega (arith, length-append (map level (take j samples)) ns, length-map (take j samples) level, length-take j samples)

pub length-left : {A : Type 0} (level : A → ℕ) (samples : List A) (j : ℕ) (ns : List ℕ) → j < length samples → suc (length (map level (drop (j + 1) samples) ++ ns)) ≤ length (map level samples ++ ns)
length-left level samples j ns lt =
    omega (arith, length-append (map level (drop (j + 1) samples)) ns, length-append (map level samples) ns, length-map (drop (j + 1) samples) level, length-map samples level, length-drop (j + 1) samples)

-- a later column is not clamped to an earlier place
pub clamp_rises : (from to : ℤ) (n wide : ℕ) → to ≡ from +ℤ pos n → min (nonnegative from) wide ≤ min (nonnegative to) wide
clamp_rises (negsuc m) to n wide is = omega arith
clamp_rises (pos p) to n wide is =
    let on : to ≡ pos (p + n) = omega (arith, ints) in
    let e : nonnegative to ≡ p + n = ap nonnegative on in
    omega arith
