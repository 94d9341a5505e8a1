-- Runs that are written over a plane.
use Rattle.std.proofs.Common.{◌≡◌, ℕ, ◌+◌, ◌-◌, ◌*◌, ◌<◌, ◌≤◌, Bool, true, false, List, length, drop, get_or, slice_range, refl, ap, sym, subst, arith, ◌∙◌, inl, inr, length-take, length-drop}
use Rattle.std.specs.Prelude.{◌⊎◌}
use mathlib.Core.Bool.{beq}
use Rattle.std.proofs.lemmas.Bool.{cases_lt, cases_eq, true≢false, false≢true}
use Rattle.std.proofs.lemmas.List.{get_or-take, get_or-drop}
use Rattle.mw_model.specs.Pictures.{Picture, sample}
use Rattle.mw_model.specs.Rasters.{Raster, raster}
use Rattle.mw_model.proofs.mw_facts.Parts.{length-put_mid, get_or-put_mid_below, get_or-put_mid_within, get_or-put_mid_above}
use Rattle.mw_pixel.specs.Images.{set_of}
use Rattle.mw_pixel.specs.mw_pixel_words.Runs.{put_at}
use Rattle.mw_pixel.proofs.mw_pixel_words.Bits.{rows_fit}
use Rattle.mw_geodesic_runs.specs.declared.runs.Run.{Run}
use Rattle.mw_geodesic_runs.specs.Runs.{run_numbered, HasPlace}
use Rattle.mw_geodesic_kept.specs.Keeping.{mark_of, RunsWritten}

-- ---- a part of a list that is written over another

part_at : (xs : List ℕ) (b m i : ℕ) → i < m → get_or (slice_range xs b (b + m)) i 0 ≡ get_or xs (b + i) 0
part_at xs b m i lt = get_or-take (b + m - b) (drop b xs) i 0 (omega arith) ∙ get_or-drop b xs i 0

length_part : (xs : List ℕ) (b m : ℕ) → b + m ≤ length xs → length (slice_range xs b (b + m)) ≡ m
length_part xs b m fits = omega (arith, length-take (b + m - b) (drop b xs), length-drop b xs)

put_inside : (xs ys : List ℕ) (a b m k : ℕ) → a + m ≤ length ys → b + m ≤ length xs → a ≤ k → k < a + m → get_or (put_at a (slice_range xs b (b + m)) ys) k 0 ≡ get_or xs (b + (k - a)) 0
put_inside xs ys a b m k room fits from to =
    let row = slice_range xs b (b + m) in
    let size : length row ≡ m = length_part xs b m fits in
    get_or-put_mid_within a (length row) ys row k 0 (omega arith) from (omega arith) ∙ part_at xs b m (k - a) (omega arith)

put_outside : (xs ys : List ℕ) (a b m k : ℕ) → a + m ≤ length ys → b + m ≤ length xs → (k < a) ⊎ (a + m ≤ k) → get_or (put_at a (slice_range xs b (b + m)) ys) k 0 ≡ get_or ys k 0
put_outside xs ys a b m k room fits (inl below) =
    let row = slice_range xs b (b + m) in
    get_or-put_mid_below a (length row) ys row k 0 (omega arith) below
put_outside xs ys a b m k room fits (inr above) =
    let row = slice_range xs b (b + m) in
    let size : length row ≡ m = length_part xs b m fits in
    get_or-put_mid_above a (length row) ys row k 0 (omega arith) refl (omega arith)

-- ---- places of a run

pub holds_or_not : (r : Run) (x y : ℕ) → HasPlace r x y ⊎ (HasPlace r x y → ⊥)
holds_or_not r x y = elim (cases_eq y r.row) [
  | inr ne ↦ inr (λ h. ne h.row)
  | inl same ↦ elim (cases_lt x r.first) [
    | inl left ↦ inr (λ h. let from = h.from in absurd (omega arith))
    | inr from ↦ elim (cases_lt x r.end) [
      | inl to ↦ inl (record { row = same; from = from; to = to })
      | inr past ↦ inr (λ h. let to = h.to in absurd (omega arith))
    ]
  ]
]

run_room : (w h : ℕ) (r : Run) → r.first < r.end → r.end ≤ w → r.row < h → r.row * w + r.first + (r.end - r.first) ≤ h * w
run_room w h r some across down = omega (arith, rows_fit r.row h w down)

-- a place beside a run stands before it or behind it
beside : (w : ℕ) (r : Run) (x y : ℕ) → x < w → r.first < r.end → r.end ≤ w → (HasPlace r x y → ⊥) → (y * w + x < r.row * w + r.first) ⊎ (r.row * w + r.first + (r.end - r.first) ≤ y * w + x)
beside w r x y lt some across out = elim (cases_lt y r.row) [
  | inl above ↦ inl (omega (arith, rows_fit y r.row w above))
  | inr ge ↦ elim (cases_lt r.row y) [
    | inl below ↦ inr (omega (arith, rows_fit r.row y w below))
    | inr le ↦
        let same : y ≡ r.row = omega arith in
        let rows : y * w ≡ r.row * w = ap (λ (t : ℕ). t * w) same in
        elim (cases_lt x r.first) [
          | inl left ↦ inl (omega arith)
          | inr from ↦ elim (cases_lt x r.end) [
            | inl to ↦ absurd (out (record { row = same; from = from; to = to }))
            | inr past ↦ inr (omega arith)
          ]
        ]
  ]
]

-- ---- a run that is written

-- the new plane has the run of the set, and elsewhere what the old one has
pub record RunPut (set old new : Raster ℕ) (r : Run) : Type 0 where
  pub width : new.width ≡ old.width
  pub height : new.height ≡ old.height
  pub size : length new.cells ≡ length old.cells
  pub inside : (x y : ℕ) → HasPlace r x y → sample (set_of new) x y ≡ sample (set_of set) x y
  pub outside : (x y : ℕ) → x < old.width → (HasPlace r x y → ⊥) → sample (set_of new) x y ≡ sample (set_of old) x y

pub run_put : (set old new : Raster ℕ) (r : Run)
    → new ≡ raster old.width old.height (put_at (r.row * old.width + r.first) (slice_range set.cells (r.row * set.width + r.first) (r.row * set.width + r.first + (r.end - r.first))) old.cells)
    → set.width ≡ old.width → set.height ≡ old.height → length set.cells ≡ set.height * set.width → length old.cells ≡ old.height * old.width → r.first < r.end → r.end ≤ old.width → r.row < old.height → RunPut set old new r
run_put set old new r is wide tall set_size size some across down =
    let a = r.row * old.width + r.first in
    let b = r.row * set.width + r.first in
    let m = r.end - r.first in
    let row = slice_range set.cells b (b + m) in
    let cells : new.cells ≡ put_at a row old.cells = ap (λ (t : Raster ℕ). t.cells) is in
    let same_width : new.width ≡ old.width = ap (λ (t : Raster ℕ). t.width) is in
    let room : a + m ≤ length old.cells = omega (arith, run_room old.width old.height r some across down) in
    let fits : b + m ≤ length set.cells = omega (arith, run_room set.width set.height r some (omega arith) (omega arith)) in
    record {
      width = same_width;
      height = ap (λ (t : Raster ℕ). t.height) is;
      size = ap length cells ∙ length-put_mid a (length row) old.cells row refl (omega (arith, length_part set.cells b m fits));
      inside = λ x y h.
          let from = h.from in
          let to = h.to in
          let rows : y * old.width ≡ r.row * old.width = ap (λ (t : ℕ). t * old.width) h.row in
          let set_rows : y * set.width ≡ r.row * set.width = ap (λ (t : ℕ). t * set.width) h.row in
          let same : b + (y * old.width + x - a) ≡ y * set.width + x = omega arith in
          ap (λ (t : ℕ). get_or new.cells (y * t + x) 0) same_width
          ∙ ap (λ (t : List ℕ). get_or t (y * old.width + x) 0) cells
          ∙ put_inside set.cells old.cells a b m (y * old.width + x) room fits (omega arith) (omega arith)
          ∙ ap (λ (t : ℕ). get_or set.cells t 0) same;
      outside = λ x y lt out.
          ap (λ (t : ℕ). get_or new.cells (y * t + x) 0) same_width
          ∙ ap (λ (t : List ℕ). get_or t (y * old.width + x) 0) cells
          ∙ put_outside set.cells old.cells a b m (y * old.width + x) room fits (beside old.width r x y lt some across out);
    }

-- the same, where the ends of the run were read
pub run_put_by : (set old new : Raster ℕ) (r : Run) (first stop : ℕ) → first ≡ r.first → stop ≡ r.end
    → new ≡ raster old.width old.height (put_at (r.row * old.width + first) (slice_range set.cells (r.row * set.width + first) (r.row * set.width + first + (stop - first))) old.cells)
    → set.width ≡ old.width → set.height ≡ old.height → length set.cells ≡ set.height * set.width → length old.cells ≡ old.height * old.width → r.first < r.end → r.end ≤ old.width → r.row < old.height → RunPut set old new r
run_put_by set old new r first stop first_is stop_is is =
    run_put set old new r
    (is
    ∙ ap (λ (t : ℕ). raster old.width old.height (put_at (r.row * old.width + t) (slice_range set.cells (r.row * set.width + t) (r.row * set.width + t + (stop - t))) old.cells)) first_is
    ∙ ap (λ (t : ℕ). raster old.width old.height (put_at (r.row * old.width + r.first) (slice_range set.cells (r.row * set.width + r.first) (r.row * set.width + r.first + (t - r.first))) old.cells)) stop_is)

-- ---- runs that are written one after another

pub same_mark : (a b : Bool) → beq a b ≡ true → a ≡ b
same_mark true true e = refl
same_mark true false e = absurd (false≢true e)
same_mark false true e = absurd (false≢true e)
same_mark false false e = refl

pub other_mark : (a b : Bool) → beq a b ≡ false → a ≡ b → ⊥
other_mark true true e same = absurd (true≢false e)
other_mark true false e same = true≢false same
other_mark false true e same = false≢true same
other_mark false false e same = absurd (true≢false e)

pub written_none : (set old : Picture) (runs : List Run) (numbers : List ℕ) (marks : List Bool) (wanted : Bool) → length old.samples ≡ old.height * old.width → RunsWritten set runs numbers marks wanted 0 old old
written_none set old runs numbers marks wanted size = record {
  shape = record { kind = refl; width = refl; height = refl; maxval = refl };
  size = size;
  inside = λ i x y lt mark h. absurd (omega arith);
  outside = λ x y place none. refl;
}

product : (a b c d : ℕ) → a ≡ c → b ≡ d → a * b ≡ c * d
product a b c d p q = cc

pub written_on : (set old now new : Raster ℕ) (runs : List Run) (numbers : List ℕ) (marks : List Bool) (wanted : Bool) (n : ℕ) → ((i : ℕ) → i < n + 1 → (run_numbered runs i).end ≤ old.width) → mark_of marks (get_or numbers n 0) ≡ wanted
    → RunPut set now new (run_numbered runs n) → RunsWritten (set_of set) runs numbers marks wanted n (set_of old) (set_of now) → RunsWritten (set_of set) runs numbers marks wanted (n + 1) (set_of old) (set_of new)
written_on set old now new runs numbers marks wanted n across marked put was =
    let wide = was.shape.width in
    record {
      shape = record { kind = refl; width = put.width ∙ was.shape.width; height = put.height ∙ was.shape.height; maxval = refl };
      size = put.size ∙ was.size ∙ sym (product new.height new.width now.height now.width put.height put.width);
      inside = λ i x y lt mark h. elim (holds_or_not (run_numbered runs n) x y) [
        | inl here ↦ put.inside x y here
        | inr out ↦ elim (cases_lt i n) [
          | inl before ↦
              let to = h.to in
              let within = across i lt in
              put.outside x y (omega arith) out ∙ was.inside i x y before mark h
          | inr from ↦
              let same : i ≡ n = omega arith in
              absurd (out (subst (λ (t : ℕ). HasPlace (run_numbered runs t) x y) same h))
        ]
      ];
      outside = λ x y place none.
          put.outside x y (omega (arith, place.column)) (λ h. none n (omega arith) marked h) ∙ was.outside x y place (λ i lt mark h. none i (omega arith) mark h);
    }

-- the same of the run as it was read
pub written_next : (set old now new : Raster ℕ) (runs : List Run) (numbers : List ℕ) (marks : List Bool) (wanted : Bool) (n m : ℕ) (r : Run) → m ≡ n + 1 → run_numbered runs n ≡ r → ((i : ℕ) → i < n + 1 → (run_numbered runs i).end ≤ old.width)
    → mark_of marks (get_or numbers n 0) ≡ wanted → RunPut set now new r → RunsWritten (set_of set) runs numbers marks wanted n (set_of old) (set_of now) → RunsWritten (set_of set) runs numbers marks wanted m (set_of old) (set_of new)
written_next set old now new runs numbers marks wanted n m r next read across marked put was =
    subst (λ (t : ℕ). RunsWritten (set_of set) runs numbers marks wanted t (set_of old) (set_of new)) (sym next)
    (written_on set old now new runs numbers marks wanted n across marked (subst (λ (t : Run). RunPut set now new t) (sym read) put) was)

pub written_past : (set old now : Picture) (runs : List Run) (numbers : List ℕ) (marks : List Bool) (wanted : Bool) (n : ℕ) → (mark_of marks (get_or numbers n 0) ≡ wanted → ⊥)
    → RunsWritten set runs numbers marks wanted n old now → RunsWritten set runs numbers marks wanted (n + 1) old now
written_past set old now runs numbers marks wanted n other was = record {
  shape = was.shape;
  size = was.size;
  inside = λ i x y lt mark h. elim (cases_lt i n) [
    | inl before ↦ was.inside i x y before mark h
    | inr from ↦
        let same : i ≡ n = omega arith in
        absurd (other (subst (λ (t : ℕ). mark_of marks (get_or numbers t 0) ≡ wanted) same mark))
  ];
  outside = λ x y place none. was.outside x y place (λ i lt mark h. none i (omega arith) mark h);
}
