-- Runs that are cut, row by row.
use Rattle.std.proofs.Common.{◌≡◌, ℕ, zero, suc, ◌+◌, ◌-◌, ◌*◌, ◌<◌, ◌≤◌, ◌⊎◌, min, List, [], ◌∷◌, ◌++◌, length, refl, ap, sym, subst, arith, ◌∙◌, inl, inr}
use Rattle.std.proofs.lemmas.Bool.{cases_lt}
use Rattle.std.proofs.lemmas.List.{get_or_push, get_or_append_left, length_push}
use Rattle.mw_model.specs.Pictures.{Picture, sample, IsSet}
use Rattle.mw_model.proofs.ImagePlaces.{sample_bounded}
use Rattle.mw_pixel.specs.mw_pixel_words.Packed.{bit_of}
use Rattle.mw_geodesic_runs.specs.declared.runs.Run.{Run}
use Rattle.mw_geodesic_runs.specs.Runs.{no_run, run_numbered, HasPlace, IsRunOfSet, Precedes, InSomeRun, EndsBefore, tally, left_of, begin_at, begun, RunsBefore}
use Rattle.mw_geodesic_runs.specs.Changes.{IsNextChange}
use Rattle.mw_geodesic_runs.proofs.ChangedPlaces.{stretch}
use Rattle.mw_geodesic_runs.proofs.Tallies.{tally_none, tally_more, tally_one, next_tally, left_is, left_none, left_after, left_same, tally_same}

-- the words hold row y
pub record HoldRow (f : Picture) (y : ℕ) (words : List ℕ) : Type 0 where
  pub samples : (x : ℕ) → x < f.width → bit_of words x ≡ sample f x y
  pub clean : (x : ℕ) → f.width ≤ x → bit_of words x ≡ 0
  pub size : f.width ≤ 64 * length words

-- a column at which a run begins, or the end of the row; before it as many begin as n is more than m
pub record InRow (f : Picture) (words : List ℕ) (x y m n : ℕ) : Type 0 where
  pub begins : x < 64 * length words → bit_of words x ≡ 1
  pub left : x < 64 * length words → left_of (bit_of words) x ≡ 0
  pub within : x ≤ 64 * length words
  pub count : n ≡ m + begun f y (min x f.width)

pub runs_none : (f : Picture) → RunsBefore f 0 0 []
runs_none f = record {
  each = λ i lt. absurd (omega arith);
  order = record { each = λ i j less lt. absurd (omega arith) };
  ends = λ i lt. absurd (omega arith);
  all = λ u v lt before one. elim before [ inl above ↦ absurd (omega arith) | inr same ↦ absurd (omega (arith, same.1)) ];
  few = omega arith;
  count =
      let none : min 0 f.width ≡ 0 = omega arith in
      let is = ap (begun f 0) none in
      omega arith;
}

begun_skipped : (f : Picture) (words : List ℕ) (x x' y : ℕ) → HoldRow f y words → x ≤ x' → ((u : ℕ) → x ≤ u → u < x' → bit_of words u ≡ 0) → begun f y (min x' f.width) ≡ begun f y (min x f.width)
begun_skipped f words x x' y row le none =
    tally_none (begin_at (λ u. sample f u y)) (min x f.width) (min x' f.width) (omega arith)
    (λ i from to.
    let bit = row.samples i (omega arith) in
    let zero = none i (omega arith) (omega arith) in
    omega arith)

begun_pushed : (f : Picture) (x end y : ℕ) → x < f.width → x < end → end ≤ f.width → ((u : ℕ) → x ≤ u → u < end → sample f u y ≡ 1) → left_of (λ u. sample f u y) x ≡ 0 → begun f y (min end f.width) ≡ begun f y (min x f.width) + 1
begun_pushed f x end y inside some within ones left =
    let before : min x f.width ≡ x = omega arith in
    let after : min end f.width ≡ end = omega arith in
    let old = ap (begun f y) before in
    let new = ap (begun f y) after in
    let one = ones x (omega arith) some in
    let more = tally_one (begin_at (λ u. sample f u y)) x end some (omega arith)
    (λ i from to.
    let here = ones i (omega arith) to in
    let there = ones (i - 1) (omega arith) (omega arith) in
    let is = left_is (λ u. sample f u y) i (i - 1) (omega arith) in
    omega arith) in
    omega arith

-- columns without pixels are passed
skipped : (f : Picture) (words : List ℕ) (x x' y : ℕ) (runs : List Run) → HoldRow f y words → x ≤ x' → ((u : ℕ) → x ≤ u → u < x' → bit_of words u ≡ 0) → RunsBefore f x y runs → RunsBefore f x' y runs
skipped f words x x' y runs row le none was = record {
  each = was.each;
  order = was.order;
  ends = λ i lt. elim (was.ends i lt) [
    | inl above ↦ inl above
    | inr same ↦ let end = same.1 in inr (same.0, omega arith)
  ];
  all = λ u v lt before one. elim before [
    | inl above ↦ was.all u v lt (inl above) one
    | inr same ↦ elim (cases_lt u x) [
      | inl less ↦ was.all u v lt (inr (same.0, less)) one
      | inr from ↦
          let here : sample f u y ≡ 1 = ap (λ (t : ℕ). sample f u t) (sym same.0) ∙ one in
          let bit = row.samples u lt in
          let zero = none u from same.1 in
          absurd (omega arith)
    ]
  ];
  few = let few = was.few in omega arith;
  count = let same = begun_skipped f words x x' y row le none in let count = was.count in omega arith;
}

pub row_begins : (f : Picture) (words : List ℕ) (x y m : ℕ) → HoldRow f y words → x ≤ 64 * length words → ((u : ℕ) → 0 ≤ u → u < x → bit_of words u ≡ 0) → (x < 64 * length words → bit_of words x ≡ 1) → InRow f words x y m m
row_begins f words x y m row within none begins = record {
  begins = begins;
  left = λ lt. left_none (bit_of words) x (λ u less. none u (omega arith) less);
  within = within;
  count =
      let same = begun_skipped f words 0 x y row (omega arith) none in
      let zero : min 0 f.width ≡ 0 = omega arith in
      let is = ap (begun f y) zero in
      omega arith;
}

pub cutting_begins : (f : Picture) (words : List ℕ) (x y : ℕ) (runs : List Run) → HoldRow f y words → ((u : ℕ) → 0 ≤ u → u < x → bit_of words u ≡ 0) → RunsBefore f 0 y runs → RunsBefore f x y runs
cutting_begins f words x y runs row none was = skipped f words 0 x y runs row (omega arith) none was

-- where the next run ends
pub record NextRun (f : Picture) (words : List ℕ) (x end : ℕ) : Type 0 where
  pub first : x < f.width
  pub some : x < end
  pub within : end ≤ f.width

pub next_run : (f : Picture) (words : List ℕ) (x end y : ℕ) → HoldRow f y words → bit_of words x ≡ 1 → x < 64 * length words → x ≤ end → end ≤ 64 * length words → ((u : ℕ) → x ≤ u → u < end → bit_of words u ≡ 1)
    → (end < 64 * length words → bit_of words end ≡ 0) → NextRun f words x end
next_run f words x end y row begins inside from within ones stops =
    record {
      first = elim (cases_lt x f.width) [
        | inl less ↦ less
        | inr past ↦ let none = row.clean x past in absurd (omega arith)
      ];
      some = elim (cases_lt x end) [
        | inl less ↦ less
        | inr le ↦
            let same : end ≡ x = omega arith in
            let none = stops (omega arith) in
            let zero : bit_of words x ≡ 0 = ap (bit_of words) (sym same) ∙ none in
            absurd (omega arith)
      ];
      within = elim (cases_lt f.width end) [
        | inr le ↦ le
        | inl past ↦
            let none = row.clean f.width (omega arith) in
            elim (cases_lt f.width x) [
              | inl far ↦ let zero = row.clean x (omega arith) in absurd (omega arith)
              | inr le ↦ let one = ones f.width le past in absurd (omega arith)
            ]
      ];
    }

pub run_before : (runs : List Run) (r : Run) (i : ℕ) → i < length runs → run_numbered (runs ++ r ∷ []) i ≡ run_numbered runs i
run_before runs r i lt = get_or_append_left runs (r ∷ []) no_run i lt

pub run_last : (runs : List Run) (r : Run) (i : ℕ) → i ≡ length runs → run_numbered (runs ++ r ∷ []) i ≡ r
run_last runs r i is = get_or_push runs r no_run i (sym is)

row_left : (f : Picture) (words : List ℕ) (x y : ℕ) → HoldRow f y words → x < f.width → left_of (bit_of words) x ≡ 0 → left_of (λ u. sample f u y) x ≡ 0
row_left f words x y row lt none = left_same (λ u. sample f u y) (bit_of words) x (λ u less. sym (row.samples u (omega arith))) ∙ none

-- how many runs begin in the words of a row
pub row_begun : (f : Picture) (words : List ℕ) (y : ℕ) → HoldRow f y words → tally (begin_at (bit_of words)) (64 * length words) ≡ begun f y f.width
row_begun f words y row =
    tally_none (begin_at (bit_of words)) f.width (64 * length words) row.size (λ i from to. let none = row.clean i from in omega arith)
    ∙ tally_same (begin_at (bit_of words)) (begin_at (λ u. sample f u y)) f.width (λ i lt.
    let here = row.samples i lt in
    let left = left_same (λ u. sample f u y) (bit_of words) i (λ u less. sym (row.samples u (omega arith))) in
    omega arith)

-- the run that ends last comes before the next
precedes : (f : Picture) (r : Run) (x y : ℕ) → IsRunOfSet f r → EndsBefore r x y → x < f.width → sample f x y ≡ 1 → (r.row < y) ⊎ ((r.row ≡ y) × (r.end < x))
precedes f r x y run (inl above) inside one = inl above
precedes f r x y run (inr same) inside one = elim (cases_lt r.end x) [
  | inl less ↦ inr (same.0, less)
  | inr le ↦
      let end = same.1 in
      let met : r.end ≡ x = omega arith in
      let none : sample f r.end r.row ≡ 0 = run.stops (omega arith) in
      let here : sample f x y ≡ 0 = ap (λ (t : ℕ). sample f t y) (sym met) ∙ ap (λ (t : ℕ). sample f r.end t) (sym same.0) ∙ none in
      absurd (omega arith)
]

pushed : (f : Picture) (x end y : ℕ) (runs : List Run) (r : Run) → r.row ≡ y → r.first ≡ x → r.end ≡ end → x < f.width → x < end → end ≤ f.width → IsRunOfSet f r → sample f x y ≡ 1
    → left_of (λ u. sample f u y) x ≡ 0 → RunsBefore f x y runs → RunsBefore f end y (runs ++ r ∷ [])
pushed f x end y runs r row first last inside some within run one left was =
    let size = length_push runs r in
    let ones : (u : ℕ) → x ≤ u → u < end → sample f u y ≡ 1 = λ u from to. ap (λ (t : ℕ). sample f u t) (sym row) ∙ run.inside u (omega arith) (omega arith) in
    record {
      each = λ i lt. elim (cases_lt i (length runs)) [
        | inl less ↦ subst (λ (t : Run). IsRunOfSet f t) (sym (run_before runs r i less)) (was.each i less)
        | inr from ↦ subst (λ (t : Run). IsRunOfSet f t) (sym (run_last runs r i (omega arith))) run
      ];
      order = record {
        each = λ i j less lt. elim (cases_lt j (length runs)) [
          | inl inner ↦
              subst (λ (t : Run). Precedes t (run_numbered (runs ++ r ∷ []) j)) (sym (run_before runs r i (omega arith)))
              (subst (λ (t : Run). Precedes (run_numbered runs i) t) (sym (run_before runs r j inner)) (was.order.each i j less inner))
          | inr from ↦
              let old : i < length runs = omega arith in
              let apart = precedes f (run_numbered runs i) x y (was.each i old) (was.ends i old) inside one in
              let here : Precedes (run_numbered runs i) r = elim apart [
                | inl above ↦ inl (omega arith)
                | inr same ↦ let at = same.0 in let gap = same.1 in inr (omega arith, omega arith)
              ] in
              subst (λ (t : Run). Precedes t (run_numbered (runs ++ r ∷ []) j)) (sym (run_before runs r i old)) (subst (λ (t : Run). Precedes (run_numbered runs i) t) (sym (run_last runs r j (omega arith))) here)
        ];
      };
      ends = λ i lt. elim (cases_lt i (length runs)) [
        | inl less ↦
            let was_end : EndsBefore (run_numbered runs i) end y = elim (was.ends i less) [
              | inl above ↦ inl above
              | inr same ↦ let le = same.1 in inr (same.0, omega arith)
            ] in
            subst (λ (t : Run). EndsBefore t end y) (sym (run_before runs r i less)) was_end
        | inr from ↦
            let here : EndsBefore r end y = inr (row, omega arith) in
            subst (λ (t : Run). EndsBefore t end y) (sym (run_last runs r i (omega arith))) here
      ];
      all = λ u v lt before shown. elim before [
        | inl above ↦ kept u v (was.all u v lt (inl above) shown)
        | inr same ↦ elim (cases_lt u x) [
          | inl less ↦ kept u v (was.all u v lt (inr (same.0, less)) shown)
          | inr from ↦
              let to = same.1 in
              let at = same.0 in
              let here : HasPlace r u v = record { row = at ∙ sym row; from = omega arith; to = omega arith } in
              record { at = length runs; within = omega arith; holds = subst (λ (t : Run). HasPlace t u v) (sym (run_last runs r (length runs) refl)) here }
        ]
      ];
      few = let few = was.few in omega arith;
      count = let more = begun_pushed f x end y inside some within ones left in let count = was.count in omega arith;
    }
  where
    kept : (u v : ℕ) → InSomeRun runs u v → InSomeRun (runs ++ r ∷ []) u v
    kept u v held =
        let lt = held.within in
        record { at = held.at; within = omega (arith, length_push runs r); holds = subst (λ (t : Run). HasPlace t u v) (sym (run_before runs r held.at lt)) held.holds }

-- what comes of two changes, the end of a run and the begin of the next one
record Passes (f : Picture) (words : List ℕ) (x end next y : ℕ) : Type 0 where
  run : NextRun f words x end
  inside : (u : ℕ) → x ≤ u → u < end → bit_of words u ≡ 1
  stops : end < 64 * length words → bit_of words end ≡ 0
  zeros : (u : ℕ) → end ≤ u → u < next → bit_of words u ≡ 0
  begins : next < 64 * length words → bit_of words next ≡ 1
  from : end ≤ next
  within : next ≤ 64 * length words
  one : sample f x y ≡ 1
  left : left_of (λ u. sample f u y) x ≡ 0
  ones : (u : ℕ) → x ≤ u → u < end → sample f u y ≡ 1

passes : (f : Picture) (words : List ℕ) (x end next y m n : ℕ) → HoldRow f y words → InRow f words x y m n → x < 64 * length words → IsNextChange words x end → IsNextChange words end next → Passes f words x end next y
passes f words x end next y m n row was inside ends begins =
    let is_one = was.begins inside in
    let ones = stretch words x end 1 is_one ends in
    let zeros = λ (lt : end < 64 * length words). stretch words end next 0 (ones.other lt) begins in
    let most = begins.within in
    let from = begins.from in
    let run = next_run f words x end y row is_one inside ends.from ends.within ones.same ones.other in
    let first = run.first in
    let run_within = run.within in
    record {
      run = run;
      inside = ones.same;
      stops = ones.other;
      zeros = λ u low less. (zeros (omega arith)).same u low less;
      begins = λ lt. (zeros (omega arith)).other lt;
      from = from;
      within = most;
      one = sym (row.samples x first) ∙ is_one;
      left = row_left f words x y row first (was.left inside);
      ones = λ u low less. sym (row.samples u (omega arith)) ∙ ones.same u low less;
    }

pub row_on : (f : Picture) (words : List ℕ) (x end next y m n : ℕ) → HoldRow f y words → InRow f words x y m n → x < 64 * length words → IsNextChange words x end → IsNextChange words end next → InRow f words next y m (n + 1)
row_on f words x end next y m n row was inside ends begins =
    let p = passes f words x end next y m n row was inside ends begins in
    let same = begun_skipped f words end next y row p.from p.zeros in
    let more = begun_pushed f x end y p.run.first p.run.some p.run.within p.ones p.left in
    let count = was.count in
    record {
      begins = p.begins;
      left = λ lt. left_after (bit_of words) end next (after p lt) p.zeros;
      within = p.within;
      count = omega arith;
    }
  where
    after : Passes f words x end next y → next < 64 * length words → end < next
    after p lt =
        let from = p.from in
        elim (cases_lt end next) [
          | inl less ↦ less
          | inr back ↦
              let same : next ≡ end = omega arith in
              let one = p.begins lt in
              let none = p.stops (omega arith) in
              let here : bit_of words next ≡ 0 = ap (bit_of words) same ∙ none in
              absurd (omega arith)
        ]

-- the next run by the two changes that come next
pub cutting_by : (f : Picture) (words : List ℕ) (x end next y m n : ℕ) (runs : List Run) (r : Run) → HoldRow f y words → r.row ≡ y → r.first ≡ x → r.end ≡ end → InRow f words x y m n → x < 64 * length words
    → IsNextChange words x end → IsNextChange words end next → RunsBefore f x y runs → RunsBefore f next y (runs ++ r ∷ [])
cutting_by f words x end next y m n runs r row at first last was inside ends begins before =
    let p = passes f words x end next y m n row was inside ends begins in
    let is_first = p.run.first in
    let is_some = p.run.some in
    let is_within = p.run.within in
    let size = row.size in
    let run : IsRunOfSet f r = record {
      some = omega arith;
      within = omega arith;
      inside = λ u low high. ap (λ (t : ℕ). sample f u t) at ∙ p.ones u (omega arith) (omega arith);
      stops = λ lt. ap (λ (t : ℕ). sample f t r.row) last ∙ ap (λ (t : ℕ). sample f end t) at ∙ sym (row.samples end (omega arith)) ∙ p.stops (omega arith);
    } in
    skipped f words end next y (runs ++ r ∷ []) row p.from p.zeros (pushed f x end y runs r at first last is_first is_some is_within run p.one p.left before)

pub end_in_row : (f : Picture) (words : List ℕ) (x end y m n : ℕ) → HoldRow f y words → InRow f words x y m n → x < 64 * length words → IsNextChange words x end → end ≤ f.width
end_in_row f words x end y m n row was inside ends =
    let ones = stretch words x end 1 (was.begins inside) ends in
    (next_run f words x end y row (was.begins inside) inside ends.from ends.within ones.same ones.other).within

-- there is room for the run that begins
pub room_left : (f : Picture) (words : List ℕ) (x y m n : ℕ) → HoldRow f y words → x < 64 * length words → InRow f words x y m n → n < m + begun f y f.width
room_left f words x y m n row inside was =
    let begins = was.begins inside in
    let first : x < f.width = elim (cases_lt x f.width) [
      | inl less ↦ less
      | inr past ↦ let none = row.clean x past in absurd (omega arith)
    ] in
    let here = row.samples x first in
    let left = row_left f words x y row first (was.left inside) in
    let at : min x f.width ≡ x = omega arith in
    let count = was.count in
    let is = ap (begun f y) at in
    let next = next_tally (begin_at (λ u. sample f u y)) x in
    let whole = tally_more (begin_at (λ u. sample f u y)) (x + 1) f.width (omega arith) in
    omega arith

-- no more runs begin than there are columns
pub begun_most : (f : Picture) (y x : ℕ) → IsSet f → y < f.height → x ≤ f.width → begun f y x ≤ x
begun_most f y zero is_set high le = omega arith
begun_most f y (suc x) is_set high le =
    let rest = begun_most f y x is_set high (omega arith) in
    let top = sample_bounded f is_set.picture x y (omega arith) high in
    let most = is_set.maxval in
    omega arith

-- a row is done
pub row_done : (f : Picture) (x y : ℕ) (runs : List Run) → f.width ≤ x → RunsBefore f x y runs → RunsBefore f 0 (y + 1) runs
row_done f x y runs past was = record {
  each = was.each;
  order = was.order;
  ends = λ i lt. elim (was.ends i lt) [
    | inl above ↦ inl (omega arith)
    | inr same ↦ let at = same.0 in inl (omega arith)
  ];
  all = λ u v lt before one. elim before [
    | inr same ↦ absurd (omega (arith, same.1))
    | inl above ↦ elim (cases_lt v y) [
      | inl less ↦ was.all u v lt (inl less) one
      | inr from ↦ was.all u v lt (inr (omega arith, omega arith)) one
    ]
  ];
  few = let few = was.few in omega arith;
  count =
      let all : min x f.width ≡ f.width = omega arith in
      let none : min 0 f.width ≡ 0 = omega arith in
      let old = ap (begun f y) all in
      let new = ap (begun f (y + 1)) none in
      let next = next_tally (λ v. begun f v f.width) y in
      let count = was.count in
      omega arith;
}
