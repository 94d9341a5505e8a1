-- Numbers that are written over runs: what stands at each place, and how often.
use Rattle.std.proofs.Common.{◌≡◌, ◌≢◌, ℕ, zero, suc, ◌+◌, ◌-◌, ◌*◌, ◌<◌, ◌≤◌, ◌⊎◌, List, length, get_or, set, replicate, refl, ap, sym, subst, arith, ◌∙◌, inl, inr}
use Rattle.std.proofs.lemmas.Bool.{cases_lt, cases_eq}
use Rattle.std.proofs.lemmas.Nat.{same_from_place}
use Rattle.std.proofs.Math.Nat.{mul-le-mul_left}
use Rattle.std.proofs.lemmas.List.{get_or-set_same, get_or-set_other, length-set, length-replicate, get_or-replicate, get_or_past}
use Rattle.mw_model.specs.Pictures.{Picture, sample}
use Rattle.mw_geodesic_runs.specs.declared.runs.Run.{Run}
use Rattle.mw_geodesic_runs.specs.Runs.{run_numbered, HasPlace, Precedes, RunsBefore}
use Rattle.mw_geodesic_labels.specs.Painting.{painted, painted_runs, begin_of, stop_of, RunsFit}
use Rattle.mw_geodesic_runs.proofs.Joinings.{IsFrameRun, frame_run}
use Rattle.mw_geodesic_labels.proofs.Labellings.{ShowsNumbers}

-- ---- one run

pub painted_more : (start n m v : ℕ) (xs : List ℕ) → m ≡ n + 1 → painted start m v xs ≡ set (painted start n v xs) (start + n) v
painted_more start n m v xs is = ap (λ (t : ℕ). painted start t v xs) (is ∙ one n)
  where
    one : (n : ℕ) → n + 1 ≡ suc n
    one n = omega arith

pub length-painted : (start n v : ℕ) (xs : List ℕ) → length (painted start n v xs) ≡ length xs
length-painted start zero v xs = refl
length-painted start (suc n) v xs = length-set (painted start n v xs) (start + n) v ∙ length-painted start n v xs

pub painted_inside : (start n v : ℕ) (xs : List ℕ) (k : ℕ) → start ≤ k → k < start + n → start + n ≤ length xs → get_or (painted start n v xs) k 0 ≡ v
painted_inside start zero v xs k from to fits = absurd (omega arith)
painted_inside start (suc n) v xs k from to fits = elim (cases_eq k (start + n)) [
  | inl here ↦
      ap (λ (t : ℕ). get_or (set (painted start n v xs) (start + n) v) t 0) here
      ∙ get_or-set_same (painted start n v xs) (start + n) v 0 (omega (arith, length-painted start n v xs))
  | inr other ↦ get_or-set_other (painted start n v xs) (start + n) k v 0 other ∙ painted_inside start n v xs k from (omega arith) (omega arith)
]

pub painted_outside : (start n v : ℕ) (xs : List ℕ) (k : ℕ) → (k < start) ⊎ (start + n ≤ k) → get_or (painted start n v xs) k 0 ≡ get_or xs k 0
painted_outside start zero v xs k out = refl
painted_outside start (suc n) v xs k out =
    let other : k ≢ start + n = λ e. elim out [ inl before ↦ absurd (omega arith) | inr after ↦ absurd (omega arith) ] in
    let less : (k < start) ⊎ (start + n ≤ k) = elim out [ inl before ↦ inl before | inr after ↦ inr (omega arith) ] in
    get_or-set_other (painted start n v xs) (start + n) k v 0 other ∙ painted_outside start n v xs k less

-- ---- runs after one another

pub runs_more : (w : ℕ) (runs : List Run) (numbers : List ℕ) (n m : ℕ) (xs : List ℕ) → m ≡ n + 1
    → painted_runs w runs numbers m xs ≡ painted (begin_of w (run_numbered runs n)) (stop_of w (run_numbered runs n) - begin_of w (run_numbered runs n)) (get_or numbers n 0) (painted_runs w runs numbers n xs)
runs_more w runs numbers n m xs is = ap (λ (t : ℕ). painted_runs w runs numbers t xs) (is ∙ one n)
  where
    one : (n : ℕ) → n + 1 ≡ suc n
    one n = omega arith

pub length-painted_runs : (w : ℕ) (runs : List Run) (numbers : List ℕ) (n : ℕ) (xs : List ℕ) → length (painted_runs w runs numbers n xs) ≡ length xs
length-painted_runs w runs numbers zero xs = refl
length-painted_runs w runs numbers (suc n) xs =
    length-painted (begin_of w (run_numbered runs n)) (stop_of w (run_numbered runs n) - begin_of w (run_numbered runs n)) (get_or numbers n 0) (painted_runs w runs numbers n xs) ∙ length-painted_runs w runs numbers n xs

-- what no run holds stays
pub unpainted : (w : ℕ) (runs : List Run) (numbers : List ℕ) (n : ℕ) (xs : List ℕ) (k : ℕ) → ((i : ℕ) → i < n → (run_numbered runs i).first ≤ (run_numbered runs i).end)
    → ((i : ℕ) → i < n → begin_of w (run_numbered runs i) ≤ k → k < stop_of w (run_numbered runs i) → ⊥) → get_or (painted_runs w runs numbers n xs) k 0 ≡ get_or xs k 0
unpainted w runs numbers zero xs k order none = refl
unpainted w runs numbers (suc n) xs k order none =
    let r = run_numbered runs n in
    let some = order n (omega arith) in
    let out : (k < begin_of w r) ⊎ (begin_of w r + (stop_of w r - begin_of w r) ≤ k) = elim (cases_lt k (begin_of w r)) [
      | inl before ↦ inl before
      | inr from ↦ elim (cases_lt k (stop_of w r)) [
        | inl inside ↦ absurd (none n (omega arith) from inside)
        | inr past ↦ inr (omega arith)
      ]
    ] in
    painted_outside (begin_of w r) (stop_of w r - begin_of w r) (get_or numbers n 0) (painted_runs w runs numbers n xs) k out
    ∙ unpainted w runs numbers n xs k (λ i lt. order i (omega arith)) (λ i lt. none i (omega arith))

-- a run ends before the next one begins
pub ends_before : (w : ℕ) (a b : Run) → a.end ≤ w → a.first ≤ a.end → Precedes a b → stop_of w a ≤ begin_of w b
ends_before w a b within some (inl above) =
    let le : a.row + 1 ≤ b.row = omega arith in
    omega (arith, mul-le-mul_left w le)
ends_before w a b within some (inr same) =
    let gap = same.1 in
    rw (same.0) (omega arith)

pub painted_at : (f : Picture) (runs : List Run) (numbers : List ℕ) (n : ℕ) (xs : List ℕ) (i k : ℕ) → RunsBefore f 0 f.height runs → n ≤ length runs → f.height * f.width ≤ length xs → i < n
    → begin_of f.width (run_numbered runs i) ≤ k → k < stop_of f.width (run_numbered runs i) → get_or (painted_runs f.width runs numbers n xs) k 0 ≡ get_or numbers i 0
painted_at f runs numbers zero xs i k before le fits lt from to = absurd (omega arith)
painted_at f runs numbers (suc n) xs i k before le fits lt from to =
    let w = f.width in
    let r = run_numbered runs n in
    let frame = frame_run f runs n before (omega arith) in
    let some = frame.run.some in
    let within = frame.run.within in
    let row = frame.row in
    let rows : r.row + 1 ≤ f.height = omega arith in
    elim (cases_lt i n) [
      | inl less ↦
          let frame_i = frame_run f runs i before (omega arith) in
          let some_i = frame_i.run.some in
          let gap = ends_before w (run_numbered runs i) r frame_i.run.within (omega arith) (before.order.each i n less (omega arith)) in
          painted_outside (begin_of w r) (stop_of w r - begin_of w r) (get_or numbers n 0) (painted_runs w runs numbers n xs) k (inl (omega arith))
          ∙ painted_at f runs numbers n xs i k before (omega arith) fits less from to
      | inr past ↦
          let same : i ≡ n = omega arith in
          let from' : begin_of w r ≤ k = subst (λ (t : ℕ). begin_of w (run_numbered runs t) ≤ k) same from in
          let to' : k < stop_of w r = subst (λ (t : ℕ). k < stop_of w (run_numbered runs t)) same to in
          let size = length-painted_runs w runs numbers n xs in
          let room : stop_of w r ≤ f.height * w = omega (arith, mul-le-mul_left w rows) in
          painted_inside (begin_of w r) (stop_of w r - begin_of w r) (get_or numbers n 0) (painted_runs w runs numbers n xs) k from' (omega arith) (omega arith)
          ∙ ap (λ (t : ℕ). get_or numbers t 0) (sym same)
    ]

pub runs_fit : (f : Picture) (runs : List Run) → RunsBefore f 0 f.height runs → RunsFit f.width (f.height * f.width) runs
runs_fit f runs before = record {
  order = λ i lt. let frame = frame_run f runs i before lt in let some = frame.run.some in omega arith;
  room = λ i lt.
      let frame = frame_run f runs i before lt in
      let within = frame.run.within in
      let row = frame.row in
      let rows : (run_numbered runs i).row + 1 ≤ f.height = omega arith in
      omega (arith, mul-le-mul_left f.width rows);
  apart = λ i j less lt.
      let frame = frame_run f runs i before (omega arith) in
      let some = frame.run.some in
      ends_before f.width (run_numbered runs i) (run_numbered runs j) frame.run.within (omega arith) (before.order.each i j less lt);
}

-- a place that lies in a run by its number does so by its row and column
held_by_number : (f : Picture) (r : Run) (x y : ℕ) → IsFrameRun f r → x < f.width → begin_of f.width r ≤ y * f.width + x → y * f.width + x < stop_of f.width r → HasPlace r x y
held_by_number f r x y frame lt from to =
    let within = frame.run.within in
    let c = y * f.width + x - r.row * f.width in
    let is : y * f.width + x ≡ r.row * f.width + c = omega arith in
    let both = same_from_place y x r.row c f.width lt (omega arith) is in
    let column = both.1 in
    record { row = both.0; from = omega arith; to = omega arith }

pub shows_numbers : (f : Picture) (runs : List Run) (numbers xs labels : List ℕ) → RunsBefore f 0 f.height runs → length xs ≡ f.height * f.width → ((k : ℕ) → get_or xs k 0 ≡ 0) → labels ≡ painted_runs f.width runs numbers (length runs) xs
    → ShowsNumbers f runs numbers labels
shows_numbers f runs numbers xs labels before size blank is = record {
  size = ap (λ (t : List ℕ). length t) is ∙ length-painted_runs f.width runs numbers (length runs) xs ∙ size;
  shown = λ i x y lt holds.
      let row = holds.row in
      let from = holds.from in
      let to = holds.to in
      let rows : y * f.width ≡ (run_numbered runs i).row * f.width = ap (λ (t : ℕ). t * f.width) row in
      ap (λ (t : List ℕ). get_or t (y * f.width + x) 0) is
      ∙ painted_at f runs numbers (length runs) xs i (y * f.width + x) before (omega arith) (omega arith) lt (omega arith) (omega arith);
  unshown = λ x y place none.
      ap (λ (t : List ℕ). get_or t (y * f.width + x) 0) is
      ∙ unpainted f.width runs numbers (length runs) xs (y * f.width + x) (λ i lt. (runs_fit f runs before).order i lt)
      (λ i lt from to.
      let frame = frame_run f runs i before lt in
      let holds = held_by_number f (run_numbered runs i) x y frame place.column from to in
      let one = frame.run.inside x holds.from holds.to in
      let here : sample f x y ≡ 1 = ap (λ (t : ℕ). sample f x t) holds.row ∙ one in
      absurd (omega arith))
      ∙ blank (y * f.width + x);
}

-- so many places without a number
abbrev pub blank : ℕ → List ℕ
blank n = replicate n 0

pub length-blank : (n : ℕ) → length (blank n) ≡ n
length-blank n = length-replicate n 0

pub blank_zero : (n k : ℕ) → get_or (blank n) k 0 ≡ 0
blank_zero n k = elim (cases_lt k n) [
  | inl lt ↦ get_or-replicate n k 0 0 lt
  | inr past ↦ get_or_past (blank n) k 0 (let size = length-blank n in omega arith)
]
