-- Numbers of runs as labels of places.
use Rattle.std.proofs.Common.{◌≡◌, ℕ, zero, suc, ◌+◌, ◌*◌, ◌<◌, ◌≤◌, List, [], ◌∷◌, length, get_or, take, refl, sym, arith, ◌∙◌, inl, inr}
use Rattle.std.proofs.lemmas.Bool.{cases_lt, cases_eq}
use Rattle.std.proofs.lemmas.Nat.{mul-add-lt}
use Rattle.std.proofs.Math.Nat.{mul_comm, mul-le-mul_left}
use Rattle.mw_model.specs.declared.offsets.Offset.{Offset}
use Rattle.mw_model.specs.Pictures.{Picture, sample, IsSet}
use Rattle.mw_model.specs.Flat.{greatest}
use Rattle.mw_model.proofs.ImagePlaces.{sample_bounded, by_places}
use Rattle.mw_geodesic.specs.Neighbours.{IsPlace}
use Rattle.mw_geodesic.specs.Paths.{ends, goes, AreConnected}
use Rattle.mw_geodesic.specs.Labels.{label_at, IsLabelling}
use Rattle.mw_geodesic.proofs.Components.{leads_from, point_is}
use Rattle.mw_geodesic_runs.specs.declared.runs.Run.{Run}
use Rattle.mw_geodesic_runs.specs.Runs.{run_numbered, HasPlace, Precedes}
use Rattle.mw_geodesic_runs.specs.Components.{AreComponents}
use Rattle.mw_geodesic_runs.proofs.Found.{held}
use Rattle.mw_geodesic_runs.proofs.Joinings.{frame_run}

-- ---- the greatest of some numbers

pub at_most_greatest : (xs : List ℕ) (i : ℕ) → get_or xs i 0 ≤ greatest xs
at_most_greatest [] i = omega arith
at_most_greatest (x ∷ xs) zero = omega arith
at_most_greatest (x ∷ xs) (suc i) = omega (arith, at_most_greatest xs i)

pub before_greatest : (xs : List ℕ) (i n : ℕ) → i < n → get_or xs i 0 ≤ greatest (take n xs)
before_greatest xs i zero lt = absurd (omega arith)
before_greatest [] i (suc n) lt = omega arith
before_greatest (x ∷ xs) zero (suc n) lt = omega arith
before_greatest (x ∷ xs) (suc i) (suc n) lt = omega (arith, before_greatest xs i n (omega arith))

greatest_within : (xs : List ℕ) (c : ℕ) → ((i : ℕ) → i < length xs → get_or xs i 0 ≤ c) → greatest xs ≤ c
greatest_within [] c each = omega arith
greatest_within (x ∷ xs) c each =
    let here : x ≤ c = each zero (omega arith) in
    let rest = greatest_within xs c (λ i lt. each (suc i) (omega arith)) in
    omega arith

-- ---- labels by runs

-- each place of a run has its number, and places outside the set have 0
pub record ShowsNumbers (f : Picture) (runs : List Run) (numbers labels : List ℕ) : Type 0 where
  pub size : length labels ≡ f.height * f.width
  pub shown : (i x y : ℕ) → i < length runs → HasPlace (run_numbered runs i) x y → label_at f labels x y ≡ get_or numbers i 0
  pub unshown : (x y : ℕ) → IsPlace f x y → sample f x y ≡ 0 → label_at f labels x y ≡ 0

pub one_of : (f : Picture) (x y : ℕ) → IsSet f → IsPlace f x y → (sample f x y ≡ 0 → ⊥) → sample f x y ≡ 1
one_of f x y is_set place ne =
    let low = sample_bounded f is_set.picture x y place.column place.row in
    let top = is_set.maxval in
    elim (cases_eq (sample f x y) 0) [ inl none ↦ absurd (ne none) | inr some ↦ omega arith ]

positive : (e : List Offset) (f : Picture) (runs : List Run) (numbers labels : List ℕ) (count x y : ℕ) → AreComponents e f runs numbers count → ShowsNumbers f runs numbers labels → IsPlace f x y → sample f x y ≡ 1 → 1 ≤ label_at f labels x y
positive e f runs numbers labels count x y are shows place one =
    let run = held e f runs numbers count x y are place one in
    let is = shows.shown run.at x y run.within run.holds in
    let some = are.some run.at run.within in
    omega arith

pub in_set : (e : List Offset) (f : Picture) (runs : List Run) (numbers labels : List ℕ) (count x y : ℕ) → AreComponents e f runs numbers count → ShowsNumbers f runs numbers labels → IsPlace f x y → 1 ≤ label_at f labels x y → sample f x y ≡ 1
in_set e f runs numbers labels count x y are shows place some = one_of f x y are.set place (λ none. let zero = shows.unshown x y place none in absurd (omega arith))

-- one label along a path
along : (e : List Offset) (f : Picture) (runs : List Run) (numbers labels : List ℕ) (count u v x y : ℕ) → AreComponents e f runs numbers count → ShowsNumbers f runs numbers labels → AreConnected e f x y u v → label_at f labels x y ≡ label_at f labels u v
along e f runs numbers labels count u v x y are shows (ends x' y' place high top) =
    let same = point_is f u v x' y' place.column place.row top in
    rw (same.0, same.1) refl
along e f runs numbers labels count u v x y are shows (goes x' y' a b place high covers rest) =
    let far = leads_from e f a b u v rest in
    let here : IsPlace f x' y' = record { column = place.column; row = place.row } in
    let one = one_of f x' y' are.set here (λ none. absurd (omega arith)) in
    let one' = one_of f a b are.set far.0 (λ none. absurd (omega (arith, far.1))) in
    let run = held e f runs numbers count x' y' are here one in
    let run' = held e f runs numbers count a b are far.0 one' in
    shows.shown run.at x' y' run.within run.holds
    ∙ are.near run.at run'.at x' y' a b run.within run'.within run.holds run'.holds covers
    ∙ sym (shows.shown run'.at a b run'.within run'.holds)
    ∙ along e f runs numbers labels count u v a b are shows rest

-- the first place of a run stands before those of the runs behind it
pub earlier : (w : ℕ) (a b : Run) (x y : ℕ) → a.first < w → a.first < a.end → Precedes a b → HasPlace b x y → a.row * w + a.first < y * w + x
earlier w a b x y within some (inl above) holds =
    let row = holds.row in
    let le : a.row + 1 ≤ y = omega arith in
    omega (arith, mul-le-mul_left w le)
earlier w a b x y within some (inr same) holds =
    let row : a.row ≡ y = same.0 ∙ sym holds.row in
    let gap = same.1 in
    let from = holds.from in
    rw row (omega arith)

pub rises_at : (e : List Offset) (f : Picture) (runs : List Run) (numbers labels : List ℕ) (count x y : ℕ) → AreComponents e f runs numbers count → ShowsNumbers f runs numbers labels → IsPlace f x y
    → get_or labels (y * f.width + x) 0 ≤ greatest (take (y * f.width + x) labels) + 1
rises_at e f runs numbers labels count x y are shows place = elim (cases_lt (label_at f labels x y) 2) [
  | inl low ↦ omega arith
  | inr two ↦
      let one = in_set e f runs numbers labels count x y are shows place (omega arith) in
      let run = held e f runs numbers count x y are place one in
      let lt = run.within in
      let is = shows.shown run.at x y lt run.holds in
      let n = get_or numbers run.at 0 in
      below f n (label_at f labels x y) is two (λ k next.
      let before = are.steps run.at lt (omega arith) k next in
      let less = before.before in
      let frame = frame_run f runs before.at are.cut (omega arith) in
      let r = run_numbered runs before.at in
      let some = frame.run.some in
      let within = frame.run.within in
      let order = are.cut.order.each before.at run.at less lt in
      let index = earlier f.width r (run_numbered runs run.at) x y (omega arith) some order run.holds in
      let first = shows.shown before.at r.first r.row (omega arith) (record { row = refl; from = omega arith; to = some }) in
      let top = before_greatest labels (r.row * f.width + r.first) (y * f.width + x) index in
      let number = before.is in
      omega arith)
]
  where
    below : (f : Picture) (n l : ℕ) → l ≡ n → 2 ≤ l → ((k : ℕ) → k + 1 ≡ n → k ≤ greatest (take (y * f.width + x) labels)) → l ≤ greatest (take (y * f.width + x) labels) + 1
    below f zero l is two each = absurd (omega arith)
    below f (suc k) l is two each = let le = each k (omega arith) in omega arith

pub in_frame : (f : Picture) (x y : ℕ) → IsPlace f x y → y * f.width + x < f.height * f.width
in_frame f x y place = omega (arith, mul-add-lt y f.width x f.height place.row place.column, mul_comm f.width f.height)

pub label_most : (e : List Offset) (f : Picture) (runs : List Run) (numbers labels : List ℕ) (count x y : ℕ) → AreComponents e f runs numbers count → ShowsNumbers f runs numbers labels → IsPlace f x y → label_at f labels x y ≤ count
label_most e f runs numbers labels count x y are shows place = elim (cases_eq (sample f x y) 0) [
  | inl none ↦ omega (arith, shows.unshown x y place none)
  | inr ne ↦
      let run = held e f runs numbers count x y are place (one_of f x y are.set place ne) in
      omega (arith, shows.shown run.at x y run.within run.holds, are.most run.at run.within)
]

-- the greatest label is the count
pub counted : (e : List Offset) (f : Picture) (runs : List Run) (numbers labels : List ℕ) (count : ℕ) → AreComponents e f runs numbers count → ShowsNumbers f runs numbers labels → greatest labels ≡ count
counted e f runs numbers labels count are shows =
    let most = greatest_within labels count (λ i lt. by_places (λ k. get_or labels k 0 ≤ count) f.width f.height (λ x y p q. label_most e f runs numbers labels count x y are shows (record { column = p; row = q })) i (omega (arith, shows.size))) in
    elim (cases_lt count 1) [
      | inl none ↦ omega arith
      | inr some ↦
          let top = are.top some in
          let lt = top.before in
          let frame = frame_run f runs top.at are.cut lt in
          let r = run_numbered runs top.at in
          let first = shows.shown top.at r.first r.row lt (record { row = refl; from = omega arith; to = frame.run.some }) in
          let reached = at_most_greatest labels (r.row * f.width + r.first) in
          let number = top.is in
          omega arith
    ]

pub labelling : (e : List Offset) (f : Picture) (runs : List Run) (numbers labels : List ℕ) (count : ℕ) → AreComponents e f runs numbers count → ShowsNumbers f runs numbers labels → IsLabelling e f count labels
labelling e f runs numbers labels count are shows = record {
  size = shows.size;
  outside = λ x y place. (
    (λ none. elim (cases_eq (sample f x y) 0) [
      | inl zero_here ↦ zero_here
      | inr ne ↦ let some = positive e f runs numbers labels count x y are shows place (one_of f x y are.set place ne) in absurd (omega arith)
    ]),
    (λ none. shows.unshown x y place none),
  );
  one = λ x y u v a b one. (
    (λ same.
        let some = positive e f runs numbers labels count x y are shows a one in
        let one' = in_set e f runs numbers labels count u v are shows b (omega arith) in
        let run = held e f runs numbers count x y are a one in
        let run' = held e f runs numbers count u v are b one' in
        are.joined run.at run'.at x y u v run.within run'.within run.holds run'.holds (sym (shows.shown run.at x y run.within run.holds) ∙ same ∙ shows.shown run'.at u v run'.within run'.holds)),
    (λ way. along e f runs numbers labels count u v x y are shows way),
  );
  rises = λ i lt. by_places (λ k. get_or labels k 0 ≤ greatest (take k labels) + 1) f.width f.height (λ x y p q. rises_at e f runs numbers labels count x y are shows (record { column = p; row = q })) i (omega (arith, shows.size));
  counted = counted e f runs numbers labels count are shows;
}
