-- What a place meets in a row, and in the three rows around it.
use Rattle.std.proofs.Common.{◌≡◌, ℕ, ◌+◌, ◌-◌, ◌*◌, ◌<◌, ◌≤◌, Bool, true, false, List, min, refl, ap, sym, subst, arith, ◌∙◌, inl, inr}
use Rattle.std.proofs.lemmas.Bool.{cases_order}
use Rattle.mw_geodesic.specs.Neighbours.{ElementCovers, IsSymmetric}
use Rattle.mw_geodesic.proofs.NeighbourLemmas.{four_symmetric, eight_symmetric}
use Rattle.mw_geodesic_levels.specs.declared.frame.Frame.{Frame}
use Rattle.mw_geodesic_levels.specs.Levels.{IsNearby}
use Rattle.mw_geodesic_levels.specs.Pictures.{element_with_corners}
use Rattle.mw_geodesic_areas.specs.Problems.{Problem, problem, AreJoined}
use Rattle.mw_geodesic_areas.specs.Classes.{WasTaken, SettledAlike, Stands, Meets, MeetsRow, MeetsAll}
use Rattle.mw_geodesic_areas.proofs.Areas.{in_frame, joined_itself, joined_step, same_place}
use Rattle.mw_geodesic_levels.proofs.Nearness.{near_from, covered}
use Rattle.mw_geodesic_areas.proofs.Standings.{taken_before}
use Rattle.mw_geodesic_areas.proofs.Joins.{alike_back}

pub symmetric : (corners : Bool) → IsSymmetric (element_with_corners corners)
symmetric true = eight_symmetric
symmetric false = four_symmetric

-- a place near one that is taken joins it
near_joined : (frame : Frame) (levels : ℕ → ℕ) (least x y u v p i : ℕ) → x < frame.width → y < frame.height → u < frame.width → v < frame.height → IsNearby frame.corners x y u v → p ≡ y * frame.width + x → i ≡ v * frame.width + u
    → WasTaken levels (levels p) p i → AreJoined (problem frame levels least) (levels p) p i
near_joined frame levels least x y u v p i a b c d near at at' taken =
    let high = taken.high in
    let joined : AreJoined (problem frame levels least) (levels p) (y * frame.width + x) (v * frame.width + u) = elim (covered frame.corners x y u v near) [
      | inl same ↦
          let e : v * frame.width + u ≡ y * frame.width + x = rw (same.0, same.1) refl in
          subst (λ (n : ℕ). AreJoined (problem frame levels least) (levels p) (y * frame.width + x) n) (sym e) (joined_itself (problem frame levels least) (levels p) (y * frame.width + x) (in_frame frame.width frame.height x y a b) (omega (arith, ap levels at)))
      | inr covers ↦ joined_step (problem frame levels least) (levels p) x y u v a b c d covers (omega (arith, ap levels at)) (omega (arith, ap levels at'))
    ] in
    subst (λ (n : ℕ). AreJoined (problem frame levels least) (levels p) n i) (sym at) (subst (λ (n : ℕ). AreJoined (problem frame levels least) (levels p) (y * frame.width + x) n) (sym at') joined)

-- a row as it is seen from a place
pub record Row (frame : Frame) (x y v far left right p i j l : ℕ) : Type 0 where
  pub column : x < frame.width
  pub row : y < frame.height
  pub other : v < frame.height
  pub small : far ≤ 1
  pub near : (x u : ℕ) → IsNearby frame.corners x y u v → (x ≤ u + far) × (u ≤ x + far)
  pub back : (x u : ℕ) → x ≤ u + far → u ≤ x + far → IsNearby frame.corners x y u v
  pub left_is : left ≡ x - far
  pub right_is : right ≡ min (x + far) (frame.width - 1)
  pub at : p ≡ y * frame.width + x
  pub first : i ≡ v * frame.width + left
  pub middle : j ≡ v * frame.width + x
  pub last : l ≡ v * frame.width + right

-- a place of one number
abbrev Near : (ℕ → ℕ) → (ℕ → ℕ) → (ℕ → ℕ) → ℕ → ℕ → Type 0
Near levels c out p i = WasTaken levels (levels p) p i → SettledAlike out c p i

pub row_met : (frame : Frame) (levels : ℕ → ℕ) (least x y v far left right p i j l : ℕ) (parent parent' parent'' parent''' : List ℕ) (size out size' out' size'' out'' size''' out''' : ℕ → ℕ) → Row frame x y v far left right p i j l
    → Meets (problem frame levels least) p j (WasTaken levels (levels p) p j) parent size out parent' size' out'
    → Meets (problem frame levels least) p i (WasTaken levels (levels p) p i) parent' size' out' parent'' size'' out''
    → Meets (problem frame levels least) p l (WasTaken levels (levels p) p l) parent'' size'' out'' parent''' size''' out'''
    → MeetsRow (problem frame levels least) p x y v parent size out parent''' size''' out'''
row_met frame levels least x y v far left right p i j l parent parent' parent'' parent''' size out size' out' size'' out'' size''' out''' g meets meets' meets'' = λ c are some stands.
    let a = problem frame levels least in
    let w = frame.width in
    let column = g.column in
    let small = g.small in
    let l_is = g.left_is in
    let r_is = g.right_is in
    let in_p : p < frame.height * w = rw g.at (in_frame w frame.height x y g.column g.row) in
    let in_i : i < frame.height * w = rw g.first (in_frame w frame.height left v (omega arith) g.other) in
    let in_j : j < frame.height * w = rw g.middle (in_frame w frame.height x v g.column g.other) in
    let in_l : l < frame.height * w = rw g.last (in_frame w frame.height right v (omega arith) g.other) in
    let m = meets c are some stands (λ t. t) (λ t. near_joined frame levels least x y x v p j g.column g.row g.column g.other (g.back x x (omega arith) (omega arith)) g.at g.middle t) in
    let m' = meets' m.roots m.are some m.stands (λ t. t) (λ t. near_joined frame levels least x y left v p i g.column g.row (omega arith) g.other (g.back x left (omega arith) (omega arith)) g.at g.first t) in
    let m'' = meets'' m'.roots m'.are some m'.stands (λ t. t) (λ t. near_joined frame levels least x y right v p l g.column g.row (omega arith) g.other (g.back x right (omega arith) (omega arith)) g.at g.last t) in
    let one : Near levels m''.roots out''' p i = λ t. m''.keeps p i in_p in_i (m'.here t) in
    let two : Near levels m''.roots out''' p j = λ t. m''.keeps p j in_p in_j (m'.keeps p j in_p in_j (m.here t)) in
    let three : Near levels m''.roots out''' p l = λ t. m''.here t in
    record {
      roots = m''.roots;
      are = m''.are;
      stands = m''.stands;
      keeps = λ b d lt lt' alike. m''.keeps b d lt lt' (m'.keeps b d lt lt' (m.keeps b d lt lt' alike));
      here = λ u across covers.
          let close = g.near x u (near_from frame.corners x y u v covers) in
          elim (cases_order u x) [
            | inl e ↦ subst (λ (n : ℕ). Near levels m''.roots out''' p n) (g.middle ∙ ap (λ (n : ℕ). v * w + n) (sym e)) two
            | inr (inl before) ↦ subst (λ (n : ℕ). Near levels m''.roots out''' p n) (g.first ∙ ap (λ (n : ℕ). v * w + n) (sym (left_is x u far left l_is small before close.0))) one
            | inr (inr after) ↦ subst (λ (n : ℕ). Near levels m''.roots out''' p n) (g.last ∙ ap (λ (n : ℕ). v * w + n) (sym (right_is x u far right w r_is small after close.1 across))) three
          ];
    }
  where
    left_is : (x u far left : ℕ) → left ≡ x - far → far ≤ 1 → u < x → x ≤ u + far → u ≡ left
    left_is x u far left is small before close = omega arith

    right_is : (x u far right w : ℕ) → right ≡ min (x + far) (w - 1) → far ≤ 1 → x < u → u ≤ x + far → u < w → u ≡ right
    right_is x u far right w is small after close across = omega arith

-- the same where no more is near than the place in the same column
pub row_met_straight : (frame : Frame) (levels : ℕ → ℕ) (least x y v far p j : ℕ) (parent parent' : List ℕ) (size out size' out' : ℕ → ℕ) → x < frame.width → y < frame.height → v < frame.height → far ≡ 0
    → ((x u : ℕ) → IsNearby frame.corners x y u v → (x ≤ u + far) × (u ≤ x + far)) → ((x u : ℕ) → x ≤ u + far → u ≤ x + far → IsNearby frame.corners x y u v) → p ≡ y * frame.width + x → j ≡ v * frame.width + x
    → Meets (problem frame levels least) p j (WasTaken levels (levels p) p j) parent size out parent' size' out' → MeetsRow (problem frame levels least) p x y v parent size out parent' size' out'
row_met_straight frame levels least x y v far p j parent parent' size out size' out' column row other none near back at middle meets = λ c are some stands.
    let m = meets c are some stands (λ t. t) (λ t. near_joined frame levels least x y x v p j column row column other (back x x (omega arith) (omega arith)) at middle t) in
    record {
      roots = m.roots;
      are = m.are;
      stands = m.stands;
      keeps = m.keeps;
      here = λ u across covers.
          let close = near x u (near_from frame.corners x y u v covers) in
          subst (λ (n : ℕ). Near levels m.roots out' p n) (middle ∙ ap (λ (n : ℕ). v * frame.width + n) (same_column x u far none close.0 close.1)) (λ t. m.here t);
    }
  where
    same_column : (x u far : ℕ) → far ≡ 0 → x ≤ u + far → u ≤ x + far → x ≡ u
    same_column x u far none low high = omega arith

-- ---- all rows

-- with all of its neighbours met, what is near the place is alike
closed_here : (a : Problem) (x y p : ℕ) (c size out : ℕ → ℕ) → x < a.width → y < a.height → p ≡ y * a.width + x → IsSymmetric a.around
    → ((u v : ℕ) → u < a.width → v < a.height → ElementCovers a.around x y u v → WasTaken a.levels (a.levels p) p (v * a.width + u) → SettledAlike out c p (v * a.width + u))
    → Stands a (a.levels p) p (p + 1) c size out → Stands a (a.levels p) p p c size out
closed_here a x y p c size out col row at turns here stands = record {
  low = stands.low;
  own = stands.own;
  alone = stands.alone;
  apart = stands.apart;
  blank = stands.blank;
  chain = stands.chain;
  joined = stands.joined;
  counted = stands.counted;
  small = stands.small;
  valued = stands.valued;
  over = stands.over;
  closed = λ b d u v lt lt' low low' covers t t'. elim (taken_before a.levels (a.levels p) p (d * a.width + b) refl t) [
    | inr same ↦
        let e = same_place a.width b d x y lt col (same ∙ at) in
        subst (λ (n : ℕ). SettledAlike out c n (v * a.width + u)) (sym same)
        (here u v low low' (subst (λ (n : ℕ). ElementCovers a.around x n u v) e.1 (subst (λ (n : ℕ). ElementCovers a.around n d u v) e.0 covers)) t')
    | inl before ↦ elim (taken_before a.levels (a.levels p) p (v * a.width + u) refl t') [
      | inl before' ↦ stands.closed b d u v lt lt' low low' covers before before'
      | inr same ↦
          let e = same_place a.width u v x y low col (same ∙ at) in
          let back = turns b d u v covers in
          let there = here b d lt lt' (subst (λ (n : ℕ). ElementCovers a.around x n b d) e.1 (subst (λ (n : ℕ). ElementCovers a.around n v b d) e.0 back)) t in
          subst (λ (n : ℕ). SettledAlike out c (d * a.width + b) n) (sym same) (alike_back c out p (d * a.width + b) there)
    ]
  ];
}

pub rows_met : (frame : Frame) (levels : ℕ → ℕ) (least x y above below p : ℕ) (parent parent' parent'' parent''' : List ℕ) (size out size' out' size'' out'' size''' out''' : ℕ → ℕ) → x < frame.width → y < frame.height → p ≡ y * frame.width + x
    → ((v : ℕ) → y ≤ v + 1 → v < y → v ≡ above) → ((v : ℕ) → v ≤ y + 1 → y < v → v < frame.height → v ≡ below)
    → MeetsRow (problem frame levels least) p x y above parent size out parent' size' out'
    → MeetsRow (problem frame levels least) p x y y parent' size' out' parent'' size'' out''
    → MeetsRow (problem frame levels least) p x y below parent'' size'' out'' parent''' size''' out'''
    → MeetsAll (problem frame levels least) p parent size out parent''' size''' out'''
rows_met frame levels least x y above below p parent parent' parent'' parent''' size out size' out' size'' out'' size''' out''' col row at one two meets meets' meets'' = λ c are some stands.
    let a = problem frame levels least in
    let w = frame.width in
    let m = meets c are some stands in
    let m' = meets' m.roots m.are some m.stands in
    let m'' = meets'' m'.roots m'.are some m'.stands in
    let in_p : p < frame.height * w = rw at (in_frame w frame.height x y col row) in
    record {
      roots = m''.roots;
      are = m''.are;
      stands = closed_here a x y p m''.roots size''' out''' col row at (symmetric frame.corners)
          (λ u v lt lt' covers t.
          let near = near_from frame.corners x y u v covers in
          let place = in_frame w frame.height u v lt lt' in
          elim (cases_order v y) [
            | inl e ↦ m''.keeps p (v * w + u) in_p place (in_row m'.roots out'' y v u (sym e) (λ covers' t'. m'.here u lt covers' t') covers t)
            | inr (inl less) ↦ m''.keeps p (v * w + u) in_p place (m'.keeps p (v * w + u) in_p place (in_row m.roots out' above v u (sym (one v near.above less)) (λ covers' t'. m.here u lt covers' t') covers t))
            | inr (inr more) ↦ in_row m''.roots out''' below v u (sym (two v near.below more lt')) (λ covers' t'. m''.here u lt covers' t') covers t
          ]) m''.stands;
    }
  where
    in_row : (c out : ℕ → ℕ) (r v u : ℕ) → r ≡ v → (ElementCovers (element_with_corners frame.corners) x y u r → WasTaken levels (levels p) p (r * frame.width + u) → SettledAlike out c p (r * frame.width + u))
        → ElementCovers (element_with_corners frame.corners) x y u v → WasTaken levels (levels p) p (v * frame.width + u) → SettledAlike out c p (v * frame.width + u)
    in_row c out r v u e known = subst (λ (n : ℕ). ElementCovers (element_with_corners frame.corners) x y u n → WasTaken levels (levels p) p (n * frame.width + u) → SettledAlike out c p (n * frame.width + u)) e known
