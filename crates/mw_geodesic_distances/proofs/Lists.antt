-- Numbers of lists that are written one after another, or row by row.
use Rattle.std.proofs.Common.{◌≡◌, ◌≢◌, ℕ, ◌+◌, ◌-◌, ◌*◌, ◌<◌, ◌≤◌, List, length, take, drop, set, get_or, min, refl, sym, ap, arith, ◌∙◌, inl, inr}
use Rattle.std.proofs.lemmas.Bool.{cases_lt, cases_order}
use Rattle.std.proofs.lemmas.List.{get_or-set_same, get_or-set_other, get_or-take, get_or-drop}
use Rattle.std.proofs.Math.Nat.{mul-le-mul_left}
use Rattle.mw_model.proofs.mw_facts.Parts.{get_or-put_mid_below, get_or-put_mid_within, get_or-put_mid_above}
use borrow.Rule.Slice.PartMut.{put_mid}
use Rattle.mw_geodesic_distances.specs.Rows.{distance_at, IsRewritten}
use Rattle.mw_geodesic_distances.specs.Grids.{grid}

pub made_none : (from : ℕ) (value old : ℕ → ℕ) → IsRewritten from from value old old
made_none from value old = record { done = λ k le lt. absurd (omega arith); before = λ k lt. refl; rest = λ k le. refl }

pub made_more : (from at to v : ℕ) (value old : ℕ → ℕ) (row : List ℕ) → at + 1 ≡ to → from ≤ at → at < length row → v ≡ value at → IsRewritten from at value old (distance_at row) → IsRewritten from to value old (distance_at (set row at v))
made_more from at to v value old row next le lt is known = record {
  done = λ k from' to'. elim (cases_lt k at) [
    | inl less ↦
        let other : k ≢ at = omega arith in
        get_or-set_other row at k v 0 other ∙ known.done k from' less
    | inr more ↦
        let here : k ≡ at = omega arith in
        rw here (get_or-set_same row at v 0 lt ∙ is)
  ];
  before = λ k less. let other : k ≢ at = omega arith in get_or-set_other row at k v 0 other ∙ known.before k less;
  rest = λ k more. let other : k ≢ at = omega arith in get_or-set_other row at k v 0 other ∙ known.rest k (omega arith);
}

-- the numbers before a place are lowered from the left, and the others are as they were
pub record IsRunning (at last : ℕ) (old row : ℕ → ℕ) : Type 0 where
  pub some : 1 ≤ at
  pub first : row 0 ≡ old 0
  pub along : (u x : ℕ) → u + 1 ≡ x → x < at → row x ≡ min (old x) (row u + 1)
  pub rest : (x : ℕ) → at ≤ x → row x ≡ old x
  pub carried : (u : ℕ) → u + 1 ≡ at → last ≡ row u

pub running_one : (last : ℕ) (old : ℕ → ℕ) → last ≡ old 0 → IsRunning 1 last old old
running_one last old is = record {
  some = omega arith;
  first = refl;
  along = λ u x next lt. absurd (omega arith);
  rest = λ x le. refl;
  carried = λ u next. let here : u ≡ 0 = omega arith in rw here is;
}

pub running_more : (at last v : ℕ) (old : ℕ → ℕ) (row : List ℕ) → at < length row → v ≡ min (distance_at row at) (last + 1) → IsRunning at last old (distance_at row) → IsRunning (at + 1) v old (distance_at (set row at v))
running_more at last v old row lt is known =
    let some = known.some in
    let here : distance_at (set row at v) at ≡ v = get_or-set_same row at v 0 lt in
    record {
      some = omega arith;
      first = let other : 0 ≢ at = omega arith in get_or-set_other row at 0 v 0 other ∙ known.first;
      along = λ u x next less.
          let other : u ≢ at = omega arith in
          let before = get_or-set_other row at u v 0 other in
          elim (cases_lt x at) [
            | inl earlier ↦
                let other' : x ≢ at = omega arith in
                let same = get_or-set_other row at x v 0 other' in
                let was = known.along u x next earlier in
                omega arith
            | inr from ↦
                let place : x ≡ at = omega arith in
                let stood = known.rest at (omega arith) in
                let last-is = known.carried u (omega arith) in
                rw place (omega arith)
          ];
      rest = λ x le. let other : x ≢ at = omega arith in get_or-set_other row at x v 0 other ∙ known.rest x (omega arith);
      carried = λ u next. let place : u ≡ at = omega arith in rw place (sym here);
    }

-- so many numbers at the right are lowered from the right, and the others are as they were
pub record IsRunningBack (n done last : ℕ) (old row : ℕ → ℕ) : Type 0 where
  pub some : 1 ≤ done
  pub end : (x : ℕ) → x + 1 ≡ n → row x ≡ old x
  pub along : (x u : ℕ) → x + 1 ≡ u → u < n → n ≤ x + done → row x ≡ min (old x) (row u + 1)
  pub rest : (x : ℕ) → x + done < n → row x ≡ old x
  pub carried : (x : ℕ) → x + done ≡ n → last ≡ row x

pub running_back_one : (n last : ℕ) (old : ℕ → ℕ) → 0 < n → last ≡ old (n - 1) → IsRunningBack n 1 last old old
running_back_one n last old some is = record {
  some = omega arith;
  end = λ x e. refl;
  along = λ x u next lt le. absurd (omega arith);
  rest = λ x lt. refl;
  carried = λ x next. let here : x ≡ n - 1 = omega arith in rw here is;
}

pub running_back_more : (n done at last v : ℕ) (old : ℕ → ℕ) (row : List ℕ) → at + (done + 1) ≡ n → n ≡ length row → v ≡ min (distance_at row at) (last + 1) → IsRunningBack n done last old (distance_at row) → IsRunningBack n (done + 1) v old (distance_at (set row at v))
running_back_more n done at last v old row place size is known =
    let some = known.some in
    let here : distance_at (set row at v) at ≡ v = get_or-set_same row at v 0 (omega arith) in
    record {
      some = omega arith;
      end = λ x e. let other : x ≢ at = omega arith in get_or-set_other row at x v 0 other ∙ known.end x e;
      along = λ x u next lt le.
          let other : u ≢ at = omega arith in
          let behind = get_or-set_other row at u v 0 other in
          elim (cases_lt at x) [
            | inl later ↦
                let other' : x ≢ at = omega arith in
                let same = get_or-set_other row at x v 0 other' in
                let was = known.along x u next lt (omega arith) in
                omega arith
            | inr from ↦
                let equal : x ≡ at = omega arith in
                let stood = known.rest at (omega arith) in
                let last-is = known.carried u (omega arith) in
                rw equal (omega arith)
          ];
      rest = λ x lt. let other : x ≢ at = omega arith in get_or-set_other row at x v 0 other ∙ known.rest x (omega arith);
      carried = λ x next. let equal : x ≡ at = omega arith in rw equal (sym here);
    }

-- row y has these numbers, and the other rows are as they were
pub record IsRowPut (w h y : ℕ) (row : ℕ → ℕ) (g made : ℕ → ℕ → ℕ) : Type 0 where
  pub here : (x : ℕ) → x < w → made x y ≡ row x
  pub others : (x v : ℕ) → x < w → v < h → (v ≡ y → ⊥) → made x v ≡ g x v

pub rows_fit : (y h w : ℕ) → y < h → y * w + w ≤ h * w
rows_fit y h w lt = let le : y + 1 ≤ h = omega arith in omega (arith, mul-le-mul_left w le)

pub row_put : (w h y start m : ℕ) (xs ys : List ℕ) → start ≡ y * w → m ≡ w → y < h → length xs ≡ h * w → length ys ≡ m → IsRowPut w h y (distance_at ys) (grid w xs) (grid w (put_mid start m xs ys))
row_put w h y start m xs ys at size lt whole part =
    let fits = rows_fit y h w lt in
    record {
      here = λ x less.
          get_or-put_mid_within start m xs ys (y * w + x) 0 (omega arith) (omega arith) (omega arith)
          ∙ ap (λ (t : ℕ). get_or ys t 0) (back (y * w) start x at);
      others = λ x v less down other. elim (cases_order v y) [
        | inl same ↦ absurd (other same)
        | inr (inl above) ↦
            let gap = rows_fit v y w above in
            get_or-put_mid_below start m xs ys (v * w + x) 0 (omega arith) (omega arith)
        | inr (inr below) ↦
            let gap = rows_fit y v w below in
            get_or-put_mid_above start m xs ys (v * w + x) 0 (omega arith) part (omega arith)
      ];
    }
  where
    back : (p start x : ℕ) → start ≡ p → p + x - start ≡ x
    back p start x is = omega arith

-- a row as a part of the list
pub row_part : (w y start m : ℕ) (xs : List ℕ) (x : ℕ) → start ≡ y * w → m ≡ w → x < w → distance_at (take m (drop start xs)) x ≡ grid w xs x y
row_part w y start m xs x at size lt =
    get_or-take m (drop start xs) x 0 (omega arith) ∙ get_or-drop start xs x 0 ∙ ap (λ (t : ℕ). get_or xs (t + x) 0) at
