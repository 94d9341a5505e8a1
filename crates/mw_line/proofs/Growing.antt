-- Columns of extrema that grow by a row.
use Rattle.std.proofs.Common.{◌≡◌, ℕ, zero, suc, ◌+◌, ◌-◌, ◌*◌, ◌<◌, ◌≤◌, ◌^◌, ◌⊎◌, List, ◌++◌, length, take, drop, get_or, refl, ap, sym, arith, ◌∙◌, inl, inr}
use Rattle.std.proofs.lemmas.Bool.{cases_lt}
use Rattle.std.proofs.lemmas.Nat.{mul-add-lt}
use Rattle.std.proofs.lemmas.Grind.{pow_more}
use Rattle.std.proofs.Math.Nat.{add-zero, zero-add, suc-add, add-sub_cancel_left, add-sub_of_le, mul-le-mul_left, pow-le-pow_right}
use Rattle.std.proofs.lemmas.List.{get_or-take, get_or-drop, get_or_append_left, get_or-append_right}
use Rattle.mw_model.proofs.mw_facts.Parts.{get_or-put_mid_below, get_or-put_mid_within, get_or-put_mid_above}
use Rattle.mw_line.specs.Columns.{IsGrown}
use Rattle.mw_line.specs.Extrema.{over}
use Rattle.mw_line.proofs.Folds.{IsExtremum}
use Rattle.mw_line.proofs.Joined.{spread_in}
use borrow.Rule.Slice.PartMut.{put_mid}

over-absorbed : {A : Type 0} (f : A → A → A) → IsExtremum f → (v : ℕ → A) (m n a : ℕ) → m ≤ n → f (over f v a m) (over f v a n) ≡ over f v a n
over-absorbed f laws v zero zero a le = laws.is_idempotent (v a)
over-absorbed f laws v zero (suc n) a le = sym (laws.associates (v a) (v a) (over f v (a + 1) n)) ∙ ap (λ (t : _). f t (over f v (a + 1) n)) (laws.is_idempotent (v a))
over-absorbed f laws v (suc m) zero a le = absurd (omega arith)
over-absorbed f laws v (suc m) (suc n) a le = spread_in f laws (v a) (over f v (a + 1) m) (over f v (a + 1) n) ∙ ap (f (v a)) (over-absorbed f laws v m n (a + 1) (omega arith))

-- two ranges of places that meet or overlap
pub over_joined : {A : Type 0} (f : A → A → A) → IsExtremum f → (v : ℕ → A) (j m n a : ℕ) → j ≤ suc m → m ≤ j + n → f (over f v a m) (over f v (a + j) n) ≡ over f v a (j + n)
over_joined f laws v zero m n a meets le =
    ap (λ (t : ℕ). f (over f v a m) (over f v t n)) (add-zero a) ∙ over-absorbed f laws v m n a (omega arith) ∙ ap (over f v a) (sym (zero-add n))
over_joined f laws v (suc j) zero n a meets le =
    let j-is : j ≡ 0 = omega arith in
    ap (λ (t : ℕ). f (v a) (over f v (a + suc t) n)) j-is
    ∙ ap (λ (t : ℕ). f (v a) (over f v (a + 1) t)) (sym (zero-add n))
    ∙ ap (λ (t : ℕ). f (v a) (over f v (a + 1) (t + n))) (sym j-is)
    ∙ ap (over f v a) (sym (suc-add j n))
over_joined f laws v (suc j) (suc m) n a meets le =
    laws.associates (v a) (over f v (a + 1) m) (over f v (a + suc j) n)
    ∙ ap (λ (t : ℕ). f (v a) (f (over f v (a + 1) m) (over f v t n))) (one_on a j)
    ∙ ap (f (v a)) (over_joined f laws v j m n (a + 1) (omega arith) (omega arith))
    ∙ ap (over f v a) (sym (suc-add j n))
  where
    one_on : (a j : ℕ) → a + suc j ≡ a + 1 + j
    one_on a j = omega arith

-- a power of 2 that is more than another is at least twice as much
pow-twice : (i j : ℕ) → 2 ^ i < 2 ^ j → 2 * 2 ^ i ≤ 2 ^ j
pow-twice i j less = elim (cases_lt i j) [
  | inl below ↦
      let le = pow-le-pow_right {n = 2} (omega arith) {i = i + 1} {j = j} (omega arith) in
      omega (arith, le, pow_more 2 i)
  | inr above ↦
      let le = pow-le-pow_right {n = 2} (omega arith) {i = j} {j = i} above in
      absurd (omega (arith, le))
]

-- rows of which those from `at` on have been taken on by the row that was made last, and the others not yet
pub record IsGrowing {A : Type 0} (f : A → A → A) (value : ℕ → ℕ → A) (d : A) (w k last taken at : ℕ) (rows : List A) : Type 0 where
  pub power : ℕ
  pub taken_is : taken ≡ 2 ^ power
  pub part : (i x y : ℕ) → x < w → at ≤ y → y < last + 1 → 2 ^ i ≤ last + 1 - y → last + 1 - y < 2 * 2 ^ i → last + 1 - y < k → get_or rows (y * w + x) d ≡ over f (value x) y (2 ^ i - 1)
  pub whole : (x y : ℕ) → x < w → at ≤ y → y + k ≤ last + 1 → get_or rows (y * w + x) d ≡ over f (value x) y (k - 1)
  pub part_above : (i x y : ℕ) → x < w → y < at → 2 ^ i ≤ last - y → last - y < 2 * 2 ^ i → last - y < k → get_or rows (y * w + x) d ≡ over f (value x) y (2 ^ i - 1)
  pub whole_above : (x y : ℕ) → x < w → y < at → y + k ≤ last → get_or rows (y * w + x) d ≡ over f (value x) y (k - 1)

pub growing_first : {A : Type 0} (f : A → A → A) (value : ℕ → ℕ → A) (d : A) (w k last : ℕ) (rows : List A) → 0 < k → IsGrown f value d w k last rows
    → ((x : ℕ) → x < w → get_or rows (last * w + x) d ≡ value x last) → IsGrowing f value d w k last 1 last rows
growing_first f value d w k last rows some before made = record {
  power = 0;
  taken_is = refl;
  part = λ i x y less from below le more short.
      let y-is : y ≡ last = omega arith in
      let one : 2 ^ i - 1 ≡ 0 = omega arith in
      rw (y-is, one) (made x less);
  whole = λ x y less from le.
      let y-is : y ≡ last = omega arith in
      let one : k - 1 ≡ 0 = omega arith in
      rw (y-is, one) (made x less);
  part_above = λ i x y less above le more short. before.part i x y less above le more short;
  whole_above = λ x y less above le. before.whole x y less le;
}

-- the row that is merged with the one `down` rows below it
merged_row : {A : Type 0} (f : A → A → A) → IsExtremum f → (value : ℕ → ℕ → A) (d : A) (w k last taken at down to : ℕ) (rows made : List A) → IsGrowing f value d w k last taken at rows
    → 0 < taken → taken < k → down ≤ taken → 0 < down → at ≡ to + down → at + taken ≡ last + 1
    → ((x : ℕ) (d : A) → x < w → get_or made (to * w + x) d ≡ f (get_or rows (to * w + x) d) (get_or rows ((to + down) * w + x) d))
    → down + taken ≤ k → (x : ℕ) → x < w → get_or made (to * w + x) d ≡ over f (value x) to (down + (taken - 1))
merged_row f laws value d w k last taken at down to rows made g some short most any at-is sum made-is room x less =
    made-is x d less
    ∙ ap (λ (t : _). f t (get_or rows ((to + down) * w + x) d)) (g.part_above g.power x to less (omega arith) (omega (arith, g.taken_is)) (omega (arith, g.taken_is)) (omega arith))
    ∙ ap (λ (t : ℕ). f (over f (value x) to (2 ^ g.power - 1)) (get_or rows (t * w + x) d)) (sym at-is)
    ∙ ap (f (over f (value x) to (2 ^ g.power - 1))) (g.part g.power x at less (omega arith) (omega arith) (omega (arith, g.taken_is)) (omega (arith, g.taken_is)) (omega arith))
    ∙ ap (λ (t : ℕ). f (over f (value x) to (t - 1)) (over f (value x) at (t - 1))) (sym g.taken_is)
    ∙ ap (λ (t : ℕ). f (over f (value x) to (taken - 1)) (over f (value x) t (taken - 1))) at-is
    ∙ over_joined f laws (value x) down (taken - 1) (taken - 1) to (omega arith) (omega arith)

-- a row between the last two that were merged stays as it is
row_between : {A : Type 0} (f : A → A → A) (value : ℕ → ℕ → A) (d : A) (w k last taken at : ℕ) (rows : List A) → IsGrowing f value d w k last taken at rows → at + taken ≡ last + 1
    → (i x y : ℕ) → x < w → y < at → last + 1 - y < 2 * taken → 2 ^ i ≤ last + 1 - y → last + 1 - y < 2 * 2 ^ i → last + 1 - y < k → get_or rows (y * w + x) d ≡ over f (value x) y (2 ^ i - 1)
row_between f value d w k last taken at rows g sum i x y less above near le more short = elim (cases_lt (2 ^ i) (last + 1 - y)) [
  | inl below ↦
      g.part_above i x y less above (omega arith) (omega arith) (omega arith)
  | inr same ↦
      let far = pow-twice g.power i (omega (arith, g.taken_is)) in
      absurd (omega (arith, far, g.taken_is))
]

pub growing_more : {A : Type 0} (f : A → A → A) → IsExtremum f → (value : ℕ → ℕ → A) (d : A) (w k last taken at to more : ℕ) (rows made : List A) → IsGrowing f value d w k last taken at rows
    → 0 < taken → taken * 2 ≤ k → at ≡ to + taken → more ≡ taken * 2 → at + taken ≡ last + 1
    → ((x : ℕ) (d : A) → x < w → get_or made (to * w + x) d ≡ f (get_or rows (to * w + x) d) (get_or rows ((to + taken) * w + x) d))
    → ((x y : ℕ) (d : A) → x < w → y < to → get_or made (y * w + x) d ≡ get_or rows (y * w + x) d)
    → ((x y : ℕ) (d : A) → x < w → to < y → get_or made (y * w + x) d ≡ get_or rows (y * w + x) d)
    → IsGrowing f value d w k last more to made
growing_more f laws value d w k last taken at to more rows made g some room at-is more-is sum row-is above-is below-is = record {
  power = g.power + 1;
  taken_is = more-is ∙ ap (λ (t : ℕ). t * 2) g.taken_is ∙ sym (pow_more 2 g.power);
  part = λ i x y less from below le most short. elim (cases_lt to y) [
    | inl past ↦
        below-is x y d less past
        ∙ elim (cases_lt y at) [
          | inl between ↦
              row_between f value d w k last taken at rows g sum i x y less between (omega arith) le most short
          | inr done ↦
              g.part i x y less done below le most short
        ]
    | inr here ↦
        let y-is : y ≡ to = omega arith in
        let far = pow-twice g.power i (omega (arith, g.taken_is)) in
        let last_place : taken + (taken - 1) ≡ 2 ^ i - 1 = omega (arith, far, g.taken_is) in
        rw y-is (merged_row f laws value d w k last taken at taken to rows made g some (omega arith) (omega arith) some at-is sum row-is (omega arith) x less ∙ ap (over f (value x) to) last_place)
  ];
  whole = λ x y less from le.
      let y-is : y ≡ to = omega arith in
      let last_place : taken + (taken - 1) ≡ k - 1 = omega arith in
      rw y-is (merged_row f laws value d w k last taken at taken to rows made g some (omega arith) (omega arith) some at-is sum row-is (omega arith) x less ∙ ap (over f (value x) to) last_place);
  part_above = λ i x y less above le most short. above-is x y d less above ∙ g.part_above i x y less (omega arith) le most short;
  whole_above = λ x y less above le. above-is x y d less above ∙ g.whole_above x y less (omega arith) le;
}

-- the last step, to columns of k
pub grown_last : {A : Type 0} (f : A → A → A) → IsExtremum f → (value : ℕ → ℕ → A) (d : A) (w k last taken at down to : ℕ) (rows made : List A) → IsGrowing f value d w k last taken at rows
    → 0 < taken → k < taken * 2 → down + taken ≡ k → 0 < down → at ≡ to + down → at + taken ≡ last + 1
    → ((x : ℕ) (d : A) → x < w → get_or made (to * w + x) d ≡ f (get_or rows (to * w + x) d) (get_or rows ((to + down) * w + x) d))
    → ((x y : ℕ) (d : A) → x < w → y < to → get_or made (y * w + x) d ≡ get_or rows (y * w + x) d)
    → ((x y : ℕ) (d : A) → x < w → to < y → get_or made (y * w + x) d ≡ get_or rows (y * w + x) d)
    → IsGrown f value d w k (last + 1) made
grown_last f laws value d w k last taken at down to rows made g some short down-is any at-is sum row-is above-is below-is = record {
  part = λ i x y less below le most few.
      below-is x y d less (omega arith)
      ∙ elim (cases_lt y at) [
        | inl between ↦
            row_between f value d w k last taken at rows g sum i x y less between (omega arith) le most few
        | inr done ↦
            g.part i x y less done below le most few
      ];
  whole = λ x y less le. elim (cases_lt y to) [
    | inl above ↦
        above-is x y d less above ∙ g.whole_above x y less (omega arith) (omega arith)
    | inr here ↦
        let y-is : y ≡ to = omega arith in
        let last_place : down + (taken - 1) ≡ k - 1 = omega arith in
        rw y-is (merged_row f laws value d w k last taken at down to rows made g some (omega arith) (omega arith) any at-is sum row-is (omega arith) x less ∙ ap (over f (value x) to) last_place)
  ];
}

-- rows in which no more can be merged
pub grown_same : {A : Type 0} (f : A → A → A) (value : ℕ → ℕ → A) (d : A) (w k last taken at : ℕ) (rows : List A) → IsGrowing f value d w k last taken at rows
    → 0 < taken → taken ≤ k → at + taken ≡ last + 1 → (taken ≡ k) ⊎ (at + taken < k) → (k < taken * 2) ⊎ (at < taken) → IsGrown f value d w k (last + 1) rows
grown_same f value d w k last taken at rows g some within sum most near = record {
  part = λ i x y less below le more short. elim (cases_lt y at) [
    | inl above ↦
        row_between f value d w k last taken at rows g sum i x y less above (short_of most near y above short) le more short
    | inr done ↦
        g.part i x y less done below le more short
  ];
  whole = λ x y less le. elim (cases_lt y at) [
    | inl above ↦
        g.whole_above x y less above (whole_by most y above le)
    | inr done ↦
        g.whole x y less done le
  ];
}
  where
    short_of : (taken ≡ k) ⊎ (at + taken < k) → (k < taken * 2) ⊎ (at < taken) → (y : ℕ) → y < at → last + 1 - y < k → last + 1 - y < 2 * taken
    short_of most (inl twice_short) y above short = omega arith
    short_of most (inr near) y above short = omega arith

    whole_by : (taken ≡ k) ⊎ (at + taken < k) → (y : ℕ) → y < at → y + k ≤ last + 1 → y + k ≤ last
    whole_by (inl all) y above le = omega arith
    whole_by (inr few) y above le = absurd (omega arith)

-- rows with one more behind them
pub grown_longer : {A : Type 0} (f : A → A → A) (value : ℕ → ℕ → A) (d : A) (w k y : ℕ) (rows line : List A) → 0 < k → length rows ≡ y * w → IsGrown f value d w k y rows → IsGrown f value d w k y (rows ++ line)
grown_longer f value d w k y rows line some size before = record {
  part = λ i x j less below le more short. get_or_append_left rows line d (j * w + x) (omega (arith, size, mul-add-lt j w x y below less)) ∙ before.part i x j less below le more short;
  whole = λ x j less le. get_or_append_left rows line d (j * w + x) (omega (arith, size, mul-add-lt j w x y (omega arith) less)) ∙ before.whole x j less le;
}

-- the row that was put behind the others
pub row_behind : {A : Type 0} (w y m : ℕ) (rows line : List A) (d : A) → length rows ≡ y * w → m ≡ w → w ≤ length line → (x : ℕ) → x < w → get_or (rows ++ take m line) (y * w + x) d ≡ get_or line x d
row_behind w y m rows line d size m-is le x less =
    get_or-append_right rows (take m line) (y * w) (y * w + x) d size (omega arith) ∙ ap (λ (t : ℕ). get_or (take m line) t d) (add-sub_cancel_left (y * w) x) ∙ get_or-take m line x d (omega arith)

-- a row merged with one further down, in the part of the rows that has both
pub row_merged : {A : Type 0} (f : A → A → A) (w at down m : ℕ) (rows made : List A) (x : ℕ) (d : A) → at * w + (down * w + w) ≤ length rows → m ≡ down * w + w → length made ≡ m
    → get_or made x d ≡ f (get_or (take m (drop (at * w) rows)) x d) (get_or (take m (drop (at * w) rows)) (x + down * w) d) → x < w
    → get_or (put_mid (at * w) m rows made) (at * w + x) d ≡ f (get_or rows (at * w + x) d) (get_or rows ((at + down) * w + x) d)
row_merged f w at down m rows made x d room m-is len made-is less =
    get_or-put_mid_within (at * w) m rows made (at * w + x) d (omega arith) (omega arith) (omega arith)
    ∙ ap (λ (t : ℕ). get_or made t d) (add-sub_cancel_left (at * w) x)
    ∙ made-is
    ∙ ap (λ (t : _). f t (get_or (take m (drop (at * w) rows)) (x + down * w) d)) (get_or-take m (drop (at * w) rows) x d (omega arith) ∙ get_or-drop (at * w) rows x d)
    ∙ ap (f (get_or rows (at * w + x) d)) (get_or-take m (drop (at * w) rows) (x + down * w) d (omega arith) ∙ get_or-drop (at * w) rows (x + down * w) d ∙ ap (λ (t : ℕ). get_or rows t d) (place at w x down))
  where
    place : (at w x down : ℕ) → at * w + (x + down * w) ≡ (at + down) * w + x
    place at w x down = omega arith

-- the rows further down stay, in that part and behind it
pub row_below : {A : Type 0} (w at m : ℕ) (rows made : List A) (x y : ℕ) (d : A) → at * w + m ≤ length rows → length made ≡ m
    → ((p : ℕ) (d : A) → w ≤ p → get_or made p d ≡ get_or (take m (drop (at * w) rows)) p d) → x < w → at < y
    → get_or (put_mid (at * w) m rows made) (y * w + x) d ≡ get_or rows (y * w + x) d
row_below w at m rows made x y d room len past less below =
    let le : at + 1 ≤ y = omega arith in
    let most = mul-le-mul_left w le in
    elim (cases_lt (y * w + x) (at * w + m)) [
      | inl within ↦
          get_or-put_mid_within (at * w) m rows made (y * w + x) d (omega arith) (omega (arith, most)) (omega arith)
          ∙ past (y * w + x - at * w) d (omega (arith, most))
          ∙ get_or-take m (drop (at * w) rows) (y * w + x - at * w) d (omega (arith, most))
          ∙ get_or-drop (at * w) rows (y * w + x - at * w) d
          ∙ ap (λ (t : ℕ). get_or rows t d) (add-sub_of_le (omega (arith, most)))
      | inr behind ↦
          get_or-put_mid_above (at * w) m rows made (y * w + x) d (omega arith) len behind
    ]

-- and so do those further up
pub row_above : {A : Type 0} (w at m : ℕ) (rows made : List A) (x y : ℕ) (d : A) → at * w ≤ length rows → x < w → y < at → get_or (put_mid (at * w) m rows made) (y * w + x) d ≡ get_or rows (y * w + x) d
row_above w at m rows made x y d room less above = get_or-put_mid_below (at * w) m rows made (y * w + x) d room (omega (arith, mul-add-lt y w x at above less))

-- no rows
pub grown_none : {A : Type 0} (f : A → A → A) (value : ℕ → ℕ → A) (d : A) (w k : ℕ) (rows : List A) → 0 < k → IsGrown f value d w k 0 rows
grown_none f value d w k rows some = record { part = λ i x y less below le more short. absurd (omega arith); whole = λ x y less le. absurd (omega arith) }
