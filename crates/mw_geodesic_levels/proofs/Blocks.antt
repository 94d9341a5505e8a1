-- Blocks along a row that are raised by doubling.
use Rattle.std.proofs.Common.{◌≡◌, ℕ, zero, suc, ◌+◌, ◌-◌, ◌*◌, ◌<◌, ◌≤◌, Bool, true, false, min, max, replicate, ap, sym, refl, arith, ◌∙◌, inl, inr}
use Rattle.std.proofs.lemmas.Bool.{cases_lt, cases_eq, false≢true}
use Rattle.std.proofs.lemmas.List.{get_or-map, get_or-replicate, length-replicate}
use Rattle.mw_geodesic_levels.specs.declared.frame.Frame.{Frame}
use Rattle.mw_geodesic_levels.specs.Levels.{level_numbered, IsPut, IsStill, IsRaised}
use Rattle.mw_geodesic_levels.specs.Runs.{along, column, IsUnderRun}
use Rattle.mw_geodesic_levels.proofs.Raises.{in_frame}

-- ---- one doubling

-- one sample more is raised
pub double_under : (by : ℕ) (run ways now next h : ℕ → ℕ) (j s : ℕ) → 64 ≤ j → j < 128 → by ≤ 64 → s ≡ max (run j) (min (run (j - by)) (ways j)) → IsPut s j now next
    → IsUnderRun by run ways h → ((k : ℕ) → k < j → now k ≤ h k) → (k : ℕ) → k < j + 1 → next k ≤ h k
double_under by run ways now next h j s from to small is put old under k lt = elim (cases_eq k j) [
  | inl e ↦
      let here = put.here in
      let at : j - by + by ≡ j = omega arith in
      let low = old.under j to in
      let before = old.under (j - by) (omega arith) in
      let reached = old.reached (j - by) (omega arith) in
      rw e (omega (arith, ap ways at, ap h at))
  | inr ne ↦ let below = under k (omega arith) in omega (arith, put.others k ne)
]

-- the first half stays
pub begun_still : (run now next : ℕ → ℕ) (j s : ℕ) → 64 ≤ j → IsPut s j now next → ((k : ℕ) → k < 64 → now k ≡ run k) → (k : ℕ) → k < 64 → next k ≡ run k
begun_still run now next j s from put begun k lt = put.others k (λ e. absurd (omega arith)) ∙ begun k lt

-- what is known of the ways while they are made twice as long
pub record AreDoubled (by : ℕ) (ways now : ℕ → ℕ) (end : ℕ) : Type 0 where
  pub before : (k : ℕ) → k < 64 → now k ≡ ways k
  pub one : (k : ℕ) → 64 ≤ k → k < end → now k ≤ ways k
  pub two : (k : ℕ) → 64 ≤ k → k < end → now k ≤ ways (k - by)

pub doubled_more : (by : ℕ) (ways now next : ℕ → ℕ) (j s : ℕ) → 64 ≤ j → s ≡ min (ways j) (ways (j - by)) → IsPut s j now next → AreDoubled by ways now j → AreDoubled by ways next (j + 1)
doubled_more by ways now next j s from is put old = record {
  before = λ k lt. put.others k (λ e. absurd (omega arith)) ∙ old.before k lt;
  one = λ k low lt. elim (cases_eq k j) [
    | inl e ↦ let here = put.here in rw e (omega arith)
    | inr ne ↦ let same = put.others k ne in let less = old.one k low (omega arith) in omega arith
  ];
  two = λ k low lt. elim (cases_eq k j) [
    | inl e ↦ let here = put.here in rw e (omega arith)
    | inr ne ↦ let same = put.others k ne in let less = old.two k low (omega arith) in omega arith
  ];
}

pub doubled : (by end : ℕ) (run ways next longer h : ℕ → ℕ) → by ≤ 64 → 128 ≤ end → IsUnderRun by run ways h → ((k : ℕ) → k < end → next k ≤ h k) → AreDoubled by ways longer end → IsUnderRun (by + by) next longer h
doubled by end run ways next longer h small all old under made = record {
  under = λ k lt. under k (omega arith);
  reached = λ j lt. elim (cases_lt (j + (by + by)) 64) [
    | inl low ↦
        let one = old.flat j (omega arith) in
        let two = old.flat (j + (by + by)) low in
        omega arith
    | inr high ↦
        let at : j + (by + by) - by ≡ j + by = omega arith in
        let twice : j + by + by ≡ j + (by + by) = omega arith in
        let first = old.reached j (omega arith) in
        let second = old.reached (j + by) (omega arith) in
        let less = made.one (j + (by + by)) high (omega arith) in
        let more = made.two (j + (by + by)) high (omega arith) in
        omega (arith, ap ways at, ap ways twice, ap h twice)
  ];
  flat = old.flat;
}

-- ---- a block of a row

-- levels along a row, behind as many that all are that of the place before
abbrev ahead_from : (ℕ → ℕ) → Bool → ℕ → ℕ → ℕ → ℕ
ahead_from h forward start before zero = h before
ahead_from h forward start before (suc k) = h (along forward start k)

abbrev ahead : (ℕ → ℕ) → Bool → ℕ → ℕ → ℕ → ℕ
ahead h forward start before j = ahead_from h forward start before (j - 63)

ahead_low : (h : ℕ → ℕ) (forward : Bool) (start before j : ℕ) → j < 64 → ahead h forward start before j ≡ h before
ahead_low h forward start before j lt = let none : j - 63 ≡ 0 = omega arith in ap (ahead_from h forward start before) none

ahead_high : (h : ℕ → ℕ) (forward : Bool) (start before k : ℕ) → ahead h forward start before (64 + k) ≡ h (along forward start k)
ahead_high h forward start before k = let more : 64 + k - 63 ≡ suc k = omega arith in ap (ahead_from h forward start before) more

-- the levels over an image along a block of a row are over what was loaded of it
pub run_under : (mask f h run ways : ℕ → ℕ) (forward : Bool) (start before size last : ℕ) → before < size → ((k : ℕ) → k < 64 → along forward start k < size) → ((i : ℕ) → i < size → f i ≤ h i)
    → last ≡ f before → ((j : ℕ) → j < 64 → run j ≡ last) → ((k : ℕ) → k < 64 → run (64 + k) ≡ f (along forward start k)) → ((k : ℕ) → k < 64 → ways (64 + k) ≡ mask (along forward start k))
    → min (h before) (mask (along forward start 0)) ≤ h (along forward start 0) → ((k : ℕ) → k + 1 < 64 → min (h (along forward start k)) (mask (along forward start (k + 1))) ≤ h (along forward start (k + 1)))
    → IsUnderRun 1 run ways (ahead h forward start before)
run_under mask f h run ways forward start before size last inside within under last_is low high ways_are first next = record {
  under = λ j lt. elim (cases_lt j 64) [
    | inl less ↦
        let one = low j less in
        let top = under before inside in
        omega (arith, ahead_low h forward start before j less)
    | inr more ↦
        let at : 64 + (j - 64) ≡ j = omega arith in
        let one = high (j - 64) (omega arith) in
        let top = under (along forward start (j - 64)) (within (j - 64) (omega arith)) in
        omega (arith, ap run at, ap (ahead h forward start before) at, ahead_high h forward start before (j - 64))
  ];
  reached = λ j lt. elim (cases_lt (j + 1) 64) [
    | inl less ↦ omega (arith, ahead_low h forward start before j (omega arith), ahead_low h forward start before (j + 1) less)
    | inr more ↦ elim (cases_eq j 63) [
      | inl e ↦
          let at : 64 + 0 ≡ j + 1 = omega arith in
          let one = ways_are 0 (omega arith) in
          omega (arith, ap ways at, ap (ahead h forward start before) at, ahead_low h forward start before j (omega arith), ahead_high h forward start before 0)
      | inr ne ↦
          let at : 64 + (j - 64) ≡ j = omega arith in
          let end : 64 + (j - 64 + 1) ≡ j + 1 = omega arith in
          let one = ways_are (j - 64 + 1) (omega arith) in
          let step = next (j - 64) (omega arith) in
          omega (arith, ap ways end, ap (ahead h forward start before) at, ap (ahead h forward start before) end, ahead_high h forward start before (j - 64), ahead_high h forward start before (j - 64 + 1))
    ]
  ];
  flat = λ j lt. ahead_low h forward start before j lt ∙ sym (ahead_low h forward start before 0 (omega arith));
}

-- ---- along a row of a frame

-- two places of a row, one beside the other
row_still : {frame : Frame} {mask h : ℕ → ℕ} (x u y : ℕ) → IsStill frame mask h → x < frame.width → u < frame.width → y < frame.height → x ≤ u + 1 → u ≤ x + 1
    → min (h (y * frame.width + u)) (mask (y * frame.width + x)) ≤ h (y * frame.width + x)
row_still x u y still p across q left right = still.still x y y p q q u across (record { left = left; right = right; above = omega arith; below = omega arith; across = inr (inr refl) })

column_is : (forward : Bool) (w p : ℕ) → p < w → column forward w p < w
column_is true w p lt = lt
column_is false w p lt = omega arith

column_step : (forward : Bool) (w p : ℕ) → p + 1 < w → (column forward w p ≤ column forward w (p + 1) + 1) × (column forward w (p + 1) ≤ column forward w p + 1)
column_step true w p lt = (omega arith, omega arith)
column_step false w p lt = (omega arith, omega arith)

pub along_is : (forward : Bool) (w y p k start : ℕ) → p + k < w → start ≡ y * w + column forward w p → along forward start k ≡ y * w + column forward w (p + k)
along_is true w y p k start lt is = omega arith
along_is false w y p k start lt is = omega arith

pub block_inside : (forward : Bool) (w h y p start : ℕ) → p + 64 ≤ w → y < h → start ≡ y * w + column forward w p → (k : ℕ) → k < 64 → along forward start k < h * w
block_inside forward w h y p start fits row is k lt =
    let at = along_is forward w y p k start (omega arith) is in
    let in_row = in_frame w h (column forward w (p + k)) y (column_is forward w (p + k) (omega arith)) row in
    omega arith

pub block_back : (forward : Bool) (w y p start : ℕ) → p + 64 ≤ w → start ≡ y * w + column forward w p → forward ≡ false → 63 ≤ start
block_back true w y p start fits is other = absurd (false≢true (sym other))
block_back false w y p start fits is other = omega arith

along_still : {frame : Frame} {mask h : ℕ → ℕ} (forward : Bool) (y p start k : ℕ) → IsStill frame mask h → y < frame.height → p + 64 ≤ frame.width → start ≡ y * frame.width + column forward frame.width p → k + 1 < 64
    → min (h (along forward start k)) (mask (along forward start (k + 1))) ≤ h (along forward start (k + 1))
along_still {frame} {mask} {h} forward y p start k still row fits is lt =
    let w = frame.width in
    let here = along_is forward w y p k start (omega arith) is in
    let end = along_is forward w y p (k + 1) start (omega arith) is in
    let same : p + (k + 1) ≡ p + k + 1 = omega arith in
    let near = column_step forward w (p + k) (omega arith) in
    let edge = row_still (column forward w (p + k + 1)) (column forward w (p + k)) y still (column_is forward w (p + k + 1) (omega arith)) (column_is forward w (p + k) (omega arith)) row near.1 near.0 in
    let at = end ∙ ap (λ (q : ℕ). y * w + column forward w q) same in
    omega (arith, ap h here, ap h at, ap mask at)

before_still : {frame : Frame} {mask h : ℕ → ℕ} (forward : Bool) (y p q start before : ℕ) → IsStill frame mask h → y < frame.height → p + 64 ≤ frame.width → q ≡ p - 1 → start ≡ y * frame.width + column forward frame.width p
    → before ≡ y * frame.width + column forward frame.width q → min (h before) (mask (along forward start 0)) ≤ h (along forward start 0)
before_still {frame} {mask} {h} forward y p q start before still row fits before_is is at = elim (cases_lt 0 p) [
  | inl some ↦
      let w = frame.width in
      let here = along_is forward w y p 0 start (omega arith) is in
      let same : p + 0 ≡ q + 1 = omega arith in
      let near = column_step forward w q (omega arith) in
      let edge = row_still (column forward w (q + 1)) (column forward w q) y still (column_is forward w (q + 1) (omega arith)) (column_is forward w q (omega arith)) row near.1 near.0 in
      let there = here ∙ ap (λ (r : ℕ). y * w + column forward w r) same in
      omega (arith, ap h there, ap mask there, ap h at)
  | inr none ↦
      let w = frame.width in
      let here = along_is forward w y p 0 start (omega arith) is in
      let same : p + 0 ≡ q = omega arith in
      let there = here ∙ ap (λ (r : ℕ). y * w + column forward w r) same ∙ sym at in
      omega (arith, ap h there)
]

-- A block is raised: what stands in its run is under each still image that the image is under.
pub block_raised : (frame : Frame) (mask f g run ways made : ℕ → ℕ) (forward : Bool) (y p q start before last : ℕ) → y < frame.height → p + 64 ≤ frame.width → q ≡ p - 1 → start ≡ y * frame.width + column forward frame.width p
    → before ≡ y * frame.width + column forward frame.width q → before < frame.height * frame.width → last ≡ f before → ((j : ℕ) → j < 64 → run j ≡ last) → ((k : ℕ) → k < 64 → run (64 + k) ≡ f (along forward start k))
    → ((k : ℕ) → k < 64 → ways (64 + k) ≡ mask (along forward start k)) → ((h : ℕ → ℕ) → IsUnderRun 1 run ways h → (j : ℕ) → j < 128 → made j ≤ h j) → ((i : ℕ) → i < frame.height * frame.width → f i ≤ g i)
    → ((h : ℕ → ℕ) → ((k : ℕ) → k < 64 → made (64 + k) ≤ h (along forward start k)) → ((i : ℕ) → i < frame.height * frame.width → f i ≤ h i) → (i : ℕ) → i < frame.height * frame.width → g i ≤ h i)
    → IsRaised frame mask f g
block_raised frame mask f g run ways made forward y p q start before last row fits before_is is at inside last_is low high ways_are spread over within = record {
  over = over;
  within = λ h still under.
      let known = run_under mask f h run ways forward start before (frame.height * frame.width) last inside (block_inside forward frame.width frame.height y p start fits row is) under last_is low high ways_are
      (before_still forward y p q start before still row fits before_is is at) (λ k lt. along_still forward y p start k still row fits is lt) in
      within h (λ k lt. let top = spread (ahead h forward start before) known (64 + k) (omega arith) in omega (arith, ahead_high h forward start before k)) under;
}

-- ---- what is loaded, and stored

-- a run of one sample
pub replicated : {A : Type 0} (level : A → ℕ) (a : A) (n j : ℕ) → j < n → level_numbered level (replicate n a) j ≡ level a
replicated level a n j lt = get_or-map level (replicate n a) j a 0 (omega (arith, length-replicate n a)) ∙ ap level (get_or-replicate n j a a lt)

-- one sample more is loaded
pub loaded_more : (init now next f : ℕ → ℕ) (forward : Bool) (start k i s : ℕ) → i ≡ 64 + k → s ≡ f (along forward start k) → IsPut s i now next → ((j : ℕ) → j < 64 → now j ≡ init j) → ((j : ℕ) → j < k → now (64 + j) ≡ f (along forward start j))
    → ((j : ℕ) → j < 64 → next j ≡ init j) × ((j : ℕ) → j < k + 1 → next (64 + j) ≡ f (along forward start j))
loaded_more init now next f forward start k i s at is put before block = (
  λ j lt. put.others j (λ e. absurd (omega arith)) ∙ before j lt,
  λ j lt. elim (cases_eq j k) [
    | inl e ↦ rw e (ap next (sym at) ∙ put.here ∙ is)
    | inr ne ↦ put.others (64 + j) (λ e. absurd (omega arith)) ∙ block j (omega arith)
  ],
)

-- one sample more is stored, which is under the levels h
pub stored_over : (init now next : ℕ → ℕ) (size i s t : ℕ) → s ≡ max (now i) t → IsPut s i now next → ((j : ℕ) → j < size → init j ≤ now j) → (j : ℕ) → j < size → init j ≤ next j
stored_over init now next size i s t is put over j lt = elim (cases_eq j i) [
  | inl e ↦
      let here = put.here in
      let old = over j lt in
      omega (arith, ap now e, ap next e)
  | inr ne ↦ let old = over j lt in omega (arith, put.others j ne)
]

pub stored_under : (now next h : ℕ → ℕ) (size i s t : ℕ) → i < size → s ≡ max (now i) t → t ≤ h i → IsPut s i now next → ((j : ℕ) → j < size → now j ≤ h j) → (j : ℕ) → j < size → next j ≤ h j
stored_under now next h size i s t inside is top put under j lt = elim (cases_eq j i) [
  | inl e ↦
      let here = put.here in
      let old = under i inside in
      rw e (omega arith)
  | inr ne ↦ let old = under j lt in omega (arith, put.others j ne)
]

-- the columns of two places of a row, one behind the other
pub column_near : (forward : Bool) (w q p : ℕ) → p ≡ q + 1 → p < w → (column forward w p ≤ column forward w q + 1) × (column forward w q ≤ column forward w p + 1)
column_near true w q p is lt = (omega arith, omega arith)
column_near false w q p is lt = (omega arith, omega arith)

-- numbers to the right
pub along_ahead : (forward : Bool) (start k : ℕ) → forward ≡ true → along forward start k ≡ start + k
along_ahead true start k is = refl
along_ahead false start k is = absurd (false≢true is)

-- an image of wide rows has room for a run
pub wide_enough : (w h y : ℕ) → 128 ≤ w → y < h → 128 ≤ h * w
wide_enough w h y wide row = let last = in_frame w h (w - 1) y (omega arith) row in omega arith
