-- Sums over places that are marked.
use Rattle.std.proofs.Common.{◌≡◌, ℕ, zero, suc, ◌+◌, ◌-◌, ◌*◌, ◌/◌, ◌%◌, ◌<◌, ◌≤◌, List, [], length, set, get_or, replicate, take, sum_by, refl, ap, subst, sym, arith, ◌∙◌, inl, inr, get_or-set_same, get_or-set_other}
use Rattle.std.proofs.Math.Nat.{mul-le-mul_right}
use Rattle.std.proofs.lemmas.Bool.{cases_lt, cases_eq, lt-ltb, le-ltb}
use Rattle.std.proofs.lemmas.List.{get_or_past, get_or-replicate}
use Rattle.std.proofs.lemmas.List.Sums.{sum_by_more}
use Rattle.std.proofs.lemmas.Nat.{div-mul-add, mod-mul-add, div-add-mod', div_below}
use Rattle.std.proofs.Math.ListN.{length-set}
use Rattle.std.proofs.lemmas.List.{length-replicate}
use Rattle.std.specs.List.{AllByRecursion}
use Rattle.mw_rank_bits.specs.Moves.{weighed, marks_at, marks_before, place_in, HasMarks, HasChanged}
use Rattle.mw_rank_bits.proofs.Walks.{sums_same}

pub weighed_same : (w v f : ℕ → ℕ) (n : ℕ) → ((t : ℕ) → t < n → w t ≡ v t) → weighed w f n ≡ weighed v f n
weighed_same w v f zero same = refl
weighed_same w v f (suc n) same =
    ap (λ (t : ℕ). t + w n * f n) (weighed_same w v f n (λ t lt. same t (omega arith))) ∙ ap (λ (t : ℕ). weighed v f n + t * f n) (same n (omega arith))

pub weighed_none : (w f : ℕ → ℕ) (n : ℕ) → ((t : ℕ) → t < n → w t ≡ 0) → weighed w f n ≡ 0
weighed_none w f zero none = refl
weighed_none w f (suc n) none =
    let front = weighed_none w f n (λ t lt. none t (omega arith)) in
    let here = ap (λ (t : ℕ). t * f n) (none n (omega arith)) in
    omega arith

-- places without weight change nothing
pub weighed_past : (w f : ℕ → ℕ) (n m : ℕ) → ((t : ℕ) → n ≤ t → w t ≡ 0) → weighed w f (m + n) ≡ weighed w f n
weighed_past w f n zero none = ap (weighed w f) (let e : 0 + n ≡ n = omega arith in e)
weighed_past w f n (suc m) none =
    let up : suc m + n ≡ suc (m + n) = omega arith in
    let front = weighed_past w f n m none in
    let here = ap (λ (t : ℕ). t * f (m + n)) (none (m + n) (omega arith)) in
    ap (weighed w f) up ∙ ap (λ (t : ℕ). weighed w f (m + n) + t) here ∙ nothing (weighed w f (m + n)) (f (m + n)) ∙ front
  where
    nothing : (a b : ℕ) → a + 0 * b ≡ a
    nothing a b = omega arith

-- one mark more
pub marked_more : (marks : List ℕ) (f : ℕ → ℕ) (i n : ℕ) → i < n → n ≤ length marks → weighed (marks_at (set marks i (get_or marks i 0 + 1))) f n ≡ weighed (marks_at marks) f n + f i
marked_more marks f i zero lt le = absurd (omega arith)
marked_more marks f i (suc n) lt le =
    let made = set marks i (get_or marks i 0 + 1) in
    elim (cases_eq i n) [
      | inl here ↦
          let front = weighed_same (marks_at made) (marks_at marks) f n (λ t less. get_or-set_other marks i t (get_or marks i 0 + 1) 0 (omega arith)) in
          let is : get_or made n 0 ≡ get_or marks n 0 + 1 =
          ap (λ (t : ℕ). get_or made t 0) (sym here) ∙ get_or-set_same marks i (get_or marks i 0 + 1) 0 (omega arith) ∙ ap (λ (t : ℕ). get_or marks t 0 + 1) here in
          let times = ap (λ (t : ℕ). t * f n) is in
          let there = ap f here in
          omega (arith, front, times, there)
      | inr other ↦
          let front = marked_more marks f i n (omega arith) (omega arith) in
          let is : get_or made n 0 ≡ get_or marks n 0 = get_or-set_other marks i n (get_or marks i 0 + 1) 0 (λ e. other (sym e)) in
          let times = ap (λ (t : ℕ). t * f n) is in
          omega (arith, front, times)
    ]

-- no marks
pub unmarked : (f : ℕ → ℕ) (count n : ℕ) → n ≤ count → weighed (marks_at (replicate count 0)) f n ≡ 0
unmarked f count n le = weighed_none (marks_at (replicate count 0)) f n (λ t lt. get_or-replicate count t 0 0 (omega arith))

pub marks_few : (marks : List ℕ) (i k n : ℕ) → i < length marks → ((k : ℕ) → get_or marks k 0 ≤ n) → get_or (set marks i (get_or marks i 0 + 1)) k 0 ≤ n + 1
marks_few marks i k n lt few = elim (cases_eq k i) [
  | inl here ↦
      let is : get_or (set marks i (get_or marks i 0 + 1)) k 0 ≡ get_or marks i 0 + 1 = ap (λ (t : ℕ). get_or (set marks i (get_or marks i 0 + 1)) t 0) here ∙ get_or-set_same marks i (get_or marks i 0 + 1) 0 lt in
      omega (arith, is, few i)
  | inr other ↦ omega (arith, get_or-set_other marks i k (get_or marks i 0 + 1) 0 other, few k)
]

-- marks that are looked up so many places before
before_none : (marks : List ℕ) (columns t : ℕ) → t < columns → marks_before marks columns t ≡ 0
before_none marks columns t lt = rw (lt-ltb t columns lt) refl

before_is : (marks : List ℕ) (columns t : ℕ) → columns ≤ t → marks_before marks columns t ≡ get_or marks (t - columns) 0
before_is marks columns t le = rw (le-ltb t columns le) refl

pub weighed_before : (marks : List ℕ) (columns : ℕ) (f : ℕ → ℕ) (n : ℕ) → weighed (marks_before marks columns) f (n + columns) ≡ weighed (marks_at marks) (λ t. f (t + columns)) n
weighed_before marks columns f zero = ap (weighed (marks_before marks columns) f) (let e : 0 + columns ≡ columns = omega arith in e) ∙ weighed_none (marks_before marks columns) f columns (before_none marks columns)
weighed_before marks columns f (suc n) =
    let up : suc n + columns ≡ suc (n + columns) = omega arith in
    let back : n + columns - columns ≡ n = omega arith in
    let here : marks_before marks columns (n + columns) ≡ get_or marks n 0 = before_is marks columns (n + columns) (omega arith) ∙ ap (λ (t : ℕ). get_or marks t 0) back in
    ap (weighed (marks_before marks columns) f) up
    ∙ ap (λ (t : ℕ). t + marks_before marks columns (n + columns) * f (n + columns)) (weighed_before marks columns f n)
    ∙ ap (λ (t : ℕ). weighed (marks_at marks) (λ t. f (t + columns)) n + t * f (n + columns)) here

pub marks_past : (marks : List ℕ) (t : ℕ) → length marks ≤ t → marks_at marks t ≡ 0
marks_past marks t past = get_or_past marks t 0 past

-- one row further down
pub place_below : (columns wide t : ℕ) → 0 < columns → place_in columns wide (t + columns) ≡ place_in columns wide t + wide
place_below columns wide t some =
    let down : (t + columns) / columns ≡ t / columns + 1 = next_row t columns some in
    let across : (t + columns) % columns ≡ t % columns = next_column t columns some in
    let rows = ap (λ (s : ℕ). s * wide) down in
    omega (arith, rows, across)
  where
    split : (t columns : ℕ) → t + columns ≡ (t / columns + 1) * columns + t % columns
    split t columns = let e = div-add-mod' t columns in omega arith

    mod_small : (t columns : ℕ) → 0 < columns → t % columns < columns
    mod_small t columns some = omega arith

    next_row : (t columns : ℕ) → 0 < columns → (t + columns) / columns ≡ t / columns + 1
    next_row t columns some = ap (λ (s : ℕ). s / columns) (split t columns) ∙ div-mul-add (t / columns + 1) columns (t % columns) (mod_small t columns some)

    next_column : (t columns : ℕ) → 0 < columns → (t + columns) % columns ≡ t % columns
    next_column t columns some = ap (λ (s : ℕ). s % columns) (split t columns) ∙ mod-mul-add (t / columns + 1) columns (t % columns) (mod_small t columns some)

pub place_small : (columns wide t rows : ℕ) → 0 < columns → t < rows * columns + columns → place_in columns wide t < rows * wide + columns
place_small columns wide t rows some lt =
    let column : t % columns < columns = omega arith in
    let row : t / columns < rows + 1 = div_below t columns (rows + 1) some (omega arith) in
    let least : t / columns ≤ rows = omega arith in
    let down = mul-le-mul_right wide least in
    omega (arith, down, column)

-- marks of no places, and of one place more
pub marks_none : (places : List ℕ) (count : ℕ) (marks : List ℕ) → ◌≡◌ {A = List ℕ} marks (replicate count 0) → HasMarks places count 0 marks
marks_none places count marks is = subst (HasMarks places count 0) (sym is) (record {
  size = length-replicate {A = ℕ} count 0;
  few = λ k. let none = no_mark count k in omega arith;
  sums = λ f. unmarked f count count (omega arith);
})
  where
    no_mark : (count k : ℕ) → ◌≡◌ {A = ℕ} (get_or (replicate count 0) k 0) 0
    no_mark count k = elim (cases_lt k count) [ inl lt ↦ get_or-replicate count k 0 0 lt | inr past ↦ get_or_past (replicate count 0) k 0 (omega (arith, length-replicate {A = ℕ} count 0)) ]

pub marks_next : (places : List ℕ) (count i p v : ℕ) (marks : List ℕ) → p ≡ get_or places i 0 → v ≡ get_or marks p 0 → i < length places → p < count → HasMarks places count i marks → HasMarks places count (i + 1) (set marks p (v + 1))
marks_next places count i p v marks p-is v-is lt inside before =
    let size = before.size in
    subst (λ (t : ℕ). HasMarks places count (i + 1) (set marks p (t + 1))) (sym v-is) (record {
      size = length-set marks p (get_or marks p 0 + 1) ∙ before.size;
      few = λ k. marks_few marks p k i (omega arith) before.few;
      sums = λ f. marked_more marks f p count inside (omega arith) ∙ ap (λ (t : ℕ). t + f p) (before.sums f) ∙ ap (λ (t : ℕ). sum_by f (take i places) + f t) p-is ∙ sym (sum_by_more f places i 0 lt);
    })

-- one place more
pub changed_more : (marks : List ℕ) (columns wide limit t place here above more less : ℕ) (entered left entered_new left_new : List ℕ) → place ≡ place_in columns wide t → here ≡ marks_at marks t → above ≡ marks_before marks columns t
    → more ≡ above - here → less ≡ here - above → place < limit
    → ((f : ℕ → ℕ) → sum_by f entered_new ≡ sum_by f entered + more * f place) → ((n : ℕ) → place < n → AllByRecursion (λ (s : ℕ). s < n) entered → AllByRecursion (λ (s : ℕ). s < n) entered_new)
    → ((f : ℕ → ℕ) → sum_by f left_new ≡ sum_by f left + less * f place) → ((n : ℕ) → place < n → AllByRecursion (λ (s : ℕ). s < n) left → AllByRecursion (λ (s : ℕ). s < n) left_new)
    → HasChanged marks columns wide limit t entered left → HasChanged marks columns wide limit (t + 1) entered_new left_new
changed_more marks columns wide limit t place here above more less entered left entered_new left_new place-is here-is above-is more-is less-is inside entered-sum entered-below left-sum left-below before =
    let up : suc t ≡ t + 1 = omega arith in
    subst (λ (n : ℕ). HasChanged marks columns wide limit n entered_new left_new) up (record {
      balance = λ f.
          let there = ap f place-is in
          step (marks_at marks t) (marks_before marks columns t) more less (f place) (f (place_in columns wide t)) _ _ _ _ _ _ (more-is ∙ ap (λ (n : ℕ). n - here) above-is ∙ ap (λ (n : ℕ). marks_before marks columns t - n) here-is)
          (less-is ∙ ap (λ (n : ℕ). n - above) here-is ∙ ap (λ (n : ℕ). marks_at marks t - n) above-is) there (before.balance f) (entered-sum f) (left-sum f);
      part = λ f.
          let there = ap f place-is in
          part_step (marks_at marks t) (marks_before marks columns t) less (f place) (f (place_in columns wide t)) _ _ _ (less-is ∙ ap (λ (n : ℕ). n - above) here-is ∙ ap (λ (n : ℕ). marks_at marks t - n) above-is) there (before.part f) (left-sum f);
      entered_below = entered-below limit inside before.entered_below;
      left_below = left-below limit inside before.left_below;
    })
  where
    step : (h a more less v w e l x y e_new l_new : ℕ) → more ≡ a - h → less ≡ h - a → v ≡ w → e + x ≡ l + y → e_new ≡ e + more * v → l_new ≡ l + less * v → e_new + (x + h * w) ≡ l_new + (y + a * w)
    step h a more less v w e l x y e_new l_new more-is less-is same balance e-is l-is =
        let both : more + h ≡ less + a = omega arith in
        let times = ap (λ (n : ℕ). n * w) both in
        let more_same = ap (λ (n : ℕ). more * n) same in
        let less_same = ap (λ (n : ℕ). less * n) same in
        omega (arith, times, more_same, less_same)

    part_step : (h a less v w l x l_new : ℕ) → less ≡ h - a → v ≡ w → l ≤ x → l_new ≡ l + less * v → l_new ≤ x + h * w
    part_step h a less v w l x l_new less-is same part l-is =
        let few : less ≤ h = omega arith in
        let times = mul-le-mul_right w few in
        let less_same = ap (λ (n : ℕ). less * n) same in
        omega (arith, times, less_same)

pub changed_none : (marks : List ℕ) (columns wide limit : ℕ) (entered left : List ℕ) → entered ≡ [] → left ≡ [] → HasChanged marks columns wide limit 0 entered left
changed_none marks columns wide limit entered left entered-is left-is =
    subst (λ (l : List ℕ). HasChanged marks columns wide limit 0 entered l) (sym left-is) (subst (λ (l : List ℕ). HasChanged marks columns wide limit 0 l []) (sym entered-is)
    (record { balance = λ f. refl; part = λ f. omega arith; entered_below = tt; left_below = tt }))

-- the changes of all places that are marked
all_weighed : (places marks : List ℕ) (count columns : ℕ) → length marks ≡ count → ((f : ℕ → ℕ) → weighed (marks_at marks) f count ≡ sum_by f places) → (f : ℕ → ℕ) → weighed (marks_at marks) f (count + columns) ≡ sum_by f places
all_weighed places marks count columns size sums f =
    let turn : count + columns ≡ columns + count = omega arith in
    ap (weighed (marks_at marks) f) turn ∙ weighed_past (marks_at marks) f count columns (λ t past. marks_past marks t (omega arith)) ∙ sums f

pub changed_balance : (places marks : List ℕ) (count columns wide limit : ℕ) (entered left : List ℕ) → 0 < columns → length marks ≡ count → ((f : ℕ → ℕ) → weighed (marks_at marks) f count ≡ sum_by f places)
    → HasChanged marks columns wide limit (count + columns) entered left
    → (f : ℕ → ℕ) → sum_by f entered + sum_by (λ t. f (place_in columns wide t)) places ≡ sum_by f left + sum_by (λ t. f (place_in columns wide t + wide)) places
changed_balance places marks count columns wide limit entered left some size sums done f =
    let g : ℕ → ℕ = λ t. f (place_in columns wide t) in
    let here = all_weighed places marks count columns size sums g in
    let above = weighed_before marks columns g count ∙ sums (λ t. g (t + columns)) ∙ sums_same (λ t. g (t + columns)) (λ t. f (place_in columns wide t + wide)) places (λ t. ap f (place_below columns wide t some)) in
    omega (arith, done.balance f, here, above)

pub changed_part : (places marks : List ℕ) (count columns wide limit : ℕ) (entered left : List ℕ) → length marks ≡ count → ((f : ℕ → ℕ) → weighed (marks_at marks) f count ≡ sum_by f places)
    → HasChanged marks columns wide limit (count + columns) entered left → (f : ℕ → ℕ) → sum_by f left ≤ sum_by (λ t. f (place_in columns wide t)) places
changed_part places marks count columns wide limit entered left size sums done f =
    omega (arith, done.part f, all_weighed places marks count columns size sums (λ t. f (place_in columns wide t)))
