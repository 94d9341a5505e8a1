-- The lists of a queue keep its open tasks.
use Rattle.std.proofs.Common.{◌≡◌, ◌≢◌, ℕ, ◌+◌, ◌-◌, ◌*◌, ◌/◌, ◌%◌, ◌<◌, ◌≤◌, Bool, true, false, not, ◌&&◌, nat_eq, List, [], ◌∷◌, ◌++◌, length, refl, ap, sym, subst, ◌∙◌, arith, inl, inr, set, get_or, vec_capacity, length-set, length-append, ◌^◌, add_left_cancel}
use Rattle.std.specs.List.{swap_remove}
use Rattle.std.specs.Global.{Vec}
use Rattle.std.proofs.Math.Nat.{mul-le-mul_left}
use Rattle.std.proofs.Math.Seq.{get_or-append_seam}
use Rattle.std.proofs.lemmas.Bool.{cases_eq, cases_lt, ne_eqb}
use Rattle.std.proofs.lemmas.List.{get_or-set_same, get_or-set_other, get_or_default, get_or_append_left, length-map, map-set, map-append}
use Rattle.std.proofs.lemmas.Nat.{div-mul-add, div-add-mod', mod_below}
use Rattle.mw_model.proofs.mw_facts.Counts.{count_by-same, count_by-most, count_by-some}
use Rattle.mw_model.specs.Tasks.{flag}
use Rattle.mw_grid.proofs.Lines.{row_less, number_of}
use Rattle.mw_grid.specs.Counts.{bit, count_below}
use Rattle.mw_ready_queue.specs.Queues.{is_open, list_at, Queued, IsQueue, Listed}
use Rattle.mw_ready_queue.specs.Shown.{items_of, ListsHaveRoom}
use Rattle.mw_grid.proofs.Counts.{count-add, count-more, bit-at, bit-other, count-less}
use Rattle.mw_ready_queue.proofs.Lists.{listed-push, listed-swap_remove, listed-same, listed-at, length-of_listed}
use Rattle.mw_ready_queue.proofs.Orders.{list_at-items}

abbrev queued : List Bool → List ℕ → ℕ → List (List ℕ) → Queued
queued started waiting tiles ready = record { started = started; waiting = waiting; tiles = tiles; ready = ready }

-- a task of another step
pub other_step : (tiles s u t : ℕ) → u < tiles → s ≢ t / tiles → s * tiles + u ≢ t
other_step tiles s u t lt ne e = ne (sym (div-mul-add s tiles u lt) ∙ ap (λ (k : ℕ). k / tiles) e)

pub open_waits : (b : Bool) (n : ℕ) → 0 < n → not b && nat_eq n 0 ≡ false
open_waits true n lt = refl
open_waits false n lt = ne_eqb n 0 (λ e. absurd (omega arith))

-- one count differs
pub count-changed : (p q : ℕ → Bool) (t n : ℕ) → t < n → p t ≡ true → q t ≡ false → ((u : ℕ) → u < n → u ≢ t → q u ≡ p u) → count_below p n ≡ count_below q n + 1
count-changed p q t n lt was now other = count-more p q t n lt (λ u u-lt. elim (cases_eq u t) [
  | inl here ↦
      let a : bit (p u) ≡ 1 = ap bit (ap p here ∙ was) in
      let b : bit (q u) ≡ 0 = ap bit (ap q here ∙ now) in
      omega (arith, bit-at u t here)
  | inr ne ↦ (let same : bit (q u) ≡ bit (p u) = ap bit (other u u-lt ne) in omega (arith, bit-other u t ne))
])

-- of one step the list and the open tasks changed at tile u alone
Listed-changed : (p q : ℕ → Bool) (tiles s u n : ℕ) (lists : List (List ℕ)) (xs : List ℕ) → s < length lists → u < tiles → ((t : ℕ) → t ≢ s * tiles + u → q t ≡ p t)
    → ((k : ℕ) → k < length lists → Listed tiles (λ t. p (k * tiles + t)) (list_at lists k)) → Listed tiles (λ t. q (s * tiles + t)) xs
    → (k : ℕ) → k < length (set lists s xs) → Listed tiles (λ t. q (k * tiles + t)) (list_at (set lists s xs) k)
Listed-changed p q tiles s u n lists xs s-lt u-lt other old new k k-lt =
    let size : length (set lists s xs) ≡ length lists = simp length-set in
    elim (cases_eq k s) [
      | inl here ↦ subst (λ (j : ℕ). Listed tiles (λ t. q (j * tiles + t)) (list_at (set lists s xs) j)) (sym here) (subst (λ (ys : List ℕ). Listed tiles (λ t. q (s * tiles + t)) ys) (sym (get_or-set_same lists s xs [] s-lt)) new)
      | inr ne ↦ subst (λ (ys : List ℕ). Listed tiles (λ t. q (k * tiles + t)) ys) (sym (get_or-set_other lists s k xs [] ne))
          (listed-same tiles (λ t. p (k * tiles + t)) (λ t. q (k * tiles + t)) (list_at lists k)
          (λ t t-lt. other (k * tiles + t) (other_step tiles k t (s * tiles + u) t-lt (λ e. ne (e ∙ div-mul-add s tiles u u-lt)))) (old k (omega arith)))
    ]

-- an open task is started
IsQueue-taken : (q : Queued) (total s i u : ℕ) → IsQueue q total → s < length q.ready → i < length (list_at q.ready s) → u ≡ get_or (list_at q.ready s) i u
    → IsQueue (queued (set q.started (s * q.tiles + u) true) q.waiting q.tiles (set q.ready s (swap_remove (list_at q.ready s) i u))) (total - 1)
IsQueue-taken q total s i u queue s-lt i-lt u-is =
    let t = s * q.tiles + u in
    let before : ℕ → Bool = is_open q.started q.waiting in
    let now : ℕ → Bool = is_open (set q.started t true) q.waiting in
    let there = at-default in
    let t-lt : t < length q.waiting = omega (arith, number_of (length q.ready) q.tiles u s there.0 s-lt, queue.whole) in
    let closed : now t ≡ false = ap (λ (b : Bool). not b && nat_eq (get_or q.waiting t 0) 0) (get_or-set_same q.started t true false (let e = queue.started in omega arith)) in
    let other : (k : ℕ) → k ≢ t → now k ≡ before k = λ k ne. ap (λ (b : Bool). not b && nat_eq (get_or q.waiting k 0) 0) (get_or-set_other q.started t k true false ne) in
    let started-size : length (set q.started t true) ≡ length q.started = simp length-set in
    let ready-size : length (set q.ready s (swap_remove (list_at q.ready s) i u)) ≡ length q.ready = simp length-set in
    record {
      some = queue.some;
      few = queue.few;
      started = started-size ∙ queue.started;
      whole = queue.whole ∙ ap (λ (k : ℕ). k * q.tiles) (sym ready-size);
      small = queue.small;
      listed = Listed-changed before now q.tiles s u (length q.waiting) q.ready (swap_remove (list_at q.ready s) i u) s-lt there.0 other queue.listed
          (listed-swap_remove q.tiles (λ k. before (s * q.tiles + k)) (λ k. now (s * q.tiles + k)) (list_at q.ready s) i u (queue.listed s s-lt) i-lt u-is closed
          (λ k k-lt ne. other (s * q.tiles + k) (λ e. ne (add_left_cancel (s * q.tiles) e))));
      count = (let less = count-changed before now t (length q.waiting) t-lt there.1 closed (λ k k-lt ne. other k ne) in let c = queue.count in omega arith);
    }
  where
    at-default : (u < q.tiles) × (is_open q.started q.waiting (s * q.tiles + u) ≡ true)
    at-default = listed-at q.tiles (λ t. is_open q.started q.waiting (s * q.tiles + t)) (list_at q.ready s) i u (queue.listed s s-lt) i-lt (u-is ∙ get_or_default (list_at q.ready s) i u 0 i-lt)

pub taken_given : (q : Queued) (total s i u : ℕ) (ready : List (List ℕ)) → IsQueue q total → s < length q.ready → i < length (list_at q.ready s) → u ≡ get_or (list_at q.ready s) i u
    → ready ≡ set q.ready s (swap_remove (list_at q.ready s) i u) → IsQueue (queued (set q.started (s * q.tiles + u) true) q.waiting q.tiles ready) (total - 1)
taken_given q total s i u ready queue s-lt i-lt u-is ready-is =
    subst (λ (r : List (List ℕ)). IsQueue (queued (set q.started (s * q.tiles + u) true) q.waiting q.tiles r) (total - 1)) (sym ready-is) (IsQueue-taken q total s i u queue s-lt i-lt u-is)

-- what is listed is open
pub listed_open : (q : Queued) (total s i u : ℕ) → IsQueue q total → s < length q.ready → i < length (list_at q.ready s) → u ≡ get_or (list_at q.ready s) i 0
    → (u < q.tiles) × (s * q.tiles + u < length q.waiting) × (is_open q.started q.waiting (s * q.tiles + u) ≡ true)
listed_open q total s i u queue s-lt i-lt u-is =
    let there = listed-at q.tiles (λ t. is_open q.started q.waiting (s * q.tiles + t)) (list_at q.ready s) i u (queue.listed s s-lt) i-lt u-is in
    (there.0, omega (arith, number_of (length q.ready) q.tiles u s there.0 s-lt, queue.whole), there.1)

-- where a task is open
pub open_listed : (q : Queued) (total t : ℕ) → IsQueue q total → t < length q.waiting → is_open q.started q.waiting t ≡ true → (t / q.tiles < length q.ready) × (1 ≤ length (list_at q.ready (t / q.tiles)))
open_listed q total t queue lt opened =
    let some : 0 < q.tiles = queue.some in
    let s-lt : t / q.tiles < length q.ready = row_less (length q.ready) q.tiles t some (let e = queue.whole in omega arith) in
    let there : is_open q.started q.waiting (t / q.tiles * q.tiles + t % q.tiles) ≡ true = ap (is_open q.started q.waiting) (div-add-mod' t q.tiles) ∙ opened in
    (s-lt, omega (arith, length-of_listed q.tiles (λ k. is_open q.started q.waiting (t / q.tiles * q.tiles + k)) (list_at q.ready (t / q.tiles)) (queue.listed (t / q.tiles) s-lt), count_by-some (λ k. is_open q.started q.waiting (t / q.tiles * q.tiles + k)) q.tiles (t % q.tiles) (mod_below t q.tiles some) there))

-- a task still waits
pub still_waits : (q : Queued) (total t v : ℕ) → IsQueue q total → t < length q.waiting → 0 < get_or q.waiting t 0 → v ≢ 0 → IsQueue (queued q.started (set q.waiting t v) q.tiles q.ready) total
still_waits q total t v queue lt waits more =
    let before : ℕ → Bool = is_open q.started q.waiting in
    let now : ℕ → Bool = is_open q.started (set q.waiting t v) in
    let size : length (set q.waiting t v) ≡ length q.waiting = simp length-set in
    let same : (k : ℕ) → now k ≡ before k = λ k. elim (cases_eq k t) [
      | inl here ↦ ap now here ∙ closed ∙ sym (ap before here ∙ open_waits (flag q.started t) (get_or q.waiting t 0) waits)
      | inr ne ↦ ap (λ (n : ℕ). not (flag q.started k) && nat_eq n 0) (get_or-set_other q.waiting t k v 0 ne)
    ] in
    record {
      some = queue.some;
      few = queue.few;
      started = queue.started ∙ sym size;
      whole = size ∙ queue.whole;
      small = (let s = queue.small in omega arith);
      listed = λ s s-lt. listed-same q.tiles (λ k. before (s * q.tiles + k)) (λ k. now (s * q.tiles + k)) (list_at q.ready s) (λ k k-lt. same (s * q.tiles + k)) (queue.listed s s-lt);
      count = queue.count ∙ sym (ap (count_below now) size ∙ count_by-same now before (length q.waiting) (λ k k-lt. same k));
    }
  where
    closed : is_open q.started (set q.waiting t v) t ≡ false
    closed = open_waits (flag q.started t) (get_or (set q.waiting t v) t 0) (let e = get_or-set_same q.waiting t v 0 lt in omega arith)

-- the last thing that a task waited for is done
opened : (q : Queued) (total s u : ℕ) → IsQueue q total → s < length q.ready → u < q.tiles → 0 < get_or q.waiting (s * q.tiles + u) 0 → flag q.started (s * q.tiles + u) ≡ false
    → IsQueue (queued q.started (set q.waiting (s * q.tiles + u) 0) q.tiles (set q.ready s (list_at q.ready s ++ u ∷ []))) (total + 1)
opened q total s u queue s-lt u-lt waits idle =
    let t = s * q.tiles + u in
    let before : ℕ → Bool = is_open q.started q.waiting in
    let now : ℕ → Bool = is_open q.started (set q.waiting t 0) in
    let t-lt : t < length q.waiting = omega (arith, number_of (length q.ready) q.tiles u s u-lt s-lt, queue.whole) in
    let closed : before t ≡ false = open_waits (flag q.started t) (get_or q.waiting t 0) waits in
    let free : now t ≡ true = ap (λ (b : Bool). not b && nat_eq (get_or (set q.waiting t 0) t 0) 0) idle ∙ ap (λ (n : ℕ). nat_eq n 0) (get_or-set_same q.waiting t 0 0 t-lt) in
    let other : (k : ℕ) → k ≢ t → now k ≡ before k = λ k ne. ap (λ (n : ℕ). not (flag q.started k) && nat_eq n 0) (get_or-set_other q.waiting t k 0 0 ne) in
    let size : length (set q.waiting t 0) ≡ length q.waiting = simp length-set in
    let ready-size : length (set q.ready s (list_at q.ready s ++ u ∷ [])) ≡ length q.ready = simp length-set in
    record {
      some = queue.some;
      few = queue.few;
      started = queue.started ∙ sym size;
      whole = size ∙ queue.whole ∙ ap (λ (k : ℕ). k * q.tiles) (sym ready-size);
      small = (let z = queue.small in omega arith);
      listed = Listed-changed before now q.tiles s u (length q.waiting) q.ready (list_at q.ready s ++ u ∷ []) s-lt u-lt other queue.listed
          (listed-push q.tiles (λ k. before (s * q.tiles + k)) (λ k. now (s * q.tiles + k)) (list_at q.ready s) u (queue.listed s s-lt) u-lt closed free
          (λ k k-lt ne. other (s * q.tiles + k) (λ e. ne (add_left_cancel (s * q.tiles) e))));
      count = (let more = count-changed now before t (length q.waiting) t-lt free closed (λ k k-lt ne. sym (other k ne)) in let c = queue.count in let e = ap (count_below now) size in omega arith);
    }

pub opened_given : (q : Queued) (total t v : ℕ) (ready : List (List ℕ)) → IsQueue q total → t < length q.waiting → 0 < get_or q.waiting t 0 → flag q.started t ≡ false → v ≡ 0
    → ready ≡ set q.ready (t / q.tiles) (list_at q.ready (t / q.tiles) ++ t % q.tiles ∷ []) → IsQueue (queued q.started (set q.waiting t v) q.tiles ready) (total + 1)
opened_given q total t v ready queue lt waits idle v-is ready-is =
    let some : 0 < q.tiles = queue.some in
    let back : t / q.tiles * q.tiles + t % q.tiles ≡ t = div-add-mod' t q.tiles in
    let s-lt : t / q.tiles < length q.ready = row_less (length q.ready) q.tiles t some (let e = queue.whole in omega arith) in
    let made = opened q total (t / q.tiles) (t % q.tiles) queue s-lt (mod_below t q.tiles some) (omega (arith, ap (λ (k : ℕ). get_or q.waiting k 0) back)) (ap (flag q.started) back ∙ idle) in
    rw (v-is, ready-is) (subst (λ (k : ℕ). IsQueue (queued q.started (set q.waiting k 0) q.tiles (set q.ready (t / q.tiles) (list_at q.ready (t / q.tiles) ++ t % q.tiles ∷ []))) (total + 1)) back made)

-- a list of open tasks of a step has room for one more
pub list_room : (q : Queued) (total t : ℕ) → IsQueue q total → t < length q.waiting → 0 < get_or q.waiting t 0 → (t / q.tiles < length q.ready) × (length (list_at q.ready (t / q.tiles)) < q.tiles)
list_room q total t queue lt waits =
    let some : 0 < q.tiles = queue.some in
    let s-lt : t / q.tiles < length q.ready = row_less (length q.ready) q.tiles t some (let e = queue.whole in omega arith) in
    let closed : is_open q.started q.waiting (t / q.tiles * q.tiles + t % q.tiles) ≡ false = ap (is_open q.started q.waiting) (div-add-mod' t q.tiles) ∙ open_waits (flag q.started t) (get_or q.waiting t 0) waits in
    (s-lt, omega (arith, length-of_listed q.tiles (λ k. is_open q.started q.waiting (t / q.tiles * q.tiles + k)) (list_at q.ready (t / q.tiles)) (queue.listed (t / q.tiles) s-lt), count-less (λ k. is_open q.started q.waiting (t / q.tiles * q.tiles + k)) (t % q.tiles) q.tiles (mod_below t q.tiles some) closed))

pub total_small : (q : Queued) (total : ℕ) → IsQueue q total → total < 2 ^ 31
total_small q total queue = (let c = queue.count in let s = queue.small in omega (arith, count_by-most (is_open q.started q.waiting) (length q.waiting)))

pub steps_small : (q : Queued) (total s : ℕ) → IsQueue q total → s < length q.ready → s < 2 ^ 31
steps_small q total s queue lt = (let w = queue.whole in let m = queue.small in omega (arith, more (length q.ready) q.tiles queue.some))
  where
    more : (a b : ℕ) → 1 ≤ b → a ≤ a * b
    more a b some = grind (arith, mul-le-mul_left)

pub latest_open : (q : Queued) (total step t : ℕ) → IsQueue q total → ((s : ℕ) → step < s → s < length q.ready → length (list_at q.ready s) ≡ 0) → t < length q.waiting → is_open q.started q.waiting t ≡ true → t / q.tiles ≤ step
latest_open q total step t queue none lt opened =
    let there = open_listed q total t queue lt opened in
    elim (cases_lt step (t / q.tiles)) [
      | inl past ↦ absurd (let e = none (t / q.tiles) past there.0 in let some = there.1 in omega arith)
      | inr le ↦ le
    ]

-- lists of a queue that are held
pub items-set : (lists : List (Vec ℕ)) (s : ℕ) (v : Vec ℕ) (xs : List ℕ) → v.items ≡ xs → items_of (set lists s v) ≡ set (items_of lists) s xs
items-set lists s v xs e = map-set (λ (w : Vec ℕ). w.items) lists s v ∙ ap (set (items_of lists) s) e

pub room-set : (n s : ℕ) (lists : List (Vec ℕ)) (v : Vec ℕ) → ListsHaveRoom n lists → s < length lists → n ≤ vec_capacity v → ListsHaveRoom n (set lists s v)
room-set n s lists v room lt le = λ k w k-lt.
    let size : length (set lists s v) ≡ length lists = simp length-set in
    elim (cases_eq k s) [
      | inl here ↦ subst (λ (j : ℕ). n ≤ vec_capacity (get_or (set lists s v) j w)) (sym here) (subst (λ (x : Vec ℕ). n ≤ vec_capacity x) (sym (get_or-set_same lists s v w lt)) le)
      | inr ne ↦ subst (λ (x : Vec ℕ). n ≤ vec_capacity x) (sym (get_or-set_other lists s k v w ne)) (room k w (omega arith))
    ]

pub room-at : (n s : ℕ) (lists : List (Vec ℕ)) (v : Vec ℕ) → ListsHaveRoom n lists → s < length lists → v ≡ get_or lists s v → n ≤ vec_capacity v
room-at n s lists v room lt is = subst (λ (x : Vec ℕ). n ≤ vec_capacity x) (sym is) (room s v lt)

pub length-items_of : (lists : List (Vec ℕ)) → length (items_of lists) ≡ length lists
length-items_of lists = length-map lists (λ (v : Vec ℕ). v.items)

-- a queue on which nothing was started
abbrev pub free : List ℕ → ℕ → Bool
free waiting t = nat_eq (get_or waiting t 0) 0

-- the list of one step more
pub listed-more : (waiting : List ℕ) (tiles k : ℕ) (lists now : List (Vec ℕ)) (v : Vec ℕ) → length lists ≡ k → now ≡ lists ++ v ∷ [] → Listed tiles (λ t. free waiting (k * tiles + t)) v.items
    → ((s : ℕ) → s < k → Listed tiles (λ t. free waiting (s * tiles + t)) (list_at (items_of lists) s)) → (s : ℕ) → s < k + 1 → Listed tiles (λ t. free waiting (s * tiles + t)) (list_at (items_of now) s)
listed-more waiting tiles k lists now v size now-is new old s lt =
    let shown : items_of now ≡ items_of lists ++ v.items ∷ [] = ap items_of now-is ∙ map-append (λ (w : Vec ℕ). w.items) lists (v ∷ []) in
    elim (cases_lt s k) [
      | inl before ↦ subst (λ (xs : List ℕ). Listed tiles (λ t. free waiting (s * tiles + t)) xs)
          (sym (ap (λ (ys : List (List ℕ)). list_at ys s) shown ∙ get_or_append_left (items_of lists) (v.items ∷ []) [] s (omega (arith, length-items_of lists)))) (old s before)
      | inr here ↦
          let e : k ≡ s = omega arith in
          let last : list_at (items_of now) k ≡ v.items = ap (λ (ys : List (List ℕ)). list_at ys k) shown ∙ ap (λ (j : ℕ). list_at (items_of lists ++ v.items ∷ []) j) (sym (length-items_of lists ∙ size)) ∙ get_or-append_seam (items_of lists) v.items [] [] in
          subst (λ (j : ℕ). Listed tiles (λ t. free waiting (j * tiles + t)) (list_at (items_of now) j)) e (subst (λ (xs : List ℕ). Listed tiles (λ t. free waiting (k * tiles + t)) xs) (sym last) new)
    ]

pub room-more : (n k : ℕ) (lists now : List (Vec ℕ)) (v : Vec ℕ) → now ≡ lists ++ v ∷ [] → n ≤ vec_capacity v → ListsHaveRoom n lists → ListsHaveRoom n now
room-more n k lists now v now-is le room = λ s w lt.
    let size : length now ≡ length lists + 1 = ap (λ (ys : List (Vec ℕ)). length ys) now-is ∙ length-append lists (v ∷ []) in
    elim (cases_lt s (length lists)) [
      | inl before ↦ subst (λ (x : Vec ℕ). n ≤ vec_capacity x) (sym (ap (λ (ys : List (Vec ℕ)). get_or ys s w) now-is ∙ get_or_append_left lists (v ∷ []) w s before)) (room s w before)
      | inr here ↦
          let e : s ≡ length lists = omega arith in
          subst (λ (x : Vec ℕ). n ≤ vec_capacity x) (sym (ap (λ (ys : List (Vec ℕ)). get_or ys s w) now-is ∙ ap (λ (j : ℕ). get_or (lists ++ v ∷ []) j w) e ∙ get_or-append_seam lists v [] w)) le
    ]

pub count-more_step : (waiting : List ℕ) (tiles k total n : ℕ) (xs : List ℕ) → total ≡ count_below (free waiting) (k * tiles) → Listed tiles (λ t. free waiting (k * tiles + t)) xs → n ≡ length xs → total + n ≡ count_below (free waiting) ((k + 1) * tiles)
count-more_step waiting tiles k total n xs before listed n-is =
    let row : (k + 1) * tiles ≡ k * tiles + tiles = omega arith in
    omega (arith, ap (count_below (free waiting)) row, count-add (free waiting) (k * tiles) tiles, length-of_listed tiles (λ t. free waiting (k * tiles + t)) xs listed)

pub total_next : (waiting : List ℕ) (tiles k total n steps size : ℕ) → total ≡ count_below (free waiting) (k * tiles) → n ≤ tiles → k < steps → size ≡ steps * tiles → size < 2 ^ 31 → total + n < 2 ^ 31
total_next waiting tiles k total n steps size count few lt whole small =
    let up : k + 1 ≤ steps = omega arith in
    omega (arith, count_by-most (free waiting) (k * tiles), mul-le-mul_left tiles up)

-- what is taken out of a list that is held was open
pub IsQueue-picked : (lists : List (Vec ℕ)) (q : Queued) (total s i u : ℕ) (w : Vec ℕ) → IsQueue q total → items_of lists ≡ q.ready → s < length q.ready → i < length (list_at q.ready s) → w ≡ get_or lists s w → u ≡ get_or w.items i u
    → (u < q.tiles) × (s * q.tiles + u < length q.waiting) × (is_open q.started q.waiting (s * q.tiles + u) ≡ true)
IsQueue-picked lists q total s i u w queue shown s-lt i-lt w-is u-is =
    let held : s < length lists = omega (arith, ap (λ (xs : List (List ℕ)). length xs) shown, length-items_of lists) in
    let list-is = list_at-items lists q.ready s w shown held w-is in
    listed_open q total s i u queue s-lt i-lt (u-is ∙ ap (λ (xs : List ℕ). get_or xs i u) (sym list-is) ∙ get_or_default (list_at q.ready s) i u 0 i-lt)
