-- The order in which open tasks are handed out.
use Rattle.std.proofs.Common.{◌≡◌, ℕ, zero, suc, ◌+◌, ◌-◌, ◌*◌, ◌<◌, ◌≤◌, Bool, List, [], ◌++◌, length, map, ap, sym, ◌∙◌, arith, get_or, vec_len, inl, inr, length-append}
use Rattle.std.specs.Global.{Vec}
use Rattle.std.proofs.lemmas.Bool.{cases_lt}
use Rattle.std.proofs.lemmas.List.{get_or-map, get_or_append_left, get_or-append_right, length-map}
use Rattle.mw_grid.specs.Counts.{count_below}
use Rattle.mw_ready_queue.specs.Queues.{list_at, tasks_handed, Queued, IsQueue, is_open, order_of}
use Rattle.mw_ready_queue.specs.Shown.{items_of}
use Rattle.mw_grid.proofs.Counts.{count-add}
use Rattle.mw_ready_queue.proofs.Lists.{length-of_listed}

pub list_at-items : (lists : List (Vec ℕ)) (shown : List (List ℕ)) (s : ℕ) (v : Vec ℕ) → items_of lists ≡ shown → s < length lists → v ≡ get_or lists s v → list_at shown s ≡ v.items
list_at-items lists shown s v shown-is lt v-is =
    ap (λ (xs : List (List ℕ)). list_at xs s) (sym shown-is) ∙ get_or-map (λ (w : Vec ℕ). w.items) lists s v [] lt ∙ ap (λ (w : Vec ℕ). w.items) (sym v-is)

length-handed : (p : ℕ → Bool) (lists : List (List ℕ)) (tiles n : ℕ) → ((s : ℕ) → s < n → length (list_at lists s) ≡ count_below (λ t. p (s * tiles + t)) tiles) → length (tasks_handed lists tiles n) ≡ count_below p (n * tiles)
length-handed p lists tiles zero each = sym (ap (count_below p) (none tiles))
  where
    none : (m : ℕ) → zero * m ≡ 0
    none m = omega arith
length-handed p lists tiles (suc n) each =
    length-append (map (λ t. n * tiles + t) (list_at lists n)) (tasks_handed lists tiles n)
    ∙ (let a = length-map (list_at lists n) (λ t. n * tiles + t) in
    let b = each n (omega arith) in
    let c = length-handed p lists tiles n (λ s lt. each s (omega arith)) in
    let d = count-add p (n * tiles) tiles in
    let e = ap (count_below p) (row n tiles) in
    omega arith)
  where
    row : (n m : ℕ) → suc n * m ≡ n * m + m
    row n m = omega arith

pub length-order : (q : Queued) (total : ℕ) → IsQueue q total → total ≡ length (order_of q)
length-order q total queue =
    queue.count
    ∙ ap (count_below (is_open q.started q.waiting)) queue.whole
    ∙ sym (length-handed (is_open q.started q.waiting) q.ready q.tiles (length q.ready) (λ s lt. length-of_listed q.tiles (λ t. is_open q.started q.waiting (s * q.tiles + t)) (list_at q.ready s) (queue.listed s lt)))

pub handed-here : (lists : List (List ℕ)) (tiles n m i : ℕ) → n ≡ m + 1 → i < length (list_at lists m) → get_or (tasks_handed lists tiles n) i 0 ≡ m * tiles + get_or (list_at lists m) i 0
handed-here lists tiles n m i n-is lt =
    ap (λ (k : ℕ). get_or (tasks_handed lists tiles k) i 0) (next n m n-is)
    ∙ get_or_append_left (map (λ t. m * tiles + t) (list_at lists m)) (tasks_handed lists tiles m) 0 i (omega (arith, length-map (list_at lists m) (λ t. m * tiles + t)))
    ∙ get_or-map (λ t. m * tiles + t) (list_at lists m) i 0 0 lt
  where
    next : (n m : ℕ) → n ≡ m + 1 → n ≡ suc m
    next n m e = omega arith

pub handed-later : (lists : List (List ℕ)) (tiles n m i k : ℕ) → n ≡ m + 1 → length (list_at lists m) ≡ k → length (list_at lists m) ≤ i → get_or (tasks_handed lists tiles n) i 0 ≡ get_or (tasks_handed lists tiles m) (i - k) 0
handed-later lists tiles n m i k n-is k-is le =
    ap (λ (j : ℕ). get_or (tasks_handed lists tiles j) i 0) (next n m n-is)
    ∙ get_or-append_right (map (λ t. m * tiles + t) (list_at lists m)) (tasks_handed lists tiles m) k i 0 (length-map (list_at lists m) (λ t. m * tiles + t) ∙ k-is) (omega arith)
  where
    next : (n m : ℕ) → n ≡ m + 1 → n ≡ suc m
    next n m e = omega arith

pub length-handed_less : (lists : List (List ℕ)) (tiles n m i k : ℕ) → n ≡ m + 1 → length (list_at lists m) ≡ k → i < length (tasks_handed lists tiles n) → length (list_at lists m) ≤ i → i - k < length (tasks_handed lists tiles m)
length-handed_less lists tiles n m i k n-is k-is lt le =
    let whole : length (tasks_handed lists tiles n) ≡ length (map (λ t. m * tiles + t) (list_at lists m) ++ tasks_handed lists tiles m) = ap (λ (j : ℕ). length (tasks_handed lists tiles j)) (next n m n-is) in
    omega (arith, length-append (map (λ t. m * tiles + t) (list_at lists m)) (tasks_handed lists tiles m), length-map (list_at lists m) (λ t. m * tiles + t))
  where
    next : (n m : ℕ) → n ≡ m + 1 → n ≡ suc m
    next n m e = omega arith

pub list-length : (lists : List (Vec ℕ)) (shown : List (List ℕ)) (s : ℕ) (v : Vec ℕ) (n : ℕ) → items_of lists ≡ shown → s < length lists → v ≡ get_or lists s v → n ≡ vec_len v → length (list_at shown s) ≡ n
list-length lists shown s v n shown-is lt v-is n-is = ap (λ (xs : List ℕ). length xs) (list_at-items lists shown s v shown-is lt v-is) ∙ (let ok = v.ok in omega arith)

-- above the step that has the first task the lists are empty
pub list_empty : (lists : List (List ℕ)) (n s left : ℕ) → n - 1 ≤ s → left ≡ 0 → length (list_at lists (n - 1)) ≤ left → ((k : ℕ) → n ≤ k → k < length lists → length (list_at lists k) ≡ 0) → s < length lists → length (list_at lists s) ≡ 0
list_empty lists n s left from none le rest lt =
    elim (cases_lt s n) [
      | inl here ↦
          let e : s ≡ n - 1 = omega arith in
          ap (λ (k : ℕ). length (list_at lists k)) e ∙ (omega arith)
      | inr past ↦ rest s past lt
    ]
