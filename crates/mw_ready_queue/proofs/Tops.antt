-- The lists from the top on are empty.
use Rattle.std.proofs.Common.{◌≡◌, ℕ, zero, suc, ◌+◌, ◌*◌, ◌<◌, ◌≤◌, List, [], ◌++◌, length, map, refl, ap, sym, subst, ◌∙◌, arith, inl, inr, set, length-set}
use Rattle.std.specs.Global.{Vec}
use Rattle.std.proofs.lemmas.Bool.{cases_lt}
use Rattle.std.proofs.lemmas.List.{get_or-set_other, nil_from_length}
use Rattle.mw_ready_queue.specs.Queues.{list_at, tasks_handed, IsTop}
use Rattle.mw_ready_queue.specs.Shown.{items_of}
use Rattle.mw_ready_queue.proofs.Opens.{items-set}

-- the open tasks stand in the lists below
handed-top : (lists : List (List ℕ)) (tiles top n : ℕ) → IsTop lists top → top ≤ n → n ≤ length lists → tasks_handed lists tiles n ≡ tasks_handed lists tiles top
handed-top lists tiles top zero is le within = ap (tasks_handed lists tiles) (let e : zero ≡ top = omega arith in e)
handed-top lists tiles top (suc n) is le within = elim (cases_lt n top) [
  | inl reached ↦ ap (tasks_handed lists tiles) (let e : suc n ≡ top = omega arith in e)
  | inr above ↦
      let none : list_at lists n ≡ [] = nil_from_length (list_at lists n) (is.none n above (omega arith)) in
      ap (λ (xs : List ℕ). map (λ t. n * tiles + t) xs ++ tasks_handed lists tiles n) none ∙ handed-top lists tiles top n is above (omega arith)
]

pub handed-all : (lists : List (List ℕ)) (tiles top : ℕ) → IsTop lists top → tasks_handed lists tiles (length lists) ≡ tasks_handed lists tiles top
handed-all lists tiles top is = handed-top lists tiles top (length lists) is is.within (omega arith)

-- a list that has something lies below
pub below_top : (lists : List (List ℕ)) (top s i : ℕ) → IsTop lists top → s < length lists → i < length (list_at lists s) → s < top
below_top lists top s i is s-lt i-lt = elim (cases_lt s top) [
  | inl below ↦ below
  | inr above ↦ absurd (let e = is.none s above s-lt in omega arith)
]

-- the top is raised
pub top-raised : (lists : List (List ℕ)) (top higher : ℕ) → IsTop lists top → top ≤ higher → higher ≤ length lists → IsTop lists higher
top-raised lists top higher is le within = record { within = within; none = λ s from lt. is.none s (omega arith) lt }

-- the top is lowered past empty lists
pub top-lowered : (lists : List (List ℕ)) (top lower : ℕ) → IsTop lists top → lower ≤ top → ((s : ℕ) → lower ≤ s → s < top → length (list_at lists s) ≡ 0) → IsTop lists lower
top-lowered lists top lower is le empty = record {
  within = omega (arith, is.within);
  none = λ s from lt. elim (cases_lt s top) [
    | inl below ↦ empty s from below
    | inr above ↦ is.none s above lt
  ];
}

-- a list below changes
top-set : (lists : List (List ℕ)) (top s : ℕ) (xs : List ℕ) → IsTop lists top → s < top → IsTop (set lists s xs) top
top-set lists top s xs is below =
    let size : length (set lists s xs) ≡ length lists = simp length-set in
    record {
      within = omega (arith, is.within);
      none = λ k from lt. ap (λ (ys : List ℕ). length ys) (get_or-set_other lists s k xs [] (λ e. absurd (omega arith))) ∙ is.none k from (omega arith);
    }

pub top-held : (lists : List (Vec ℕ)) (top s : ℕ) (v : Vec ℕ) → IsTop (items_of lists) top → s < top → IsTop (items_of (set lists s v)) top
top-held lists top s v is below = subst (λ (xs : List (List ℕ)). IsTop xs top) (sym (items-set lists s v v.items refl)) (top-set (items_of lists) top s v.items is below)
