-- Counting levels.
use Rattle.std.proofs.Common.{◌≡◌, ℕ, ◌+◌, ◌-◌, ◌<◌, ◌≤◌, List, [], ◌∷◌, ◌++◌, length, get_or, set, refl, ap, sym, arith, ◌∙◌, inl, inr, cond, length-set, subst, get_or-set_same, get_or-set_other}
use Rattle.std.specs.Prelude.{nat_lt, min, max}
use Rattle.std.proofs.lemmas.Bool.{cases_lt, cases_order, lt-ltb, le-ltb}
use Rattle.std.proofs.lemmas.List.Sums.{sum_by-cons, sum_by-append, count_by-le-length}
use Rattle.mw_model.proofs.mw_facts.Numbers.{one_if}
use Rattle.mw_model.specs.PlanSteps.{ranked}
use Rattle.mw_model.proofs.Ranks.{nth_from}
use Rattle.mw_rank.specs.declared.histogram.Histogram.{Histogram}
use Rattle.mw_rank.specs.Tallies.{count_under, Tallies}

pub count-cons : (limit n : ℕ) (ns : List ℕ) → count_under limit (n ∷ ns) ≡ cond (nat_lt n limit) 1 0 + count_under limit ns
count-cons limit n ns = sum_by-cons (λ s. cond (nat_lt s limit) 1 0) n ns

pub count-append : (limit : ℕ) (ns ms : List ℕ) → count_under limit (ns ++ ms) ≡ count_under limit ns + count_under limit ms
count-append limit ns ms = sum_by-append (λ s. cond (nat_lt s limit) 1 0) ns ms

pub one-lt : (s v : ℕ) → s < v → one_if (nat_lt s v) ≡ 1
one-lt s v lt = rw (lt-ltb s v lt) refl

pub one-le : (s v : ℕ) → v ≤ s → one_if (nat_lt s v) ≡ 0
one-le s v le = rw (le-ltb s v le) refl

pub count-zero : (ns : List ℕ) → count_under 0 ns ≡ 0
count-zero [] = refl
count-zero (n ∷ ns) = omega (arith, count-cons 0 n ns, one-le n 0 (omega arith), count-zero ns)

pub count_within : (limit : ℕ) (ns : List ℕ) → count_under limit ns ≤ length ns
count_within limit ns = count_by-le-length (λ r. nat_lt r limit) ns

-- two lists count alike
pub record Same (ns ms : List ℕ) : Type 0 where
  pub counts : (v : ℕ) → count_under v ns ≡ count_under v ms
  pub size : length ns ≡ length ms

pub tallies_same : (top : ℕ) (h : Histogram) (ns ms : List ℕ) → Same ns ms → Tallies top h ns → Tallies top h ms
tallies_same top h ns ms same t = record {
  short = t.short;
  size = t.size;
  each = λ v. omega (arith, same.counts (v + 1), same.counts v, t.each v);
  all = omega (arith, same.counts (top + 1), same.size, t.all);
  below = omega (arith, same.counts h.level, t.below);
  held = omega (arith, same.size, t.held);
  level = t.level;
}

-- a counter counts no more than all levels
pub counter_within : (top : ℕ) (h : Histogram) (ns : List ℕ) (s : ℕ) → Tallies top h ns → get_or h.counts.items s 0 ≤ length ns
counter_within top h ns s t = omega (arith, t.each s, count_by-le-length (λ r. nat_lt r (s + 1)) ns)

-- the counter of a level and those of the others, where one is added
put_more : (items : List ℕ) (s v : ℕ) → s < length items → cond (nat_lt s (v + 1)) 1 0 + get_or items v 0 ≡ get_or (set items s (get_or items s 0 + 1)) v 0 + cond (nat_lt s v) 1 0
put_more items s v within = elim (cases_order s v) [
  | inl same ↦
      let here : get_or (set items s (get_or items s 0 + 1)) v 0 ≡ get_or items s 0 + 1 = ap (λ (t : ℕ). get_or (set items s (get_or items s 0 + 1)) t 0) (sym same) ∙ get_or-set_same items s (get_or items s 0 + 1) 0 within in
      let there : get_or items v 0 ≡ get_or items s 0 = ap (λ (t : ℕ). get_or items t 0) (sym same) in
      omega (arith, here, there, one-lt s (v + 1) (omega arith), one-le s v (omega arith))
  | inr (inl less) ↦ omega (arith, get_or-set_other items s v (get_or items s 0 + 1) 0 (omega arith), one-lt s (v + 1) (omega arith), one-lt s v less)
  | inr (inr more) ↦ omega (arith, get_or-set_other items s v (get_or items s 0 + 1) 0 (omega arith), one-le s (v + 1) (omega arith), one-le s v (omega arith))
]

put_less : (items : List ℕ) (s v : ℕ) → s < length items → 1 ≤ get_or items s 0 → get_or items v 0 + cond (nat_lt s v) 1 0 ≡ cond (nat_lt s (v + 1)) 1 0 + get_or (set items s (get_or items s 0 - 1)) v 0
put_less items s v within some = elim (cases_order s v) [
  | inl same ↦
      let here : get_or (set items s (get_or items s 0 - 1)) v 0 ≡ get_or items s 0 - 1 = ap (λ (t : ℕ). get_or (set items s (get_or items s 0 - 1)) t 0) (sym same) ∙ get_or-set_same items s (get_or items s 0 - 1) 0 within in
      let there : get_or items v 0 ≡ get_or items s 0 = ap (λ (t : ℕ). get_or items t 0) (sym same) in
      omega (arith, here, there, one-lt s (v + 1) (omega arith), one-le s v (omega arith))
  | inr (inl less) ↦ omega (arith, get_or-set_other items s v (get_or items s 0 - 1) 0 (omega arith), one-lt s (v + 1) (omega arith), one-lt s v less)
  | inr (inr more) ↦ omega (arith, get_or-set_other items s v (get_or items s 0 - 1) 0 (omega arith), one-le s (v + 1) (omega arith), one-le s v (omega arith))
]

-- the histogram with one more of a level
pub tallies_added : (top s : ℕ) (h g : Histogram) (ns : List ℕ) → s ≤ top → g.counts.items ≡ set h.counts.items s (get_or h.counts.items s 0 + 1) → g.level ≡ h.level → g.held ≡ h.held + 1
    → g.below ≡ h.below + cond (nat_lt s h.level) 1 0 → Tallies top h ns → Tallies top g (s ∷ ns)
tallies_added top s h g ns le counts-is level-is held-is below-is t = record {
  short = t.short;
  size = ap length counts-is ∙ length-set h.counts.items s (get_or h.counts.items s 0 + 1) ∙ t.size;
  each = λ v.
      let counter = ap (λ (items : List ℕ). get_or items v 0) counts-is in
      omega (arith, count-cons (v + 1) s ns, count-cons v s ns, counter, t.each v, put_more h.counts.items s v (omega (arith, t.size)));
  all = omega (arith, count-cons (top + 1) s ns, one-lt s (top + 1) (omega arith), t.all);
  below = let same = ap (λ (v : ℕ). count_under v (s ∷ ns)) level-is in omega (arith, same, count-cons h.level s ns, below-is, t.below);
  held = omega (arith, held-is, t.held);
  level = omega (arith, level-is, t.level);
}

pub Tallies-known : (top s : ℕ) (h : Histogram) (ns : List ℕ) → Tallies top h (s ∷ ns) → s ≤ top
Tallies-known top s h ns t = elim (cases_lt top s) [
  | inr low ↦ low
  | inl high ↦ absurd (omega (arith, count-cons (top + 1) s ns, one-le s (top + 1) (omega arith), t.all, count_by-le-length (λ r. nat_lt r (top + 1)) ns))
]

pub count_rises : (s : ℕ) (ns : List ℕ) → count_under s ns ≤ count_under (s + 1) ns
count_rises s [] = omega arith
count_rises s (n ∷ ns) = elim (cases_lt n s) [
  | inl low ↦ omega (arith, count-cons s n ns, count-cons (s + 1) n ns, one-lt n s low, one-lt n (s + 1) (omega arith), count_rises s ns)
  | inr high ↦ omega (arith, count-cons s n ns, count-cons (s + 1) n ns, one-le n s high, count_rises s ns)
]

-- a level that was counted has a counter above 0
pub Tallies-counted : (top s : ℕ) (h : Histogram) (ns : List ℕ) → Tallies top h (s ∷ ns) → 1 ≤ get_or h.counts.items s 0
Tallies-counted top s h ns t = omega (arith, t.each s, count-cons (s + 1) s ns, count-cons s s ns, one-lt s (s + 1) (omega arith), one-le s s (omega arith), count_rises s ns)

pub counted_below : (top s : ℕ) (h : Histogram) (ns : List ℕ) → Tallies top h (s ∷ ns) → s < h.level → 1 ≤ h.below
counted_below top s h ns t lt = omega (arith, t.below, count-cons h.level s ns, one-lt s h.level lt)

-- the histogram with one less of a level
pub tallies_removed : (top s : ℕ) (h g : Histogram) (ns : List ℕ) → g.counts.items ≡ set h.counts.items s (get_or h.counts.items s 0 - 1) → g.level ≡ h.level → g.held + 1 ≡ h.held
    → g.below + cond (nat_lt s h.level) 1 0 ≡ h.below → Tallies top h (s ∷ ns) → Tallies top g ns
tallies_removed top s h g ns counts-is level-is held-is below-is t =
    let low = Tallies-known top s h ns t in
    record {
      short = t.short;
      size = ap length counts-is ∙ length-set h.counts.items s (get_or h.counts.items s 0 - 1) ∙ t.size;
      each = λ v.
          let counter = ap (λ (items : List ℕ). get_or items v 0) counts-is in
          omega (arith, count-cons (v + 1) s ns, count-cons v s ns, counter, t.each v, put_less h.counts.items s v (omega (arith, t.size)) (Tallies-counted top s h ns t));
      all = omega (arith, count-cons (top + 1) s ns, one-lt s (top + 1) (omega arith), t.all);
      below = let same = ap (λ (v : ℕ). count_under v ns) level-is in omega (arith, same, count-cons h.level s ns, below-is, t.below);
      held = omega (arith, held-is, t.held);
      level = omega (arith, level-is, t.level);
    }

-- the levels below with one that was counted
pub some_below : (top s : ℕ) (h : Histogram) (ns : List ℕ) → Tallies top h (s ∷ ns) → cond (nat_lt s h.level) 1 0 ≤ h.below
some_below top s h ns t = omega (arith, t.below, count-cons h.level s ns)

-- a counter where one level was taken back counts no more than the others
pub counter_between : (top a b : ℕ) (h : Histogram) (mid ns : List ℕ) → mid ≡ set h.counts.items a (get_or h.counts.items a 0 - 1) → Tallies top h (a ∷ ns) → get_or mid b 0 ≤ length ns
counter_between top a b h mid ns mid-is t =
    let between = ap (λ (items : List ℕ). get_or items b 0) mid-is in
    omega (
      arith,
      between,
      t.each b,
      count-cons (b + 1) a ns,
      count-cons b a ns,
      put_less h.counts.items a b (omega (arith, t.size, Tallies-known top a h ns t)) (Tallies-counted top a h ns t),
      count_by-le-length (λ r. nat_lt r (b + 1)) ns,
    )

-- the histogram with one level in place of another
pub tallies_exchanged : (top a b : ℕ) (h g : Histogram) (mid ns : List ℕ) → b ≤ top → mid ≡ set h.counts.items a (get_or h.counts.items a 0 - 1) → g.counts.items ≡ set mid b (get_or mid b 0 + 1) → g.level ≡ h.level → g.held ≡ h.held
    → g.below + cond (nat_lt a h.level) 1 0 ≡ h.below + cond (nat_lt b h.level) 1 0 → Tallies top h (a ∷ ns) → Tallies top g (b ∷ ns)
tallies_exchanged top a b h g mid ns le mid-is counts-is level-is held-is below-is t =
    let low = Tallies-known top a h ns t in
    let long : length mid ≡ top + 1 = ap length mid-is ∙ length-set h.counts.items a (get_or h.counts.items a 0 - 1) ∙ t.size in
    record {
      short = t.short;
      size = ap length counts-is ∙ length-set mid b (get_or mid b 0 + 1) ∙ long;
      each = λ v.
          let counter = ap (λ (items : List ℕ). get_or items v 0) counts-is in
          let between = ap (λ (items : List ℕ). get_or items v 0) mid-is in
          omega (
            arith,
            count-cons (v + 1) a ns,
            count-cons v a ns,
            count-cons (v + 1) b ns,
            count-cons v b ns,
            counter,
            between,
            t.each v,
            put_less h.counts.items a v (omega (arith, t.size)) (Tallies-counted top a h ns t),
            put_more mid b v (omega (arith, long)),
          );
      all = omega (arith, count-cons (top + 1) a ns, count-cons (top + 1) b ns, one-lt a (top + 1) (omega arith), one-lt b (top + 1) (omega arith), t.all);
      below = let same = ap (λ (v : ℕ). count_under v (b ∷ ns)) level-is in omega (arith, same, count-cons h.level a ns, count-cons h.level b ns, below-is, t.below);
      held = omega (arith, held-is, t.held);
      level = omega (arith, level-is, t.level);
    }

-- no more are below than were counted
pub below_within : (top : ℕ) (h : Histogram) (ns : List ℕ) → Tallies top h ns → h.below ≤ length ns
below_within top h ns t = omega (arith, t.below, count_within h.level ns)

-- the level after the one before
pub count_before : (level : ℕ) (ns : List ℕ) → 1 ≤ level → count_under (level - 1 + 1) ns ≡ count_under level ns
count_before level ns some = ap (λ (v : ℕ). count_under v ns) (let z : level - 1 + 1 ≡ level = omega arith in z)

pub next_below : (top level : ℕ) (h : Histogram) (ns : List ℕ) → Tallies top h ns → 1 ≤ level → count_under level ns ≡ get_or h.counts.items (level - 1) 0 + count_under (level - 1) ns
next_below top level h ns t some = omega (arith, count_before level ns some, t.each (level - 1))

-- where the levels up to one are not all, it is not the top
pub not_top : (top n level : ℕ) (h : Histogram) (ns : List ℕ) → Tallies top h ns → level ≤ top → n ≤ h.held → count_under level ns + get_or h.counts.items level 0 < n → level < top
not_top top n level h ns t within all few = elim (cases_lt level top) [
  | inl low ↦ low
  | inr high ↦ absurd (let e : count_under (level + 1) ns ≡ count_under (top + 1) ns = ap (λ (v : ℕ). count_under (v + 1) ns) (let z : level ≡ top = omega (arith, within) in z) in omega (arith, e, t.all, t.held, t.each level))
]

-- what was counted, with another spelling of one level
pub Tallies-entered : (top : ℕ) (h : Histogram) (s : ℕ) (ns l : List ℕ) → s ∷ [] ≡ l → Tallies top h (s ∷ ns) → Tallies top h (l ++ ns)
Tallies-entered top h s ns l e t = subst (λ (m : List ℕ). Tallies top h (m ++ ns)) e t

-- the histogram with another present level
pub tallies_moved : (top : ℕ) (h g : Histogram) (ns : List ℕ) → g.counts.items ≡ h.counts.items → g.held ≡ h.held → g.level ≤ top → g.below ≡ count_under g.level ns → Tallies top h ns → Tallies top g ns
tallies_moved top h g ns counts-is held-is level below t = record {
  short = t.short;
  size = ap length counts-is ∙ t.size;
  each = λ v. let counter = ap (λ (items : List ℕ). get_or items v 0) counts-is in omega (arith, counter, t.each v);
  all = t.all;
  below = below;
  held = omega (arith, held-is, t.held);
  level = level;
}

-- the level at which the count passes n is number n
pub level-selected : (top k n : ℕ) (h : Histogram) (ns : List ℕ) → n ≡ max 1 (min k h.held) → h.below < n → n ≤ count_under (h.level + 1) ns → Tallies top h ns → h.level ≡ ranked k ns
level-selected top k n h ns n-is few enough t = nth_from ns k n h.level (omega (arith, n-is, t.held)) (omega (arith, few, t.below), enough)
