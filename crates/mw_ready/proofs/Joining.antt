-- Lists that run through the steps.
use Rattle.std.proofs.Common.{◌≡◌, ◌≢◌, ℕ, zero, suc, ◌+◌, ◌<◌, ◌≤◌, Bool, true, false, ◌||◌, cond, nat_eq, Option, Some, None, List, [], ◌∷◌, length, refl, ap, sym, subst, ◌∙◌, arith, inl, inr, set, get_or}
use Rattle.std.specs.List.{list_any}
use Rattle.std.specs.Option.{option_eq}
use Rattle.std.proofs.lemmas.Bool.{cases_eq}
use Rattle.std.proofs.lemmas.List.{get_or-set_same, get_or-set_other}
use Rattle.mw_ready.specs.declared.need.Need.{Need}
use Rattle.mw_ready.specs.declared.links.Link.{Link}
use Rattle.mw_ready.specs.Boards.{is_source, step_reads, no_need}
use Rattle.mw_ready.specs.Links.{Linked, Skips, no_link, link_at}

-- a step more that does not read
skips-more : (needs : List Need) (s step to : ℕ) → step_reads (get_or needs step no_need) s ≡ false → Skips needs s (step + 1) to → Skips needs s step to
skips-more needs s step to not_so after = record {
  ordered = omega (arith, after.ordered);
  none = λ k from lt. elim (cases_eq k step) [
    | inl here ↦ ap (λ (j : ℕ). step_reads (get_or needs j no_need) s) here ∙ not_so
    | inr ne ↦ after.none k (beyond k step from ne) lt
  ];
}
  where
    beyond : (k n : ℕ) → n ≤ k → k ≢ n → n + 1 ≤ k
    beyond k n le ne = omega arith

skips-none : (needs : List Need) (s step : ℕ) → Skips needs s step step
skips-none needs s step = record { ordered = omega arith; none = λ k from lt. absurd (omega arith) }

-- a step has joined the lists of what it reads
pub linked-more : (needs : List Need) (need : Need) (old new : List Link) (step : ℕ) → get_or needs step no_need ≡ need → Linked needs old (step + 1) → length new ≡ length old
    → ((s : ℕ) → s < length old → (link_at new s).first ≡ cond (step_reads need s) step (link_at old s).first)
    → ((i s : ℕ) → i < 3 → s < length old → is_source s (get_or need.steps i None) ≡ true → get_or (link_at new step).next i 0 ≡ (link_at old s).first)
    → ((k : ℕ) → k ≢ step → (link_at new k).next ≡ (link_at old k).next)
    → Linked needs new step
linked-more needs need old new step is linked size firsts own others = record {
  size = size ∙ linked.size;
  first = λ s lt. by_case s lt (step_reads need s) refl;
  next = λ k i s from lt i-lt s-lt reads. elim (cases_eq k step) [
    | inl here ↦ subst (λ (j : ℕ). Skips needs s (j + 1) (get_or (link_at new j).next i 0)) (sym here)
        (subst (λ (to : ℕ). Skips needs s (step + 1) to) (sym (own i s i-lt (omega (arith, linked.size)) (ap (λ (n : Need). is_source s (get_or n.steps i None)) (sym is ∙ ap (λ (j : ℕ). get_or needs j no_need) (sym here)) ∙ reads))) (linked.first s s-lt))
    | inr ne ↦ subst (λ (xs : List ℕ). Skips needs s (k + 1) (get_or xs i 0)) (sym (others k ne)) (linked.next k i s (beyond k step from ne) lt i-lt s-lt reads)
  ];
}
  where
    beyond : (k n : ℕ) → n ≤ k → k ≢ n → n + 1 ≤ k
    beyond k n le ne = omega arith

    by_case : (s : ℕ) → s < length needs → (b : Bool) → step_reads need s ≡ b → Skips needs s step (link_at new s).first
    by_case s lt true e =
        subst (λ (to : ℕ). Skips needs s step to) (sym (firsts s (omega (arith, linked.size)) ∙ ap (λ (b : Bool). cond b step (link_at old s).first) e)) (skips-none needs s step)
    by_case s lt false e =
        subst (λ (to : ℕ). Skips needs s step to) (sym (firsts s (omega (arith, linked.size)) ∙ ap (λ (b : Bool). cond b step (link_at old s).first) e)) (skips-more needs s step (link_at old s).first (ap (λ (n : Need). step_reads n s) is ∙ e) (linked.first s lt))

-- one of three
cond-three : (a b c : Bool) (x y : ℕ) → cond c x (cond b x (cond a x y)) ≡ cond (a || (b || (c || false))) x y
cond-three true b c x y = go b c
  where
    go : (b c : Bool) → cond c x (cond b x x) ≡ x
    go true true = refl
    go true false = refl
    go false true = refl
    go false false = refl
cond-three false true true x y = refl
cond-three false true false x y = refl
cond-three false false true x y = refl
cond-three false false false x y = refl

any-three : (p : Option ℕ → Bool) (xs : List (Option ℕ)) → length xs ≡ 3 → list_any p xs ≡ p (get_or xs 0 None) || (p (get_or xs 1 None) || (p (get_or xs 2 None) || false))
any-three p [] e = absurd (omega arith)
any-three p (x ∷ []) e = absurd (omega arith)
any-three p (x ∷ y ∷ []) e = absurd (omega arith)
any-three p (x ∷ y ∷ z ∷ []) e = refl
any-three p (x ∷ y ∷ z ∷ w ∷ ws) e = absurd (omega arith)

-- the first readers after all three sources of a step are told
pub first-three : (links one two three : List Link) (steps : List (Option ℕ)) (step s : ℕ) → length steps ≡ 3
    → (link_at one s).first ≡ cond (is_source s (get_or steps 0 None)) step (link_at links s).first
    → (link_at two s).first ≡ cond (is_source s (get_or steps 1 None)) step (link_at one s).first
    → (link_at three s).first ≡ cond (is_source s (get_or steps 2 None)) step (link_at two s).first
    → (link_at three s).first ≡ cond (list_any (is_source s) steps) step (link_at links s).first
first-three links one two three steps step s size a b c =
    c
    ∙ ap (λ (k : ℕ). cond (is_source s (get_or steps 2 None)) step k) (b ∙ ap (λ (k : ℕ). cond (is_source s (get_or steps 1 None)) step k) a)
    ∙ cond-three (is_source s (get_or steps 0 None)) (is_source s (get_or steps 1 None)) (is_source s (get_or steps 2 None)) step (link_at links s).first
    ∙ ap (λ (b : Bool). cond b step (link_at links s).first) (sym (any-three (is_source s) steps size))

-- what stands beside a step is written
pub first-kept : (links : List Link) (k s : ℕ) (next : List ℕ) → k < length links → (link_at (set links k (record (link_at links k) { next = next })) s).first ≡ (link_at links s).first
first-kept links k s next lt =
    elim (cases_eq s k) [
      | inl here ↦ ap (λ (j : ℕ). (link_at (set links k (record (link_at links k) { next = next })) j).first) here
          ∙ ap (λ (l : Link). l.first) (get_or-set_same links k (record (link_at links k) { next = next }) no_link lt)
          ∙ ap (λ (j : ℕ). (link_at links j).first) (sym here)
      | inr ne ↦ ap (λ (l : Link). l.first) (get_or-set_other links k s (record (link_at links k) { next = next }) no_link ne)
    ]

pub next-written : (links : List Link) (k : ℕ) (next : List ℕ) → k < length links → (link_at (set links k (record (link_at links k) { next = next })) k).next ≡ next
next-written links k next lt = ap (λ (l : Link). l.next) (get_or-set_same links k (record (link_at links k) { next = next }) no_link lt)

pub next-others : (links : List Link) (k s : ℕ) (next : List ℕ) → s ≢ k → (link_at (set links k (record (link_at links k) { next = next })) s).next ≡ (link_at links s).next
next-others links k s next ne = ap (λ (l : Link). l.next) (get_or-set_other links k s (record (link_at links k) { next = next }) no_link ne)

pub next-three : (a b c to i s : ℕ) (steps : List (Option ℕ)) → (is_source s (get_or steps 0 None) ≡ true → a ≡ to) → (is_source s (get_or steps 1 None) ≡ true → b ≡ to) → (is_source s (get_or steps 2 None) ≡ true → c ≡ to)
    → i < 3 → is_source s (get_or steps i None) ≡ true → get_or (a ∷ b ∷ c ∷ []) i 0 ≡ to
next-three a b c to zero s steps first second third lt reads = first reads
next-three a b c to (suc zero) s steps first second third lt reads = second reads
next-three a b c to (suc (suc zero)) s steps first second third lt reads = third reads
next-three a b c to (suc (suc (suc i))) s steps first second third lt reads = absurd (omega arith)

-- the source is the step that it is compared with
pub source-same : (x : Option ℕ) (s : ℕ) → true ≡ option_eq nat_eq x (Some s) → is_source s x ≡ true
source-same None s e = absurd (cc)
source-same (Some k) s e = sym e
