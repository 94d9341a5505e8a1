-- A reader and the relation that tells its refusals, in both directions; and the laws by which readers join.
use Rattle.std.proofs.Common.{◌≡◌, Bool, true, false, cond, Result, Ok, Err, refl, sym, ap, subst, ◌∙◌, inl, inr, ◌⊎◌}
use Rattle.mw_model.specs.declared.codes.Code.{Code}
use Rattle.mw_netpbm_plain.specs.declared.fault.ReadFault.{ReadFault}
use Rattle.mw_netpbm_plain.specs.Reading.{◌>>=◌}

abbrev pub bad : {A : Type 0} → ReadFault → Result A ReadFault
bad d = Err d

abbrev pub good : {A : Type 0} → A → Result A ReadFault
good x = Ok x

pub no_both : {A : Type 0} (read : Result A ReadFault) (x : A) (d : ReadFault) → read ≡ Ok x → read ≡ Err d → ⊥
no_both read x d e f = let clash : good x ≡ bad d = sym e ∙ f in cc

pub ok_or_err : {A : Type 0} (read : Result A ReadFault) → ((x : A) × (read ≡ Ok x)) ⊎ ((d : ReadFault) × (read ≡ Err d))
ok_or_err (Ok x) = inl (x, refl)
ok_or_err (Err d) = inr (d, refl)

-- reading meets a fault of this name
abbrev pub Meets : {A : Type 0} → (ReadFault → Code) → Code → Result A ReadFault → Type 0
Meets name c read = (d : ReadFault) × (name d ≡ c) × (read ≡ Err d)

-- reading fails exactly where the relation holds, and with the code that it tells
pub record RefusesAs {A : Type 0} (name : ReadFault → Code) (read : Result A ReadFault) (Refusal : Code → Type 0) : Type 0 where
  pub refused : (d : ReadFault) → read ≡ Err d → Refusal (name d)
  pub met : (c : Code) → Refusal c → Meets name c read

-- no reader fails with two codes, or fails and gives a value
pub one_code : {A : Type 0} (name : ReadFault → Code) (read : Result A ReadFault) (R : Code → Type 0) → RefusesAs name read R → (c d : Code) → R c → R d → c ≡ d
one_code {A = A} name read R is c d p q =
    let x = is.met c p in
    let y = is.met d q in
    let same : bad {A = A} x.0 ≡ bad y.0 = sym x.2 ∙ y.2 in
    let fault : x.0 ≡ y.0 = cc in
    sym x.1 ∙ ap name fault ∙ y.1

pub code_or_value : {A : Type 0} (name : ReadFault → Code) (read : Result A ReadFault) (R : Code → Type 0) → RefusesAs name read R → (c : Code) (x : A) → R c → read ≡ Ok x → ⊥
code_or_value name read R is c x p e = let m = is.met c p in no_both read x m.0 e m.2

-- ---- readers

-- a reader that never fails
pub refuses-given : {A : Type 0} (name : ReadFault → Code) (x : A) → RefusesAs name (good x) (λ c. ⊥)
refuses-given {A = A} name x = record {
  refused = λ d e. no_both (good x) x d refl e;
  met = λ c none. absurd none;
}

-- a reader with one fault
pub refuses-with : {A : Type 0} (name : ReadFault → Code) (k : ReadFault) (read : Result A ReadFault) → ((d : ReadFault) → read ≡ Err d → k ≡ d)
    → RefusesAs name read (λ c. (name k ≡ c) × ((x : A) → ¬ (read ≡ Ok x)))
refuses-with name k read only = record {
  refused = λ d e. (ap name (only d e), λ x is. no_both read x d is e);
  met = λ c r. elim (ok_or_err read) [
    | inl x ↦ absurd (r.1 x.0 x.1)
    | inr d ↦ (d.0, ap name (sym (only d.0 d.1)) ∙ r.0, d.1)
  ];
}

-- one reader after another
pub refuses-then : {A B : Type 0} (name : ReadFault → Code) (read : Result A ReadFault) (f : A → Result B ReadFault) (R : Code → Type 0) (S : A → Code → Type 0)
    → RefusesAs name read R → ((x : A) → read ≡ Ok x → RefusesAs name (f x) (S x)) → RefusesAs name (read >>= f) (λ c. R c ⊎ ((x : A) × (read ≡ Ok x) × S x c))
refuses-then {A = A} name read f R S first next = record {
  refused = λ d e. failed read first next d e;
  met = λ c r. elim r [
    | inl p ↦ let m = first.met c p in (m.0, m.1, ap (λ (t : Result A ReadFault). t >>= f) m.2)
    | inr q ↦ let m = (next q.0 q.1).met c q.2 in (m.0, m.1, ap (λ (t : Result A ReadFault). t >>= f) q.1 ∙ m.2)
  ];
}
  where
    failed : (read : Result A ReadFault) → RefusesAs name read R → ((x : A) → read ≡ Ok x → RefusesAs name (f x) (S x)) → (d : ReadFault) → (read >>= f) ≡ Err d
        → R (name d) ⊎ ((x : A) × (read ≡ Ok x) × S x (name d))
    failed (Ok x) first next d e = inr (x, refl, (next x refl).refused d e)
    failed (Err k) first next d e = inl (first.refused d (let same : k ≡ d = cc in ap (λ (t : ReadFault). bad t) same))

-- a reader whose value is then seen otherwise
pub refuses-view : {A B : Type 0} (name : ReadFault → Code) (read : Result A ReadFault) (view : A → B) (R : Code → Type 0) → RefusesAs name read R → RefusesAs name (read >>= λ x. good (view x)) R
refuses-view {A = A} name read view R first =
    let both = refuses-then name read (λ x. good (view x)) R (λ x c. ⊥) first (λ x is. refuses-given name (view x)) in
    record {
      refused = λ d e. elim (both.refused d e) [ inl r ↦ r | inr none ↦ absurd none.2 ];
      met = λ c r. both.met c (inl r);
    }

-- readers with one fault, one after the other
pub only-then : {A B : Type 0} (k : ReadFault) (read : Result A ReadFault) (f : A → Result B ReadFault) → ((d : ReadFault) → read ≡ Err d → k ≡ d) → ((x : A) (d : ReadFault) → f x ≡ Err d → k ≡ d)
    → (d : ReadFault) → (read >>= f) ≡ Err d → k ≡ d
only-then k (Ok x) f first next d e = next x d e
only-then k (Err j) f first next d e = first d (let same : j ≡ d = cc in ap (λ (t : ReadFault). bad t) same)

-- a test before a reader
pub refuses-test : {A : Type 0} (name : ReadFault → Code) (b : Bool) (k : ReadFault) (read : Result A ReadFault) (R : Code → Type 0) → RefusesAs name read R
    → RefusesAs name (cond b (Err k) read) (λ c. (b ≡ true) × (name k ≡ c) ⊎ (b ≡ false) × R c)
refuses-test name true k read R next = record {
  refused = λ d e. inl (refl, ap name (let same : k ≡ d = cc in same));
  met = λ c r. elim r [ inl p ↦ (k, p.1, refl) | inr q ↦ absurd (let clash : true ≡ false = q.0 in cc) ];
}
refuses-test name false k read R next = record {
  refused = λ d e. inr (refl, next.refused d e);
  met = λ c r. elim r [ inl p ↦ absurd (let clash : false ≡ true = p.0 in cc) | inr q ↦ next.met c q.1 ];
}

-- ---- relations

pub refuses-like : {A : Type 0} (name : ReadFault → Code) (read : Result A ReadFault) (R S : Code → Type 0) → RefusesAs name read R → ((c : Code) → R c → S c) → ((c : Code) → S c → R c)
    → RefusesAs name read S
refuses-like name read R S is to from = record {
  refused = λ d e. to (name d) (is.refused d e);
  met = λ c s. is.met c (from c s);
}

-- refusals by these faults under other names, where the relation tells none of those that differ
pub refuses-renamed : {A : Type 0} (name other : ReadFault → Code) (read : Result A ReadFault) (R : Code → Type 0) → RefusesAs name read R → ((d : ReadFault) → R (name d) → name d ≡ other d)
    → RefusesAs other read R
refuses-renamed name other read R is same = record {
  refused = λ d e. let r = is.refused d e in subst R (same d r) r;
  met = λ c r. let m = is.met c r in (m.0, sym (same m.0 (subst R (sym m.1) r)) ∙ m.1, m.2);
}
