-- A piece is taken apart: the front of it to the payload that is gathered, and the rest of it behind what waits.
use Rattle.std.proofs.Common.{◌≡◌, ℕ, ◌+◌, ◌-◌, ◌<◌, ◌≤◌, min, nat_lt, if◌then◌else◌, ◌⊎◌, inl, inr, List, [], ◌∷◌, ◌++◌, length, drop, Result, Ok, Err, OnOk, OnErr, refl, arith, append_assoc}
use Rattle.std.proofs.lemmas.Bool.{cases_lt, lt-ltb, le-ltb}
use Rattle.std.proofs.lemmas.List.{append-nil, drop_all}

pub on_ok : {X E : Type 0} {A B : Type 0} (r : Result X E) → OnOk r A → (A → B) → OnOk r B
on_ok (Ok x) h f = f h
on_ok (Err e) h f = tt

pub on_err : {X E : Type 0} {A : Type 0} (r : Result X E) → A → OnErr r A
on_err (Ok x) a = tt
on_err (Err e) a = a

-- two facts on an error, and what follows from both
pub both_on_err : {X E : Type 0} {A B C : Type 0} (r : Result X E) → OnErr r A → OnErr r B → (A → B → C) → OnErr r C
both_on_err (Ok x) a b f = tt
both_on_err (Err e) a b f = f a b

pub empty : (xs : List ℕ) → length xs ≡ 0 → xs ≡ []
empty [] e = refl
empty (x ∷ xs) e = absurd (omega arith)

-- nothing waits, or the payload takes none
pub fed_both : (line payload waits mine other : List ℕ) → (mine ≡ []) ⊎ (waits ≡ []) → line ++ (payload ++ mine) ++ (waits ++ other) ≡ line ++ payload ++ waits ++ (mine ++ other)
fed_both line payload waits mine other (inl none) = rw (none, append-nil) (simp append_assoc)
fed_both line payload waits mine other (inr none) = rw (none, append-nil) (simp append_assoc)

-- so it is where nothing waits while bytes of the payload are missing, and the payload takes no more than these
pub one_none : (mine rest : List ℕ) (have len at : ℕ) → (have < len → at ≡ length rest) → length mine + have ≤ len → (mine ≡ []) ⊎ (drop at rest ≡ [])
one_none mine rest have len at ends few = elim (cases_lt have len) [
  | inl less ↦ inr (drop_all at rest (omega (arith, ends less)))
  | inr whole ↦ inl (empty mine (omega (arith, whole, few)))
]

-- Where a payload or what waits behind it has no place for its part of a piece, the piece is longer than there are places for.
pub spare_lacks : (have cap len loose seen room mine other n : ℕ) → seen ≡ loose → have ≤ cap → have ≤ len → loose ≤ room → mine ≡ min (len - have) n → n ≡ mine + other → (cap < have + mine) ⊎ ((have + mine ≤ cap) × (room < loose + other))
    → (if nat_lt cap len then cap - have else len - have + (room - seen)) < n
spare_lacks have cap len loose seen room mine other n shown held within placed part whole full = elim (cases_lt cap len) [
  | inl less ↦ rw (lt-ltb cap len less) (elim full [ inl a ↦ omega (arith, held, part, whole, a) | inr b ↦ absurd (omega (arith, less, held, within, placed, part, whole, b.0, b.1)) ])
  | inr enough ↦ rw (le-ltb cap len enough) (elim full [ inl a ↦ absurd (omega (arith, enough, within, part, a)) | inr b ↦ omega (arith, shown, within, placed, part, whole, b.0, b.1) ])
]
