-- What is read of a plain raster has as many samples as was asked for, none over the maxval.
use Rattle.std.proofs.Common.{◌≡◌, ℕ, zero, suc, ◌≤◌, Bool, true, false, cond, List, [], ◌∷◌, length, Result, Ok, Err, refl, sym, ap, subst, ◌∙◌}
use Rattle.std.specs.List.{AllByRecursion}
use Rattle.mw_netpbm_plain.specs.declared.fault.ReadFault.{ReadFault}
use Rattle.mw_netpbm_plain.specs.declared.fault.ReadFault.TheVariants.{Trailing}
use Rattle.mw_netpbm_plain.specs.Reading.{◌>>=◌}
use Rattle.mw_model.specs.NetpbmGrammar.{is_white}
use Rattle.mw_netpbm_plain.specs.Plain.{plain_at, tail_at}
use Rattle.mw_netpbm_plain.proofs.Outcomes.{good}

-- the value of a step that did not fail
pub bind_ok : {A B : Type 0} (r : Result A ReadFault) (f : A → Result B ReadFault) (y : B) → (r >>= f) ≡ Ok y → (x : A) × (r ≡ Ok x) × (f x ≡ Ok y)
bind_ok (Ok x) f y e = (x, refl, e)
bind_ok (Err d) f y e = absurd cc

-- a test that did not fail
pub guard_ok : {A : Type 0} (b : Bool) (d : ReadFault) (r : Result A ReadFault) (y : A) → cond b (Err d) r ≡ Ok y → (b ≡ false) × (r ≡ Ok y)
guard_ok true d r y e = absurd cc
guard_ok false d r y e = (refl, e)

pub ok_is : {A : Type 0} (x y : A) → good x ≡ good y → x ≡ y
ok_is x y e = cc

abbrev pub Within : ℕ → List ℕ → Type 0
Within m xs = AllByRecursion (λ s. s ≤ m) xs

-- ---- plain

tail_ends : (w : Bool) (xs : List ℕ) → cond w (Ok []) (Err Trailing) ≡ Ok xs → [] ≡ xs
tail_ends true xs e = ok_is [] xs e
tail_ends false xs e = absurd cc

pub tail_nil : (bytes xs : List ℕ) → tail_at bytes ≡ Ok xs → [] ≡ xs
unfolding tail_at
tail_nil [] xs e = ok_is [] xs e
tail_nil (b ∷ bs) xs e = tail_ends (is_white b) xs e

pub plain_length : (place : ℕ → List ℕ → Result (ℕ × List ℕ) ReadFault) (n : ℕ) (bytes xs : List ℕ) → plain_at place n bytes ≡ Ok xs → length xs ≡ n
unfolding plain_at
plain_length place zero bytes xs e = ap length (sym (tail_nil bytes xs e))
plain_length place (suc n) bytes xs e =
    let a = bind_ok (place n bytes) (λ first. plain_at place n first.1 >>= λ others. Ok (first.0 ∷ others)) xs e in
    let b = bind_ok (plain_at place n a.0.1) (λ others. Ok (a.0.0 ∷ others)) xs a.2 in
    ap length (sym (ok_is (a.0.0 ∷ b.0) xs b.2)) ∙ ap suc (plain_length place n a.0.1 b.0 b.1)

pub plain_within : (place : ℕ → List ℕ → Result (ℕ × List ℕ) ReadFault) (m : ℕ) → ((left : ℕ) (bytes : List ℕ) (x : ℕ × List ℕ) → place left bytes ≡ Ok x → x.0 ≤ m)
    → (n : ℕ) (bytes xs : List ℕ) → plain_at place n bytes ≡ Ok xs → Within m xs
unfolding plain_at
plain_within place m each zero bytes xs e = subst (λ ys. Within m ys) (tail_nil bytes xs e) tt
plain_within place m each (suc n) bytes xs e =
    let a = bind_ok (place n bytes) (λ first. plain_at place n first.1 >>= λ others. Ok (first.0 ∷ others)) xs e in
    let b = bind_ok (plain_at place n a.0.1) (λ others. Ok (a.0.0 ∷ others)) xs a.2 in
    subst (λ ys. Within m ys) (ok_is (a.0.0 ∷ b.0) xs b.2) (each n bytes a.0 a.1, plain_within place m each n a.0.1 b.0 b.1)
