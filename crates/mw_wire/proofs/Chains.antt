-- Laws of requests that are answered one after another.
use Rattle.std.proofs.Common.{◌≡◌, ◌≢◌, ℕ, List, [], ◌∷◌, ◌++◌, refl, sym, ap, subst, ◌∙◌, append_assoc}
use Rattle.std.proofs.lemmas.List.{append-nil}
use Rattle.mw_model.specs.declared.requests.Ask.TheVariants.{Quit}
use Rattle.mw_model.specs.Lines.{Asked, AskAlone, Found, Begins}
use Rattle.mw_session_intake.specs.Reading.{front}
use Rattle.mw_session_intake.proofs.Front.{Begins_more, is_front}
use Rattle.mw_wire.specs.Chains.{NoneQuits, AreAnswered, HasAnswered}

pub begins-append : (rs qs : List Asked) (xs mid rest : List ℕ) → Begins xs rs mid → Begins mid qs rest → Begins xs (rs ++ qs) rest
begins-append [] qs xs mid rest b d = subst (λ l. Begins l qs rest) b d
begins-append (r ∷ rs) qs xs mid rest b d = (b.0, b.1, begins-append rs qs b.0 mid rest b.2 d)

pub none-quits-append : (rs qs : List Asked) → NoneQuits rs → NoneQuits qs → NoneQuits (rs ++ qs)
none-quits-append [] qs h k = k
none-quits-append (r ∷ rs) qs h k = (h.0, none-quits-append rs qs h.1 k)

module _ {S : Type 0} (Answer : S → Asked → List ℕ → S → Type 0) where
  pub answered-append : (rs qs : List Asked) (s mid t : S) (x y : List ℕ) → AreAnswered Answer s rs x mid → AreAnswered Answer mid qs y t → AreAnswered Answer s (rs ++ qs) (x ++ y) t
  answered-append [] qs s mid t x y a b = rw a.0 (subst (λ z. AreAnswered Answer z qs y t) a.1 b)
  answered-append (r ∷ rs) qs s mid t x y (next, front, rest, made, a, texts) b = (next, front, rest ++ y, made, answered-append rs qs next mid t rest y a b, ap (λ l. l ++ y) texts ∙ append_assoc front rest y)

  -- one stretch after another
  pub has-append : (rs qs : List Asked) (xs mid rest : List ℕ) (s k t : S) (x y : List ℕ) → HasAnswered Answer xs rs mid s x k → HasAnswered Answer mid qs rest k y t → HasAnswered Answer xs (rs ++ qs) rest s (x ++ y) t
  has-append rs qs xs mid rest s k t x y a b = record {
    cut = begins-append rs qs xs mid rest a.cut b.cut;
    open_still = none-quits-append rs qs a.open_still b.open_still;
    answered = answered-append rs qs s k t x y a.answered b.answered;
  }

  pub has-none : (xs : List ℕ) (s : S) → HasAnswered Answer xs [] xs s [] s
  has-none xs s = record { cut = refl; open_still = tt; answered = (refl, refl) }

  pub has-one : (xs rest : List ℕ) (r : Asked) (s t : S) (x : List ℕ) → front xs ≡ Found r rest → r ≢ AskAlone Quit → Answer s r x t → HasAnswered Answer xs (r ∷ []) rest s x t
  has-one xs rest r s t x e q a = record {
    cut = (rest, is_front xs (Found r rest) e, refl);
    open_still = (q, tt);
    answered = (t, x, [], a, (refl, refl), sym (append-nil x));
  }

  -- more bytes behind
  pub has-more : (rs : List Asked) (xs ys rest : List ℕ) (s t : S) (x : List ℕ) → HasAnswered Answer xs rs rest s x t → HasAnswered Answer (xs ++ ys) rs (rest ++ ys) s x t
  has-more rs xs ys rest s t x a = record { cut = Begins_more rs xs ys rest a.cut; open_still = a.open_still; answered = a.answered }
