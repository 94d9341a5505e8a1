-- Laws of turns.
use Rattle.std.proofs.Common.{◌≡◌, ◌≢◌, ℕ, List, [], ◌∷◌, ◌++◌, refl, sym, ap, subst, ◌∙◌, append_assoc}
use Rattle.std.proofs.lemmas.List.{append-nil}
use Rattle.mw_model.specs.declared.calls.LogItem.{LogItem}
use Rattle.mw_model.specs.declared.requests.Ask.TheVariants as ask
use Rattle.mw_model.specs.Machine.{Machine}
use Rattle.mw_model.specs.Lines.{AskAlone, Found, Begins}
use Rattle.mw_core_waves.specs.mw_session_intake.Reading.{front}
use Rattle.mw_model.specs.Scripts.{Turn, requests, NoQuit}
use Rattle.mw_core_waves.proofs.mw_session_intake.Front.{is_front}
use Rattle.mw_session.specs.Turns.{TurnMade, TurnsMade, HasServed}

pub begins_append : (ts us : List Turn) (xs mid rest : List ℕ) → Begins xs (requests ts) mid → Begins mid (requests us) rest → Begins xs (requests (ts ++ us)) rest
begins_append [] us xs mid rest b d = subst (λ l. Begins l (requests us) rest) b d
begins_append (t ∷ ts) us xs mid rest b d = (b.0, b.1, begins_append ts us b.0 mid rest b.2 d)

pub no_quit_append : (ts us : List Turn) → NoQuit ts → NoQuit us → NoQuit (ts ++ us)
no_quit_append [] us h k = k
no_quit_append (t ∷ ts) us h k = (h.0, no_quit_append ts us h.1 k)

turns_append : (ts us : List Turn) (m k n : Machine) (x y : List ℕ) (is js : List LogItem) → TurnsMade m ts x is k → TurnsMade k us y js n → TurnsMade m (ts ++ us) (x ++ y) (is ++ js) n
turns_append [] us m k n x y is js a b = rw (a.0, a.1) (subst (λ z. TurnsMade z us y js n) a.2 b)
turns_append (t ∷ ts) us m k n x y is js (mid, front, rest, mine, more, made, a, texts, items) b = (
  mid,
  front,
  rest ++ y,
  mine,
  more ++ js,
  made,
  turns_append ts us mid k n rest y more js a b,
  ap (λ l. l ++ y) texts ∙ append_assoc front rest y,
  ap (λ l. l ++ js) items ∙ append_assoc mine more js,
)

-- one stretch after another
pub served_append : (ts us : List Turn) (xs mid rest : List ℕ) (m k n : Machine) (x y : List ℕ) (is js : List LogItem) → HasServed xs ts mid m x is k → HasServed mid us rest k y js n → HasServed xs (ts ++ us) rest m (x ++ y) (is ++ js) n
served_append ts us xs mid rest m k n x y is js a b = record {
  cut = begins_append ts us xs mid rest a.cut b.cut;
  open_still = no_quit_append ts us a.open_still b.open_still;
  turns_made = turns_append ts us m k n x y is js a.turns_made b.turns_made;
}

pub served_one : (xs rest : List ℕ) (t : Turn) (m n : Machine) (x : List ℕ) (is : List LogItem) → front xs ≡ Found t.request rest → t.request ≢ AskAlone ask.Quit → TurnMade m t x is n → HasServed xs (t ∷ []) rest m x is n
served_one xs rest t m n x is e q s = record {
  cut = (rest, is_front xs (Found t.request rest) e, refl);
  open_still = (q, tt);
  turns_made = (n, x, [], is, [], s, (refl, refl, refl), sym (append-nil x), sym (append-nil is));
}

-- one log after another
pub logs_on : (a b c : List LogItem) (is js : List LogItem) → b ≡ a ++ is → c ≡ b ++ js → c ≡ a ++ (is ++ js)
logs_on a b c is js e f = f ∙ ap (λ l. l ++ js) e ∙ append_assoc a is js
