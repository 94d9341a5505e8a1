-- Stretches of a session, put together, up to its end or to where it broke off.
use Rattle.std.proofs.Common.{◌≡◌, ◌≢◌, ℕ, List, [], ◌∷◌, ◌++◌, take, append_assoc, Option, inl, inr}
use Rattle.std.specs.Io.KnownBytes.{Appends, IsAtEnd}
use Rattle.std.proofs.KnownBytes.{Appends-trans, Appends-nil}
use Rattle.mw_model.specs.declared.requests.Ask.TheVariants as ask
use Rattle.mw_model.specs.declared.requests.End.{End}
use Rattle.mw_model.specs.declared.requests.End.TheVariants as end
use Rattle.mw_model.specs.Lines.{Asked, AskAlone, Found, Fault}
use Rattle.mw_model.specs.Scripts.{Ends, end_text}
use Rattle.mw_session_intake.specs.Reading.{front}
use Rattle.mw_session_intake.proofs.Front.{is_front, front_is, front_found, front_fault}
use Rattle.mw_wire.specs.Writes.{CutsShort}
use Rattle.mw_wire.specs.declared.fault.SessionFault.{SessionFault}
use Rattle.mw_wire.specs.declared.fault.SessionFault.TheVariants as fault
use Rattle.mw_wire.specs.Rooms.{EndsAt}
use Rattle.mw_wire.specs.Chains.{HasAnswered}
use Rattle.mw_wire.specs.Runs.{AllAnswered, CameToEnd, CutInAnswer, CutInEnd, BrokeOff}
use Rattle.mw_wire.proofs.Chains.{has-append, has-none, has-one, has-more}

-- ---- more bytes behind an end that is not the input's

ends-more : (whole all : Type 0) (rest more : List ℕ) (e : End) → (whole → ⊥) → Ends whole rest e → Ends all (rest ++ more) e
ends-more whole all rest more end.Quit not h = elim h [
  | inl g ↦ absurd (not g.1)
  | inr g ↦ let r = Found (AskAlone ask.Quit) (g.0 ++ more) in inr (g.0 ++ more, is_front (rest ++ more) r (front_found rest more (AskAlone ask.Quit) g.0 (front_is rest (Found (AskAlone ask.Quit) g.0) g.1)))
]
ends-more whole all rest more (end.Ended c) not h = elim h [
  | inl g ↦ inl (is_front (rest ++ more) (Fault c) (front_fault rest more c (front_is rest (Fault c) g)))
  | inr g ↦ elim g [
    | inl k ↦ absurd (not k.3)
    | inr k ↦ inr (inr k)
  ]
]

-- so is an end by want of memory, where it may be there too
pub ends-at-more : (lacks lack : List ℕ → Type 0) (whole all : Type 0) (rest more : List ℕ) (e : End) → (whole → ⊥) → (lacks rest → lack (rest ++ more)) → EndsAt lacks whole rest e → EndsAt lack all (rest ++ more) e
ends-at-more lacks lack whole all rest more e not too h = (ends-more whole all rest more e not h.0, λ k. too (h.1 k))

-- another reason for want of memory
pub ends-at-for : (lacks lack : List ℕ → Type 0) (whole : Type 0) (rest : List ℕ) (e : End) → (lacks rest → lack rest) → EndsAt lacks whole rest e → EndsAt lack whole rest e
ends-at-for lacks lack whole rest e too h = (h.0, λ k. too (h.1 k))

texts-on : (a b c : Option (List ℕ)) (x y z : List ℕ) → Appends a b x → Appends b c (y ++ z) → Appends a c ((x ++ y) ++ z)
texts-on a b c x y z h k = rw append_assoc (Appends-trans a b c x (y ++ z) h k)

module _ {S : Type 0} (Answer : S → Asked → List ℕ → S → Type 0) where
  -- what a loop over requests keeps
  pub record Progress (bytes rest : List ℕ) (s t : S) (before after : Option (List ℕ)) : Type 0 where
    pub asked : List Asked
    pub text : List ℕ
    pub made : HasAnswered Answer bytes asked rest s text t
    pub wrote : Appends before after text

  pub progress-start : (bytes : List ℕ) (s : S) (before : Option (List ℕ)) → Progress bytes bytes s s before before
  progress-start bytes s before = record { asked = []; text = []; made = has-none Answer bytes s; wrote = Appends-nil before }

  -- one request more was answered
  pub progress-answered : (bytes mid rest : List ℕ) (s k t : S) (a b c : Option (List ℕ)) (r : Asked) (text : List ℕ) → Progress bytes mid s k a b →
      front mid ≡ Found r rest → r ≢ AskAlone ask.Quit → Answer k r text t → Appends b c text → Progress bytes rest s t a c
  progress-answered bytes mid rest s k t a b c r text g e n h w = record {
    asked = g.asked ++ r ∷ [];
    text = g.text ++ text;
    made = has-append Answer g.asked (r ∷ []) bytes mid rest s k t g.text text g.made (has-one Answer mid rest r k t text e n h);
    wrote = Appends-trans a b c g.text text g.wrote w;
  }

  -- one request more was answered, and the answer was cut short
  pub cut-answered : (bytes mid rest : List ℕ) (s k t : S) (a b c : Option (List ℕ)) (r : Asked) (text : List ℕ) → Progress bytes mid s k a b →
      front mid ≡ Found r rest → r ≢ AskAlone ask.Quit → Answer k r text t → CutsShort b c text → CutInAnswer Answer bytes s t a c
  cut-answered bytes mid rest s k t a b c r text g e n h w = record {
    asked = g.asked;
    rest = mid;
    text = g.text;
    mid = k;
    made = g.made;
    last = r;
    behind = rest;
    next = e;
    open_still = n;
    reply = text;
    answer = h;
    count = w.0;
    less = w.1;
    wrote = Appends-trans a b c g.text (take w.0 text) g.wrote w.2;
  }

  -- an end whose text was written
  pub finished-by : (lacks : List ℕ → Type 0) (left : Option (List ℕ)) (bytes rest : List ℕ) (s t : S) (a b d : Option (List ℕ)) (e : End) →
      Progress bytes rest s t a b → EndsAt lacks (IsAtEnd left) rest e → Appends b d (end_text e) → CameToEnd Answer lacks left bytes s t a d e
  finished-by lacks left bytes rest s t a b d e g ends w = record {
    asked = g.asked;
    rest = rest;
    text = g.text;
    made = g.made;
    ends = ends;
    wrote = Appends-trans a b d g.text (end_text e) g.wrote w;
  }

  -- an end whose text was cut short
  pub cut-by : (lacks : List ℕ → Type 0) (left : Option (List ℕ)) (bytes rest : List ℕ) (s t : S) (a b d : Option (List ℕ)) (e : End) →
      Progress bytes rest s t a b → EndsAt lacks (IsAtEnd left) rest e → CutsShort b d (end_text e) → CutInEnd Answer lacks left bytes s t a d
  cut-by lacks left bytes rest s t a b d e g ends w = record {
    asked = g.asked;
    rest = rest;
    text = g.text;
    made = g.made;
    end = e;
    ends = ends;
    count = w.0;
    less = w.1;
    wrote = Appends-trans a b d g.text (take w.0 (end_text e)) g.wrote w.2;
  }

  -- ---- one stretch after another

  pub progress-drained : (bytes mid rest : List ℕ) (s k t : S) (a b c : Option (List ℕ)) → Progress bytes mid s k a b → AllAnswered Answer mid rest k t b c → Progress bytes rest s t a c
  progress-drained bytes mid rest s k t a b c g d = record {
    asked = g.asked ++ d.asked;
    text = g.text ++ d.text;
    made = has-append Answer g.asked d.asked bytes mid rest s k t g.text d.text g.made d.made;
    wrote = Appends-trans a b c g.text d.text g.wrote d.wrote;
  }

  pub drained-on : (bytes mid rest : List ℕ) (s k t : S) (a b c : Option (List ℕ)) → Progress bytes mid s k a b → AllAnswered Answer mid rest k t b c → AllAnswered Answer bytes rest s t a c
  drained-on bytes mid rest s k t a b c g d =
      let all = progress-drained bytes mid rest s k t a b c g d in
      record { asked = all.asked; text = all.text; made = all.made; open_still = d.open_still; wrote = all.wrote }

  pub finished-on : (lacks : List ℕ → Type 0) (left : Option (List ℕ)) (bytes mid : List ℕ) (s k t : S) (a b c : Option (List ℕ)) (e : End) → Progress bytes mid s k a b → CameToEnd Answer lacks left mid k t b c e → CameToEnd Answer lacks left bytes s t a c e
  finished-on lacks left bytes mid s k t a b c e g f = record {
    asked = g.asked ++ f.asked;
    rest = f.rest;
    text = g.text ++ f.text;
    made = has-append Answer g.asked f.asked bytes mid f.rest s k t g.text f.text g.made f.made;
    ends = f.ends;
    wrote = texts-on a b c g.text f.text (end_text e) g.wrote f.wrote;
  }

  cut-answer-on : (bytes mid : List ℕ) (s k t : S) (a b c : Option (List ℕ)) → Progress bytes mid s k a b → CutInAnswer Answer mid k t b c → CutInAnswer Answer bytes s t a c
  cut-answer-on bytes mid s k t a b c g f = record {
    asked = g.asked ++ f.asked;
    rest = f.rest;
    text = g.text ++ f.text;
    mid = f.mid;
    made = has-append Answer g.asked f.asked bytes mid f.rest s k f.mid g.text f.text g.made f.made;
    last = f.last;
    behind = f.behind;
    next = f.next;
    open_still = f.open_still;
    reply = f.reply;
    answer = f.answer;
    count = f.count;
    less = f.less;
    wrote = texts-on a b c g.text f.text (take f.count f.reply) g.wrote f.wrote;
  }

  cut-end-on : (lacks : List ℕ → Type 0) (left : Option (List ℕ)) (bytes mid : List ℕ) (s k t : S) (a b c : Option (List ℕ)) → Progress bytes mid s k a b → CutInEnd Answer lacks left mid k t b c → CutInEnd Answer lacks left bytes s t a c
  cut-end-on lacks left bytes mid s k t a b c g f = record {
    asked = g.asked ++ f.asked;
    rest = f.rest;
    text = g.text ++ f.text;
    made = has-append Answer g.asked f.asked bytes mid f.rest s k t g.text f.text g.made f.made;
    end = f.end;
    ends = f.ends;
    count = f.count;
    less = f.less;
    wrote = texts-on a b c g.text f.text (take f.count (end_text f.end)) g.wrote f.wrote;
  }

  pub stopped-on : (lacks : List ℕ → Type 0) (left : Option (List ℕ)) (bytes mid : List ℕ) (s k t : S) (a b c : Option (List ℕ)) (f : SessionFault) → Progress bytes mid s k a b → BrokeOff Answer lacks left mid k t b c f → BrokeOff Answer lacks left bytes s t a c f
  stopped-on lacks left bytes mid s k t a b c fault.Read g h = (h.0, drained-on bytes mid h.0 s k t a b c g h.1)
  stopped-on lacks left bytes mid s k t a b c fault.Write g (inl h) = inl (cut-answer-on bytes mid s k t a b c g h)
  stopped-on lacks left bytes mid s k t a b c fault.Write g (inr h) = inr (cut-end-on lacks left bytes mid s k t a b c g h)

  -- one piece more was read
  pub progress-more : (bytes piece rest : List ℕ) (s t : S) (a b : Option (List ℕ)) → Progress bytes rest s t a b → Progress (bytes ++ piece) (rest ++ piece) s t a b
  progress-more bytes piece rest s t a b g = record { asked = g.asked; text = g.text; made = has-more Answer g.asked bytes piece rest s t g.text g.made; wrote = g.wrote }

  -- ---- more bytes behind, and other reasons for want of memory

  pub finished-more : (lacks lack : List ℕ → Type 0) (left behind : Option (List ℕ)) (bytes more : List ℕ) (s t : S) (a b : Option (List ℕ)) (e : End) → (IsAtEnd behind → ⊥) → ((rest : List ℕ) → lacks rest → lack (rest ++ more)) → CameToEnd Answer lacks behind bytes s t a b e → CameToEnd Answer lack left (bytes ++ more) s t a b e
  finished-more lacks lack left behind bytes more s t a b e not too f = record {
    asked = f.asked;
    rest = f.rest ++ more;
    text = f.text;
    made = has-more Answer f.asked bytes more f.rest s t f.text f.made;
    ends = ends-at-more lacks lack (IsAtEnd behind) (IsAtEnd left) f.rest more e not (too f.rest) f.ends;
    wrote = f.wrote;
  }

  pub finished-for : (lacks lack : List ℕ → Type 0) (left : Option (List ℕ)) (bytes : List ℕ) (s t : S) (a b : Option (List ℕ)) (e : End) → ((rest : List ℕ) → lacks rest → lack rest) → CameToEnd Answer lacks left bytes s t a b e → CameToEnd Answer lack left bytes s t a b e
  finished-for lacks lack left bytes s t a b e too f =
      record { asked = f.asked; rest = f.rest; text = f.text; made = f.made; ends = ends-at-for lacks lack (IsAtEnd left) f.rest e (too f.rest) f.ends; wrote = f.wrote }

  pub cut-answer-more : (bytes more : List ℕ) (s t : S) (a b : Option (List ℕ)) → CutInAnswer Answer bytes s t a b → CutInAnswer Answer (bytes ++ more) s t a b
  cut-answer-more bytes more s t a b f = record {
    asked = f.asked;
    rest = f.rest ++ more;
    text = f.text;
    mid = f.mid;
    made = has-more Answer f.asked bytes more f.rest s f.mid f.text f.made;
    last = f.last;
    behind = f.behind ++ more;
    next = front_found f.rest more f.last f.behind f.next;
    open_still = f.open_still;
    reply = f.reply;
    answer = f.answer;
    count = f.count;
    less = f.less;
    wrote = f.wrote;
  }

  pub cut-end-more : (lacks lack : List ℕ → Type 0) (left behind : Option (List ℕ)) (bytes more : List ℕ) (s t : S) (a b : Option (List ℕ)) → (IsAtEnd behind → ⊥) → ((rest : List ℕ) → lacks rest → lack (rest ++ more)) → CutInEnd Answer lacks behind bytes s t a b → CutInEnd Answer lack left (bytes ++ more) s t a b
  cut-end-more lacks lack left behind bytes more s t a b not too f = record {
    asked = f.asked;
    rest = f.rest ++ more;
    text = f.text;
    made = has-more Answer f.asked bytes more f.rest s t f.text f.made;
    end = f.end;
    ends = ends-at-more lacks lack (IsAtEnd behind) (IsAtEnd left) f.rest more f.end not (too f.rest) f.ends;
    count = f.count;
    less = f.less;
    wrote = f.wrote;
  }

  cut-end-for : (lacks lack : List ℕ → Type 0) (left : Option (List ℕ)) (bytes : List ℕ) (s t : S) (a b : Option (List ℕ)) → ((rest : List ℕ) → lacks rest → lack rest) → CutInEnd Answer lacks left bytes s t a b → CutInEnd Answer lack left bytes s t a b
  cut-end-for lacks lack left bytes s t a b too f = record {
    asked = f.asked;
    rest = f.rest;
    text = f.text;
    made = f.made;
    end = f.end;
    ends = ends-at-for lacks lack (IsAtEnd left) f.rest f.end (too f.rest) f.ends;
    count = f.count;
    less = f.less;
    wrote = f.wrote;
  }

  pub stopped-for : (lacks lack : List ℕ → Type 0) (left : Option (List ℕ)) (bytes : List ℕ) (s t : S) (a b : Option (List ℕ)) (f : SessionFault) → ((rest : List ℕ) → lacks rest → lack rest) → BrokeOff Answer lacks left bytes s t a b f → BrokeOff Answer lack left bytes s t a b f
  stopped-for lacks lack left bytes s t a b fault.Read too h = h
  stopped-for lacks lack left bytes s t a b fault.Write too (inl h) = inl h
  stopped-for lacks lack left bytes s t a b fault.Write too (inr h) = inr (cut-end-for lacks lack left bytes s t a b too h)
