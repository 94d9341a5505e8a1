-- Answers of a core, one after another, are the turns of a script.
use Rattle.std.proofs.Common.{◌≡◌, ◌≤◌, ◌+◌, ◌||◌, ℕ, suc, Bool, true, false, List, [], ◌∷◌, ◌++◌, length, min, refl, sym, ap, ◌∙◌, subst, Option, Result, Ok, Err, inl, inr, arith}
use Rattle.std.specs.List.{concat}
use Rattle.std.proofs.lemmas.List.{append-nil}
use Rattle.mw_model.specs.declared.calls.LogItem.{LogItem}
use Rattle.mw_model.specs.declared.requests.End.{End}
use Rattle.mw_model.specs.Machine.{Machine}
use Rattle.mw_model.specs.Stands.{CoreView, StandsFor, running_count}
use Rattle.mw_model.specs.Lines.{Asked, Begins}
use Rattle.mw_model.specs.Scripts.{Turn, NoQuit, requests}
use Rattle.mw_session_fetch.specs.Errors.{is_error_line}
use Rattle.mw_session_fetch.specs.mw_wire.declared.fault.SessionFault.{SessionFault}
use Rattle.mw_session_fetch.specs.mw_wire.declared.fault.SessionFault.TheVariants as fault
use Rattle.mw_session_fetch.specs.mw_wire.Rooms.{LacksRoom}
use Rattle.mw_session_fetch.specs.mw_wire.Chains.{NoneQuits, AreAnswered, HasAnswered}
use Rattle.mw_session_fetch.specs.mw_wire.Runs.{AllAnswered, CameToEnd, DeskRan}
use Rattle.mw_session.specs.Turns.{TurnsMade, HasServed}
use Rattle.mw_session.specs.declared.tally.Tally.{Tally}
use Rattle.mw_session.specs.Answering.{ScriptAnswer}
use Rattle.mw_session.specs.Budgets.{KeepsCount}
use Rattle.mw_session.specs.Tallies.{Tallied, AreReplies, Counted, IsCounted, has_refusal, last_line}
use Rattle.mw_session.specs.Runs.{SaidAll, Finished, SessionRan}
use Rattle.mw_session.proofs.Turns.{logs_on}

-- the core in what a desk keeps, and what an answer of the desk says of it
record Desk {K : Type 0} (A : K → Asked → List ℕ → K → Type 0) : Type 0 where
  core : K → CoreView
  says : (old : K) (r : Asked) (text : List ℕ) (new : K) → A old r text new → ScriptAnswer (core old) r text (core new)

-- The turns that were made, from this state on, of requests that were answered so.
record TurnsOf (asked : List Asked) (m : Machine) (old : CoreView) (text : List ℕ) (new : CoreView) : Type 0 where
  turns : List Turn
  items : List LogItem
  state : Machine
  same : requests turns ≡ asked
  made : TurnsMade m turns text items state
  stands : StandsFor new state
  idle : running_count new ≡ 0
  log : new.log ≡ old.log ++ items

turns-of : {K : Type 0} {A : K → Asked → List ℕ → K → Type 0} (d : Desk A) (rs : List Asked) (m : Machine) (old new : K) (text : List ℕ) → AreAnswered A old rs text new → StandsFor (d.core old) m → running_count (d.core old) ≡ 0 → TurnsOf rs m (d.core old) text (d.core new)
turns-of {K} d [] m old new text (none, same) s idle =
    let P : K → Type 0 = λ c. StandsFor (d.core c) m in
    let Q : K → Type 0 = λ c. running_count (d.core c) ≡ 0 in
    record { turns = []; items = []; state = m; same = refl; made = (none, refl, refl); stands = subst P (sym same) s; idle = subst Q (sym same) idle; log = ap (λ (c : K). (d.core c).log) same ∙ sym (append-nil (d.core old).log) }
turns-of d (r ∷ rs) m old new text (mid, front, rest, one, more, texts) s idle =
    let a = d.says old r front mid one m s idle in
    let h = turns-of d rs a.state mid new rest more a.stands a.idle in
    record {
      turns = a.turn ∷ h.turns;
      items = a.items ++ h.items;
      state = h.state;
      same = ap (λ q. q ∷ requests h.turns) a.asked ∙ ap (λ l. r ∷ l) h.same;
      made = (a.state, front, rest, a.items, h.items, a.made, h.made, texts, refl);
      stands = h.stands;
      idle = h.idle;
      log = logs_on (d.core old).log (d.core mid).log (d.core new).log a.items h.items a.log h.log;
    }

none-quits : (ts : List Turn) → NoneQuits (requests ts) → NoQuit ts
none-quits [] h = tt
none-quits (t ∷ ts) h = (h.0, none-quits ts h.1)

served-of : {K : Type 0} {A : K → Asked → List ℕ → K → Type 0} (d : Desk A) (bytes rest text : List ℕ) (rs : List Asked) (m : Machine) (old new : K) → HasAnswered A bytes rs rest old text new → (h : TurnsOf rs m (d.core old) text (d.core new)) → HasServed bytes h.turns rest m text h.items h.state
served-of d bytes rest text rs m old new a h =
    let P : List Asked → Type 0 = λ l. Begins bytes l rest in
    record { cut = subst P (sym h.same) a.cut; open_still = none-quits h.turns (subst NoneQuits (sym h.same) a.open_still); turns_made = h.made }

-- All that was due was said.
said-all : {K : Type 0} {A : K → Asked → List ℕ → K → Type 0} (d : Desk A) (bytes rest : List ℕ) (m : Machine) (old new : K) (x y : Option (List ℕ)) (f : AllAnswered A bytes rest old new x y) → (h : TurnsOf f.asked m (d.core old) f.text (d.core new)) → SaidAll bytes m h.state (d.core old).log (d.core new).log x y
said-all d bytes rest m old new x y f h =
    (rest, record { turns = h.turns; text = f.text; items = h.items; served = served-of d bytes rest f.text f.asked m old new f.made h; open_still = f.open_still; log = h.log; wrote = f.wrote })

-- The session came to this end.
finished : {K : Type 0} {A : K → Asked → List ℕ → K → Type 0} (d : Desk A) (left : Option (List ℕ)) (bytes : List ℕ) (m : Machine) (old new : K) (x y : Option (List ℕ)) (e : End) (f : CameToEnd A (LacksRoom bytes) left bytes old new x y e) → (h : TurnsOf f.asked m (d.core old) f.text (d.core new))
    → Finished (LacksRoom bytes) left bytes m h.state (d.core old).log (d.core new).log x y e
finished d left bytes m old new x y e f h =
    record { turns = h.turns; rest = f.rest; text = f.text; items = h.items; served = served-of d bytes f.rest f.text f.asked m old new f.made h; ends = f.ends; log = h.log; wrote = f.wrote }

-- a session over a core is a script
script-ran : {K : Type 0} {A : K → Asked → List ℕ → K → Type 0} (d : Desk A) (m : Machine) (old new : K) (had left x y : Option (List ℕ)) (result : Result End SessionFault) → DeskRan A old new had left x y result → StandsFor (d.core old) m → running_count (d.core old) ≡ 0 → SessionRan m (d.core old) (d.core new) had left x y result
script-ran d m old new had left x y (Ok e) ran s idle =
    let f = ran.ran in
    let h = turns-of d f.asked m old new f.text f.made.answered s idle in
    record {
      taken = ran.taken;
      state = h.state;
      read = ran.read;
      stands = h.stands;
      idle = h.idle;
      ran = finished d left ran.taken m old new x y e f h;
    }
script-ran d m old new had left x y (Err fault.Read) ran s idle =
    let f = ran.ran.1 in
    let h = turns-of d f.asked m old new f.text f.made.answered s idle in
    record {
      taken = ran.taken;
      state = h.state;
      read = ran.read;
      stands = h.stands;
      idle = h.idle;
      ran = said-all d ran.taken ran.ran.0 m old new x y f h;
    }
script-ran d m old new had left x y (Err fault.Write) ran s idle = elim ran.ran [
  | inl (inl f) ↦
      let h = turns-of d f.asked m old f.mid f.text f.made.answered s idle in
      let a = d.says f.mid _ f.reply new f.answer h.state h.stands h.idle in
      record {
        taken = ran.taken;
        state = a.state;
        read = ran.read;
        stands = a.stands;
        idle = a.idle;
        ran = inl (record {
          turns = h.turns;
          rest = f.rest;
          text = f.text;
          items = h.items;
          state = h.state;
          served = served-of d ran.taken f.rest f.text f.asked m old f.mid f.made h;
          last = a.turn;
          behind = f.behind;
          next = rw a.asked f.next;
          open_still = rw a.asked f.open_still;
          reply = f.reply;
          told = a.items;
          made = a.made;
          log = logs_on (d.core old).log (d.core f.mid).log (d.core new).log h.items a.items h.log a.log;
          count = f.count;
          less = f.less;
          wrote = f.wrote;
        });
      }
  | inl (inr f) ↦
      let h = turns-of d f.asked m old new f.text f.made.answered s idle in
      record {
        taken = ran.taken;
        state = h.state;
        read = ran.read;
        stands = h.stands;
        idle = h.idle;
        ran = inr (inl (record { turns = h.turns; rest = f.rest; text = f.text; items = h.items; served = served-of d ran.taken f.rest f.text f.asked m old new f.made h; end = f.end; ends = f.ends; log = h.log; count = f.count; less = f.less; wrote = f.wrote }));
      }
  | inr (inl (rest, f)) ↦
      let h = turns-of d f.asked m old new f.text f.made.answered s idle in
      record { taken = ran.taken; state = h.state; read = ran.read; stands = h.stands; idle = h.idle; ran = inr (inr (inl (said-all d ran.taken rest m old new x y f h))) }
  | inr (inr (e, f)) ↦
      let h = turns-of d f.asked m old new f.text f.made.answered s idle in
      record { taken = ran.taken; state = h.state; read = ran.read; stands = h.stands; idle = h.idle; ran = inr (inr (inr (e, finished d left ran.taken m old new x y e f h))) }
]

-- a desk that keeps a core alone
abbrev core-alone : Desk ScriptAnswer
core-alone = record { core = λ c. c; says = λ old r text new a. a }

pub session-ran : (m : Machine) (old new : CoreView) (had left x y : Option (List ℕ)) (result : Result End SessionFault) → DeskRan ScriptAnswer old new had left x y result → StandsFor old m → running_count old ≡ 0 → SessionRan m old new had left x y result
session-ran m old new had left x y result ran s idle = script-ran core-alone m old new had left x y result ran s idle

-- a desk that keeps a tally
abbrev with-tally : Desk Tallied
with-tally = record { core = λ (t : Tally). t.core; says = λ old r text new a. a.answer }

-- What the tally counts of these turns, from one state to another.
record CountsOf (m n : Machine) (turns : List Turn) (old : Tally) (text : List ℕ) (new : Tally) : Type 0 where
  replies : List (List ℕ)
  answered : AreReplies m turns replies n
  whole : text ≡ concat replies
  line : new.line ≡ min (old.line + length turns) last_line
  refused : new.refused ≡ (has_refusal replies || old.refused)

any-more : (a e o : Bool) → (a || (e || o)) ≡ ((e || a) || o)
any-more true true o = refl
any-more true false o = refl
any-more false true o = refl
any-more false false o = refl

first-line : (n : ℕ) → n ≤ last_line → n ≡ min (n + 0) last_line
first-line n fits = omega (arith, fits)

line-fits : (n k : ℕ) → k ≡ min (n + 1) last_line → k ≤ last_line
line-fits n k next = omega (arith, next)

line-more : (n k l count : ℕ) → k ≡ min (n + 1) last_line → l ≡ min (k + count) last_line → l ≡ min (n + suc count) last_line
line-more n k l count next more = omega (arith, next, more)

one-fits : (n : ℕ) → n ≡ 1 → n ≤ last_line
one-fits n one = omega (arith, one)

or_false : (a : Bool) → (a || false) ≡ a
or_false true = refl
or_false false = refl

counts-of : (rs : List Asked) (m : Machine) (old new : Tally) (text : List ℕ) (all : AreAnswered Tallied old rs text new) (s : StandsFor old.core m) (idle : running_count old.core ≡ 0) → old.line ≤ last_line
    → let h = turns-of with-tally rs m old new text all s idle in CountsOf m h.state h.turns old text new
unfolding turns-of
counts-of [] m old new text (none, same) s idle fits =
    record {
      replies = [];
      answered = refl;
      whole = none;
      line = ap (λ (c : Tally). c.line) same ∙ first-line old.line fits;
      refused = ap (λ (c : Tally). c.refused) same;
    }
counts-of (r ∷ rs) m old new text (mid, front, rest, one, more, texts) s idle fits =
    let a = one.answer m s idle in
    let h = turns-of with-tally rs a.state mid new rest more a.stands a.idle in
    let k = counts-of rs a.state mid new rest more a.stands a.idle (line-fits old.line mid.line one.counted) in
    record {
      replies = front ∷ k.replies;
      answered = (a.state, a.made.made, k.answered);
      whole = texts ∙ ap (λ l. front ++ l) k.whole;
      line = line-more old.line mid.line new.line (length h.turns) one.counted k.line;
      refused = k.refused ∙ ap (λ b. has_refusal k.replies || b) one.marks ∙ any-more (has_refusal k.replies) (is_error_line front) old.refused;
    }

-- what is counted from a new tally on
counted : (m n : Machine) (turns : List Turn) (old new : Tally) (text : List ℕ) → CountsOf m n turns old text new → old.line ≡ 1 → old.refused ≡ false → Counted new m n turns text
counted m n turns old new text k first clear = record {
  replies = k.replies;
  answered = k.answered;
  whole = k.whole;
  line = k.line ∙ ap (λ l. min (l + length turns) last_line) first;
  refused = k.refused ∙ ap (λ b. has_refusal k.replies || b) clear ∙ or_false (has_refusal k.replies);
}

-- a session over a tally is a script, and the tally counts it
pub counted-ran : (m : Machine) (old new : Tally) (had left x y : Option (List ℕ)) (result : Result End SessionFault) → DeskRan Tallied old new had left x y result → StandsFor old.core m → running_count old.core ≡ 0 → old.line ≡ 1 → old.refused ≡ false
    → (s : SessionRan m old.core new.core had left x y result) × IsCounted result s new
unfolding script-ran finished
counted-ran m old new had left x y (Ok e) ran s idle first clear =
    let f = ran.ran in
    let h = turns-of with-tally f.asked m old new f.text f.made.answered s idle in (
      script-ran with-tally m old new had left x y (Ok e) ran s idle,
      counted m h.state h.turns old new f.text (counts-of f.asked m old new f.text f.made.answered s idle (one-fits old.line first)) first clear,
    )
counted-ran m old new had left x y (Err f) ran s idle first clear = (script-ran with-tally m old new had left x y (Err f) ran s idle, tt)

-- ---- what the budget has taken, answer by answer

-- the core goes on standing for a state in which no task is running
abbrev StandsOn : CoreView → CoreView → Type 0
StandsOn c d = (m : Machine) → StandsFor c m → running_count c ≡ 0 → (n : Machine) × StandsFor d n × (running_count d ≡ 0)

keeps-join : (old mid new : Tally) → StandsOn old.core mid.core → KeepsCount old.core old.budget mid.core mid.budget → KeepsCount mid.core mid.budget new.core new.budget → KeepsCount old.core old.budget new.core new.budget
keeps-join old mid new on h k = record {
  bound = k.bound ∙ h.bound;
  covers = λ m s none was. let n = on m s none in k.covers n.0 n.1 n.2 (h.covers m s none was);
  within = λ m s none was bounded. let n = on m s none in k.within n.0 n.1 n.2 (h.covers m s none was) (h.within m s none was bounded);
}

keeps-on : (rs : List Asked) (old new : Tally) (text : List ℕ) → AreAnswered Tallied old rs text new → KeepsCount old.core old.budget new.core new.budget
keeps-on [] old new text (none, same) =
    let P : Tally → Type 0 = λ t. KeepsCount old.core old.budget t.core t.budget in
    subst P (sym same) (record { bound = refl; covers = λ m s idle was. was; within = λ m s idle was bounded. bounded })
keeps-on (r ∷ rs) old new text (mid, front, rest, one, more, texts) =
    keeps-join old mid new (λ m s none. let a = one.answer m s none in (a.state, a.stands, a.idle)) one.keeps (keeps-on rs mid new rest more)

pub keeps-ran : (old new : Tally) (had left x y : Option (List ℕ)) (result : Result End SessionFault) → DeskRan Tallied old new had left x y result → KeepsCount old.core old.budget new.core new.budget
keeps-ran old new had left x y (Ok e) ran = let f = ran.ran in keeps-on f.asked old new f.text f.made.answered
keeps-ran old new had left x y (Err fault.Read) ran = let f = ran.ran.1 in keeps-on f.asked old new f.text f.made.answered
keeps-ran old new had left x y (Err fault.Write) ran = elim ran.ran [
  | inl (inl f) ↦
      keeps-join old f.mid new (λ m s none. let t = turns-of with-tally f.asked m old f.mid f.text f.made.answered s none in (t.state, t.stands, t.idle))
      (keeps-on f.asked old f.mid f.text f.made.answered) f.answer.keeps
  | inl (inr f) ↦ keeps-on f.asked old new f.text f.made.answered
  | inr (inl (rest, f)) ↦ keeps-on f.asked old new f.text f.made.answered
  | inr (inr (e, f)) ↦ keeps-on f.asked old new f.text f.made.answered
]
