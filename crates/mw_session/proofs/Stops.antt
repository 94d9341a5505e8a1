-- What a session leaves is a script, or a front of one; the kills of its turns are those of the log.
use Rattle.std.proofs.Common.{◌≡◌, ℕ, ◌+◌, Bool, true, false, List, [], ◌∷◌, ◌++◌, length, take, refl, sym, ap, ◌∙◌, Option, inl, inr}
use Rattle.std.proofs.lemmas.List.{append-nil}
use Rattle.std.proofs.Math.Seq.{take-append-add, take-length}
use Rattle.std.specs.Io.KnownBytes.{Appends, IsAtEnd}
use Rattle.mw_model.specs.declared.calls.LogItem.{LogItem}
use Rattle.mw_model.specs.declared.requests.End.{End}
use Rattle.mw_model.specs.Machine.{Machine}
use Rattle.mw_session_fetch.specs.mw_wire.declared.fault.SessionFault.{SessionFault}
use Rattle.mw_session_fetch.specs.mw_wire.declared.fault.SessionFault.TheVariants as fault
use Rattle.mw_model.specs.Scripts.{Turn, AreTurns, Serves, Works, IsScript, IsBroken, runs_work, end_text}
use Rattle.mw_core_waves.specs.mw_session_laws.Marks.{kills_of, killed_in}
use Rattle.mw_session.specs.Turns.{TellsWork, TellsCall, logged, unlogged, TurnMade, TurnsMade, HasServed}
use Rattle.mw_session.specs.Runs.{ShowsKills, Drained, Finished, CutReply, CutEnd, Stopped}
use Rattle.mw_core_waves.proofs.mw_session_laws.Finishing.{kills_append}
use Rattle.mw_session.proofs.Turns.{served_append, served_one}

are_turns : (ts : List Turn) (m n : Machine) (x : List ℕ) (is : List LogItem) → TurnsMade m ts x is n → AreTurns m ts x n
are_turns [] m n x is a = (a.0, a.2)
are_turns (t ∷ ts) m n x is (mid, front, rest, mine, more, made, a, texts, items) = (mid, front, rest, made.made, are_turns ts mid n rest more a, texts)

pub served_serves : (xs : List ℕ) (ts : List Turn) (rest : List ℕ) (m n : Machine) (x : List ℕ) (is : List LogItem) → HasServed xs ts rest m x is n → Serves xs ts rest m x n
served_serves xs ts rest m n x is s = record { cut = s.cut; open_still = s.open_still; turns_made = are_turns ts m n x is s.turns_made }

-- ---- kills

work_kills : (b : Bool) (kills : List ℕ) (is : List LogItem) (m n : Machine) → TellsWork b kills is → Works b m kills n → killed_in is ≡ kills
work_kills true kills is m n h w = h.1
work_kills false kills is m n h w = ap killed_in h ∙ sym w.0

call_kills : (t : Turn) (is : List LogItem) → TellsCall t is → killed_in is ≡ []
call_kills t is (logged c r of fails e) = ap killed_in e
call_kills t is (unlogged marked e) = ap killed_in e

turn_kills : (m : Machine) (t : Turn) (x : List ℕ) (is : List LogItem) (n : Machine) → TurnMade m t x is n → killed_in is ≡ t.kills
turn_kills m t x is n s =
    let k = s.tells in
    let work : killed_in k.before ≡ t.kills = work_kills (runs_work t.request) t.kills k.before m s.made.0 k.work s.made.1 in
    ap killed_in k.all ∙ kills_append k.before k.call ∙ ap (λ l. killed_in k.before ++ l) (call_kills t k.call k.calls) ∙ append-nil (killed_in k.before) ∙ work

turns_kills : (ts : List Turn) (m n : Machine) (x : List ℕ) (is : List LogItem) → TurnsMade m ts x is n → killed_in is ≡ kills_of ts
turns_kills [] m n x is a = ap killed_in a.1
turns_kills (t ∷ ts) m n x is (mid, front, rest, mine, more, made, a, texts, items) =
    let one : killed_in mine ≡ t.kills = turn_kills m t front mine mid made in
    let others : killed_in more ≡ kills_of ts = turns_kills ts mid n rest more a in
    ap killed_in items ∙ kills_append mine more ∙ rw (one, others) refl

shows_kills : (xs : List ℕ) (ts : List Turn) (rest : List ℕ) (m n : Machine) (x : List ℕ) (is old new : List LogItem) → HasServed xs ts rest m x is n → new ≡ old ++ is → ShowsKills ts old new
shows_kills xs ts rest m n x is old new s e = (is, e, turns_kills ts m n x is s.turns_made)

-- ---- scripts

pub finished_script : (lacks : List ℕ → Type 0) (left : Option (List ℕ)) (bytes : List ℕ) (m n : Machine) (old new : List LogItem) (before after : Option (List ℕ)) (e : End) → Finished lacks left bytes m n old new before after e
    → (turns : List Turn) × (text : List ℕ) × IsScript (IsAtEnd left) bytes turns m n text e × Appends before after text × ShowsKills turns old new
finished_script lacks left bytes m n old new before after e f = (
  f.turns,
  f.text ++ end_text e,
  (f.rest, f.text, served_serves bytes f.turns f.rest m n f.text f.items f.served, f.ends.0, refl),
  f.wrote,
  shows_kills bytes f.turns f.rest m n f.text f.items old new f.served f.log,
)

said_broken : (left : Option (List ℕ)) (bytes : List ℕ) (m n : Machine) (old new : List LogItem) (before after : Option (List ℕ)) (rest : List ℕ) → Drained bytes rest m n old new before after
    → (turns : List Turn) × (text : List ℕ) × IsBroken (IsAtEnd left) bytes turns m n text × Appends before after text × ShowsKills turns old new
said_broken left bytes m n old new before after rest d = (
  d.turns,
  d.text,
  (rest, d.text, [], length d.text, served_serves bytes d.turns rest m n d.text d.items d.served, inl refl, rw append-nil (sym (take-length d.text))),
  d.wrote,
  shows_kills bytes d.turns rest m n d.text d.items old new d.served d.log,
)

reply_broken : (left : Option (List ℕ)) (bytes : List ℕ) (m n : Machine) (old new : List LogItem) (before after : Option (List ℕ)) → CutReply bytes m n old new before after
    → (turns : List Turn) × (text : List ℕ) × IsBroken (IsAtEnd left) bytes turns m n text × Appends before after text × ShowsKills turns old new
reply_broken left bytes m n old new before after s =
    let ts = s.turns ++ s.last ∷ [] in
    let all = served_append s.turns (s.last ∷ []) bytes s.rest s.behind m s.state n s.text s.reply s.items s.told s.served (served_one s.rest s.behind s.last s.state n s.reply s.told s.next s.open_still s.made) in (
      ts,
      s.text ++ take s.count s.reply,
      (s.behind, s.text ++ s.reply, [], length s.text + s.count, served_serves bytes ts s.behind m n (s.text ++ s.reply) (s.items ++ s.told) all, inl refl, rw append-nil (sym (take-append-add s.text s.reply s.count))),
      s.wrote,
      shows_kills bytes ts s.behind m n (s.text ++ s.reply) (s.items ++ s.told) old new all s.log,
    )

end_broken : (lacks : List ℕ → Type 0) (left : Option (List ℕ)) (bytes : List ℕ) (m n : Machine) (old new : List LogItem) (before after : Option (List ℕ)) → CutEnd lacks left bytes m n old new before after
    → (turns : List Turn) × (text : List ℕ) × IsBroken (IsAtEnd left) bytes turns m n text × Appends before after text × ShowsKills turns old new
end_broken lacks left bytes m n old new before after s = (
  s.turns,
  s.text ++ take s.count (end_text s.end),
  (s.rest, s.text, end_text s.end, length s.text + s.count, served_serves bytes s.turns s.rest m n s.text s.items s.served, inr (s.end, s.ends.0, refl), sym (take-append-add s.text (end_text s.end) s.count)),
  s.wrote,
  shows_kills bytes s.turns s.rest m n s.text s.items old new s.served s.log,
)

finished_broken : (lacks : List ℕ → Type 0) (left : Option (List ℕ)) (bytes : List ℕ) (m n : Machine) (old new : List LogItem) (before after : Option (List ℕ)) (e : End) → Finished lacks left bytes m n old new before after e
    → (turns : List Turn) × (text : List ℕ) × IsBroken (IsAtEnd left) bytes turns m n text × Appends before after text × ShowsKills turns old new
finished_broken lacks left bytes m n old new before after e f =
    let all = f.text ++ end_text e in (
      f.turns,
      all,
      (f.rest, f.text, end_text e, length all, served_serves bytes f.turns f.rest m n f.text f.items f.served, inr (e, f.ends.0, refl), sym (take-length all)),
      f.wrote,
      shows_kills bytes f.turns f.rest m n f.text f.items old new f.served f.log,
    )

pub stopped_broken : (lacks : List ℕ → Type 0) (left : Option (List ℕ)) (bytes : List ℕ) (m n : Machine) (old new : List LogItem) (before after : Option (List ℕ)) (f : SessionFault) → Stopped lacks left bytes m n old new before after f
    → (turns : List Turn) × (text : List ℕ) × IsBroken (IsAtEnd left) bytes turns m n text × Appends before after text × ShowsKills turns old new
stopped_broken lacks left bytes m n old new before after fault.Read s = said_broken left bytes m n old new before after s.0 s.1
stopped_broken lacks left bytes m n old new before after fault.Write (inl s) = reply_broken left bytes m n old new before after s
stopped_broken lacks left bytes m n old new before after fault.Write (inr (inl s)) = end_broken lacks left bytes m n old new before after s
stopped_broken lacks left bytes m n old new before after fault.Write (inr (inr (inl s))) = said_broken left bytes m n old new before after s.0 s.1
stopped_broken lacks left bytes m n old new before after fault.Write (inr (inr (inr s))) = finished_broken lacks left bytes m n old new before after s.0 s.1
