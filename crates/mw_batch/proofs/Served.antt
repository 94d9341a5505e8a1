-- What a batch leaves behind, from what its session ran.
use Rattle.std.proofs.Common.{◌≡◌, ℕ, Bool, true, List, [], ◌++◌, Option, Result, Ok, Err, refl, ap, subst, ◌∙◌, inl, inr, arith}
use Rattle.std.proofs.lemmas.List.{append-nil}
use Rattle.std.specs.Prelude.{OnOk, OnErr}
use Rattle.mw_model.specs.declared.calls.LogItem.{LogItem}
use Rattle.mw_model.specs.declared.requests.End.{End}
use Rattle.mw_model.specs.declared.requests.End.TheVariants as end
use Rattle.mw_model.specs.Scripts.{Turn, end_text}
use Rattle.mw_model.specs.Machine.{Machine, start_state}
use Rattle.mw_model.specs.Stands.{CoreView}
use Rattle.mw_session.specs.mw_wire.Failures.{TellsFailures}
use Rattle.mw_session.specs.mw_wire.Faults.{fault_line}
use Rattle.mw_session.specs.mw_wire.Writes.{Wrote}
use Rattle.mw_session.specs.mw_wire.declared.fault.SessionFault.{SessionFault}
use Rattle.mw_session.specs.mw_wire.declared.fault.SessionFault.TheVariants as fault
use Rattle.mw_session.specs.mw_wire.Rooms.{LacksRoom}
use Rattle.mw_session.specs.Runs.{Ran, SessionRan}
use Rattle.mw_session.specs.declared.tally.Tally.{Tally}
use Rattle.mw_session.specs.Tallies.{Counted, IsCounted, line_behind}
use Rattle.mw_session.proofs.Stops.{served_serves, stopped_broken}
use Rattle.mw_batch.specs.Batches.{HasFailed, HasReplied, Served, SessionEnds, TellsFaultLine, TellsNothing, TellsOutcome, end_status}
use Rattle.mw_batch.specs.EndLines.{end_line}

-- the ends of a session
abbrev pub ends-of : Option (List ℕ) → ℕ → Bool → Option (List ℕ) → Bool → Option (List ℕ) → Bool → SessionEnds
ends-of left reads read_failed written write_failed told tell_failed =
    record { left = left; reads = reads; read_failed = read_failed; written = written; write_failed = write_failed; told = told; tell_failed = tell_failed }

-- a line that was sent is told
pub told-line : {E : Type 0} (old new : SessionEnds) (line : List ℕ) (r : Result (Unit {0}) E) → Wrote old.told new.told line r → OnOk r (new.tell_failed ≡ old.tell_failed) → (A : Type 0) → OnErr r (A × (new.tell_failed ≡ true)) → TellsFaultLine old new line
told-line old new line (Ok u) w kept A flag = inl (w, kept)
told-line old new line (Err e) w kept A flag = inr (w, flag.1)

has_failed : (new : SessionEnds) (f : SessionFault) → (f ≡ fault.Read → HasFailed new fault.Read) → (f ≡ fault.Write → HasFailed new fault.Write) → HasFailed new f
has_failed new fault.Read read write = read refl
has_failed new fault.Write read write = write refl

-- what was told of how the session came out, where the tally counts it
abbrev pub TellsBy : SessionEnds → SessionEnds → Tally → Result End SessionFault → Type 0
TellsBy old new tally (Ok end.Quit) = TellsNothing old new
TellsBy old new tally (Ok (end.Ended c)) = TellsFaultLine old new (end_line tally.line c)
TellsBy old new tally (Err f) = TellsFaultLine old new (fault_line f)

tells-of : (old new : SessionEnds) (tally : Tally) (turns : List Turn) (e : End) → tally.line ≡ line_behind turns → TellsBy old new tally (Ok e) → TellsOutcome old new turns (Ok e)
tells-of old new tally turns end.Quit is told = told
tells-of old new tally turns (end.Ended c) is told = subst (λ n. TellsFaultLine old new (end_line n c)) is told

not-one : {A : Type 0} (n : ℕ) → n ≡ 1 → n ≡ 0 → A
not-one n one zero = absurd (omega (arith, one, zero))

replied-of : (tally : Tally) (n : Machine) (turns : List Turn) (text : List ℕ) (e : End) (status : ℕ) → Counted tally start_state n turns text → status ≡ end_status (Ok e) → status ≡ 0 → HasReplied turns n (text ++ end_text e) tally.refused
replied-of tally n turns text end.Quit status c is zero = record { replies = c.replies; answered = c.answered; whole = append-nil text ∙ c.whole; told = c.refused }
replied-of tally n turns text (end.Ended k) status c is zero = not-one status is zero

pub served-session : (old new : SessionEnds) (o p : CoreView) (tally : Tally) (outcome : Result End SessionFault) (status : ℕ) → o.log ≡ [] → (s : SessionRan start_state o p old.left new.left old.written new.written outcome) → IsCounted outcome s tally
    → TellsBy old new tally outcome → TellsFailures new.read_failed new.reads new.write_failed outcome → status ≡ end_status outcome → (served : Served old new status) × (status ≡ 0 → HasReplied served.turns served.state served.text tally.refused)
served-session old new o p tally (Ok e) status none s c told h is =
    let f = s.ran in
    let P : List LogItem → Type 0 = λ l. Ran (LacksRoom s.taken) new.left s.taken start_state s.state l p.log old.written new.written (Ok e) in (
      record {
        bytes = s.taken;
        text = f.text ++ end_text e;
        turns = f.turns;
        state = s.state;
        log = p.log;
        outcome = Ok e;
        read = s.read;
        wrote = f.wrote;
        comes = (f.rest, f.text, served_serves s.taken f.turns f.rest start_state s.state f.text f.items f.served, f.ends.0, refl);
        ran = subst P none s.ran;
        told = tells-of old new tally f.turns e c.line told;
        tells = is;
        few_reads = h.few_reads;
        reader_failed = h.reader_failed;
        writer_failed = h.writer_failed;
      },
      λ zero. replied-of tally s.state f.turns f.text e status c is zero,
    )
served-session old new o p tally (Err e) status none s c told h is =
    let f = stopped_broken (LacksRoom s.taken) new.left s.taken start_state s.state o.log p.log old.written new.written e s.ran in
    let P : List LogItem → Type 0 = λ l. Ran (LacksRoom s.taken) new.left s.taken start_state s.state l p.log old.written new.written (Err e) in (
      record {
        bytes = s.taken;
        text = f.1;
        turns = f.0;
        state = s.state;
        log = p.log;
        outcome = Err e;
        read = s.read;
        wrote = f.3;
        comes = (f.2, has_failed new e (λ k. h.read_fault (ap Err k)) (λ k. h.write_fault (ap Err k)));
        ran = subst P none s.ran;
        told = told;
        tells = is;
        few_reads = h.few_reads;
        reader_failed = h.reader_failed;
        writer_failed = h.writer_failed;
      },
      λ zero. not-one status is zero,
    )
