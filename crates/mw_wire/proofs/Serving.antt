-- What the loops of a session keep, and what they end with.
use Rattle.std.proofs.Common.{Bool, true, false, ◌≡◌, ◌≢◌, ℕ, List, [], ◌∷◌, ◌++◌, ◌+◌, ◌≤◌, length, take, drop, ◌<◌, Option, Some, None, Result, Ok, Err, refl, sym, ap, ◌∙◌, subst, inl, inr, append_assoc, arith, take-append-drop, take-add, take-take}
use Rattle.std.proofs.lemmas.List.{append-nil, take-append-le}
use Rattle.std.specs.Io.KnownBytes.{Appends, Consumes, IsAtEnd, Keeps}
use Rattle.std.proofs.KnownBytes.{Appends-nil, Appends-kept, Consumes-trans}
use Rattle.std.specs.Prelude.{OnOk, OnErr}
use Rattle.mw_model.specs.declared.codes.Code.{Code}
use Rattle.mw_model.specs.declared.codes.Code.TheVariants as code
use Rattle.mw_model.specs.declared.requests.Ask.TheVariants as ask
use Rattle.mw_model.specs.declared.requests.End.{End}
use Rattle.mw_model.specs.declared.requests.End.TheVariants as end
use Rattle.mw_model.specs.Lines.{Asked, AskAlone, Found, Partial}
use Rattle.mw_session_intake.specs.Intake.{Held, IsPortion}
use Rattle.mw_session_intake.specs.Reading.{front}
use Rattle.mw_session_intake.proofs.Front.{is_front}
use Rattle.mw_wire.specs.declared.fault.SessionFault.{SessionFault}
use Rattle.mw_wire.specs.declared.fault.SessionFault.TheVariants as fault
use Rattle.mw_wire.specs.Writes.{EndsBy, EndedBy, Wrote}
use Rattle.mw_wire.specs.Rooms.{EndsAt, WantsRoom, LacksRoom}
use Rattle.mw_wire.specs.Runs.{AllAnswered, CameToEnd, BrokeOff, Halted, Drains, DeskRan}
use Rattle.mw_wire.proofs.Rooms.{room-for-portion, room-more, room-lacks}
use Rattle.mw_wire.proofs.Ends.{Progress, progress-more, progress-answered, cut-answered, finished-by, cut-by, finished-on, stopped-on, finished-more, finished-for, cut-answer-more, cut-end-more, stopped-for}

-- QUIT is no want of memory
quit_has_room : {X : Type 0} → end.Quit ≡ end.Ended code.Memory → X
quit_has_room e = cc

-- nor is a CUT
cut_has_room : {X : Type 0} → end.Ended code.Cut ≡ end.Ended code.Memory → X
cut_has_room e = cc

-- a reader that is not at its end
abbrev pub some_left : Option (List ℕ)
some_left = Some (0 ∷ [])

some_byte : (bytes : List ℕ) → 0 ∷ bytes ≡ [] → ⊥
some_byte bytes e = cc

not_at_end : IsAtEnd some_left → ⊥
not_at_end e = some_byte [] e

portion-joined : (had piece : List ℕ) (at n : ℕ) → (had ++ take at piece) ++ take n (drop at piece) ≡ had ++ take (at + n) piece
portion-joined had piece at n = append_assoc had (take at piece) (take n (drop at piece)) ∙ ap (λ l. had ++ l) (sym (take-add at n piece))

portion-rest : (had piece : List ℕ) (at : ℕ) → (had ++ take at piece) ++ drop at piece ≡ had ++ piece
portion-rest had piece at = append_assoc had (take at piece) (drop at piece) ∙ ap (λ l. had ++ l) (take-append-drop at piece)

-- the front of a buffer that was written to
pub take-front : (n len : ℕ) (a b : List ℕ) → n ≤ length a → n ≤ len → take n (take len (a ++ b)) ≡ take n a
take-front n len a b h k = simp take-take (ap (λ i. take i (a ++ b)) (omega (arith, k)) ∙ take-append-le n a b h)

-- a writer that failed is told
pub write-failed : {X : Type 0} → (r : Result X SessionFault) (new old : Bool) → old ≡ false → OnOk r (new ≡ old) → OnErr r ((r ≡ Err fault.Write) × (new ≡ true)) → new ≡ true → r ≡ Err fault.Write
write-failed (Ok x) new old clear kept flag failed = cc
write-failed (Err f) new old clear kept flag failed = flag.0

-- the fault of a result that tells a write
pub error-is : (f : SessionFault) (r : Result (Unit {0}) SessionFault) → r ≡ Err f → r ≡ Err fault.Write → f ≡ fault.Write
error-is f r is e = cc

module _ {S : Type 0} (Answer : S → Asked → List ℕ → S → Type 0) where
  -- a piece was read and fed
  progress-fed : (bytes rest piece after : List ℕ) (s t : S) (x y : Option (List ℕ)) → after ≡ rest ++ piece → Progress Answer bytes rest s t x y → Progress Answer (bytes ++ piece) after s t x y
  progress-fed bytes rest piece after s t x y e h =
      let P : List ℕ → Type 0 = λ l. Progress Answer (bytes ++ piece) l s t x y in
      subst P (sym e) (progress-more Answer bytes piece rest s t x y h)

  -- ---- answering what waits

  pub drains-partial : (left : Option (List ℕ)) (bytes rest : List ℕ) (after : Held) (s t : S) (x y : Option (List ℕ)) → after.bytes ≡ rest → Progress Answer bytes rest s t x y → front rest ≡ Partial → Drains Answer left bytes after s t x y (Ok None)
  drains-partial left bytes rest after s t x y same h parts =
      let P : List ℕ → Type 0 = λ l. AllAnswered Answer bytes l s t x y in
      subst P (sym same) (record { asked = h.asked; text = h.text; made = h.made; open_still = parts; wrote = h.wrote })

  pub drains-quit : (left : Option (List ℕ)) (bytes rest more : List ℕ) (after : Held) (s t : S) (x y : Option (List ℕ)) → Progress Answer bytes rest s t x y → front rest ≡ Found (AskAlone ask.Quit) more → Drains Answer left bytes after s t x y (Ok (Some end.Quit))
  drains-quit left bytes rest more after s t x y h found =
      finished-by Answer (WantsRoom after) left bytes rest s t x y y end.Quit h (inr (more, is_front rest (Found (AskAlone ask.Quit) more) found), quit_has_room) (Appends-nil y)

  pub drains-ended : (left : Option (List ℕ)) (bytes rest : List ℕ) (after : Held) (s t : S) (x y z : Option (List ℕ)) (c : Code) (r : Result (Option End) SessionFault) → Progress Answer bytes rest s t x y → EndsAt (WantsRoom after) (IsAtEnd left) rest (end.Ended c) → EndedBy y z c r
      → (A : Type 0) → OnErr r ((r ≡ Err fault.Write) × A) → Drains Answer left bytes after s t x z r
  drains-ended left bytes rest after s t x y z c (Ok o) h ends w A flag =
      let P : Option End → Type 0 = λ e. Drains Answer left bytes after s t x z (Ok e) in
      subst P (sym w.0) (finished-by Answer (WantsRoom after) left bytes rest s t x y z (end.Ended c) h ends w.1)
  drains-ended left bytes rest after s t x y z c (Err f) h ends w A flag =
      let P : Result (Option End) SessionFault → Type 0 = λ o. Drains Answer left bytes after s t x z o in
      subst P (sym flag.0) (inr (cut-by Answer (WantsRoom after) left bytes rest s t x y z (end.Ended c) h ends w))

  -- the answer's text, and what was written of it
  abbrev pub IsGiven : S → S → Asked → Option (List ℕ) → Option (List ℕ) → Result (Unit {0}) SessionFault → Type 0
  IsGiven k t q y z result = (text : List ℕ) × Answer k q text t × Wrote y z text result

  pub progress-given : (bytes rest after : List ℕ) (s k t : S) (x y z : Option (List ℕ)) (q : Asked) (v : Unit {0}) → Progress Answer bytes rest s k x y → front rest ≡ Found q after → q ≢ AskAlone ask.Quit → IsGiven k t q y z (Ok v) → Progress Answer bytes after s t x z
  progress-given bytes rest after s k t x y z q v h found asks a = progress-answered Answer bytes rest after s k t x y z q a.0 h found asks a.1 a.2

  pub drains-broken : (left : Option (List ℕ)) (bytes rest after : List ℕ) (behind : Held) (s k t : S) (x y z : Option (List ℕ)) (q : Asked) (f : SessionFault) → Progress Answer bytes rest s k x y → front rest ≡ Found q after → q ≢ AskAlone ask.Quit → IsGiven k t q y z (Err f) → f ≡ fault.Write
      → Drains Answer left bytes behind s t x z (Err f)
  drains-broken left bytes rest after behind s k t x y z q f h found asks a is =
      let P : SessionFault → Type 0 = λ g. Drains Answer left bytes behind s t x z (Err g) in
      subst P (sym is) (inl (cut-answered Answer bytes rest after s k t x y z q a.0 h found asks a.1 a.2))

  -- ---- serving a piece

  -- a portion of the piece was fed
  pub progress-portion : (had piece rest after : List ℕ) (at n : ℕ) (s t : S) (x y : Option (List ℕ)) → after ≡ rest ++ take n (drop at piece) → Progress Answer (had ++ take at piece) rest s t x y → Progress Answer (had ++ take (at + n) piece) after s t x y
  progress-portion had piece rest after at n s t x y e h =
      let P : List ℕ → Type 0 = λ l. Progress Answer l after s t x y in
      subst P (portion-joined had piece at n) (progress-fed (had ++ take at piece) rest (take n (drop at piece)) after s t x y e h)

  -- it found no memory
  pub drains-no-room : (left : Option (List ℕ)) (had piece : List ℕ) (held after : Held) (at n : ℕ) (s t : S) (x y z : Option (List ℕ)) (r : Result (Option End) SessionFault) → after.bytes ≡ held.bytes → Progress Answer (had ++ take at piece) held.bytes s t x y → front held.bytes ≡ Partial → drop at piece ≢ []
      → IsPortion held (take n (drop at piece)) → after.spare < length (take n (drop at piece)) → EndedBy y z code.Memory r → (A : Type 0) → OnErr r ((r ≡ Err fault.Write) × A) → Drains Answer left (had ++ piece) after s t x z r
  drains-no-room left had piece held after at n s t x y z r same h part some portion less w A flag =
      let P : List ℕ → Type 0 = λ l. Progress Answer l (held.bytes ++ drop at piece) s t x y in
      let all = subst P (portion-rest had piece at) (progress-more Answer (had ++ take at piece) (drop at piece) held.bytes s t x y h) in
      drains-ended left (had ++ piece) (held.bytes ++ drop at piece) after s t x y z code.Memory r all (inr (inr refl), λ e. room-for-portion held after (drop at piece) n same part some portion less) w A flag

  -- the session ended while what waited was answered
  pub drains-finished : (left : Option (List ℕ)) (had piece rest : List ℕ) (after : Held) (at : ℕ) (s k t : S) (x y z : Option (List ℕ)) (e : End) → Progress Answer (had ++ take at piece) rest s k x y → Drains Answer some_left rest after k t y z (Ok (Some e))
      → Drains Answer left (had ++ piece) after s t x z (Ok (Some e))
  drains-finished left had piece rest after at s k t x y z e h d =
      let fed = had ++ take at piece in
      let P : List ℕ → Type 0 = λ l. CameToEnd Answer (WantsRoom after) left l s t x z e in
      let ended = finished-on Answer (WantsRoom after) some_left fed rest s k t x y z e h d in
      subst P (portion-rest had piece at) (finished-more Answer (WantsRoom after) (WantsRoom after) left some_left fed (drop at piece) s t x z e not_at_end (λ r w. room-more after r (drop at piece) w) ended)

  stopped_more : (left : Option (List ℕ)) (held : Held) (fed more : List ℕ) (s t : S) (x z : Option (List ℕ)) → BrokeOff Answer (WantsRoom held) some_left fed s t x z fault.Write → BrokeOff Answer (WantsRoom held) left (fed ++ more) s t x z fault.Write
  stopped_more left held fed more s t x z (inl h) = inl (cut-answer-more Answer fed more s t x z h)
  stopped_more left held fed more s t x z (inr h) = inr (cut-end-more Answer (WantsRoom held) (WantsRoom held) left some_left fed more s t x z not_at_end (λ r w. room-more held r more w) h)

  -- writing failed there
  pub drains-cut : (left : Option (List ℕ)) (had piece rest : List ℕ) (after : Held) (at : ℕ) (s k t : S) (x y z : Option (List ℕ)) (f : SessionFault) → f ≡ fault.Write → Progress Answer (had ++ take at piece) rest s k x y → Drains Answer some_left rest after k t y z (Err f)
      → Drains Answer left (had ++ piece) after s t x z (Err f)
  drains-cut left had piece rest after at s k t x y z fault.Read is h d = let no : fault.Read ≡ fault.Write = is in cc
  drains-cut left had piece rest after at s k t x y z fault.Write is h d =
      let fed = had ++ take at piece in
      let P : List ℕ → Type 0 = λ l. BrokeOff Answer (WantsRoom after) left l s t x z fault.Write in
      let broken = stopped-on Answer (WantsRoom after) some_left fed rest s k t x y z fault.Write h d in
      subst P (portion-rest had piece at) (stopped_more left after fed (drop at piece) s t x z broken)

  -- ---- the whole session

  -- it ended while what waited was answered
  pub ran-finished : (s k t : S) (had left : Option (List ℕ)) (bytes rest : List ℕ) (after : Held) (x y z : Option (List ℕ)) (e : End) → Consumes had left bytes → Progress Answer bytes rest s k x y → Drains Answer left rest after k t y z (Ok (Some e))
      → DeskRan Answer s t had left x z (Ok e)
  ran-finished s k t had left bytes rest after x y z e read h d =
      let all = finished-on Answer (WantsRoom after) left bytes rest s k t x y z e h d in
      record { taken = bytes; read = read; ran = finished-for Answer (WantsRoom after) (LacksRoom bytes) left bytes s t x z e (room-lacks bytes after) all }

  broke_stops : (lacks : List ℕ → Type 0) (left : Option (List ℕ)) (bytes : List ℕ) (s t : S) (x z : Option (List ℕ)) (f : SessionFault) → BrokeOff Answer lacks left bytes s t x z f → Halted Answer lacks left bytes s t x z f
  broke_stops lacks left bytes s t x z fault.Read h = h
  broke_stops lacks left bytes s t x z fault.Write h = inl h

  pub ran-broken : (s k t : S) (had left : Option (List ℕ)) (bytes rest : List ℕ) (after : Held) (x y z : Option (List ℕ)) (f : SessionFault) → Consumes had left bytes → Progress Answer bytes rest s k x y → Drains Answer left rest after k t y z (Err f)
      → DeskRan Answer s t had left x z (Err f)
  ran-broken s k t had left bytes rest after x y z f read h d =
      let all = stopped-on Answer (WantsRoom after) left bytes rest s k t x y z f h d in
      record { taken = bytes; read = read; ran = broke_stops (LacksRoom bytes) left bytes s t x z f (stopped-for Answer (WantsRoom after) (LacksRoom bytes) left bytes s t x z f (room-lacks bytes after) all) }

  -- nothing more was read
  pub ran-stopped : (s t : S) (had left : Option (List ℕ)) (bytes rest : List ℕ) (x y : Option (List ℕ)) (f : SessionFault) → Consumes had left bytes → Progress Answer bytes rest s t x y → front rest ≡ Partial → f ≡ fault.Read → DeskRan Answer s t had left x y (Err f)
  ran-stopped s t had left bytes rest x y f read h part is =
      let P : SessionFault → Type 0 = λ g. DeskRan Answer s t had left x y (Err g) in
      subst P (sym is) (record {
        taken = bytes;
        read = read;
        ran = (rest, record { asked = h.asked; text = h.text; made = h.made; open_still = part; wrote = h.wrote });
      })

  -- ---- passing on what the writer holds

  pub progress-kept : (bytes rest : List ℕ) (s t : S) (x y z : Option (List ℕ)) → Progress Answer bytes rest s t x y → Keeps y z → Progress Answer bytes rest s t x z
  progress-kept bytes rest s t x y z h k = record { asked = h.asked; text = h.text; made = h.made; wrote = Appends-kept x y z h.text h.wrote k }

  -- it failed to, before more was read
  pub ran-held : (s t : S) (had left : Option (List ℕ)) (bytes rest : List ℕ) (x y z : Option (List ℕ)) (f : SessionFault) → Consumes had left bytes → Progress Answer bytes rest s t x y → front rest ≡ Partial → Keeps y z → f ≡ fault.Write → DeskRan Answer s t had left x z (Err f)
  ran-held s t had left bytes rest x y z f read h part k is =
      let P : SessionFault → Type 0 = λ g. DeskRan Answer s t had left x z (Err g) in
      subst P (sym is) (record {
        taken = bytes;
        read = read;
        ran = inr (inl (rest, record { asked = h.asked; text = h.text; made = h.made; open_still = part; wrote = Appends-kept x y z h.text h.wrote k }));
      })

  -- it ended by a refusal
  pub ran-ended : (s t : S) (had left : Option (List ℕ)) (bytes rest : List ℕ) (x y z : Option (List ℕ)) (c : Code) (r : Result End SessionFault) → Consumes had left bytes → Progress Answer bytes rest s t x y → EndsAt (LacksRoom bytes) (IsAtEnd left) rest (end.Ended c) → EndsBy y z c r
      → (A : Type 0) → OnErr r ((r ≡ Err fault.Write) × A) → DeskRan Answer s t had left x z r
  ran-ended s t had left bytes rest x y z c (Ok e) read h ends w A flag =
      let P : End → Type 0 = λ o. DeskRan Answer s t had left x z (Ok o) in
      subst P (sym w.0) (record { taken = bytes; read = read; ran = finished-by Answer (LacksRoom bytes) left bytes rest s t x y z (end.Ended c) h ends w.1 })
  ran-ended s t had left bytes rest x y z c (Err f) read h ends w A flag =
      let P : Result End SessionFault → Type 0 = λ o. DeskRan Answer s t had left x z o in
      subst P (sym flag.0) (record { taken = bytes; read = read; ran = inl (inr (cut-by Answer (LacksRoom bytes) left bytes rest s t x y z (end.Ended c) h ends w)) })

  -- the input ended, between requests or in the middle of one
  pub ran-to-end : (s t : S) (had mid left : Option (List ℕ)) (bytes rest : List ℕ) (x y z : Option (List ℕ)) (r : Result End SessionFault) → Consumes had mid bytes → Consumes mid left [] → IsAtEnd left
      → Progress Answer bytes rest s t x y → front rest ≡ Partial → (rest ≡ [] → (r ≡ Ok end.Quit) × Appends y z []) → (rest ≢ [] → EndsBy y z code.Cut r)
      → (A : Type 0) → OnErr r ((r ≡ Err fault.Write) × A) → DeskRan Answer s t had left x z r
  ran-to-end s t had mid left bytes [] x y z r read none whole h waits quit cut A flag =
      let q = quit refl in
      let all = rw append-nil at (Consumes-trans _ _ _ bytes [] read none) in
      let P : Result End SessionFault → Type 0 = λ o. DeskRan Answer s t had left x z o in
      subst P (sym q.0) (record { taken = bytes; read = all; ran = finished-by Answer (LacksRoom bytes) left bytes [] s t x y z end.Quit h (inl (refl, whole), quit_has_room) q.1 })
  ran-to-end s t had mid left bytes (b ∷ rest) x y z r read none whole h waits quit cut A flag =
      let all = rw append-nil at (Consumes-trans _ _ _ bytes [] read none) in
      let some : b ∷ rest ≢ [] = λ e. cc in
      ran-ended s t had left bytes (b ∷ rest) x y z code.Cut r all h (inr (inl (refl, is_front (b ∷ rest) Partial waits, some, whole)), cut_has_room) (cut some) A flag
