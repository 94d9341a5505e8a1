-- Whole sessions at a board, in the words of receipts.
use Rattle.std.proofs.Common.{◌≡◌, ℕ, ◌+◌, List, [], ◌∷◌, ◌++◌, length, take, refl, sym, ap, ◌∙◌, subst, Option, Ok, Err, inl, inr, append_assoc}
use Rattle.std.proofs.lemmas.List.{append-nil}
use Rattle.std.proofs.Math.Seq.{take-append-add, take-length}
use Rattle.std.specs.Io.KnownBytes.{Appends, IsAtEnd}
use Rattle.mw_model.specs.declared.calls.Call.{Call}
use Rattle.mw_model.specs.declared.receipts.Receipt.{Receipt}
use Rattle.mw_model.specs.declared.requests.End.{End}
use Rattle.mw_model.specs.Lines.{Asked, AskLoad, AskElement, AskAlone}
use Rattle.mw_model.specs.Receipts.{IsCallFor, AreServed}
use Rattle.mw_model.specs.Scripts.{end_text}
use Rattle.mw_session_fetch.specs.mw_wire.declared.fault.SessionFault.{SessionFault}
use Rattle.mw_session_fetch.specs.mw_wire.declared.fault.SessionFault.TheVariants as fault
use Rattle.mw_session_fetch.specs.mw_wire.Rooms.{LacksRoom}
use Rattle.mw_session_fetch.specs.mw_wire.Chains.{AreAnswered, HasAnswered}
use Rattle.mw_session_fetch.specs.mw_wire.Runs.{AllAnswered, CameToEnd, Halted}
use Rattle.mw_session_fetch.proofs.mw_wire.Chains.{has-append, has-one}
use Rattle.mw_pool_session.specs.Serving.{MakesCall, RequestServed, refused, received, ServedWhole, Receives, WroteAll, WroteFront}

makes-for : (q : Asked) (c : Call) → MakesCall q c → IsCallFor q c
makes-for (AskLoad name bytes) c m = (m.0, m.2)
makes-for (AskElement name ox oy bytes) c m = (m.0, m.2)
makes-for (AskAlone a) c m = m

one-more : (q : Asked) (rs : List Asked) (old mid new receipts : List Receipt) (text front rest : List ℕ) → RequestServed old q front mid → new ≡ mid ++ receipts → AreServed rs receipts rest → text ≡ front ++ rest
    → (all : List Receipt) × (new ≡ old ++ all) × AreServed (q ∷ rs) all text
one-more q rs old mid new receipts text front rest (refused stays says) next served texts = (
  receipts,
  next ∙ ap (λ l. l ++ receipts) stays,
  inl (rest, served, texts ∙ ap (λ l. l ++ rest) says),
)
one-more q rs old mid new receipts text front rest (received c a makes (place, adds) says) next served texts =
    let one : Receipt = record { place = place; call = c; reply = a } in (
      one ∷ receipts,
      next ∙ ap (λ l. l ++ receipts) adds ∙ append_assoc old (one ∷ []) receipts,
      inr (one, receipts, front, rest, refl, makes-for q c makes, says, served, texts),
    )

-- the receipts of a chain
chain-served : (rs : List Asked) (old new : List Receipt) (text : List ℕ) → AreAnswered RequestServed old rs text new → (receipts : List Receipt) × (new ≡ old ++ receipts) × AreServed rs receipts text
chain-served [] old new text (none, same) = ([], same ∙ sym (append-nil old), (refl, none))
chain-served (r ∷ rs) old new text (mid, front, rest, one, more, texts) =
    let h = chain-served rs mid new rest more in one-more r rs old mid new h.0 text front rest one h.1 h.2 texts

receives : (bytes rest : List ℕ) (rs : List Asked) (old new : List Receipt) (text : List ℕ) → HasAnswered RequestServed bytes rs rest old text new → Receives bytes rest old new text
receives bytes rest rs old new text a =
    let h = chain-served rs old new text a.answered in
    record { asked = rs; receipts = h.0; cut = a.cut; open_still = a.open_still; added = h.1; served = h.2 }

pub came-wrote-all : (left : Option (List ℕ)) (bytes : List ℕ) (old new : List Receipt) (before after : Option (List ℕ)) (e : End) → CameToEnd RequestServed (LacksRoom bytes) left bytes old new before after e → WroteAll (IsAtEnd left) bytes old new before after e
came-wrote-all left bytes old new before after e f = (f.rest, f.text, receives bytes f.rest f.asked old new f.text f.made, f.ends, f.wrote)

all-of : (x : List ℕ) → x ≡ take (length x) (x ++ [])
all-of x = rw append-nil (sym (take-length x))

in-answer : (x y : List ℕ) (k : ℕ) → x ++ take k y ≡ take (length x + k) ((x ++ y) ++ [])
in-answer x y k = rw append-nil (sym (take-append-add x y k))

said-wrote-front : (left : Option (List ℕ)) (bytes rest : List ℕ) (old new : List Receipt) (before after : Option (List ℕ)) → AllAnswered RequestServed bytes rest old new before after → WroteFront (IsAtEnd left) bytes old new before after
said-wrote-front left bytes rest old new before after d = (rest, d.text, [], length d.text, receives bytes rest d.asked old new d.text d.made, inl refl, subst (Appends before after) (all-of d.text) d.wrote)

came-wrote-front : (left : Option (List ℕ)) (bytes : List ℕ) (old new : List Receipt) (before after : Option (List ℕ)) (e : End) → CameToEnd RequestServed (LacksRoom bytes) left bytes old new before after e → WroteFront (IsAtEnd left) bytes old new before after
came-wrote-front left bytes old new before after e f =
    let all = f.text ++ end_text e in
    (f.rest, f.text, end_text e, length all, receives bytes f.rest f.asked old new f.text f.made, inr (e, f.ends.0, refl), subst (Appends before after) (sym (take-length all)) f.wrote)

pub halted-wrote-front : (left : Option (List ℕ)) (bytes : List ℕ) (old new : List Receipt) (before after : Option (List ℕ)) (f : SessionFault) → Halted RequestServed (LacksRoom bytes) left bytes old new before after f → WroteFront (IsAtEnd left) bytes old new before after
halted-wrote-front left bytes old new before after fault.Read (rest, d) = said-wrote-front left bytes rest old new before after d
halted-wrote-front left bytes old new before after fault.Write (inl (inl s)) =
    let all = has-append RequestServed s.asked (s.last ∷ []) bytes s.rest s.behind old s.mid new s.text s.reply s.made (has-one RequestServed s.rest s.behind s.last s.mid new s.reply s.next s.open_still s.answer) in
    (s.behind, s.text ++ s.reply, [], length s.text + s.count, receives bytes s.behind (s.asked ++ s.last ∷ []) old new (s.text ++ s.reply) all, inl refl, subst (Appends before after) (in-answer s.text s.reply s.count) s.wrote)
halted-wrote-front left bytes old new before after fault.Write (inl (inr s)) =
    (s.rest, s.text, end_text s.end, length s.text + s.count, receives bytes s.rest s.asked old new s.text s.made, inr (s.end, s.ends.0, refl), subst (Appends before after) (sym (take-append-add s.text (end_text s.end) s.count)) s.wrote)
halted-wrote-front left bytes old new before after fault.Write (inr (inl (rest, d))) = said-wrote-front left bytes rest old new before after d
halted-wrote-front left bytes old new before after fault.Write (inr (inr (e, f))) = came-wrote-front left bytes old new before after e f

-- the receipts of a session that was served with a pass of its own
pub whole-receives : (pass : List Receipt) (had left before after : Option (List ℕ)) → ServedWhole pass had left before after → (bytes rest text : List ℕ) × Receives bytes rest [] pass text
whole-receives pass had left before after (Ok end, ran) = let wrote = came-wrote-all left ran.taken [] pass before after end ran.ran in (ran.taken, wrote.0, wrote.1, wrote.2)
whole-receives pass had left before after (Err fault, ran) = let wrote = halted-wrote-front left ran.taken [] pass before after fault ran.ran in (ran.taken, wrote.0, wrote.1, wrote.4)
