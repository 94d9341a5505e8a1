-- Scripts have one reading: without marks of memory, the bytes and the state tell the output.
use Rattle.std.proofs.Common.{◌≡◌, ◌≢◌, ℕ, Bool, true, false, List, [], ◌∷◌, ◌++◌, Option, Some, None, refl, sym, ap, ◌∙◌, subst, arith, inl, inr, append_assoc}
use Rattle.mw_model.proofs.mw_facts.Elements.{append-empty}
use Rattle.mw_model.specs.declared.codes.Code.{Code}
use Rattle.mw_model.specs.declared.codes.Code.TheVariants as code
use Rattle.mw_model.specs.declared.calls.Given.{Given}
use Rattle.mw_model.specs.declared.calls.Given.TheVariants as given
use Rattle.mw_model.specs.declared.calls.Call.{Call}
use Rattle.mw_model.specs.declared.calls.Call.TheVariants as call
use Rattle.mw_model.specs.declared.requests.Ask.{Ask}
use Rattle.mw_model.specs.declared.requests.Ask.TheVariants as ask
use Rattle.mw_model.specs.declared.requests.End.{End}
use Rattle.mw_model.specs.declared.requests.End.TheVariants as end
use Rattle.mw_model.specs.Pictures.{Picture}
use Rattle.mw_model.specs.Rasters.{Raster}
use Rattle.mw_model.specs.Bitmaps.{IsBitmap, BitmapRefuses}
use Rattle.mw_model.specs.Elements.{Figure, IsElement, ElementRefuses, no_bitmap, no_origin, no_pixel, HoldsPlace, offsets_of}
use Rattle.mw_model.specs.NetpbmGrammar.{IsFile}
use Rattle.mw_model.specs.Values.{Value, ImageValue, ElementValue, shape_of_picture, shape_of_figure}
use Rattle.mw_model.specs.Refusals.{first_of, name_taken, no_room, fault_of, refusal}
use Rattle.mw_model.specs.Machine.{Machine, after}
use Rattle.mw_model.specs.Lines.{Asked, AskLoad, AskElement, AskAlone, Found, Partial, Fault, Begins}
use Rattle.mw_session_intake.proofs.Front.{front_is, front_empty}
use Rattle.mw_session_intake.specs.Reading.{front}
use Rattle.mw_model.specs.Replies.{refusal_text}
use Rattle.mw_model.specs.Scripts.{ImageGiven, ElementGiven, Calls, IsCallOf, refused_unread, answer_text, Answers, unread, called, runs_work, Works, Replies, Turn, IsTurn, AreTurns, requests, NoQuit, Ends, IsScript, end_text}
use Rattle.mw_session_laws.specs.Marks.{NoMarks, kills_of, NoneSaysMemory}
use Rattle.mw_netpbm.proofs.Files.{file_read}
use Rattle.mw_netpbm.proofs.Exclusive.{one_refusal, refusal_or_image}
use Rattle.mw_element.proofs.mw_netpbm_plain.Sides.{ok_is}
use Rattle.mw_element.proofs.mw_netpbm_plain.Bitmaps.{one_bitmap, one_bitmap_refusal, refusal_or_bitmap}
use Rattle.mw_element.proofs.Exclusive.{one_element}

-- ---- payloads

one_image : (bytes : List ℕ) (f g : Picture) → IsFile bytes f → IsFile bytes g → f ≡ g
one_image bytes f g a b = ok_is f g (sym (file_read bytes f a) ∙ file_read bytes g b)

image_given_once : (bytes : List ℕ) (g h : Given) (p q : Option Value) → ImageGiven bytes g p → ImageGiven bytes h q → (g ≡ h) × (p ≡ q)
image_given_once bytes (given.Good s) (given.Good u) p q a b =
    let same = one_image bytes a.0 b.0 a.1 b.1 in
    (ap given.Good (a.2 ∙ ap shape_of_picture same ∙ sym b.2), a.3 ∙ ap (λ f. Some (ImageValue f)) same ∙ sym b.3)
image_given_once bytes (given.Good s) (given.Bad d) p q a b = absurd (refusal_or_image bytes d a.0 b.0 a.1)
image_given_once bytes (given.Bad c) (given.Good u) p q a b = absurd (refusal_or_image bytes c b.0 a.0 b.1)
image_given_once bytes (given.Bad c) (given.Bad d) p q a b = (ap given.Bad (one_refusal bytes c d a.0 b.0), a.1 ∙ sym b.1)

-- the ways to be no element
pub data NoElement (bytes : List ℕ) (ox oy : ℕ) (c : Code) : Type 0 where
  by_bitmap : BitmapRefuses bytes 255 c → NoElement bytes ox oy c
  by_origin : (f : Raster ℕ) → IsBitmap bytes 255 f → ¬ HoldsPlace f ox oy → c ≡ code.Origin → NoElement bytes ox oy c
  by_pixels : (f : Raster ℕ) → IsBitmap bytes 255 f → HoldsPlace f ox oy → offsets_of f ox oy ≡ [] → c ≡ code.Empty → NoElement bytes ox oy c

no_element : (bytes : List ℕ) (ox oy : ℕ) (c : Code) → ElementRefuses bytes ox oy c → NoElement bytes ox oy c
no_element bytes ox oy c (no_bitmap d r) = by_bitmap r
no_element bytes ox oy c (no_origin f is out) = by_origin f is out refl
no_element bytes ox oy c (no_pixel f is at none) = by_pixels f is at none refl

fits_refused : (bytes : List ℕ) (ox oy : ℕ) (c : Code) (b : Figure) → IsElement bytes ox oy b → NoElement bytes ox oy c → ⊥
fits_refused bytes ox oy c b is (by_bitmap r) = refusal_or_bitmap bytes 255 c is.bitmap (omega arith) r is.is_bitmap
fits_refused bytes ox oy c b is (by_origin f has out e) = out (subst (λ g. HoldsPlace g ox oy) (one_bitmap bytes 255 is.bitmap f (omega arith) is.is_bitmap has) is.origin)
fits_refused bytes ox oy c b is (by_pixels f has at none e) =
    is.some (ap (λ g. offsets_of g ox oy) (one_bitmap bytes 255 is.bitmap f (omega arith) is.is_bitmap has) ∙ none)

two_refusals : (bytes : List ℕ) (ox oy : ℕ) (c d : Code) → NoElement bytes ox oy c → NoElement bytes ox oy d → c ≡ d
two_refusals bytes ox oy c d (by_bitmap r) (by_bitmap s) = one_bitmap_refusal bytes 255 c d (omega arith) r s
two_refusals bytes ox oy c d (by_bitmap r) (by_origin f has out e) = absurd (refusal_or_bitmap bytes 255 c f (omega arith) r has)
two_refusals bytes ox oy c d (by_bitmap r) (by_pixels f has at none e) = absurd (refusal_or_bitmap bytes 255 c f (omega arith) r has)
two_refusals bytes ox oy c d (by_origin f has out e) (by_bitmap s) = absurd (refusal_or_bitmap bytes 255 d f (omega arith) s has)
two_refusals bytes ox oy c d (by_origin f has out e) (by_origin g is off h) = e ∙ sym h
two_refusals bytes ox oy c d (by_origin f has out e) (by_pixels g is at none h) =
    absurd (out (subst (λ x. HoldsPlace x ox oy) (one_bitmap bytes 255 g f (omega arith) is has) at))
two_refusals bytes ox oy c d (by_pixels f has at none e) (by_bitmap s) = absurd (refusal_or_bitmap bytes 255 d f (omega arith) s has)
two_refusals bytes ox oy c d (by_pixels f has at none e) (by_origin g is off h) =
    absurd (off (subst (λ x. HoldsPlace x ox oy) (one_bitmap bytes 255 f g (omega arith) has is) at))
two_refusals bytes ox oy c d (by_pixels f has at none e) (by_pixels g is to some h) = e ∙ sym h

element_given_once : (bytes : List ℕ) (ox oy : ℕ) (g h : Given) (p q : Option Value) → ElementGiven bytes ox oy g p → ElementGiven bytes ox oy h q → (g ≡ h) × (p ≡ q)
element_given_once bytes ox oy (given.Good s) (given.Good u) p q a b =
    let same = one_element bytes ox oy a.0 b.0 a.1 b.1 in
    (ap given.Good (a.2 ∙ ap shape_of_figure same ∙ sym b.2), a.3 ∙ ap (λ f. Some (ElementValue f)) same ∙ sym b.3)
element_given_once bytes ox oy (given.Good s) (given.Bad d) p q a b = absurd (fits_refused bytes ox oy d a.0 a.1 (no_element bytes ox oy d b.0))
element_given_once bytes ox oy (given.Bad c) (given.Good u) p q a b = absurd (fits_refused bytes ox oy c b.0 b.1 (no_element bytes ox oy c a.0))
element_given_once bytes ox oy (given.Bad c) (given.Bad d) p q a b =
    (ap given.Bad (two_refusals bytes ox oy c d (no_element bytes ox oy c a.0) (no_element bytes ox oy d b.0)), a.1 ∙ sym b.1)

-- ---- calls and answers

calls_once : (r : Ask) (c d : Call) → Calls r c → Calls r d → c ≡ d
calls_once (ask.Run name op) c d a b = a ∙ sym b
calls_once (ask.Cancel name) c d a b = a ∙ sym b
calls_once (ask.Release name) c d a b = a ∙ sym b
calls_once (ask.Status name) c d a b = a ∙ sym b
calls_once (ask.Fetch name) c d a b = a ∙ sym b
calls_once (ask.Wait name) c d a b = a ∙ sym b
calls_once ask.Quit c d a b = absurd a

call_once : (r : Asked) (c d : Call) (p q : Option Value) → IsCallOf r c p → IsCallOf r d q → (c ≡ d) × (p ≡ q)
call_once (AskLoad name bytes) c d p q a b =
    let g = image_given_once bytes a.0 b.0 p q a.1 b.1 in
    (a.2 ∙ ap (call.Load name) g.0 ∙ sym b.2, g.1)
call_once (AskElement name ox oy bytes) c d p q a b =
    let g = element_given_once bytes ox oy a.0 b.0 p q a.1 b.1 in
    (a.2 ∙ ap (call.Element name) g.0 ∙ sym b.2, g.1)
call_once (AskAlone r) c d p q a b = (calls_once r c d a.0 b.0, a.1 ∙ sym b.1)

first_of_two : (a b x : Option Code) (c : Code) → first_of (a ∷ b ∷ []) ≡ Some c → first_of (a ∷ b ∷ x ∷ []) ≡ Some c
first_of_two None None x c e = cc
first_of_two None (Some d) x c e = e
first_of_two (Some d) b x c e = e

-- a call that is refused changes nothing, and this is what is written
refused_call : (m : Machine) (d : Call) (p : Option Value) (c : Code) → refusal m.table m.payloads d ≡ Some c → (answer_text m d ≡ refusal_text c) × (after m d p ≡ m)
refused_call m d p c e = (rw e refl, rw e refl)

-- what is refused unread is refused when it is read
unread_refused : (m : Machine) (r : Asked) (c : Code) (d : Call) (p : Option Value) → refused_unread m.table r ≡ Some c → IsCallOf r d p → refusal m.table m.payloads d ≡ Some c
unread_refused m (AskLoad name bytes) c d p e a = rw a.2 (first_of_two (name_taken m.table name) (no_room m.table) (fault_of a.0) c e)
unread_refused m (AskElement name ox oy bytes) c d p e a = rw a.2 (first_of_two (name_taken m.table name) (no_room m.table) (fault_of a.0) c e)
unread_refused m (AskAlone r) c d p e a = cc

answer_once : (m k l : Machine) (r : Asked) (x y : List ℕ) → Answers m r x k → Answers m r y l → (x ≡ y) × (k ≡ l)
answer_once m k l r x y (unread c e f g) (unread d h i j) =
    let same : c ≡ d = cc in
    (f ∙ ap refusal_text same ∙ sym i, g ∙ sym j)
answer_once m k l r x y (unread c e f g) (called d q a i j) =
    let s = refused_call m d q c (unread_refused m r c d q e a) in
    (f ∙ sym s.0 ∙ sym i, g ∙ sym s.1 ∙ sym j)
answer_once m k l r x y (called d q a i j) (unread c e f g) =
    let s = refused_call m d q c (unread_refused m r c d q e a) in
    (i ∙ s.0 ∙ sym f, j ∙ s.1 ∙ sym g)
answer_once m k l r x y (called c p a f g) (called d q b i j) =
    let s = call_once r c d p q a b in
    (f ∙ ap (answer_text m) s.0 ∙ sym i, g ∙ (ap (λ u. after m u p) s.0 ∙ ap (after m d) s.1) ∙ sym j)

works_once : (b : Bool) (m k l : Machine) (kills : List ℕ) → Works b m kills k → Works b m kills l → k ≡ l
works_once true m k l kills a b = a.1 ∙ sym b.1
works_once false m k l kills a b = a.1 ∙ sym b.1

replies_once : (b : Bool) (m k l : Machine) (r : Asked) (x y : List ℕ) → Replies b m r x k → Replies b m r y l → (x ≡ y) × (k ≡ l)
replies_once true m k l r x y a b = (a.0 ∙ sym b.0, a.1 ∙ sym b.1)
replies_once false m k l r x y a b = answer_once m k l r x y a b

turn_once : (m k l : Machine) (t : Turn) (x y : List ℕ) → IsTurn m t x k → IsTurn m t y l → (x ≡ y) × (k ≡ l)
turn_once m k l t x y a b =
    let mid = works_once (runs_work t.request) m a.0 b.0 t.kills a.1 b.1 in
    replies_once t.no_memory b.0 k l t.request x y (subst (λ z. Replies t.no_memory z t.request x k) mid a.2) b.2

pub turns_once : (ts : List Turn) (m k l : Machine) (x y : List ℕ) → AreTurns m ts x k → AreTurns m ts y l → (x ≡ y) × (k ≡ l)
turns_once [] m k l x y a b = (a.0 ∙ sym b.0, a.1 ∙ sym b.1)
turns_once (t ∷ ts) m k l x y a b =
    let first = turn_once m a.0 b.0 t a.1 b.1 a.3 b.3 in
    let more = turns_once ts b.0 k l a.2 b.2 (subst (λ z. AreTurns z ts a.2 k) first.1 a.4) b.4 in
    (a.5 ∙ (ap (λ u. u ++ a.2) first.0 ∙ ap (λ u. b.1 ++ u) more.0) ∙ sym b.5, more.1)

turns_split : (ts us : List Turn) (m n : Machine) (x : List ℕ) → AreTurns m (ts ++ us) x n →
    (mid : Machine) × (y z : List ℕ) × AreTurns m ts y mid × AreTurns mid us z n × (x ≡ y ++ z)
turns_split [] us m n x a = (m, [], x, (refl, refl), a, refl)
turns_split (t ∷ ts) us m n x a =
    let r = turns_split ts us a.0 n a.2 a.4 in
    (r.0, a.1 ++ r.1, r.2, (a.0, a.1, r.1, a.3, r.3, refl), r.4, a.5 ∙ ap (λ u. a.1 ++ u) r.5 ∙ sym (append_assoc a.1 r.1 r.2))

-- more turns write the same first
pub front_once : (ts us : List Turn) (m n k : Machine) (x y : List ℕ) → AreTurns m ts x n → AreTurns m (ts ++ us) y k → (z : List ℕ) × (y ≡ x ++ z)
front_once ts us m n k x y a b =
    let r = turns_split ts us m k y b in
    (r.2, r.5 ∙ ap (λ u. u ++ r.2) (turns_once ts m r.0 n r.1 x r.3 a).0)

-- ---- whole scripts

-- where a script ends without a mark, no further request stands
no_request_left : (whole : Type 0) (rest mid : List ℕ) (e : End) (r : Asked) → Ends whole rest e → e ≢ end.Ended code.Memory → front rest ≡ Found r mid → r ≢ AskAlone ask.Quit → ⊥
no_request_left whole rest mid end.Quit r h n f q = elim h [
  | inl g ↦ let x : Partial ≡ Found r mid = sym front_empty ∙ sym (ap front g.0) ∙ f in cc
  | inr g ↦ let x : Found (AskAlone ask.Quit) g.0 ≡ Found r mid = sym (front_is rest (Found (AskAlone ask.Quit) g.0) g.1) ∙ f in q cc
]
no_request_left whole rest mid (end.Ended c) r h n f q = elim h [
  | inl g ↦ let x : Fault c ≡ Found r mid = sym (front_is rest (Fault c) g) ∙ f in cc
  | inr g ↦ elim g [
    | inl k ↦ let x : Partial ≡ Found r mid = sym (front_is rest Partial k.1) ∙ f in cc
    | inr k ↦ n (ap end.Ended k)
  ]
]

quit_or_fault : (whole : Type 0) (rest : List ℕ) (c : Code) → Ends whole rest end.Quit → Ends whole rest (end.Ended c) → end.Ended c ≢ end.Ended code.Memory → ⊥
quit_or_fault whole rest c h k n = elim h [
  | inl g ↦ elim k [
    | inl i ↦ let x : Partial ≡ Fault c = sym front_empty ∙ sym (ap front g.0) ∙ front_is rest (Fault c) i in cc
    | inr i ↦ elim i [
      | inl j ↦ j.2 g.0
      | inr j ↦ n (ap end.Ended j)
    ]
  ]
  | inr g ↦ elim k [
    | inl i ↦ let x : Found (AskAlone ask.Quit) g.0 ≡ Fault c = sym (front_is rest (Found (AskAlone ask.Quit) g.0) g.1) ∙ front_is rest (Fault c) i in cc
    | inr i ↦ elim i [
      | inl j ↦ let x : Found (AskAlone ask.Quit) g.0 ≡ Partial = sym (front_is rest (Found (AskAlone ask.Quit) g.0) g.1) ∙ front_is rest Partial j.1 in cc
      | inr j ↦ n (ap end.Ended j)
    ]
  ]
]

same_end : (whole : Type 0) (rest : List ℕ) (e f : End) → Ends whole rest e → Ends whole rest f → e ≢ end.Ended code.Memory → f ≢ end.Ended code.Memory → e ≡ f
same_end whole rest end.Quit end.Quit h k n o = refl
same_end whole rest end.Quit (end.Ended c) h k n o = absurd (quit_or_fault whole rest c h k o)
same_end whole rest (end.Ended c) end.Quit h k n o = absurd (quit_or_fault whole rest c k h n)
same_end whole rest (end.Ended c) (end.Ended d) h k n o = elim h [
  | inl g ↦ elim k [
    | inl i ↦ let x : Fault c ≡ Fault d = sym (front_is rest (Fault c) g) ∙ front_is rest (Fault d) i in cc
    | inr i ↦ elim i [
      | inl j ↦ let x : Fault c ≡ Partial = sym (front_is rest (Fault c) g) ∙ front_is rest Partial j.1 in absurd cc
      | inr j ↦ absurd (o (ap end.Ended j))
    ]
  ]
  | inr g ↦ elim g [
    | inl i ↦ elim k [
      | inl j ↦ let x : Fault d ≡ Partial = sym (front_is rest (Fault d) j) ∙ front_is rest Partial i.1 in absurd cc
      | inr j ↦ elim j [
        | inl l ↦ ap end.Ended (i.0 ∙ sym l.0)
        | inr l ↦ absurd (o (ap end.Ended l))
      ]
    ]
    | inr i ↦ absurd (n (ap end.Ended i))
  ]
]

abbrev turn : Asked → List ℕ → Bool → Turn
turn r kills no_memory = record { request = r; kills = kills; no_memory = no_memory }

turn_is : (t u : Turn) → t.request ≡ u.request → t.kills ≡ u.kills → t.no_memory ≡ u.no_memory → t ≡ u
turn_is t u e f g =
    ap (λ r. turn r t.kills t.no_memory) e ∙ ap (λ k. turn u.request k t.no_memory) f ∙ ap (turn u.request u.kills) g

-- the same bytes, cut and ended without marks, are the same turns
same_turns : (whole : Type 0) (ts us : List Turn) (bytes rest left : List ℕ) (e f : End) → Begins bytes (requests ts) rest → Begins bytes (requests us) left
    → NoQuit ts → NoQuit us → Ends whole rest e → Ends whole left f → NoMarks ts → NoMarks us → e ≢ end.Ended code.Memory → f ≢ end.Ended code.Memory → (ts ≡ us) × (rest ≡ left)
same_turns whole [] [] bytes rest left e f b d q r h k x y n o = (refl, b ∙ sym d)
same_turns whole [] (u ∷ us) bytes rest left e f b d q r h k x y n o = absurd (no_request_left whole rest d.0 e u.request h n (ap front b ∙ front_is bytes (Found u.request d.0) d.1) r.0)
same_turns whole (t ∷ ts) [] bytes rest left e f b d q r h k x y n o = absurd (no_request_left whole left b.0 f t.request k o (ap front d ∙ front_is bytes (Found t.request b.0) b.1) q.0)
same_turns whole (t ∷ ts) (u ∷ us) bytes rest left e f b d q r h k x y n o =
    let found : Found t.request b.0 ≡ Found u.request d.0 = sym (front_is bytes (Found t.request b.0) b.1) ∙ front_is bytes (Found u.request d.0) d.1 in
    let asks : t.request ≡ u.request = cc in
    let mid : b.0 ≡ d.0 = cc in
    let more = same_turns whole ts us b.0 rest left e f b.2 (subst (λ l. Begins l (requests us) left) (sym mid) d.2) q.1 r.1 h k x.2 y.2 n o in
    let same = turn_is t u asks (x.0 ∙ sym y.0) (x.1 ∙ sym y.1) in
    (ap (λ v. v ∷ ts) same ∙ ap (λ l. u ∷ l) more.0, more.1)

-- without marks the bytes and the state tell the output, the end and the state after it
pub script_once : (whole : Type 0) (bytes : List ℕ) (ts us : List Turn) (m n k : Machine) (x y : List ℕ) (e f : End) → IsScript whole bytes ts m n x e → IsScript whole bytes us m k y f
    → NoMarks ts → NoMarks us → e ≢ end.Ended code.Memory → f ≢ end.Ended code.Memory → (x ≡ y) × (n ≡ k) × (e ≡ f)
script_once whole bytes ts us m n k x y e f a b p q g h =
    let same = same_turns whole ts us bytes a.0 b.0 e f a.2.cut b.2.cut a.2.open_still b.2.open_still a.3 b.3 p q g h in
    let ends : e ≡ f = same_end whole b.0 e f (subst (λ r. Ends whole r e) same.1 a.3) b.3 g h in
    let told = turns_once us m n k a.1 b.1 (subst (λ v. AreTurns m v a.1 n) same.0 a.2.turns_made) b.2.turns_made in
    (a.4 ∙ (ap (λ u. u ++ end_text e) told.0 ∙ ap (λ v. b.1 ++ end_text v) ends) ∙ sym b.4, told.1, ends)

-- a turn that wrote no 50 found memory
found_memory : (b : Bool) (m n : Machine) (r : Asked) (x : List ℕ) → Replies b m r x n → x ≢ refusal_text code.Memory → b ≡ false
found_memory true m n r x a other = absurd (other a.0)
found_memory false m n r x a other = refl

-- the marks of turns are their kills and their 50s
pub marks_seen : (ts : List Turn) (m n : Machine) (x : List ℕ) → (a : AreTurns m ts x n) → kills_of ts ≡ [] → NoneSaysMemory ts m n x a → NoMarks ts
marks_seen [] m n x a none other = tt
marks_seen (t ∷ ts) m n x a none other =
    let kills = append-empty t.kills (kills_of ts) none in
    (kills.0, found_memory t.no_memory a.3.0 a.0 t.request a.1 a.3.2 other.0, marks_seen ts a.0 n a.2 a.4 kills.1 other.1)
