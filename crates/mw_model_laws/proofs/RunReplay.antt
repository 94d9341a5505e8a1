-- What a log tells, and what a call that is refused leaves.
use Rattle.std.proofs.Common.{◌≡◌, false, List, [], ◌∷◌, ◌++◌, Option, Some, None, refl, sym, ap, ◌∙◌, subst}
use Rattle.std.proofs.lemmas.List.{append-nil}
use Rattle.mw_model.specs.declared.names.Name.{Name}
use Rattle.mw_model.specs.declared.operations.Op.TheVariants as op
use Rattle.mw_model.specs.declared.operations.FlatOp.TheVariants as flat
use Rattle.mw_model.specs.declared.operations.GranOp.TheVariants as gran
use Rattle.mw_model.specs.declared.codes.Code.{Code}
use Rattle.mw_model.specs.declared.shapes.Shape.{Shape}
use Rattle.mw_model.specs.declared.calls.Outcome.{Outcome}
use Rattle.mw_model.specs.declared.calls.Outcome.TheVariants as outcome
use Rattle.mw_model.specs.declared.calls.Call.{Call}
use Rattle.mw_model.specs.declared.calls.Call.TheVariants as call
use Rattle.mw_model.specs.declared.calls.Reply.{Reply}
use Rattle.mw_model.specs.declared.calls.Reply.TheVariants as reply
use Rattle.mw_model.specs.declared.calls.LogItem.{LogItem}
use Rattle.mw_model.specs.declared.calls.LogItem.TheVariants as item
use Rattle.mw_model.specs.Values.{Value}
use Rattle.mw_model.specs.Refusals.{Table, ticket, outcome_at, shape_at, refusal}
use Rattle.mw_model.specs.Machine.{Machine, status_reply, fetch_reply, answer, refused_or, reply_from, reply_to, changed, unless_refused, table_after, after, settled, killed, Step, Run}
use Rattle.mw_model_laws.specs.MachineLaws.{asks_offsets}

-- ---- refusals

status_accepts : (t : _) (s : Shape) (o : Outcome) (d : Code) → status_reply t s o ≡ reply.Refused d → ⊥
status_accepts t s outcome.Pending d h = cc
status_accepts t s outcome.Done d h = cc
status_accepts t s outcome.Cancelled d h = cc
status_accepts t s outcome.Memory d h = cc
status_accepts t s (outcome.Input i) d h = cc
status_accepts t s outcome.Released d h = cc

fetch_accepts : (t : _) (s : Shape) (o : Outcome) (d : Code) → fetch_reply t s o ≡ reply.Refused d → ⊥
fetch_accepts t s outcome.Pending d h = cc
fetch_accepts t s outcome.Done d h = cc
fetch_accepts t s outcome.Cancelled d h = cc
fetch_accepts t s outcome.Memory d h = cc
fetch_accepts t s (outcome.Input i) d h = cc
fetch_accepts t s outcome.Released d h = cc

-- an answer is no refusal
answer_accepts : (w : Table) (c : Call) (d : Code) → answer w c ≡ reply.Refused d → ⊥
answer_accepts w (call.Load n g) d h = cc
answer_accepts w (call.Element n g) d h = cc
answer_accepts w (call.Run n o) d h = cc
answer_accepts w (call.Cancel n) d h = cc
answer_accepts w (call.Status n) d h = status_accepts (ticket w n) (shape_at w.submissions (ticket w n)) (outcome_at w.outcomes (ticket w n)) d h
answer_accepts w (call.Fetch n) d h = fetch_accepts (ticket w n) (shape_at w.submissions (ticket w n)) (outcome_at w.outcomes (ticket w n)) d h
answer_accepts w (call.Release n) d h = cc

told_by : (r : Option Code) (a : Reply) (d : Code) → (a ≡ reply.Refused d → ⊥) → refused_or r a ≡ reply.Refused d → r ≡ Some d
told_by None a d n h = absurd (n h)
told_by (Some c) a d n h = cc

-- a reply tells whether a call was refused, and why
pub refusal_told : (m : Machine) (c : Call) (d : Code) → reply_to m c ≡ reply.Refused d → refusal m.table m.payloads c ≡ Some d
refusal_told m c d h = told_by (refusal m.table m.payloads c) (answer m.table c) d (answer_accepts m.table c d) h

pub refusal_tells : (m : Machine) (c : Call) (d : Code) → refusal m.table m.payloads c ≡ Some d → reply_to m c ≡ reply.Refused d
refusal_tells m c d h = ap (λ r. refused_or r (answer m.table c)) h

unless_refused-leaves : (r : Option Code) (d : Code) (m : Machine) (w : Table) (ps : List (Option Value)) → r ≡ Some d → record { table = unless_refused r m.table w; payloads = unless_refused r m.payloads ps } ≡ m
unless_refused-leaves None d m w ps h = absurd cc
unless_refused-leaves (Some c) d m w ps h = refl

-- a call that is refused leaves the state
pub refused_leaves : (m : Machine) (c : Call) (p : Option Value) (d : Code) → refusal m.table m.payloads c ≡ Some d → after m c p ≡ m
refused_leaves m (call.Load n g) p d h = unless_refused-leaves (refusal m.table m.payloads (call.Load n g)) d m (changed m.table (call.Load n g)) _ h
refused_leaves m (call.Element n g) p d h = unless_refused-leaves (refusal m.table m.payloads (call.Element n g)) d m (changed m.table (call.Element n g)) _ h
refused_leaves m (call.Run n o) p d h = unless_refused-leaves (refusal m.table m.payloads (call.Run n o)) d m (changed m.table (call.Run n o)) _ h
refused_leaves m (call.Cancel n) p d h = unless_refused-leaves (refusal m.table m.payloads (call.Cancel n)) d m (changed m.table (call.Cancel n)) _ h
refused_leaves m (call.Status n) p d h = unless_refused-leaves (refusal m.table m.payloads (call.Status n)) d m (changed m.table (call.Status n)) _ h
refused_leaves m (call.Fetch n) p d h = unless_refused-leaves (refusal m.table m.payloads (call.Fetch n)) d m (changed m.table (call.Fetch n)) _ h
refused_leaves m (call.Release n) p d h = unless_refused-leaves (refusal m.table m.payloads (call.Release n)) d m (changed m.table (call.Release n)) _ h

pub quiet : (r : Option Code) (m : Machine) → record { table = unless_refused r m.table m.table; payloads = unless_refused r m.payloads (m.payloads ++ []) } ≡ m
quiet None m = let P : List (Option Value) → Type 0 = λ ps. record { table = m.table; payloads = ps } ≡ m in subst P (sym (append-nil m.payloads)) refl
quiet (Some c) m = refl

pub status_leaves : (m : Machine) (n : Name) (p : Option Value) → after m (call.Status n) p ≡ m
status_leaves m n p = quiet (refusal m.table m.payloads (call.Status n)) m

pub fetch_leaves : (m : Machine) (n : Name) (p : Option Value) → after m (call.Fetch n) p ≡ m
fetch_leaves m n p = quiet (refusal m.table m.payloads (call.Fetch n)) m

-- ---- one log, one table

by_reply : (x y : Option Code) (r : Reply) (w v : Table) → ((d : Code) → r ≡ reply.Refused d → ⊥) → refused_or x r ≡ refused_or y r → unless_refused x w v ≡ unless_refused y w v
by_reply None None r w v n h = refl
by_reply None (Some d) r w v n h = absurd (n d h)
by_reply (Some c) None r w v n h = absurd (n c (sym h))
by_reply (Some c) (Some d) r w v n h = refl

same_step : (i : LogItem) (a b x y : Machine) → a.table ≡ b.table → Step a i x → Step b i y → x.table ≡ y.table
same_step (item.Call c r) a b x y e s u =
    let P : Table → Type 0 = λ w. table_after a.table a.payloads c ≡ table_after w b.payloads c in
    let Q : Table → Type 0 = λ w. reply_from a.table a.payloads c ≡ reply_from w b.payloads c in
    let replies : reply_from a.table a.payloads c ≡ reply_from a.table b.payloads c = subst Q (sym e) (sym s.2 ∙ u.2) in
    ap (λ m. m.table) s.3
    ∙ subst P e (by_reply (refusal a.table a.payloads c) (refusal a.table b.payloads c) (answer a.table c) a.table (changed a.table c) (answer_accepts a.table c) replies)
    ∙ sym (ap (λ m. m.table) u.3)
same_step (item.Finished t) a b x y e s u = ap (λ m. m.table) s.1 ∙ ap (λ w. settled w t outcome.Done) e ∙ sym (ap (λ m. m.table) u.1)
same_step (item.Killed t) a b x y e s u = ap (λ m. m.table) s.1 ∙ ap (λ w. killed w t outcome.Memory) e ∙ sym (ap (λ m. m.table) u.1)

-- runs of one log from states with one table end in states with one table
pub same_run : (log : List LogItem) (a b x y : Machine) → a.table ≡ b.table → Run a log x → Run b log y → x.table ≡ y.table
same_run [] a b x y e r q = ap (λ m. m.table) r ∙ e ∙ sym (ap (λ m. m.table) q)
same_run (i ∷ log) a b x y e r q = same_run log r.0 q.0 x y (same_step i a b r.0 q.0 e r.1 q.1) r.2 q.2

-- ---- replies

told_by_table : (w : Table) (c : Call) (ps qs : List (Option Value)) → asks_offsets c ≡ false → reply_from w ps c ≡ reply_from w qs c
told_by_table w (call.Load n g) ps qs h = refl
told_by_table w (call.Element n g) ps qs h = refl
told_by_table w (call.Run n (op.Flat (flat.Erode f b))) ps qs h = refl
told_by_table w (call.Run n (op.Flat (flat.Dilate f b))) ps qs h = refl
told_by_table w (call.Run n (op.Flat (flat.Opening f b))) ps qs h = refl
told_by_table w (call.Run n (op.Flat (flat.Closing f b))) ps qs h = refl
told_by_table w (call.Run n (op.Flat (flat.Gradient f b))) ps qs h = refl
told_by_table w (call.Run n (op.Flat (flat.WhiteTopHat f b))) ps qs h = refl
told_by_table w (call.Run n (op.Flat (flat.BlackTopHat f b))) ps qs h = refl
told_by_table w (call.Run n (op.Flat (flat.Rank f b k))) ps qs h = absurd cc
told_by_table w (call.Run n (op.Flat (flat.Threshold f k))) ps qs h = refl
told_by_table w (call.Run n (op.Flat (flat.HitMiss f hit miss))) ps qs h = absurd cc
told_by_table w (call.Run n (op.Gran (gran.Skeleton f b levels))) ps qs h = absurd cc
told_by_table w (call.Run n (op.Gran (gran.Restore f b levels))) ps qs h = refl
told_by_table w (call.Run n (op.Gran (gran.Spectrum f b levels))) ps qs h = refl
told_by_table w (call.Cancel n) ps qs h = refl
told_by_table w (call.Status n) ps qs h = refl
told_by_table w (call.Fetch n) ps qs h = refl
told_by_table w (call.Release n) ps qs h = refl

-- states with one table answer alike
pub same_reply : (a b : Machine) (c : Call) → a.table ≡ b.table → asks_offsets c ≡ false → reply_to a c ≡ reply_to b c
same_reply a b c e h = told_by_table a.table c a.payloads b.payloads h ∙ ap (λ w. reply_from w b.payloads c) e

pub same_answer : (a b : Machine) (c : Call) → a.table ≡ b.table → a.payloads ≡ b.payloads → reply_to a c ≡ reply_to b c
same_answer a b c e h = ap (λ w. reply_from w a.payloads c) e ∙ ap (λ ps. reply_from b.table ps c) h

-- ---- runs in two parts

pub run_join : (first second : List LogItem) (a b c : Machine) → Run a first b → Run b second c → Run a (first ++ second) c
run_join [] second a b c r s = let P : Machine → Type 0 = λ x. Run x second c in subst P r s
run_join (i ∷ first) second a b c r s = (r.0, r.1, run_join first second r.0 b c r.2 s)

pub run_split : (first second : List LogItem) (a c : Machine) → Run a (first ++ second) c → (b : Machine) × Run a first b × Run b second c
run_split [] second a c r = (a, refl, r)
run_split (i ∷ first) second a c r = let s = run_split first second r.0 c r.2 in (s.0, (r.0, r.1, s.1), s.2)
