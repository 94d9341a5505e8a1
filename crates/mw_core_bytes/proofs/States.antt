-- What the entries of a state are counted as, and that it never grows while the machine goes on.
use Rattle.std.proofs.Common.{◌≡◌, ℕ, ◌+◌, ◌<◌, ◌≤◌, Bool, true, false, ◌⊎◌, inl, inr, length, max, Option, Some, None, refl, sym, ap, ◌∙◌, subst, arith}
use Rattle.std.specs.Prelude.{◌↔◌, is_some, if◌then◌else◌}
use Rattle.std.specs.Option.{option_map_or}
use Rattle.std.specs.List.{AllByRecursion}
use Rattle.mw_model.specs.declared.names.Name.{Name}
use Rattle.mw_model.specs.declared.shapes.Shape.{Shape}
use Rattle.mw_model.specs.declared.operations.Op.{Op}
use Rattle.mw_model.specs.declared.operations.Op.TheVariants as op
use Rattle.mw_model.specs.declared.operations.FlatOp.TheVariants as flat
use Rattle.mw_model.specs.declared.operations.GranOp.TheVariants as gran
use Rattle.mw_model.specs.declared.submissions.Command.{Command}
use Rattle.mw_model.specs.declared.submissions.Command.TheVariants as command
use Rattle.mw_model.specs.declared.submissions.Submission.{Submission}
use Rattle.mw_model.specs.declared.calls.Outcome.{Outcome}
use Rattle.mw_model.specs.declared.calls.Outcome.TheVariants as outcome
use Rattle.mw_model.specs.Values.{Value, value_at}
use Rattle.mw_model.specs.Refusals.{Table, AnImage, submission_at, outcome_at, shape_at, is_pending, is_there, is_image, inputs_wanted}
use Rattle.mw_model.specs.Machine.{Machine, values, shape_named, shape_of_result}
use Rattle.mw_model.specs.Stands.{CoreView, Agrees, is_wanted}
use Rattle.mw_core.specs.mw_model_laws.MachineLaws.{IsSound, GrowsTo, MayBecome}
use Rattle.mw_core.proofs.mw_core_laws.Later.{goes-on}
use Rattle.mw_core.specs.mw_store.Entries.{op_of}
use Rattle.mw_core.specs.Costs.{input_named, wanted_name, named_shape, figure_named, rows_of_element, rows_of_named, turned_bytes, is_boxed_by, least_side, most_planes, plan_bytes, ends_by_extremum, pending_bytes, result_beyond, shaped_bytes, entry_bytes}
use Rattle.mw_core.specs.mw_plan.Tables.{figure_in}
use Rattle.mw_core_bytes.proofs.Asked.{Known, AreAsked, tables-grown, shape-at}
use Rattle.mw_core_bytes.proofs.Planes.{result_shape, result-within}
use Rattle.mw_core_bytes.proofs.Alike.{Alike, alike, pending-alike, pending-full, shape-of, figure-of, full, showing}

-- what an entry is counted as, by how it stands, and whether it is wanted
abbrev pub counted : Outcome → Bool → ℕ → ℕ → ℕ
counted outcome.Pending w run value = run
counted outcome.Done w run value = value
counted outcome.Released w run value = if w then value else 0
counted outcome.Cancelled w run value = 0
counted outcome.Memory w run value = 0
counted (outcome.Input s) w run value = 0

-- an entry's command, while it is pending
abbrev pub run_part : ℕ → Machine → ℕ → ℕ
run_part side m t = option_map_or (pending_bytes (full side m)) (op_of (submission_at m.table.submissions t).command) 0

-- its value
abbrev pub value_part : ℕ → Machine → ℕ → ℕ
value_part side m t =
    shaped_bytes (shape_at m.table.submissions t) (value_at (values m) t) (least_side side) (result_beyond m.table (op_of (submission_at m.table.submissions t).command))

-- what the entry is counted as in this state
abbrev pub state_entry : ℕ → Machine → ℕ → ℕ
state_entry side m t = counted (outcome_at m.table.outcomes t) (is_wanted m.table t) (run_part side m t) (value_part side m t)

-- ---- commands

command-cases : (k : Command) → (op_of k ≡ None) ⊎ ((o : Op) × (k ≡ command.Run o))
command-cases command.Given = inl refl
command-cases (command.Run o) = inr (o, refl)

-- ---- a core that stands for the state counts it so

by-flag : (b w : Bool) (x v : ℕ) → b ≡ w → (b ≡ true → x ≡ v) → (if b then x else 0) ≡ (if w then v else 0)
by-flag true true x v e f = f refl
by-flag false false x v e f = refl
by-flag true false x v e f = absurd cc
by-flag false true x v e f = absurd cc

by-outcome : (o : Outcome) (b w : Bool) (a x run value : ℕ) → (o ≡ outcome.Pending → a ≡ run) → (o ≡ outcome.Done → b ≡ true) → (o ≡ outcome.Released → b ≡ w) → (is_there o ≡ false → b ≡ false) → (b ≡ true → x ≡ value)
    → (if is_pending o then a else (if b then x else 0)) ≡ counted o w run value
by-outcome outcome.Pending b w a x run value pending done released gone same = pending refl
by-outcome outcome.Done b w a x run value pending done released gone same = by-flag b true x value (done refl) same
by-outcome outcome.Released b w a x run value pending done released gone same = by-flag b w x value (released refl) same
by-outcome outcome.Cancelled b w a x run value pending done released gone same = by-flag b false x 0 (gone refl) (λ e. let f : false ≡ true = sym (gone refl) ∙ e in absurd cc)
by-outcome outcome.Memory b w a x run value pending done released gone same = by-flag b false x 0 (gone refl) (λ e. let f : false ≡ true = sym (gone refl) ∙ e in absurd cc)
by-outcome (outcome.Input s) b w a x run value pending done released gone same = by-flag b false x 0 (gone refl) (λ e. let f : false ≡ true = sym (gone refl) ∙ e in absurd cc)

flag-same : (b w : Bool) → (b ≡ true ↔ w ≡ true) → b ≡ w
flag-same true w f = sym (f.0 refl)
flag-same false true f = f.1 refl
flag-same false false f = refl

not-kept : (o : Option Value) → ((v : Value) → o ≡ Some v → ⊥) → is_some o ≡ false
not-kept None f = refl
not-kept (Some v) f = absurd (f v refl)

runs-same : (k : Command) (f g : Op → ℕ) → ((o : Op) → k ≡ command.Run o → f o ≡ g o) → option_map_or f (op_of k) 0 ≡ option_map_or g (op_of k) 0
runs-same command.Given f g h = refl
runs-same (command.Run o) f g h = h o refl

some-value : (o p : Option Value) → is_some o ≡ true → ((v : Value) → o ≡ Some v → p ≡ Some v) → o ≡ p
some-value None p some own = absurd cc
some-value (Some v) p some own = sym (own v refl)

pub entry-shown : (c : CoreView) (m : Machine) (t : ℕ) → IsSound m → AreAsked m.table → Agrees c.kept m → t < length m.table.names → entry_bytes (showing c m) t ≡ state_entry c.side m t
entry-shown c m t s asked a l =
    let o = outcome_at m.table.outcomes t in
    let k = (submission_at m.table.submissions t).command in
    let d = showing c m in
    let size : Option Value → ℕ = λ v. shaped_bytes (shape_at m.table.submissions t) v (least_side c.side) (result_beyond m.table (op_of k)) in
    by-outcome o (is_some (value_at c.kept t)) (is_wanted m.table t) (option_map_or (pending_bytes d) (op_of k) 0) (size (value_at c.kept t)) (run_part c.side m t) (value_part c.side m t)
    (λ pending. runs-same k (pending_bytes d) (pending_bytes (full c.side m)) (λ q is. pending-full c m t q s a l (ap is_pending pending) (asked t q l is)))
    (λ done. a.done t l done)
    (λ released. flag-same (is_some (value_at c.kept t)) (is_wanted m.table t) (a.released t l released))
    (λ gone. not-kept (value_at c.kept t) (λ v is. let there = a.there t v is in let clash : false ≡ true = sym gone ∙ there in absurd cc))
    (λ some. ap size (some-value (value_at c.kept t) (value_at (values m) t) some (λ v is. a.own t v is)))

-- ---- a value takes no more than its command

-- The image that an operation wants, and the shape of the result.
record First (w : Table) (o : Op) : Type 0 where
  image : Shape
  is : is_image image ≡ true
  named : named_shape w (input_named o 0) ≡ Some image
  result : shape_of_result w o ≡ result_shape o image

first-at : (w : Table) (o : Op) (f : Name) (k : Known w (AnImage f)) → input_named o 0 ≡ Some f → shape_of_result w o ≡ result_shape o (shape_named w f) → First w o
first-at w o f k name result = record {
  image = shape_at w.submissions k.place;
  is = k.kind;
  named = ap (named_shape w) name ∙ shape-of w f k.place k.found;
  result = result ∙ ap (result_shape o) (shape-at w f k.place k.found);
}

first-known : (w : Table) (o : Op) → AllByRecursion (Known w) (inputs_wanted o) → First w o
first-known w (op.Flat (flat.Erode f b)) h = first-at w (op.Flat (flat.Erode f b)) f h.0 refl refl
first-known w (op.Flat (flat.Dilate f b)) h = first-at w (op.Flat (flat.Dilate f b)) f h.0 refl refl
first-known w (op.Flat (flat.Opening f b)) h = first-at w (op.Flat (flat.Opening f b)) f h.0 refl refl
first-known w (op.Flat (flat.Closing f b)) h = first-at w (op.Flat (flat.Closing f b)) f h.0 refl refl
first-known w (op.Flat (flat.Gradient f b)) h = first-at w (op.Flat (flat.Gradient f b)) f h.0 refl refl
first-known w (op.Flat (flat.WhiteTopHat f b)) h = first-at w (op.Flat (flat.WhiteTopHat f b)) f h.0 refl refl
first-known w (op.Flat (flat.BlackTopHat f b)) h = first-at w (op.Flat (flat.BlackTopHat f b)) f h.0 refl refl
first-known w (op.Flat (flat.Rank f b k)) h = first-at w (op.Flat (flat.Rank f b k)) f h.0 refl refl
first-known w (op.Flat (flat.Threshold f k)) h = first-at w (op.Flat (flat.Threshold f k)) f h.0 refl refl
first-known w (op.Flat (flat.HitMiss f a b)) h = first-at w (op.Flat (flat.HitMiss f a b)) f h.0 refl refl
first-known w (op.Gran (gran.Skeleton f b n)) h = first-at w (op.Gran (gran.Skeleton f b n)) f h.0 refl refl
first-known w (op.Gran (gran.Restore f b n)) h = first-at w (op.Gran (gran.Restore f b n)) f h.0 refl refl
first-known w (op.Gran (gran.Spectrum f b n)) h = first-at w (op.Gran (gran.Spectrum f b n)) f h.0 refl refl

with-item : (x p f g : ℕ) → x ≤ p → x + 128 ≤ p + f + g + 256
with-item x p f g le = omega (arith, le)

-- the result of an operation, and an item of the log
result-less : (side : ℕ) (m : Machine) (o : Op) (v : Option Value) → AllByRecursion (Known m.table) (inputs_wanted o)
    → shaped_bytes (shape_of_result m.table o) v (least_side side) (result_beyond m.table (Some o)) + 128 ≤ pending_bytes (full side m) o
result-less side m o v known =
    let w = m.table in
    let c = full side m in
    let first = first-known w o known in
    let rows = rows_of_named w (input_named o 1) in
    let more = rows_of_named w (input_named o 2) in
    let boxed = is_boxed_by (figure_named c (input_named o 1)) in
    let plan : Shape → ℕ = λ x. plan_bytes (most_planes o boxed) x (least_side side) (max rows more) in
    let f = turned_bytes (figure_named c (input_named o 1)) in
    let g = turned_bytes (figure_named c (input_named o 2)) in
    let value : Shape → ℕ = λ x. shaped_bytes x v (least_side side) (result_beyond w (Some o)) in
    let within : value (result_shape o first.image) ≤ plan first.image = result-within o first.image (least_side side) rows more boxed v first.is in
    let all : value (result_shape o first.image) + 128 ≤ plan first.image + f + g + 256 = with-item (value (result_shape o first.image)) (plan first.image) f g within in
    let Of : Shape → Type 0 = λ x. value x + 128 ≤ plan first.image + f + g + 256 in
    let On : Option Shape → Type 0 = λ x. value (shape_of_result w o) + 128 ≤ option_map_or plan x 0 + f + g + 256 in
    subst On (sym first.named) (subst Of (sym first.result) all)

pub value-less : (side : ℕ) (m : Machine) (t : ℕ) → IsSound m → AreAsked m.table → t < length m.table.names → outcome_at m.table.outcomes t ≡ outcome.Pending → value_part side m t + 128 ≤ run_part side m t
value-less side m t s asked l pending =
    let e = submission_at m.table.submissions t in
    elim (command-cases e.command) [
      | inl given ↦
          let none : e.command ≡ command.Given = given-command e.command given in
          let there : is_there (outcome_at m.table.outcomes t) ≡ true = s.given t l none in
          let clash : false ≡ true = ap is_there (sym pending) ∙ there in
          absurd cc
      | inr run ↦
          let a = asked t run.0 l run.1 in
          let P : Submission → Type 0 = λ x. shaped_bytes x.shape (value_at (values m) t) (least_side side) (result_beyond m.table (op_of x.command)) + 128 ≤ option_map_or (pending_bytes (full side m)) (op_of x.command) 0 in
          subst P (sym a.entry) (result-less side m run.0 (value_at (values m) t) a.known)
    ]
  where
    given-command : (k : Command) → op_of k ≡ None → k ≡ command.Given
    given-command command.Given h = refl
    given-command (command.Run o) h = absurd cc

-- ---- the machine goes on

pub goes-alike : (side : ℕ) (m n : Machine) (o : Op) → IsSound m → GrowsTo m n → AllByRecursion (Known m.table) (inputs_wanted o) → Alike (full side m) (full side n) o
goes-alike side m n o s grows known =
    let g = tables-grown m n s grows in
    alike (full side m) (full side n) o refl known
    (λ x k. shape-of n.table (wanted_name x) k.place (g.names (wanted_name x) k.place k.found) ∙ ap (λ (e : Submission). Some e.shape) (g.entries k.place k.within) ∙ sym (shape-of m.table (wanted_name x) k.place k.found))
    (λ x k.
    figure-of (full side n) (wanted_name x) k.place (g.names (wanted_name x) k.place k.found)
    ∙ ap figure_in (goes-on m n k.place s grows k.within).value
    ∙ sym (figure-of (full side m) (wanted_name x) k.place k.found))

run-goes-on : (side : ℕ) (m n : Machine) (t : ℕ) → IsSound m → AreAsked m.table → GrowsTo m n → t < length m.table.names → run_part side n t ≡ run_part side m t
run-goes-on side m n t s asked grows l =
    let g = tables-grown m n s grows in
    let k = (submission_at m.table.submissions t).command in
    ap (λ (e : Submission). option_map_or (pending_bytes (full side n)) (op_of e.command) 0) (g.entries t l)
    ∙ runs-same k (pending_bytes (full side n)) (pending_bytes (full side m)) (λ o is. pending-alike (full side m) (full side n) o (goes-alike side m n o s grows (asked t o l is).known))

beyond-same : (w v : Table) (k : Command) → ((o : Op) → k ≡ command.Run o → rows_of_named v (input_named o 1) ≡ rows_of_named w (input_named o 1)) → result_beyond v (op_of k) ≡ result_beyond w (op_of k)
beyond-same w v command.Given h = refl
beyond-same w v (command.Run o) h = ap (λ (rows : ℕ). if ends_by_extremum o then rows else 0) (h o refl)

value-goes-on : (side : ℕ) (m n : Machine) (t : ℕ) → IsSound m → AreAsked m.table → GrowsTo m n → t < length m.table.names → value_part side n t ≡ value_part side m t
value-goes-on side m n t s asked grows l =
    let g = tables-grown m n s grows in
    let e = submission_at m.table.submissions t in
    ap (λ (x : Submission). shaped_bytes x.shape (value_at (values n) t) (least_side side) (result_beyond n.table (op_of x.command))) (g.entries t l)
    ∙ ap (λ (v : Option Value). shaped_bytes e.shape v (least_side side) (result_beyond n.table (op_of e.command))) (goes-on m n t s grows l).value
    ∙ ap (λ (rows : ℕ). shaped_bytes e.shape (value_at (values m) t) (least_side side) rows)
    (beyond-same m.table n.table e.command (λ o is. ap rows_of_element ((goes-alike side m n o s grows (asked t o l is).known).shapes 1)))

-- ---- how an entry stands may change

flag-less : (w x : Bool) (value : ℕ) → (w ≡ true → x ≡ true) → (if w then value else 0) ≤ (if x then value else 0)
flag-less true true value f = omega arith
flag-less false true value f = omega arith
flag-less false false value f = omega arith
flag-less true false value f = let e : false ≡ true = f refl in absurd cc

flag-most : (w : Bool) (value : ℕ) → (if w then value else 0) ≤ value
flag-most true value = omega arith
flag-most false value = omega arith

counted-same : (o : Outcome) (w x : Bool) (run value : ℕ) → (o ≡ outcome.Released → w ≡ true → x ≡ true) → counted o w run value ≤ counted o x run value
counted-same outcome.Pending w x run value f = omega arith
counted-same outcome.Done w x run value f = omega arith
counted-same outcome.Released w x run value f = flag-less w x value (f refl)
counted-same outcome.Cancelled w x run value f = omega arith
counted-same outcome.Memory w x run value f = omega arith
counted-same (outcome.Input s) w x run value f = omega arith

-- what was pending and is so no more gives an item of the log away
counted-settled : (o : Outcome) (w : Bool) (run value : ℕ) → is_pending o ≡ false → value + 128 ≤ run → counted o w run value + 128 ≤ run
counted-settled outcome.Pending w run value e h = absurd cc
counted-settled outcome.Done w run value e h = h
counted-settled outcome.Released w run value e h = omega (arith, flag-most w value, h)
counted-settled outcome.Cancelled w run value e h = omega (arith, h)
counted-settled outcome.Memory w run value e h = omega (arith, h)
counted-settled (outcome.Input s) w run value e h = omega (arith, h)

counted-pending : (o : Outcome) (w : Bool) (run value : ℕ) → value + 128 ≤ run → counted o w run value ≤ run
counted-pending outcome.Pending w run value h = omega arith
counted-pending outcome.Done w run value h = omega (arith, h)
counted-pending outcome.Released w run value h = omega (arith, flag-most w value, h)
counted-pending outcome.Cancelled w run value h = omega (arith, h)
counted-pending outcome.Memory w run value h = omega (arith, h)
counted-pending (outcome.Input s) w run value h = omega (arith, h)

-- a released entry is not wanted anew
abbrev pub NoneWantedAnew : Machine → Machine → Type 0
NoneWantedAnew m n = (t : ℕ) → t < length m.table.names → outcome_at m.table.outcomes t ≡ outcome.Released → is_wanted n.table t ≡ true → is_wanted m.table t ≡ true

counted-becomes : (o p : Outcome) (w x : Bool) (run value : ℕ) → MayBecome o p → (o ≡ outcome.Pending → value + 128 ≤ run) → (o ≡ outcome.Released → w ≡ true → x ≡ true) → counted p w run value ≤ counted o x run value
counted-becomes o p w x run value may less wanted = elim may [
  | inl same ↦ let P : Outcome → Type 0 = λ q. counted q w run value ≤ counted o x run value in subst P (sym same) (counted-same o w x run value wanted)
  | inr other ↦ elim other [
    | inl pending ↦
        let P : Outcome → Type 0 = λ q. counted p w run value ≤ counted q x run value in
        subst P (sym pending) (counted-pending p w run value (less pending))
    | inr done ↦
        let P : Outcome → Outcome → Type 0 = λ q r. counted q w run value ≤ counted r x run value in
        let Q : Outcome → Type 0 = λ q. counted q w run value ≤ counted o x run value in
        let R : Outcome → Type 0 = λ r. (if w then value else 0) ≤ counted r x run value in
        subst Q (sym done.1) (subst R (sym done.0) (flag-most w value))
  ]
]

pub entry-falls : (side : ℕ) (m n : Machine) (t : ℕ) → IsSound m → AreAsked m.table → GrowsTo m n → NoneWantedAnew m n → t < length m.table.names → state_entry side n t ≤ state_entry side m t
entry-falls side m n t s asked grows none l =
    let o = outcome_at m.table.outcomes t in
    let p = outcome_at n.table.outcomes t in
    let w = is_wanted n.table t in
    let x = is_wanted m.table t in
    let less = counted-becomes o p w x (run_part side m t) (value_part side m t) (grows.outcomes t l) (λ pending. value-less side m t s asked l pending) (none t l) in
    let run = run-goes-on side m n t s asked grows l in
    let value = value-goes-on side m n t s asked grows l in
    let P : ℕ → Type 0 = λ a. counted p w a (value_part side n t) ≤ state_entry side m t in
    let Q : ℕ → Type 0 = λ b. counted p w (run_part side m t) b ≤ state_entry side m t in
    subst P (sym run) (subst Q (sym value) less)

pub entry-settles : (side : ℕ) (m n : Machine) (t : ℕ) → IsSound m → AreAsked m.table → GrowsTo m n → t < length m.table.names → outcome_at m.table.outcomes t ≡ outcome.Pending → is_pending (outcome_at n.table.outcomes t) ≡ false → state_entry side n t + 128 ≤ state_entry side m t
entry-settles side m n t s asked grows l pending settles =
    let p = outcome_at n.table.outcomes t in
    let w = is_wanted n.table t in
    let x = is_wanted m.table t in
    let less = counted-settled p w (run_part side m t) (value_part side m t) settles (value-less side m t s asked l pending) in
    let run = run-goes-on side m n t s asked grows l in
    let value = value-goes-on side m n t s asked grows l in
    let P : ℕ → Type 0 = λ a. counted p w a (value_part side n t) + 128 ≤ run_part side m t in
    let Q : ℕ → Type 0 = λ b. counted p w (run_part side m t) b + 128 ≤ run_part side m t in
    let R : Outcome → Type 0 = λ q. counted p w (run_part side n t) (value_part side n t) + 128 ≤ counted q x (run_part side m t) (value_part side m t) in
    subst R (sym pending) (subst P (sym run) (subst Q (sym value) less))
