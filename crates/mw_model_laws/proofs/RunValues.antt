-- How the values of tickets grow.
use Rattle.std.proofs.Common.{◌≡◌, ℕ, zero, suc, ◌+◌, ◌<◌, List, [], ◌∷◌, ◌++◌, length, map, Option, None, refl, sym, ap, ◌∙◌, subst, arith, length-append, add-zero, zero-add}
use Rattle.std.specs.List.{AllByRecursion}
use Rattle.std.proofs.lemmas.List.{get_or_append_left}
use Rattle.std.proofs.Math.Seq.{get_or-append_seam}
use Rattle.mw_model.specs.declared.operations.Op.{Op}
use Rattle.mw_model.specs.declared.submissions.Command.{Command}
use Rattle.mw_model.specs.declared.submissions.Command.TheVariants as command
use Rattle.mw_model.specs.declared.submissions.Submission.{Submission}
use Rattle.mw_model.specs.Values.{Value, tickets, value_at, value_of, values_after, result_of}
use Rattle.mw_model.specs.Refusals.{submission_at}
use Rattle.mw_model.specs.Machine.{Machine, values}
use Rattle.mw_model_laws.specs.MachineLaws.{inputs_at, IsSound}
use Rattle.mw_model.proofs.mw_facts.Alls.{all-weaker, map-same}

-- one entry more has its value at the end
pub values_push : (b : List (Option Value)) (es : List Submission) (ps : List (Option Value)) (e : Submission) (p : Option Value) → length ps ≡ length es
    → values_after b (es ++ e ∷ []) (ps ++ p ∷ []) ≡ values_after b es ps ++ value_of (values_after b es ps) (tickets e.inputs) e.command p ∷ []
values_push b [] [] e p h = refl
values_push b [] (q ∷ ps) e p h = absurd (omega arith)
values_push b (d ∷ es) [] e p h = absurd (omega arith)
values_push b (d ∷ es) (q ∷ ps) e p h = values_push (b ++ value_of b (tickets d.inputs) d.command q ∷ []) es ps e p (omega arith)

pub length_values : (b : List (Option Value)) (es : List Submission) (ps : List (Option Value)) → length ps ≡ length es → length (values_after b es ps) ≡ length b + length es
length_values b [] ps h = sym (add-zero (length b))
length_values b (d ∷ es) [] h = absurd (omega arith)
length_values b (d ∷ es) (q ∷ ps) h =
    let v = value_of b (tickets d.inputs) d.command q in
    omega (arith, length_values (b ++ v ∷ []) es ps (omega arith), length-append b (v ∷ []))

-- ---- the value of each entry

-- later entries change no value
pub values_front : (b : List (Option Value)) (es : List Submission) (ps : List (Option Value)) (t : ℕ) → t < length b → value_at (values_after b es ps) t ≡ value_at b t
values_front b [] ps t h = refl
values_front b (d ∷ es) [] t h = refl
values_front b (d ∷ es) (q ∷ ps) t h =
    let v = value_of b (tickets d.inputs) d.command q in
    let within : t < length (b ++ v ∷ []) = omega (arith, length-append b (v ∷ [])) in
    values_front (b ++ v ∷ []) es ps t within ∙ get_or_append_left b (v ∷ []) None t h

-- the value of a command is told by the values of all, since its inputs stand before it
pub value_same : (b v : List (Option Value)) (inputs : List ℕ) (k : Command) (p : Option Value)
    → ((t : ℕ) → t < length b → value_at v t ≡ value_at b t) → AllByRecursion (λ i. i < length b) inputs → value_of b inputs k p ≡ value_of v inputs k p
value_same b v inputs command.Given p h below = refl
value_same b v inputs (command.Run o) p h below =
    ap (result_of o) (map-same (value_at b) (value_at v) inputs (all-weaker (λ i. i < length b) (λ i. value_at b i ≡ value_at v i) inputs (λ i l. sym (h i l)) below))

-- each value is that of its entry on the values of its inputs
pub values_at : (b : List (Option Value)) (es : List Submission) (ps : List (Option Value)) (k : ℕ) → length ps ≡ length es → k < length es
    → AllByRecursion (λ i. i < length b + k) (tickets (submission_at es k).inputs)
    → value_at (values_after b es ps) (length b + k) ≡ value_of (values_after b es ps) (tickets (submission_at es k).inputs) (submission_at es k).command (value_at ps k)
values_at b [] ps k h within below = absurd (omega arith)
values_at b (d ∷ es) [] k h within below = absurd (omega arith)
values_at b (d ∷ es) (q ∷ ps) zero h within below =
    let v = value_of b (tickets d.inputs) d.command q in
    let V = values_after (b ++ v ∷ []) es ps in
    let in_front : length b < length (b ++ v ∷ []) = omega (arith, length-append b (v ∷ [])) in
    let here : value_at V (length b + 0) ≡ v = rw add-zero (values_front (b ++ v ∷ []) es ps (length b) in_front ∙ get_or-append_seam b v [] None) in
    let P : ℕ → Type 0 = λ n. AllByRecursion (λ i. i < n) (tickets d.inputs) in
    here ∙ value_same b V (tickets d.inputs) d.command q
    (λ t l. let l' : t < length (b ++ v ∷ []) = omega (arith, length-append b (v ∷ [])) in values_front (b ++ v ∷ []) es ps t l' ∙ get_or_append_left b (v ∷ []) None t l)
    (subst P (add-zero (length b)) below)
values_at b (d ∷ es) (q ∷ ps) (suc k) h within below =
    let v = value_of b (tickets d.inputs) d.command q in
    let there : length b + suc k ≡ length (b ++ v ∷ []) + k = omega (arith, length-append b (v ∷ [])) in
    let Q : ℕ → Type 0 = λ n. AllByRecursion (λ i. i < n) (tickets (submission_at es k).inputs) in
    let P : ℕ → Type 0 = λ n. value_at (values_after (b ++ v ∷ []) es ps) n ≡ value_of (values_after (b ++ v ∷ []) es ps) (tickets (submission_at es k).inputs) (submission_at es k).command (value_at ps k) in
    subst P (sym there) (values_at (b ++ v ∷ []) es ps k (omega arith) (omega arith) (subst Q there below))

-- the value of an entry, where its inputs stand before it
pub value_is : (es : List Submission) (ps : List (Option Value)) (t : ℕ) → length ps ≡ length es → t < length es → AllByRecursion (λ i. i < t) (inputs_at es t)
    → value_at (values_after [] es ps) t ≡ value_of (values_after [] es ps) (inputs_at es t) (submission_at es t).command (value_at ps t)
value_is es ps t h within below =
    let Q : ℕ → Type 0 = λ n. AllByRecursion (λ i. i < n) (inputs_at es t) in
    let P : ℕ → Type 0 = λ n. value_at (values_after [] es ps) n ≡ value_of (values_after [] es ps) (inputs_at es t) (submission_at es t).command (value_at ps t) in
    subst P (zero-add t) (values_at [] es ps t h within (subst Q (sym (zero-add t)) below))

-- the value of a given entry, and of a command
pub given_value : (m : Machine) (t : ℕ) → IsSound m → t < length m.table.names → (submission_at m.table.submissions t).command ≡ command.Given → value_at (values m) t ≡ value_at m.payloads t
given_value m t s h e =
    value_is m.table.submissions m.payloads t (s.lengths.payloads ∙ sym s.lengths.submissions) (omega (arith, s.lengths.submissions)) (s.inputs t h)
    ∙ ap (λ k. value_of (values m) (inputs_at m.table.submissions t) k (value_at m.payloads t)) e

pub command_value : (m : Machine) (t : ℕ) (o : Op) → IsSound m → t < length m.table.names → (submission_at m.table.submissions t).command ≡ command.Run o
    → value_at (values m) t ≡ result_of o (map (value_at (values m)) (inputs_at m.table.submissions t))
command_value m t o s h e =
    value_is m.table.submissions m.payloads t (s.lengths.payloads ∙ sym s.lengths.submissions) (omega (arith, s.lengths.submissions)) (s.inputs t h)
    ∙ ap (λ k. value_of (values m) (inputs_at m.table.submissions t) k (value_at m.payloads t)) e
