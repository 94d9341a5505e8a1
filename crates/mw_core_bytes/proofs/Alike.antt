-- A pending command is counted by the shapes and the elements under its names alone.
use Rattle.std.proofs.Common.{◌≡◌, ℕ, zero, suc, ◌+◌, ◌<◌, ◌≤◌, max, Bool, true, false, ◌⊎◌, inl, inr, List, [], ◌∷◌, ◌++◌, length, nat_eq, Option, Some, None, IsSome, refl, sym, ap, ◌∙◌, subst, arith}
use Rattle.std.specs.Prelude.{◌&&◌, option_map, option_and_then, slice_get}
use Rattle.std.specs.Option.{option_map_or}
use Rattle.std.specs.List.{AllByRecursion, list_any}
use Rattle.std.proofs.lemmas.Bool.{cases_Bool, eq-eqb, or_left, or_right}
use Rattle.mw_model.proofs.mw_facts.Finds.{option_cases}
use Rattle.mw_model.proofs.mw_facts.Tests.{list_any-range, none-not_some}
use Rattle.mw_model.specs.declared.names.Name.{Name}
use Rattle.mw_model.specs.declared.shapes.Shape.{Shape}
use Rattle.mw_model.specs.declared.operations.Op.{Op}
use Rattle.mw_model.specs.declared.operations.Op.TheVariants as op
use Rattle.mw_model.specs.declared.operations.FlatOp.TheVariants as flat
use Rattle.mw_model.specs.declared.operations.GranOp.TheVariants as gran
use Rattle.mw_model.specs.declared.submissions.Submission.{Submission}
use Rattle.mw_model.specs.declared.calls.Outcome.{Outcome}
use Rattle.mw_model.specs.declared.calls.Outcome.TheVariants as outcome
use Rattle.mw_model.specs.Elements.{Figure}
use Rattle.mw_model.specs.Values.{Value, ImageValue, ElementValue, CurveValue, option_list, tickets, value_at, shape_of_figure}
use Rattle.mw_model.specs.Refusals.{Table, Wanted, AnImage, AnElement, ticket_of, outcome_at, shape_at, is_pending, is_there, is_image, is_element, inputs_wanted}
use Rattle.mw_model.specs.Machine.{Machine, values, ticket_wanted, inputs_from}
use Rattle.mw_model.specs.Stands.{CoreView, Agrees, inputs_of, is_wanted}
use Rattle.mw_core.specs.mw_model_laws.MachineLaws.{IsSound, shape_of_value}
use Rattle.mw_core.specs.mw_plan.Tables.{figure_in}
use Rattle.mw_core.specs.Costs.{wanted_name, input_named, named_shape, figure_named, rows_of_element, turned_bytes, is_boxed_by, least_side, most_planes, plan_bytes, pending_bytes}
use Rattle.mw_core_bytes.proofs.Asked.{Known, IsAsked}

-- ---- a command by its parts

abbrev pub parts : ℕ → Op → Option Shape → Option Shape → Option Shape → Option Figure → Option Figure → ℕ
parts side o a b e f g =
    option_map_or (λ s. plan_bytes (most_planes o (is_boxed_by f)) s (least_side side) (max (rows_of_element b) (rows_of_element e))) a 0 + turned_bytes f + turned_bytes g + 256

-- under the names of a command two cores have the same
pub record Alike (c d : CoreView) (o : Op) : Type 0 where
  pub side : d.side ≡ c.side
  pub shapes : (k : ℕ) → named_shape d.table (input_named o k) ≡ named_shape c.table (input_named o k)
  pub figures : (k : ℕ) → figure_named d (input_named o k) ≡ figure_named c (input_named o k)

parts-same : (o : Op) (x y : ℕ) (a b e i j k : Option Shape) (f g p q : Option Figure) → x ≡ y → a ≡ i → b ≡ j → e ≡ k → f ≡ p → g ≡ q → parts x o a b e f g ≡ parts y o i j k p q
parts-same o x y a b e i j k f g p q s t u v w z = rw (s, t, u, v, w, z) refl

pub pending-alike : (c d : CoreView) (o : Op) → Alike c d o → pending_bytes d o ≡ pending_bytes c o
pending-alike c d o a =
    parts-same o d.side c.side (named_shape d.table (input_named o 0)) (named_shape d.table (input_named o 1)) (named_shape d.table (input_named o 2))
    (named_shape c.table (input_named o 0)) (named_shape c.table (input_named o 1)) (named_shape c.table (input_named o 2))
    (figure_named d (input_named o 1)) (figure_named d (input_named o 2)) (figure_named c (input_named o 1)) (figure_named c (input_named o 2))
    a.side (a.shapes 0) (a.shapes 1) (a.shapes 2) (a.figures 1) (a.figures 2)

-- ---- names in their places

by-wanted : {A : Type 0} (F G : Option Name → A) (xs : List Wanted) → F None ≡ G None → AllByRecursion (λ x. F (Some (wanted_name x)) ≡ G (Some (wanted_name x))) xs
    → (k : ℕ) → F (option_map wanted_name (slice_get xs k)) ≡ G (option_map wanted_name (slice_get xs k))
by-wanted F G [] none h zero = none
by-wanted F G [] none h (suc k) = none
by-wanted F G (x ∷ xs) none h zero = h.0
by-wanted F G (x ∷ xs) none h (suc k) = by-wanted F G xs none h.1 k

all-of : (w : Table) (P : Wanted → Type 0) (xs : List Wanted) → ((x : Wanted) → Known w x → P x) → AllByRecursion (Known w) xs → AllByRecursion P xs
all-of w P [] f h = tt
all-of w P (x ∷ xs) f h = (f x h.0, all-of w P xs f h.1)

pub shape-of : (w : Table) (n : Name) (i : ℕ) → ticket_of w.names n ≡ Some i → named_shape w (Some n) ≡ Some (shape_at w.submissions i)
shape-of w n i h = ap (λ (o : Option ℕ). option_map (shape_at w.submissions) o) h

pub figure-of : (c : CoreView) (n : Name) (i : ℕ) → ticket_of c.table.names n ≡ Some i → figure_named c (Some n) ≡ figure_in (value_at c.kept i)
figure-of c n i h = ap (λ (o : Option ℕ). option_and_then (λ t. figure_in (value_at c.kept t)) o) h

-- what holds of each name that is wanted makes two cores alike
pub alike : (c d : CoreView) (o : Op) → d.side ≡ c.side → AllByRecursion (Known c.table) (inputs_wanted o)
    → ((x : Wanted) → Known c.table x → named_shape d.table (Some (wanted_name x)) ≡ named_shape c.table (Some (wanted_name x)))
    → ((x : Wanted) → Known c.table x → figure_named d (Some (wanted_name x)) ≡ figure_named c (Some (wanted_name x))) → Alike c d o
alike c d o side known shapes figures = record {
  side = side;
  shapes = by-wanted (named_shape d.table) (named_shape c.table) (inputs_wanted o) refl (all-of c.table _ (inputs_wanted o) shapes known);
  figures = by-wanted (figure_named d) (figure_named c) (inputs_wanted o) refl (all-of c.table _ (inputs_wanted o) figures known);
}

-- ---- elements that are kept

image-figure : (v : Option Value) (s : Shape) → option_map shape_of_value v ≡ Some s → is_image s ≡ true → figure_in v ≡ None
image-figure None s h i = refl
image-figure (Some (ImageValue f)) s h i = refl
image-figure (Some (ElementValue b)) s h i =
    let e : shape_of_figure b ≡ s = cc in
    let f : false ≡ true = ap is_image e ∙ i in
    absurd cc
image-figure (Some (CurveValue v)) s h i = refl

-- under a name that is wanted, what is kept has the element of the value
pub figure-kept : (kept : List (Option Value)) (m : Machine) (x : Wanted) (k : Known m.table x) → IsSound m → Agrees kept m → (is_element (shape_at m.table.submissions k.place) ≡ true → IsSome (value_at kept k.place))
    → figure_in (value_at kept k.place) ≡ figure_in (value_at (values m) k.place)
figure-kept kept m (AnImage n) k s a held =
    let i = k.place in
    let none = image-figure (value_at (values m) i) (shape_at m.table.submissions i) (s.shapes i k.within) k.kind in
    elim (option_cases (value_at kept i)) [
      | inl gone ↦ ap figure_in gone ∙ sym none
      | inr is ↦ ap figure_in (is.1 ∙ sym (a.own i is.0 is.1))
    ]
figure-kept kept m (AnElement n) k s a held =
    let i = k.place in
    elim (option_cases (value_at kept i)) [
      | inl gone ↦ absurd (none-not_some (value_at kept i) gone (held k.kind))
      | inr is ↦ ap figure_in (is.1 ∙ sym (a.own i is.0 is.1))
    ]

-- an element is there
pub element-there : (m : Machine) (i : ℕ) → IsSound m → i < length m.table.names → is_element (shape_at m.table.submissions i) ≡ true → is_there (outcome_at m.table.outcomes i) ≡ true
element-there m i s l e = s.given i l (s.elements i l e)

pub there-cases : (o : Outcome) → is_there o ≡ true → (o ≡ outcome.Done) ⊎ (o ≡ outcome.Released)
there-cases outcome.Pending h = absurd cc
there-cases outcome.Done h = inl refl
there-cases outcome.Cancelled h = absurd cc
there-cases outcome.Memory h = absurd cc
there-cases (outcome.Input s) h = absurd cc
there-cases outcome.Released h = inr refl

-- it is kept where a pending entry has it as an input
pub element-kept : (kept : List (Option Value)) (m : Machine) (t i : ℕ) → IsSound m → Agrees kept m → t < length m.table.names → i < length m.table.names
    → is_pending (outcome_at m.table.outcomes t) ≡ true → list_any (nat_eq i) (inputs_of m.table t) ≡ true → is_element (shape_at m.table.submissions i) ≡ true → IsSome (value_at kept i)
element-kept kept m t i s a l within pending input e =
    let p : ℕ → Bool = λ u. is_pending (outcome_at m.table.outcomes u) && list_any (nat_eq i) (inputs_of m.table u) in
    let wanted : is_wanted m.table i ≡ true = list_any-range p 0 (length m.table.names) t (omega arith) (omega (arith, l)) (rw (pending, input) refl) in
    elim (there-cases (outcome_at m.table.outcomes i) (element-there m i s within e)) [ inl d ↦ a.done i within d | inr r ↦ (a.released i within r).1 wanted ]

-- ---- inputs

any-behind : (p : ℕ → Bool) (xs ys : List ℕ) → list_any p ys ≡ true → list_any p (xs ++ ys) ≡ true
any-behind p [] ys h = h
any-behind p (x ∷ xs) ys h = or_right (p x) (list_any p (xs ++ ys)) (any-behind p xs ys h)

any-before : (p : ℕ → Bool) (xs ys : List ℕ) → list_any p xs ≡ true → list_any p (xs ++ ys) ≡ true
any-before p [] ys h = absurd cc
any-before p (x ∷ xs) ys h = elim (cases_Bool (p x)) [
  | inl e ↦ or_left (p x) (list_any p (xs ++ ys)) e
  | inr e ↦ let more : list_any p xs ≡ true = rw e at h in or_right (p x) (list_any p (xs ++ ys)) (any-before p xs ys more)
]

any-here : (i : ℕ) (ys : List ℕ) → list_any (nat_eq i) (i ∷ ys) ≡ true
any-here i ys = or_left (nat_eq i i) (list_any (nat_eq i) ys) (eq-eqb i i refl)

-- the ticket of what is wanted is among the inputs
abbrev IsInput : Table → List ℕ → Wanted → Type 0
IsInput w inputs x = (i : ℕ) → ticket_wanted w x ≡ Some i → list_any (nat_eq i) inputs ≡ true

are-inputs : (w : Table) (xs : List Wanted) → length xs ≤ 3 → AllByRecursion (IsInput w (tickets (inputs_from w xs))) xs
are-inputs w [] few = tt
are-inputs w (a ∷ []) few = ((λ i h. rw h (any-here i [])), tt)
are-inputs w (a ∷ b ∷ []) few =
    let first = option_list (ticket_wanted w a) in
    let second = option_list (ticket_wanted w b) in (
      (λ i h. rw h (any-here i (second ++ []))),
      ((λ i h. any-before (nat_eq i) (first ++ second) [] (any-behind (nat_eq i) first second (rw h (any-here i [])))), tt),
    )
are-inputs w (a ∷ b ∷ c ∷ []) few =
    let first = option_list (ticket_wanted w a) in
    let second = option_list (ticket_wanted w b) in
    let third = option_list (ticket_wanted w c) in (
      (λ i h. rw h (any-here i (second ++ third))),
      (
        (λ i h. any-before (nat_eq i) (first ++ second) third (any-behind (nat_eq i) first second (rw h (any-here i [])))),
        ((λ i h. any-behind (nat_eq i) (first ++ second) third (rw h (any-here i []))), tt),
      ),
    )
are-inputs w (a ∷ b ∷ c ∷ d ∷ more) few = absurd (omega (arith, few))

few-inputs : (o : Op) → length (inputs_wanted o) ≤ 3
few-inputs (op.Flat (flat.Erode f b)) = omega arith
few-inputs (op.Flat (flat.Dilate f b)) = omega arith
few-inputs (op.Flat (flat.Opening f b)) = omega arith
few-inputs (op.Flat (flat.Closing f b)) = omega arith
few-inputs (op.Flat (flat.Gradient f b)) = omega arith
few-inputs (op.Flat (flat.WhiteTopHat f b)) = omega arith
few-inputs (op.Flat (flat.BlackTopHat f b)) = omega arith
few-inputs (op.Flat (flat.Rank f b k)) = omega arith
few-inputs (op.Flat (flat.Threshold f k)) = omega arith
few-inputs (op.Flat (flat.HitMiss f a b)) = omega arith
few-inputs (op.Gran (gran.Skeleton f b n)) = omega arith
few-inputs (op.Gran (gran.Restore f b n)) = omega arith
few-inputs (op.Gran (gran.Spectrum f b n)) = omega arith

pub place-of : (w : Table) (x : Wanted) (k : Known w x) → ticket_wanted w x ≡ Some k.place
place-of w (AnImage n) k = k.found
place-of w (AnElement n) k = k.found

-- ---- a command is counted by the values

-- a core that keeps the values of all tickets
abbrev pub full : ℕ → Machine → CoreView
full side m = record { table = m.table; kept = values m; work = []; log = []; side = side }

-- a core, where its table is that of this state
abbrev pub showing : CoreView → Machine → CoreView
showing c m = record c { table = m.table }

-- what is wanted is known, and kept where it is an element
abbrev pub IsHeld : List (Option Value) → Machine → Wanted → Type 0
IsHeld kept m x = (k : Known m.table x) × (is_element (shape_at m.table.submissions k.place) ≡ true → IsSome (value_at kept k.place))

each : (P Q : Wanted → Type 0) (xs : List Wanted) → ((x : Wanted) → P x → Q x) → AllByRecursion P xs → AllByRecursion Q xs
each P Q [] f h = tt
each P Q (x ∷ xs) f h = (f x h.0, each P Q xs f h.1)

-- of each wanted name both hold
pub both : (P Q R : Wanted → Type 0) (xs : List Wanted) → ((x : Wanted) → P x → Q x → R x) → AllByRecursion P xs → AllByRecursion Q xs → AllByRecursion R xs
both P Q R [] f h k = tt
both P Q R (x ∷ xs) f h k = (f x h.0 k.0, both P Q R xs f h.1 k.1)

pub pending-held : (c : CoreView) (m : Machine) (o : Op) → IsSound m → Agrees c.kept m → AllByRecursion (IsHeld c.kept m) (inputs_wanted o) → pending_bytes (showing c m) o ≡ pending_bytes (full c.side m) o
pending-held c m o s a held =
    let d = showing c m in
    let e = full c.side m in
    let Q : Wanted → Type 0 = λ x. figure_named d (Some (wanted_name x)) ≡ figure_named e (Some (wanted_name x)) in
    let one : (x : Wanted) → IsHeld c.kept m x → Q x
    = λ x h.
    let k = h.0 in
    figure-of d (wanted_name x) k.place k.found ∙ figure-kept c.kept m x k s a h.1 ∙ sym (figure-of e (wanted_name x) k.place k.found) in
    pending-alike e d o (record {
      side = refl;
      shapes = λ k. refl;
      figures = by-wanted (figure_named d) (figure_named e) (inputs_wanted o) refl (each (IsHeld c.kept m) Q (inputs_wanted o) one held);
    })

pub pending-full : (c : CoreView) (m : Machine) (t : ℕ) (o : Op) → IsSound m → Agrees c.kept m → t < length m.table.names → is_pending (outcome_at m.table.outcomes t) ≡ true → IsAsked m.table t o
    → pending_bytes (showing c m) o ≡ pending_bytes (full c.side m) o
pending-full c m t o s a l pending asked =
    let w = m.table in
    let inputs : inputs_of w t ≡ tickets (inputs_from w (inputs_wanted o)) = ap (λ (x : Submission). tickets x.inputs) asked.entry in
    let Has : List ℕ → Type 0 = λ l. AllByRecursion (IsInput w l) (inputs_wanted o) in
    let among = subst Has (sym inputs) (are-inputs w (inputs_wanted o) (few-inputs o)) in
    let one : (x : Wanted) → Known w x → IsInput w (inputs_of w t) x → IsHeld c.kept m x
    = λ x k h. (k, λ is. element-kept c.kept m t k.place s a l k.within pending (h k.place (place-of w x k)) is) in
    pending-held c m o s a (both (Known w) (IsInput w (inputs_of w t)) (IsHeld c.kept m) (inputs_wanted o) one asked.known among)
