-- Lists of offsets as runs.
use Rattle.std.proofs.Common.{◌≡◌, ℕ, zero, suc, ◌+◌, ◌<◌, ℤ, pos, ◌+ℤ◌, List, [], ◌∷◌, ◌++◌, length, take, drop, get_or, map, flat_map, ap, sym, subst, inl, inr, arith, ◌∙◌, length-append, length-drop, zero-add}
use Rattle.std.specs.List.{range_with_len, AllByRecursion}
use Rattle.std.proofs.lemmas.Int.{ints}
use Rattle.std.proofs.lemmas.Bool.{cases_lt}
use Rattle.std.proofs.lemmas.List.{take_more, get_or_append_left, get_or-drop, append-nil}
use Rattle.std.proofs.lemmas.Grind.{flat_map-append}
use Rattle.std.proofs.Math.Seq.{take-add, get_or-append_seam}
use Rattle.mw_model.proofs.mw_facts.Alls.{all-push, all-weaker}
use Rattle.mw_model.proofs.mw_facts.Numbers.{add_one-add}
use Rattle.mw_model.specs.declared.offsets.Offset.{Offset}
use Rattle.mw_element_runs.specs.declared.runs.Run.{Run}
use Rattle.mw_element_runs.specs.declared.runs.Extent.{Extent}
use Rattle.mw_element_runs.specs.Runs.{run_offsets, offset_at, start_offset, Continues, AreLongest, RunIsInside, IsWider}

map-range_more : {B : Type 0} (f : ℕ → B) (a n : ℕ) → map f (range_with_len a (suc n)) ≡ map f (range_with_len a n) ++ f (a + n) ∷ []
map-range_more f a zero = ap (λ (t : ℕ). f t ∷ []) (same a)
  where
    same : (a : ℕ) → a ≡ a + 0
    same a = omega arith
map-range_more f a (suc n) =
    ap (λ (t : List _). f a ∷ t) (map-range_more f (a + 1) n) ∙ ap (λ (t : ℕ). f a ∷ (map f (range_with_len (a + 1) n) ++ f t ∷ [])) (add_one-add a n)

pub offset_is : (o : Offset) (dx dy : ℤ) → o.dx ≡ dx → o.dy ≡ dy → o ≡ record { dx = dx; dy = dy }
offset_is o dx dy dx-is dy-is = ap (λ (t : ℤ). let b : Offset = record { dx = t; dy = o.dy } in b) dx-is ∙ ap (λ (t : ℤ). let b : Offset = record { dx = dx; dy = t } in b) dy-is

-- one offset more in a run
pub run_more : (offsets : List Offset) (from count more : ℕ) (dx dy : ℤ) (d : Offset) → more ≡ count + 1 → from + count < length offsets → (get_or offsets (from + count) d).dx ≡ dx +ℤ pos count → (get_or offsets (from + count) d).dy ≡ dy
    → run_offsets (record { dx = dx; dy = dy; count = count }) ≡ take count (drop from offsets) → run_offsets (record { dx = dx; dy = dy; count = more }) ≡ take more (drop from offsets)
run_more offsets from count more dx dy d more-is lt dx-is dy-is so_far =
    let place = λ (i : ℕ). let b : Offset = record { dx = dx +ℤ pos i; dy = dy } in b in
    let up : more ≡ suc count = omega arith in
    ap (λ (t : ℕ). map place (range_with_len 0 t)) up
    ∙ map-range_more place 0 count
    ∙ ap (λ (t : ℕ). map place (range_with_len 0 count) ++ place t ∷ []) (zero-add count)
    ∙ ap (λ (t : List Offset). t ++ place count ∷ []) so_far
    ∙ ap (λ (t : Offset). take count (drop from offsets) ++ t ∷ []) (sym (get_or-drop from offsets count d ∙ offset_is (get_or offsets (from + count) d) (dx +ℤ pos count) dy dx-is dy-is))
    ∙ sym (take_more (drop from offsets) count d (omega (arith, length-drop from offsets)))
    ∙ ap (λ (t : ℕ). take t (drop from offsets)) (sym more-is)

-- one run more in a list
pub runs_more : (offsets : List Offset) (runs more : List Run) (run : Run) (at to : ℕ) → more ≡ runs ++ run ∷ [] → to ≡ at + run.count → run_offsets run ≡ take run.count (drop at offsets)
    → flat_map run_offsets runs ≡ take at offsets → flat_map run_offsets more ≡ take to offsets
runs_more offsets runs more run at to more-is to-is run-is so_far =
    ap (flat_map run_offsets) more-is
    ∙ flat_map-append run_offsets runs (run ∷ [])
    ∙ ap (λ (t : List Offset). t ++ (run_offsets run ++ [])) so_far
    ∙ ap (λ (t : List Offset). take at offsets ++ t) (append-nil (run_offsets run) ∙ run-is)
    ∙ sym (take-add at run.count offsets)
    ∙ ap (λ (t : ℕ). take t offsets) (sym to-is)

pub inside_wider : (e o : Extent) → IsWider e o → (r : Run) → RunIsInside o r → RunIsInside e r
inside_wider e o wider r inside = record {
  run = inside.run;
  left = omega (arith, ints, wider.left, inside.left);
  right = omega (arith, ints, wider.right, inside.right);
  top = omega (arith, ints, wider.top, inside.top);
  bottom = omega (arith, ints, wider.bottom, inside.bottom);
}

-- one run more that lies in an extent
pub inside_more : (e o : Extent) (runs : List Run) (i : ℕ) (d : Run) → i < length runs → IsWider e o → AllByRecursion (RunIsInside o) (take i runs) → RunIsInside e (get_or runs i d) → AllByRecursion (RunIsInside e) (take (i + 1) runs)
inside_more e o runs i d lt wider so_far here =
    rw (take_more runs i d lt) (all-push (RunIsInside e) (take i runs) (get_or runs i d) (all-weaker (RunIsInside o) (RunIsInside e) (take i runs) (inside_wider e o wider) so_far) here)

-- no run continues the one before it, also where the last one is new
pub longest_more : (offsets : List Offset) (runs more : List Run) (run : Run) (at to : ℕ) → more ≡ runs ++ run ∷ [] → to ≡ at + run.count → at < length offsets
    → offset_at offsets at ≡ start_offset run
    → AreLongest runs → ((k : ℕ) (r : Run) → k + 1 ≡ length runs → at < length offsets → Continues (get_or runs k r) (offset_at offsets at) → ⊥)
    → AreLongest more
longest_more offsets runs more run at to more-is to-is lt first so_far last =
    subst AreLongest (sym more-is)
    (λ k r less onward.
    elim (cases_lt (k + 1) (length runs)) [
      | inl inside ↦
          let one : get_or (runs ++ run ∷ []) k r ≡ get_or runs k r = get_or_append_left runs (run ∷ []) r k (omega arith) in
          let next : get_or (runs ++ run ∷ []) (k + 1) r ≡ get_or runs (k + 1) r = get_or_append_left runs (run ∷ []) r (k + 1) inside in
          so_far k r inside (subst (λ (s : Run). Continues s (start_offset (get_or runs (k + 1) r))) one (subst (λ (s : Run). Continues (get_or (runs ++ run ∷ []) k r) (start_offset s)) next onward))
      | inr past ↦
          let end : k + 1 ≡ length runs = omega (arith, length-append runs (run ∷ []), less) in
          let one : get_or (runs ++ run ∷ []) k r ≡ get_or runs k r = get_or_append_left runs (run ∷ []) r k (omega arith) in
          let next : get_or (runs ++ run ∷ []) (k + 1) r ≡ run = ap (λ (t : ℕ). get_or (runs ++ run ∷ []) t r) end ∙ get_or-append_seam runs run [] r in
          last k r end lt
          (subst (Continues (get_or runs k r)) (sym first)
          (subst (λ (s : Run). Continues s (start_offset run)) one (subst (λ (s : Run). Continues (get_or (runs ++ run ∷ []) k r) (start_offset s)) next onward)))
    ])

-- the offset after the last run does not continue it
pub last_more : (offsets : List Offset) (runs more : List Run) (run : Run) (at to : ℕ) → more ≡ runs ++ run ∷ [] → to ≡ at + run.count
    → (at + run.count < length offsets → Continues run (offset_at offsets (at + run.count)) → ⊥)
    → (k : ℕ) (r : Run) → k + 1 ≡ length more → to < length offsets → Continues (get_or more k r) (offset_at offsets to) → ⊥
last_more offsets runs more run at to more-is to-is whole k r end lt onward =
    let place : k ≡ length runs = omega (arith, ap length more-is, length-append runs (run ∷ [])) in
    let one : get_or more k r ≡ run = ap (λ (t : List Run). get_or t k r) more-is ∙ ap (λ (t : ℕ). get_or (runs ++ run ∷ []) t r) place ∙ get_or-append_seam runs run [] r in
    whole (omega arith) (subst (λ (t : ℕ). Continues run (offset_at offsets t)) to-is (subst (λ (s : Run). Continues s (offset_at offsets to)) one onward))
