-- The labels that the definition of components gives.
use Rattle.std.proofs.Common.{◌≡◌, ℕ, ◌+◌, ◌*◌, ◌/◌, ◌%◌, ◌<◌, ◌≤◌, true, List, length, get_or, refl, ap, sym, arith, ◌∙◌, inl, inr}
use Rattle.std.specs.Prelude.{◌↔◌, ◌==◌}
use Rattle.std.specs.List.{range_with_len}
use Rattle.std.proofs.lemmas.Bool.{cases_lt, cases_eq, and_from, eqb-true, eqb-false, eq-eqb}
use Rattle.std.proofs.lemmas.List.Sums.{length-filter, fails_before_first, passes_at_first}
use Rattle.std.proofs.lemmas.Nat.{mod-mul-add, div-mul-add}
use Rattle.mw_model.specs.declared.offsets.Offset.{Offset}
use Rattle.mw_model.specs.Pictures.{Picture, sample, IsSet}
use Rattle.mw_geodesic.specs.Neighbours.{IsPlace, IsSymmetric}
use Rattle.mw_geodesic.specs.Paths.{AreConnected}
use Rattle.mw_geodesic.specs.Components.{component, component_at, first_place, first_places}
use Rattle.mw_geodesic.specs.Labels.{label_at, IsLabelling}
use Rattle.mw_geodesic.proofs.Components.{one_component, own_component, leads_from, leads_back}
use Rattle.mw_geodesic.proofs.LargeComponents.{component_shape}
use Rattle.mw_geodesic_labels.proofs.Labellings.{in_frame, one_of}
use Rattle.mw_geodesic_labels.proofs.FirstPlaces.{place_at, at_number, sample_at_number, component_size, leads, is_first}
use Rattle.mw_geodesic_labels.proofs.CountedLabels.{labels_by, LeadsBack, no_label, some_label, same_label, same_lead, labels_rise, length-labels_by, greatest-labels_by}

-- ---- the first place of the component of a place

abbrev lead : List Offset → Picture → ℕ → ℕ
lead e f i = first_place (component_at e f i)

record Begins (e : List Offset) (f : Picture) (i : ℕ) : Type 0 where
  before : lead e f i ≤ i
  same : component_at e f (lead e f i) ≡ component_at e f i
  first : is_first e f (lead e f i) ≡ true

begins : (e : List Offset) (f : Picture) (i : ℕ) → IsSymmetric e → IsSet f → i < f.height * f.width → get_or f.samples i 0 ≡ 1 → Begins e f i
begins e f i turns is_set lt one =
    let w = f.width in
    let c = component_at e f i in
    let q = lead e f i in
    let place = place_at f i lt in
    let wide = (component_shape e f (i % w) (i / w)).width in
    let size = component_size e f (i % w) (i / w) in
    let own = own_component e f (i % w) (i / w) is_set place.column place.row (at_number w f.samples i ∙ one) in
    let before : q ≤ i = elim (cases_lt i q) [
      | inr le ↦ le
      | inl less ↦ absurd (eqb-false (get_or c.samples i 0) 1 (fails_before_first (λ s. s == 1) c.samples i 0 less) (sym (sample_at_number f c i wide) ∙ own))
    ] in
    let within : q < f.height * w = omega arith in
    let there = place_at f q within in
    let passes = eqb-true (get_or c.samples q 0) 1 (passes_at_first (λ s. s == 1) c.samples 0 (omega arith)) in
    let reached : sample c (q % w) (q / w) ≡ 1 = sample_at_number f c q wide ∙ passes in
    let from = leads_from e f (q % w) (q / w) (i % w) (i / w) ((leads e f (i % w) (i / w) (q % w) (q / w) is_set there).0 reached) in
    let some : sample f (q % w) (q / w) ≡ 1 = one_of f (q % w) (q / w) is_set there (λ none. absurd (omega (arith, from.1))) in
    let same : component_at e f q ≡ c = one_component e f (q % w) (q / w) (i % w) (i / w) turns is_set there.column there.row reached in
    record {
      before = before;
      same = same;
      first = and_from (get_or f.samples q 0 == 1) (lead e f q == q) (eq-eqb (get_or f.samples q 0) 1 (sym (at_number w f.samples q) ∙ some)) (eq-eqb (lead e f q) q (ap first_place same));
    }

firsts_lead_back : (e : List Offset) (f : Picture) → IsSymmetric e → IsSet f → LeadsBack (is_first e f) (lead e f) f.samples (f.height * f.width)
firsts_lead_back e f turns is_set = record {
  back = λ i lt one. (begins e f i turns is_set lt one).before;
  passes = λ i lt one. (begins e f i turns is_set lt one).first;
  test = λ i. refl;
}

-- ---- the labels

-- how many first places there are up to that of the place's component
abbrev pub defined_labels : List Offset → Picture → List ℕ
defined_labels e f = labels_by (is_first e f) (lead e f) f.samples (f.height * f.width)

component_here : (e : List Offset) (f : Picture) (x y : ℕ) → IsPlace f x y → component_at e f (y * f.width + x) ≡ component e f x y
component_here e f x y place =
    ap (λ (t : ℕ). component e f t ((y * f.width + x) / f.width)) (mod-mul-add y f.width x place.column) ∙ ap (component e f x) (div-mul-add y f.width x place.column)

end_in_set : (e : List Offset) (f : Picture) (x y u v : ℕ) → IsSymmetric e → IsSet f → IsPlace f u v → AreConnected e f x y u v → sample f u v ≡ 1
end_in_set e f x y u v turns is_set place way =
    let from = leads_from e f u v u v (leads_back e f u v u v x y turns way way) in
    one_of f u v is_set place (λ none. absurd (omega (arith, from.1)))

outside : (e : List Offset) (f : Picture) (x y : ℕ) → IsSymmetric e → IsSet f → IsPlace f x y → (label_at f (defined_labels e f) x y ≡ 0) ↔ (sample f x y ≡ 0)
outside e f x y turns is_set place =
    let i = y * f.width + x in
    let n = f.height * f.width in
    let lt = in_frame f x y place in (
      (λ none. elim (cases_eq (sample f x y) 0) [
        | inl out ↦ out
        | inr ne ↦
            let some = some_label (is_first e f) (lead e f) f.samples n i (firsts_lead_back e f turns is_set) lt (one_of f x y is_set place ne) in
            absurd (omega arith)
      ]),
      (λ none. no_label (is_first e f) (lead e f) f.samples n i lt (λ one. absurd (omega arith))),
    )

one_label : (e : List Offset) (f : Picture) (x y u v : ℕ) → IsSymmetric e → IsSet f → IsPlace f x y → IsPlace f u v → sample f x y ≡ 1
    → (label_at f (defined_labels e f) x y ≡ label_at f (defined_labels e f) u v) ↔ AreConnected e f x y u v
one_label e f x y u v turns is_set here there one =
    let T = is_first e f in
    let q = lead e f in
    let n = f.height * f.width in
    let i = y * f.width + x in
    let j = v * f.width + u in
    let lt = in_frame f x y here in
    let lt' = in_frame f u v there in
    let is = component_here e f x y here in
    let is' = component_here e f u v there in
    let inside = leads e f u v x y is_set here in
    let back = firsts_lead_back e f turns is_set in (
      (λ same.
          let some = some_label T q f.samples n i back lt one in
          let one' : sample f u v ≡ 1 = one_of f u v is_set there (λ none. let out = (outside e f u v turns is_set there).1 none in absurd (omega arith)) in
          let reached = same_lead T q f.samples n i j back lt lt' one one' same in
          let both : component e f x y ≡ component e f u v =
          sym is ∙ sym (begins e f i turns is_set lt one).same ∙ ap (component_at e f) reached ∙ (begins e f j turns is_set lt' one').same ∙ is' in
          inside.0 (ap (λ (t : Picture). sample t x y) (sym both) ∙ own_component e f x y is_set here.column here.row one)),
      (λ way.
          let one' = end_in_set e f x y u v turns is_set there way in
          let both = one_component e f x y u v turns is_set here.column here.row (inside.1 way) in
          same_label T q f.samples n i j lt lt' one one' (ap first_place (is ∙ both ∙ sym is'))),
    )

pub labels_defined : (e : List Offset) (f : Picture) → IsSymmetric e → IsSet f → IsLabelling e f (length (first_places e f)) (defined_labels e f)
labels_defined e f turns is_set =
    let T = is_first e f in
    let q = lead e f in
    let n = f.height * f.width in
    let back = firsts_lead_back e f turns is_set in
    let size = length-labels_by T q f.samples n in
    record {
      size = size;
      outside = λ x y place. outside e f x y turns is_set place;
      one = λ x y u v here there one. one_label e f x y u v turns is_set here there one;
      rises = λ i lt. labels_rise T q f.samples n i back (omega arith);
      counted = greatest-labels_by T q f.samples n back ∙ sym (length-filter T (range_with_len 0 n));
    }
