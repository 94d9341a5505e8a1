-- Regional maxima by paths.
use Rattle.std.proofs.Common.{◌≡◌, ℕ, ◌-◌, ◌<◌, ◌≤◌, List, refl, arith, ◌∙◌, inl, inr}
use Rattle.std.specs.Prelude.{◌↔◌, nat_le, if◌then◌else◌}
use Rattle.std.proofs.lemmas.Bool.{cases_lt, le-leb, lt-leb}
use Rattle.mw_model.specs.declared.shapes.Kind.TheVariants.{Bit}
use Rattle.mw_model.specs.declared.offsets.Offset.{Offset}
use Rattle.mw_model.specs.Pictures.{Picture, sample}
use Rattle.mw_model.specs.Flat.{minus}
use Rattle.mw_model.proofs.ImagePlaces.{sample-drawn, sample-redrawn}
use Rattle.mw_geodesic.specs.Extrema.{lowered_by, h_maxima, regional_maxima}
use Rattle.mw_geodesic.specs.Paths.{Joined}
use Rattle.mw_geodesic.proofs.Components.{by_paths}

-- what is over the cut is at least 1
over : (e : List Offset) (f : Picture) (x y : ℕ) → x < f.width → y < f.height
    → (sample (regional_maxima e f) x y ≡ 1) ↔ (1 ≤ sample f x y - sample (h_maxima e 1 f) x y)
over e f x y p q =
    let g = h_maxima e 1 f in
    let d = minus f g in
    let less = sample-redrawn f (λ x y. sample f x y - sample g x y) x y p q in
    let is = sample-drawn Bit d.width d.height 1 (λ x y. if nat_le 1 (sample d x y) then 1 else 0) x y p q in (
      (λ one. elim (cases_lt (sample d x y) 1) [
        | inr high ↦ omega arith
        | inl low ↦
            let none : sample (regional_maxima e f) x y ≡ 0 = is ∙ rw (lt-leb 1 (sample d x y) low) refl in
            absurd (omega arith)
      ]),
      (λ high. is ∙ rw (le-leb 1 (sample d x y) (omega arith)) refl),
    )

-- A place is in a regional maximum exactly where it is over 0, and no path at its level leads to one that is higher.
pub maxima_by_paths : (e : List Offset) (f : Picture) (x y : ℕ) → x < f.width → y < f.height
    → (sample (regional_maxima e f) x y ≡ 1) ↔ ((1 ≤ sample f x y) × (Joined e f (lowered_by 1 f) (sample f x y) x y → ⊥))
maxima_by_paths e f x y p q =
    let both = over e f x y p q in (
      (λ one.
          let high = both.0 one in (
            omega arith,
            λ path.
                let reached = (by_paths e f (lowered_by 1 f) (sample f x y) x y p q (omega arith)).1 path in
                absurd (omega arith),
          )),
      (λ lone. elim (cases_lt (sample (h_maxima e 1 f) x y) (sample f x y)) [
        | inl under ↦ both.1 (omega arith)
        | inr reached ↦ absurd (lone.1 ((by_paths e f (lowered_by 1 f) (sample f x y) x y p q lone.0).0 reached))
      ]),
    )
