-- An image that is drawn anew, one sample after the other.
use Rattle.std.proofs.Common.{◌≡◌, ℕ, ◌+◌, ◌<◌, ◌≤◌, refl, sym, subst, arith, ◌∙◌, inl, inr}
use Rattle.std.proofs.lemmas.Bool.{cases_lt}
use Rattle.mw_model.specs.Pictures.{Picture, sample, redrawn, IsPicture}
use Rattle.mw_model.specs.Laws.{SameShape}
use Rattle.mw_model.proofs.ImagePlaces.{sample-redrawn, same_picture, length-rows}
use Rattle.mw_geodesic.specs.Floods.{with_sample}
use Rattle.mw_geodesic.proofs.Raised.{set_same, set_other, set_picture}

-- the rows before row y are drawn, and of it the places before column x
pub record IsDrawnTo (value : ℕ → ℕ → ℕ) (f g : Picture) (y x : ℕ) : Type 0 where
  pub shape : SameShape g f
  pub picture : IsPicture g
  pub rows : (u v : ℕ) → u < f.width → v < y → sample g u v ≡ value u v
  pub row : (u : ℕ) → u < f.width → u < x → sample g u y ≡ value u y

pub drawing_begins : (value : ℕ → ℕ → ℕ) (f g : Picture) → g ≡ f → IsPicture g → IsDrawnTo value f g 0 0
drawing_begins value f g same picture = record {
  shape = subst (λ (t : Picture). SameShape t f) (sym same) (record { kind = refl; width = refl; height = refl; maxval = refl });
  picture = picture;
  rows = λ u v p q. absurd (omega arith);
  row = λ u p q. absurd (omega arith);
}

pub drawn_on : (value : ℕ → ℕ → ℕ) (f g : Picture) (y x s : ℕ) → x < f.width → y < f.height → s ≤ g.maxval → s ≡ value x y → IsDrawnTo value f g y x → IsDrawnTo value f (with_sample g x y s) y (x + 1)
drawn_on value f g y x s p q low is before =
    let shape = before.shape in
    let p' : x < g.width = omega (arith, shape.width) in
    let q' : y < g.height = omega (arith, shape.height) in
    record {
      shape = record { kind = shape.kind; width = shape.width; height = shape.height; maxval = shape.maxval };
      picture = set_picture g x y s before.picture low;
      rows = λ u v a b. set_other g x y s u v p' (omega (arith, shape.width)) (λ e. absurd (omega (arith, e.1))) ∙ before.rows u v a b;
      row = λ u a b. elim (cases_lt u x) [
        | inl less ↦ set_other g x y s u y p' (omega (arith, shape.width)) (λ e. absurd (omega (arith, e.0))) ∙ before.row u a less
        | inr more ↦
            let same : u ≡ x = omega arith in
            rw same (set_same g x y s before.picture p' q' ∙ is)
      ];
    }

pub row_drawn : (value : ℕ → ℕ → ℕ) (f g : Picture) (y x : ℕ) → f.width ≤ x → IsDrawnTo value f g y x → IsDrawnTo value f g (y + 1) 0
row_drawn value f g y x end before = record {
  shape = before.shape;
  picture = before.picture;
  rows = λ u v a b. elim (cases_lt v y) [
    | inl less ↦ before.rows u v a less
    | inr more ↦
        let same : v ≡ y = omega arith in
        rw same (before.row u a (omega arith))
  ];
  row = λ u a b. absurd (omega arith);
}

pub all_drawn : (value : ℕ → ℕ → ℕ) (f g : Picture) (y : ℕ) → f.height ≤ y → IsDrawnTo value f g y 0 → g ≡ redrawn f value
all_drawn value f g y end drawn =
    let shape = drawn.shape in
    same_picture g (redrawn f value) (record { kind = shape.kind; width = shape.width; height = shape.height; maxval = shape.maxval }) drawn.picture.size
    (length-rows value f.width 0 f.height)
    (λ u v a b. drawn.rows u v (omega (arith, shape.width)) (omega (arith, shape.height)) ∙ sym (sample-redrawn f value u v (omega (arith, shape.width)) (omega (arith, shape.height))))
