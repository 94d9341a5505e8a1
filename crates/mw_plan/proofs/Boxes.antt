-- Full rectangles cover what their boxes cover, turned round or not.
use Rattle.std.proofs.Common.{◌≡◌, ℕ, List, [], ◌∷◌, ℤ, pos, ◌+ℤ◌, ◌≤ℤ◌, neg_ℤ, refl, sym, subst, arith, inl, inr}
use Rattle.std.specs.List.{AllByRecursion, Contains}
use Rattle.std.proofs.lemmas.Int.{ints}
use Rattle.mw_model.proofs.mw_facts.Alls.{all-each_contained, all-contains}
use Rattle.mw_model.specs.declared.offsets.Offset.{Offset}
use Rattle.mw_model.specs.declared.offsets.OffsetBox.{OffsetBox}
use Rattle.mw_model.specs.Rectangles.{box_offsets}
use Rattle.mw_model.specs.Flat.{reflected}
use Rattle.mw_model.specs.Elements.{IsNear, IsFigure, Figure}
use Rattle.mw_model.proofs.Covers as cover
use Rattle.mw_model.proofs.Covers.{Covers, offset}
use Rattle.mw_step_task.specs.mw_element.Figures.{FillsBox, InBox, turned}
use Rattle.mw_model_laws.proofs.Composed.{CoverSame}
use Rattle.mw_step_task.proofs.Boxes.{box_all, box_at}
use Rattle.mw_plan.specs.Steps.{IsNearBox, turned_box}

-- the offset leads from (x, y) to (u, v)
abbrev pub Leads : Offset → ℕ → ℕ → ℕ → ℕ → Type 0
Leads b x y u v = (pos x +ℤ b.dx ≡ pos u) × (pos y +ℤ b.dy ≡ pos v)

-- an offset of the list by which it covers
pub record Way (Q : Offset → Type 0) (x y u v : ℕ) : Type 0 where
  pub by : Offset
  pub leads : Leads by x y u v
  pub holds : Q by

Covers-way : (Q : Offset → Type 0) (bs : List Offset) (x y u v : ℕ) → AllByRecursion Q bs → Covers bs x y u v → Way Q x y u v
Covers-way Q [] x y u v all c = absurd c
Covers-way Q (b ∷ bs) x y u v all (inl e) = record { by = b; leads = e; holds = all.0 }
Covers-way Q (b ∷ bs) x y u v all (inr c) = Covers-way Q bs x y u v all.1 c

Covers-members : (bs cs : List Offset) (x y u v : ℕ) → (Covers bs x y u v → Covers cs x y u v) → AllByRecursion (λ b. Leads b x y u v → Covers cs x y u v) bs
Covers-members [] cs x y u v into = tt
Covers-members (b ∷ bs) cs x y u v into = ((λ leads. into (inl leads)), Covers-members bs cs x y u v (λ c. into (inr c)))

-- an offset of the element, or of the box, covers where it leads
pub element_covers : (e : List Offset) (b : Offset) (x y u v : ℕ) → Contains e b → Leads b x y u v → Covers e x y u v
element_covers e b x y u v has = all-contains (λ b. Leads b x y u v → Covers e x y u v) e b (Covers-members e e x y u v (λ c. c)) has

box_covers : (box : OffsetBox) (b : Offset) (x y u v : ℕ) → InBox box b → Leads b x y u v → Covers (box_offsets box) x y u v
box_covers box b x y u v inside = box_at (λ b. Leads b x y u v → Covers (box_offsets box) x y u v) box (Covers-members (box_offsets box) (box_offsets box) x y u v (λ c. c)) b inside

box-way : (box : OffsetBox) (x y u v : ℕ) → Covers (box_offsets box) x y u v → Way (InBox box) x y u v
box-way box x y u v c = Covers-way (InBox box) (box_offsets box) x y u v (box_all (InBox box) box (λ b inside. inside)) c

pub element-way : (e : List Offset) (x y u v : ℕ) → Covers e x y u v → Way (Contains e) x y u v
element-way e x y u v c = Covers-way (Contains e) e x y u v (all-each_contained (Contains e) e (λ b has. has)) c

pub box_same : (box : OffsetBox) (e : List Offset) → FillsBox box e → CoverSame (box_offsets box) e
box_same box e fills = record {
  to = λ x y u v c. let w = box-way box x y u v c in element_covers e w.by x y u v ((fills w.by).1 w.holds) w.leads;
  from = λ x y u v c. let w = element-way e x y u v c in box_covers box w.by x y u v ((fills w.by).0 w.holds) w.leads;
}

in_turned : (box : OffsetBox) (b : Offset) → InBox box b → InBox (turned_box box) (turned b)
in_turned box b h = record {
  left = let p = h.right in omega (arith, ints);
  right = let p = h.left in omega (arith, ints);
  top = let p = h.bottom in omega (arith, ints);
  bottom = let p = h.top in omega (arith, ints);
}

in_box : (box : OffsetBox) (b : Offset) → InBox (turned_box box) b → InBox box (turned b)
in_box box b h = record {
  left = let p = h.right in omega (arith, ints);
  right = let p = h.left in omega (arith, ints);
  top = let p = h.bottom in omega (arith, ints);
  bottom = let p = h.top in omega (arith, ints);
}

leads_back : (b : Offset) (x y u v : ℕ) → Leads b x y u v → Leads (turned b) u v x y
leads_back b x y u v h = (back x u b.dx h.0, back y v b.dy h.1)
  where
    back : (x u : ℕ) (d : ℤ) → pos x +ℤ d ≡ pos u → pos u +ℤ neg_ℤ d ≡ pos x
    back x u d e = omega (arith, ints)

pub turned_same : (box : OffsetBox) (e : List Offset) → FillsBox box e → CoverSame (box_offsets (turned_box box)) (reflected e)
turned_same box e fills = record {
  to = λ x y u v c.
      let w = box-way (turned_box box) x y u v c in
      cover.reflected-IsTurned e u v x y (element_covers e (turned w.by) u v x y ((fills (turned w.by)).1 (in_box box w.by w.holds)) (leads_back w.by x y u v w.leads));
  from = λ x y u v c.
      let w = element-way e u v x y (cover.turned_back e x y u v c) in
      box_covers (turned_box box) (turned w.by) x y u v (in_turned box w.by ((fills w.by).0 w.holds)) (leads_back w.by u v x y w.leads);
}

-- the bounds of a full rectangle are those of its offsets
pub near_box : (box : OffsetBox) (f : Figure) → IsFigure f → FillsBox box f.offsets → IsNearBox box
near_box box f figure fills = go f.offsets refl
  where
    near : (b : Offset) → InBox box b → IsNear b
    near b inside = all-contains IsNear f.offsets b figure.near ((fills b).1 inside)

    within : (b : Offset) → InBox box b → IsNearBox box
    within b inside =
        let left = inside.left in
        let right = inside.right in
        let top = inside.top in
        let bottom = inside.bottom in
        let wide : box.x0 ≤ℤ box.x1 = omega (arith, ints) in
        let high : box.y0 ≤ℤ box.y1 = omega (arith, ints) in
        let first = near (offset box.x0 box.y0) (record { left = omega (arith, ints); right = wide; top = omega (arith, ints); bottom = high }) in
        let last = near (offset box.x1 box.y1) (record { left = wide; right = omega (arith, ints); top = high; bottom = omega (arith, ints) }) in
        record { left = first.left; right = last.right; top = first.top; bottom = last.bottom; wide = wide; high = high }

    go : (bs : List Offset) → f.offsets ≡ bs → IsNearBox box
    go [] is = absurd (figure.some is)
    go (b ∷ bs) is = within b ((fills b).0 (subst (λ (xs : List Offset). Contains xs b) (sym is) (0, omega arith, refl)))
