-- Images by their places.
use Rattle.std.proofs.Common.{◌≡◌, ℕ, zero, suc, ◌+◌, ◌-◌, ◌*◌, ◌/◌, ◌%◌, ◌<◌, ◌≤◌, List, length, map, get_or, refl, ap, sym, arith, ◌∙◌, length-append}
use Rattle.std.specs.List.{range_with_len, flat_map}
use Rattle.std.proofs.lemmas.List.{get_or_append_left, get_or-append_right, ext_get_or}
use Rattle.std.proofs.lemmas.List.FromFn.{length-map-range_with_len, get_or-map-range_with_len}
use Rattle.std.proofs.lemmas.Nat.{div_below, mod_below, mul-add-lt, div-add-mod'}
use Rattle.std.proofs.lemmas.List.Elements.{All-get_or}
use Rattle.std.proofs.Math.Nat.{add-zero, zero-add, mul_comm}
use Rattle.mw_facts.proofs.Numbers.{add_one-add}
use Rattle.mw_model.specs.declared.shapes.Kind.{Kind}
use Rattle.mw_model.specs.Pictures.{Picture, sample, drawn, redrawn, IsPicture, picture}
use Rattle.mw_model.specs.Laws.{SameShape, Below}

-- the rows from row a on
abbrev rows : (ℕ → ℕ → ℕ) → ℕ → ℕ → ℕ → List ℕ
rows value width a n = flat_map (λ y. map (λ x. value x y) (range_with_len 0 width)) (range_with_len a n)

pub length-rows : (value : ℕ → ℕ → ℕ) (width a n : ℕ) → length (rows value width a n) ≡ n * width
length-rows value width a zero = omega arith
length-rows value width a (suc n) =
    omega (
      arith,
      length-append (map (λ x. value x a) (range_with_len 0 width)) (rows value width (a + 1) n),
      length-map-range_with_len (λ x. value x a) 0 width,
      length-rows value width (a + 1) n,
    )

-- the sample that stands at a place of the rows
rows_at : (value : ℕ → ℕ → ℕ) (width a n x y : ℕ) → x < width → y < n → get_or (rows value width a n) (y * width + x) 0 ≡ value x (a + y)
rows_at value width a zero x y p q = absurd (omega arith)
rows_at value width a (suc n) x zero p q =
    ap (λ i. get_or (rows value width a (suc n)) i 0) (start width x)
    ∙ get_or_append_left (map (λ x. value x a) (range_with_len 0 width)) (rows value width (a + 1) n) 0 x (omega (arith, length-map-range_with_len (λ x. value x a) 0 width))
    ∙ get_or-map-range_with_len (λ x. value x a) 0 width x x 0 p (omega arith)
    ∙ ap (value x) (sym (add-zero a))
  where
    start : (width x : ℕ) → zero * width + x ≡ x
    start width x = omega arith
rows_at value width a (suc n) x (suc y) p q =
    get_or-append_right (map (λ x. value x a) (range_with_len 0 width)) (rows value width (a + 1) n) width (suc y * width + x) 0 (length-map-range_with_len (λ x. value x a) 0 width) (omega arith)
    ∙ ap (λ i. get_or (rows value width (a + 1) n) i 0) (back width x y)
    ∙ rows_at value width (a + 1) n x y p (omega arith)
    ∙ ap (value x) (add_one-add a y)
  where
    back : (width x y : ℕ) → suc y * width + x - width ≡ y * width + x
    back width x y = omega arith

-- what a drawn image shows at a place
pub sample-drawn : (kind : Kind) (width height maxval : ℕ) (value : ℕ → ℕ → ℕ) (x y : ℕ) → x < width → y < height → sample (drawn kind width height maxval value) x y ≡ value x y
sample-drawn kind width height maxval value x y p q = rows_at value width 0 height x y p q ∙ ap (value x) (zero-add y)

pub sample-redrawn : (f : Picture) (value : ℕ → ℕ → ℕ) (x y : ℕ) → x < f.width → y < f.height → sample (redrawn f value) x y ≡ value x y
sample-redrawn f value x y p q = sample-drawn f.kind f.width f.height f.maxval value x y p q

-- what holds at each place of the frame holds at each index of the rows
pub by_places : (P : ℕ → Type 0) (width height : ℕ) → ((x y : ℕ) → x < width → y < height → P (y * width + x)) → (i : ℕ) → i < height * width → P i
by_places P width height each i p =
    let wide : 0 < width = grind arith in
    rw (← (div-add-mod' i width)) (each (i % width) (i / width) (mod_below i width wide) (div_below i width height wide p))

-- two images of one size that agree at each place of the frame have the same samples
same_samples : (width height : ℕ) (xs ys : List ℕ) → length xs ≡ height * width → length ys ≡ height * width
    → ((x y : ℕ) → x < width → y < height → get_or xs (y * width + x) 0 ≡ get_or ys (y * width + x) 0) → xs ≡ ys
same_samples width height xs ys xs_size ys_size each =
    ext_get_or 0 xs ys (xs_size ∙ sym ys_size) (λ i p. by_places (λ i. get_or xs i 0 ≡ get_or ys i 0) width height each i (omega arith))

-- an image is determined by its kind, size and maxval, and its samples at each place
pub drawn_same : (kind : Kind) (width height maxval : ℕ) (value other : ℕ → ℕ → ℕ) → ((x y : ℕ) → x < width → y < height → value x y ≡ other x y)
    → drawn kind width height maxval value ≡ drawn kind width height maxval other
drawn_same kind width height maxval value other each =
    ap (λ (t : List ℕ). let p : Picture = record { kind = kind; width = width; height = height; maxval = maxval; samples = t } in p)
    (same_samples width height (rows value width 0 height) (rows other width 0 height) (length-rows value width 0 height) (length-rows other width 0 height)
    (λ x y p q. sample-drawn kind width height maxval value x y p q ∙ each x y p q ∙ sym (sample-drawn kind width height maxval other x y p q)))

pub redrawn_itself : (f : Picture) → length f.samples ≡ f.height * f.width → redrawn f (sample f) ≡ f
redrawn_itself f size =
    ap (λ (t : List ℕ). let p : Picture = record { kind = f.kind; width = f.width; height = f.height; maxval = f.maxval; samples = t } in p)
    (same_samples f.width f.height (rows (sample f) f.width 0 f.height) f.samples (length-rows (sample f) f.width 0 f.height) size
    (λ x y p q. sample-drawn f.kind f.width f.height f.maxval (sample f) x y p q))

-- each sample of a bounded image is at most the maxval
pub sample_bounded : (f : Picture) → IsPicture f → (x y : ℕ) → x < f.width → y < f.height → sample f x y ≤ f.maxval
sample_bounded f picture x y p q =
    All-get_or (λ s. s ≤ f.maxval) f.samples (y * f.width + x) 0 (omega (arith, picture.size, mul-add-lt y f.width x f.height q p, mul_comm f.width f.height)) picture.bounded

-- two images of one shape that agree at each place are one
pub same_picture : (f g : Picture) → SameShape f g → length f.samples ≡ f.height * f.width → length g.samples ≡ g.height * g.width
    → ((x y : ℕ) → x < f.width → y < f.height → sample f x y ≡ sample g x y) → f ≡ g
same_picture f g shape f_size g_size each =
    let samples : f.samples ≡ g.samples = same_samples f.width f.height f.samples g.samples f_size (simp (shape.width, shape.height) g_size)
    (λ x y p q. each x y p q ∙ ap (λ (w : ℕ). get_or g.samples (y * w + x) 0) (sym shape.width)) in
    make f.kind g.kind f.width g.width f.height g.height f.maxval g.maxval f.samples g.samples shape.kind shape.width shape.height shape.maxval samples
  where
    make : (k k' : Kind) (w w' h h' m m' : ℕ) (s s' : List ℕ) → k ≡ k' → w ≡ w' → h ≡ h' → m ≡ m' → s ≡ s' → picture k w h m s ≡ picture k' w' h' m' s'
    make k k' w w' h h' m m' s s' a b c d e = cc

pub redrawn_shape : (f : Picture) (value : ℕ → ℕ → ℕ) → SameShape (redrawn f value) f
redrawn_shape f value = record { kind = refl; width = refl; height = refl; maxval = refl }

pub shape_sym : {f g : Picture} → SameShape f g → SameShape g f
shape_sym s = record { kind = sym s.kind; width = sym s.width; height = sym s.height; maxval = sym s.maxval }

pub shape_trans : {f g h : Picture} → SameShape f g → SameShape g h → SameShape f h
shape_trans s t = record { kind = s.kind ∙ t.kind; width = s.width ∙ t.width; height = s.height ∙ t.height; maxval = s.maxval ∙ t.maxval }

pub shape_itself : (f : Picture) → SameShape f f
shape_itself f = record { kind = refl; width = refl; height = refl; maxval = refl }

pub below_itself : (f : Picture) → Below f f
below_itself f x y p q = omega arith

pub below_trans : (f g h : Picture) → SameShape f g → Below f g → Below g h → Below f h
below_trans f g h shape first second x y p q =
    let lower = first x y p q in
    let upper = second x y (omega (arith, shape.width)) (omega (arith, shape.height)) in
    omega arith
