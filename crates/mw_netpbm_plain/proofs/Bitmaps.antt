-- Reading gives the pixels of a plain bitmap, and what it meets is the refusal.
use Rattle.std.proofs.Common.{◌≡◌, ℕ, ◌*◌, ◌<◌, ◌≤◌, Bool, cond, ◌⊎◌, true, false, eqb, ltb, List, [], ◌∷◌, ◌++◌, length, Result, Ok, Err, refl, sym, ap, subst, ◌∙◌, arith, inl, inr, ◌||◌, append_assoc}
use Rattle.std.specs.Prelude.{◌≢◌, count_by, ◌==◌}
use Rattle.std.proofs.lemmas.Bool.Decides.{nat_tests}
use Rattle.mw_model.specs.declared.codes.Code.{Code}
use Rattle.mw_model.specs.declared.codes.Code.TheVariants as code
use Rattle.mw_model.specs.declared.formats.Format.{Format}
use Rattle.mw_model.specs.declared.formats.Format.TheVariants.{PlainBits, PlainGrey, RawBits, RawGrey}
use Rattle.mw_model.specs.declared.formats.Header.{Header as Head}
use Rattle.mw_model.specs.Rasters.{Raster, raster}
use Rattle.mw_model.specs.NetpbmGrammar.{BeginsImage, magic, IsPixel, IsPlain, RasterAs}
use Rattle.mw_model.specs.NetpbmRefusals.{PlainRefuses, later}
use Rattle.mw_model.specs.Bitmaps.{SidesFit, BeginsBitmap, IsBitmap, BitmapRefuses, not_plain, no_header, bad_sides, bad_pixels}
use Rattle.mw_netpbm_plain.specs.declared.fault.ReadFault.{ReadFault}
use Rattle.mw_netpbm_plain.specs.declared.fault.ReadFault.TheVariants.{Magic, Header, Size, Maxval, Short, Sample, Trailing, NoMemory}
use Rattle.mw_netpbm_plain.specs.declared.fault.BitmapFault.TheVariants as bitmap
use Rattle.mw_netpbm_plain.specs.declared.bitmap.BitmapFacts.{BitmapFacts}
use Rattle.mw_netpbm_plain.specs.Faults.{code_of, bitmap_code_of, as_bitmap, facts_of, facts_at}
use Rattle.mw_netpbm_plain.specs.Reading.{◌>>=◌, Fails}
use Rattle.mw_netpbm_plain.specs.Heading.{magic_at, head_at, side_limits}
use Rattle.mw_netpbm_plain.specs.Plain.{plain_at, pixel_in_text}
use Rattle.mw_netpbm_plain.specs.Whole.{plain_only, bitmap_head_at, pixels_from, bitmap_at}
use Rattle.mw_netpbm_plain.specs.PlainSamples.{ones_of}
use Rattle.mw_netpbm_plain.proofs.Blanks.{cap}
use Rattle.mw_netpbm_plain.proofs.Outcomes.{good, no_both, ok_or_err, RefusesAs, one_code, code_or_value, refuses-given, refuses-with, refuses-then, refuses-view, refuses-like, refuses-renamed}
use Rattle.mw_netpbm_plain.proofs.Begun.{begun_read, begun_maxval, head_cap, SetMaxval}
use Rattle.mw_netpbm_plain.proofs.Headers.{head_parts, capped, magic_parts, magic_whole}
use Rattle.mw_netpbm_plain.proofs.Rasters.{pixel_parts, pixel_whole, plain_from, plain_read}
use Rattle.mw_netpbm_plain.proofs.PlainRefused.{magic_refuses, header_refuses, magic_found, pixels_refuses, plain_memory}
use Rattle.mw_netpbm_plain.proofs.Sides.{Within, bind_ok, guard_ok, ok_is, plain_length}

-- ---- the format

begun_magic : (bytes pixels : List ℕ) (h : Head) → BeginsImage bytes h pixels → (rest : List ℕ) × (magic_at bytes ≡ Ok (h.format, rest)) × (bytes ≡ magic h.format ++ rest)
begun_magic bytes pixels h b =
    let is = b.is_header in
    let fields = is.width ++ (is.height ++ (is.maxval ++ is.last ∷ [])) in
    let parts : bytes ≡ magic h.format ++ (fields ++ pixels) = b.parts ∙ ap (λ (t : List ℕ). t ++ pixels) is.parts ∙ append_assoc (magic h.format) fields pixels in
    (fields ++ pixels, ap magic_at parts ∙ magic_whole h.format (fields ++ pixels), parts)

only_ok : plain_only PlainBits ≡ Ok tt
unfolding plain_only
only_ok = refl

only_plain : (format : Format) (u : Unit {0}) → plain_only format ≡ Ok u → format ≡ PlainBits
unfolding plain_only
only_plain PlainBits u e = refl
only_plain PlainGrey u e = absurd cc
only_plain RawBits u e = absurd cc
only_plain RawGrey u e = absurd cc

only_fault : (format : Format) (d : ReadFault) → plain_only format ≡ Err d → Magic ≡ d
unfolding plain_only
only_fault PlainBits d e = absurd cc
only_fault PlainGrey d e = cc
only_fault RawBits d e = cc
only_fault RawGrey d e = cc

first_is : {A B : Type 0} (r : Result (A × B) ReadFault) (x y : A × B) → r ≡ Ok x → r ≡ Ok y → x.0 ≡ y.0
first_is {A = A} {B = B} r x y e f = ap (λ (z : A × B). z.0) (ok_is x y (sym e ∙ f))

-- ---- the sides

sides_within : (side w h : ℕ) → (eqb w 0 || eqb h 0 || ltb side w || ltb side h) ≡ false → SidesFit side w h
sides_within side w h e = record { some_column = grind (arith, nat_tests); some_row = grind (arith, nat_tests); narrow = grind (arith, nat_tests); low = grind (arith, nat_tests) }

sides_fine : (side w h : ℕ) → 0 < w → 0 < h → w ≤ side → h ≤ side → (eqb w 0 || eqb h 0 || ltb side w || ltb side h) ≡ false
sides_fine side w h a b c d = grind (arith, nat_tests)

sides_uncapped : (side w h : ℕ) → side < 4294967296 → SidesFit side (cap w) (cap h) → SidesFit side w h
sides_uncapped side w h lt s =
    let e1 : cap w ≡ w = omega (arith, s.narrow) in
    let e2 : cap h ≡ h = omega (arith, s.low) in
    subst (λ k. SidesFit side k h) e1 (subst (λ k. SidesFit side (cap w) k) e2 s)

sides_ok : (side : ℕ) (h : Head) (u : Unit {0}) → side < 4294967296 → side_limits side (capped h) ≡ Ok u → SidesFit side h.width h.height
unfolding side_limits
sides_ok side h u lt e =
    let a = guard_ok (eqb (cap h.width) 0 || eqb (cap h.height) 0 || ltb side (cap h.width) || ltb side (cap h.height)) Size (Ok tt) u e in
    sides_uncapped side h.width h.height lt (sides_within side (cap h.width) (cap h.height) a.0)

sides_taken : (side : ℕ) (h : Head) → SidesFit side h.width h.height → side_limits side h ≡ Ok tt
unfolding side_limits
sides_taken side h s = rw (sides_fine side h.width h.height s.some_column s.some_row s.narrow s.low) refl

sides_fault : (side : ℕ) (h : Head) (d : ReadFault) → side_limits side h ≡ Err d → Size ≡ d
unfolding side_limits
sides_fault side h d e = faulty (eqb h.width 0 || eqb h.height 0 || ltb side h.width || ltb side h.height) e
  where
    faulty : (b : Bool) → cond {A = Result (Unit {0}) ReadFault} b (Err Size) (Ok tt) ≡ Err d → Size ≡ d
    faulty true e = cc
    faulty false e = absurd (no_both (good {A = Unit {0}} tt) tt d refl e)

fit_cap : (side : ℕ) (h : Head) → side < 4294967296 → h.format ≡ PlainBits → SetMaxval h.format h.maxval → SidesFit side h.width h.height → capped h ≡ h
fit_cap side h lt plain top s =
    let one : h.maxval ≡ 1 = subst (λ k. SetMaxval k h.maxval) plain top in
    head_cap h (omega (arith, s.narrow)) (omega (arith, s.low)) (omega (arith, one))

-- ---- the pixels

pub pixels_within : (bytes xs : List ℕ) → IsPlain IsPixel bytes xs → Within 1 xs
pixels_within bytes [] is = tt
pixels_within bytes (s ∷ ss) is = (is.1.3, pixels_within is.0 ss is.2)

pixels_read : (n : ℕ) (bytes xs : List ℕ) → length xs ≡ n → IsPlain IsPixel bytes xs → plain_at pixel_in_text n bytes ≡ Ok xs
pixels_read n bytes xs len is =
    subst (λ k. plain_at pixel_in_text k bytes ≡ Ok xs) len (plain_read pixel_in_text IsPixel 1 (λ left b s rest ss p l more le. pixel_whole left b s rest p) bytes xs is (pixels_within bytes xs is))

-- ---- what is read

abbrev headed_ok : Head × List ℕ → Result (Head × List ℕ) ReadFault
headed_ok h = Ok h

begun_plain : (bytes pixels : List ℕ) (h : Head) → BeginsBitmap bytes h pixels → (rest : List ℕ) × (magic_at bytes ≡ Ok (PlainBits, rest))
begun_plain bytes pixels h b = let m = begun_magic bytes pixels h b.begins in (m.0, subst (λ (k : Format). magic_at bytes ≡ Ok (k, m.0)) b.format m.1)

head_steps : (side : ℕ) (bytes rest pixels : List ℕ) (h : Head) → magic_at bytes ≡ Ok (PlainBits, rest) → head_at bytes ≡ Ok (h, pixels) → side_limits side h ≡ Ok tt → bitmap_head_at side bytes ≡ Ok (h, pixels)
unfolding bitmap_head_at
head_steps side bytes rest pixels h e f g = rw (e, only_ok, f, g) refl

head_is_read : (side : ℕ) (bytes pixels : List ℕ) (h : Head) → side < 4294967296 → BeginsBitmap bytes h pixels → SidesFit side h.width h.height → bitmap_head_at side bytes ≡ Ok (h, pixels)
head_is_read side bytes pixels h lt b s =
    let m = begun_plain bytes pixels h b in
    let small = fit_cap side h lt b.format (begun_maxval bytes pixels h b.begins) s in
    let head : head_at bytes ≡ Ok (h, pixels) = begun_read bytes pixels h b.begins ∙ ap (λ (k : Head). Ok (k, pixels)) small in
    head_steps side bytes m.0 pixels h m.1 head (sides_taken side h s)

pub bitmap_read : (side : ℕ) (bytes : List ℕ) (f : Raster ℕ) → side < 4294967296 → IsBitmap bytes side f → bitmap_at side bytes ≡ Ok f
unfolding bitmap_at
bitmap_read side bytes f lt is =
    let h = is.header in
    let spelled : IsPlain IsPixel is.pixels f.cells = subst (λ k. RasterAs k h.width h.height h.maxval is.pixels f.cells) is.begins.format is.is_raster.spelled in
    let read = pixels_read (h.height * h.width) is.pixels f.cells is.is_raster.count spelled in
    rw (head_is_read side bytes is.pixels h lt is.begins is.sides_fit, read) (ap (λ (g : Raster ℕ). Ok g) (sym is.shows))

-- a header that is read as one of a bitmap
record ReadHead (side : ℕ) (bytes : List ℕ) (x : Head × List ℕ) : Type 0 where
  begins : BeginsBitmap bytes x.0 x.1
  sides : SidesFit side x.0.width x.0.height

plain_begins : (bytes pixels : List ℕ) (h : Head) (m : Format × List ℕ) → BeginsImage bytes h pixels → magic_at bytes ≡ Ok m → m.0 ≡ PlainBits → BeginsBitmap bytes h pixels
plain_begins bytes pixels h m b e plain =
    let same : m.0 ≡ h.format = first_is (magic_at bytes) m (h.format, (begun_magic bytes pixels h b).0) e (begun_magic bytes pixels h b).1 in
    record { begins = b; format = sym same ∙ plain }

head_read : (side : ℕ) (bytes : List ℕ) (x : Head × List ℕ) → side < 4294967296 → bitmap_head_at side bytes ≡ Ok x → ReadHead side bytes x
unfolding bitmap_head_at
head_read side bytes x lt e =
    let m = bind_ok (magic_at bytes) (λ m. plain_only m.0 >>= λ p. head_at bytes >>= λ h. side_limits side h.0 >>= λ l. headed_ok h) x e in
    let p = bind_ok (plain_only m.0.0) (λ p. head_at bytes >>= λ h. side_limits side h.0 >>= λ l. headed_ok h) x m.2 in
    let h = bind_ok (head_at bytes) (λ h. side_limits side h.0 >>= λ l. headed_ok h) x p.2 in
    let l = bind_ok (side_limits side h.0.0) (λ l. headed_ok h.0) x h.2 in
    let parts = head_parts bytes h.0 h.1 in
    let sides = sides_ok side parts.head l.0 lt (subst (λ (k : Head). side_limits side k ≡ Ok l.0) parts.is_capped l.1) in
    let begins = plain_begins bytes h.0.1 parts.head m.0 parts.begins m.1 (only_plain m.0.0 p.0 p.1) in
    let small : capped parts.head ≡ parts.head = fit_cap side parts.head lt begins.format (begun_maxval bytes h.0.1 parts.head parts.begins) sides in
    let made : ReadHead side bytes (parts.head, h.0.1) = record { begins = begins; sides = sides } in
    subst (ReadHead side bytes) (ok_is h.0 x l.2) (subst (λ (k : Head). ReadHead side bytes (k, h.0.1)) (sym (parts.is_capped ∙ small)) made)

pub read_bitmap : (side : ℕ) (bytes : List ℕ) (f : Raster ℕ) → side < 4294967296 → bitmap_at side bytes ≡ Ok f → IsBitmap bytes side f
unfolding bitmap_at
read_bitmap side bytes f lt e =
    let a = bind_ok (bitmap_head_at side bytes) (λ h. pixels_from h.0 (plain_at pixel_in_text (h.0.height * h.0.width) h.1)) f e in
    let h = a.0.0 in
    let b = bind_ok (plain_at pixel_in_text (h.height * h.width) a.0.1) (λ xs. Ok (raster h.width h.height xs)) f a.2 in
    let r = head_read side bytes a.0 lt a.1 in
    let same = ok_is (raster h.width h.height b.0) f b.2 in
    let spelled : IsPlain IsPixel a.0.1 b.0 = plain_from pixel_in_text IsPixel pixel_parts (h.height * h.width) a.0.1 b.0 b.1 in
    let made : IsBitmap bytes side (raster h.width h.height b.0) = record {
      header = h;
      pixels = a.0.1;
      begins = r.begins;
      sides_fit = r.sides;
      is_raster = record {
        count = plain_length pixel_in_text (h.height * h.width) a.0.1 b.0 b.1;
        spelled = subst (λ k. RasterAs k h.width h.height h.maxval a.0.1 b.0) (sym r.begins.format) spelled;
      };
      shows = refl;
    } in
    subst (IsBitmap bytes side) same made

-- ---- what is refused

-- the fault of a bitmap that stands for the fault of a file
abbrev pub bitmap_code : ReadFault → Code
bitmap_code d = bitmap_code_of (as_bitmap d)

no_plain_magic : (Place : ℕ → List ℕ → ℕ → List ℕ → Type 0) (m n : ℕ) (bytes : List ℕ) → PlainRefuses Place m n bytes code.Magic → ⊥
no_plain_magic Place m n bytes (later left all c s rest is le r) = no_plain_magic Place m left rest r

no_plain_maxval : (Place : ℕ → List ℕ → ℕ → List ℕ → Type 0) (m n : ℕ) (bytes : List ℕ) → PlainRefuses Place m n bytes code.Maxval → ⊥
no_plain_maxval Place m n bytes (later left all c s rest is le r) = no_plain_maxval Place m left rest r

-- the faults of pixels have the same code in files and in bitmaps
same_code : (n : ℕ) (bytes : List ℕ) (d : ReadFault) → PlainRefuses IsPixel 1 n bytes (code_of d) → code_of d ≡ bitmap_code d
same_code n bytes Magic r = absurd (no_plain_magic IsPixel 1 n bytes r)
same_code n bytes Maxval r = absurd (no_plain_maxval IsPixel 1 n bytes r)
same_code n bytes Header r = refl
same_code n bytes Size r = refl
same_code n bytes Short r = refl
same_code n bytes Sample r = refl
same_code n bytes Trailing r = refl
same_code n bytes NoMemory r = refl

abbrev LastSteps : ℕ → Head × List ℕ → Code → Type 0
LastSteps side h c = (code.Size ≡ c) × ((u : Unit {0}) → ¬ (side_limits side h.0 ≡ Ok u)) ⊎ ((u : Unit {0}) × (side_limits side h.0 ≡ Ok u) × ⊥)

abbrev HeaderSteps : ℕ → List ℕ → Code → Type 0
HeaderSteps side bytes c = (code.Header ≡ c) × ((h : Head × List ℕ) → ¬ (head_at bytes ≡ Ok h)) ⊎ ((h : Head × List ℕ) × (head_at bytes ≡ Ok h) × LastSteps side h c)

abbrev FormatSteps : ℕ → List ℕ → Format × List ℕ → Code → Type 0
FormatSteps side bytes m c = (code.NotPlain ≡ c) × ((u : Unit {0}) → ¬ (plain_only m.0 ≡ Ok u)) ⊎ ((u : Unit {0}) × (plain_only m.0 ≡ Ok u) × HeaderSteps side bytes c)

-- the refusals of a header of a bitmap, step by step
abbrev HeadSteps : ℕ → List ℕ → Code → Type 0
HeadSteps side bytes c =
    (code.NotPlain ≡ c) × ((m : Format × List ℕ) → ¬ (magic_at bytes ≡ Ok m))
    ⊎ ((m : Format × List ℕ) × (magic_at bytes ≡ Ok m) × FormatSteps side bytes m c)

abbrev Steps : ℕ → List ℕ → Code → Type 0
Steps side bytes c = HeadSteps side bytes c ⊎ ((h : Head × List ℕ) × (bitmap_head_at side bytes ≡ Ok h) × PlainRefuses IsPixel 1 (h.0.height * h.0.width) h.1 c)

abbrev after_header : ℕ → Head × List ℕ → Result (Head × List ℕ) ReadFault
after_header side h = side_limits side h.0 >>= λ l. good h

abbrev after_format : ℕ → List ℕ → Result (Head × List ℕ) ReadFault
after_format side bytes = head_at bytes >>= λ h. after_header side h

abbrev after_magic : ℕ → List ℕ → Format × List ℕ → Result (Head × List ℕ) ReadFault
after_magic side bytes m = plain_only m.0 >>= λ p. after_format side bytes

head_refuses : (side : ℕ) (bytes : List ℕ) → RefusesAs bitmap_code (bitmap_head_at side bytes) (HeadSteps side bytes)
unfolding bitmap_head_at
head_refuses side bytes =
    refuses-then bitmap_code (magic_at bytes) (λ m. after_magic side bytes m) (λ c. (code.NotPlain ≡ c) × ((m : Format × List ℕ) → ¬ (magic_at bytes ≡ Ok m))) (λ m. FormatSteps side bytes m) (magic_refuses bitmap_code bytes)
    (λ m is. refuses-then bitmap_code (plain_only m.0) (λ p. after_format side bytes) (λ c. (code.NotPlain ≡ c) × ((u : Unit {0}) → ¬ (plain_only m.0 ≡ Ok u))) (λ u. HeaderSteps side bytes)
    (refuses-with bitmap_code Magic (plain_only m.0) (only_fault m.0))
    (λ u plain. refuses-then bitmap_code (head_at bytes) (λ h. after_header side h) (λ c. (code.Header ≡ c) × ((h : Head × List ℕ) → ¬ (head_at bytes ≡ Ok h))) (λ h. LastSteps side h) (header_refuses bitmap_code bytes m is)
    (λ h read. refuses-then bitmap_code (side_limits side h.0) (λ l. good h) (λ c. (code.Size ≡ c) × ((u : Unit {0}) → ¬ (side_limits side h.0 ≡ Ok u))) (λ l c. ⊥)
    (refuses-with bitmap_code Size (side_limits side h.0) (sides_fault side h.0)) (λ l fine. refuses-given bitmap_code h))))

steps_refuse : (side : ℕ) (bytes : List ℕ) → RefusesAs bitmap_code (bitmap_at side bytes) (Steps side bytes)
unfolding bitmap_at
steps_refuse side bytes =
    refuses-then bitmap_code (bitmap_head_at side bytes) (λ h. pixels_from h.0 (plain_at pixel_in_text (h.0.height * h.0.width) h.1)) (HeadSteps side bytes) (λ h. PlainRefuses IsPixel 1 (h.0.height * h.0.width) h.1) (head_refuses side bytes)
    (λ h read. let n = h.0.height * h.0.width in
    refuses-view bitmap_code (plain_at pixel_in_text n h.1) (λ xs. raster h.0.width h.0.height xs) (PlainRefuses IsPixel 1 n h.1)
    (refuses-renamed code_of bitmap_code (plain_at pixel_in_text n h.1) (PlainRefuses IsPixel 1 n h.1) (pixels_refuses n h.1) (same_code n h.1)))

pub bitmap_refuses : (side : ℕ) (bytes : List ℕ) → side < 4294967296 → RefusesAs bitmap_code (bitmap_at side bytes) (BitmapRefuses bytes side)
bitmap_refuses side bytes lt = refuses-like bitmap_code (bitmap_at side bytes) (Steps side bytes) (BitmapRefuses bytes side) (steps_refuse side bytes) to from
  where
    to : (c : Code) → Steps side bytes c → BitmapRefuses bytes side c
    to c (inl (inl (is, none))) = subst (BitmapRefuses bytes side) is (not_plain (λ has. none (PlainBits, has.0) (magic_found PlainBits bytes has)))
    to c (inl (inr (m, found, inl (is, none)))) =
        subst (BitmapRefuses bytes side) is
        (not_plain (λ has. none tt (ap plain_only (first_is (magic_at bytes) m (PlainBits, has.0) found (magic_found PlainBits bytes has)) ∙ only_ok)))
    to c (inl (inr (m, found, inr (u, plain, inl (is, none))))) =
        let same = only_plain m.0 u plain in
        subst (BitmapRefuses bytes side) is
        (no_header (m.1, subst (λ (k : Format). bytes ≡ magic k ++ m.1) same (magic_parts bytes m found)) (λ h pixels b. none (capped h, pixels) (begun_read bytes pixels h b.begins)))
    to c (inl (inr (m, found, inr (u, plain, inr (h, read, inl (is, none)))))) =
        let parts = head_parts bytes h read in
        let begins = plain_begins bytes h.1 parts.head m parts.begins found (only_plain m.0 u plain) in
        subst (BitmapRefuses bytes side) is
        (bad_sides parts.head h.1 begins (λ s.
        let small = fit_cap side parts.head lt begins.format (begun_maxval bytes h.1 parts.head parts.begins) s in
        none tt (ap (side_limits side) (parts.is_capped ∙ small) ∙ sides_taken side parts.head s)))
    to c (inl (inr (m, found, inr (u, plain, inr (h, read, inr (l, fine, none)))))) = absurd none
    to c (inr (h, read, r)) = let found = head_read side bytes h lt read in bad_pixels h.0 h.1 c found.begins found.sides r

    from : (c : Code) → BitmapRefuses bytes side c → Steps side bytes c
    from c (not_plain none) = elim (ok_or_err (magic_at bytes)) [
      | inl m ↦ inl (inr (m.0, m.1, inl (refl, λ u e. none (m.0.1, subst (λ (k : Format). bytes ≡ magic k ++ m.0.1) (only_plain m.0.0 u e) (magic_parts bytes m.0 m.1)))))
      | inr d ↦ inl (inl (refl, λ m is. no_both (magic_at bytes) m d.0 is d.1))
    ]
    from c (no_header has none) =
        let found = magic_found PlainBits bytes has in
        inl (inr ((PlainBits, has.0), found, inr (tt, only_ok, inl (refl, λ h read. let p = head_parts bytes h read in none p.head h.1 (plain_begins bytes h.1 p.head (PlainBits, has.0) p.begins found refl)))))
    from c (bad_sides h pixels b none) =
        let m = begun_plain bytes pixels h b in
        inl (inr ((PlainBits, m.0), m.1, inr (tt, only_ok, inr ((capped h, pixels), begun_read bytes pixels h b.begins, inl (refl, λ u fine. none (sides_ok side h u lt fine))))))
    from c (bad_pixels h pixels k b s r) = inr ((h, pixels), head_is_read side bytes pixels h lt b s, r)

pub bitmap_memory : (bytes : List ℕ) (side : ℕ) → BitmapRefuses bytes side code.Memory → ⊥
bitmap_memory bytes side (bad_pixels h pixels c b s r) = plain_memory IsPixel 1 (h.height * h.width) pixels r

pub one_bitmap : (bytes : List ℕ) (side : ℕ) (f g : Raster ℕ) → side < 4294967296 → IsBitmap bytes side f → IsBitmap bytes side g → f ≡ g
one_bitmap bytes side f g lt a b = ok_is f g (sym (bitmap_read side bytes f lt a) ∙ bitmap_read side bytes g lt b)

pub one_bitmap_refusal : (bytes : List ℕ) (side : ℕ) (c d : Code) → side < 4294967296 → BitmapRefuses bytes side c → BitmapRefuses bytes side d → c ≡ d
one_bitmap_refusal bytes side c d lt p q = one_code bitmap_code (bitmap_at side bytes) (BitmapRefuses bytes side) (bitmap_refuses side bytes lt) c d p q

pub refusal_or_bitmap : (bytes : List ℕ) (side : ℕ) (c : Code) (f : Raster ℕ) → side < 4294967296 → BitmapRefuses bytes side c → IsBitmap bytes side f → ⊥
refusal_or_bitmap bytes side c f lt r is = code_or_value bitmap_code (bitmap_at side bytes) (BitmapRefuses bytes side) (bitmap_refuses side bytes lt) c f r (bitmap_read side bytes f lt is)

-- ---- the facts of a scan

abbrev facts_with : Raster ℕ → ℕ → BitmapFacts
facts_with f n = record { width = f.width; height = f.height; ones = n }

-- a scan gives the facts of what is read
abbrev facts_from : Result (Raster ℕ) ReadFault → Result BitmapFacts ReadFault
facts_from read = read >>= λ f. Ok (record { width = f.width; height = f.height; ones = count_by (λ s. s == 1) f.cells })

facts_here : (h : Head) (read : Result (List ℕ) ReadFault) → (ones_of read >>= λ ones. Ok (record { width = h.width; height = h.height; ones = ones })) ≡ facts_from (pixels_from h read)
facts_here h (Ok xs) = refl
facts_here h (Err d) = refl

abbrev facts_after : Result (Head × List ℕ) ReadFault → Result BitmapFacts ReadFault
facts_after r = r >>= λ h. ones_of (plain_at pixel_in_text (h.0.height * h.0.width) h.1) >>= λ ones. Ok (record { width = h.0.width; height = h.0.height; ones = ones })

abbrev pixels_after : Result (Head × List ℕ) ReadFault → Result (Raster ℕ) ReadFault
pixels_after r = r >>= λ h. pixels_from h.0 (plain_at pixel_in_text (h.0.height * h.0.width) h.1)

facts_both : (r : Result (Head × List ℕ) ReadFault) → facts_after r ≡ facts_from (pixels_after r)
facts_both (Ok (h, rest)) = facts_here h (plain_at pixel_in_text (h.height * h.width) rest)
facts_both (Err d) = refl

facts_read : (side : ℕ) (bytes : List ℕ) → facts_at side bytes ≡ facts_from (bitmap_at side bytes)
unfolding facts_at bitmap_at
facts_read side bytes = facts_both (bitmap_head_at side bytes)

-- ---- what the callers are told

pub scan_finds : (side : ℕ) (bytes : List ℕ) (x : BitmapFacts) → side < 4294967296 → Ok x ≡ facts_at side bytes → (f : Raster ℕ) × IsBitmap bytes side f × (x ≡ facts_of f)
scan_finds side bytes x lt e =
    let a = bind_ok (bitmap_at side bytes) (λ f. Ok (record { width = f.width; height = f.height; ones = count_by (λ s. s == 1) f.cells })) x (sym (facts_read side bytes) ∙ sym e) in
    let is = read_bitmap side bytes a.0 lt a.1 in
    (a.0, is, sym (ok_is (record { width = a.0.width; height = a.0.height; ones = count_by (λ s. s == 1) a.0.cells }) x a.2))

pub scan_only : (side : ℕ) (bytes : List ℕ) (f : Raster ℕ) → side < 4294967296 → IsBitmap bytes side f → facts_at side bytes ≡ Ok (facts_of f)
scan_only side bytes f lt is =
    facts_read side bytes ∙ ap facts_from (bitmap_read side bytes f lt is)

pub scan_refuses : (side : ℕ) (bytes : List ℕ) (d : ReadFault) → side < 4294967296 → Err d ≡ facts_at side bytes → BitmapRefuses bytes side (bitmap_code d)
scan_refuses side bytes d lt e =
    (refuses-view bitmap_code (bitmap_at side bytes) (λ f. facts_with f (count_by (λ s. s == 1) f.cells)) (BitmapRefuses bytes side) (bitmap_refuses side bytes lt)).refused d (sym (facts_read side bytes) ∙ sym e)

read_fails : (e : ReadFault) (side : ℕ) (bytes : List ℕ) (r : Result (Raster ℕ) ReadFault) → side < 4294967296 → bitmap_at side bytes ≡ r → Fails e r → (as_bitmap e ≡ bitmap.NoMemory → ⊥) → BitmapRefuses bytes side (bitmap_code e)
read_fails NoMemory side bytes r lt s f n = absurd (n refl)
read_fails e side bytes r lt s f n = (bitmap_refuses side bytes lt).refused e (s ∙ f)

pub read_refuses : (e : ReadFault) (side : ℕ) (bytes : List ℕ) → side < 4294967296 → Fails e (bitmap_at side bytes) → as_bitmap e ≢ bitmap.NoMemory → BitmapRefuses bytes side (bitmap_code e)
read_refuses e side bytes lt f n = read_fails e side bytes (bitmap_at side bytes) lt refl f n

memory_only : (e : ReadFault) → as_bitmap e ≡ bitmap.NoMemory → e ≡ NoMemory
memory_only NoMemory h = refl
memory_only e h = absurd cc

memory_found : (side : ℕ) (bytes : List ℕ) (r : Result (Raster ℕ) ReadFault) → side < 4294967296 → bitmap_at side bytes ≡ r → Fails NoMemory r → (f : Raster ℕ) × IsBitmap bytes side f
memory_found side bytes (Ok f) lt s h = (f, read_bitmap side bytes f lt s)
memory_found side bytes (Err d) lt s (inl h) = absurd (let clash : false ≡ true = h in cc)
memory_found side bytes (Err d) lt s (inr h) = absurd (bitmap_memory bytes side ((bitmap_refuses side bytes lt).refused NoMemory (s ∙ h)))

pub read_memory : (e : ReadFault) (side : ℕ) (bytes : List ℕ) → side < 4294967296 → Fails e (bitmap_at side bytes) → as_bitmap e ≡ bitmap.NoMemory → (f : Raster ℕ) × IsBitmap bytes side f
read_memory e side bytes lt f same = memory_found side bytes (bitmap_at side bytes) lt refl (subst (λ k. Fails k (bitmap_at side bytes)) (memory_only e same) f)

only_wanting : (e : ReadFault) (f : Raster ℕ) (read : Result (Raster ℕ) ReadFault) → read ≡ Ok f → Fails e read → as_bitmap e ≡ bitmap.NoMemory
only_wanting NoMemory f read same h = refl
only_wanting e f read same h = absurd (no_both read f e same h)

pub read_only : (e : ReadFault) (side : ℕ) (bytes : List ℕ) (f : Raster ℕ) → side < 4294967296 → Fails e (bitmap_at side bytes) → IsBitmap bytes side f → as_bitmap e ≡ bitmap.NoMemory
read_only e side bytes f lt h is = only_wanting e f (bitmap_at side bytes) (bitmap_read side bytes f lt is) h
