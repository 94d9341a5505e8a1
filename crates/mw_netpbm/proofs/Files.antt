-- Reading gives the picture of a file, and what reading gives is the picture of a file.
use Rattle.std.proofs.Common.{◌≡◌, ℕ, ◌+◌, ◌*◌, ◌/◌, ◌<◌, ◌≤◌, false, cond, eqb, ltb, List, [], ◌∷◌, length, take, Result, Ok, Err, max, fold, refl, sym, ap, subst, ◌∙◌, arith, inl, inr, ◌||◌}
use Rattle.std.specs.Prelude.{IfOk, MatchResult}
use Rattle.std.specs.List.{AllByRecursion}
use Rattle.std.proofs.lemmas.Bool.{ltb-false, ltb-true, le-ltb, lt-ltb, cases_lt}
use Rattle.std.proofs.lemmas.Bool.Decides.{nat_tests}
use Rattle.std.proofs.lemmas.List.{take_all}
use Rattle.mw_model.specs.Pictures.{Picture}
use Rattle.mw_netpbm_plain.specs.declared.fault.ReadFault.{ReadFault}
use Rattle.mw_netpbm_plain.specs.declared.fault.ReadFault.TheVariants.{Magic, Header, Size, Maxval, Short, Sample, Trailing, NoMemory}
use Rattle.mw_model.specs.declared.formats.Format.{Format}
use Rattle.mw_model.specs.declared.formats.Format.TheVariants.{PlainBits, PlainGrey, RawBits, RawGrey}
use Rattle.mw_model.specs.declared.formats.Header.{Header as Head}
use Rattle.mw_netpbm_plain.specs.Reading.{◌>>=◌, Gives, Fails}
use Rattle.mw_netpbm_plain.specs.Heading.{head_at, limits}
use Rattle.mw_netpbm.specs.Rasters.{grey8_at, grey16_at, two_byte_samples, rows_bits, bits_in_raster}
use Rattle.mw_netpbm_plain.specs.Plain.{plain_at, pixel_in_text, sample_in_text}
use Rattle.mw_netpbm.specs.Whole.{raster_as, image_at, reading}
use Rattle.mw_model.specs.NetpbmGrammar.{IsLevels, IsRows, IsPixel, IsSample, RasterAs, IsRaster, BeginsImage, SizeFits, MaxvalFits, IsFile, picture_under}
use Rattle.mw_netpbm_plain.proofs.Whole.{cond-chosen, sample_small}
use Rattle.mw_netpbm_plain.proofs.Sides.{Within, bind_ok, guard_ok, ok_is, plain_length, plain_within}
use Rattle.mw_netpbm.proofs.Sides.{grey8_ok, grey16_ok, bits_ok}
use Rattle.mw_netpbm_plain.proofs.Headers.{head_parts, capped}
use Rattle.mw_netpbm_plain.proofs.Blanks.{cap}
use Rattle.mw_netpbm.proofs.Rasters.{pairs_from, pairs_words, rows_from, rows_read}
use Rattle.mw_netpbm_plain.proofs.Rasters.{plain_from, plain_read, pixel_parts, pixel_whole, sample_parts, sample_whole}
use Rattle.mw_netpbm_plain.proofs.Begun.{head_cap, SetMaxval, begun_maxval, begun_read}

-- ---- limits

pub size_within : (w h : ℕ) → (eqb w 0 || eqb h 0 || ltb 8192 w || ltb 8192 h || ltb 16777216 (h * w)) ≡ false → SizeFits w h
size_within w h e = record {
  some_column = grind (arith, nat_tests);
  some_row = grind (arith, nat_tests);
  narrow = grind (arith, nat_tests);
  low = grind (arith, nat_tests);
  area = grind (arith, nat_tests);
}

pub size_fine : (w h : ℕ) → 0 < w → 0 < h → w ≤ 8192 → h ≤ 8192 → h * w ≤ 16777216 → (eqb w 0 || eqb h 0 || ltb 8192 w || ltb 8192 h || ltb 16777216 (h * w)) ≡ false
size_fine w h a b c d e = grind (arith, nat_tests)

pub maxval_within : (m : ℕ) → (eqb m 0 || ltb 65535 m) ≡ false → MaxvalFits m
maxval_within m e = record { some = grind (arith, nat_tests); small = grind (arith, nat_tests) }

pub maxval_fine : (m : ℕ) → 0 < m → m ≤ 65535 → (eqb m 0 || ltb 65535 m) ≡ false
maxval_fine m a b = grind (arith, nat_tests)

-- limits are met by the capped sides only where they are met by the sides
pub size_uncapped : (w h : ℕ) → SizeFits (cap w) (cap h) → SizeFits w h
size_uncapped w h s =
    let e1 : cap w ≡ w = omega (arith, s.narrow) in
    let e2 : cap h ≡ h = omega (arith, s.low) in
    subst (λ k. SizeFits k h) e1 (subst (λ k. SizeFits (cap w) k) e2 s)

pub maxval_uncapped : (m : ℕ) → MaxvalFits (cap m) → MaxvalFits m
maxval_uncapped m s = let e : cap m ≡ m = omega (arith, s.small) in subst MaxvalFits e s

pub limits_ok : (h : Head) (u : Unit {0}) → limits (capped h) ≡ Ok u → SizeFits h.width h.height × MaxvalFits h.maxval
unfolding limits
limits_ok h u e =
    let a = guard_ok (eqb (cap h.width) 0 || eqb (cap h.height) 0 || ltb 8192 (cap h.width) || ltb 8192 (cap h.height) || ltb 16777216 (cap h.height * cap h.width)) Size (cond (eqb (cap h.maxval) 0 || ltb 65535 (cap h.maxval)) (Err Maxval) (Ok tt)) u e in
    let b = guard_ok (eqb (cap h.maxval) 0 || ltb 65535 (cap h.maxval)) Maxval (Ok tt) u a.1 in
    (size_uncapped h.width h.height (size_within (cap h.width) (cap h.height) a.0), maxval_uncapped h.maxval (maxval_within (cap h.maxval) b.0))

pub limits_fine : (h : Head) → SizeFits h.width h.height → MaxvalFits h.maxval → limits h ≡ Ok tt
unfolding limits
limits_fine h s m = rw (size_fine h.width h.height s.some_column s.some_row s.narrow s.low s.area, maxval_fine h.maxval m.some m.small) refl

pub fits_cap : (h : Head) → SizeFits h.width h.height → MaxvalFits h.maxval → capped h ≡ h
fits_cap h s m = head_cap h (omega (arith, s.narrow)) (omega (arith, s.low)) (omega (arith, m.small))

-- ---- rasters under a header

pub record Rastered (h : Head) (bytes : List ℕ) (i : Picture) : Type 0 where
  pub samples : List ℕ
  pub is_raster : IsRaster h bytes samples
  pub within : AllByRecursion (λ s. s ≤ h.maxval) samples
  pub shows : i ≡ picture_under h samples

-- of samples and a maxval that a clause of raster_as has
levels_from : (w h m : ℕ) (bytes xs : List ℕ) → m ≤ 65535 → cond (ltb m 256) (grey8_at (h * w) m bytes) (grey16_at (h * w) m bytes) ≡ Ok xs
    → (length xs ≡ h * w) × Within m xs × IsLevels m bytes xs
levels_from w h m bytes xs low e =
    elim (cond-chosen (ltb m 256) (grey8_at (h * w) m bytes) (grey16_at (h * w) m bytes) (Ok xs) e) [
      | inl c ↦ let all = grey8_ok (h * w) m bytes xs c.1 in (all.1, all.2, ((λ lt. all.0), (λ le. absurd (omega (arith, ltb-true m 256 c.0, le)))))
      | inr c ↦ let all = grey16_ok (h * w) m bytes xs c.1 in (all.2, all.3, ((λ lt. absurd (omega (arith, ltb-false m 256 c.0, lt))), (λ le. pairs_from (h * w) bytes xs (omega (arith, all.0)) all.1)))
    ]

pub raster_from : (format : Format) (w h m : ℕ) (bytes : List ℕ) (i : Picture) → m ≤ 65535 → SetMaxval format m → raster_as format w h m bytes ≡ Ok i
    → Rastered (record { format = format; width = w; height = h; maxval = m }) bytes i
unfolding raster_as
raster_from PlainBits w h m bytes i low one e =
    let one_head : Head = record { format = PlainBits; width = w; height = h; maxval = 1 } in
    let a = bind_ok (plain_at pixel_in_text (h * w) bytes) (λ xs. Ok (picture_under one_head xs)) i e in
    let made : Rastered one_head bytes i = record {
      samples = a.0;
      is_raster = record { count = plain_length pixel_in_text (h * w) bytes a.0 a.1; spelled = plain_from pixel_in_text IsPixel pixel_parts (h * w) bytes a.0 a.1 };
      within = plain_within pixel_in_text 1 (λ left b x f. (pixel_parts left b x f).3) (h * w) bytes a.0 a.1;
      shows = sym (ok_is (picture_under one_head a.0) i a.2);
    } in
    subst (λ k. Rastered (record { format = PlainBits; width = w; height = h; maxval = k }) bytes i) (sym one) made
raster_from RawBits w h m bytes i low one e =
    let one_head : Head = record { format = RawBits; width = w; height = h; maxval = 1 } in
    let a = bind_ok (bits_in_raster w h bytes) (λ xs. Ok (picture_under one_head xs)) i e in
    let all = bits_ok w h bytes a.0 a.1 in
    let made : Rastered one_head bytes i = record {
      samples = a.0;
      is_raster = record { count = all.2; spelled = subst (λ (ys : List ℕ). IsRows w h bytes ys) all.1 (rows_from w h bytes all.0) };
      within = all.3;
      shows = sym (ok_is (picture_under one_head a.0) i a.2);
    } in
    subst (λ k. Rastered (record { format = RawBits; width = w; height = h; maxval = k }) bytes i) (sym one) made
raster_from PlainGrey w h m bytes i low one e =
    let head : Head = record { format = PlainGrey; width = w; height = h; maxval = m } in
    let a = bind_ok (plain_at (sample_in_text m) (h * w) bytes) (λ xs. Ok (picture_under head xs)) i e in
    record {
      samples = a.0;
      is_raster = record { count = plain_length (sample_in_text m) (h * w) bytes a.0 a.1; spelled = plain_from (sample_in_text m) IsSample (λ left b x f. sample_parts m left b x low f) (h * w) bytes a.0 a.1 };
      within = plain_within (sample_in_text m) m (λ left b x f. sample_small m left b x f) (h * w) bytes a.0 a.1;
      shows = sym (ok_is (picture_under head a.0) i a.2);
    }
raster_from RawGrey w h m bytes i low one e =
    let head : Head = record { format = RawGrey; width = w; height = h; maxval = m } in
    let a = bind_ok (cond (ltb m 256) (grey8_at (h * w) m bytes) (grey16_at (h * w) m bytes)) (λ xs. Ok (picture_under head xs)) i e in
    let l = levels_from w h m bytes a.0 low a.1 in
    record { samples = a.0; is_raster = record { count = l.0; spelled = l.2 }; within = l.1; shows = sym (ok_is (picture_under head a.0) i a.2) }

pub fold_within : (xs : List ℕ) (a m : ℕ) → a ≤ m → Within m xs → fold max a xs ≤ m
fold_within [] a m le w = le
fold_within (x ∷ xs) a m le w = fold_within xs (max a x) m (omega (arith, w.0)) w.1

grey8_whole : (count m : ℕ) (xs : List ℕ) → length xs ≡ count → Within m xs → grey8_at count m xs ≡ Ok xs
unfolding grey8_at
grey8_whole count m xs len w =
    let all : take count xs ≡ xs = take_all count xs (omega arith) in
    let t1 : ltb (length xs) count ≡ false = le-ltb _ _ (omega arith) in
    let t2 : ltb m (fold max 0 xs) ≡ false = le-ltb _ _ (fold_within xs 0 m (omega arith) w) in
    let t3 : ltb count (length xs) ≡ false = le-ltb _ _ (omega arith) in
    rw (t1, all, t2, t3) refl

grey16_whole : (count m : ℕ) (bytes xs : List ℕ) → two_byte_samples bytes ≡ xs → length bytes ≡ 2 * count → Within m xs → grey16_at count m bytes ≡ Ok xs
unfolding grey16_at
grey16_whole count m bytes xs e len w =
    let all : take (2 * count) bytes ≡ bytes = take_all (2 * count) bytes (omega arith) in
    let t1 : ltb (length bytes) (2 * count) ≡ false = le-ltb _ _ (omega arith) in
    let t2 : ltb m (fold max 0 xs) ≡ false = le-ltb _ _ (fold_within xs 0 m (omega arith) w) in
    let t3 : ltb (2 * count) (length bytes) ≡ false = le-ltb _ _ (omega arith) in
    rw (t1, all, e, t2, t3) refl

bits_whole : (w h : ℕ) (bytes xs : List ℕ) → rows_bits w h bytes ≡ xs → length bytes ≡ h * ((w + 7) / 8) → bits_in_raster w h bytes ≡ Ok xs
unfolding bits_in_raster
bits_whole w h bytes xs e len =
    let t1 : ltb (length bytes) (h * ((w + 7) / 8)) ≡ false = le-ltb _ _ (omega (arith, len)) in
    let t3 : ltb (h * ((w + 7) / 8)) (length bytes) ≡ false = le-ltb _ _ (omega (arith, len)) in
    rw (t1, t3, e) refl

levels_whole : (w h m : ℕ) (bytes xs : List ℕ) → length xs ≡ h * w → Within m xs → IsLevels m bytes xs → cond (ltb m 256) (grey8_at (h * w) m bytes) (grey16_at (h * w) m bytes) ≡ Ok xs
levels_whole w h m bytes xs len within is =
    elim (cases_lt m 256) [
      | inl lt ↦ rw (lt-ltb _ _ lt, is.0 lt) (grey8_whole (h * w) m xs len within)
      | inr le ↦ let p = pairs_words bytes xs (is.1 le) in rw (le-ltb _ _ le) (grey16_whole (h * w) m bytes xs p.0 (omega (arith, p.1, len)) within)
    ]

pub raster_read : (format : Format) (w h m : ℕ) (bytes xs : List ℕ) → m ≤ 65535 → SetMaxval format m → length xs ≡ h * w → Within m xs → RasterAs format w h m bytes xs
    → raster_as format w h m bytes ≡ Ok (picture_under (record { format = format; width = w; height = h; maxval = m }) xs)
unfolding raster_as
raster_read PlainBits w h m bytes xs low one len within is =
    let read : plain_at pixel_in_text (h * w) bytes ≡ Ok xs = subst (λ k. plain_at pixel_in_text k bytes ≡ Ok xs) len (plain_read pixel_in_text IsPixel m (λ left b s rest ss p l more le. pixel_whole left b s rest p) bytes xs is within) in
    rw (read, one) refl
raster_read RawBits w h m bytes xs low one len within is =
    let r = rows_read w h bytes xs is in
    rw (bits_whole w h bytes xs r.0 r.1, one) refl
raster_read PlainGrey w h m bytes xs low one len within is =
    let read : plain_at (sample_in_text m) (h * w) bytes ≡ Ok xs =
    subst (λ k. plain_at (sample_in_text m) k bytes ≡ Ok xs) len
    (plain_read (sample_in_text m) IsSample m (λ left b s rest ss p l more le. sample_whole m left b s rest p le low) bytes xs is within) in
    rw read refl
raster_read RawGrey w h m bytes xs low one len within is = rw (levels_whole w h m bytes xs len within is) refl

-- ---- the whole file

file_of : (bytes : List ℕ) (i : Picture) (raster : List ℕ) (h : Head) → BeginsImage bytes h raster → SizeFits h.width h.height → MaxvalFits h.maxval → Rastered h raster i → IsFile bytes i
file_of bytes i raster h begins size maxval r =
    let same : i.samples ≡ r.samples = ap (λ (p : Picture). p.samples) r.shows in
    record {
      header = h;
      raster = raster;
      begins = begins;
      size_fits = size;
      maxval_fits = maxval;
      is_raster = subst (λ (ys : List ℕ). IsRaster h raster ys) (sym same) r.is_raster;
      within = subst (λ (ys : List ℕ). Within h.maxval ys) (sym same) r.within;
      shows = r.shows ∙ ap (picture_under h) (sym same);
    }

pub fitting_read : (bytes raster : List ℕ) (h : Head) → BeginsImage bytes h raster → SizeFits h.width h.height → MaxvalFits h.maxval → head_at bytes ≡ Ok (h, raster)
fitting_read bytes raster h b s m = begun_read bytes raster h b ∙ ap (λ (k : Head). Ok (k, raster)) (fits_cap h s m)

pub file_read : (bytes : List ℕ) (i : Picture) → IsFile bytes i → reading bytes ≡ Ok i
unfolding reading
file_read bytes i is =
    let h = is.header in
    let head = fitting_read bytes is.raster h is.begins is.size_fits is.maxval_fits in
    let raster = raster_read h.format h.width h.height h.maxval is.raster i.samples is.maxval_fits.small (begun_maxval bytes is.raster h is.begins) is.is_raster.count is.within is.is_raster.spelled in
    rw (head, limits_fine h is.size_fits is.maxval_fits, raster) (ap (λ (p : Picture). Ok p) (sym is.shows))

pub read_file : (bytes : List ℕ) (i : Picture) → reading bytes ≡ Ok i → IsFile bytes i
unfolding reading
read_file bytes i e =
    let a = bind_ok (head_at bytes) (λ h. limits h.0 >>= λ l. image_at h.0 h.1) i e in
    let b = bind_ok (limits a.0.0) (λ l. image_at a.0.0 a.0.1) i a.2 in
    let p = head_parts bytes a.0 a.1 in
    let fits = limits_ok p.head b.0 (subst (λ (k : Head). limits k ≡ Ok b.0) p.is_capped b.1) in
    let small : capped p.head ≡ p.head = fits_cap p.head fits.0 fits.1 in
    let read : image_at p.head a.0.1 ≡ Ok i = subst (λ (k : Head). image_at k a.0.1 ≡ Ok i) (p.is_capped ∙ small) b.2 in
    let r = raster_from p.head.format p.head.width p.head.height p.head.maxval a.0.1 i fits.1.small (begun_maxval bytes a.0.1 p.head p.begins) read in
    file_of bytes i a.0.1 p.head p.begins fits.0 fits.1 r

-- ---- what the reader answers

pub is_found : (bytes : List ℕ) (r : Result Picture ReadFault) → Gives (λ i. i) r (reading bytes) → IfOk r (λ i. IsFile bytes i)
is_found bytes (Ok i) g = read_file bytes i g
is_found bytes (Err e) g = tt

only_memory : (e : ReadFault) (i : Picture) (read : Result Picture ReadFault) → read ≡ Ok i → Fails e read → e ≡ NoMemory
only_memory Magic i read same f = absurd (let clash : Ok i ≡ Err Magic = sym same ∙ f in cc)
only_memory Header i read same f = absurd (let clash : Ok i ≡ Err Header = sym same ∙ f in cc)
only_memory Size i read same f = absurd (let clash : Ok i ≡ Err Size = sym same ∙ f in cc)
only_memory Maxval i read same f = absurd (let clash : Ok i ≡ Err Maxval = sym same ∙ f in cc)
only_memory Short i read same f = absurd (let clash : Ok i ≡ Err Short = sym same ∙ f in cc)
only_memory Sample i read same f = absurd (let clash : Ok i ≡ Err Sample = sym same ∙ f in cc)
only_memory Trailing i read same f = absurd (let clash : Ok i ≡ Err Trailing = sym same ∙ f in cc)
only_memory NoMemory i read same f = refl

pub is_only : (bytes : List ℕ) (r : Result Picture ReadFault) → Gives (λ i. i) r (reading bytes) → (i : Picture) → IsFile bytes i → MatchResult r (λ j. j ≡ i) (λ e. e ≡ NoMemory)
is_only bytes (Ok j) g i is = ok_is j i (sym g ∙ file_read bytes i is)
is_only bytes (Err e) g i is = only_memory e i (reading bytes) (file_read bytes i is) g
