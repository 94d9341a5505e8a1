-- Reading fails exactly where the bytes are refused, with the fault that the refusal names.
use Rattle.std.proofs.Common.{◌≡◌, ℕ, ◌+◌, ◌*◌, ◌/◌, ◌<◌, ◌≤◌, true, false, cond, eqb, ltb, List, [], ◌∷◌, ◌++◌, length, take, drop, Result, Ok, Err, max, fold, refl, sym, ap, subst, ◌∙◌, arith, inl, inr, ◌⊎◌, ◌||◌, length-drop, length-append}
use Rattle.std.proofs.lemmas.List.{take-append-drop, length-take-le, take_at}
use Rattle.std.specs.Prelude.{IfErr, ◌≢◌}
use Rattle.std.proofs.lemmas.Bool.{ltb-false, ltb-true, false≢true, le-ltb, lt-ltb, cases_lt, cases_Bool}
use Rattle.mw_model.specs.Pictures.{Picture}
use Rattle.mw_netpbm_plain.specs.declared.fault.ReadFault.{ReadFault}
use Rattle.mw_netpbm_plain.specs.declared.fault.ReadFault.TheVariants.{Size, Maxval, Short, Sample, Trailing, NoMemory}
use Rattle.mw_model.specs.declared.formats.Format.{Format}
use Rattle.mw_model.specs.declared.formats.Format.TheVariants.{PlainBits, PlainGrey, RawBits, RawGrey}
use Rattle.mw_model.specs.declared.formats.Header.{Header as Head}
use Rattle.mw_netpbm_plain.specs.Reading.{◌>>=◌, Gives, Fails}
use Rattle.mw_netpbm_plain.specs.Heading.{head_at, limits, magic_at}
use Rattle.mw_netpbm.specs.Rasters.{grey8_at, grey16_at, two_byte_samples, rows_bits, bits_in_raster}
use Rattle.mw_netpbm_plain.specs.Plain.{plain_at, pixel_in_text, sample_in_text}
use Rattle.mw_netpbm.specs.Whole.{raster_as, image_at, reading}
use Rattle.mw_model.specs.NetpbmGrammar.{IsPixel, IsSample, BeginsImage, SizeFits, MaxvalFits, IsFile, picture_under}
use Rattle.mw_netpbm_plain.proofs.Sides.{Within, ok_is}
use Rattle.mw_netpbm.proofs.Sides.{fold_bound, words_length, rows_length, rows_within}
use Rattle.mw_netpbm_plain.proofs.Headers.{head_parts, capped, magic_parts}
use Rattle.mw_netpbm_plain.proofs.Blanks.{cap}
use Rattle.mw_netpbm.proofs.Rasters.{pairs_from, rows_from, pairs_words, rows_read}
use Rattle.mw_model.specs.NetpbmRefusals.{raw_size, BeginsRaster, RawRefuses, short, over, more, PlainRefuses, RasterRefusesAs, Refuses, no_magic, no_header, bad_size, bad_maxval, bad_raster}
use Rattle.mw_model.specs.declared.codes.Code.TheVariants as code
use Rattle.mw_netpbm_plain.specs.Faults.{code_of}
use Rattle.mw_netpbm.proofs.Files.{limits_ok, read_file, fits_cap, size_within, size_uncapped, size_fine, maxval_fine, fold_within, limits_fine, maxval_uncapped, maxval_within}
use Rattle.mw_netpbm_plain.proofs.Begun.{begun_read, begun_maxval, SetMaxval}
use Rattle.mw_model.specs.declared.codes.Code.{Code}
use Rattle.mw_netpbm_plain.proofs.Outcomes.{good, bad, ok_or_err, RefusesAs, refuses-given, refuses-then, refuses-view, refuses-test, refuses-like}
use Rattle.mw_netpbm_plain.proofs.PlainRefused.{err_is, headed, no_magic_read, header_refuses, magic_refuses, magic_found, reads_samples, plain_refuses, pixels_refuses, plain_memory}

-- ---- the header

abbrev NoMagic : List ℕ → Code → Type 0
NoMagic bytes c = (code.Magic ≡ c) × ((x : Format × List ℕ) → ¬ (magic_at bytes ≡ Ok x))

abbrev NoHeader : List ℕ → Code → Type 0
NoHeader bytes c = (code.Header ≡ c) × ((x : Head × List ℕ) → ¬ (head_at bytes ≡ Ok x))

abbrev HeadRefusal : List ℕ → Code → Type 0
HeadRefusal bytes c = NoMagic bytes c ⊎ ((m : Format × List ℕ) × (magic_at bytes ≡ Ok m) × NoHeader bytes c)

head_refuses : (bytes : List ℕ) → RefusesAs code_of (head_at bytes) (HeadRefusal bytes)
head_refuses bytes = record {
  refused = λ d e. elim (ok_or_err (magic_at bytes)) [
    | inl m ↦ inr (m.0, m.1, (header_refuses code_of bytes m.0 m.1).refused d e)
    | inr k ↦
        let same = err_is {A = Head × List ℕ} k.0 d (sym (no_magic_read bytes k.0 k.1) ∙ e) in
        inl ((magic_refuses code_of bytes).refused d (k.1 ∙ ap (λ (t : ReadFault). bad t) same))
  ];
  met = λ c r. elim r [
    | inl none ↦ let k = (magic_refuses code_of bytes).met c none in (k.0, k.1, no_magic_read bytes k.0 k.2)
    | inr q ↦ (header_refuses code_of bytes q.0 q.1).met c q.2
  ];
}

-- ---- limits

size_refused : (w h : ℕ) → (eqb (cap w) 0 || eqb (cap h) 0 || ltb 8192 (cap w) || ltb 8192 (cap h) || ltb 16777216 (cap h * cap w)) ≡ true → ¬ SizeFits w h
size_refused w h bad fits =
    let e1 : cap w ≡ w = omega (arith, fits.narrow) in
    let e2 : cap h ≡ h = omega (arith, fits.low) in
    let good = size_fine w h fits.some_column fits.some_row fits.narrow fits.low fits.area in
    false≢true (sym good ∙ (rw (e1, e2) at bad))

abbrev LimitsRefusal : Head → Code → Type 0
LimitsRefusal h c = (code.Size ≡ c) × ¬ SizeFits h.width h.height ⊎ (code.Maxval ≡ c) × SizeFits h.width h.height × ¬ MaxvalFits h.maxval

limits_refuses : (h : Head) → RefusesAs code_of (limits (capped h)) (LimitsRefusal h)
unfolding limits
limits_refuses h =
    let size = eqb (cap h.width) 0 || eqb (cap h.height) 0 || ltb 8192 (cap h.width) || ltb 8192 (cap h.height) || ltb 16777216 (cap h.height * cap h.width) in
    let top = eqb (cap h.maxval) 0 || ltb 65535 (cap h.maxval) in
    let fits : size ≡ false → SizeFits h.width h.height = λ e. size_uncapped h.width h.height (size_within (cap h.width) (cap h.height) e) in
    refuses-like code_of (cond size (Err Size) (cond top (Err Maxval) (Ok tt))) (λ c. (size ≡ true) × (code.Size ≡ c) ⊎ (size ≡ false) × ((top ≡ true) × (code.Maxval ≡ c) ⊎ (top ≡ false) × ⊥)) (LimitsRefusal h)
    (refuses-test code_of size Size (cond top (Err Maxval) (Ok tt)) (λ c. (top ≡ true) × (code.Maxval ≡ c) ⊎ (top ≡ false) × ⊥) (refuses-test code_of top Maxval (good tt) (λ c. ⊥) (refuses-given code_of tt)))
    (λ c r. elim r [
      | inl p ↦ inl (p.1, size_refused h.width h.height p.0)
      | inr q ↦ elim q.1 [
        | inl p ↦ inr (p.1, fits q.0, λ m. false≢true (sym (maxval_fine (cap h.maxval) (omega (arith, m.some)) (omega (arith, m.small))) ∙ p.0))
        | inr none ↦ absurd none.1
      ]
    ])
    (λ c r. elim r [
      | inl p ↦ elim (cases_Bool size) [ inl e ↦ inl (e, p.0) | inr e ↦ absurd (p.1 (fits e)) ]
      | inr q ↦ elim (cases_Bool size) [
        | inl e ↦ absurd (size_refused h.width h.height e q.1)
        | inr e ↦ elim (cases_Bool top) [ inl f ↦ inr (e, inl (f, q.0)) | inr f ↦ absurd (q.2 (maxval_uncapped h.maxval (maxval_within (cap h.maxval) f))) ]
      ]
    ])

-- ---- raw rasters

not_nil : (n : ℕ) (bytes : List ℕ) → n < length bytes → drop n bytes ≢ []
not_nil n bytes lt e = let len : length (drop n bytes) ≡ 0 = ap length e in absurd (omega (arith, len, length-drop n bytes, lt))

-- the rasters that stand at the front of enough bytes

bits_lead : (w h m : ℕ) (bytes : List ℕ) → h * ((w + 7) / 8) ≤ length bytes
    → BeginsRaster (headed RawBits w h m) bytes (rows_bits w h (take (h * ((w + 7) / 8)) bytes)) (drop (h * ((w + 7) / 8)) bytes)
bits_lead w h m bytes le =
    let n = h * ((w + 7) / 8) in
    let len : length (take n bytes) ≡ n = length-take-le n bytes le in
    record {
      front = take n bytes;
      parts = sym (take-append-drop n bytes);
      is_raster = record { count = rows_length w h (take n bytes) (omega (arith, len)); spelled = rows_from w h (take n bytes) len };
    }

grey8_lead : (w h m : ℕ) (bytes : List ℕ) → m < 256 → h * w ≤ length bytes → BeginsRaster (headed RawGrey w h m) bytes (take (h * w) bytes) (drop (h * w) bytes)
grey8_lead w h m bytes lt le =
    record {
      front = take (h * w) bytes;
      parts = sym (take-append-drop (h * w) bytes);
      is_raster = record { count = length-take-le (h * w) bytes le; spelled = ((λ low. refl), (λ high. absurd (omega (arith, lt, high)))) };
    }

grey16_lead : (w h m : ℕ) (bytes : List ℕ) → 256 ≤ m → 2 * (h * w) ≤ length bytes
    → BeginsRaster (headed RawGrey w h m) bytes (two_byte_samples (take (2 * (h * w)) bytes)) (drop (2 * (h * w)) bytes)
grey16_lead w h m bytes ge le =
    let n = 2 * (h * w) in
    let len : length (take n bytes) ≡ (h * w) + (h * w) = length-take-le n bytes le ∙ omega arith in
    record {
      front = take n bytes;
      parts = sym (take-append-drop n bytes);
      is_raster = record { count = words_length (h * w) (take n bytes) len; spelled = ((λ low. absurd (omega (arith, ge, low))), (λ high. pairs_from (h * w) (take n bytes) (two_byte_samples (take n bytes)) len refl)) };
    }

greatest-above : (xs : List ℕ) (m : ℕ) → ¬ Within m xs → m < fold max 0 xs
greatest-above xs m none = elim (cases_lt m (fold max 0 xs)) [ inl lt ↦ lt | inr le ↦ absurd (none (fold_bound xs 0 m le).1) ]

-- the bytes of a raster at the front, and the samples that are taken from them
record Taken (wanted : ℕ) (bytes samples rest : List ℕ) (taken : List ℕ) : Type 0 where
  enough : wanted ≤ length bytes
  same : taken ≡ samples
  left : rest ≢ [] → wanted < length bytes

left_over : (wanted : ℕ) (bytes front rest : List ℕ) → bytes ≡ front ++ rest → length front ≡ wanted → rest ≢ [] → wanted < length bytes
left_over wanted bytes front [] parts len some = absurd (some refl)
left_over wanted bytes front (b ∷ rest) parts len some = omega (arith, ap length parts, length-append front (b ∷ rest), len)

taken8 : (w h m : ℕ) (bytes samples rest : List ℕ) → m < 256 → BeginsRaster (headed RawGrey w h m) bytes samples rest → Taken (h * w) bytes samples rest (take (h * w) bytes)
taken8 w h m bytes samples rest lt l =
    let same : l.front ≡ samples = l.is_raster.spelled.0 lt in
    let len : length l.front ≡ h * w = ap length same ∙ l.is_raster.count in
    record {
      enough = omega (arith, ap length l.parts, length-append l.front rest, len);
      same = ap (take (h * w)) l.parts ∙ take_at l.front rest (h * w) len ∙ same;
      left = left_over (h * w) bytes l.front rest l.parts len;
    }

taken16 : (w h m : ℕ) (bytes samples rest : List ℕ) → 256 ≤ m → BeginsRaster (headed RawGrey w h m) bytes samples rest → Taken (2 * (h * w)) bytes samples rest (two_byte_samples (take (2 * (h * w)) bytes))
taken16 w h m bytes samples rest ge l =
    let p = pairs_words l.front samples (l.is_raster.spelled.1 ge) in
    let len : length l.front ≡ 2 * (h * w) = p.1 ∙ ap (λ k. 2 * k) l.is_raster.count in
    record {
      enough = omega (arith, ap length l.parts, length-append l.front rest, len);
      same = ap (λ (t : List ℕ). two_byte_samples (take (2 * (h * w)) t)) l.parts ∙ ap two_byte_samples (take_at l.front rest (2 * (h * w)) len) ∙ p.0;
      left = left_over (2 * (h * w)) bytes l.front rest l.parts len;
    }

-- the three tests of a raw raster in levels of grey
abbrev raw_tests : ℕ → ℕ → List ℕ → List ℕ → Result (List ℕ) ReadFault
raw_tests wanted m bytes samples = cond (ltb (length bytes) wanted) (Err Short) (cond (ltb m (fold max 0 samples)) (Err Sample) (cond (ltb wanted (length bytes)) (Err Trailing) (Ok samples)))

abbrev TooLong : ℕ → List ℕ → Code → Type 0
TooLong wanted bytes c = (ltb wanted (length bytes) ≡ true) × (code.Trailing ≡ c) ⊎ (ltb wanted (length bytes) ≡ false) × ⊥

abbrev TooHigh : ℕ → ℕ → List ℕ → List ℕ → Code → Type 0
TooHigh wanted m bytes samples c = (ltb m (fold max 0 samples) ≡ true) × (code.Sample ≡ c) ⊎ (ltb m (fold max 0 samples) ≡ false) × TooLong wanted bytes c

raw_refuses : (h : Head) (wanted : ℕ) (bytes samples : List ℕ) → wanted ≡ raw_size h.format h.width h.height h.maxval → (wanted ≤ length bytes → BeginsRaster h bytes samples (drop wanted bytes))
    → ((ss rest : List ℕ) → BeginsRaster h bytes ss rest → Taken wanted bytes ss rest samples) → RefusesAs code_of (raw_tests wanted h.maxval bytes samples) (RawRefuses h bytes)
raw_refuses h wanted bytes samples size leads taken =
    refuses-like code_of (raw_tests wanted h.maxval bytes samples)
    (λ c. (ltb (length bytes) wanted ≡ true) × (code.Short ≡ c) ⊎ (ltb (length bytes) wanted ≡ false) × TooHigh wanted h.maxval bytes samples c) (RawRefuses h bytes)
    (refuses-test code_of (ltb (length bytes) wanted) Short (cond (ltb h.maxval (fold max 0 samples)) (Err Sample) (cond (ltb wanted (length bytes)) (Err Trailing) (Ok samples))) (TooHigh wanted h.maxval bytes samples)
    (refuses-test code_of (ltb h.maxval (fold max 0 samples)) Sample (cond (ltb wanted (length bytes)) (Err Trailing) (Ok samples)) (TooLong wanted bytes)
    (refuses-test code_of (ltb wanted (length bytes)) Trailing (good samples) (λ c. ⊥) (refuses-given code_of samples))))
    to from
  where
    to : (c : Code) → (ltb (length bytes) wanted ≡ true) × (code.Short ≡ c) ⊎ (ltb (length bytes) wanted ≡ false) × TooHigh wanted h.maxval bytes samples c → RawRefuses h bytes c
    to c (inl (less, is)) = subst (RawRefuses h bytes) is (short (subst (λ n. length bytes < n) size (ltb-true _ _ less)))
    to c (inr (long, inl (high, is))) =
        let past : h.maxval < fold max 0 samples = ltb-true _ _ high in
        subst (RawRefuses h bytes) is (over samples (drop wanted bytes) (leads (ltb-false _ _ long)) (λ within. absurd (omega (arith, past, fold_within samples 0 h.maxval (omega arith) within))))
    to c (inr (long, inr (low, inl (rest, is)))) =
        subst (RawRefuses h bytes) is (more samples (drop wanted bytes) (leads (ltb-false _ _ long)) (fold_bound samples 0 h.maxval (ltb-false _ _ low)).1 (not_nil wanted bytes (ltb-true _ _ rest)))
    to c (inr (long, inr (low, inr (all, none)))) = absurd none

    from : (c : Code) → RawRefuses h bytes c → (ltb (length bytes) wanted ≡ true) × (code.Short ≡ c) ⊎ (ltb (length bytes) wanted ≡ false) × TooHigh wanted h.maxval bytes samples c
    from c (short less) = inl (lt-ltb _ _ (subst (λ n. length bytes < n) (sym size) less), refl)
    from c (over ss rest l none) =
        let t = taken ss rest l in
        inr (le-ltb _ _ t.enough, inl (lt-ltb _ _ (greatest-above samples h.maxval (subst (λ (ys : List ℕ). ¬ Within h.maxval ys) (sym t.same) none)), refl))
    from c (more ss rest l within some) =
        let t = taken ss rest l in
        inr (le-ltb _ _ t.enough, inr (le-ltb _ _ (fold_within samples 0 h.maxval (omega arith) (subst (λ (ys : List ℕ). Within h.maxval ys) (sym t.same) within)), inl (lt-ltb _ _ (t.left some), refl)))

raw_grey_refuses : (w h m : ℕ) (bytes : List ℕ) → RefusesAs code_of (cond (ltb m 256) (grey8_at (h * w) m bytes) (grey16_at (h * w) m bytes)) (RawRefuses (headed RawGrey w h m) bytes)
unfolding grey8_at grey16_at
raw_grey_refuses w h m bytes =
    elim (cases_lt m 256) [
      | inl lt ↦
          let size : h * w ≡ cond (ltb m 256) (h * w) (2 * (h * w)) = rw (lt-ltb _ _ lt) refl in
          rw (lt-ltb _ _ lt) (raw_refuses (headed RawGrey w h m) (h * w) bytes (take (h * w) bytes) size (λ le. grey8_lead w h m bytes lt le) (λ ss rest l. taken8 w h m bytes ss rest lt l))
      | inr ge ↦
          let size : 2 * (h * w) ≡ cond (ltb m 256) (h * w) (2 * (h * w)) = rw (le-ltb _ _ ge) refl in
          rw (le-ltb _ _ ge) (raw_refuses (headed RawGrey w h m) (2 * (h * w)) bytes (two_byte_samples (take (2 * (h * w)) bytes)) size (λ le. grey16_lead w h m bytes ge le) (λ ss rest l. taken16 w h m bytes ss rest ge l))
    ]

raw_bits_refuses : (w h m : ℕ) (bytes : List ℕ) → m ≡ 1 → RefusesAs code_of (bits_in_raster w h bytes) (RawRefuses (headed RawBits w h m) bytes)
unfolding bits_in_raster
raw_bits_refuses w h m bytes one =
    let n = h * ((w + 7) / 8) in
    refuses-like code_of (cond (ltb (length bytes) n) (Err Short) (cond (ltb n (length bytes)) (Err Trailing) (Ok (rows_bits w h bytes))))
    (λ c. (ltb (length bytes) n ≡ true) × (code.Short ≡ c) ⊎ (ltb (length bytes) n ≡ false) × TooLong n bytes c) (RawRefuses (headed RawBits w h m) bytes)
    (refuses-test code_of (ltb (length bytes) n) Short (cond (ltb n (length bytes)) (Err Trailing) (Ok (rows_bits w h bytes))) (TooLong n bytes)
    (refuses-test code_of (ltb n (length bytes)) Trailing (good (rows_bits w h bytes)) (λ c. ⊥) (refuses-given code_of (rows_bits w h bytes))))
    to from
  where
    within_bits : (ss : List ℕ) → Within 1 ss → Within m ss
    within_bits ss low = subst (λ k. Within k ss) (sym one) low

    to : (c : Code) → (ltb (length bytes) (h * ((w + 7) / 8)) ≡ true) × (code.Short ≡ c) ⊎ (ltb (length bytes) (h * ((w + 7) / 8)) ≡ false) × TooLong (h * ((w + 7) / 8)) bytes c → RawRefuses (headed RawBits w h m) bytes c
    to c (inl (less, is)) = subst (RawRefuses (headed RawBits w h m) bytes) is (short (ltb-true _ _ less))
    to c (inr (long, inl (rest, is))) =
        let n = h * ((w + 7) / 8) in
        subst (RawRefuses (headed RawBits w h m) bytes) is
        (more (rows_bits w h (take n bytes)) (drop n bytes) (bits_lead w h m bytes (ltb-false _ _ long)) (within_bits (rows_bits w h (take n bytes)) (rows_within w h (take n bytes))) (not_nil n bytes (ltb-true _ _ rest)))
    to c (inr (long, inr (all, none))) = absurd none

    from : (c : Code) → RawRefuses (headed RawBits w h m) bytes c → (ltb (length bytes) (h * ((w + 7) / 8)) ≡ true) × (code.Short ≡ c) ⊎ (ltb (length bytes) (h * ((w + 7) / 8)) ≡ false) × TooLong (h * ((w + 7) / 8)) bytes c
    from c (short less) = inl (lt-ltb _ _ less, refl)
    from c (over ss rest l none) =
        let r = rows_read w h l.front ss l.is_raster.spelled in
        absurd (none (within_bits ss (subst (λ (ys : List ℕ). Within 1 ys) r.0 (rows_within w h l.front))))
    from c (more ss rest l within some) =
        let r = rows_read w h l.front ss l.is_raster.spelled in
        let longer = left_over (h * ((w + 7) / 8)) bytes l.front rest l.parts r.1 some in
        inr (le-ltb _ _ (omega (arith, longer)), inl (lt-ltb _ _ longer, refl))

-- ---- any raster

raster_refuses : (format : Format) (w h m : ℕ) (bytes : List ℕ) → m ≤ 65535 → SetMaxval format m → RefusesAs code_of (raster_as format w h m bytes) (RasterRefusesAs format (headed format w h m) bytes)
unfolding raster_as
raster_refuses PlainBits w h m bytes low one = refuses-view code_of (plain_at pixel_in_text (h * w) bytes) (λ xs. picture_under (headed PlainBits w h 1) xs) (PlainRefuses IsPixel 1 (h * w) bytes) (pixels_refuses (h * w) bytes)
raster_refuses RawBits w h m bytes low one = refuses-view code_of (bits_in_raster w h bytes) (λ xs. picture_under (headed RawBits w h 1) xs) (RawRefuses (headed RawBits w h m) bytes) (raw_bits_refuses w h m bytes one)
raster_refuses PlainGrey w h m bytes low one =
    refuses-view code_of (plain_at (sample_in_text m) (h * w) bytes) (λ xs. picture_under (headed PlainGrey w h m) xs) (PlainRefuses IsSample m (h * w) bytes) (plain_refuses (sample_in_text m) IsSample m (reads_samples m low) (h * w) bytes)
raster_refuses RawGrey w h m bytes low one =
    refuses-view code_of (cond (ltb m 256) (grey8_at (h * w) m bytes) (grey16_at (h * w) m bytes)) (λ xs. picture_under (headed RawGrey w h m) xs) (RawRefuses (headed RawGrey w h m) bytes) (raw_grey_refuses w h m bytes)

-- ---- the whole file

-- why the raster under a header is refused, or the header itself
abbrev FitRefusal : List ℕ → Head → Code → Type 0
FitRefusal raster h c = LimitsRefusal h c ⊎ ((l : Unit {0}) × (limits (capped h) ≡ Ok l) × RasterRefusesAs h.format h raster c)

fit_refuses : (bytes raster : List ℕ) (h : Head) → BeginsImage bytes h raster → RefusesAs code_of (limits (capped h) >>= λ l. image_at (capped h) raster) (FitRefusal raster h)
fit_refuses bytes raster h b =
    refuses-then code_of (limits (capped h)) (λ l. image_at (capped h) raster) (LimitsRefusal h) (λ l. RasterRefusesAs h.format h raster) (limits_refuses h)
    (λ l fine.
    let fits = limits_ok h l fine in
    subst (λ (k : Head). RefusesAs code_of (image_at k raster) (RasterRefusesAs h.format h raster)) (sym (fits_cap h fits.0 fits.1))
    (raster_refuses h.format h.width h.height h.maxval raster fits.1.small (begun_maxval bytes raster h b)))

abbrev AfterHead : List ℕ → List ℕ → Code → Type 0
AfterHead bytes raster c = (h : Head) × BeginsImage bytes h raster × FitRefusal raster h c

after_head : (bytes : List ℕ) (x : Head × List ℕ) → head_at bytes ≡ Ok x → RefusesAs code_of (limits x.0 >>= λ l. image_at x.0 x.1) (AfterHead bytes x.1)
after_head bytes x is = record {
  refused = λ d e.
      let p = head_parts bytes x is in
      (p.head, p.begins, (fit_refuses bytes x.1 p.head p.begins).refused d (subst (λ (k : Head). (limits k >>= λ l. image_at k x.1) ≡ Err d) p.is_capped e));
  met = λ c r.
      let m = (fit_refuses bytes x.1 r.0 r.1).met c r.2 in
      let same : x.0 ≡ capped r.0 = ap (λ (y : Head × List ℕ). y.0) (ok_is x (capped r.0, x.1) (sym is ∙ begun_read bytes x.1 r.0 r.1)) in
      (m.0, m.1, subst (λ (k : Head). (limits k >>= λ l. image_at k x.1) ≡ Err m.0) (sym same) m.2);
}

pub file_refuses : (bytes : List ℕ) → RefusesAs code_of (reading bytes) (Refuses bytes)
unfolding reading
file_refuses bytes =
    refuses-like code_of (head_at bytes >>= λ h. limits h.0 >>= λ l. image_at h.0 h.1) (λ c. HeadRefusal bytes c ⊎ ((x : Head × List ℕ) × (head_at bytes ≡ Ok x) × AfterHead bytes x.1 c)) (Refuses bytes)
    (refuses-then code_of (head_at bytes) (λ h. limits h.0 >>= λ l. image_at h.0 h.1) (HeadRefusal bytes) (λ x. AfterHead bytes x.1) (head_refuses bytes) (after_head bytes)) to from
  where
    to : (c : Code) → HeadRefusal bytes c ⊎ ((x : Head × List ℕ) × (head_at bytes ≡ Ok x) × AfterHead bytes x.1 c) → Refuses bytes c
    to c (inl (inl (is, none))) = subst (Refuses bytes) is (no_magic (λ format has. none (format, has.0) (magic_found format bytes has)))
    to c (inl (inr (m, found, (is, none)))) = subst (Refuses bytes) is (no_header m.0 (m.1, magic_parts bytes m found) (λ h raster b. none (capped h, raster) (begun_read bytes raster h b)))
    to c (inr (x, read, (h, b, inl (inl (is, none))))) = subst (Refuses bytes) is (bad_size h x.1 b none)
    to c (inr (x, read, (h, b, inl (inr (is, fits, none))))) = subst (Refuses bytes) is (bad_maxval h x.1 b fits none)
    to c (inr (x, read, (h, b, inr (l, fine, r)))) = let fits = limits_ok h l fine in bad_raster h x.1 c b fits.0 fits.1 r

    from : (c : Code) → Refuses bytes c → HeadRefusal bytes c ⊎ ((x : Head × List ℕ) × (head_at bytes ≡ Ok x) × AfterHead bytes x.1 c)
    from c (no_magic none) = inl (inl (refl, λ x e. none x.0 (x.1, magic_parts bytes x e)))
    from c (no_header format has none) = inl (inr ((format, has.0), magic_found format bytes has, (refl, λ x e. let p = head_parts bytes x e in none p.head x.1 p.begins)))
    from c (bad_size h raster b none) = inr ((capped h, raster), begun_read bytes raster h b, (h, b, inl (inl (refl, none))))
    from c (bad_maxval h raster b fits none) = inr ((capped h, raster), begun_read bytes raster h b, (h, b, inl (inr (refl, fits, none))))
    from c (bad_raster h raster k b size top r) = inr ((capped h, raster), begun_read bytes raster h b, (h, b, inr (tt, ap limits (fits_cap h size top) ∙ limits_fine h size top, r)))

-- ---- want of memory is no refusal

raw_memory : (h : Head) (bytes : List ℕ) → RawRefuses h bytes code.Memory → ⊥
raw_memory h bytes r = elim r [ ]

raster_memory : (format : Format) (h : Head) (bytes : List ℕ) → RasterRefusesAs format h bytes code.Memory → ⊥
raster_memory PlainBits h bytes r = plain_memory IsPixel 1 (h.height * h.width) bytes r
raster_memory PlainGrey h bytes r = plain_memory IsSample h.maxval (h.height * h.width) bytes r
raster_memory RawBits h bytes r = raw_memory h bytes r
raster_memory RawGrey h bytes r = raw_memory h bytes r

pub file_memory : (bytes : List ℕ) → Refuses bytes code.Memory → ⊥
file_memory bytes (bad_raster h raster c b s m r) = raster_memory h.format h raster r

-- ---- what the reader answers

refused_fails : (e : ReadFault) (bytes : List ℕ) (r : Result Picture ReadFault) → reading bytes ≡ r → Fails e r → (e ≡ NoMemory → ⊥) → Refuses bytes (code_of e)
refused_fails NoMemory bytes r s f n = absurd (n refl)
refused_fails e bytes r s f n = (file_refuses bytes).refused e (s ∙ f)

memory_fails : (bytes : List ℕ) (r : Result Picture ReadFault) → reading bytes ≡ r → Fails NoMemory r → (i : Picture) × IsFile bytes i
memory_fails bytes (Ok i) s f = (i, read_file bytes i s)
memory_fails bytes (Err d) s (inl f) = absurd (let clash : false ≡ true = f in cc)
memory_fails bytes (Err d) s (inr f) = absurd (file_memory bytes ((file_refuses bytes).refused NoMemory (s ∙ f)))

pub is_refused : (bytes : List ℕ) (r : Result Picture ReadFault) → Gives (λ i. i) r (reading bytes) → IfErr r (λ e. e ≢ NoMemory → Refuses bytes (code_of e))
is_refused bytes (Ok i) g = tt
is_refused bytes (Err e) g = λ n. refused_fails e bytes (reading bytes) refl g n

pub is_memory : (bytes : List ℕ) (r : Result Picture ReadFault) → Gives (λ i. i) r (reading bytes) → r ≡ Err NoMemory → (i : Picture) × IsFile bytes i
is_memory bytes (Ok i) g same = absurd cc
is_memory bytes (Err e) g same =
    let e-is : e ≡ NoMemory = cc in
    memory_fails bytes (reading bytes) refl (subst (λ k. Fails k (reading bytes)) e-is g)
