-- Reading a header or a plain raster fails exactly where it is refused, with the fault that the refusal names.
use Rattle.std.proofs.Common.{◌≡◌, ℕ, zero, suc, ◌-◌, ◌≤◌, Bool, true, false, cond, eqb, ltb, List, [], ◌∷◌, Result, Ok, Err, refl, sym, ap, subst, ◌∙◌, inl, inr, ◌⊎◌, ◌||◌, not}
use Rattle.std.proofs.lemmas.List.{append-nil}
use Rattle.mw_netpbm_plain.specs.declared.fault.ReadFault.{ReadFault}
use Rattle.mw_netpbm_plain.specs.declared.fault.ReadFault.TheVariants.{Magic, Header, Short, Sample, Trailing}
use Rattle.mw_model.specs.declared.formats.Format.{Format}
use Rattle.mw_model.specs.declared.formats.Format.TheVariants.{PlainBits, PlainGrey, RawBits, RawGrey}
use Rattle.mw_model.specs.declared.formats.Header.{Header as Head}
use Rattle.mw_netpbm_plain.specs.Reading.{◌>>=◌, skip_from, gap_at, digits_from, number_in_text, field_at}
use Rattle.mw_netpbm_plain.specs.Heading.{head_at, magic_at, maxval_at, white_at}
use Rattle.mw_netpbm_plain.specs.Plain.{plain_at, pixel_in_text, sample_in_text, tail_at, bit_at, apart, level_in_text}
use Rattle.mw_model.specs.NetpbmGrammar.{IsPixel, IsSample, is_white, is_digit, is_eol}
use Rattle.mw_netpbm_plain.proofs.Whole.{cond-chosen, sample_small}
use Rattle.mw_netpbm_plain.proofs.Headers.{magic_whole}
use Rattle.mw_netpbm_plain.proofs.Blanks.{Skipped, at_visible, at_end, in_comment, skipped, skip_blank, skip_visible, skip_hash}
use Rattle.mw_netpbm_plain.proofs.Rasters.{pixel_parts, pixel_whole, sample_parts, sample_whole, tail_whole, tail_from}
use Rattle.mw_model.specs.NetpbmRefusals.{HasMagic, PlainRefuses, spent, wrong, later, no_tail, IsSpent, ShowsByte}
use Rattle.mw_model.specs.declared.codes.Code.TheVariants as code
use Rattle.mw_netpbm_plain.specs.Faults.{code_of}
use Rattle.std.specs.List.{AllByRecursion}
use Rattle.mw_model.specs.declared.codes.Code.{Code}
use Rattle.mw_netpbm_plain.proofs.Outcomes.{good, bad, no_both, ok_or_err, RefusesAs, refuses-with, refuses-then, refuses-view, refuses-like, only-then}

-- a test that gives a value, or what comes after it
else_err : {A : Type 0} (b : Bool) (x : A) (r : Result A ReadFault) (d : ReadFault) → cond b (Ok x) r ≡ Err d → r ≡ Err d
else_err true x r d e = absurd (no_both (good x) x d refl e)
else_err false x r d e = e

pub err_is : {A : Type 0} (c d : ReadFault) → bad {A = A} c ≡ bad d → c ≡ d
err_is c d e = cc

abbrev pub headed : Format → ℕ → ℕ → ℕ → Head
headed format w h m = record { format = format; width = w; height = h; maxval = m }

-- ---- the header

white_err : (bytes : List ℕ) (d : ReadFault) → white_at bytes ≡ Err d → Header ≡ d
unfolding white_at
white_err [] d e = err_is {A = List ℕ} Header d e
white_err (b ∷ bs) d e = err_is {A = List ℕ} Header d (else_err (is_white b) bs (Err Header) d e)

gap_err : (bytes : List ℕ) (d : ReadFault) → gap_at bytes ≡ Err d → Header ≡ d
unfolding gap_at
gap_err [] d e = err_is {A = List ℕ} Header d e
gap_err (b ∷ bs) d e = err_is {A = List ℕ} Header d (else_err (is_white b) (skip_from false bs) (Err Header) d e)

number_err : (bytes : List ℕ) (d : ReadFault) → number_in_text bytes ≡ Err d → Header ≡ d
unfolding number_in_text
number_err [] d e = err_is {A = ℕ × List ℕ} Header d e
number_err (b ∷ bs) d e = err_is {A = ℕ × List ℕ} Header d (else_err (is_digit b) (digits_from 0 (b ∷ bs)) (Err Header) d e)

field_err : (bytes : List ℕ) (d : ReadFault) → field_at bytes ≡ Err d → Header ≡ d
unfolding field_at
field_err bytes d e = only-then Header (gap_at bytes) number_in_text (gap_err bytes) number_err d e

maxval_err : (format : Format) (bytes : List ℕ) (d : ReadFault) → maxval_at format bytes ≡ Err d → Header ≡ d
unfolding maxval_at
maxval_err PlainBits bytes d e = absurd cc
maxval_err RawBits bytes d e = absurd cc
maxval_err PlainGrey bytes d e = field_err bytes d e
maxval_err RawGrey bytes d e = field_err bytes d e

pub magic_err : (bytes : List ℕ) (d : ReadFault) → magic_at bytes ≡ Err d → Magic ≡ d
unfolding magic_at
magic_err [] d e = err_is {A = Format × List ℕ} Magic d e
magic_err (p ∷ []) d e = err_is {A = Format × List ℕ} Magic d e
magic_err (p ∷ c ∷ bs) d e =
    let last : Result (Format × List ℕ) ReadFault = cond (eqb c 53) (Ok (RawGrey, bs)) (Err Magic) in
    let third : Result (Format × List ℕ) ReadFault = cond (eqb c 52) (Ok (RawBits, bs)) last in
    let second : Result (Format × List ℕ) ReadFault = cond (eqb c 50) (Ok (PlainGrey, bs)) third in
    let first : Result (Format × List ℕ) ReadFault = cond (eqb c 49) (Ok (PlainBits, bs)) second in
    elim (cond-chosen (eqb p 80) first (Err Magic) (Err d) e) [
      | inl w ↦
          let e1 = else_err (eqb c 49) (PlainBits, bs) second d w.1 in
          let e2 = else_err (eqb c 50) (PlainGrey, bs) third d e1 in
          let e3 = else_err (eqb c 52) (RawBits, bs) last d e2 in
          let e4 = else_err (eqb c 53) (RawGrey, bs) (Err Magic) d e3 in
          err_is {A = Format × List ℕ} Magic d e4
      | inr w ↦ err_is {A = Format × List ℕ} Magic d w.1
    ]

abbrev after_maxval : Format → ℕ → ℕ → ℕ × List ℕ → Result (Head × List ℕ) ReadFault
after_maxval format w h v = white_at v.1 >>= λ raster. good (headed format w h v.0, raster)

abbrev after_height : Format → ℕ → ℕ × List ℕ → Result (Head × List ℕ) ReadFault
after_height format w h = maxval_at format h.1 >>= λ v. after_maxval format w h.0 v

abbrev after_width : Format → ℕ × List ℕ → Result (Head × List ℕ) ReadFault
after_width format w = field_at w.1 >>= λ h. after_height format w.0 h

abbrev after_magic : Format × List ℕ → Result (Head × List ℕ) ReadFault
after_magic m = field_at m.1 >>= λ w. after_width m.0 w

-- past the magic each fault of the header is Header
only_header : (m : Format × List ℕ) (d : ReadFault) → after_magic m ≡ Err d → Header ≡ d
only_header m = only-then Header (field_at m.1) (λ w. after_width m.0 w) (field_err m.1)
    (λ w. only-then Header (field_at w.1) (λ h. after_height m.0 w.0 h) (field_err w.1)
    (λ h. only-then Header (maxval_at m.0 h.1) (λ v. after_maxval m.0 w.0 h.0 v) (maxval_err m.0 h.1)
    (λ v. only-then Header (white_at v.1) (λ raster. good (headed m.0 w.0 h.0 v.0, raster)) (white_err v.1)
    (λ raster d e. absurd (no_both (good (headed m.0 w.0 h.0 v.0, raster)) (headed m.0 w.0 h.0 v.0, raster) d refl e)))))

head_steps : (bytes : List ℕ) (m : Format × List ℕ) → magic_at bytes ≡ Ok m → head_at bytes ≡ after_magic m
unfolding head_at
head_steps bytes m is = ap (λ (t : Result (Format × List ℕ) ReadFault). t >>= λ m. after_magic m) is

pub no_magic_read : (bytes : List ℕ) (d : ReadFault) → magic_at bytes ≡ Err d → head_at bytes ≡ Err d
unfolding head_at
no_magic_read bytes d e = ap (λ (t : Result (Format × List ℕ) ReadFault). t >>= λ m. after_magic m) e

-- a header behind a magic fails with one fault
pub header_refuses : (name : ReadFault → Code) (bytes : List ℕ) (m : Format × List ℕ) → magic_at bytes ≡ Ok m → RefusesAs name (head_at bytes) (λ c. (name Header ≡ c) × ((x : Head × List ℕ) → ¬ (head_at bytes ≡ Ok x)))
header_refuses name bytes m is = refuses-with name Header (head_at bytes) (λ d e. only_header m d (sym (head_steps bytes m is) ∙ e))

pub magic_refuses : (name : ReadFault → Code) (bytes : List ℕ) → RefusesAs name (magic_at bytes) (λ c. (name Magic ≡ c) × ((x : Format × List ℕ) → ¬ (magic_at bytes ≡ Ok x)))
magic_refuses name bytes = refuses-with name Magic (magic_at bytes) (magic_err bytes)

pub magic_found : (format : Format) (bytes : List ℕ) (has : HasMagic format bytes) → magic_at bytes ≡ Ok (format, has.0)
magic_found format bytes has = ap magic_at has.1 ∙ magic_whole format has.0

-- ---- plain rasters

tail_fault : (bytes : List ℕ) (d : ReadFault) → tail_at bytes ≡ Err d → Trailing ≡ d
unfolding tail_at
tail_fault [] d e = absurd cc
tail_fault (b ∷ bs) d e = err_is {A = List ℕ} Trailing d (else_err (is_white b) [] (Err Trailing) d e)

apart_fault : (left : ℕ) (found : ℕ × List ℕ) (d : ReadFault) → apart left found ≡ Err d → Sample ≡ d
unfolding apart
apart_fault zero found d e = absurd cc
apart_fault (suc left) (n, []) d e = absurd cc
apart_fault (suc left) (n, b ∷ bs) d e = err_is {A = ℕ × List ℕ} Sample d (else_err (is_white b) (n, b ∷ bs) (Err Sample) d e)

bit_fault : (b : ℕ) (bs : List ℕ) (d : ReadFault) → bit_at (b ∷ bs) ≡ Err d → Sample ≡ d
unfolding bit_at
bit_fault b bs d e = err_is {A = ℕ × List ℕ} Sample d (else_err (eqb b 48 || eqb b 49) (b - 48, bs) (Err Sample) d e)

level_fault : (m left b : ℕ) (bs : List ℕ) (d : ReadFault) → level_in_text m left (b ∷ bs) ≡ Err d → Sample ≡ d
unfolding level_in_text
level_fault m left b bs d e =
    let found = digits_from 0 (b ∷ bs) in
    elim (cond-chosen (is_digit b) (cond (ltb m (found.0)) (Err Sample) (apart left found)) (Err Sample) (Err d) e) [
      | inl w ↦ elim (cond-chosen (ltb m (found.0)) (Err Sample) (apart left found) (Err d) w.1) [ inl high ↦ err_is {A = ℕ × List ℕ} Sample d high.1 | inr low ↦ apart_fault left found d low.1 ]
      | inr w ↦ err_is {A = ℕ × List ℕ} Sample d w.1
    ]

in_text : (text : List ℕ) → AllByRecursion (λ b. is_eol b ≡ false) text → skip_from true text ≡ []
unfolding skip_from
in_text [] all = refl
in_text (b ∷ text) all = ap (λ (x : Bool). skip_from (not x) text) all.0 ∙ in_text text all.1

skip_nil : skip_from false [] ≡ []
unfolding skip_from
skip_nil = refl

spent_skipped : (bytes : List ℕ) → IsSpent bytes → skip_from false bytes ≡ []
spent_skipped bytes (inl bl) = ap (skip_from false) (sym (append-nil bytes)) ∙ skip_blank bytes [] bl ∙ skip_nil
spent_skipped bytes (inr (blank, text, parts, bl, all)) = ap (skip_from false) parts ∙ skip_blank blank (35 ∷ text) bl ∙ skip_hash text ∙ in_text text all

shows_byte : (bytes : List ℕ) → ShowsByte bytes → (b : ℕ) × (rest : List ℕ) × (skip_from false bytes ≡ b ∷ rest)
shows_byte bytes (blank, b, rest, parts, bl, v, w) = (b, rest, ap (skip_from false) parts ∙ skip_blank blank (b ∷ rest) bl ∙ skip_visible b rest (v, w))

-- why a place is refused: the bytes are spent, or some byte shows that begins no good place
abbrev PlaceRefusal : (ℕ → List ℕ → ℕ → List ℕ → Type 0) → ℕ → ℕ → List ℕ → Code → Type 0
PlaceRefusal Place m left bytes c = (code.Short ≡ c) × IsSpent bytes ⊎ (code.Sample ≡ c) × ShowsByte bytes × ((s : ℕ) (rest : List ℕ) → Place left bytes s rest → s ≤ m → ⊥)

-- a reader of one place
pub record ReadsPlace (place : ℕ → List ℕ → Result (ℕ × List ℕ) ReadFault) (Place : ℕ → List ℕ → ℕ → List ℕ → Type 0) (m : ℕ) : Type 0 where
  parts : (left : ℕ) (bytes : List ℕ) (x : ℕ × List ℕ) → place left bytes ≡ Ok x → Place left bytes x.0 x.1 × (x.0 ≤ m)
  whole : (left : ℕ) (bytes : List ℕ) (s : ℕ) (rest : List ℕ) → Place left bytes s rest → s ≤ m → place left bytes ≡ Ok (s, rest)
  refuses : (left : ℕ) (bytes : List ℕ) → RefusesAs code_of (place left bytes) (PlaceRefusal Place m left bytes)

-- a place that is read after skipping
place_refuses : (Place : ℕ → List ℕ → ℕ → List ℕ → Type 0) (m left : ℕ) (bytes : List ℕ) (after : List ℕ → Result (ℕ × List ℕ) ReadFault)
    → after [] ≡ Err Short → ((b : ℕ) (bs : List ℕ) (d : ReadFault) → after (b ∷ bs) ≡ Err d → Sample ≡ d)
    → ((x : ℕ × List ℕ) → after (skip_from false bytes) ≡ Ok x → Place left bytes x.0 x.1 × (x.0 ≤ m))
    → ((s : ℕ) (rest : List ℕ) → Place left bytes s rest → s ≤ m → after (skip_from false bytes) ≡ Ok (s, rest))
    → RefusesAs code_of (after (skip_from false bytes)) (PlaceRefusal Place m left bytes)
place_refuses Place m left bytes after at_nil at_byte parts whole = record {
  refused = λ d e. failed bytes (skip_from false bytes) d (λ s rest is le. no_both (after (skip_from false bytes)) (s, rest) d (whole s rest is le) e) (skipped bytes) e;
  met = λ c r. elim r [
    | inl p ↦ (Short, p.0, ap after (spent_skipped bytes p.1) ∙ at_nil)
    | inr q ↦ elim (ok_or_err (after (skip_from false bytes))) [
      | inl x ↦ let g = parts x.0 x.1 in absurd (q.2 x.0.0 x.0.1 g.0 g.1)
      | inr d ↦ let s = shows_byte bytes q.1 in (d.0, ap code_of (sym (at_byte s.0 s.1 d.0 (ap after (sym s.2) ∙ d.1))) ∙ q.0, d.1)
    ]
  ];
}
  where
    failed : (bytes seen : List ℕ) (d : ReadFault) → ((s : ℕ) (rest : List ℕ) → Place left bytes s rest → s ≤ m → ⊥) → Skipped bytes seen → after seen ≡ Err d → PlaceRefusal Place m left bytes (code_of d)
    failed bytes seen d none (at_visible blank b bs bl v) e = inr (ap code_of (at_byte b bs d e), (blank, b, bs, refl, bl, v.0, v.1), none)
    failed bytes seen d none (at_end all bl) e = inl (ap code_of (err_is {A = ℕ × List ℕ} Short d (sym at_nil ∙ e)), inl bl)
    failed bytes seen d none (in_comment blank text bl all) e = inl (ap code_of (err_is {A = ℕ × List ℕ} Short d (sym at_nil ∙ e)), inr (blank, text, refl, bl, all))

bit_short : bit_at [] ≡ Err Short
unfolding bit_at
bit_short = refl

level_short : (m left : ℕ) → level_in_text m left [] ≡ Err Short
unfolding level_in_text
level_short m left = refl

reads_pixels : ReadsPlace pixel_in_text IsPixel 1
unfolding pixel_in_text
reads_pixels = record {
  parts = λ left bytes x e. let p = pixel_parts left bytes x e in (p, p.3);
  whole = λ left bytes s rest is le. pixel_whole left bytes s rest is;
  refuses = λ left bytes. place_refuses IsPixel 1 left bytes bit_at bit_short bit_fault (λ x e. let p = pixel_parts left bytes x e in (p, p.3)) (λ s rest is le. pixel_whole left bytes s rest is);
}

pub reads_samples : (m : ℕ) → m ≤ 65535 → ReadsPlace (sample_in_text m) IsSample m
unfolding sample_in_text
reads_samples m low = record {
  parts = λ left bytes x e. (sample_parts m left bytes x low e, sample_small m left bytes x e);
  whole = λ left bytes s rest is le. sample_whole m left bytes s rest is le low;
  refuses = λ left bytes. place_refuses IsSample m left bytes (level_in_text m left) (level_short m left) (level_fault m left) (λ x e. (sample_parts m left bytes x low e, sample_small m left bytes x e))
      (λ s rest is le. sample_whole m left bytes s rest is le low);
}

pub plain_refuses : (place : ℕ → List ℕ → Result (ℕ × List ℕ) ReadFault) (Place : ℕ → List ℕ → ℕ → List ℕ → Type 0) (m : ℕ) → ReadsPlace place Place m
    → (n : ℕ) (bytes : List ℕ) → RefusesAs code_of (plain_at place n bytes) (PlainRefuses Place m n bytes)
unfolding plain_at
plain_refuses place Place m reader zero bytes =
    refuses-like code_of (tail_at bytes) (λ c. (code.Trailing ≡ c) × ((x : List ℕ) → ¬ (tail_at bytes ≡ Ok x))) (PlainRefuses Place m 0 bytes)
    (refuses-with code_of Trailing (tail_at bytes) (tail_fault bytes)) (λ c r. subst (PlainRefuses Place m 0 bytes) r.0 (no_tail bytes (λ is. r.1 [] (tail_whole bytes is)))) from
  where
    from : (c : Code) → PlainRefuses Place m 0 bytes c → (code.Trailing ≡ c) × ((x : List ℕ) → ¬ (tail_at bytes ≡ Ok x))
    from c (no_tail all none) = (refl, λ x e. none (tail_from bytes x e))
plain_refuses place Place m reader (suc n) bytes =
    refuses-like code_of (place n bytes >>= λ first. plain_at place n first.1 >>= λ others. good (first.0 ∷ others))
    (λ c. PlaceRefusal Place m n bytes c ⊎ ((x : ℕ × List ℕ) × (place n bytes ≡ Ok x) × PlainRefuses Place m n x.1 c)) (PlainRefuses Place m (suc n) bytes)
    (refuses-then code_of (place n bytes) (λ first. plain_at place n first.1 >>= λ others. good (first.0 ∷ others)) (PlaceRefusal Place m n bytes) (λ x. PlainRefuses Place m n x.1) (reader.refuses n bytes)
    (λ x is. refuses-view code_of (plain_at place n x.1) (λ others. x.0 ∷ others) (PlainRefuses Place m n x.1) (plain_refuses place Place m reader n x.1)))
    to from
  where
    to : (c : Code) → PlaceRefusal Place m n bytes c ⊎ ((x : ℕ × List ℕ) × (place n bytes ≡ Ok x) × PlainRefuses Place m n x.1 c) → PlainRefuses Place m (suc n) bytes c
    to c (inl (inl (is, all))) = subst (PlainRefuses Place m (suc n) bytes) is (spent n bytes all)
    to c (inl (inr (is, shows, none))) = subst (PlainRefuses Place m (suc n) bytes) is (wrong n bytes shows none)
    to c (inr (x, is, r)) = let g = reader.parts n bytes x is in later n bytes c x.0 x.1 g.0 g.1 r

    from : (c : Code) → PlainRefuses Place m (suc n) bytes c → PlaceRefusal Place m n bytes c ⊎ ((x : ℕ × List ℕ) × (place n bytes ≡ Ok x) × PlainRefuses Place m n x.1 c)
    from c (spent left all is) = inl (inl (refl, is))
    from c (wrong left all shows none) = inl (inr (refl, shows, none))
    from c (later left all k s rest is le r) = inr ((s, rest), reader.whole n bytes s rest is le, r)

pub pixels_refuses : (n : ℕ) (bytes : List ℕ) → RefusesAs code_of (plain_at pixel_in_text n bytes) (PlainRefuses IsPixel 1 n bytes)
pixels_refuses n bytes = plain_refuses pixel_in_text IsPixel 1 reads_pixels n bytes

-- ---- want of memory is no refusal

pub plain_memory : (Place : ℕ → List ℕ → ℕ → List ℕ → Type 0) (m n : ℕ) (bytes : List ℕ) → PlainRefuses Place m n bytes code.Memory → ⊥
plain_memory Place m n bytes (later left all c s rest is le r) = plain_memory Place m left rest r
