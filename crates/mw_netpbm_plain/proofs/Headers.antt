-- A header is read where one stands, and what is read as one is one.
use Rattle.std.proofs.Common.{◌≡◌, ℕ, ◌+◌, ◌-◌, ◌≤◌, Bool, true, false, cond, eqb, List, [], ◌∷◌, ◌++◌, length, drop, Result, Ok, Err, IsTrue, refl, sym, ap, subst, ◌∙◌, arith, inl, inr, append_assoc, length-append}
use Rattle.std.proofs.lemmas.Bool.{eqb-true}
use Rattle.std.proofs.lemmas.List.{drop_at}
use Rattle.mw_netpbm_plain.specs.declared.fault.ReadFault.{ReadFault}
use Rattle.mw_netpbm_plain.specs.declared.fault.ReadFault.TheVariants.{Magic, Header}
use Rattle.mw_model.specs.declared.formats.Format.{Format}
use Rattle.mw_model.specs.declared.formats.Format.TheVariants.{PlainBits, PlainGrey, RawBits, RawGrey}
use Rattle.mw_model.specs.declared.formats.Header.{Header as Head}
use Rattle.mw_netpbm_plain.specs.Reading.{◌>>=◌, skip_from, gap_at, number_in_text, field_at}
use Rattle.mw_model.specs.NetpbmGrammar.{is_white, NoDigit, Blank, IsNumber, IsField, magic, IsMaxval, IsHeader, BeginsImage}
use Rattle.mw_netpbm_plain.specs.Heading.{magic_at, maxval_at, white_at, head_at}
use Rattle.mw_netpbm_plain.proofs.Whole.{cond-chosen}
use Rattle.mw_netpbm_plain.proofs.Sides.{bind_ok, ok_is}
use Rattle.mw_netpbm_plain.proofs.Blanks.{skip_blank, skip_visible, Skipped, at_visible, at_end, in_comment, skipped, digit_visible, cap, number_whole, number_parts, white_no_digit}

-- ---- a gap and a number

gap_whole : (b : ℕ) (bs : List ℕ) → IsTrue (is_white b) → gap_at (b ∷ bs) ≡ Ok (skip_from false bs)
unfolding gap_at
gap_whole b bs w = ap (λ (x : Bool). cond x (Ok (skip_from false bs)) (Err Header)) w

pub skip_number : (text rest : List ℕ) (n : ℕ) → IsNumber text n → skip_from false (text ++ rest) ≡ text ++ rest
skip_number [] rest n is = absurd (omega (arith, is.some))
skip_number (d ∷ text) rest n is = skip_visible d (text ++ rest) (digit_visible d is.each.0)

pub field_whole : (bytes rest : List ℕ) (n : ℕ) → IsField bytes n → NoDigit rest → field_at (bytes ++ rest) ≡ Ok (cap n, rest)
unfolding field_at
field_whole bytes rest n is stop =
    let regrouped : bytes ++ rest ≡ is.first ∷ (is.blank ++ (is.digits ++ rest)) = ap (λ (b : List ℕ). b ++ rest) is.parts ∙ ap (λ (b : List ℕ). is.first ∷ b) (append_assoc is.blank is.digits rest) in
    let gap : gap_at (bytes ++ rest) ≡ Ok (is.digits ++ rest) =
    ap gap_at regrouped ∙ gap_whole is.first (is.blank ++ (is.digits ++ rest)) is.is_white
    ∙ ap (λ (b : List ℕ). Ok b) (skip_blank is.blank (is.digits ++ rest) is.is_blank ∙ skip_number is.digits rest n is.is_number) in
    ap (λ (g : Result (List ℕ) ReadFault). g >>= number_in_text) gap ∙ number_whole is.digits rest n is.is_number stop

pub record Fielded (bytes rest : List ℕ) (capped : ℕ) : Type 0 where
  pub text : List ℕ
  pub value : ℕ
  pub parts : bytes ≡ text ++ rest
  pub is_field : IsField text value
  pub stops : NoDigit rest
  pub is_capped : capped ≡ cap value

gap_parts : (bytes rest : List ℕ) → gap_at bytes ≡ Ok rest → (b : ℕ) × (bs : List ℕ) × (bytes ≡ b ∷ bs) × IsTrue (is_white b) × (skip_from false bs ≡ rest)
unfolding gap_at
gap_parts [] rest e = absurd cc
gap_parts (b ∷ bs) rest e =
    elim (cond-chosen (is_white b) (Ok (skip_from false bs)) (Err Header) (Ok rest) e) [
      | inl w ↦ (b, bs, refl, w.0, ok_is (skip_from false bs) rest w.1)
      | inr w ↦ absurd (let clash : Err Header ≡ Ok rest = w.1 in cc)
    ]

-- before a number only blanks were skipped
blank_before : (bytes rest : List ℕ) (x : ℕ × List ℕ) → Skipped bytes rest → number_in_text rest ≡ Ok x → (blank : List ℕ) × (bytes ≡ blank ++ rest) × Blank blank
unfolding number_in_text
blank_before bytes rest x (at_visible blank b bs bl v) e = (blank, refl, bl)
blank_before bytes rest x (at_end all bl) e = absurd cc
blank_before bytes rest x (in_comment blank text bl all) e = absurd cc

pub field_parts : (bytes : List ℕ) (x : ℕ × List ℕ) → field_at bytes ≡ Ok x → Fielded bytes x.1 x.0
unfolding field_at
field_parts bytes x e =
    let a = bind_ok (gap_at bytes) number_in_text x e in
    let g = gap_parts bytes a.0 a.1 in
    let s : Skipped g.1 a.0 = subst (λ (rest : List ℕ). Skipped g.1 rest) g.4 (skipped g.1) in
    let b = blank_before g.1 a.0 x s a.2 in
    let n = number_parts a.0 x a.2 in
    let whole : bytes ≡ (g.0 ∷ b.0 ++ n.text) ++ x.1 =
    g.2 ∙ ap (λ (t : List ℕ). g.0 ∷ t) (b.1 ∙ ap (λ (t : List ℕ). b.0 ++ t) n.parts ∙ sym (append_assoc b.0 n.text x.1)) in
    record {
      text = g.0 ∷ b.0 ++ n.text;
      value = n.value;
      parts = whole;
      is_field = record { first = g.0; blank = b.0; digits = n.text; parts = refl; is_white = g.3; is_blank = b.2; is_number = n.is_number };
      stops = n.stops;
      is_capped = n.is_capped;
    }

-- ---- the magic

pub magic_whole : (format : Format) (rest : List ℕ) → magic_at (magic format ++ rest) ≡ Ok (format, rest)
unfolding magic_at
magic_whole PlainBits rest = refl
magic_whole PlainGrey rest = refl
magic_whole RawBits rest = refl
magic_whole RawGrey rest = refl

magic_digit : (d : ℕ) (bs : List ℕ) (x : Format × List ℕ)
    → cond (eqb d 49) (Ok (PlainBits, bs)) (cond (eqb d 50) (Ok (PlainGrey, bs)) (cond (eqb d 52) (Ok (RawBits, bs)) (cond (eqb d 53) (Ok (RawGrey, bs)) (Err Magic)))) ≡ Ok x
    → 80 ∷ d ∷ bs ≡ magic x.0 ++ x.1
magic_digit d bs x e =
    elim (cond-chosen (eqb d 49) (Ok (PlainBits, bs)) (cond (eqb d 50) (Ok (PlainGrey, bs)) (cond (eqb d 52) (Ok (RawBits, bs)) (cond (eqb d 53) (Ok (RawGrey, bs)) (Err Magic)))) (Ok x) e) [
      | inl w ↦ ap (λ k. 80 ∷ k ∷ bs) (eqb-true d 49 w.0) ∙ ap (λ (y : Format × List ℕ). magic y.0 ++ y.1) (ok_is (PlainBits, bs) x w.1)
      | inr v ↦
          elim (cond-chosen (eqb d 50) (Ok (PlainGrey, bs)) (cond (eqb d 52) (Ok (RawBits, bs)) (cond (eqb d 53) (Ok (RawGrey, bs)) (Err Magic))) (Ok x) v.1) [
            | inl w ↦ ap (λ k. 80 ∷ k ∷ bs) (eqb-true d 50 w.0) ∙ ap (λ (y : Format × List ℕ). magic y.0 ++ y.1) (ok_is (PlainGrey, bs) x w.1)
            | inr u ↦
                elim (cond-chosen (eqb d 52) (Ok (RawBits, bs)) (cond (eqb d 53) (Ok (RawGrey, bs)) (Err Magic)) (Ok x) u.1) [
                  | inl w ↦ ap (λ k. 80 ∷ k ∷ bs) (eqb-true d 52 w.0) ∙ ap (λ (y : Format × List ℕ). magic y.0 ++ y.1) (ok_is (RawBits, bs) x w.1)
                  | inr t ↦
                      elim (cond-chosen (eqb d 53) (Ok (RawGrey, bs)) (Err Magic) (Ok x) t.1) [
                        | inl w ↦ ap (λ k. 80 ∷ k ∷ bs) (eqb-true d 53 w.0) ∙ ap (λ (y : Format × List ℕ). magic y.0 ++ y.1) (ok_is (RawGrey, bs) x w.1)
                        | inr w ↦ absurd (let clash : Err Magic ≡ Ok x = w.1 in cc)
                      ]
                ]
          ]
    ]

pub magic_parts : (bytes : List ℕ) (x : Format × List ℕ) → magic_at bytes ≡ Ok x → bytes ≡ magic x.0 ++ x.1
unfolding magic_at
magic_parts [] x e = absurd cc
magic_parts (p ∷ []) x e = absurd cc
magic_parts (p ∷ d ∷ bs) x e =
    elim (cond-chosen (eqb p 80) (cond (eqb d 49) (Ok (PlainBits, bs)) (cond (eqb d 50) (Ok (PlainGrey, bs)) (cond (eqb d 52) (Ok (RawBits, bs)) (cond (eqb d 53) (Ok (RawGrey, bs)) (Err Magic))))) (Err Magic) (Ok x) e) [
      | inl w ↦ ap (λ k. k ∷ d ∷ bs) (eqb-true p 80 w.0) ∙ magic_digit d bs x w.1
      | inr w ↦ absurd (let clash : Err Magic ≡ Ok x = w.1 in cc)
    ]

-- ---- the whole header

stops_white : (b : ℕ) (bs : List ℕ) → is_white b ≡ true → NoDigit (b ∷ bs)
stops_white b bs w = white_no_digit b w

stops_field : (bytes rest : List ℕ) (n : ℕ) → IsField bytes n → NoDigit (bytes ++ rest)
stops_field bytes rest n is = subst (λ (b : List ℕ). NoDigit (b ++ rest)) (sym is.parts) (white_no_digit is.first is.is_white)

white_whole : (b : ℕ) (bs : List ℕ) → IsTrue (is_white b) → white_at (b ∷ bs) ≡ Ok bs
unfolding white_at
white_whole b bs w = ap (λ (x : Bool). cond x (Ok bs) (Err Header)) w

white_parts : (bytes rest : List ℕ) → white_at bytes ≡ Ok rest → (b : ℕ) × (bytes ≡ b ∷ rest) × IsTrue (is_white b)
unfolding white_at
white_parts [] rest e = absurd cc
white_parts (b ∷ bs) rest e =
    elim (cond-chosen (is_white b) (Ok bs) (Err Header) (Ok rest) e) [
      | inl w ↦ (b, ap (λ (t : List ℕ). b ∷ t) (ok_is bs rest w.1), w.0)
      | inr w ↦ absurd (let clash : Err Header ≡ Ok rest = w.1 in cc)
    ]

maxval_whole : (format : Format) (bytes rest : List ℕ) (n : ℕ) → IsMaxval format bytes n → NoDigit rest → maxval_at format (bytes ++ rest) ≡ Ok (cap n, rest)
unfolding maxval_at
maxval_whole PlainBits bytes rest n is stop = rw (is.0, is.1) refl
maxval_whole RawBits bytes rest n is stop = rw (is.0, is.1) refl
maxval_whole PlainGrey bytes rest n is stop = field_whole bytes rest n is stop
maxval_whole RawGrey bytes rest n is stop = field_whole bytes rest n is stop

maxval_stops : (format : Format) (bytes rest : List ℕ) (n : ℕ) → IsMaxval format bytes n → NoDigit rest → NoDigit (bytes ++ rest)
maxval_stops PlainBits bytes rest n is stop = rw is.0 stop
maxval_stops RawBits bytes rest n is stop = rw is.0 stop
maxval_stops PlainGrey bytes rest n is stop = stops_field bytes rest n is
maxval_stops RawGrey bytes rest n is stop = stops_field bytes rest n is

-- a header with its numbers capped, as the reader has it
abbrev pub capped : Head → Head
capped h = record { format = h.format; width = cap h.width; height = cap h.height; maxval = cap h.maxval }

pub head_whole : (bytes raster : List ℕ) (h : Head) → IsHeader bytes h → head_at (bytes ++ raster) ≡ Ok (capped h, raster)
unfolding head_at
head_whole bytes raster h is =
    let end : List ℕ = is.last ∷ raster in
    let stop : NoDigit end = stops_white is.last raster is.is_last in
    let regrouped : bytes ++ raster ≡ magic h.format ++ (is.width ++ (is.height ++ (is.maxval ++ end))) = ap (λ (b : List ℕ). b ++ raster) is.parts ∙ simp append_assoc in
    ap head_at regrouped
    ∙ rw (
      magic_whole h.format (is.width ++ (is.height ++ (is.maxval ++ end))),
      field_whole is.width (is.height ++ (is.maxval ++ end)) h.width is.is_width (stops_field is.height (is.maxval ++ end) h.height is.is_height),
      field_whole is.height (is.maxval ++ end) h.height is.is_height (maxval_stops h.format is.maxval end h.maxval is.is_maxval stop),
      maxval_whole h.format is.maxval end h.maxval is.is_maxval stop,
      white_whole is.last raster is.is_last,
    ) refl

maxval_parts : (format : Format) (bytes : List ℕ) (x : ℕ × List ℕ) → maxval_at format bytes ≡ Ok x → (text : List ℕ) × (n : ℕ) × (bytes ≡ text ++ x.1) × IsMaxval format text n × (x.0 ≡ cap n)
unfolding maxval_at
maxval_parts PlainBits bytes x e = let same = ok_is (1, bytes) x e in ([], 1, ap (λ (y : ℕ × List ℕ). y.1) same, (refl, refl), sym (ap (λ (y : ℕ × List ℕ). y.0) same))
maxval_parts RawBits bytes x e = let same = ok_is (1, bytes) x e in ([], 1, ap (λ (y : ℕ × List ℕ). y.1) same, (refl, refl), sym (ap (λ (y : ℕ × List ℕ). y.0) same))
maxval_parts PlainGrey bytes x e = let f = field_parts bytes x e in (f.text, f.value, f.parts, f.is_field, f.is_capped)
maxval_parts RawGrey bytes x e = let f = field_parts bytes x e in (f.text, f.value, f.parts, f.is_field, f.is_capped)

parts-joined : (bytes m w h v end r1 r2 r3 r4 : List ℕ) (l : ℕ) → bytes ≡ m ++ r1 → r1 ≡ w ++ r2 → r2 ≡ h ++ r3 → r3 ≡ v ++ r4 → r4 ≡ l ∷ end
    → bytes ≡ (m ++ (w ++ (h ++ (v ++ l ∷ [])))) ++ end
parts-joined bytes m w h v end r1 r2 r3 r4 l e0 e1 e2 e3 e4 = rw (e0, e1, e2, e3, e4) (sym (simp append_assoc))

same_head : (format : Format) (w h v w' h' v' : ℕ) → w ≡ w' → h ≡ h' → v ≡ v'
    → (let a : Head = record { format = format; width = w; height = h; maxval = v } in let b : Head = record { format = format; width = w'; height = h'; maxval = v' } in a ≡ b)
same_head format w h v w' h' v' e1 e2 e3 = rw (e1, e2, e3) refl

-- a header at the front, and the raster
pub record Headed (bytes raster : List ℕ) (read : Head) : Type 0 where
  pub head : Head
  pub begins : BeginsImage bytes head raster
  pub is_capped : read ≡ capped head

pub head_parts : (bytes : List ℕ) (x : Head × List ℕ) → head_at bytes ≡ Ok x → Headed bytes x.1 x.0
unfolding head_at
head_parts bytes x e =
    let a = bind_ok (magic_at bytes) (λ format. field_at format.1 >>= λ width. field_at width.1 >>= λ height. maxval_at format.0 height.1 >>= λ maxval. white_at maxval.1 >>= λ raster. Ok (record { format = format.0; width = width.0; height = height.0; maxval = maxval.0 }, raster)) x e in
    let format = a.0.0 in
    let b = bind_ok (field_at a.0.1) (λ width. field_at width.1 >>= λ height. maxval_at format height.1 >>= λ maxval. white_at maxval.1 >>= λ raster. Ok (record { format = format; width = width.0; height = height.0; maxval = maxval.0 }, raster)) x a.2 in
    let c = bind_ok (field_at b.0.1) (λ height. maxval_at format height.1 >>= λ maxval. white_at maxval.1 >>= λ raster. Ok (record { format = format; width = b.0.0; height = height.0; maxval = maxval.0 }, raster)) x b.2 in
    let d = bind_ok (maxval_at format c.0.1) (λ maxval. white_at maxval.1 >>= λ raster. Ok (record { format = format; width = b.0.0; height = c.0.0; maxval = maxval.0 }, raster)) x c.2 in
    let f = bind_ok (white_at d.0.1) (λ raster. Ok (record { format = format; width = b.0.0; height = c.0.0; maxval = d.0.0 }, raster)) x d.2 in
    let m = magic_parts bytes a.0 a.1 in
    let w = field_parts a.0.1 b.0 b.1 in
    let h = field_parts b.0.1 c.0 c.1 in
    let v = maxval_parts format c.0.1 d.0 d.1 in
    let l = white_parts d.0.1 f.0 f.1 in
    let made : Head × List ℕ = (record { format = format; width = b.0.0; height = c.0.0; maxval = d.0.0 }, f.0) in
    let same = ok_is made x f.2 in
    let text : List ℕ = magic format ++ (w.text ++ (h.text ++ (v.0 ++ l.0 ∷ []))) in
    let whole : bytes ≡ text ++ f.0 = parts-joined bytes (magic format) w.text h.text v.0 f.0 a.0.1 b.0.1 c.0.1 d.0.1 l.0 m w.parts h.parts v.2 l.1 in
    let truth : Head = record { format = format; width = w.value; height = h.value; maxval = v.1 } in
    let as_read : Head = record { format = format; width = b.0.0; height = c.0.0; maxval = d.0.0 } in
    let caps : as_read ≡ capped truth = same_head format b.0.0 c.0.0 d.0.0 (cap w.value) (cap h.value) (cap v.1) w.is_capped h.is_capped v.4 in
    subst (λ (y : Head × List ℕ). Headed bytes y.1 y.0) same
    (record {
      head = truth;
      begins = record {
        text = text;
        parts = whole;
        is_header = record { width = w.text; height = h.text; maxval = v.0; last = l.0; parts = refl {a = text}; is_width = w.is_field; is_height = h.is_field; is_maxval = v.3; is_last = l.2 };
      };
      is_capped = caps;
    })

-- the raster is what is left of the bytes
pub head_last : (bytes : List ℕ) (x : Head × List ℕ) → head_at bytes ≡ Ok x → (length x.1 ≤ length bytes) × (x.1 ≡ drop (length bytes - length x.1) bytes)
head_last bytes x e =
    let text = (head_parts bytes x e).begins.text in
    let parts : bytes ≡ text ++ x.1 = (head_parts bytes x e).begins.parts in
    let long : length bytes ≡ length text + length x.1 = ap length parts ∙ length-append text x.1 in
    let before : length bytes - length x.1 ≡ length text = omega arith in
    (omega arith, sym (ap (λ k. drop k bytes) before ∙ ap (drop (length text)) parts ∙ drop_at text x.1 (length text) refl))
