-- What was written of an image, row by row.
use Rattle.std.proofs.Common.{◌≡◌, ℕ, suc, ◌+◌, ◌-◌, ◌*◌, ◌<◌, ◌≤◌, List, [], ◌++◌, length, take, drop, Option, Err, inl, inr, sym, ap, subst, ◌∙◌, arith, append_assoc, length-append}
use Rattle.std.specs.Io.KnownBytes.{Appends}
use Rattle.std.specs.Prelude.{codes}
use Rattle.std.proofs.KnownBytes.{Appends-trans}
use Rattle.std.proofs.lemmas.List.{append-nil, drop-drop}
use Rattle.mw_model.specs.declared.calls.Reply.TheVariants as reply
use Rattle.mw_model.specs.declared.shapes.Kind.{Kind}
use Rattle.mw_model.specs.NetpbmWriting.{text_of}
use Rattle.mw_model.specs.Pictures.{Picture}
use Rattle.mw_model.specs.Rasters.{Raster}
use Rattle.mw_model.specs.Replies.{and_number, handed_text, ticket_line, ImageBytes}
use Rattle.mw_netpbm.specs.Rows.{header_as, rows_bytes}
use Rattle.mw_netpbm.proofs.RowTexts.{rows_length}
use Rattle.mw_store.specs.declared.fetched.FetchedValue.TheVariants as shown
use Rattle.mw_store.specs.mw_tile_planes.Rows.{AreCutFrom, TileCells}
use Rattle.mw_wire.specs.Writes.{CutsShort}
use Rattle.mw_wire.proofs.Writing.{front_of_both, wrote_then}
use Rattle.mw_session_fetch.specs.Texts.{SaysBytes, SaysFetched}

-- The first y rows were written.
pub record HasRows {A : Type 0} (bytes : ℕ → List A → List ℕ) (f : Raster A) (y : ℕ) (old now : Option (List ℕ)) : Type 0 where
  pub text : List ℕ
  pub wrote : Appends old now text
  pub rest : text ++ rows_bytes bytes f.width (f.height - y) (drop (y * f.width) f.cells) ≡ rows_bytes bytes f.width f.height f.cells

-- the text with row y, and what comes behind it
parts : {A : Type 0} (bytes : ℕ → List A → List ℕ) (f : Raster A) (y : ℕ) (row : List A) (old now : Option (List ℕ)) → y < f.height → row ≡ take f.width (drop (y * f.width) f.cells) → (h : HasRows bytes f y old now)
    → (h.text ++ bytes f.width row) ++ rows_bytes bytes f.width (f.height - (y + 1)) (drop ((y + 1) * f.width) f.cells) ≡ rows_bytes bytes f.width f.height f.cells
unfolding rows_bytes
parts {A} bytes f y row old now lt row-is h =
    let k : f.height - y ≡ suc (f.height - (y + 1)) = omega arith in
    let next : (y + 1) * f.width ≡ y * f.width + f.width = grind arith in
    let behind : drop ((y + 1) * f.width) f.cells ≡ drop f.width (drop (y * f.width) f.cells) = ap (λ (n : ℕ). drop n f.cells) next ∙ sym (drop-drop f.width (y * f.width) f.cells) in
    append_assoc h.text (bytes f.width row) (rows_bytes bytes f.width (f.height - (y + 1)) (drop ((y + 1) * f.width) f.cells))
    ∙ ap (λ (l : List A). h.text ++ (bytes f.width row ++ rows_bytes bytes f.width (f.height - (y + 1)) l)) behind
    ∙ ap (λ (l : List A). h.text ++ (bytes f.width l ++ rows_bytes bytes f.width (f.height - (y + 1)) (drop f.width (drop (y * f.width) f.cells)))) row-is
    ∙ ap (λ (n : ℕ). h.text ++ rows_bytes bytes f.width n (drop (y * f.width) f.cells)) (sym k)
    ∙ h.rest

pub no_rows : {A : Type 0} (bytes : ℕ → List A → List ℕ) (f : Raster A) (old now : Option (List ℕ)) → Appends old now [] → HasRows bytes f 0 old now
no_rows bytes f old now wrote = record { text = []; wrote = wrote; rest = ap (λ (n : ℕ). rows_bytes bytes f.width n (drop (0 * f.width) f.cells)) (all f.height) ∙ ap (λ (n : ℕ). rows_bytes bytes f.width f.height (drop n f.cells)) (none f.width) }
  where
    all : (n : ℕ) → n - 0 ≡ n
    all n = omega arith

    none : (n : ℕ) → 0 * n ≡ 0
    none n = omega arith

-- one row more
pub more_rows : {A : Type 0} (bytes : ℕ → List A → List ℕ) (f : Raster A) (y w : ℕ) (row : List A) (old now new : Option (List ℕ)) → y < f.height → w ≡ f.width → row ≡ take f.width (drop (y * f.width) f.cells)
    → HasRows bytes f y old now → Appends now new (bytes w row) → HasRows bytes f (y + 1) old new
more_rows bytes f y w row old now new lt w-is row-is h wrote = record {
  text = h.text ++ bytes f.width row;
  wrote = Appends-trans old now new h.text (bytes f.width row) h.wrote (subst (λ (n : ℕ). Appends now new (bytes n row)) w-is wrote);
  rest = parts bytes f y row old now lt row-is h;
}

-- a front of the next row
pub cut_row : {A : Type 0} (bytes : ℕ → List A → List ℕ) (f : Raster A) (y w : ℕ) (row : List A) (old now new : Option (List ℕ)) → y < f.height → w ≡ f.width → row ≡ take f.width (drop (y * f.width) f.cells)
    → HasRows bytes f y old now → CutsShort now new (bytes w row) → CutsShort old new (rows_bytes bytes f.width f.height f.cells)
cut_row bytes f y w row old now new lt w-is row-is h cut =
    let here : CutsShort now new (bytes f.width row) = subst (λ (n : ℕ). CutsShort now new (bytes n row)) w-is cut in
    let both : CutsShort old new (h.text ++ bytes f.width row) = wrote_then {E = ℕ} old now new h.text (bytes f.width row) (Err 0) h.wrote here in
    subst (CutsShort old new) (parts bytes f y row old now lt row-is h)
    (front_of_both old new (h.text ++ bytes f.width row) (rows_bytes bytes f.width (f.height - (y + 1)) (drop ((y + 1) * f.width) f.cells)) both)

-- all rows
pub all_rows : {A : Type 0} (bytes : ℕ → List A → List ℕ) (f : Raster A) (y : ℕ) (old now : Option (List ℕ)) → f.height ≤ y → HasRows bytes f y old now → Appends old now (rows_bytes bytes f.width f.height f.cells)
unfolding rows_bytes
all_rows bytes f y old now le h =
    let z : f.height - y ≡ 0 = omega arith in
    let whole : h.text ≡ rows_bytes bytes f.width f.height f.cells = sym (append-nil h.text) ∙ ap (λ (n : ℕ). h.text ++ rows_bytes bytes f.width n (drop (y * f.width) f.cells)) (sym z) ∙ h.rest in
    subst (Appends old now) whole h.wrote

-- the length of all rows, of n bytes each
pub raster_length : {A : Type 0} (bytes : ℕ → List A → List ℕ) (t : TileCells A) (f : Raster A) (w h n : ℕ) → w ≡ t.tiling.width → h ≡ t.tiling.height → AreCutFrom f t → ((row : List A) → length row ≡ w → length (bytes w row) ≡ n)
    → length (rows_bytes bytes f.width f.height f.cells) ≡ h * n
raster_length {A} bytes t f w h n w-is h-is cut each =
    let wide : w ≡ f.width = w-is ∙ sym cut.shows.width in
    let high : f.height ≡ h = cut.shows.height ∙ sym h-is in
    rows_length bytes f.width n (subst (λ (u : ℕ). (row : List A) → length row ≡ u → length (bytes u row) ≡ n) wide each) f.height f.cells cut.size ∙ ap (λ (u : ℕ). u * n) high

-- the line and the bytes are the whole reply
pub image_said : (t len : ℕ) (line head raster : List ℕ) → line ≡ ticket_line (codes "IMAGE") t (and_number len) → len ≡ length head + length raster → line ++ (head ++ raster) ≡ handed_text t (ImageBytes (head ++ raster))
image_said t len line head raster line-is len-is =
    ap (λ (l : List ℕ). l ++ (head ++ raster)) (line-is ∙ ap (λ (n : ℕ). ticket_line (codes "IMAGE") t (and_number n)) (len-is ∙ sym (length-append head raster)))

-- the header that was made
pub header_is : (k k' : Kind) (w w' h h' m m' : ℕ) (head : List ℕ) → head ≡ header_as k w h m → k ≡ k' → w ≡ w' → h ≡ h' → m ≡ m' → head ≡ header_as k' w' h' m'
header_is k k' w w' h h' m m' head is k-is w-is h-is m-is =
    is
    ∙ ap (λ (t : Kind). header_as t w h m) k-is
    ∙ ap (λ (t : ℕ). header_as k' t h m) w-is
    ∙ ap (λ (t : ℕ). header_as k' w' t m) h-is
    ∙ ap (λ (t : ℕ). header_as k' w' h' t) m-is

-- the bytes are the image's text
pub image_fetched : (t : ℕ) (f : Picture) (head raster text : List ℕ) → head ≡ header_as f.kind f.width f.height f.maxval → header_as f.kind f.width f.height f.maxval ++ raster ≡ text_of f → SaysBytes t (head ++ raster) text
    → SaysFetched (reply.Shown t) (shown.Image f) text
image_fetched t f head raster text head-is whole (inl said) = inl (said ∙ ap (λ (l : List ℕ). handed_text t (ImageBytes (l ++ raster))) head-is ∙ ap (λ (l : List ℕ). handed_text t (ImageBytes l)) whole)
image_fetched t f head raster text head-is whole (inr none) = inr (tt, none)
