-- A line is read exactly where it is the line of what is read.
use Rattle.std.proofs.Common.{◌≡◌, ℕ, ◌<◌, true, List, [], ◌∷◌, map, refl, sym, ap, ◌∙◌, Some, inl, inr, codes, decimal}
use Rattle.std.specs.Str.{bytes_eq}
use Rattle.std.specs.List.{join_with_byte, AllByRecursion}
use Rattle.std.proofs.lemmas.List.Splits.{join_with_byte-slice_split}
use Rattle.mw_model.specs.declared.names.Name.{Name}
use Rattle.mw_model.specs.declared.operations.Op.{Op}
use Rattle.mw_model.specs.declared.operations.Op.TheVariants.{Flat, Gran}
use Rattle.mw_model.specs.declared.operations.FlatOp.{FlatOp}
use Rattle.mw_model.specs.declared.operations.FlatOp.TheVariants.{Erode, Dilate, Opening, Closing, Gradient, WhiteTopHat, BlackTopHat, Rank, Threshold, HitMiss}
use Rattle.mw_model.specs.declared.operations.GranOp.TheVariants.{Skeleton, Restore, Spectrum}
use Rattle.mw_model.specs.declared.requests.Ask.{Ask}
use Rattle.mw_model.specs.declared.requests.Ask.TheVariants as ask
use Rattle.mw_model.specs.declared.requests.Awaited.TheVariants as awaited
use Rattle.mw_model.specs.declared.requests.Head.{Head}
use Rattle.mw_model.specs.declared.requests.Head.TheVariants.{Payload, Alone}
use Rattle.mw_model.specs.Names.{spelling}
use Rattle.mw_model.specs.Lines.{Word, Fixed, ForName, ForNumber, Fits, IsName, spelled, op_words, words_of, line_of, IsSayable}
use Rattle.mw_session_intake.specs.Reading.{words, word_in, name_in, first_number, rest, at_end, one_name, two_names, three_names, name_and_number, two_names_and_number, name_and_three_numbers, window_op, op_with, run_in, ask_with, head_with, head_of, ◌>>=◌}
use Rattle.mw_session_intake.proofs.Fields.{if_some, bind_some, text_is, end_some, name_first, number_first}

-- these words are those, and each of them may stand there
pub record Says (ws : List (List ℕ)) (said : List Word) : Type 0 where
  pub words_are : ws ≡ map spelled said
  pub fit : AllByRecursion Fits said

says_none : {ws : List (List ℕ)} → ws ≡ [] → Says ws []
says_none e = record { words_are = e; fit = tt }

says_name : {ws vs : List (List ℕ)} {a : Name} {said : List Word} → ws ≡ spelling a ∷ vs → IsName a → Says vs said → Says ws (ForName a ∷ said)
says_name {a = a} e h s = record { words_are = e ∙ ap (λ l. spelling a ∷ l) s.words_are; fit = (h, s.fit) }

says_number : {ws vs : List (List ℕ)} {n : ℕ} {said : List Word} → ws ≡ decimal n ∷ vs → n < 1000000000 → Says vs said → Says ws (ForNumber n ∷ said)
says_number {n = n} e h s = record { words_are = e ∙ ap (λ l. decimal n ∷ l) s.words_are; fit = (h, s.fit) }

first_word : (ws : List (List ℕ)) (word : List ℕ) → word_in ws ≡ Some word → ws ≡ word ∷ rest ws
first_word [] word e = cc
first_word (w ∷ ws) word e = let same : w ≡ word = cc in ap (λ v. v ∷ ws) same

one_name_says : (ws : List (List ℕ)) (a : Name) → one_name ws ≡ Some a → Says ws (ForName a ∷ [])
one_name_says ws a e =
    let p = name_first ws (λ x. at_end (rest ws) x) a e in
    let z = end_some (rest ws) p.0 a p.3 in
    rw (← z.1) (says_name p.1 p.2 (says_none z.0))

two_names_says : (ws : List (List ℕ)) (a : Name × Name) → two_names ws ≡ Some a → Says ws (ForName a.0 ∷ ForName a.1 ∷ [])
two_names_says ws a e =
    let p = name_first ws (λ x. name_in (rest ws) >>= (λ y. at_end (rest (rest ws)) (x, y))) a e in
    let q = name_first (rest ws) (λ y. at_end (rest (rest ws)) (p.0, y)) a p.3 in
    let z = end_some (rest (rest ws)) (p.0, q.0) a q.3 in
    rw (← z.1) (says_name p.1 p.2 (says_name q.1 q.2 (says_none z.0)))

three_names_says : (ws : List (List ℕ)) (a : Name × Name × Name) → three_names ws ≡ Some a → Says ws (ForName a.0 ∷ ForName a.1 ∷ ForName a.2 ∷ [])
three_names_says ws a e =
    let p = name_first ws (λ x. name_in (rest ws) >>= (λ y. name_in (rest (rest ws)) >>= (λ v. at_end (rest (rest (rest ws))) (x, y, v)))) a e in
    let q = name_first (rest ws) (λ y. name_in (rest (rest ws)) >>= (λ v. at_end (rest (rest (rest ws))) (p.0, y, v))) a p.3 in
    let r = name_first (rest (rest ws)) (λ v. at_end (rest (rest (rest ws))) (p.0, q.0, v)) a q.3 in
    let z = end_some (rest (rest (rest ws))) (p.0, q.0, r.0) a r.3 in
    rw (← z.1) (says_name p.1 p.2 (says_name q.1 q.2 (says_name r.1 r.2 (says_none z.0))))

name_and_number_says : (ws : List (List ℕ)) (a : Name × ℕ) → name_and_number ws ≡ Some a → Says ws (ForName a.0 ∷ ForNumber a.1 ∷ [])
name_and_number_says ws a e =
    let p = name_first ws (λ x. first_number (rest ws) >>= (λ y. at_end (rest (rest ws)) (x, y))) a e in
    let q = number_first (rest ws) (λ y. at_end (rest (rest ws)) (p.0, y)) a p.3 in
    let z = end_some (rest (rest ws)) (p.0, q.0) a q.3 in
    rw (← z.1) (says_name p.1 p.2 (says_number q.1 q.2 (says_none z.0)))

two_names_and_number_says : (ws : List (List ℕ)) (a : Name × Name × ℕ) → two_names_and_number ws ≡ Some a → Says ws (ForName a.0 ∷ ForName a.1 ∷ ForNumber a.2 ∷ [])
two_names_and_number_says ws a e =
    let p = name_first ws (λ x. name_in (rest ws) >>= (λ y. first_number (rest (rest ws)) >>= (λ v. at_end (rest (rest (rest ws))) (x, y, v)))) a e in
    let q = name_first (rest ws) (λ y. first_number (rest (rest ws)) >>= (λ v. at_end (rest (rest (rest ws))) (p.0, y, v))) a p.3 in
    let r = number_first (rest (rest ws)) (λ v. at_end (rest (rest (rest ws))) (p.0, q.0, v)) a q.3 in
    let z = end_some (rest (rest (rest ws))) (p.0, q.0, r.0) a r.3 in
    rw (← z.1) (says_name p.1 p.2 (says_name q.1 q.2 (says_number r.1 r.2 (says_none z.0))))

name_and_three_numbers_says : (ws : List (List ℕ)) (a : Name × ℕ × ℕ × ℕ) → name_and_three_numbers ws ≡ Some a → Says ws (ForName a.0 ∷ ForNumber a.1 ∷ ForNumber a.2 ∷ ForNumber a.3 ∷ [])
name_and_three_numbers_says ws a e =
    let p = name_first ws (λ x. first_number (rest ws) >>= (λ y. first_number (rest (rest ws)) >>= (λ v. first_number (rest (rest (rest ws))) >>= (λ w. at_end (rest (rest (rest (rest ws)))) (x, y, v, w))))) a e in
    let q = number_first (rest ws) (λ y. first_number (rest (rest ws)) >>= (λ v. first_number (rest (rest (rest ws))) >>= (λ w. at_end (rest (rest (rest (rest ws)))) (p.0, y, v, w)))) a p.3 in
    let r = number_first (rest (rest ws)) (λ v. first_number (rest (rest (rest ws))) >>= (λ w. at_end (rest (rest (rest (rest ws)))) (p.0, q.0, v, w))) a q.3 in
    let s = number_first (rest (rest (rest ws))) (λ w. at_end (rest (rest (rest (rest ws)))) (p.0, q.0, r.0, w)) a r.3 in
    let z = end_some (rest (rest (rest (rest ws)))) (p.0, q.0, r.0, s.0) a s.3 in
    rw (← z.1) (says_name p.1 p.2 (says_number q.1 q.2 (says_number r.1 r.2 (says_number s.1 s.2 (says_none z.0)))))

-- a fixed word in front
fixed_before : {word text : List ℕ} {ws : List (List ℕ)} {said : List Word} → bytes_eq word text ≡ true → Says ws said → Says (word ∷ ws) (Fixed text ∷ said)
fixed_before {word = word} {text = text} e h = record { words_are = rw (text_is word text e, h.words_are) refl; fit = (tt, h.fit) }

-- the first of several tests, or the tests behind it
window_says : (word : List ℕ) (f b : Name) (op : FlatOp) (ws : List (List ℕ)) → window_op word f b ≡ Some op → Says ws (ForName f ∷ ForName b ∷ []) → Says (word ∷ ws) (op_words (Flat op))
unfolding window_op
window_says word f b op ws e h = elim (if_some (bytes_eq word (codes "ERODE")) _ _ op e) [
  | inl s ↦ let o : Erode f b ≡ op = cc in rw (← o) (fixed_before s.0 h)
  | inr e ↦ elim (if_some (bytes_eq word (codes "DILATE")) _ _ op e) [
    | inl s ↦ let o : Dilate f b ≡ op = cc in rw (← o) (fixed_before s.0 h)
    | inr e ↦ elim (if_some (bytes_eq word (codes "OPEN")) _ _ op e) [
      | inl s ↦ let o : Opening f b ≡ op = cc in rw (← o) (fixed_before s.0 h)
      | inr e ↦ elim (if_some (bytes_eq word (codes "CLOSE")) _ _ op e) [
        | inl s ↦ let o : Closing f b ≡ op = cc in rw (← o) (fixed_before s.0 h)
        | inr e ↦ elim (if_some (bytes_eq word (codes "GRADIENT")) _ _ op e) [
          | inl s ↦ let o : Gradient f b ≡ op = cc in rw (← o) (fixed_before s.0 h)
          | inr e ↦ elim (if_some (bytes_eq word (codes "WTOPHAT")) _ _ op e) [
            | inl s ↦ let o : WhiteTopHat f b ≡ op = cc in rw (← o) (fixed_before s.0 h)
            | inr e ↦ elim (if_some (bytes_eq word (codes "BTOPHAT")) _ _ op e) [
              | inl s ↦ let o : BlackTopHat f b ≡ op = cc in rw (← o) (fixed_before s.0 h)
              | inr e ↦ cc
            ]
          ]
        ]
      ]
    ]
  ]
]

op_says : (word : List ℕ) (ws : List (List ℕ)) (op : Op) → op_with word ws ≡ Some op → Says (word ∷ ws) (op_words op)
unfolding op_with
op_says word ws op e = elim (if_some (bytes_eq word (codes "THRESHOLD")) _ _ op e) [
  | inl s ↦
      let a = bind_some (name_and_number ws) (λ a. Some (Flat (Threshold a.0 a.1))) op s.1 in
      let o : Flat (Threshold a.0.0 a.0.1) ≡ op = cc in rw (← o) (fixed_before s.0 (name_and_number_says ws a.0 a.1))
  | inr e ↦ elim (if_some (bytes_eq word (codes "HITMISS")) _ _ op e) [
    | inl s ↦
        let a = bind_some (three_names ws) (λ a. Some (Flat (HitMiss a.0 a.1 a.2))) op s.1 in
        let o : Flat (HitMiss a.0.0 a.0.1 a.0.2) ≡ op = cc in rw (← o) (fixed_before s.0 (three_names_says ws a.0 a.1))
    | inr e ↦ elim (if_some (bytes_eq word (codes "RANK")) _ _ op e) [
      | inl s ↦
          let a = bind_some (two_names_and_number ws) (λ a. Some (Flat (Rank a.0 a.1 a.2))) op s.1 in
          let o : Flat (Rank a.0.0 a.0.1 a.0.2) ≡ op = cc in rw (← o) (fixed_before s.0 (two_names_and_number_says ws a.0 a.1))
      | inr e ↦ elim (if_some (bytes_eq word (codes "SKELETON")) _ _ op e) [
        | inl s ↦
            let a = bind_some (two_names_and_number ws) (λ a. Some (Gran (Skeleton a.0 a.1 a.2))) op s.1 in
            let o : Gran (Skeleton a.0.0 a.0.1 a.0.2) ≡ op = cc in rw (← o) (fixed_before s.0 (two_names_and_number_says ws a.0 a.1))
        | inr e ↦ elim (if_some (bytes_eq word (codes "RESTORE")) _ _ op e) [
          | inl s ↦
              let a = bind_some (two_names_and_number ws) (λ a. Some (Gran (Restore a.0 a.1 a.2))) op s.1 in
              let o : Gran (Restore a.0.0 a.0.1 a.0.2) ≡ op = cc in rw (← o) (fixed_before s.0 (two_names_and_number_says ws a.0 a.1))
          | inr e ↦ elim (if_some (bytes_eq word (codes "SPECTRUM")) _ _ op e) [
            | inl s ↦
                let a = bind_some (two_names_and_number ws) (λ a. Some (Gran (Spectrum a.0 a.1 a.2))) op s.1 in
                let o : Gran (Spectrum a.0.0 a.0.1 a.0.2) ≡ op = cc in rw (← o) (fixed_before s.0 (two_names_and_number_says ws a.0 a.1))
            | inr e ↦
                let a = bind_some (two_names ws) (λ a. window_op word a.0 a.1 >>= (λ op. Some (Flat op))) op e in
                let f = bind_some (window_op word a.0.0 a.0.1) (λ op. Some (Flat op)) op a.2 in
                let o : Flat f.0 ≡ op = cc in rw (← o) (window_says word a.0.0 a.0.1 f.0 ws f.1 (two_names_says ws a.0 a.1))
          ]
        ]
      ]
    ]
  ]
]

run_says : (ws : List (List ℕ)) (word : List ℕ) (a : Ask) → bytes_eq word (codes "RUN") ≡ true → run_in ws ≡ Some a → Says (word ∷ ws) (words_of (Alone a))
run_says ws word a h e =
    let p = name_first ws (λ name. word_in (rest ws) >>= (λ w. op_with w (rest (rest ws)) >>= (λ op. Some (ask.Run name op)))) a e in
    let w = bind_some (word_in (rest ws)) (λ w. op_with w (rest (rest ws)) >>= (λ op. Some (ask.Run p.0 op))) a p.3 in
    let o = bind_some (op_with w.0 (rest (rest ws))) (λ op. Some (ask.Run p.0 op)) a w.2 in
    let same : ask.Run p.0 o.0 ≡ a = cc in
    let op = op_says w.0 (rest (rest ws)) o.0 o.1 in
    rw (← same) (fixed_before h (says_name p.1 p.2 (record { words_are = first_word (rest ws) w.0 w.1 ∙ op.words_are; fit = op.fit })))

ask_says : (word : List ℕ) (ws : List (List ℕ)) (a : Ask) → ask_with word ws ≡ Some a → Says (word ∷ ws) (words_of (Alone a))
unfolding ask_with
ask_says word ws a e = elim (if_some (bytes_eq word (codes "CANCEL")) _ _ a e) [
  | inl s ↦
      let n = bind_some (one_name ws) (λ n. Some (ask.Cancel n)) a s.1 in
      let o : ask.Cancel n.0 ≡ a = cc in rw (← o) (fixed_before s.0 (one_name_says ws n.0 n.1))
  | inr e ↦ elim (if_some (bytes_eq word (codes "RELEASE")) _ _ a e) [
    | inl s ↦
        let n = bind_some (one_name ws) (λ n. Some (ask.Release n)) a s.1 in
        let o : ask.Release n.0 ≡ a = cc in rw (← o) (fixed_before s.0 (one_name_says ws n.0 n.1))
    | inr e ↦ elim (if_some (bytes_eq word (codes "STATUS")) _ _ a e) [
      | inl s ↦
          let n = bind_some (one_name ws) (λ n. Some (ask.Status n)) a s.1 in
          let o : ask.Status n.0 ≡ a = cc in rw (← o) (fixed_before s.0 (one_name_says ws n.0 n.1))
      | inr e ↦ elim (if_some (bytes_eq word (codes "FETCH")) _ _ a e) [
        | inl s ↦
            let n = bind_some (one_name ws) (λ n. Some (ask.Fetch n)) a s.1 in
            let o : ask.Fetch n.0 ≡ a = cc in rw (← o) (fixed_before s.0 (one_name_says ws n.0 n.1))
        | inr e ↦ elim (if_some (bytes_eq word (codes "WAIT")) _ _ a e) [
          | inl s ↦
              let n = bind_some (one_name ws) (λ n. Some (ask.Wait n)) a s.1 in
              let o : ask.Wait n.0 ≡ a = cc in rw (← o) (fixed_before s.0 (one_name_says ws n.0 n.1))
          | inr e ↦ elim (if_some (bytes_eq word (codes "QUIT")) _ _ a e) [
            | inl s ↦ let z = end_some ws ask.Quit a s.1 in rw (← z.1) (fixed_before s.0 (says_none z.0))
            | inr e ↦ cc
          ]
        ]
      ]
    ]
  ]
]

head_says : (word : List ℕ) (ws : List (List ℕ)) (h : Head) → head_with word ws ≡ Some h → Says (word ∷ ws) (words_of h)
unfolding head_with
head_says word ws h e = elim (if_some (bytes_eq word (codes "LOAD")) _ _ h e) [
  | inl s ↦
      let a = bind_some (name_and_number ws) (λ a. Some (Payload (awaited.Image a.0) a.1)) h s.1 in
      let o : Payload (awaited.Image a.0.0) a.0.1 ≡ h = cc in rw (← o) (fixed_before s.0 (name_and_number_says ws a.0 a.1))
  | inr e ↦ elim (if_some (bytes_eq word (codes "ELEMENT")) _ _ h e) [
    | inl s ↦
        let a = bind_some (name_and_three_numbers ws) (λ a. Some (Payload (awaited.Element a.0 a.1 a.2) a.3)) h s.1 in
        let o : Payload (awaited.Element a.0.0 a.0.1 a.0.2) a.0.3 ≡ h = cc in rw (← o) (fixed_before s.0 (name_and_three_numbers_says ws a.0 a.1))
    | inr e ↦ elim (if_some (bytes_eq word (codes "RUN")) _ _ h e) [
      | inl s ↦
          let a = bind_some (run_in ws) (λ a. Some (Alone a)) h s.1 in
          let o : Alone a.0 ≡ h = cc in rw (← o) (run_says ws word a.0 s.0 a.1)
      | inr e ↦
          let a = bind_some (ask_with word ws) (λ a. Some (Alone a)) h e in
          let o : Alone a.0 ≡ h = cc in rw (← o) (ask_says word ws a.0 a.1)
    ]
  ]
]

-- what is read is what the line says
pub read_is_said : (line : List ℕ) (h : Head) → head_of line ≡ Some h → (line ≡ line_of h) × IsSayable h
unfolding head_of
read_is_said line h e =
    let w = bind_some (word_in (words line)) (λ word. head_with word (rest (words line))) h e in
    let s = head_says w.0 (rest (words line)) h w.2 in
    (sym (join_with_byte-slice_split 32 line) ∙ ap (join_with_byte 32) (first_word (words line) w.0 w.1 ∙ s.words_are), s.fit)
