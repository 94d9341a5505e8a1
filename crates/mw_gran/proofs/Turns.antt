-- One turn after another: skeletons, restorations and spectra.
use Rattle.std.proofs.Common.{◌≡◌, ℕ, zero, suc, ◌+◌, ◌-◌, ◌*◌, ◌/◌, ◌<◌, ◌≤◌, ◌⊎◌, false, List, [], ◌∷◌, ◌++◌, Option, Some, None, length, sum, refl, ap, sym, subst, arith, ◌∙◌, inl, inr}
use Rattle.std.proofs.lemmas.Bool.{cases_eq}
use Rattle.mw_model.specs.declared.offsets.Offset.{Offset}
use Rattle.mw_model.specs.declared.offsets.OffsetBox.{OffsetBox}
use Rattle.mw_model.specs.Pictures.{Picture, IsPicture, IsSet}
use Rattle.mw_model.specs.Flat.{erosion, dilation, reflected}
use Rattle.mw_model.specs.Iterates.{times, skeleton, level_set, union, restoration, spectrum}
use Rattle.mw_model.specs.Laws.{HoldsOrigin}
use Rattle.mw_model.specs.PlanSteps.{PlanStep, ErodeBox, DilateBox, Join, Blank, Mark, MarkLast, Equal, Sum}
use Rattle.mw_model.specs.Plans.{Plan, Source, FromInput, FromStep, is_sum}
use Rattle.mw_model.proofs.ImageLaws.{erosion_picture}
use Rattle.mw_plan.specs.mw_element.Figures.{FillsBox}
use Rattle.mw_plan.specs.declared.plans.Source.{Source as Read}
use Rattle.mw_plan.specs.PlansOf.{IsReadBy}
use Rattle.mw_plan.specs.Seen.{source}
use Rattle.mw_plan.specs.Steps.{turned_box}
use Rattle.mw_gran.specs.Boxes.{multiplied}
use Rattle.mw_gran.specs.Growing.{IsOfFrame, IsPushed, ShowsOperator, PlanIsSound, Acts, PlanGoesOn}
use Rattle.mw_gran.specs.Turns.{Slides, after_erosions, Erodes, Draws, marked, AreMarks, MarksResidues, restored, HasLevels, Restores, Tells, StillShown, volume_steps, TellsVolumes, TellsSpectrum}
use Rattle.mw_gran.proofs.OneMore.{AreShown, none, also, still_shows, now_shows, still_sound, still_read, now_read, still_counts, now_counts, pushed_count}
use Rattle.mw_gran.proofs.Actions.{times_framed, picture_framed, erosion_framed, dilation_framed, acts_on, acts_equal, acts_sum, acts_join, acts_blank, acts_mark, acts_mark_last, shows_input}
use Rattle.mw_gran.proofs.Iterates.{restored-turn, restored-all, restored_shape, spectrum-more}
use Rattle.mw_gran.proofs.StepPlanes.{plane-erode_box, plane-dilate_box}
use Rattle.mw_gran.proofs.MultipliedBoxes.{erosion-multiplied, dilation-multiplied_turned}

pushed_last : (p q : Plan) (step : PlanStep) (sources : List Source) (s : Source) → IsPushed p q step sources s → s ≡ FromStep (length q - 1)
pushed_last p q step sources s pushed =
    let e : length p ≡ length q - 1 = omega (arith, pushed_count p q step sources s pushed) in
    pushed.at ∙ ap FromStep e

-- the source alone
AreShown-alone : {Fits : Picture → Type 0} (p : Plan) (s : Source) (operator : Picture → Picture) → ShowsOperator Fits p s operator → AreShown Fits p (s ∷ []) (λ f. operator f ∷ [])
AreShown-alone p s operator shows = also s [] operator (λ f. []) shows none

nothing_sound : (Fits : Picture → Type 0) → PlanIsSound Fits []
nothing_sound Fits = record { sources = λ k. tt; planes = λ k. tt; made = λ f fits k lt. absurd (omega arith) }

IsPicture-itself : (f : Picture) → IsPicture f → IsPicture f
IsPicture-itself f picture = picture

-- ---- erosions

pub nothing_eroded : (b : List Offset) (p : Plan) → p ≡ [] → Erodes b 0 p
nothing_eroded b p empty =
    subst (Erodes b 0) (sym empty) (record {
      count = refl;
      sound = nothing_sound IsPicture;
      read = inl refl;
      shows = λ k le.
          let first : 0 ≡ k = omega arith in
          subst (λ (t : ℕ). ShowsOperator IsPicture [] (after_erosions t) (times t (erosion b))) first (shows_input IsPicture [] IsPicture-itself);
      counts = λ f fits. refl;
    })

erodes_one : (b : List Offset) (n : ℕ) (p q : Plan) (s : Source) (erode dilate : PlanStep) → Slides b erode dilate → Erodes b n p → IsPushed p q erode (after_erosions n ∷ []) s → Erodes b (suc n) q
erodes_one b n p q s erode dilate slides at pushed =
    let e = after_erosions n in
    let left : Picture → Picture = times n (erosion b) in
    let next : Picture → Picture = λ f. erosion b (left f) in
    let before = at.shows n (omega arith) in
    let acts = acts_on IsPicture erode (erosion b) left slides.erodes (erosion_framed b) before.framed in
    let shown = AreShown-alone p e left before in
    let here : s ≡ FromStep n = pushed.at ∙ ap FromStep at.count in
    let now = subst (λ (t : Source). ShowsOperator IsPicture q t next) here (now_shows IsPicture p q erode (e ∷ []) s (λ f. left f ∷ []) next pushed shown acts slides.erodes.unsummed) in
    record {
      count = omega (arith, at.count, pushed_count p q erode (e ∷ []) s pushed);
      sound = still_sound IsPicture p q erode (e ∷ []) s (λ f. left f ∷ []) next pushed shown acts at.sound;
      read = inr (read_first at.read);
      shows = λ k le. elim (cases_eq k (suc n)) [
        | inl last ↦ subst (λ (t : ℕ). ShowsOperator IsPicture q (after_erosions t) (times t (erosion b))) (sym last) now
        | inr other ↦ still_shows IsPicture p q erode (e ∷ []) s (after_erosions k) (times k (erosion b)) pushed (at.shows k (omega arith))
      ];
      counts = still_counts IsPicture p q erode (e ∷ []) s (λ f. []) pushed slides.erodes.unsummed at.counts;
    }
  where
    read_first : (after_erosions n ≡ FromInput 0) ⊎ IsReadBy p 0 → IsReadBy q 0
    read_first (inl here) = now_read p q erode (after_erosions n ∷ []) s pushed (0, omega arith, here)
    read_first (inr read) = still_read p q erode (after_erosions n ∷ []) s pushed read

pub erodes_more : (b : List Offset) (n : ℕ) (p q : Plan) (r s : Source) (erode dilate : PlanStep) → Slides b erode dilate → r ≡ after_erosions n → Erodes b n p → IsPushed p q erode (r ∷ []) s → Erodes b (n + 1) q
erodes_more b n p q r s erode dilate slides from at pushed =
    let more : suc n ≡ n + 1 = omega arith in
    subst (λ (k : ℕ). Erodes b k q) more (erodes_one b n p q s erode dilate slides at (subst (λ (t : Source). IsPushed p q erode (t ∷ []) s) from pushed))

-- what holds of pictures holds of sets
sound_of_sets : (p : Plan) → PlanIsSound IsPicture p → PlanIsSound IsSet p
sound_of_sets p sound = record { sources = sound.sources; planes = sound.planes; made = λ f set. sound.made f set.picture }

shows_of_sets : (p : Plan) (s : Source) (operator : Picture → Picture) → ShowsOperator IsPicture p s operator → ShowsOperator IsSet p s operator
shows_of_sets p s operator shows = record {
  here = shows.here;
  plane = shows.plane;
  is = λ f set. shows.is f set.picture;
  framed = λ f set. shows.framed f set.picture;
}

-- ---- skeletons

pub skeleton_begins : (b : List Offset) (depth : ℕ) (p : Plan) → Erodes b depth p → MarksResidues b depth 0 p None
skeleton_begins b depth p at = record {
  sound = sound_of_sets p at.sound;
  read = at.read;
  shows_eroded = λ k le. shows_of_sets p (after_erosions k) (times k (erosion b)) (at.shows k le);
  are_marks = refl;
}

pub blank_goes_on : (depth : ℕ) (p q : Plan) (s : Source) → depth < 65535 → IsPushed p q (Blank (depth + 1)) [] s → PlanGoesOn IsSet p q
blank_goes_on depth p q s low pushed = record {
  sound = λ sound. still_sound IsSet p q (Blank (depth + 1)) [] s (λ f. []) (marked [] depth 0) pushed none (acts_blank [] depth low) sound;
  read = still_read p q (Blank (depth + 1)) [] s pushed;
  shows = λ r operator shows. still_shows IsSet p q (Blank (depth + 1)) [] s r operator pushed shows;
}

pub blank_shows : (b : List Offset) (depth n : ℕ) (p q : Plan) (s : Source) → depth < 65535 → n ≡ 0 → IsPushed p q (Blank (depth + 1)) [] s → ShowsOperator IsSet q s (marked b depth n)
blank_shows b depth n p q s low first pushed =
    subst (λ (k : ℕ). ShowsOperator IsSet q s (marked b depth k)) (sym first) (now_shows IsSet p q (Blank (depth + 1)) [] s (λ f. []) (marked b depth 0) pushed none (acts_blank b depth low) refl)

-- the marks stay
pub still_marks : (b : List Offset) (depth n : ℕ) (p q : Plan) (step : PlanStep) (sources : List Source) (r : Source) (marks : Option Read) → IsPushed p q step sources r → AreMarks b depth n p marks → AreMarks b depth n q marks
still_marks b depth n p q step sources r (Some m) pushed are = still_shows IsSet p q step sources r (source m) (marked b depth n) pushed are
still_marks b depth n p q step sources r None pushed are = are

skeleton_turn_more : (b : List Offset) (depth n : ℕ) (p p1 p2 p3 : Plan) (m o : Source) (before : Option Read) (after : Read) (erode dilate : PlanStep) → Slides b erode dilate → n < depth
    → MarksResidues b depth n p before → IsPushed p p1 dilate (after_erosions (suc n) ∷ []) o → PlanGoesOn IsSet p1 p2 → ShowsOperator IsSet p2 m (marked b depth n)
    → IsPushed p2 p3 (Mark (n + 1)) (m ∷ after_erosions n ∷ o ∷ []) (source after) → MarksResidues b depth (suc n) p3 (Some after)
skeleton_turn_more b depth n p p1 p2 p3 m o before after erode dilate slides below at push1 goes_on shows2 push3 =
    let e = after_erosions n in
    let s = after_erosions (suc n) in
    let left : Picture → Picture = times n (erosion b) in
    let next : Picture → Picture = λ f. erosion b (left f) in
    let opened : Picture → Picture = λ f. dilation (reflected b) (next f) in
    let shows_next : ShowsOperator IsSet p s next = at.shows_eroded (suc n) (omega arith) in
    let acts1 = acts_on IsSet dilate (dilation (reflected b)) next slides.dilates (dilation_framed (reflected b)) shows_next.framed in
    let shown1 = AreShown-alone p s next shows_next in
    let shows1 = now_shows IsSet p p1 dilate (s ∷ []) o (λ f. next f ∷ []) opened push1 shown1 acts1 slides.dilates.unsummed in
    let sound1 = still_sound IsSet p p1 dilate (s ∷ []) o (λ f. next f ∷ []) opened push1 shown1 acts1 at.sound in
    let left1 = still_shows IsSet p p1 dilate (s ∷ []) o e left push1 (at.shows_eroded n (omega arith)) in
    let acts3 = acts_mark b depth n below in
    let shown3 : AreShown IsSet p2 (m ∷ e ∷ o ∷ []) (λ f. marked b depth n f ∷ left f ∷ opened f ∷ []) =
    also m (e ∷ o ∷ []) (marked b depth n) (λ f. left f ∷ opened f ∷ []) shows2 (also e (o ∷ []) left (λ f. opened f ∷ []) (goes_on.shows e left left1) (AreShown-alone p2 o opened (goes_on.shows o opened shows1))) in
    record {
      sound = still_sound IsSet p2 p3 (Mark (n + 1)) (m ∷ e ∷ o ∷ []) (source after) (λ f. marked b depth n f ∷ left f ∷ opened f ∷ []) (marked b depth (suc n)) push3 shown3 acts3 (goes_on.sound sound1);
      read = read_still at.read;
      shows_eroded = λ k le.
          let r = after_erosions k in
          let kept = times k (erosion b) in
          still_shows IsSet p2 p3 (Mark (n + 1)) (m ∷ e ∷ o ∷ []) (source after) r kept push3 (goes_on.shows r kept (still_shows IsSet p p1 dilate (s ∷ []) o r kept push1 (at.shows_eroded k le)));
      are_marks = now_shows IsSet p2 p3 (Mark (n + 1)) (m ∷ e ∷ o ∷ []) (source after) (λ f. marked b depth n f ∷ left f ∷ opened f ∷ []) (marked b depth (suc n)) push3 shown3 acts3 refl;
    }
  where
    read_still : (after_erosions depth ≡ FromInput 0) ⊎ IsReadBy p 0 → (after_erosions depth ≡ FromInput 0) ⊎ IsReadBy p3 0
    read_still (inl here) = inl here
    read_still (inr read) = inr (still_read p2 p3 (Mark (n + 1)) (m ∷ after_erosions n ∷ o ∷ []) (source after) push3 (goes_on.read (still_read p p1 dilate (after_erosions (suc n) ∷ []) o push1 read)))

pub skeleton_turn : (b : List Offset) (depth n : ℕ) (p p1 p2 p3 : Plan) (r e m o : Source) (before : Option Read) (after : Read) (erode dilate : PlanStep) → Slides b erode dilate → n < depth
    → MarksResidues b depth n p before → r ≡ after_erosions (n + 1) → e ≡ after_erosions n → IsPushed p p1 dilate (r ∷ []) o → PlanGoesOn IsSet p1 p2 → ShowsOperator IsSet p2 m (marked b depth n)
    → IsPushed p2 p3 (Mark (n + 1)) (m ∷ e ∷ o ∷ []) (source after) → MarksResidues b depth (n + 1) p3 (Some after)
skeleton_turn b depth n p p1 p2 p3 r e m o before after erode dilate slides below at r-is e-is push1 goes_on shows2 push3 =
    let more : suc n ≡ n + 1 = omega arith in
    let next : r ≡ after_erosions (suc n) = r-is ∙ ap after_erosions (sym more) in
    subst (λ (k : ℕ). MarksResidues b depth k p3 (Some after)) more
    (skeleton_turn_more b depth n p p1 p2 p3 m o before after erode dilate slides below at (subst (λ (t : Source). IsPushed p p1 dilate (t ∷ []) o) next push1) goes_on shows2
    (subst (λ (t : Source). IsPushed p2 p3 (Mark (n + 1)) (m ∷ t ∷ o ∷ []) (source after)) e-is push3))

skeleton_ends_at : (b : List Offset) (depth : ℕ) (p q r : Plan) (m s : Source) (before : Option Read) → length q ≡ 3 * depth + 1 → MarksResidues b depth depth p before → PlanGoesOn IsSet p q
    → ShowsOperator IsSet q m (marked b depth depth) → IsPushed q r (MarkLast (depth + 1)) (m ∷ after_erosions depth ∷ []) s → Draws IsSet r (3 * depth + 2) (skeleton b depth)
skeleton_ends_at b depth p q r m s before count at goes_on shows_marks pushed =
    let e = after_erosions depth in
    let left : Picture → Picture = times depth (erosion b) in
    let last = acts_mark_last b depth in
    let shown : AreShown IsSet q (m ∷ e ∷ []) (λ f. marked b depth depth f ∷ left f ∷ []) =
    also m (e ∷ []) (marked b depth depth) (λ f. left f ∷ []) shows_marks (AreShown-alone q e left (goes_on.shows e left (at.shows_eroded depth (omega arith)))) in
    record {
      count = omega (arith, count, pushed_count q r (MarkLast (depth + 1)) (m ∷ e ∷ []) s pushed);
      sound = still_sound IsSet q r (MarkLast (depth + 1)) (m ∷ e ∷ []) s (λ f. marked b depth depth f ∷ left f ∷ []) (skeleton b depth) pushed shown last (goes_on.sound at.sound);
      read = read_last at.read;
      shows = subst (λ (t : Source). ShowsOperator IsSet r t (skeleton b depth)) (pushed_last q r (MarkLast (depth + 1)) (m ∷ e ∷ []) s pushed)
          (now_shows IsSet q r (MarkLast (depth + 1)) (m ∷ e ∷ []) s (λ f. marked b depth depth f ∷ left f ∷ []) (skeleton b depth) pushed shown last refl);
    }
  where
    read_last : (after_erosions depth ≡ FromInput 0) ⊎ IsReadBy p 0 → IsReadBy r 0
    read_last (inl here) = now_read q r (MarkLast (depth + 1)) (m ∷ after_erosions depth ∷ []) s pushed (1, omega arith, here)
    read_last (inr read) = still_read q r (MarkLast (depth + 1)) (m ∷ after_erosions depth ∷ []) s pushed (goes_on.read read)

pub skeleton_ends : (b : List Offset) (depth : ℕ) (p q r : Plan) (e m s : Source) (before : Option Read) → length q ≡ 3 * depth + 1 → MarksResidues b depth depth p before → PlanGoesOn IsSet p q
    → ShowsOperator IsSet q m (marked b depth depth) → e ≡ after_erosions depth → IsPushed q r (MarkLast (depth + 1)) (m ∷ e ∷ []) s → Draws IsSet r (3 * depth + 2) (skeleton b depth)
skeleton_ends b depth p q r e m s before count at goes_on shows_marks e-is pushed =
    skeleton_ends_at b depth p q r m s before count at goes_on shows_marks (subst (λ (t : Source). IsPushed q r (MarkLast (depth + 1)) (m ∷ t ∷ []) s) e-is pushed)

-- ---- restorations

pub no_levels : (p : Plan) → p ≡ [] → HasLevels 0 p
no_levels p empty = subst (HasLevels 0) (sym empty) (record {
  count = refl;
  sound = nothing_sound IsPicture;
  read = λ some. absurd (omega arith);
  shows = λ k lt. absurd (omega arith);
})

pub levels_more : (n : ℕ) (p q : Plan) (s : Source) → HasLevels n p → IsPushed p q (Equal (n + 1)) (FromInput 0 ∷ []) s → HasLevels (n + 1) q
levels_more n p q s at pushed =
    let acts = acts_equal IsPicture (n + 1) IsPicture-itself in
    let shown = AreShown-alone p (FromInput 0) (λ f. f) (shows_input IsPicture p IsPicture-itself) in
    let here : s ≡ FromStep n = pushed.at ∙ ap FromStep at.count in
    let now = subst (λ (t : Source). ShowsOperator IsPicture q t (level_set (n + 1))) here (now_shows IsPicture p q (Equal (n + 1)) (FromInput 0 ∷ []) s (λ f. f ∷ []) (level_set (n + 1)) pushed shown acts refl) in
    record {
      count = omega (arith, at.count, pushed_count p q (Equal (n + 1)) (FromInput 0 ∷ []) s pushed);
      sound = still_sound IsPicture p q (Equal (n + 1)) (FromInput 0 ∷ []) s (λ f. f ∷ []) (level_set (n + 1)) pushed shown acts at.sound;
      read = λ some. now_read p q (Equal (n + 1)) (FromInput 0 ∷ []) s pushed (0, omega arith, refl);
      shows = λ k lt. elim (cases_eq k n) [
        | inl last ↦ subst (λ (t : ℕ). ShowsOperator IsPicture q (FromStep t) (level_set (t + 1))) (sym last) now
        | inr other ↦ still_shows IsPicture p q (Equal (n + 1)) (FromInput 0 ∷ []) s (FromStep k) (level_set (k + 1)) pushed (at.shows k (omega arith))
      ];
    }

pub restoration_begins : (b : List Offset) (depth : ℕ) (p : Plan) → HasLevels (depth + 1) p → Restores b depth depth 0 p (FromStep depth)
unfolding restored
restoration_begins b depth p at =
    let last : depth ≡ length p - 1 = omega (arith, at.count) in
    record {
      count = omega (arith, at.count);
      sound = at.sound;
      read = at.read (omega arith);
      last = ap FromStep last;
      levels = λ k le. at.shows k (omega arith);
      shows = at.shows depth (omega arith);
    }

same_operator : (p : Plan) (s : Source) (first second : Picture → Picture) → ((f : Picture) → first f ≡ second f) → ShowsOperator IsPicture p s first → ShowsOperator IsPicture p s second
same_operator p s first second same shows = record {
  here = shows.here;
  plane = shows.plane;
  is = λ f fits. shows.is f fits ∙ same f;
  framed = λ f fits. subst (λ (t : Picture). IsOfFrame t f.width f.height) (same f) (shows.framed f fits);
}

restoration_turn_more : (b : List Offset) (depth n m : ℕ) (p p1 p2 : Plan) (s s1 s2 : Source) (erode dilate : PlanStep) → Slides b erode dilate → n < depth → Restores b depth (n + 1) m p s
    → IsPushed p p1 dilate (s ∷ []) s1 → IsPushed p1 p2 Join (FromStep n ∷ s1 ∷ []) s2
    → Restores b depth n (suc m) p2 s2
restoration_turn_more b depth n m p p1 p2 s s1 s2 erode dilate slides below at push1 push2 =
    let mark = FromStep n in
    let level : Picture → Picture = level_set (n + 1) in
    let before : Picture → Picture = restored b (n + 1) m in
    let grown : Picture → Picture = λ f. dilation (reflected b) (before f) in
    let joined : Picture → Picture = λ f. union (level f) (grown f) in
    let acts1 = acts_on IsPicture dilate (dilation (reflected b)) before slides.dilates (dilation_framed (reflected b)) at.shows.framed in
    let shown1 = AreShown-alone p s before at.shows in
    let shows1 = now_shows IsPicture p p1 dilate (s ∷ []) s1 (λ f. before f ∷ []) grown push1 shown1 acts1 slides.dilates.unsummed in
    let level1 = still_shows IsPicture p p1 dilate (s ∷ []) s1 mark level push1 (at.levels n (omega arith)) in
    let acts2 = acts_join IsPicture level grown level1.framed shows1.framed (λ f. sym (restored_shape b (n + 1) m f).kind) (λ f. sym (restored_shape b (n + 1) m f).maxval) in
    let shown2 : AreShown IsPicture p1 (mark ∷ s1 ∷ []) (λ f. level f ∷ grown f ∷ []) = also mark (s1 ∷ []) level (λ f. grown f ∷ []) level1 (AreShown-alone p1 s1 grown shows1) in
    let sound1 = still_sound IsPicture p p1 dilate (s ∷ []) s1 (λ f. before f ∷ []) grown push1 shown1 acts1 at.sound in
    record {
      count = omega (arith, at.count, pushed_count p p1 dilate (s ∷ []) s1 push1, pushed_count p1 p2 Join (mark ∷ s1 ∷ []) s2 push2);
      sound = still_sound IsPicture p1 p2 Join (mark ∷ s1 ∷ []) s2 (λ f. level f ∷ grown f ∷ []) joined push2 shown2 acts2 sound1;
      read = still_read p1 p2 Join (mark ∷ s1 ∷ []) s2 push2 (still_read p p1 dilate (s ∷ []) s1 push1 at.read);
      last = pushed_last p1 p2 Join (mark ∷ s1 ∷ []) s2 push2;
      levels = λ k le. still_shows IsPicture p1 p2 Join (mark ∷ s1 ∷ []) s2 (FromStep k) (level_set (k + 1)) push2 (still_shows IsPicture p p1 dilate (s ∷ []) s1 (FromStep k) (level_set (k + 1)) push1 (at.levels k le));
      shows = same_operator p2 s2 joined (restored b n (suc m)) (λ f. sym (restored-turn b n m f)) (now_shows IsPicture p1 p2 Join (mark ∷ s1 ∷ []) s2 (λ f. level f ∷ grown f ∷ []) joined push2 shown2 acts2 refl);
    }

pub restoration_turn : (b : List Offset) (depth n m k : ℕ) (p p1 p2 : Plan) (s s1 s2 : Source) (erode dilate : PlanStep) → Slides b erode dilate → n < depth → Restores b depth (n + 1) m p s → k ≡ n
    → IsPushed p p1 dilate (s ∷ []) s1 → IsPushed p1 p2 Join (FromStep k ∷ s1 ∷ []) s2
    → Restores b depth n (m + 1) p2 s2
restoration_turn b depth n m k p p1 p2 s s1 s2 erode dilate slides below at same push1 push2 =
    let more : suc m ≡ m + 1 = omega arith in
    subst (λ (j : ℕ). Restores b depth n j p2 s2) more
    (restoration_turn_more b depth n m p p1 p2 s s1 s2 erode dilate slides below at push1 (subst (λ (j : ℕ). IsPushed p1 p2 Join (FromStep j ∷ s1 ∷ []) s2) same push2))

pub restoration_ends : (b : List Offset) (depth : ℕ) (p : Plan) (s : Source) → Restores b depth 0 depth p s → Draws IsPicture p (3 * depth + 1) (restoration b depth)
restoration_ends b depth p s at = record {
  count = omega (arith, at.count);
  sound = at.sound;
  read = at.read;
  shows = same_operator p (FromStep (length p - 1)) (restored b 0 depth) (restoration b depth) (restored-all b depth) (subst (λ (t : Source). ShowsOperator IsPicture p t (restored b 0 depth)) at.last at.shows);
}

-- ---- spectra

pub spectrum_begins : (b : List Offset) (depth : ℕ) (p q : Plan) (s : Source) → Erodes b depth p → IsPushed p q Sum (FromInput 0 ∷ []) s → TellsVolumes b depth 0 q
spectrum_begins b depth p q s at pushed =
    let shown = AreShown-alone p (FromInput 0) (λ f. f) (shows_input IsPicture p IsPicture-itself) in
    let acts = acts_sum IsPicture (λ f. f) (shows_input IsPicture p IsPicture-itself).framed in
    record {
      tells = record {
        count = omega (arith, at.count, pushed_count p q Sum (FromInput 0 ∷ []) s pushed);
        sound = still_sound IsPicture p q Sum (FromInput 0 ∷ []) s (λ f. f ∷ []) (λ f. f) pushed shown acts at.sound;
        read = now_read p q Sum (FromInput 0 ∷ []) s pushed (0, omega arith, refl);
        counts = now_counts IsPicture p q Sum (FromInput 0 ∷ []) s (λ f. f ∷ []) (λ f. f) (λ f. []) pushed shown acts refl at.counts;
      };
      shows = λ k le. still_shows IsPicture p q Sum (FromInput 0 ∷ []) s (after_erosions k) (times k (erosion b)) pushed (at.shows k le);
    }

-- a step that tells no number
pub tells_no_more : (p q : Plan) (step : PlanStep) (r s : Source) (before operator : Picture → Picture) (steps : ℕ) (numbers : Picture → List ℕ)
    → IsPushed p q step (r ∷ []) s → ShowsOperator IsPicture p r before → Acts IsPicture step (λ f. before f ∷ []) operator → is_sum step ≡ false → Tells p steps numbers
    → Tells q (suc steps) numbers × ShowsOperator IsPicture q s operator
tells_no_more p q step r s before operator steps numbers pushed shows acts not tells = (
  record {
    count = omega (arith, tells.count, pushed_count p q step (r ∷ []) s pushed);
    sound = still_sound IsPicture p q step (r ∷ []) s (λ f. before f ∷ []) operator pushed (AreShown-alone p r before shows) acts tells.sound;
    read = still_read p q step (r ∷ []) s pushed tells.read;
    counts = still_counts IsPicture p q step (r ∷ []) s numbers pushed not tells.counts;
  },
  now_shows IsPicture p q step (r ∷ []) s (λ f. before f ∷ []) operator pushed (AreShown-alone p r before shows) acts not,
)

-- the sum of what a source shows
pub tells_sum : (p q : Plan) (r s : Source) (before : Picture → Picture) (steps : ℕ) (numbers : Picture → List ℕ)
    → IsPushed p q Sum (r ∷ []) s → ShowsOperator IsPicture p r before → Tells p steps numbers → Tells q (suc steps) (λ f. numbers f ++ sum (before f).samples ∷ [])
tells_sum p q r s before steps numbers pushed shows tells =
    let acts = acts_sum IsPicture before shows.framed in
    record {
      count = omega (arith, tells.count, pushed_count p q Sum (r ∷ []) s pushed);
      sound = still_sound IsPicture p q Sum (r ∷ []) s (λ f. before f ∷ []) before pushed (AreShown-alone p r before shows) acts tells.sound;
      read = still_read p q Sum (r ∷ []) s pushed tells.read;
      counts = now_counts IsPicture p q Sum (r ∷ []) s (λ f. before f ∷ []) before numbers pushed (AreShown-alone p r before shows) acts refl tells.counts;
    }

pub still_shown : (p q : Plan) (step : PlanStep) (sources : List Source) (s : Source) → IsPushed p q step sources s → StillShown p q
still_shown p q step sources s pushed = λ r operator shows. still_shows IsPicture p q step sources s r operator pushed shows

same_tells : (p : Plan) (steps more : ℕ) (numbers others : Picture → List ℕ) → steps ≡ more → ((f : Picture) → numbers f ≡ others f) → Tells p steps numbers → Tells p more others
same_tells p steps more numbers others e same tells = record {
  count = tells.count ∙ e;
  sound = tells.sound;
  read = tells.read;
  counts = λ f fits. tells.counts f fits ∙ same f;
}

pub spectrum_turn : (b : List Offset) (depth n : ℕ) (p p1 p2 : Plan) (s1 s2 : Source) → TellsVolumes b depth n p → StillShown p p1
    → Tells p1 (depth + volume_steps n + (n + 1)) (spectrum b n) → ShowsOperator IsPicture p1 s1 (λ f. times (n + 1) (dilation (reflected b)) (times (n + 1) (erosion b) f))
    → IsPushed p1 p2 Sum (s1 ∷ []) s2
    → TellsVolumes b depth (n + 1) p2
spectrum_turn b depth n p p1 p2 s1 s2 at kept tells shows push2 =
    let opened : Picture → Picture = λ f. times (n + 1) (dilation (reflected b)) (times (n + 1) (erosion b) f) in
    let more : suc n ≡ n + 1 = omega arith in
    record {
      tells = same_tells p2 (suc (depth + volume_steps n + (n + 1))) (depth + volume_steps (n + 1)) (λ f. spectrum b n f ++ sum (opened f).samples ∷ []) (spectrum b (n + 1))
          (one_more depth (volume_steps n) n ∙ ap (λ (k : ℕ). depth + volume_steps k) more)
          (λ f. sym (spectrum-more b n f))
          (tells_sum p1 p2 s1 s2 opened (depth + volume_steps n + (n + 1)) (spectrum b n) push2 shows tells);
      shows = λ k le. still_shows IsPicture p1 p2 Sum (s1 ∷ []) s2 (after_erosions k) (times k (erosion b)) push2 (kept (after_erosions k) (times k (erosion b)) (at.shows k le));
    }
  where
    one_more : (d a n : ℕ) → suc (d + a + (n + 1)) ≡ d + (a + n + 2)
    one_more d a n = omega arith

-- n dilations one behind another
pub dilated_more : (b : List Offset) (k steps : ℕ) (numbers : Picture → List ℕ) (before : Picture → Picture) (p q : Plan) (r s : Source) (erode dilate : PlanStep) → Slides b erode dilate
    → Tells p (steps + k) numbers → ShowsOperator IsPicture p r (λ f. times k (dilation (reflected b)) (before f)) → IsPushed p q dilate (r ∷ []) s
    → Tells q (steps + (k + 1)) numbers × ShowsOperator IsPicture q s (λ f. times (k + 1) (dilation (reflected b)) (before f))
dilated_more b k steps numbers before p q r s erode dilate slides tells shows pushed =
    let grown : Picture → Picture = λ f. times k (dilation (reflected b)) (before f) in
    let both = tells_no_more p q dilate r s grown (λ f. dilation (reflected b) (grown f)) (steps + k) numbers pushed shows
    (acts_on IsPicture dilate (dilation (reflected b)) grown slides.dilates (dilation_framed (reflected b)) shows.framed) slides.dilates.unsummed tells in
    let more : suc k ≡ k + 1 = omega arith in
    let steps_more : suc (steps + k) ≡ steps + (k + 1) = omega arith in
    (subst (λ (n : ℕ). Tells q n numbers) steps_more both.0, subst (λ (n : ℕ). ShowsOperator IsPicture q s (λ f. times n (dilation (reflected b)) (before f))) more both.1)

volume_steps_twice : (n : ℕ) → 2 * volume_steps n ≡ n * (n + 1) + 2 * n + 2
volume_steps_twice zero = omega arith
volume_steps_twice (suc n) = omega (arith, volume_steps_twice n)

-- ---- spectra by boxes

times_picture : (b : List Offset) (n : ℕ) (f : Picture) → IsPicture f → IsPicture (times n (erosion b) f)
times_picture b zero f picture = picture
times_picture b (suc n) f picture = erosion_picture b (times n (erosion b) f)

pub box_turn : (b : List Offset) (box : OffsetBox) (n : ℕ) (p p1 p2 p3 : Plan) (s1 s2 s3 : Source) → FillsBox box b → HoldsOrigin b → Tells p (3 * n + 1) (spectrum b n)
    → IsPushed p p1 (ErodeBox (multiplied (n + 1) box)) (FromInput 0 ∷ []) s1 → IsPushed p1 p2 (DilateBox (multiplied (n + 1) (turned_box box))) (s1 ∷ []) s2 → IsPushed p2 p3 Sum (s2 ∷ []) s3
    → Tells p3 (3 * (n + 1) + 1) (spectrum b (n + 1))
box_turn b box n p p1 p2 p3 s1 s2 s3 fills holds tells push1 push2 push3 =
    let eroded : Picture → Picture = times (n + 1) (erosion b) in
    let opened : Picture → Picture = λ f. times (n + 1) (dilation (reflected b)) (eroded f) in
    let acts1 : Acts IsPicture (ErodeBox (multiplied (n + 1) box)) (λ f. f ∷ []) eroded = record {
      made = λ f fits. record { count = refl; kinds = tt };
      plane = λ f fits. plane-erode_box (multiplied (n + 1) box) f f.width f.height (picture_framed f fits) ∙ erosion-multiplied box b (n + 1) f fills holds fits;
      framed = λ f fits. times_framed (erosion b) (erosion_framed b) (n + 1) f f.width f.height (picture_framed f fits);
    } in
    let acts2 : Acts IsPicture (DilateBox (multiplied (n + 1) (turned_box box))) (λ f. eroded f ∷ []) opened = record {
      made = λ f fits. record { count = refl; kinds = tt };
      plane = λ f fits. plane-dilate_box (multiplied (n + 1) (turned_box box)) (eroded f) f.width f.height (acts1.framed f fits) ∙ dilation-multiplied_turned box b (n + 1) (eroded f) fills holds (times_picture b (n + 1) f fits);
      framed = λ f fits. times_framed (dilation (reflected b)) (dilation_framed (reflected b)) (n + 1) (eroded f) f.width f.height (acts1.framed f fits);
    } in
    let first = tells_no_more p p1 (ErodeBox (multiplied (n + 1) box)) (FromInput 0) s1 (λ f. f) eroded (3 * n + 1) (spectrum b n) push1 (shows_input IsPicture p IsPicture-itself) acts1 refl tells in
    let second = tells_no_more p1 p2 (DilateBox (multiplied (n + 1) (turned_box box))) s1 s2 eroded opened (suc (3 * n + 1)) (spectrum b n) push2 first.1 acts2 refl first.0 in
    let third = tells_sum p2 p3 s2 s3 opened (suc (suc (3 * n + 1))) (spectrum b n) push3 second.1 second.0 in
    let steps : suc (suc (suc (3 * n + 1))) ≡ 3 * (n + 1) + 1 = omega arith in
    same_tells p3 (suc (suc (suc (3 * n + 1)))) (3 * (n + 1) + 1) (λ f. spectrum b n f ++ sum (opened f).samples ∷ []) (spectrum b (n + 1)) steps (λ f. sym (spectrum-more b n f)) third

pub ends_in : (b : List Offset) (n levels : ℕ) (p : Plan) → n ≡ levels → TellsVolumes b levels n p → Tells p (levels + volume_steps levels) (spectrum b levels)
ends_in b n levels p same at = subst (λ (k : ℕ). Tells p (levels + volume_steps k) (spectrum b k)) same at.tells

pub boxes_begin : (b : List Offset) (q : Plan) (s : Source) → IsPushed [] q Sum (FromInput 0 ∷ []) s → Tells q (3 * 0 + 1) (spectrum b 0)
boxes_begin b q s pushed = (spectrum_begins b 0 [] q s (nothing_eroded b [] refl) pushed).tells

-- ---- the steps of a spectrum

-- the steps of all turns
steps_are : (n : ℕ) → n + volume_steps n ≡ n + n * (n + 1) / 2 + n + 1
steps_are n = go (volume_steps n) (n * (n + 1)) (n * (n + 1) / 2) n (volume_steps_twice n) refl
  where
    go : (s m h n : ℕ) → 2 * s ≡ m + 2 * n + 2 → h ≡ m / 2 → n + s ≡ n + h + n + 1
    go s m h n twice is = omega arith

few_by_boxes : (n : ℕ) → 3 * n + 1 ≤ n + n * (n + 1) / 2 + n + 1
few_by_boxes zero = omega arith
few_by_boxes (suc n) = go (suc n * (suc n + 1)) n (square n)
  where
    square : (n : ℕ) → 2 * suc n ≤ suc n * (suc n + 1)
    square n = omega arith

    go : (m n : ℕ) → 2 * suc n ≤ m → 3 * suc n + 1 ≤ suc n + m / 2 + suc n + 1
    go m n le = omega arith

same_length : (p : Plan) (steps : ℕ) (numbers : Picture → List ℕ) → Tells p steps numbers → Tells p (length p) numbers
same_length p steps numbers tells = subst (λ (n : ℕ). Tells p n numbers) (sym tells.count) tells

pub told_by_boxes : (b : List Offset) (levels : ℕ) (p : Plan) → Tells p (3 * levels + 1) (spectrum b levels) → TellsSpectrum b levels p
told_by_boxes b levels p tells = record {
  tells = same_length p (3 * levels + 1) (spectrum b levels) tells;
  few = (let few = few_by_boxes levels in let is = tells.count in omega arith);
  boxed = λ box fills holds. tells.count;
}

pub told_by_turns : (b : List Offset) (levels : ℕ) (p : Plan) → ((box : OffsetBox) → FillsBox box b → HoldsOrigin b → ⊥) → Tells p (levels + volume_steps levels) (spectrum b levels) → TellsSpectrum b levels p
told_by_turns b levels p no_box tells = record {
  tells = same_length p (levels + volume_steps levels) (spectrum b levels) tells;
  few = (let are = steps_are levels in let is = tells.count in omega arith);
  boxed = λ box fills holds. absurd (no_box box fills holds);
}
