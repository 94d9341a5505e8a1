-- What is read of the texts of a job's options.
use Rattle.std.proofs.Common.{◌≡◌, ◌≤◌, ℕ, Bool, true, false, ap, refl, codes, Option, Some, None, List, option_map, sym, ◌∙◌, subst, inl, inr}
use Rattle.std.specs.Prelude.{◌↔◌, Box, option_and_then, Result, Ok, Err}
use Rattle.std.specs.Str.Parse.{ParsesUnsigned}
use Rattle.clap.specs.Matches.{TriesOne}
use Rattle.clap.specs.Words.{Row, Text, one_of, subcommand_name_of, subcommand_of, subcommand_rows_of}
use Rattle.clap.specs.Simple.{subcommand_rows}
use Rattle.clap.specs.declared.parser.matches.ArgMatches.{ArgMatches}
use Rattle.clap.specs.declared.parser.matches.ArgMatches.TheViews.{out-ArgMatches, out-SubCommand}
use Rattle.clap.specs.declared.parser.matches.SubCommand.{SubCommand}
use Rattle.std.specs.Box.{box_value}
use Rattle.mw_grid.specs.Grids.{IsTileSide}
use Rattle.mw_cli.specs.CommandLine.{AreListens, AreServes, AreTaken, AsksNoCrew, AsksNoSide, AsksNoneUpTo, AsksSide, AsksUpTo, AsksWorkers, Faults, IsCrew, IsRefused, IsUpTo, Reads, WritesNoPort, WritesNone, WritesNumber, program_words, text_in, usual_workers}
use Rattle.mw_cli.specs.declared.fault.LineFault.{LineFault}
use Rattle.mw_cli.specs.declared.fault.LineFault.TheVariants as fault

-- the rows of the job alone count
pub text_in-rows : (id : Text) (job : Option (Text × List Row)) (rows : Option (List Row)) → rows ≡ option_map (λ p. p.1) job
    → text_in id job ≡ option_and_then (one_of id) rows
text_in-rows id None None e = refl
text_in-rows id None (Some r) e = cc
text_in-rows id (Some p) None e = cc
text_in-rows id (Some p) (Some r) e = ap (option_and_then (one_of id)) (sym e)

pub tried_is_read : (E : Type 0) (gives : Text → Result ℕ E → Type 0) → ((t : Text) (x : Result ℕ E) → gives t x → ParsesUnsigned 32 10 t x)
    → (text : Option Text) (r : Result (Option ℕ) E) → (text ≡ None → r ≡ Ok None) → ((t : Text) → text ≡ Some t → TriesOne gives t r) → Reads text r
tried_is_read E gives parses None (Ok None) none value = refl
tried_is_read E gives parses None (Ok (Some n)) none value =
    let e : Ok (Some n) ≡ Ok None = none refl in
    cc
tried_is_read E gives parses None (Err x) none value =
    let e : Err x ≡ Ok None = none refl in
    cc
tried_is_read E gives parses (Some t) (Ok None) none value = absurd (value t refl)
tried_is_read E gives parses (Some t) (Ok (Some n)) none value =
    let h = parses t (Ok n) (value t refl) in
    (h.0.0, h.0.1, h.1)
tried_is_read E gives parses (Some t) (Err x) none value =
    ((λ e. cc), λ n w. parses t (Err x) (value t refl) (w.0, w.1))

pub one_number : (text : Option Text) (m n : ℕ) → WritesNumber text m → WritesNumber text n → m ≡ n
one_number None m n v w = absurd v
one_number (Some t) m n v w = v.2 ∙ sym w.2

pub asks_usual : (processors : ℕ) (text : Option Text) (n : ℕ) → text ≡ None → n ≡ usual_workers processors → AsksWorkers processors text n
asks_usual processors None n e is = is
asks_usual processors (Some t) n e is = cc

pub asks_written : (processors : ℕ) (text : Option Text) (n : ℕ) → WritesNumber text n → AsksWorkers processors text n
asks_written processors None n w = absurd w
asks_written processors (Some t) n w = w

pub no_other_crew : (processors : ℕ) (text : Option Text) (m : ℕ) → WritesNumber text m → (IsCrew m → ⊥) → AsksNoCrew processors text
no_other_crew processors None m w bad n asked ok = absurd w
no_other_crew processors (Some t) m w bad n asked ok = bad (subst IsCrew (one_number (Some t) n m asked w) ok)

pub unread_is_no_crew : (E : Type 0) (processors : ℕ) (text : Option Text) (x : E) → Reads text (Err x) → AsksNoCrew processors text
unread_is_no_crew E processors None x h n asked ok = h.0 refl
unread_is_no_crew E processors (Some t) x h n asked ok = h.1 n asked

pub unread_is_none : (E : Type 0) (most : ℕ) (text : Option Text) (x : E) → Reads text (Err x) → WritesNone most text
unread_is_none E most text x h n w ok = h.1 n w

pub missing_is_none : (most : ℕ) (text : Option Text) → text ≡ None → WritesNone most text
missing_is_none most None e n w ok = w
missing_is_none most (Some t) e n w ok = cc

pub no_other : (most : ℕ) (text : Option Text) (m : ℕ) → WritesNumber text m → (IsUpTo most m → ⊥) → WritesNone most text
no_other most text m v bad n w ok = bad (subst (IsUpTo most) (one_number text n m w v) ok)

pub unread_is_no_port : (E : Type 0) (text : Option Text) (x : E) → Reads text (Err x) → WritesNoPort text
unread_is_no_port E text x h n w ok = h.1 n w

pub missing_is_no_port : (text : Option Text) → text ≡ None → WritesNoPort text
missing_is_no_port None e n w ok = w
missing_is_no_port (Some t) e n w ok = cc

pub no_other_port : (text : Option Text) (m : ℕ) → WritesNumber text m → (m ≤ 65535 → ⊥) → WritesNoPort text
no_other_port text m v bad n w ok = bad (subst (λ k. k ≤ 65535) (one_number text n m w v) ok)

pub asks_none : (most : ℕ) (text : Option Text) → text ≡ None → AsksUpTo most text None
asks_none most None e = refl
asks_none most (Some t) e = cc

pub asks_number : (most : ℕ) (text : Option Text) (n : ℕ) → WritesNumber text n → IsUpTo most n → AsksUpTo most text (Some n)
asks_number most None n w ok = absurd w
asks_number most (Some t) n w ok = (w, ok)

pub no_other_number : (most : ℕ) (text : Option Text) (m : ℕ) → WritesNumber text m → (IsUpTo most m → ⊥) → AsksNoneUpTo most text
no_other_number most None m v bad asked is = absurd v
no_other_number most (Some t) m v bad None is = is
no_other_number most (Some t) m v bad (Some n) is = bad (subst (IsUpTo most) (one_number (Some t) n m is.0 v) is.1)

pub unread_is_no_number : (E : Type 0) (most : ℕ) (text : Option Text) (x : E) → Reads text (Err x) → AsksNoneUpTo most text
unread_is_no_number E most None x h asked is = h.0 refl
unread_is_no_number E most (Some t) x h None is = is
unread_is_no_number E most (Some t) x h (Some n) is = h.1 n is.0

pub asks_no_side : (text : Option Text) → text ≡ None → AsksSide text None
asks_no_side None e = refl
asks_no_side (Some t) e = cc

pub asks_side : (text : Option Text) (n : ℕ) → WritesNumber text n → IsTileSide n → AsksSide text (Some n)
asks_side None n w ok = absurd w
asks_side (Some t) n w ok = (w, ok)

pub no_other_side : (text : Option Text) (m : ℕ) → WritesNumber text m → (IsTileSide m → ⊥) → AsksNoSide text
no_other_side None m v bad asked is = absurd v
no_other_side (Some t) m v bad None is = is
no_other_side (Some t) m v bad (Some n) is = bad (subst IsTileSide (one_number (Some t) n m is.0 v) is.1)

pub unread_is_no_side : (E : Type 0) (text : Option Text) (x : E) → Reads text (Err x) → AsksNoSide text
unread_is_no_side E None x h asked is = h.0 refl
unread_is_no_side E (Some t) x h None is = is
unread_is_no_side E (Some t) x h (Some n) is = h.1 n is.0

-- the name of the job that the matches have
pub name-rows : (m : ArgMatches) → subcommand_name_of m ≡ option_map (λ p. p.0) (subcommand_rows_of m)
name-rows m = go (out-ArgMatches m).subcommand
  where
    go : {Z : Type 0} (o : Option (Box SubCommand Z)) → option_map (λ b. (out-SubCommand (box_value b)).name.now) o ≡ option_map (λ p. p.0) (subcommand_rows o)
    go None = refl
    go (Some b) = refl

pub listens_named : (m : ArgMatches) → (subcommand_name_of m ≡ Some (codes "listen")) ↔ AreListens (subcommand_rows_of m)
listens_named m = (λ h. sym (name-rows m) ∙ h, λ h. name-rows m ∙ h)

pub serves_named : (m : ArgMatches) → (subcommand_name_of m ≡ Some (codes "serve")) ↔ AreServes (subcommand_rows_of m)
serves_named m = (λ h. sym (name-rows m) ∙ h, λ h. name-rows m ∙ h)

pub not_both : (b : Bool) → b ≡ true → b ≡ false → ⊥
not_both true is_true is_false = cc
not_both false is_true is_false = cc

-- a fault of the numbers refuses the words
pub faults_refuse : (processors : ℕ) (words : List Text) (f : LineFault) → AreTaken words → Faults processors (subcommand_of program_words words) f → IsRefused processors words f
faults_refuse processors words (fault.Line e) taken h =
    elim h [ inl other ↦ absurd other.2 | inr own ↦ elim own [ inl l ↦ absurd l.1 | inr s ↦ absurd s.1 ] ]
faults_refuse processors words fault.Port taken h = (taken, h)
faults_refuse processors words fault.ServePort taken h = (taken, h)
faults_refuse processors words fault.Workers taken h = (taken, h)
faults_refuse processors words fault.Sessions taken h = (taken, h)
faults_refuse processors words fault.ServeSessions taken h = (taken, h)
faults_refuse processors words fault.Tile taken h = (taken, h)
faults_refuse processors words fault.Idle taken h = (taken, h)
faults_refuse processors words fault.Queue taken h = (taken, h)
faults_refuse processors words fault.Grace taken h = (taken, h)
faults_refuse processors words fault.Status taken h = (taken, h)
faults_refuse processors words fault.Time taken h = (taken, h)
faults_refuse processors words fault.Memory taken h = (taken, h)
faults_refuse processors words fault.NoMemory taken h = tt
