-- How a budget counts what a core takes (own).
use Rattle.std.specs.Prelude.{ℕ, ◌≡◌, ◌≤◌, ◌+◌, ◌-◌, ◌*◌, ◌/◌, Bool, true, nat_le, IfSome, length, Result, Ok, Err, if◌then◌else◌}
use Rattle.std.specs.Option.{option_map_or}
use Rattle.mw_model.specs.declared.calls.Reply.{Reply}
use Rattle.mw_model.specs.declared.calls.Reply.TheVariants as reply
use Rattle.mw_model.specs.Machine.{Machine}
use Rattle.mw_model.specs.Stands.{CoreView, StandsFor, running_count}
use Rattle.mw_core_waves.specs.mw_core.Costs.{core_bytes, told_bytes}
use Rattle.mw_session.specs.declared.budget.Budget.{Budget}
use Rattle.mw_session.specs.declared.within.TheConstants.{ITEM}

-- so many bytes more stay within this bound
abbrev pub has_left : Budget → ℕ → ℕ → Bool
has_left b most more = nat_le (b.taken + more) most

-- where so many bytes more would go over this bound, all that the core keeps is counted anew
abbrev pub counted_for : Budget → CoreView → ℕ → ℕ → Budget
counted_for b c most more = if has_left b most more then b else record b { taken = told_bytes (core_bytes c + b.beside) }

-- what the core may keep of a bound: an eighth is left for what is there for a while
abbrev pub kept_part : ℕ → ℕ
kept_part most = most - most / 8

-- the whole bound, for what is there for a while
abbrev pub whole_part : ℕ → ℕ
whole_part most = most

-- a budget that was asked for so many bytes more, of this part of its bound
abbrev pub asked_for : (ℕ → ℕ) → Budget → CoreView → ℕ → Budget
asked_for part b c more = option_map_or (λ most. counted_for b c (part most) more) b.most b

-- whether it has them: without a bound it always does
abbrev pub may_take : (ℕ → ℕ) → Budget → CoreView → ℕ → Bool
may_take part b c more = option_map_or (λ most. has_left (counted_for b c (part most) more) (part most) more) b.most true

-- a bounded budget of which so many bytes more were taken
abbrev pub with_taken : Budget → ℕ → Budget
with_taken b more = option_map_or (λ most. record b { taken = told_bytes (b.taken + more) }) b.most b

-- and so many that the core does not count
abbrev pub with_beside : Budget → ℕ → Budget
with_beside b more = option_map_or (λ most. record b { taken = told_bytes (b.taken + more); beside = told_bytes (b.beside + more) }) b.most b

-- a budget after a call that was answered, or not: its item of the log was taken
abbrev pub with_item : {X E : Type 0} → Budget → Result X E → Budget
with_item b (Ok r) = with_taken b ITEM
with_item b (Err e) = b

-- A budget after a request that was answered, or not: its item of the log was taken, and what it keeps where it was accepted.
abbrev pub with_answer : {E : Type 0} → Budget → Result Reply E → ℕ → ℕ → Budget
with_answer b (Ok (reply.Accepted t)) counted beside = with_beside (with_taken (with_taken b ITEM) counted) beside
with_answer b (Ok r) counted beside = with_taken b ITEM
with_answer b (Err e) counted beside = b

-- a bounded budget has taken what the core is counted as, and what is kept beside it
abbrev pub CoversCore : Budget → CoreView → Type 0
CoversCore b c = IfSome b.most (λ most. told_bytes (core_bytes c + b.beside) ≤ b.taken)

-- all that it has taken is within what the core may keep of the bound, but for the items of the log
abbrev pub Within : Budget → CoreView → Type 0
Within b c = IfSome b.most (λ most. b.taken ≤ kept_part most + length c.log * ITEM)

-- so many bytes more are within what the core may keep of the bound
abbrev pub HasLeft : Budget → ℕ → Type 0
HasLeft b more = IfSome b.most (λ most. b.taken + more ≤ kept_part most)

-- what is asked for a payload that is accepted: what the core counts, what it does not, and its item of the log
abbrev pub payload_cost : ℕ → ℕ → ℕ
payload_cost counted beside = told_bytes (told_bytes (counted + beside) + ITEM)

-- A core and its budget went on so: the bound stays, and where the budget covered the core, it covers it still; what it has taken stays within the bound, but for the items of the log.
pub record KeepsCount (c : CoreView) (b : Budget) (d : CoreView) (e : Budget) : Type 0 where
  pub bound : e.most ≡ b.most
  pub covers : (m : Machine) → StandsFor c m → running_count c ≡ 0 → CoversCore b c → CoversCore e d
  pub within : (m : Machine) → StandsFor c m → running_count c ≡ 0 → CoversCore b c → Within b c → Within e d

-- A budget was asked, and the core stays: where the budget covered the core, it covers it still, and has not taken more than before.
pub record OnlyAsks (c : CoreView) (b e : Budget) : Type 0 where
  pub bound : e.most ≡ b.most
  pub covers : CoversCore b c → CoversCore e c
  pub lower : CoversCore b c → IfSome b.most (λ most. e.taken ≤ b.taken)
