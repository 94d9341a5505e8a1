-- How much is left to do.
use Rattle.std.proofs.Common.{ℕ, zero, suc, ◌+◌, ◌*◌, ◌<◌, ◌≤◌, ap, arith, inl, inr}
use Rattle.std.proofs.lemmas.Bool.{cases_eq}
use Rattle.mw_geodesic_levels.specs.declared.frame.Frame.{Frame}
use Rattle.mw_geodesic_levels.specs.Levels.{IsPut, IsRaised, CanRise, room, IsFlooded}
use Rattle.mw_geodesic_levels.proofs.Raises.{raised_itself, raised_on, put_raised}

pub room_no_more : (mask f g : ℕ → ℕ) (n : ℕ) → ((i : ℕ) → i < n → f i ≤ g i) → room mask g n ≤ room mask f n
room_no_more mask f g zero over = omega arith
room_no_more mask f g (suc n) over =
    let rest = room_no_more mask f g n (λ i lt. over i (omega arith)) in
    let last = over n (omega arith) in
    omega arith

-- with one level raised under the mask there is less room
pub room_less : (mask f g : ℕ → ℕ) (n i s : ℕ) → i < n → f i < s → s ≤ mask i → IsPut s i f g → room mask g n < room mask f n
room_less mask f g zero i s lt more masked put = absurd (omega arith)
room_less mask f g (suc n) i s lt more masked put =
    elim (cases_eq n i) [
      | inl e ↦
          let rest = room_no_more mask f g n (λ j below. let same = put.others j (λ is. absurd (omega arith)) in omega arith) in
          let here = put.here in
          omega (arith, ap f e, ap g e, ap mask e)
      | inr ne ↦
          let rest = room_less mask f g n i s (omega arith) more masked put in
          let same = put.others n ne in
          omega arith
    ]

-- ---- one place is raised

pub risen : {frame : Frame} {mask f g : ℕ → ℕ} {i s : ℕ} → CanRise frame mask f i s → IsPut s i f g → IsRaised frame mask f g
risen {frame} {mask} {f} {g} {i} {s} can put = let more = can.more in put_raised i s (omega arith) can.allowed put

-- and then all
pub settled_more : {frame : Frame} {mask f g h : ℕ → ℕ} {i s : ℕ} → CanRise frame mask f i s → IsPut s i f g → IsRaised frame mask g h → room mask h (frame.height * frame.width) < room mask f (frame.height * frame.width)
settled_more {frame} {mask} {f} {g} {h} {i} {s} can put raised =
    let less = room_less mask f g (frame.height * frame.width) i s can.inside can.more can.masked put in
    let more = room_no_more mask g h (frame.height * frame.width) raised.over in
    omega arith

-- ---- floods

pub flooded_itself : (frame : Frame) (mask f : ℕ → ℕ) (n : ℕ) → IsFlooded frame mask f n f n
flooded_itself frame mask f n = record { raised = raised_itself frame mask f; cheaper = omega arith }

pub flooded_on : {frame : Frame} {mask f g h : ℕ → ℕ} {a b c : ℕ} → IsFlooded frame mask f a g b → IsFlooded frame mask g b h c → IsFlooded frame mask f a h c
flooded_on first second =
    let one = first.cheaper in
    let two = second.cheaper in
    record { raised = raised_on first.raised second.raised; cheaper = omega arith }

-- a place is raised, and waits
pub offered : (frame : Frame) (mask f g : ℕ → ℕ) (i s before after : ℕ) → CanRise frame mask f i s → IsPut s i f g → after ≤ before + 1 → IsFlooded frame mask f before g after
offered frame mask f g i s before after can put one =
    let less = room_less mask f g (frame.height * frame.width) i s can.inside can.more can.masked put in
    record { raised = risen can put; cheaper = omega arith }

-- fewer places wait than before
pub flooded_less : {frame : Frame} {mask f g : ℕ → ℕ} {a b c : ℕ} → IsFlooded frame mask f a g b → c ≤ b → IsFlooded frame mask f a g c
flooded_less flooded less =
    let cheaper = flooded.cheaper in
    record { raised = flooded.raised; cheaper = omega arith }

-- what is raised is no dearer
pub flooded_by : (frame : Frame) (mask f g : ℕ → ℕ) (before after : ℕ) → IsRaised frame mask f g → after ≤ before → IsFlooded frame mask f before g after
flooded_by frame mask f g before after raised less =
    let rooms = room_no_more mask f g (frame.height * frame.width) raised.over in
    record { raised = raised; cheaper = omega arith }
