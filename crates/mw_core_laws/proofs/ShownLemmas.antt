-- Calls that hand out no value: none of their replies is `Shown`.
use Rattle.std.proofs.Common.{◌≢◌, ℕ, Option, Some, None}
use Rattle.mw_model.specs.declared.shapes.Shape.{Shape}
use Rattle.mw_model.specs.declared.codes.Code.{Code}
use Rattle.mw_model.specs.declared.calls.Outcome.{Outcome}
use Rattle.mw_model.specs.declared.calls.Outcome.TheVariants as outcome
use Rattle.mw_model.specs.declared.calls.Call.{Call}
use Rattle.mw_model.specs.declared.calls.Call.TheVariants as call
use Rattle.mw_model.specs.declared.calls.Reply.{Reply}
use Rattle.mw_model.specs.declared.calls.Reply.TheVariants as reply
use Rattle.mw_model.specs.Refusals.{Table}
use Rattle.mw_model.specs.Machine.{answer, refused_or, status_reply}

-- a call that hands out no value
abbrev pub IsPlain : Call → Type 0
IsPlain (call.Fetch n) = ⊥
IsPlain c = Unit {0}

pub status_reply-not_shown : (t : ℕ) (s : Shape) (o : Outcome) (u : ℕ) → status_reply t s o ≢ reply.Shown u
status_reply-not_shown t s outcome.Pending u h = cc
status_reply-not_shown t s outcome.Done u h = cc
status_reply-not_shown t s outcome.Cancelled u h = cc
status_reply-not_shown t s outcome.Memory u h = cc
status_reply-not_shown t s (outcome.Input i) u h = cc
status_reply-not_shown t s outcome.Released u h = cc

pub answer-not_shown : (w : Table) (c : Call) (u : ℕ) → IsPlain c → answer w c ≢ reply.Shown u
answer-not_shown w (call.Load n g) u p h = cc
answer-not_shown w (call.Element n g) u p h = cc
answer-not_shown w (call.Run n o) u p h = cc
answer-not_shown w (call.Cancel n) u p h = cc
answer-not_shown w (call.Release n) u p h = cc
answer-not_shown w (call.Status n) u p h = status_reply-not_shown _ _ _ u h
answer-not_shown w (call.Fetch n) u p h = absurd p

pub refused_or-not_shown : (x : Option Code) (a : Reply) (u : ℕ) → a ≢ reply.Shown u → refused_or x a ≢ reply.Shown u
refused_or-not_shown None a u n h = n h
refused_or-not_shown (Some c) a u n h = cc
