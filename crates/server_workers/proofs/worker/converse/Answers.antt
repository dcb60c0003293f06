-- A conversation, step by step.
use Rattle.std.proofs.Common.{rules, arith, refl, ap, ◌∙◌, ◌≡◌, ◌≤◌, ℕ, Err}
use Rattle.leaf_ledger.specs.Device.{HasRisen}
use Rattle.server_workers.specs.declared.ended.Ended.{Ended}
use Rattle.server_workers.specs.declared.ended.Ended.TheVariants as ended
use Rattle.server_workers.specs.Conversing.{IsCaused}
use Rattle.server_workers.proofs.Conversations.{later_twice, never_begun, not_later, starts}
use Rattle.server_workers.proofs.worker.converse.Goals as goal

-- the count only grows
later : (a b c : ℕ) → a ≤ b → b ≤ c → a ≤ c
later a b c first then = omega arith

-- and a fault raised it since the start
rises : {X : Type 0} (e : Ended) (start before now : ℕ) → start ≤ before → IsCaused {X = X} before now (Err e) → e ≡ ended.Fault → HasRisen start now
rises e start before now first cause is few = let h = cause.rose (ap (λ x. Err x) is) few in omega arith

pub returns-in_default-clause-conversed : goal.returns-in_default-clause-conversed
returns-in_default-clause-conversed g c = never_begun _ _ _

pub loop-init : goal.loop-init
loop-init g c = (starts _ _ _ _ c.new-frames.ensures, not_later _, refl, search rules, omega arith)

pub loop-preserved : goal.loop-preserved
loop-preserved g c = (
  c.in_default-stepped.ensures.goes_on _ c.loop.invariant.0,
  later_twice _ _ _ c.loop.invariant.1 c.step-stepped.ensures.later,
  c.step-stepped.ensures.parts ∙ c.loop.invariant.2,
  c.loop.invariant.3,
  later _ _ _ c.loop.invariant.4 c.step-stepped.ensures.cause.later,
)

pub returns-in-Err-clause-conversed : goal.returns-in-Err-clause-conversed
returns-in-Err-clause-conversed g c = c.in-Err.ensures.goes_on _ c.loop.invariant.0

pub returns-in-Err-clause-fault : goal.returns-in-Err-clause-fault
returns-in-Err-clause-fault g c = rises c.in-Err.ended _ _ _ c.loop.invariant.4 c.in-Err.ensures.cause

pub returns-in_default-clause-later : goal.returns-in_default-clause-later
returns-in_default-clause-later g c = not_later _

pub returns-in-Err-clause-later : goal.returns-in-Err-clause-later
returns-in-Err-clause-later g c = later_twice _ _ _ c.loop.invariant.1 c.in-Err.ensures.later
