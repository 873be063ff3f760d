-- Laws of refusals in their written order, `◌or_else◌`. Assumes nothing.
use Rattle.std.proofs.Common.{if◌then◌else◌}
use Prim.Native.Nat.{ℕ}
use mathlib.Core.Path.{◌≡◌, refl, sym, ap, ◌∙◌}
use mathlib.Core.Logic.{◌≢◌}
use mathlib.Core.Bool.{Bool, true, false, false≢true}
use lib.Dec.{eqb}
use borrow.Author.Tests.{eqb-true, eq-eqb, ne_eqb}
use Rattle.answer.specs.Answer.{accepted, refused, ◌or_else◌}
use Rattle.answer.specs.declared.Answer.{Answer}

-- where the first is accepted the second stands
pub or-else-second : (a b : Answer) → a.number ≡ 0 → (a or_else b) ≡ b
unfolding ◌or_else◌
or-else-second a b h = rw (eq-eqb a.number 0 h)

-- where the first is refused it stands
pub or-else-first : (a b : Answer) → (a.number ≡ 0 → ⊥) → (a or_else b) ≡ a
unfolding ◌or_else◌
or-else-first a b h = rw (ne_eqb a.number 0 h)

pub refused-first : (a first b : Answer) → a ≡ first → (a.number ≡ 0 → ⊥) → a ≡ (first or_else b)
refused-first a first b e h = e ∙ sym (or-else-first first b (λ z. h (ap (λ (x : Answer). x.number) e ∙ z)))

-- the seconds need be the same only where the first is accepted
pub or-else-same : (a b c : Answer) → (a.number ≡ 0 → b ≡ c) → (a or_else b) ≡ (a or_else c)
unfolding ◌or_else◌
or-else-same a b c h = go (eqb a.number 0) refl
  where
    go : (x : Bool) → eqb a.number 0 ≡ x → (if x then b else a) ≡ (if x then c else a)
    go true e = h (eqb-true a.number 0 e)
    go false e = refl

-- where the first would be the second if it were accepted, it stands
pub or-else-itself : (a b : Answer) → (a.number ≡ 0 → a ≡ b) → (a or_else b) ≡ a
unfolding ◌or_else◌
or-else-itself a b h = go (eqb a.number 0) refl
  where
    go : (x : Bool) → eqb a.number 0 ≡ x → (if x then b else a) ≡ a
    go true e = sym (h (eqb-true a.number 0 e))
    go false e = refl

-- where the chain is refused and its second would be accepted the first stands, whatever comes second
pub or-else-refuses : (a b c : Answer) → b.number ≡ 0 → ((a or_else b).number ≡ 0 → ⊥) → (a or_else b) ≡ (a or_else c)
or-else-refuses a b c z h = or-else-same a b c (λ k. absurd (h (ap (λ (x : Answer). x.number) (or-else-second a b k) ∙ z)))

pub or-else-assoc : (a b c : Answer) → ((a or_else b) or_else c) ≡ (a or_else (b or_else c))
unfolding ◌or_else◌
or-else-assoc a b c = go (eqb a.number 0) refl
  where
    go : (x : Bool) → eqb a.number 0 ≡ x
        → (if eqb (if x then b else a).number 0 then c else (if x then b else a)) ≡ (if x then (if eqb b.number 0 then c else b) else a)
    go true e = refl
    go false e = rw e

-- what holds of the first, and of the second where the first is accepted, holds of the chain
pub or-else-holds : (P : Answer → Type 0) (a b : Answer) → P a → (a.number ≡ 0 → P b) → P (a or_else b)
unfolding ◌or_else◌
or-else-holds P a b h k = go (eqb a.number 0) refl
  where
    go : (t : Bool) → eqb a.number 0 ≡ t → P (if t then b else a)
    go true e = k (eqb-true a.number 0 e)
    go false e = h

-- an accepted chain: each link is accepted
pub record BothAccepted (a b : Answer) : Type 0 where
  pub first : a.number ≡ 0
  pub second : b.number ≡ 0

pub both-accepted : (a b : Answer) → (a or_else b).number ≡ 0 → BothAccepted a b
unfolding ◌or_else◌
both-accepted a b = go (eqb a.number 0) refl
  where
    go : (t : Bool) → eqb a.number 0 ≡ t → (if t then b else a).number ≡ 0 → BothAccepted a b
    go true e h = record { first = eqb-true a.number 0 e; second = h }
    go false e h = absurd (false≢true (sym e ∙ eq-eqb a.number 0 h))

-- a refusal by a test
pub passed : (test : Bool) (number position : ℕ) → number ≢ 0 → (if test then refused number position else accepted 0).number ≡ 0 → test ≡ false
passed true number position n h = absurd (n h)
passed false number position n h = refl
