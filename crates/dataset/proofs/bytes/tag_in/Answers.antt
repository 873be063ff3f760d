-- `tag_in` meets its contract: a law for each return, with the facts there as premises. Assumes nothing.
use Rattle.std.proofs.Common.{List, length, ℕ, ◌+◌, ◌-◌, ◌<◌, ◌≡◌, ◌≤◌}
use borrow.Author.Tests.{le-leb, lt-leb}
use native.Mathlib.Omega.{arith}
use Rattle.std.specs.Prelude.{Some, None}
use Rattle.dataset.specs.Bytes.{tag_at, tag_in}
use Rattle.dataset.proofs.bytes.tag_in.Goals as goal
use Rattle.dataset.proofs.bytes.tag_in.Goals.{then-s-lt4-via-then-s-lt4, then-s-lt4-via-else-s-lt4+then-s-i}

past : (s : List ℕ) (i : ℕ) → length s < i + 4 → None ≡ tag_in s i
unfolding tag_in
past s i h = rw (lt-leb (i + 4) (length s) h)

here : (s : List ℕ) (i tag : ℕ) → 4 ≤ length s → i ≤ length s - 4 → tag ≡ tag_at s i → Some tag ≡ tag_in s i
unfolding tag_in
here s i tag l h e = rw (le-leb (i + 4) (length s) (omega arith), e)

pub returns-then-s-lt4 : goal.returns-then-s-lt4
returns-then-s-lt4 c = past _ _ (elim c.then-s-lt4.branch [ then-s-lt4-via-then-s-lt4 w ↦ let k = w.if-s-lt4 in omega (arith, k.true) | then-s-lt4-via-else-s-lt4+then-s-i w ↦ let k = w.if-s-lt4 in let l = w.if-s-i in omega (arith, k.false, l.true) ])

pub returns : goal.returns
returns c = search here
