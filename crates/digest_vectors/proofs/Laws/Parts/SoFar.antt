-- The loop that feeds a message in parts.
-- Assumes nothing.
use Prim.Native.Nat.{ℕ, ◌+◌, ◌≤◌}
use mathlib.Core.Path.{◌≡◌, refl, sym, ap, ◌∙◌}
use mathlib.Core.List.{List, [], ◌∷◌, ◌++◌}
use native.Mathlib.Omega.{arith}
use lib.ListN.{length, replicate, length-append}
use Rattle.std.proofs.Common.{append_assoc, append-nil}
use Rattle.digest.specs.Sha256.{sha256}
use Rattle.digest.specs.Message.{limit, hashing}
use Rattle.digest.specs.Running.{start, fed, feeding, finishing}
use Rattle.digest.specs.declared.running.Running.{Running}
use Rattle.digest.specs.declared.running.Fed.{Fed}
use Rattle.digest.specs.declared.running.Finished.{Finished}
use Rattle.digest.specs.declared.message.Hashed.{Hashed}
use Rattle.digest.proofs.Laws.Running.CallsInTurn.{start-fed, part-taken, part-refused, parts-finished}

-- the bytes `taken` of m were fed, one part after the other, and `left` follows them
pub record SoFar (m : List ℕ) (s : Running) (left : List ℕ) : Type 0 where
  pub taken : List ℕ
  pub whole : m ≡ taken ++ left
  pub state : s ≡ fed sha256 (start sha256) taken
  pub within : length taken ≤ limit

pub so-far-start : (m : List ℕ) (s : Running) (left : List ℕ) → s ≡ start sha256 → left ≡ m → SoFar m s left
so-far-start m s left e p = record { taken = []; whole = sym p; state = e ∙ start-fed sha256; within = omega arith }

module _ (m : List ℕ) (s : Running) (left : List ℕ) (h : SoFar m s left) (part after : List ℕ) (f : Fed) (p : left ≡ part ++ after) (e : f ≡ feeding sha256 s part) where
  feeding-is : f ≡ feeding sha256 (fed sha256 (start sha256) h.taken) part
  feeding-is = e ∙ ap (λ (t : Running). feeding sha256 t part) h.state

  joined : m ≡ (h.taken ++ part) ++ after
  joined = h.whole ∙ ap (λ (l : List ℕ). h.taken ++ l) p ∙ sym (append_assoc h.taken part after)

  pub so-far-next : f.answer.number ≡ 0 → SoFar m f.running after
  so-far-next z =
      let t = part-taken sha256 h.taken part f feeding-is z in
      record { taken = h.taken ++ part; whole = joined; state = t.0; within = t.1 }

  pub so-far-refused : (f.answer.number ≡ 0 → ⊥) → ◌≡◌ {A = Hashed} (record { answer = f.answer; digest = replicate 32 0 }) (hashing sha256 m)
  so-far-refused z =
      let l = length-append h.taken part in
      let k : length m ≡ length (h.taken ++ part) + length after = ap length joined ∙ length-append (h.taken ++ part) after in
      part-refused sha256 h.taken part f m feeding-is z (omega arith)

nothing : (l : List ℕ) → length l ≡ 0 → l ≡ []
nothing [] h = refl
nothing (x ∷ l) h = absurd (omega arith)

pub so-far-all : (m : List ℕ) (s : Running) (left : List ℕ) (g : Finished) → SoFar m s left → length left ≡ 0 → g ≡ finishing sha256 s
    → ◌≡◌ {A = Hashed} (record { answer = g.answer; digest = g.digest }) (hashing sha256 m)
so-far-all m s left g h l e =
    let n : m ≡ h.taken = h.whole ∙ ap (λ (x : List ℕ). h.taken ++ x) (nothing left l) ∙ append-nil h.taken in
    let k : length m ≤ limit = rw n h.within in
    parts-finished sha256 m g (e ∙ ap (finishing sha256) (h.state ∙ sym (ap (fed sha256 (start sha256)) n))) k
