-- Feeding in parts is feeding the whole, and finishing after it is the digest of the whole message, for any algorithm.
-- Assumes nothing.
use Rattle.std.proofs.Common.{◌≡◌, ℕ, ◌+◌, ◌-◌, ◌%◌, ◌≤◌, true, ◌&&◌, eqb, leb, List, ◌++◌, length, drop, replicate, ap, ◌∙◌, ap₂, append_assoc, zero-add, arith, length-append, eq-eqb, le-leb}
use lib.Seq.{take-append_seam, drop-append_seam}
use Rattle.digest.specs.Padding.{word_bytes, padding}
use Rattle.digest.specs.Message.{Algorithm, after_blocks, rest, digest_of, limit}
use Rattle.digest.specs.Running.{waiting_bytes, possible, accepts, zero_filled, start, fed, finished}
use Rattle.slices.specs.Lists.{all_are}
use Rattle.digest.specs.Theorems.{TwoFeedings, DigestSoFar}
use Rattle.digest.specs.declared.running.Running.{Running}
use Rattle.digest.proofs.Laws.Running.Chain.{after_blocks-more, rest_more, length_rest}
use Rattle.digest.proofs.Laws.Running.Zeros.{zeros-zero}
use Rattle.digest.proofs.Laws.Running.WaitingArray.{length-waiting}

-- what waits after a feeding
waiting-fed : (a : Algorithm) (s : Running) (m : List ℕ) → waiting_bytes (fed a s m) ≡ rest (waiting_bytes s ++ m)
unfolding fed
waiting-fed a s m = take-append_seam (rest (waiting_bytes s ++ m)) (replicate (64 - length (rest (waiting_bytes s ++ m))) 0)

pub two-feedings : TwoFeedings
unfolding fed
two-feedings a s m n =
    let f = a.block in
    let x = waiting_bytes s ++ m in
    let w : waiting_bytes (fed a s m) ++ n ≡ rest x ++ n = ap (λ (l : List ℕ). l ++ n) (waiting-fed a s m) in
    let all : x ++ n ≡ waiting_bytes s ++ (m ++ n) = append_assoc (waiting_bytes s) m n in
    let hs : after_blocks f (after_blocks f s.words x) (waiting_bytes (fed a s m) ++ n) ≡ after_blocks f s.words (waiting_bytes s ++ (m ++ n)) =
    ap (after_blocks f (after_blocks f s.words x)) w ∙ after_blocks-more f s.words x n ∙ ap (after_blocks f s.words) all in
    let rs : rest (waiting_bytes (fed a s m) ++ n) ≡ rest (waiting_bytes s ++ (m ++ n)) = ap rest w ∙ rest_more x n ∙ ap rest all in
    let ts : s.total + length m + length n ≡ s.total + length (m ++ n) = simp length-append (omega arith) in
    λ i. record { words = hs i; waiting = zero_filled (rs i); count = length (rs i); total = ts i }

pub digest-so-far : DigestSoFar
unfolding finished fed start digest_of
digest-so-far a m =
    let w : waiting_bytes (fed a (start a) m) ≡ rest m = waiting-fed a (start a) m in
    let n : 0 + length m ≡ length m = zero-add (length m) in
    ap₂ (λ (l : List ℕ) (k : ℕ). word_bytes a.order a.size (after_blocks a.block (after_blocks a.block a.start m) (l ++ padding a.order k))) w n
    ∙ ap (word_bytes a.order a.size) (after_blocks-more a.block a.start m (padding a.order (length m)))

-- a running digest that was fed is possible, and takes more bytes while the total is within the limit
pub accepts-fed : (a : Algorithm) (s : Running) (m : List ℕ) (n : ℕ) → length s.waiting ≡ 64 → s.count ≡ s.total % 64
    → s.total + length m + n ≤ limit → accepts (fed a s m) n ≡ true
unfolding accepts possible fed
accepts-fed a s m n l c h =
    let all = waiting_bytes s ++ m in
    let n₁ = length-waiting s m (omega arith) in
    let e₁ : eqb (length (rest all)) ((s.total + length m) % 64) ≡ true = eq-eqb _ _ (length_rest all ∙ omega arith) in
    let e₂ : all_are 0 (drop (length (rest all)) (zero_filled (rest all))) ≡ true =
    ap (all_are 0) (drop-append_seam (rest all) (replicate (64 - length (rest all)) 0)) ∙ zeros-zero (64 - length (rest all)) in
    let e₃ : leb (s.total + length m + n) limit ≡ true = le-leb (s.total + length m + n) limit h in
    ap₂ ◌&&◌ (ap₂ ◌&&◌ e₁ e₂) e₃
