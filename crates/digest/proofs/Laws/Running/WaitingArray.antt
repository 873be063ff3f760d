-- The code's test is `accepts`, and what the code does with the array of waiting bytes is what `fed` says, for any algorithm.
-- Assumes nothing.
use Rattle.std.proofs.Common.{◌≡◌, ℕ, ◌+◌, ◌-◌, ◌*◌, ◌/◌, ◌<◌, ◌≤◌, Bool, true, false, ◌&&◌, List, [], ◌++◌, length, take, drop, replicate, refl, sym, ap, ◌∙◌, append_assoc, append-nil, arith, length-append, length-drop, take-append-drop, length-take-le, eqb-true, le-leb, leb-true}
use mathlib.Core.Bool.{and-true, and-false, and-eq-true_iff}
use borrow.Author.Tests.{lt-leb}
use Rattle.std.proofs.lemmas.List.Edits.{sets, sets-eq}
use Rattle.slices.proofs.Laws.Writing.{two_runs}
use Rattle.digest.specs.Message.{Algorithm, after_blocks, rest, limit}
use Rattle.digest.specs.Running.{waiting_bytes, possible, accepts, zero_filled, fed}
use Rattle.digest.specs.Inner.Ready.{Ready}
use Rattle.digest.specs.declared.running.Running.{Running}
use Rattle.digest.proofs.Laws.Running.Chain.{after_blocks-more, after_blocks-few, rest_more, rest-few, rest-one}
use Rattle.digest.proofs.Laws.Running.Zeros.{zero-list, drop-replicate}
use Rattle.slices.specs.Lists.{all_are}

-- the test gives the facts
pub ready : (s : Running) (n : ℕ) → accepts s n ≡ true → Ready s n
unfolding accepts possible
ready s n e =
    let tests = (and-eq-true_iff _ _).0 e in
    let possible = (and-eq-true_iff _ _).0 tests.0 in
    record { counted = eqb-true _ _ possible.0; empty = possible.1; within = leb-true _ _ tests.1 }

-- the test, as the code makes it: the limit first
pub accepts-within : (s : Running) (n : ℕ) (t : Bool) → s.total + n ≤ limit → t ≡ possible s → t ≡ accepts s n
unfolding accepts
accepts-within s n t h e = e ∙ sym (ap (λ (b : Bool). possible s && b) (le-leb (s.total + n) limit h) ∙ and-true (possible s))

pub accepts-past : (s : Running) (n : ℕ) → limit < s.total + n → false ≡ accepts s n
unfolding accepts
accepts-past s n h = sym (ap (λ (b : Bool). possible s && b) (lt-leb (s.total + n) limit h) ∙ and-false (possible s))

-- the waiting bytes w with m behind them, in an array of zeros: the stores that make it
pub filled-stores : (w m u v : List ℕ) → length w + length m ≤ 64 → u ≡ sets (replicate 64 0) 0 w → v ≡ sets u (length w) m → v ≡ zero_filled (w ++ m)
filled-stores w m u v h p q =
    let n = length-append w m in
    two_runs (replicate 64 0) w m 0 (length w) u v refl p (q ∙ ap (λ (k : ℕ). sets u k m) (omega arith)) ∙ sets-eq (w ++ m) (replicate 64 0) 0 (omega arith)
    ∙ ap (λ (x : List ℕ). (w ++ m) ++ x) (drop-replicate (0 + length (w ++ m)) 64 0 ∙ ap (λ (j : ℕ). replicate j 0) (omega arith))

-- 64 bytes leave no room
filled-whole : (b : List ℕ) → length b ≡ 64 → zero_filled b ≡ b
filled-whole b e =
    let n : 64 - length b ≡ 0 = omega arith in
    ap (λ (k : ℕ). b ++ replicate k 0) n ∙ append-nil b

-- the length of the waiting bytes with m after them
pub length-waiting : (s : Running) (m : List ℕ) → s.count ≤ length s.waiting → length (waiting_bytes s ++ m) ≡ s.count + length m
length-waiting s m h = length-append (waiting_bytes s) m ∙ ap (λ (k : ℕ). k + length m) (length-take-le s.count s.waiting h)

-- the array of waiting bytes, whose room past them is zero
pub waiting-filled : (s : Running) → length s.waiting ≡ 64 → s.count < 64 → all_are 0 (drop s.count s.waiting) ≡ true
    → s.waiting ≡ zero_filled (waiting_bytes s ++ [])
waiting-filled s l h z =
    let w = waiting_bytes s in
    let n : length w ≡ s.count = length-take-le s.count s.waiting (omega arith) in
    let k : length (drop s.count s.waiting) ≡ 64 - length w = simp length-drop (omega arith) in
    sym (take-append-drop s.count s.waiting)
    ∙ ap (λ (x : List ℕ). w ++ x) (zero-list (drop s.count s.waiting) z ∙ ap (λ (j : ℕ). replicate j 0) k) ∙ sym (ap zero_filled (append-nil w))

-- what is past the whole blocks
pub rest-from : (m p : List ℕ) → p ≡ drop (length m / 64 * 64) m → p ≡ rest m
unfolding rest
rest-from m p e = e ∙ ap (λ (k : ℕ). drop k m) (omega arith)

module _ (a : Algorithm) (s : Running) (m : List ℕ) (l : length s.waiting ≡ 64) where
  -- fewer bytes than there is room: they wait too
  pub fed-few : (w : List ℕ) → s.count + length m < 64 → w ≡ zero_filled (waiting_bytes s ++ m)
      → ◌≡◌ {A = Running} (record { words = s.words; waiting = w; count = s.count + length m; total = s.total + length m }) (fed a s m)
  unfolding fed
  fed-few w h e =
      let all = waiting_bytes s ++ m in
      let n = length-waiting s m (omega arith) in
      let re : all ≡ rest all = sym (rest-few all (omega arith)) in
      let q : w ≡ zero_filled (rest all) = e ∙ ap zero_filled re in
      let hs : s.words ≡ after_blocks a.block s.words all = sym (after_blocks-few a.block s.words all (omega arith)) in
      let cs : s.count + length m ≡ length (rest all) = sym n ∙ ap length re in
      λ i. record { words = hs i; waiting = q i; count = cs i; total = s.total + length m }

  -- a block is filled, whole blocks follow, and what is left waits
  pub fed-many : (r n : ℕ) (full h₁ t h₂ w p : List ℕ) → s.count < 64 → 64 ≤ s.count + length m → r ≡ 64 - s.count
      → full ≡ zero_filled (waiting_bytes s ++ take r m) → h₁ ≡ after_blocks a.block s.words full
      → t ≡ drop r m → h₂ ≡ after_blocks a.block h₁ t → p ≡ rest t → w ≡ zero_filled (p ++ []) → n ≡ length p
      → ◌≡◌ {A = Running} (record { words = h₂; waiting = w; count = n; total = s.total + length m }) (fed a s m)
  unfolding fed
  fed-many r c₂ full h₁ t h₂ w p c h z ef e₁ et e₂ ep ew ec =
      let f = a.block in
      let F = waiting_bytes s ++ take r m in
      let all = waiting_bytes s ++ m in
      let n : length (take r m) ≡ r = length-take-le r m (omega arith) in
      let n_f : length F ≡ 64 = length-waiting s (take r m) (omega arith) ∙ omega arith in
      let f_f : full ≡ F = ef ∙ filled-whole F n_f in
      let joined : F ++ t ≡ all =
      ap (λ (x : List ℕ). F ++ x) et ∙ append_assoc (waiting_bytes s) (take r m) (drop r m) ∙ ap (λ (x : List ℕ). waiting_bytes s ++ x) (take-append-drop r m) in
      let r₁ : rest F ++ t ≡ t = ap (λ (x : List ℕ). x ++ t) (rest-one F n_f) in
      let hs : h₂ ≡ after_blocks f s.words all =
      e₂ ∙ ap (λ (x : List ℕ). after_blocks f x t) (e₁ ∙ ap (after_blocks f s.words) f_f)
      ∙ ap (after_blocks f (after_blocks f s.words F)) (sym r₁) ∙ after_blocks-more f s.words F t ∙ ap (after_blocks f s.words) joined in
      let rs : p ≡ rest all = ep ∙ ap rest (sym r₁) ∙ rest_more F t ∙ ap rest joined in
      let ws : w ≡ zero_filled (rest all) = ew ∙ ap zero_filled (append-nil p ∙ rs) in
      let cs : c₂ ≡ length (rest all) = ec ∙ ap length rs in
      λ i. record { words = hs i; waiting = ws i; count = cs i; total = s.total + length m }
