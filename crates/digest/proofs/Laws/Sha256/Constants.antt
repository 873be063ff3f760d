-- The tables of constants keep the rule of FIPS 180-4: one computed test a table, and a law that makes of the test the rule at each entry.
-- Assumes nothing.
use Rattle.std.proofs.Common.{◌≡◌, ℕ, zero, suc, ◌+◌, ◌*◌, ◌^◌, ◌<◌, Bool, true, ◌&&◌, ltb, leb, List, [], ◌∷◌, length, drop, refl, arith, get_or-drop, ltb-true, leb-true, if◌then◌else◌}
use mathlib.Core.Bool.{and-eq-true_iff}
use Rattle.slices.specs.Lists.{at}
use Rattle.digest.specs.Sha256.{constants, start_words}
use Rattle.digest.specs.Constants.{RootBits, undivided, primes_below}
use Rattle.digest.specs.Theorems.{ConstantsRule, StartWordsRule}

-- the greatest whole number up to n whose e-th power is at most p
whole_root : (n e p : ℕ) → ℕ
whole_root zero e p = 0
whole_root (suc n) e p = if leb (suc n ^ e) p then suc n else whole_root n e p

-- the rule as a test; roots of the primes below 312 are below 18
keeps : (e p x : ℕ) → Bool
keeps e p x =
    let r = whole_root 17 e p * 2 ^ 32 + x in
    ltb x (2 ^ 32) && (leb (r ^ e) (p * 2 ^ (32 * e)) && ltb (p * 2 ^ (32 * e)) ((r + 1) ^ e))

kept : (e p x : ℕ) → keeps e p x ≡ true → RootBits e p x
unfolding keeps
kept e p x t =
    let tests = (and-eq-true_iff _ _).0 t in
    let bounds = (and-eq-true_iff _ _).0 tests.1 in
    record { word = ltb-true _ _ tests.0; whole = whole_root 17 e p; most = leb-true _ _ bounds.0; next = ltb-true _ _ bounds.1 }

-- the test over a whole table, each word with the prime in its place
all_keep : (e : ℕ) → List ℕ → List ℕ → Bool
all_keep e ps [] = true
all_keep e ps (x ∷ xs) = keeps e (at ps 0) x && all_keep e (drop 1 ps) xs

all-kept : (e : ℕ) (ps xs : List ℕ) → all_keep e ps xs ≡ true → (i : ℕ) → i < length xs → RootBits e (at ps i) (at xs i)
unfolding all_keep
all-kept e ps [] t i h = absurd (omega arith)
all-kept e ps (x ∷ xs) t zero h = kept e (at ps 0) x ((and-eq-true_iff _ _).0 t).0
all-kept e ps (x ∷ xs) t (suc i) h =
    let n : 1 + i ≡ suc i = omega arith in
    rw (get_or-drop 1 ps i 0, n) at (all-kept e (drop 1 ps) xs ((and-eq-true_iff (keeps e (at ps 0) x) _).0 t).1 i (omega arith))

pub constants-rule : ConstantsRule
unfolding constants primes_below undivided all_keep keeps whole_root
constants-rule = record { primes = refl; table = refl; rule = all-kept 3 (primes_below 312) constants refl }

pub start-words-rule : StartWordsRule
unfolding start_words primes_below undivided all_keep keeps whole_root
start-words-rule = record { primes = refl; table = refl; rule = all-kept 2 (primes_below 20) start_words refl }
