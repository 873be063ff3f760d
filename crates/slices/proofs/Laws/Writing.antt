-- What is written of a list, `sets`, and the loop of `copy`: a byte past the end of the output is not written. Assumes nothing.
use Prim.Native.Nat.{ℕ, zero, suc, ◌+◌, ◌-◌, ◌≤◌, ◌<◌, min}
use native.Mathlib.Nat.{add-zero}
use native.Mathlib.Numerals.{add-one}
use native.Mathlib.Omega.{arith}
use mathlib.Core.Path.{◌≡◌, refl, sym, ap, ◌∙◌}
use mathlib.Core.List.{List, [], ◌∷◌, ◌++◌}
use lib.ListN.{length, take, drop, get_or, set, length-set, take-append-drop}
use lib.Seq.{sets, length-sets, set_out, take-suc, take_all, length-take-le}

pub sets-append : (l : List ℕ) (i : ℕ) (xs ys : List ℕ) → sets l i (xs ++ ys) ≡ sets (sets l i xs) (i + length xs) ys
sets-append l i [] ys = ap (λ (k : ℕ). sets l k ys) (sym (add-zero i))
sets-append l i (x ∷ xs) ys = sets-append (set l i x) (suc i) xs ys ∙ ap (λ (k : ℕ). sets (sets (set l i x) (suc i) xs) k ys) (omega arith)

-- two runs, one after the other
pub two_runs : (l xs ys : List ℕ) (i n : ℕ) (first second : List ℕ) → length xs ≡ n → first ≡ sets l i xs → second ≡ sets first (i + n) ys → second ≡ sets l i (xs ++ ys)
two_runs l xs ys i n first second e f g = g ∙ rw (f, ← e) (sym (sets-append l i xs ys))

sets-past : (l : List ℕ) (i : ℕ) (xs : List ℕ) → length l ≤ i → sets l i xs ≡ l
sets-past l i [] h = refl
sets-past l i (x ∷ xs) h = rw (set_out l i x h) (sets-past l (suc i) xs (omega arith))

-- ---- the loop of `copy`: i bytes are written
pub record CopyLoop (s out₀ : List ℕ) (to : ℕ) (out : List ℕ) (count i : ℕ) : Type 0 where
  pub few : i ≤ count
  pub same : out ≡ sets out₀ to (take i s)
  pub long : length out ≡ length out₀

pub copy-past : (s out : List ℕ) (to : ℕ) → length out ≤ to → out ≡ sets out to s
copy-past s out to h = sym (sets-past out to s h)

pub copy_start : (s out : List ℕ) (to count : ℕ) → CopyLoop s out to out count 0
copy_start s out to count = record { few = omega arith; same = refl; long = refl }

-- the first bytes, all or as many as fit: what is left does not fit
pub sets-fitting : (s out : List ℕ) (to count : ℕ) → (count < length s → length out - to ≤ count) → sets out to (take count s) ≡ sets out to s
sets-fitting s out to count f = go (length s - count) refl
  where
    go : (n : ℕ) → n ≡ length s - count → sets out to (take count s) ≡ sets out to s
    go zero q = ap (λ (x : List ℕ). sets out to x) (take_all count s (omega arith))
    go (suc n) q =
        let r = f (omega arith) in
        let k = length-take-le count s (omega arith) in
        sym (sets-past (sets out to (take count s)) (to + length (take count s)) (drop count s) (rw (length-sets out to (take count s), k) (omega arith)))
        ∙ sym (sets-append out to (take count s) (drop count s)) ∙ ap (λ (x : List ℕ). sets out to x) (take-append-drop count s)

module _ (s out₀ : List ℕ) (to : ℕ) (out : List ℕ) (count i : ℕ) (c : CopyLoop s out₀ to out count i) where
  pub copy-again : count ≤ length s → i < count → CopyLoop s out₀ to (set out (to + i) (get_or s i 0)) count (i + 1)
  copy-again m l =
      let k = c.same in
      let n = length-take-le i s (omega arith) in
      record {
        few = omega arith;
        same = rw (add-one, take-suc s i 0 (omega arith), sets-append out₀ to (take i s) (get_or s i 0 ∷ []), n, ← k);
        long = length-set out (to + i) (get_or s i 0) ∙ c.long;
      }

  pub copy-end : (count < length s → length out₀ - to ≤ count) → count ≤ i → out ≡ sets out₀ to s
  copy-end f l =
      let e : i ≡ count = omega (arith, c.few) in
      c.same ∙ ap (λ (k : ℕ). sets out₀ to (take k s)) e ∙ sets-fitting s out₀ to count f

  -- with the count that the code has
  pub copy-end-min : count ≡ min (length s) (length out₀ - to) → count ≤ i → out ≡ sets out₀ to s
  copy-end-min m = copy-end (λ h. omega arith)
