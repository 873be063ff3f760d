-- Text written piece by piece.
-- Assumes nothing.
use Prim.Native.Nat.{ℕ, zero, suc, ◌+◌, ◌/◌, ◌%◌, ◌^◌, ◌<◌, ◌≤◌}
use mathlib.Core.Path.{◌≡◌, sym, ap, ap₂, subst, ◌∙◌}
use mathlib.Core.List.{List, [], ◌∷◌, ◌++◌}
use native.Mathlib.Decide.{dec_lt}
use native.Mathlib.Omega.{arith}
use borrow.Author.Tests.{lt-ltb, le-ltb}
use lib.ListN.{length, length-append}
use lib.Seq.{sets}
use Rattle.answer.specs.declared.Answer.{Answer}
use Rattle.mac_frame.specs.Text.{space, newline, digit, decimal_by, decimal, decimal_then, line}
use Rattle.std.specs.Fmt.{decimal as std_decimal}
use Rattle.std.proofs.lemmas.Fmt.{decimal_by_steps, length-decimal-le}
use Rattle.mac_frame.specs.Inner.Puts.{Puts}
use Rattle.mac_frame.specs.declared.text.Text.{Text}
use Rattle.slices.proofs.Laws.Writing.{sets-append}

-- one piece after another
pub puts_then : (t m u : Text) (xs ys : List ℕ) → Puts t xs m → Puts m ys u → Puts t (xs ++ ys) u
puts_then t m u xs ys p q =
    record {
      same_room = q.same_room ∙ p.same_room;
      size = q.size ∙ ap (λ (k : ℕ). k + length ys) p.size ∙ simp length-append (omega arith);
      wrote = q.wrote ∙ ap₂ (λ (l : List ℕ) (k : ℕ). sets l k ys) p.wrote p.size ∙ sym (sets-append t.room.now t.size xs ys);
    }

-- ---- decimal
decimal-few : (k n : ℕ) → n < 10 → decimal_by (suc k) n ≡ digit n ∷ []
unfolding decimal_by
decimal-few k n h = simp (lt-ltb n 10 h)

decimal-many : (k n : ℕ) → 10 ≤ n → decimal_by (suc k) n ≡ decimal_by k (n / 10) ++ (digit (n % 10) ∷ [])
unfolding decimal_by
decimal-many k n h = simp (le-ltb n 10 h)

shorter : (k m n : ℕ) → n < suc k → n < suc m → (n / 10 < k → n / 10 < m → decimal_by k (n / 10) ≡ decimal_by m (n / 10)) → Dec (n < 10)
    → decimal_by (suc k) n ≡ decimal_by (suc m) n
shorter k m n h g ih (yes p) = decimal-few k n p ∙ sym (decimal-few m n p)
shorter k m n h g ih (no p) =
    decimal-many k n (omega arith) ∙ ap (λ (l : List ℕ). l ++ (digit (n % 10) ∷ [])) (ih (omega arith) (omega arith))
    ∙ sym (decimal-many m n (omega arith))

-- any number of steps above n gives the same
decimal-enough : (k m n : ℕ) → n < k → n < m → decimal_by k n ≡ decimal_by m n
decimal-enough zero m n h g = absurd (omega arith)
decimal-enough (suc k) zero n h g = absurd (omega arith)
decimal-enough (suc k) (suc m) n h g = shorter k m n h g (decimal-enough k m (n / 10)) (dec_lt n 10)

decimal-more : (n : ℕ) → 10 ≤ n → decimal n ≡ decimal (n / 10) ++ (digit (n % 10) ∷ [])
unfolding decimal
decimal-more n h =
    decimal-many n n h
    ∙ ap (λ (l : List ℕ). l ++ (digit (n % 10) ∷ [])) (decimal-enough n (suc (n / 10)) (n / 10) (omega arith) (omega arith))

-- it is what the library prints
printed-digit : (n : ℕ) → n < 10 → (48 + n) ∷ [] ≡ decimal n
unfolding decimal
printed-digit n h = sym (decimal-few n n h ∙ ap (λ (x : ℕ). x ∷ []) (simp (lt-ltb n 10 h)))

printed-more : (n : ℕ) (l : List ℕ) → 10 ≤ n → l ≡ decimal (n / 10) → l ++ ((48 + n % 10) ∷ []) ≡ decimal n
printed-more n l h e =
    let d : digit (n % 10) ≡ 48 + n % 10 = simp (lt-ltb (n % 10) 10 (omega arith)) in
    ap₂ (λ (k : List ℕ) (x : ℕ). k ++ (x ∷ [])) e (sym d) ∙ sym (decimal-more n h)

pub printed-decimal : (n : ℕ) → n < 2 ^ 64 → std_decimal n ≡ decimal n
printed-decimal = decimal_by_steps (λ n l. l ≡ decimal n) printed-digit printed-more

pub length-decimal : (n : ℕ) → n < 2 ^ 64 → length (decimal n) ≤ 20
length-decimal n h = subst (λ (l : List ℕ). length l ≤ 20) (printed-decimal n h) (length-decimal-le 20 n (omega arith) (omega arith) h)

-- ---- a line
pub length-decimal-then : (n e : ℕ) → n < 2 ^ 64 → length (decimal_then n e) ≤ 21
unfolding decimal_then
length-decimal-then n e h = simp length-append (omega (arith, length-decimal n h))

pub decimal-then-puts : (t m u : Text) (n e : ℕ) → Puts t (decimal n) m → Puts m (e ∷ []) u → Puts t (decimal_then n e) u
unfolding decimal_then
decimal-then-puts t m u n e p q = puts_then t m u (decimal n) (e ∷ []) p q

pub line-puts : (t t' t'' u : Text) (a : Answer) → Puts t (decimal_then a.number space) t' → Puts t' (decimal_then a.position space) t''
    → Puts t'' (decimal_then a.length newline) u → Puts t (line a) u
unfolding line
line-puts t t' t'' u a p q r =
    puts_then t t' u (decimal_then a.number space) (decimal_then a.position space ++ decimal_then a.length newline) p
    (puts_then t' t'' u (decimal_then a.position space) (decimal_then a.length newline) q r)

pub length-line : (a : Answer) → a.number < 2 ^ 64 → a.position < 2 ^ 64 → a.length < 2 ^ 64 → length (line a) ≤ 63
unfolding line
length-line a h k l =
    let p = length-decimal-then a.number space h in
    let q = length-decimal-then a.position space k in
    let r = length-decimal-then a.length newline l in
    simp length-append (omega arith)
