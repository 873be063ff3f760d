-- Rules by which `search` follows a chain of checks, `if b then x else if ..`, from the tests that a place of the code has. Assumes
-- nothing.
use Rattle.std.proofs.Common.{if◌then◌else◌}
use Prim.Native.Nat.{ℕ, ◌+◌, ◌-◌, ◌%◌, ◌<◌, ◌≤◌}
use mathlib.Core.List.{List}
use mathlib.Core.Path.{◌≡◌, sym, ap, ◌∙◌}
use mathlib.Core.Bool.{Bool, true, false, not, ◌&&◌, ◌||◌}
use lib.Dec.{ltb, eqb}
use native.Mathlib.Omega.{arith}
use lib.ListN.{length}
use borrow.Author.Tests.{ltb-false, lt-ltb, le-ltb, eq-eqb, ne_eqb}
use Rattle.std.specs.Prelude.{Option, Result, Err}
use Rattle.answer.specs.declared.Answer.{Answer}
use Rattle.dataset.specs.Header.{fault_at, ElementHeader, ItemHeader, outside, long_at, by_form, vr_on_at, value_by, item_by}
use Rattle.dataset.specs.Bytes.{num16, num32, tag_at, vr_at}
use Rattle.dataset.specs.Vr.{form_of}
use Rattle.slices.proofs.Laws.Bools.{neither}
use Rattle.dataset.specs.declared.vr.Form.{Form}
use Rattle.dataset.specs.declared.vr.Form.TheVariants.{Short, Long, Neither}

pub took : {A : Type 0} (b : Bool) (x y z : A) → b ≡ true → z ≡ x → z ≡ (if b then x else y)
took b x y z e q = rw e q

pub skip : {A : Type 0} (b : Bool) (x y z : A) → b ≡ false → z ≡ y → z ≡ (if b then x else y)
skip b x y z e q = rw e q

-- a test that is an if itself
pub if-true : {A : Type 0} (b : Bool) (x y v : A) → b ≡ true → x ≡ v → (if b then x else y) ≡ v
if-true b x y v e q = rw e q

pub if-false : {A : Type 0} (b : Bool) (x y v : A) → b ≡ false → y ≡ v → (if b then x else y) ≡ v
if-false b x y v e q = rw e q

pub not_t : (b : Bool) → b ≡ false → not b ≡ true
not_t b e = rw e

pub not_f : (b : Bool) → b ≡ true → not b ≡ false
not_f b e = rw e

pub and-t : (a b : Bool) → a ≡ true → b ≡ true → (a && b) ≡ true
and-t a b e f = rw (e, f)

pub and-f : (a b : Bool) → a ≡ false → (a && b) ≡ false
and-f a b e = rw e

pub and-f2 : (a b : Bool) → a ≡ true → b ≡ false → (a && b) ≡ false
and-f2 a b e f = rw (e, f)

pub or-t : (a b : Bool) → a ≡ true → (a || b) ≡ true
or-t a b e = rw e

pub or-t2 : (a b : Bool) → a ≡ false → b ≡ true → (a || b) ≡ true
or-t2 a b e f = rw (e, f)

pub or-f : (a b : Bool) → a ≡ false → b ≡ false → (a || b) ≡ false
or-f a b e f = rw (e, f)

-- a test of what a call gave: r is its result, and t what it ensures of it
pub flag : (r t v : Bool) → r ≡ t → r ≡ v → t ≡ v
flag r t v e f = sym e ∙ f

pub lt_of : (r t k : ℕ) → r ≡ t → r < k → ltb t k ≡ true
lt_of r t k e h = rw (← e) (lt-ltb r k h)

pub le_of : (r t k : ℕ) → r ≡ t → k ≤ r → ltb t k ≡ false
le_of r t k e h = rw (← e) (le-ltb r k h)

pub eq_of : (r t k : ℕ) → r ≡ t → r ≡ k → eqb t k ≡ true
eq_of r t k e h = rw (← e) (eq-eqb r k h)

pub ne_of : (r t k : ℕ) → r ≡ t → (r ≡ k → ⊥) → eqb t k ≡ false
ne_of r t k e h = rw (← e) (ne_eqb r k h)

pub ruleset checks = (took, skip, if-true, if-false, not_t, not_f, and-t, and-f, and-f2, or-t, or-t2, or-f, lt-ltb, le-ltb, eq-eqb, ne_eqb)

pub ruleset results = (flag, lt_of, le_of, eq_of, ne_of)

-- a refusal by what it is made of
pub refuses : (r a : Answer) → r ≡ a → ElementHeader.refused r ≡ ElementHeader.refused a
refuses r a e = ap ElementHeader.refused e

pub refuses-item : (r a : Answer) → r ≡ a → ItemHeader.refused r ≡ ItemHeader.refused a
refuses-item r a e = ap ItemHeader.refused e

pub refuses-end : (r a : Answer) → r ≡ a → ◌≡◌ {A = Result (Option ℕ) Answer} (Err r) (Err a)
refuses-end r a e = ap (λ (f : Answer). Err f) e

pub ruleset refusals = (refuses, refuses-item, refuses-end)

-- ---- what follows the checks of a header is another function's; z is its result
pub short-form : (d : List ℕ) (tag left stop at v len : ℕ) (f : Form) (z : ElementHeader) → v ≡ vr_at d at → f ≡ form_of v → f ≡ Short → len ≡ num16 d (at + 6)
    → z ≡ value_by tag v left stop at (at + 8) len → z ≡ vr_on_at d tag left stop at
unfolding vr_on_at by_form
short-form d tag left stop at v len f z e q s l w = rw (← e, ← q, s, ← l) w

pub long-form : (d : List ℕ) (tag left stop at v : ℕ) (f : Form) (z : ElementHeader) → v ≡ vr_at d at → f ≡ form_of v → f ≡ Long
    → z ≡ long_at d tag v left stop at → z ≡ vr_on_at d tag left stop at
unfolding vr_on_at by_form
long-form d tag left stop at v f z e q s w = rw (← e, ← q, s) w

pub no-form : (d : List ℕ) (tag left stop at v : ℕ) (f : Form) (a : Answer) → v ≡ vr_at d at → f ≡ form_of v → f ≡ Neither
    → a ≡ fault_at 5 at → ElementHeader.refused a ≡ vr_on_at d tag left stop at
unfolding vr_on_at by_form
no-form d tag left stop at v f a e q s w = rw (← e, ← q, s, w)

pub long-value : (d : List ℕ) (i tag v left stop at start len : ℕ) (z : ElementHeader) → len ≡ num32 d i
    → z ≡ value_by tag v left stop at start len → z ≡ value_by tag v left stop at start (num32 d i)
long-value d i tag v left stop at start len z l w = rw (← l) w

pub tag-on : (d : List ℕ) (tag left stop at : ℕ) (z : ElementHeader) → tag ≡ tag_at d at → z ≡ vr_on_at d tag left stop at → z ≡ vr_on_at d (tag_at d at) left stop at
tag-on d tag left stop at z e w = rw (← e) w

pub item_on : (d : List ℕ) (in_sequence : Bool) (i stop at start len : ℕ) (z : ItemHeader) → len ≡ num32 d i → z ≡ item_by in_sequence stop at start len
    → z ≡ item_by in_sequence stop at start (num32 d i)
item_on d in_sequence i stop at start len z e w = rw (← e) w

pub ruleset handed = (long-value, tag-on, item_on)

-- FFFFFFFF is odd
pub undefined-odd : (len : ℕ) → len ≡ 0xFFFFFFFF → eqb (len % 2) 1 ≡ true
undefined-odd len h = rw h

-- ---- an extent that lies inside the data and does not end before `at`: b is the test of that
module _ (d : List ℕ) (stop at : ℕ) (b : Bool) (e : b ≡ outside d stop at) (h : b ≡ false) where
  inside : (ltb (length d) stop ≡ false) × (ltb stop at ≡ false)
  inside = neither (ltb (length d) stop) (ltb stop at) (sym e ∙ h)

  pub inside-at : at ≤ stop
  inside-at = ltb-false stop at inside.1

  pub inside-stop : stop ≤ length d
  inside-stop = ltb-false (length d) stop inside.0

  pub header-inside : 8 ≤ stop - at → at + 8 ≤ stop
  header-inside k = omega (arith, inside-at)

  pub header-length : 8 ≤ stop - at → at + 4 + 4 ≤ length d
  header-length k = omega (arith, inside-at, inside-stop)

  pub header-start : (n : ℕ) → 8 ≤ stop - at → n ≤ 8 → at + n ≤ length d
  header-start n k l = omega (arith, inside-at, inside-stop)

pub ruleset within = (inside-at, inside-stop, header-inside, header-length, header-start)
