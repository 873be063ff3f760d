-- A frame is the version byte, two lengths, list and data set, one after the other.
-- Assumes nothing.
use Prim.Native.Nat.{ℕ, ◌+◌, ◌-◌, ◌<◌, ◌≤◌}
use mathlib.Core.Path.{◌≡◌, refl, sym, ap, ap₂, subst, ◌∙◌}
use mathlib.Core.List.{List, [], ◌∷◌, ◌++◌, append_assoc, append-nil}
use native.Mathlib.Nat.{add-zero}
use native.Mathlib.Omega.{arith}
use lib.ListN.{length, get_or, take, drop, length-append, length-drop, get_or-append}
use lib.Seq.{take_at, drop_at, take_all, take-add, drop-drop, drop-cons, get_or-take, get_or-drop, get_or-append-add}
use Rattle.slices.specs.Lists.{between}
use Rattle.slices.proofs.Laws.Parts.{length-between}
use Rattle.mac_frame.specs.Frame.{input_limit, big32, frame_of, frame_call}
use Rattle.mac_frame.specs.Theorems.{Framed, call_of, ReadBack}
use Rattle.std.specs.Prelude.{Some}
use Rattle.mac_frame.proofs.Laws.Frame.FrameTests.{filled, good-frame}

-- ---- a length by its four bytes
same_bytes_lem : (s n : List ℕ) (i : ℕ) → ((k : ℕ) → k < 4 → get_or s (i + k) 0 ≡ get_or n k 0) → big32 s i ≡ big32 n 0
unfolding big32
same_bytes_lem s n i h =
    let e₀ : get_or s i 0 ≡ get_or n 0 0 = ap (λ (k : ℕ). get_or s k 0) (sym (add-zero i)) ∙ h 0 (omega arith) in
    let e₁ : get_or s (i + 1) 0 ≡ get_or n 1 0 = h 1 (omega arith) in
    let e₂ : get_or s (i + 2) 0 ≡ get_or n 2 0 = h 2 (omega arith) in
    let e₃ : get_or s (i + 3) 0 ≡ get_or n 3 0 = h 3 (omega arith) in
    rw (e₀, e₁, e₂, e₃)

-- between two lists
length-there : (p n q : List ℕ) (i : ℕ) → length p ≡ i → length n ≡ 4 → big32 (p ++ (n ++ q)) i ≡ big32 n 0
length-there p n q i e f =
    same_bytes_lem (p ++ (n ++ q)) n i λ k h.
    ap (λ (x : ℕ). get_or (p ++ (n ++ q)) (x + k) 0) (sym e) ∙ get_or-append-add p (n ++ q) k 0 ∙ get_or-append n q 0 k (omega arith)

-- as a part
length-of-part : (s : List ℕ) (a e : ℕ) → a + 4 ≡ e → big32 s a ≡ big32 (between s a e) 0
unfolding between
length-of-part s a e f =
    same_bytes_lem s (take (e - a) (drop a s)) a λ k h. sym (get_or-take (e - a) (drop a s) k 0 (omega arith) ∙ get_or-drop a s k 0)

-- ---- parts
part-there : (p l q : List ℕ) (a e : ℕ) → length p ≡ a → a + length l ≡ e → between (p ++ (l ++ q)) a e ≡ l
unfolding between
part-there p l q a e h k = ap (take (e - a)) (drop_at p (l ++ q) a h) ∙ take_at l q (e - a) (omega arith)

joined : (s : List ℕ) (a b c : ℕ) → a ≤ b → b ≤ c → between s a c ≡ between s a b ++ between s b c
unfolding between
joined s a b c h k =
    let n : c - a ≡ (b - a) + (c - b) = omega arith in
    let m : a + (b - a) ≡ b = omega arith in
    ap (λ (x : ℕ). take x (drop a s)) n ∙ take-add (b - a) (c - b) (drop a s)
    ∙ ap (λ (l : List ℕ). take (b - a) (drop a s) ++ take (c - b) l) (drop-drop (b - a) a s ∙ ap (λ (x : ℕ). drop x s) m)

to_the_end : (s : List ℕ) (a : ℕ) → between s a (length s) ≡ drop a s
unfolding between
to_the_end s a = take_all (length s - a) (drop a s) (simp length-drop (omega arith))

-- ---- a frame is read
module _ (n m list set : List ℕ) (four₁ : length n ≡ 4) (four₂ : length m ≡ 4)
    (e₁ : big32 n 0 ≡ length list) (e₂ : big32 m 0 ≡ length set) where
  abbrev whole : List ℕ
  whole = 1 ∷ (n ++ (list ++ (m ++ set)))

  at_second : whole ≡ (1 ∷ (n ++ list)) ++ (m ++ set)
  at_second = ap (λ (l : List ℕ). 1 ∷ l) (sym (append_assoc n list (m ++ set)))

  at_set : whole ≡ (1 ∷ (n ++ (list ++ m))) ++ (set ++ [])
  at_set = ap (λ (l : List ℕ). 1 ∷ l) (simp (append_assoc, append-nil))

  size : length whole ≡ 9 + length list + length set
  size = simp length-append (omega arith)

  first : big32 whole 1 ≡ length list
  first = length-there (1 ∷ []) n (list ++ (m ++ set)) 1 refl four₁ ∙ e₁

  second : big32 whole (5 + length list) ≡ length set
  second =
      ap (λ (l : List ℕ). big32 l (5 + length list)) at_second
      ∙ length-there (1 ∷ (n ++ list)) m set (5 + length list) (simp length-append (omega arith)) four₂ ∙ e₂

  list-part : between whole 5 (5 + length list) ≡ list
  list-part = part-there (1 ∷ n) list (m ++ set) 5 (5 + length list) (omega arith) refl

  set-part : between whole (5 + length list + 4) (length whole) ≡ set
  set-part =
      ap (λ (l : List ℕ). between l (5 + length list + 4) (length whole)) at_set
      ∙ part-there (1 ∷ (n ++ (list ++ m))) set [] (5 + length list + 4) (length whole) (simp length-append (omega arith))
      (omega (arith, size))

  whole-read : length whole ≤ input_limit → ReadBack whole list set
  whole-read h =
      let k = size in
      record {
        good =
            sym (filled whole h (omega arith) refl (length list) (sym first) (omega arith) (length set) (sym second) (omega arith));
        call = ap₂ call_of list-part set-part;
      }

pub frames-read : (s list set : List ℕ) → Framed s list set → ReadBack s list set
frames-read s list set f =
    rw f.is
    (whole-read f.n f.m list set f.four.0 f.four.1 f.lengths.0 f.lengths.1
    (subst (λ (l : List ℕ). length l ≤ input_limit) f.is f.small))

-- ---- a good frame is one
pub only-frames : (s : List ℕ) (end : ℕ) → frame_of s ≡ Some end → Framed s (frame_call s end).list (frame_call s end).set
only-frames s end e =
    let g = good-frame s end (sym e) in
    let k : end ≡ 5 + big32 s 1 = g.ends in
    let z : length s ≡ 9 + big32 s 1 + big32 s end = rw k g.fills in
    let tail : drop 1 s ≡ between s 1 5 ++ (between s 5 end ++ (between s end (end + 4) ++ between s (end + 4) (length s))) =
    sym (to_the_end s 1)
    ∙ joined s 1 5 (length s) (omega arith) (omega arith)
    ∙ ap (λ (l : List ℕ). between s 1 5 ++ l) (joined s 5 end (length s) (omega arith) (omega arith))
    ∙ ap (λ (l : List ℕ). between s 1 5 ++ (between s 5 end ++ l)) (joined s end (end + 4) (length s) (omega arith) (omega arith)) in
    record {
      n = between s 1 5;
      m = between s end (end + 4);
      four =
          (length-between s 1 5 (omega arith) (omega arith), length-between s end (end + 4) (omega arith) (omega arith) ∙ omega arith);
      lengths = (
        sym (length-of-part s 1 5 refl) ∙ omega arith ∙ sym (length-between s 5 end (omega arith) (omega arith)),
        sym (length-of-part s end (end + 4) refl) ∙ omega arith ∙ sym (length-between s (end + 4) (length s) (omega arith) (omega arith)),
      );
      is = drop-cons s 0 0 (omega arith) ∙ ap₂ ◌∷◌ g.version tail;
      small = g.small;
    }
