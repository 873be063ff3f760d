-- The tests of the frame, as the code makes them, and what is printed.
-- Assumes nothing.
use Rattle.std.proofs.Common.{if◌then◌else◌}
use Prim.Native.Nat.{ℕ, ◌+◌, ◌<◌, ◌≤◌}
use mathlib.Core.Path.{◌≡◌, refl, sym, ap, ap₂, subst, ◌∙◌}
use mathlib.Core.Bool.{Bool, true, false}
use mathlib.Core.List.{List, [], ◌++◌, append-nil}
use mathlib.Core.Option as Opt
use native.Mathlib.Decide.{dec_lt}
use native.Mathlib.Omega.{arith}
use borrow.Author.Tests.{lt-ltb, le-ltb, eq-eqb, ne_eqb, eqb-true, eqb-false}
use lib.Dec.{eqb}
use lib.ListN.{length, get_or, take}
use Rattle.answer.specs.declared.Answer.{Answer}
use Rattle.answer.specs.Answer.{refused}
use Rattle.slices.specs.Lists.{between}
use Rattle.mac.specs.Result.{Streamed, is_accepted, output_after}
use Rattle.mac.specs.ListMode.{Call, answer, stream, stream_call, result}
use Rattle.mac_frame.specs.Text.{line, hex_lines}
use Rattle.mac_frame.specs.Frame.{input_limit, output_room, big32, frame_of, frame_call, report, printed_by, printed}
use Rattle.mac_frame.specs.Inner.Puts.{Puts, Holds}
use Rattle.mac_frame.specs.declared.text.Text.{Text}
use Rattle.mac_theorems.proofs.Laws.Answers.Acceptance.{answer-accepted, answer-fits}
use Rattle.mac_theorems.proofs.Laws.Answers.Outputs.{output-stream}
use Rattle.mac_frame.proofs.Laws.Text.TextPieces.{puts_then}
use Rattle.std.specs.Prelude.{Option, None, Some}

module _ (s : List ℕ) where
  pub too_long : input_limit < length s → None ≡ frame_of s
  unfolding frame_of
  too_long h = simp (lt-ltb input_limit (length s) h)

  module _ (h₁ : length s ≤ input_limit) where
    pub too_short : length s < 5 → None ≡ frame_of s
    unfolding frame_of
    too_short h = simp (le-ltb input_limit (length s) h₁, lt-ltb (length s) 5 h)

    module _ (h₂ : 5 ≤ length s) where
      pub other-version : (get_or s 0 0 ≡ 1 → ⊥) → None ≡ frame_of s
      unfolding frame_of
      other-version h = simp (le-ltb input_limit (length s) h₁, le-ltb (length s) 5 h₂, ne_eqb (get_or s 0 0) 1 h)

      module _ (h₃ : get_or s 0 0 ≡ 1) (list : ℕ) (e : list ≡ big32 s 1) where
        pub list-past : length s < 9 + list → None ≡ frame_of s
        unfolding frame_of
        list-past h =
            simp (le-ltb input_limit (length s) h₁, le-ltb (length s) 5 h₂, eq-eqb (get_or s 0 0) 1 h₃, ← e, lt-ltb (length s) (9 + list) h)

        module _ (h₄ : 9 + list ≤ length s) (set : ℕ) (e' : set ≡ big32 s (5 + list)) where
          pub not-filled : (length s ≡ 9 + list + set → ⊥) → None ≡ frame_of s
          unfolding frame_of
          not-filled h =
              simp (
                le-ltb input_limit (length s) h₁,
                le-ltb (length s) 5 h₂,
                eq-eqb (get_or s 0 0) 1 h₃,
                ← e,
                le-ltb (length s) (9 + list) h₄,
                ← e',
                ne_eqb (length s) (9 + list + set) h,
              )

          pub filled : length s ≡ 9 + list + set → Some (5 + list) ≡ frame_of s
          unfolding frame_of
          filled h =
              simp (
                le-ltb input_limit (length s) h₁,
                le-ltb (length s) 5 h₂,
                eq-eqb (get_or s 0 0) 1 h₃,
                ← e,
                le-ltb (length s) (9 + list) h₄,
                ← e',
                eq-eqb (length s) (9 + list + set) h,
              )

-- ---- what is known of a good frame
pub record Good (s : List ℕ) (end : ℕ) : Type 0 where
  pub small : length s ≤ input_limit
  pub version : get_or s 0 0 ≡ 1
  pub ends : end ≡ 5 + big32 s 1
  pub fills : length s ≡ 9 + big32 s 1 + big32 s (5 + big32 s 1)

module _ (s : List ℕ) (end : ℕ) (good : Some end ≡ frame_of s) where
  not-bad : None ≡ frame_of s → ⊥
  not-bad bad = let z : ◌≡◌ {A = ℕ} 0 1 = cc in omega arith

  fills-by : length s ≤ input_limit → 5 ≤ length s → get_or s 0 0 ≡ 1 → 9 + big32 s 1 ≤ length s → (b : Bool)
      → eqb (length s) (9 + big32 s 1 + big32 s (5 + big32 s 1)) ≡ b → Good s end
  fills-by h₁ h₂ h₃ h₄ true e =
      let n : length s ≡ 9 + big32 s 1 + big32 s (5 + big32 s 1) = eqb-true (length s) (9 + big32 s 1 + big32 s (5 + big32 s 1)) e in
      let p : end ≡ 5 + big32 s 1 = let q = good ∙ sym (filled s h₁ h₂ h₃ (big32 s 1) refl h₄ (big32 s (5 + big32 s 1)) refl n) in cc in
      record { small = h₁; version = h₃; ends = p; fills = n }
  fills-by h₁ h₂ h₃ h₄ false e =
      let n = eqb-false (length s) (9 + big32 s 1 + big32 s (5 + big32 s 1)) e in
      absurd (not-bad (not-filled s h₁ h₂ h₃ (big32 s 1) refl h₄ (big32 s (5 + big32 s 1)) refl n))

  list-by : length s ≤ input_limit → 5 ≤ length s → get_or s 0 0 ≡ 1 → Dec (length s < 9 + big32 s 1) → Good s end
  list-by h₁ h₂ h₃ (yes p) = absurd (not-bad (list-past s h₁ h₂ h₃ (big32 s 1) refl p))
  list-by h₁ h₂ h₃ (no p) = fills-by h₁ h₂ h₃ (omega arith) (eqb (length s) (9 + big32 s 1 + big32 s (5 + big32 s 1))) refl

  version-by : length s ≤ input_limit → 5 ≤ length s → (b : Bool) → eqb (get_or s 0 0) 1 ≡ b → Good s end
  version-by h₁ h₂ true e = list-by h₁ h₂ (eqb-true (get_or s 0 0) 1 e) (dec_lt (length s) (9 + big32 s 1))
  version-by h₁ h₂ false e = absurd (not-bad (other-version s h₁ h₂ (eqb-false (get_or s 0 0) 1 e)))

  short-by : length s ≤ input_limit → Dec (length s < 5) → Good s end
  short-by h₁ (yes p) = absurd (not-bad (too_short s h₁ p))
  short-by h₁ (no p) = version-by h₁ (omega arith) (eqb (get_or s 0 0) 1) refl

  long-by : Dec (input_limit < length s) → Good s end
  long-by (yes p) = absurd (not-bad (too_long s p))
  long-by (no p) = short-by (omega arith) (dec_lt (length s) 5)

  pub good-frame : Good s end
  good-frame = long-by (dec_lt input_limit (length s))

-- ---- what is printed
module _ (c : Call) (t u : Text) (a : Answer) (e : a ≡ answer c) where
  pub report-refused : (a.number ≡ 0 → ⊥) → Puts t (line a) u → Puts t (report c) u
  unfolding report
  report-refused n w =
      let f : is_accepted (result c) ≡ false = ne_eqb (answer c).number 0 (λ z. n (ap (λ (x : Answer). x.number) e ∙ z)) in
      let p : line a ≡ report c =
      ap line e ∙ sym (append-nil (line (answer c)))
      ∙ ap (λ (b : Bool). line (answer c) ++ (if b then hex_lines (stream c) else [])) (sym f) in
      subst (λ (l : List ℕ). Puts t l u) p w

  pub report-accepted : (m : Text) (out left : List ℕ) → a.number ≡ 0 → left ≡ output_after (result c) out → Puts t (line a) m
      → Puts m (hex_lines (take a.length left)) u → Puts t (report c) u
  unfolding report
  report-accepted m out left n o w v =
      let y : is_accepted (result c) ≡ true = eq-eqb (answer c).number 0 (ap (λ (x : Answer). x.number) (sym e) ∙ n) in
      let b : take a.length left ≡ stream c =
      ap₂ (λ (x : Answer) (l : List ℕ). take x.length l) e o
      ∙ output-stream (result c) out y (ap (λ (x : Answer). x.length) (answer-accepted c y)) in
      let p : line a ++ hex_lines (take a.length left) ≡ report c =
      ap₂ ◌++◌ (ap line e) (ap hex_lines b) ∙ ap (λ (x : Bool). line (answer c) ++ (if x then hex_lines (stream c) else [])) (sym y) in
      subst (λ (l : List ℕ). Puts t l u) p (puts_then t m u (line a) (hex_lines (take a.length left)) w v)

-- the stream of an accepted call fits into its output room
pub within-room : (c : Call) (a : Answer) → a ≡ answer c → a.number ≡ 0 → a.length ≤ c.room
within-room c a e n =
    let z : (answer c).number ≡ 0 = ap (λ (x : Answer). x.number) (sym e) ∙ n in
    let t : is_accepted (result c) ≡ true = eq-eqb (answer c).number 0 z in
    let l : a.length ≡ length (stream c) = ap (λ (x : Answer). x.length) (e ∙ answer-accepted c t) in
    let r : length (stream c) ≤ c.room = answer-fits c t in
    omega arith

-- the call of a frame is that of the code, with its output of 65,536 bytes
pub frame-call : (s out : List ℕ) (end : ℕ) → length out ≡ output_room
    → stream_call (between s 5 end) (between s (end + 4) (length s)) out ≡ frame_call s end
frame-call s out end e = λ i. record { list = between s 5 end; set = between s (end + 4) (length s); room = e i; expected = Opt.none }

-- what the code's call of list mode answers, and leaves in the output, is what the frame's does
module _ (s out after : List ℕ) (end : ℕ) (a : Answer) (room : length out ≡ output_room)
    (is : Streamed (result (stream_call (between s 5 end) (between s (end + 4) (length s)) out)) (between s (end + 4) (length s)) out a after) where
  pub answer-framed : a ≡ answer (frame_call s end)
  answer-framed = is.answers ∙ ap answer (frame-call s out end room)

  pub output-framed : after ≡ output_after (result (frame_call s end)) out
  output-framed = is.output ∙ ap (λ (k : Call). output_after (result k) out) (frame-call s out end room)

module _ (s : List ℕ) (t u : Text) (f : Option ℕ) (e : f ≡ frame_of s) where
  printed-as : (g : Option ℕ) → f ≡ g → Puts t (printed_by g s) u → Puts t (printed s) u
  unfolding printed
  printed-as g q w = subst (λ (x : Option ℕ). Puts t (printed_by x s) u) (sym q ∙ e) w

  pub printed-bad : (a : Answer) → f ≡ None → a ≡ refused 24 0 → Puts t (line a) u → Puts t (printed s) u
  printed-bad a q z w = printed-as None q (subst (λ (x : Answer). Puts t (line x) u) z w)

  pub printed-good : (end : ℕ) → f ≡ Some end → Puts t (report (frame_call s end)) u → Puts t (printed s) u
  printed-good end q w = printed-as (Some end) q w

pub holds-matched : (s : List ℕ) (end : ℕ) (f : Option ℕ) → f ≡ frame_of s → f ≡ Some end → Holds s end
holds-matched s end f e q =
    let g = good-frame s end (sym q ∙ e) in
    record { least = omega arith; inside = omega arith; small = g.small }
