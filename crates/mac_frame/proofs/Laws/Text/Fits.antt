-- How long what is printed can be.
-- Assumes nothing.
use Prim.Native.Nat.{ℕ, ◌+◌, ◌*◌, ◌%◌, ◌^◌, ◌<◌, ◌≤◌}
use mathlib.Core.Path.{◌≡◌, refl, sym, ap, ◌∙◌}
use mathlib.Core.Bool.{Bool, true, false, ◌||◌}
use mathlib.Core.List.{List, [], ◌∷◌, ◌++◌}
use native.Mathlib.Decide.{dec_lt}
use native.Mathlib.Omega.{arith}
use borrow.Author.Tests.{eq-eqb, ne_eqb, eqb-true}
use lib.Dec.{eqb}
use lib.ListN.{length, length-append}
use lib.Seq.{sets}
use Rattle.answer.specs.declared.Answer.{Answer}
use Rattle.answer.specs.Answer.{refused}
use Rattle.stream.specs.TagList.{tags_in}
use Rattle.mac.specs.ListMode.{Call, answer, stream, result}
use Rattle.mac.specs.Result.{is_accepted}
use Rattle.slices.proofs.Laws.Parts.{length-between}
use Rattle.mac_theorems.specs.Calls.{in_list_mode}
use Rattle.mac_theorems.specs.Theorems.{Positioned}
use Rattle.mac_theorems.proofs.Theorems as mac
use Rattle.mac_theorems.proofs.Laws.Answers.Acceptance.{answer-accepted}
use Rattle.mac_frame.specs.Text.{hex, is_empty, line_end, hex_from}
use Rattle.mac_frame.specs.Frame.{frame_of, frame_call, report, printed_by, printed, Printed}
use Rattle.std.specs.Prelude.{Option, None, Some}
use Rattle.mac_frame.specs.Inner.Puts.{Puts}
use Rattle.mac_frame.specs.declared.text.Text.{Text}
use Rattle.mac_frame.proofs.Laws.Text.TextPieces.{length-line}
use Rattle.mac_frame.proofs.Laws.Frame.FrameTests.{within-room, good-frame}

-- ---- lines of hex: two digits a byte, and a line's end after the 32nd byte of a line and after the last
next-line : (column b : ℕ) (rest : List ℕ)
    → hex_from column (b ∷ rest) ≡ hex b ++ (line_end (eqb column 31 || is_empty rest) ++ hex_from ((column + 1) % 32) rest)
unfolding hex_from
next-line column b rest = refl

next-length : (column b : ℕ) (rest : List ℕ) (ends : Bool) → (eqb column 31 || is_empty rest) ≡ ends
    → length (hex_from column (b ∷ rest)) ≡ 2 + length (line_end ends) + length (hex_from ((column + 1) % 32) rest)
next-length column b rest ends e =
    let rest_of = hex_from ((column + 1) % 32) rest in
    ap length (next-line column b rest ∙ ap (λ (x : Bool). hex b ++ (line_end x ++ rest_of)) e)
    ∙ omega (arith, length-append (line_end ends) rest_of)

hex-by : (column b : ℕ) (rest : List ℕ) → column < 32
    → 32 * length (hex_from ((column + 1) % 32) rest) ≤ 65 * length rest + (column + 1) % 32 + 31 → Dec (column < 31)
    → 32 * length (hex_from column (b ∷ rest)) ≤ 65 * length (b ∷ rest) + column + 31
unfolding hex_from
hex-by column b rest h ih (no p) =
    let q : (eqb column 31 || is_empty rest) ≡ true = rw (eq-eqb column 31 (omega arith)) in
    omega (arith, next-length column b rest true q)
hex-by column b [] h ih (yes p) =
    let q : (eqb column 31 || is_empty []) ≡ true = rw (ne_eqb column 31 (λ e. omega arith)) in
    omega (arith, next-length column b [] true q)
hex-by column b (x ∷ rest) h ih (yes p) =
    let q : (eqb column 31 || is_empty (x ∷ rest)) ≡ false = rw (ne_eqb column 31 (λ e. omega arith)) in
    omega (arith, next-length column b (x ∷ rest) false q)

hex-most : (column : ℕ) (l : List ℕ) → column < 32 → 32 * length (hex_from column l) ≤ 65 * length l + column + 31
unfolding hex_from
hex-most column [] h = omega arith
hex-most column (b ∷ rest) h = hex-by column b rest h (hex-most ((column + 1) % 32) rest (omega arith)) (dec_lt column 31)

-- ---- numbers of list mode
answer-number : (c : Call) → (answer c).number ≤ 16
answer-number c = (mac.theorems).numbers.most (in_list_mode c)

-- ---- the first line
tags-most : (l : List ℕ) → length (tags_in l) ≤ length l
unfolding tags_in
tags-most (a ∷ b ∷ c ∷ d ∷ rest) = omega (arith, tags-most rest)
tags-most [] = omega arith
tags-most (a ∷ []) = omega arith
tags-most (a ∷ b ∷ []) = omega arith
tags-most (a ∷ b ∷ c ∷ []) = omega arith

position-most : (size count : ℕ) (a : Answer) → a.number ≤ 16 → Positioned size count a → a.position ≤ size + count
position-most size count a h p = go (dec_lt a.number 2) (dec_lt a.number 9) (dec_lt a.number 11) (dec_lt a.number 16)
  where
    go : Dec (a.number < 2) → Dec (a.number < 9) → Dec (a.number < 11) → Dec (a.number < 16) → a.position ≤ size + count
    go (yes q) r s t = omega (arith, p.below2 q)
    go (no q) (yes r) s t = omega (arith, p.offset (omega arith) (omega arith))
    go (no q) (no r) (yes s) t = omega (arith, p.of9and10 (omega arith) s)
    go (no q) (no r) (no s) (yes t) = omega (arith, p.index (omega arith) (omega arith))
    go (no q) (no r) (no s) (no t) = omega (arith, p.above15 (omega arith))

-- ---- what is printed
module _ (c : Call) (h : length c.list ≤ 65536) (k : length c.set ≤ 65536) (room : c.room ≡ 65536) where
  position : (answer c).position < 2 ^ 64
  position =
      let p = position-most (length c.set) (length (tags_in c.list)) (answer c) (answer-number c)
      ((mac.theorems).positions (in_list_mode c)) in
      omega (arith, tags-most c.list)

  report-by : (b : Bool) → is_accepted (result c) ≡ b → length (report c) ≤ 135168
  unfolding report
  report-by true e =
      let l : (answer c).length ≤ c.room = within-room c (answer c) refl (eqb-true (answer c).number 0 e) in
      let m : (answer c).length ≡ length (stream c) = ap (λ (a : Answer). a.length) (answer-accepted c e) in
      let n = length-line (answer c) (omega (arith, answer-number c)) position (omega arith) in
      rw e (simp length-append (omega (arith, hex-most 0 (stream c) (omega arith))))
  report-by false e =
      let z : (answer c).length ≡ 0 = ((mac.theorems).refused-output (in_list_mode c) [] e).nothing in
      let n = length-line (answer c) (omega (arith, answer-number c)) position (omega arith) in
      rw e (simp length-append (omega arith))

  report-most : length (report c) ≤ 135168
  report-most = report-by (is_accepted (result c)) refl

printed-by : (s : List ℕ) (f : Option ℕ) → frame_of s ≡ f → length (printed_by f s) ≤ 135168
printed-by s None e = omega (arith, length-line (refused 24 0) (omega arith) (omega arith) (omega arith))
printed-by s (Some end) e =
    let g = good-frame s end (sym e) in
    let b = g.ends in
    let z = g.fills in
    report-most (frame_call s end)
    (rw (length-between s 5 end (omega arith) (omega arith)) (omega (arith, g.small)))
    (rw (length-between s (end + 4) (length s) (omega arith) (omega arith)) (omega (arith, g.small)))
    refl

pub fits : (s : List ℕ) → length (printed s) ≤ 135168
unfolding printed
fits s = printed-by s (frame_of s) refl

-- the text fits into the array
pub printed-whole : (s : List ℕ) (t u : Text) → length t.room.now ≡ 135168 → t.size ≡ 0 → Puts t (printed s) u
    → Printed s t.room.now u.size u.room.now
printed-whole s t u n z w =
    record {
      size = omega (arith, w.size);
      fits = omega (arith, w.size, n, fits s);
      bytes = w.wrote ∙ ap (λ (k : ℕ). sets t.room.now k (printed s)) z;
    }
