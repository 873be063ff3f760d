-- Lines of hex, written line by line.
-- Assumes nothing.
use Rattle.std.proofs.Common.{◌≡◌, ℕ, zero, suc, ◌+◌, ◌*◌, ◌/◌, ◌%◌, ◌<◌, ◌≤◌, min, eqb, Bool, true, false, ◌&&◌, ◌||◌, ◌⊎◌, inl, inr, List, [], ◌∷◌, ◌++◌, length, flat_map, slice_index, Result, Ok, Err, refl, sym, ap, ◌∙◌, arith, append_assoc, append-nil, length-append, add-zero}
use Rattle.std.specs.Prelude.{IsOk, OnOk}
use Rattle.std.proofs.lemmas.Bool.{and_parts, cases_lt, eqb-true}
use Rattle.std.proofs.lemmas.List.{nil_from_length}
use borrow.Author.Tests.{ne_eqb}
use Rattle.hex.specs.Hex.{IsBytes, encode_with, encode_lower, lower_digits}
use Rattle.mac_frame.specs.Text.{newline, digit, hex, line_end, hex_from, hex_lines}
use Rattle.mac_frame.specs.Inner.Puts.{Puts}
use Rattle.mac_frame.specs.declared.text.Text.{Text}
use Rattle.mac_frame.proofs.Laws.Text.TextPieces.{puts_then}

-- ---- bytes in hex are what the library writes
same_digits : ℕ → Bool
same_digits zero = true
same_digits (suc n) = eqb (slice_index lower_digits n) (digit n) && same_digits n

same-digit : (n d : ℕ) → same_digits n ≡ true → d < n → slice_index lower_digits d ≡ digit d
unfolding same_digits
same-digit zero d h k = absurd (omega arith)
same-digit (suc n) d h k =
    let p = and_parts (eqb (slice_index lower_digits n) (digit n)) (same_digits n) h in
    elim (cases_lt d n) [
      | inl below ↦ same-digit n d p.1 below
      | inr top ↦
          let e : d ≡ n = omega arith in
          rw e (eqb-true (slice_index lower_digits n) (digit n) p.0)
    ]

pub encoded-hex : (xs : List ℕ) → IsBytes xs → encode_lower xs ≡ flat_map hex xs
unfolding encode_with same_digits
encoded-hex [] h = refl
encoded-hex (b ∷ rest) h =
    let small : b < 256 = h zero in
    rw (
      same-digit 16 (b / 16) refl (omega arith),
      same-digit 16 (b % 16) refl (omega arith),
      encoded-hex rest (λ i. h (suc i)),
    ) refl

pub on-ok : {T E P : Type 0} (r : Result T E) → IsOk r → OnOk r P → P
on-ok (Ok x) h p = p
on-ok (Err e) h p = cc h

pub hex-line-puts : (t m u : Text) (xs written : List ℕ) → IsBytes xs → written ≡ encode_lower xs → Puts t written m → Puts m (newline ∷ []) u
    → Puts t (flat_map hex xs ++ (newline ∷ [])) u
hex-line-puts t m u xs written h e p q = puts_then t m u (flat_map hex xs) (newline ∷ []) (rw (e ∙ encoded-hex xs h) at p) q

-- ---- the first line of the text
last-end : (x : Bool) → line_end (x || true) ≡ newline ∷ []
last-end true = refl
last-end false = refl

-- bytes from a column on that end their line: the line is full, or nothing is left
line-from : (column b : ℕ) (xs rest : List ℕ) → column + suc (length xs) ≤ 32 → (column + suc (length xs) ≡ 32) ⊎ (rest ≡ [])
    → hex_from column (b ∷ (xs ++ rest)) ≡ flat_map hex (b ∷ xs) ++ (newline ∷ hex_lines rest)
unfolding hex_from
line-from column b [] rest h (inl full) =
    let e : column ≡ 31 = omega arith in
    rw e refl
line-from column b [] rest h (inr none) = rw (none, last-end (eqb column 31)) refl
line-from column b (x ∷ xs) rest h e =
    let inside : eqb column 31 ≡ false = ne_eqb column 31 (λ q. omega arith) in
    let next : (column + 1) % 32 ≡ column + 1 = omega arith in
    let ends : (column + 1 + suc (length xs) ≡ 32) ⊎ (rest ≡ []) = elim e [
      | inl full ↦ inl (omega arith)
      | inr none ↦ inr none
    ] in
    rw (inside, next) (ap (λ (l : List ℕ). hex b ++ l) (line-from (column + 1) x xs rest (omega arith) ends))

first-line : (all line rest : List ℕ) → all ≡ line ++ rest → length line ≡ min 32 (length all) → 0 < length all
    → hex_lines all ≡ (flat_map hex line ++ (newline ∷ [])) ++ hex_lines rest
first-line all [] rest parts size some = absurd (omega arith)
first-line all (b ∷ xs) rest parts size some =
    let sum = ap length parts ∙ length-append (b ∷ xs) rest in
    let ends : (0 + suc (length xs) ≡ 32) ⊎ (rest ≡ []) = elim (cases_lt (length all) 32) [
      | inl short ↦ inr (nil_from_length rest (omega arith))
      | inr long ↦ inl (omega arith)
    ] in
    ap hex_lines parts ∙ line-from 0 b xs rest (omega arith) ends
    ∙ sym (append_assoc (flat_map hex (b ∷ xs)) (newline ∷ []) (hex_lines rest))

-- ---- line by line
length-hex : (xs : List ℕ) → length (flat_map hex xs) ≡ 2 * length xs
length-hex [] = refl
length-hex (b ∷ rest) = omega (arith, length-hex rest)

-- the lines before the rest are put
pub record Lines (bytes : List ℕ) (t u : Text) (rest : List ℕ) : Type 0 where
  pub done : List ℕ
  pub puts : Puts t done u
  pub parts : done ++ hex_lines rest ≡ hex_lines bytes
  pub near : length done + 3 * length rest ≤ 3 * length bytes

pub lines-start : (bytes rest : List ℕ) (t : Text) → rest ≡ bytes → Lines bytes t t rest
lines-start bytes rest t e =
    record {
      done = [];
      puts = record { same_room = refl; size = sym (add-zero t.size); wrote = refl };
      parts = ap hex_lines e;
      near = rw e (omega arith);
    }

pub lines-again : (bytes all line rest : List ℕ) (t u v : Text) → Lines bytes t u all → all ≡ line ++ rest
    → length line ≡ min 32 (length all) → 0 < length all → Puts u (flat_map hex line ++ (newline ∷ [])) v → Lines bytes t v rest
lines-again bytes all line rest t u v s parts size some w =
    let text = flat_map hex line ++ (newline ∷ []) in
    let sum = ap length parts ∙ length-append line rest in
    let long = length-append (flat_map hex line) (newline ∷ []) in
    record {
      done = s.done ++ text;
      puts = puts_then t u v s.done text s.puts w;
      parts =
          append_assoc s.done text (hex_lines rest) ∙ ap (λ (l : List ℕ). s.done ++ l) (sym (first-line all line rest parts size some))
          ∙ s.parts;
      near = omega (arith, s.near, sum, long, length-hex line, length-append s.done text);
    }

pub lines-end : (bytes rest : List ℕ) (t u : Text) → Lines bytes t u rest → length rest ≡ 0 → Puts t (hex_lines bytes) u
unfolding hex_from
lines-end bytes rest t u s h =
    let e : s.done ≡ hex_lines bytes = sym (append-nil s.done) ∙ (rw (nil_from_length rest h) at s.parts) in
    rw e at s.puts
