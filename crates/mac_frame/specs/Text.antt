-- What the stream program prints, in bytes of text: docs/RULES.md, 11.3.
-- Assumes nothing.
use Rattle.std.specs.Prelude.{ℕ, zero, suc, ◌+◌, ◌/◌, ◌%◌, Bool, true, false, ◌||◌, List, [], ◌∷◌, ◌++◌, eqb, ltb, if◌then◌else◌}
use Rattle.answer.specs.declared.Answer.{Answer}

abbrev pub space : ℕ
space = 0x20

abbrev pub newline : ℕ
newline = 0x0A

-- a digit of a number in decimal or in lower-case hex: 0 to 9, then a to f
abbrev pub digit : ℕ → ℕ
digit n = if ltb n 10 then 0x30 + n else 0x57 + n

-- the digits of n in decimal, in at most k steps
unfoldable pub decimal_by : (k n : ℕ) → List ℕ
decimal_by zero n = []
decimal_by (suc k) n = if ltb n 10 then digit n ∷ [] else decimal_by k (n / 10) ++ (digit (n % 10) ∷ [])

-- "in decimal" (11.3): n + 1 steps are enough
unfoldable pub decimal : ℕ → List ℕ
decimal n = decimal_by (suc n) n

-- a number in decimal and what stands behind it
unfoldable pub decimal_then : (n end : ℕ) → List ℕ
decimal_then n end = decimal n ++ (end ∷ [])

-- 11.3: "number, position and length in decimal, with one space between"
unfoldable pub line : Answer → List ℕ
line a = decimal_then a.number space ++ (decimal_then a.position space ++ decimal_then a.length newline)

-- a byte in lower-case hex
abbrev pub hex : ℕ → List ℕ
hex b = digit (b / 16) ∷ digit (b % 16) ∷ []

abbrev pub is_empty : List ℕ → Bool
is_empty [] = true
is_empty (b ∷ rest) = false

-- the line's end, or nothing
abbrev pub line_end : Bool → List ℕ
line_end true = newline ∷ []
line_end false = []

-- 11.3: "in hex, in lower case, 32 bytes a line": the bytes from a column on; a line ends after its 32nd byte and after the last
unfoldable pub hex_from : (column : ℕ) → List ℕ → List ℕ
hex_from column [] = []
hex_from column (b ∷ rest) = hex b ++ (line_end (eqb column 31 || is_empty rest) ++ hex_from ((column + 1) % 32) rest)

abbrev pub hex_lines : List ℕ → List ℕ
hex_lines bytes = hex_from 0 bytes
