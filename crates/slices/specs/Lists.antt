-- Lists of numbers and of bytes: the words about them that definitions of several crates use.
-- Assumes nothing.
use Rattle.std.specs.Prelude.{ℕ, zero, suc, ◌-◌, ◌<◌, Bool, true, false, ◌&&◌, List, [], ◌∷◌, ◌++◌, eqb, get_or, take, drop}

-- what stands at an index, counted from 0; 0 past the end
abbrev pub at : List ℕ → ℕ → ℕ
at xs i = get_or xs i 0

-- f 0, f 1, .., f (n - 1)
unfoldable pub tabulate : (ℕ → ℕ) → ℕ → List ℕ
tabulate f zero = []
tabulate f (suc n) = tabulate f n ++ (f n ∷ [])

-- the part of a list from the index `from` up to the index `to`
unfoldable pub between : List ℕ → (from to : ℕ) → List ℕ
between d from to = take (to - from) (drop from d)

-- a list of bytes: a slice of the code's bytes is one; the definitions speak of numbers
abbrev pub OfBytes : List ℕ → Type 0
OfBytes d = (i : ℕ) → get_or d i 0 < 256

-- two lists of bytes are the same
unfoldable pub same_bytes : List ℕ → List ℕ → Bool
same_bytes [] [] = true
same_bytes [] (y ∷ ys) = false
same_bytes (x ∷ xs) [] = false
same_bytes (x ∷ xs) (y ∷ ys) = eqb x y && same_bytes xs ys

-- every byte of a list is this one
unfoldable pub all_are : (byte : ℕ) → List ℕ → Bool
all_are byte [] = true
all_are byte (x ∷ xs) = eqb x byte && all_are byte xs
