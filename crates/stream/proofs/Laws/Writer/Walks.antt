-- A walk on its way: what it answers and leaves in the end, by what is left to read. Assumes nothing.
use Prim.Native.Nat.{ℕ, ◌+◌}
use mathlib.Core.Path.{◌≡◌, refl, sym, ◌∙◌}
use mathlib.Core.Bool.{Bool, true, false, ◌||◌}
use mathlib.Core.List.{List, ◌++◌}
use native.Mathlib.Omega.{arith}
use lib.ListN.{length, length-append}
use lib.Seq.{sets, length-sets}
use Rattle.std.specs.Prelude.{Result, Ok, Err}
use Rattle.answer.specs.declared.Answer.{Answer}
use Rattle.dataset.specs.Reading.{Reading, fault, read, ◌>>=◌}
use Rattle.stream.specs.Inner.Writer.{walked, Leaves, Walk}
use Rattle.stream.specs.declared.writer.Written.{Written}
use Rattle.slices.proofs.Laws.Writing.{sets-append}

-- UN was found before
unfoldable pub with_found : Bool → Result Written Answer → Result Written Answer
with_found found (Err f) = Err f
with_found found (Ok w) = Ok (record { holds_un = found || w.holds_un; next = w.next; to = w.to })

pub or_assoc : (a b c : Bool) → ((a || b) || c) ≡ (a || (b || c))
or_assoc true b c = refl
or_assoc false b c = refl

or-none : (a : Bool) → (a || false) ≡ a
or-none true = refl
or-none false = refl

found-twice : (a b : Bool) (r : Result Written Answer) → with_found a (with_found b r) ≡ with_found (a || b) r
unfolding with_found
found-twice a b (Err f) = refl
found-twice a b (Ok w) = rw or_assoc

found_none : (r : Result Written Answer) → with_found false r ≡ r
unfolding with_found
found_none (Err f) = refl
found_none (Ok w) = refl

module _ {A : Type 0} (unknown : A → Bool) (stream : A → List ℕ → List ℕ) (d : List ℕ) where
  -- one more in front of what is read: `bytes` in front of the stream, and whether it is or holds UN
  pub record Front (front : A → A) (bytes : List ℕ) (found : Bool) : Type 0 where
    pub streams : (a : A) → stream (front a) d ≡ bytes ++ stream a d
    pub finds : (a : A) → unknown (front a) ≡ (found || unknown a)

  walked-front : (front : A → A) (bytes : List ℕ) (found : Bool) → Front front bytes found → (p : Reading A) (k : A × ℕ → Reading A)
      → ((a : A) (n : ℕ) → k (a, n) ≡ read (front a) n) → (to : ℕ)
      → walked unknown stream (p >>= k) d to ≡ with_found found (walked unknown stream p d (to + length bytes))
  unfolding walked with_found
  walked-front front bytes found h (fault f) k e to = refl
  walked-front front bytes found h (read a n) k e to =
      let q : to + length (bytes ++ stream a d) ≡ to + length bytes + length (stream a d) = rw (length-append bytes (stream a d)) (omega arith) in
      rw (e a n, h.streams a, h.finds a, q)

  leaves-front : (front : A → A) (bytes : List ℕ) (found : Bool) → Front front bytes found → (p : Reading A) (k : A × ℕ → Reading A)
      → ((a : A) (n : ℕ) → k (a, n) ≡ read (front a) n) → (to : ℕ) (xs ys : List ℕ)
      → Leaves stream p d (to + length bytes) (sets xs to bytes) ys → Leaves stream (p >>= k) d to xs ys
  unfolding Leaves
  leaves-front front bytes found h (fault f) k e to xs ys l = tt
  leaves-front front bytes found h (read a n) k e to xs ys l = rw (e a n, h.streams a) (l ∙ sym (sets-append xs to bytes (stream a d)))

  module _ (p₀ : Reading A) (to₀ : ℕ) (xs₀ : List ℕ) where
    -- what is left to read is p, to be written from `to` on into xs
    pub record Going (p : Reading A) (found : Bool) (to : ℕ) (xs : List ℕ) : Type 0 where
      pub answers : walked unknown stream p₀ d to₀ ≡ with_found found (walked unknown stream p d to)
      pub output : (ys : List ℕ) → Leaves stream p d to xs ys → Leaves stream p₀ d to₀ xs₀ ys
      pub long : length xs ≡ length xs₀

    pub start : Going p₀ false to₀ xs₀
    start = record { answers = sym (found_none (walked unknown stream p₀ d to₀)); output = λ ys l. l; long = refl }

    module _ (p : Reading A) (found : Bool) (to : ℕ) (xs : List ℕ) (g : Going p found to xs) where
      pub go_on : (front : A → A) (bytes : List ℕ) (more : Bool) → Front front bytes more → (q : Reading A) (k : A × ℕ → Reading A)
          → ((a : A) (n : ℕ) → k (a, n) ≡ read (front a) n) → p ≡ (q >>= k) → (to' : ℕ) (ys : List ℕ) → to' ≡ to + length bytes → ys ≡ sets xs to bytes
          → Going q (found || more) to' ys
      go_on front bytes more h q k e w to' ys t y =
          rw (t, y)
          record {
            answers = g.answers ∙ rw (w, walked-front front bytes more h q k e to) (found-twice found more (walked unknown stream q d (to + length bytes)));
            output = λ zs l. g.output zs (rw w (leaves-front front bytes more h q k e to xs zs l));
            long = length-sets xs to bytes ∙ g.long;
          }

      pub stop-at : (f : Answer) (ys : List ℕ) → p ≡ fault f → Walk (walked unknown stream) stream p₀ d to₀ (Err f) xs₀ ys
      unfolding walked with_found Leaves
      stop-at f ys w = record { answers = sym (g.answers ∙ rw w); output = g.output ys (rw w tt) }

      pub done : (a : A) (next to' : ℕ) (ys : List ℕ) → p ≡ read a next → unknown a ≡ false → to' ≡ to + length (stream a d) → ys ≡ sets xs to (stream a d)
          → Walk (walked unknown stream) stream p₀ d to₀ (Ok (record { holds_un = found; next = next; to = to' })) xs₀ ys
      unfolding walked with_found Leaves
      done a next to' ys w u t y = record { answers = sym (g.answers ∙ rw (w, u, or-none found, t)); output = g.output ys (rw w y) }
