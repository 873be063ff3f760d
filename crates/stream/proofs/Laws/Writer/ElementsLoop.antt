-- A loop that walks over the elements of a data set in x, of `write_elements` or of `write_own`: by which elements hold UN, their stream,
-- and which elements are kept in this turn. Assumes nothing.
use Prim.Native.Nat.{ℕ, ◌+◌, ◌-◌, ◌≤◌, ◌<◌}
use mathlib.Core.Path.{◌≡◌, refl, ap}
use mathlib.Core.Bool.{Bool, false, ◌||◌}
use mathlib.Core.List.{List, []}
use native.Mathlib.Omega.{arith}
use lib.ListN.{length}
use Rattle.std.specs.Prelude.{Ok, Err}
use Rattle.answer.specs.declared.Answer.{Answer}
use Rattle.dataset.specs.Tree.{Elements, none, and}
use Rattle.dataset.specs.Reading.{Reading, element, explicit, by_one, elements_at, one_at}
use Rattle.dataset.specs.Extent.{elements_in}
use Rattle.dataset.specs.Place.{Lies}
use Rattle.dataset.specs.declared.extent.Extent.{Extent}
use Rattle.stream.specs.Inner.Keep.{keeps}
use Rattle.stream.specs.Inner.Writer.{walked, one_stream, Walk, OneWalk}
use Rattle.stream.specs.declared.keep.Keep.{Keep}
use Rattle.stream.specs.declared.writer.OneWritten.{OneWritten}
use Rattle.stream.specs.declared.writer.OneWritten.TheVariants as one
use Rattle.stream.proofs.Laws.Writer.Walks.{Front, Going, start, go_on, stop-at, done}
use Rattle.stream.proofs.Laws.Writer.OneWalks.{IsElement}
use Rattle.stream.proofs.Laws.Writer.OneWalks as walk

-- the elements of the data set in x from `at` on
abbrev pub elements_from : List ℕ → Extent → (at least : ℕ) → Reading Elements
elements_from d x at least = elements_at explicit d x.delimited x.left x.stop at least

module _ (holds : Elements → Bool) (stream : Elements → List ℕ → List ℕ) (d : List ℕ) (x : Extent) (xs₀ : List ℕ) (to₀ : ℕ) where
  pub record Loop (xs : List ℕ) (at least : ℕ) (found : Bool) (to : ℕ) : Type 0 where
    pub inside : at ≤ x.stop
    pub below : to ≤ at + length d
    pub going : Going holds stream d (elements_in d x) to₀ xs₀ (elements_from d x at least) found to xs

  pub loop-start : Lies d x → to₀ ≤ x.from + length d → Loop xs₀ x.from 0 false to₀
  loop-start l h = record { inside = l.order; below = h; going = start holds stream d (elements_in d x) to₀ xs₀ }

  module _ (xs : List ℕ) (at least : ℕ) (found : Bool) (to : ℕ) (c : Keep) (ys : List ℕ) (i : Loop xs at least found to) where
    -- a walk refuses what stands at `at`: this one, or one that writes elsewhere
    pub loop-refused : (f : Answer) (to₁ : ℕ) (xs₁ ys₁ : List ℕ) → OneWalk c d x.delimited x.left x.stop at least to₁ (Err f) xs₁ ys₁
        → Walk (walked holds stream) stream (elements_in d x) d to₀ (Err f) xs₀ ys
    loop-refused f to₁ xs₁ ys₁ w =
        stop-at holds stream d (elements_in d x) to₀ xs₀ (elements_from d x at least) found to xs i.going f ys
        (walk.one-fault (keeps c) d x.delimited x.left x.stop at least to₁ (Err f) xs₁ ys₁ i.inside w f refl)

    -- r is what the walk gives in an element's place, and ys what it leaves
    module _ (r : OneWritten) (w : OneWalk c d x.delimited x.left x.stop at least to (Ok r) xs ys) where
      pub loop-end : holds none ≡ false → stream none d ≡ [] → (next : ℕ) → r ≡ one.End next
          → Walk (walked holds stream) stream (elements_in d x) d to₀ (Ok (record { holds_un = found; next = next; to = to })) xs₀ ys
      unfolding by_one
      loop-end h s next q =
          done holds stream d (elements_in d x) to₀ xs₀ (elements_from d x at least) found to xs i.going none next to ys
          (walk.one_end (keeps c) d x.delimited x.left x.stop at least to (Ok r) xs ys i.inside w next (ap Ok q)) h (rw s (omega arith))
          (rw s (walk.end-output (keeps c) d x.delimited x.left x.stop at least to (Ok r) xs ys i.inside w next (ap Ok q)))

      module _ (tag : ℕ) (is_un holds_un : Bool) (next past : ℕ) (q : r ≡ one.Element tag is_un holds_un next past) (l : Lies d x) where
        pub loop-less : x.stop - next < x.stop - at
        loop-less =
            let k = walk.one_lies (keeps c) d x.delimited x.left x.stop at least to (Ok r) xs ys i.inside w tag is_un holds_un next past (ap Ok q) l.inside in
            omega (arith, k.past, k.inside)

        abbrev pub found_here : IsElement (keeps c) (one_at explicit d x.delimited x.left x.stop at least) d to tag is_un holds_un next past
        found_here = walk.one_found (keeps c) d x.delimited x.left x.stop at least to (Ok r) xs ys i.inside w tag is_un holds_un next past (ap Ok q)

        pub loop-again : (more : Bool) → Front holds stream d (and found_here.what) (one_stream (keeps c) (element found_here.what) d) more
            → Loop ys next (tag + 1) (found || more) past
        loop-again more front =
            let k = walk.one_lies (keeps c) d x.delimited x.left x.stop at least to (Ok r) xs ys i.inside w tag is_un holds_un next past (ap Ok q) l.inside in
            let z = walk.one_below (keeps c) d x.delimited x.left x.stop at least to (Ok r) xs ys i.inside w tag is_un holds_un next past (ap Ok q) l.inside in
            record {
              inside = k.inside;
              below = omega (arith, z, i.below, k.past);
              going = go_on holds stream d (elements_in d x) to₀ xs₀ (elements_from d x at least) found to xs i.going
                  (and found_here.what) (one_stream (keeps c) (element found_here.what) d) more front (elements_from d x next (tag + 1)) _ (λ es n. refl)
                  (walk.one-next (keeps c) d x.delimited x.left x.stop at least to (Ok r) xs ys i.inside w tag is_un holds_un next past (ap Ok q)) past ys found_here.passes
                  (walk.one-output (keeps c) d x.delimited x.left x.stop at least to (Ok r) xs ys i.inside w tag is_un holds_un next past (ap Ok q));
            }
