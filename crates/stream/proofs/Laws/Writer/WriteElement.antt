-- What each place of `write_element` and `write_one` does, with the facts of the place as premises. Assumes nothing.
use Prim.Native.Nat.{ℕ, ◌+◌, ◌-◌, ◌*◌, ◌^◌, ◌≤◌, ◌<◌}
use mir.Syntax.{w64}
use mir.Val.{Fits}
use mathlib.Core.Path.{◌≡◌, refl, sym, ap, ◌∙◌}
use mathlib.Core.Bool.{Bool, true, false, true≢false}
use mathlib.Core.List.{List, ◌++◌}
use native.Mathlib.Omega.{arith}
use lib.Dec.{eqb}
use lib.ListN.{length, length-append}
use lib.Seq.{sets}
use Rattle.std.specs.Prelude.{Result, Ok, Err}
use Rattle.answer.specs.declared.Answer.{Answer}
use Rattle.slices.specs.Lists.{between}
use Rattle.dataset.specs.Vr.{UN}
use Rattle.dataset.specs.Header.{element_case, element_at}
use Rattle.dataset.specs.Header as spec
use Rattle.dataset.specs.Tree.{Span, span, Element, value, sequence, fragments, Items, tag_of}
use Rattle.dataset.specs.Reading.{Reading, fault, read, ◌>>=◌, One, ended, element, explicit, by_header, items_at, fragments_at, one_at}
use Rattle.dataset.specs.Place.{Lies}
use Rattle.dataset.specs.declared.extent.Extent.{Extent}
use Rattle.dataset.specs.declared.header.ElementHeader.{ElementHeader}
use Rattle.dataset.specs.declared.header.ElementHeader.TheVariants as header
use Rattle.dataset.proofs.Laws.Header.HeaderFacts.{ElementFacts, value-start, element-facts}
use Rattle.stream.specs.Stream.{stream_of, items_stream, fragments_stream}
use Rattle.stream.specs.UN.{is_un, holds_un, items_hold_un}
use Rattle.stream.specs.Inner.Keep.{keeps, keeps_header, every}
use Rattle.stream.specs.Inner.Writer.{walked, holds_none, one_stream, one_walked, Leaves, Walk, by_header_at, HeaderAt, nested_written, with_offset, FragmentsWalk, ElementWalk, OneWalk, ItemsWalk}
use Rattle.stream.specs.declared.keep.Keep.{Keep}
use Rattle.stream.specs.declared.writer.Written.{Written}
use Rattle.stream.specs.declared.writer.OneWritten.{OneWritten}
use Rattle.stream.specs.declared.writer.OneWritten.TheVariants as one
use Rattle.slices.proofs.Laws.Parts.{length-between}
use Rattle.slices.proofs.Laws.Writing.{sets-append}

-- ---- an element that holds what the reading p gives: its header's eight bytes, and then the stream of p
pub record Holds {A : Type 0} (unknown : A → Bool) (stream : A → List ℕ → List ℕ) (d : List ℕ) (tag : ℕ) (bytes : List ℕ) (e : Element) (a : A) : Type 0 where
  pub tagged : tag_of e ≡ tag
  pub known : is_un e ≡ false
  pub holds : holds_un e ≡ unknown a
  pub streams : stream_of e d ≡ bytes ++ stream a d

-- by what the walk over p answers
abbrev holding : (tag : ℕ) → Result Written Answer → Result OneWritten Answer
holding tag (Err f) = Err f
holding tag (Ok w) = Ok (nested_written tag w)

holding-walk : {A : Type 0} (unknown : A → Bool) (stream : A → List ℕ → List ℕ) (d : List ℕ) (tag : ℕ) (bytes : List ℕ) (p : Reading A) (k : A × ℕ → Reading One)
    (make : A → ℕ → Element) → ((a : A) (n : ℕ) → k (a, n) ≡ read (element (make a n)) n) → ((a : A) (n : ℕ) → Holds unknown stream d tag bytes (make a n) a)
    → (to past : ℕ) (xs ys zs : List ℕ) (o : Result Written Answer) → past ≡ to + length bytes → ys ≡ sets xs to bytes
    → Walk (walked unknown stream) stream p d past o ys zs → Walk (one_walked every) (one_stream every) (p >>= k) d to (holding tag o) xs zs
unfolding walked one_walked one_stream every Leaves
holding-walk unknown stream d tag bytes (fault f) k make m h to past xs ys zs o t y w = record { answers = rw w.answers refl; output = tt }
holding-walk unknown stream d tag bytes (read a n) k make m h to past xs ys zs o t y w =
    let g = h a n in
    let q : to + length (bytes ++ stream a d) ≡ past + length (stream a d) = rw (length-append bytes (stream a d)) (omega arith) in
    record {
      answers = rw (w.answers, m a n, g.tagged, g.known, g.holds, g.streams, q) refl;
      output = rw (m a n, g.streams) (w.output ∙ rw (t, y) (sym (sets-append xs to bytes (stream a d))));
    }

-- ---- write_element: h stands at `at`
pub header-fits : (at to n : ℕ) → at + 8 ≤ n → to ≤ at + n → n * 1 < 2 ^ 63 → Fits w64 (to + 8)
header-fits at to n h b m = record { fits = omega arith }

pub header-within : (at n : ℕ) → at + 8 ≤ n → n * 1 < 2 ^ 63 → Fits w64 (at + 8)
header-within at n h m = record { fits = omega arith }

module _ (d : List ℕ) (left stop at : ℕ) (h : ElementHeader) where
  by : (p : ElementHeader) → h ≡ p → by_header_at d left stop at (element_case (Ok h)) ≡ by_header (λ inner. items_at explicit d inner left) (fragments_at explicit d left stop) at (element_case (Ok p))
  unfolding by_header_at
  by p q = rw q

  pub element-end : (to next : ℕ) (xs : List ℕ) → h ≡ header.End next → ElementWalk d left stop at (element_case (Ok h)) to (Ok (one.End next)) xs xs
  unfolding by_header one_walked one_stream Leaves
  element-end to next xs q = rw (by (header.End next) q) record { answers = refl; output = refl }

  module _ (s : HeaderAt d left stop at (element_case (Ok h))) where
    facts : (p : ElementHeader) → h ≡ p → ElementFacts d s.delimited left stop at s.least (element_case (Ok p))
    facts p q = rw (sym s.is ∙ ap (λ (e : ElementHeader). element_case (Ok e)) q) at (element-facts d s.delimited left stop at s.least)

    module _ (tag vr start end : ℕ) (q : h ≡ header.Value tag vr start end) where
      pub value-order : at ≤ end
      value-order = let v = (facts (header.Value tag vr start end) q).1 in omega (arith, value-start d stop at tag vr start end v, v.order)

      pub value-inside : (n : ℕ) → stop ≤ n → end ≤ n
      value-inside n l = omega (arith, (facts (header.Value tag vr start end) q).1.inside)

      pub value-fits : (to : ℕ) → to ≤ at + length d → stop ≤ length d → length d * 1 < 2 ^ 63 → Fits w64 (to + (end - at))
      value-fits to b l m = record { fits = omega (arith, value-order, value-inside (length d) l) }

      pub element-value : (to : ℕ) (z : OneWritten) (xs ys : List ℕ) → stop ≤ length d → z ≡ one.Element tag (eqb vr UN) false end (to + (end - at))
          → ys ≡ sets xs to (between d at end) → ElementWalk d left stop at (element_case (Ok h)) to (Ok z) xs ys
      unfolding by_header one_walked one_stream every Leaves stream_of holds_un
      element-value to z xs ys l g y =
          let n = length-between d at end value-order (value-inside (length d) l) in
          rw (by (header.Value tag vr start end) q, g) record { answers = rw n; output = y }

    module _ (tag start end : ℕ) (inner : Bool) (q : h ≡ header.Sequence tag start end inner) where
      abbrev inside : Extent
      inside = record { delimited = inner; left = left; stop = end; from = start }

      sequence-facts : ElementFacts d s.delimited left stop at s.least (element_case (Ok (header.Sequence tag start end inner)))
      sequence-facts = facts (header.Sequence tag start end inner) q

      pub sequence-level : 0 < left
      sequence-level = sequence-facts.4

      pub sequence-room : (to : ℕ) → to ≤ at + length d → to + 8 + 4 ≤ start + length d
      sequence-room to b = omega (arith, sequence-facts.1.starts)

      pub sequence-lies : Lies d inside
      sequence-lies = let k = sequence-facts in record { order = k.2; inside = omega (arith, k.3, k.5) }

      pub sequence-header : at + 8 ≤ length d
      sequence-header = let k = sequence-facts in omega (arith, k.1.starts, k.2, k.3, k.5)

      -- what `write_items` answers and leaves behind the header
      module _ (to : ℕ) (xs ys zs : List ℕ) (y : ys ≡ sets xs to (between d at (at + 8))) where
        holding-items : (o : Result Written Answer) → ItemsWalk d inside (to + 8) o ys zs → ElementWalk d left stop at (element_case (Ok h)) to (holding tag o) xs zs
        unfolding by_header stream_of holds_un
        holding-items o w =
            let n : length (between d at (at + 8)) ≡ 8 = length-between d at (at + 8) (omega arith) sequence-header ∙ omega arith in
            rw (by (header.Sequence tag start end inner) q)
            (holding-walk items_hold_un items_stream d tag (between d at (at + 8)) (items_at explicit d inner left end start) _ (λ is m. sequence at tag (span start _) is)
            (λ is m. refl) (λ is m. record { tagged = refl; known = refl; holds = refl; streams = refl })
            to (to + 8) xs ys zs o (rw n) y w)

        pub sequence-refused : (f : Answer) → ItemsWalk d inside (to + 8) (Err f) ys zs → ElementWalk d left stop at (element_case (Ok h)) to (Err f) xs zs
        sequence-refused f w = holding-items (Err f) w

        pub element-sequence : (o : Written) (z : OneWritten) → ItemsWalk d inside (to + 8) (Ok o) ys zs → z ≡ nested_written tag o
            → ElementWalk d left stop at (element_case (Ok h)) to (Ok z) xs zs
        element-sequence o z w e = rw e (holding-items (Ok o) w)

    module _ (tag start : ℕ) (q : h ≡ header.Fragments tag start) where
      parts-facts : ElementFacts d s.delimited left stop at s.least (element_case (Ok (header.Fragments tag start)))
      parts-facts = facts (header.Fragments tag start) q

      pub parts-room : (to : ℕ) → to ≤ at + length d → to + 8 + 4 ≤ start + length d
      parts-room to b = omega (arith, parts-facts.1.starts)

      pub parts-lies : (delimited : Bool) → Lies d (record { delimited = delimited; left = left; stop = stop; from = start })
      parts-lies delimited = let k = parts-facts in record { order = k.1.inside; inside = k.2 }

      pub parts-header : at + 8 ≤ length d
      parts-header = let k = parts-facts in omega (arith, k.1.starts, k.1.inside, k.2)

      -- what `write_fragments` answers and leaves behind the header
      module _ (to : ℕ) (xs ys zs : List ℕ) (y : ys ≡ sets xs to (between d at (at + 8))) where
        holding-parts : (o : Result Written Answer) → FragmentsWalk d left stop start (to + 8) o ys zs
            → ElementWalk d left stop at (element_case (Ok h)) to (holding tag o) xs zs
        unfolding by_header stream_of holds_un holds_none
        holding-parts o w =
            let n : length (between d at (at + 8)) ≡ 8 = length-between d at (at + 8) (omega arith) parts-header ∙ omega arith in
            rw (by (header.Fragments tag start) q)
            (holding-walk holds_none fragments_stream d tag (between d at (at + 8)) (fragments_at explicit d left stop start) _ (λ ss m. fragments at tag (span start (m - 8)) ss)
            (λ ss m. refl) (λ ss m. record { tagged = refl; known = refl; holds = refl; streams = refl })
            to (to + 8) xs ys zs o (rw n) y w)

        pub parts-refused : (f : Answer) → FragmentsWalk d left stop start (to + 8) (Err f) ys zs → ElementWalk d left stop at (element_case (Ok h)) to (Err f) xs zs
        parts-refused f w = holding-parts (Err f) w

        pub element-fragments : (o : Written) (z : OneWritten) → FragmentsWalk d left stop start (to + 8) (Ok o) ys zs → z ≡ nested_written tag o
            → ElementWalk d left stop at (element_case (Ok h)) to (Ok z) xs zs
        element-fragments o z w e = rw e (holding-parts (Ok o) w)

-- ---- write_one: the element is kept, or not
inside-tag : {A : Type 0} (tag : ℕ) (p : Reading A) (k : A × ℕ → Reading One) (make : A → ℕ → Element) → ((a : A) (n : ℕ) → k (a, n) ≡ read (element (make a n)) n)
    → ((a : A) (n : ℕ) → tag_of (make a n) ≡ tag) → (e : Element) (n : ℕ) → (p >>= k) ≡ read (element e) n → tag_of e ≡ tag
inside-tag tag (fault f) k make m t e n q = absurd (true≢false (cc))
inside-tag tag (read a i) k make m t e n q =
    let x : make a i ≡ e = let y = m a i in cc in
    rw (← x) (t a i)

header-keeps : (c : Keep) (items : Bool → ℕ → ℕ → Reading Items) (parts : ℕ → Reading (List Span)) (at : ℕ) (h : spec.ElementHeader) (e : Element) (n : ℕ)
    → by_header items parts at h ≡ read (element e) n → keeps c (tag_of e) ≡ keeps_header c h
unfolding by_header
header-keeps c items parts at (spec.ElementHeader.refused a) e n q = absurd (true≢false (cc))
header-keeps c items parts at (spec.ElementHeader.ends next) e n q = absurd (true≢false (cc))
header-keeps c items parts at (spec.ElementHeader.value tag vr start end) e n q =
    let x : value at tag vr (span start end) ≡ e = cc in
    rw (← x)
header-keeps c items parts at (spec.ElementHeader.sequence tag start end inner) e n q =
    ap (keeps c) (inside-tag tag (items inner end start) _ (λ is m. sequence at tag (span start _) is) (λ is m. refl) (λ is m. refl) e n q)
header-keeps c items parts at (spec.ElementHeader.fragments tag start) e n q =
    ap (keeps c) (inside-tag tag (parts start) _ (λ ss m. fragments at tag (span start (m - 8)) ss) (λ ss m. refl) (λ ss m. refl) e n q)

-- an element that is not kept, by what the walk over it answers
abbrev left_out : Result OneWritten Answer → (to : ℕ) → Result OneWritten Answer
left_out (Err f) to = Err f
left_out (Ok o) to = Ok (with_offset o to)

module _ (c : Keep) (d : List ℕ) where
  -- the element that is read, if there is one, is kept or is not
  abbrev Kept : Bool → Reading One → Type 0
  Kept b p = (e : Element) (n : ℕ) → p ≡ read (element e) n → keeps c (tag_of e) ≡ b

  kept-walk : (p : Reading One) → Kept true p → (to : ℕ) (r : Result OneWritten Answer) (xs ys : List ℕ)
      → Walk (one_walked every) (one_stream every) p d to r xs ys → Walk (one_walked (keeps c)) (one_stream (keeps c)) p d to r xs ys
  unfolding one_walked one_stream every Leaves
  kept-walk (fault f) k to r xs ys w = record { answers = w.answers; output = tt }
  kept-walk (read ended n) k to r xs ys w = record { answers = w.answers; output = w.output }
  kept-walk (read (element e) n) k to r xs ys w =
      let t = k e n refl in
      record { answers = w.answers ∙ rw t; output = w.output ∙ rw t }

  left-walk : (p : Reading One) → Kept false p → (to past : ℕ) (o : Result OneWritten Answer) (xs ys zs : List ℕ)
      → Walk (one_walked every) (one_stream every) p d past o ys zs → Walk (one_walked (keeps c)) (one_stream (keeps c)) p d to (left_out o to) xs xs
  unfolding one_walked one_stream every Leaves
  left-walk (fault f) k to past o xs ys zs w = record { answers = rw w.answers refl; output = tt }
  left-walk (read ended n) k to past o xs ys zs w = record { answers = rw w.answers refl; output = refl }
  left-walk (read (element x) n) k to past o xs ys zs w =
      let t = k x n refl in
      let z : to + 0 ≡ to = omega arith in
      record { answers = rw (w.answers, t, z) refl; output = rw t refl }

-- a value that is not kept is passed over
passed-walk : (c : Keep) (d : List ℕ) (at tag vr start end to : ℕ) (r : OneWritten) (xs : List ℕ) → keeps c tag ≡ false
    → r ≡ one.Element tag (eqb vr UN) false end to
    → Walk (one_walked (keeps c)) (one_stream (keeps c)) (read (element (value at tag vr (span start end))) end) d to (Ok r) xs xs
unfolding one_walked one_stream Leaves holds_un
passed-walk c d at tag vr start end to r xs t e = let z : to + 0 ≡ to = omega arith in record { answers = rw (t, e, z); output = rw t }

module _ (d : List ℕ) (delimited : Bool) (left stop at least : ℕ) where
  -- what is read in an element's place, by what stands there
  one-is : (p : spec.ElementHeader) → p ≡ element_at d delimited left stop at least → one_at explicit d delimited left stop at least ≡ by_header_at d left stop at p
  unfolding one_at by_header_at
  one-is p g = rw g

  pub one-refused : (c : Keep) (to : ℕ) (f : Answer) (xs : List ℕ) → element_case (Err f) ≡ element_at d delimited left stop at least
      → OneWalk c d delimited left stop at least to (Err f) xs xs
  unfolding by_header_at by_header one_walked Leaves
  one-refused c to f xs g = rw (one-is (element_case (Err f)) g) record { answers = refl; output = tt }

  -- an element whose header is h; b says whether it is kept
  module _ (h : ElementHeader) (g : element_case (Ok h) ≡ element_at d delimited left stop at least) where
    module _ (c : Keep) (b : Bool) (k : b ≡ keeps_header c (element_case (Ok h))) where
      kept_here : Kept c d b (by_header_at d left stop at (element_case (Ok h)))
      unfolding by_header_at
      kept_here e n q = header-keeps c (λ inner. items_at explicit d inner left) (fragments_at explicit d left stop) at (element_case (Ok h)) e n q ∙ sym k

      pub one_kept : (to : ℕ) (r : Result OneWritten Answer) (xs ys : List ℕ) → b ≡ true
          → ElementWalk d left stop at (element_case (Ok h)) to r xs ys → OneWalk c d delimited left stop at least to r xs ys
      one_kept to r xs ys t w =
          rw (one-is (element_case (Ok h)) g) (kept-walk c d (by_header_at d left stop at (element_case (Ok h))) (λ e n q. kept_here e n q ∙ t) to r xs ys w)

      left_here : (to past : ℕ) (o : Result OneWritten Answer) (xs ys zs : List ℕ) → b ≡ false
          → ElementWalk d left stop at (element_case (Ok h)) past o ys zs → OneWalk c d delimited left stop at least to (left_out o to) xs xs
      left_here to past o xs ys zs t w =
          rw (one-is (element_case (Ok h)) g) (left-walk c d (by_header_at d left stop at (element_case (Ok h))) (λ e n q. kept_here e n q ∙ t) to past o xs ys zs w)

      pub left-refused : (to past : ℕ) (f : Answer) (xs ys zs : List ℕ) → b ≡ false
          → ElementWalk d left stop at (element_case (Ok h)) past (Err f) ys zs → OneWalk c d delimited left stop at least to (Err f) xs xs
      left-refused to past f xs ys zs t w = left_here to past (Err f) xs ys zs t w

      pub one_left : (to past : ℕ) (o r : OneWritten) (xs ys zs : List ℕ) → b ≡ false
          → ElementWalk d left stop at (element_case (Ok h)) past (Ok o) ys zs → r ≡ with_offset o to → OneWalk c d delimited left stop at least to (Ok r) xs xs
      one_left to past o r xs ys zs t w e = rw e (left_here to past (Ok o) xs ys zs t w)

      pub one-passed : (to tag vr start end : ℕ) (z : OneWritten) (xs : List ℕ) → b ≡ false → h ≡ header.Value tag vr start end
          → z ≡ one.Element tag (eqb vr UN) false end to → OneWalk c d delimited left stop at least to (Ok z) xs xs
      unfolding by_header_at by_header
      one-passed to tag vr start end z xs t q e =
          let at-value : element_case (Ok h) ≡ spec.ElementHeader.value tag vr start end = ap (λ (e : ElementHeader). element_case (Ok e)) q in
          rw (one-is (spec.ElementHeader.value tag vr start end) (sym at-value ∙ g))
          (passed-walk c d at tag vr start end to z xs (sym (ap (keeps_header c) at-value) ∙ sym k ∙ t) e)
