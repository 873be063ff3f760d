-- List and top level are merged: what one element more changes. The tags ascend on both sides. Assumes nothing.
use Rattle.std.proofs.Common.{if◌then◌else◌}
use Prim.Native.Nat.{ℕ, ◌+◌, ◌≤◌, ◌<◌}
use mathlib.Core.Path.{◌≡◌, refl, sym, ap, ◌∙◌}
use mathlib.Core.Bool.{Bool, true, false, true≢false}
use mathlib.Core.List.{List, [], ◌∷◌, ◌++◌}
use mathlib.Core.Option as Opt
use native.Mathlib.Omega.{arith}
use lib.Dec.{eqb, ltb}
use lib.ListN.{length, length-append}
use lib.Seq.{sets}
use borrow.Author.Tests.{le-ltb, eq-eqb, ltb-false}
use Rattle.answer.specs.declared.Answer.{Answer}
use Rattle.answer.specs.Answer.{accepted, refused, ◌or_else◌}
use Rattle.dataset.specs.Tree.{Element, Elements, and, tag_of}
use Rattle.dataset.specs.Reading.{Reading, fault, read, ◌>>=◌}
use Rattle.dataset.specs.Lookup.{element_of}
use Rattle.stream.specs.TagList.{ascending_answer}
use Rattle.stream.specs.Stream.{stream_of, listed_stream}
use Rattle.stream.specs.UN.{is_un, holds_un}
use Rattle.stream.specs.Listed.{element_answer, tags_answer}
use Rattle.stream.specs.Inner.Listed.{listed_answer, ListedLeaves}
use Rattle.slices.proofs.Laws.Writing.{sets-append}
use Rattle.stream.proofs.Laws.Listed.Finding.{find_past, find-here}

-- ---- tags in ascending order, from `least` on
abbrev pub Ascends : (index least : ℕ) → List ℕ → Type 0
Ascends index least tags = ascending_answer index least tags ≡ accepted 0

record Split (index least wanted : ℕ) (tags : List ℕ) : Type 0 where
  pub above : least ≤ wanted
  pub rest : Ascends (index + 1) (wanted + 1) tags

split : (index least wanted : ℕ) (tags : List ℕ) → Ascends index least (wanted ∷ tags) → Split index least wanted tags
unfolding ascending_answer
split index least wanted tags a = go (ltb wanted least) refl a
  where
    go : (b : Bool) → ltb wanted least ≡ b → (if b then refused 11 index else ascending_answer (index + 1) (wanted + 1) tags) ≡ accepted 0 → Split index least wanted tags
    go true e q = let z : ◌≡◌ {A = ℕ} 11 0 = ap (λ (a : Answer). a.number) q in absurd (omega arith)
    go false e q = record { above = ltb-false wanted least e; rest = q }

pub later : (index least more : ℕ) (wanted : ℕ) (tags : List ℕ) → Ascends index least (wanted ∷ tags) → more ≤ wanted → Ascends index more (wanted ∷ tags)
unfolding ascending_answer
later index least more wanted tags a h = rw (le-ltb wanted more h) (split index least wanted tags a).rest

pub rest-ascends : (index least wanted : ℕ) (tags : List ℕ) → Ascends index least (wanted ∷ tags) → Ascends (index + 1) (wanted + 1) tags
rest-ascends index least wanted tags a = (split index least wanted tags a).rest

-- ---- an element whose tag is below those that are left is passed over
answer-past : (index least : ℕ) (tags : List ℕ) (e : Element) (es : Elements) → Ascends index least tags → tag_of e < least → tags_answer index tags (and e es) ≡ tags_answer index tags es
unfolding tags_answer
answer-past index least [] e es a h = refl
answer-past index least (wanted ∷ tags) e es a h =
    let s = split index least wanted tags a in
    rw (find_past wanted e es (omega (arith, s.above)), answer-past (index + 1) (wanted + 1) tags e es s.rest (omega (arith, s.above)))

stream-past : (index least : ℕ) (tags : List ℕ) (e : Element) (es : Elements) (d : List ℕ) → Ascends index least tags → tag_of e < least
    → listed_stream tags (and e es) d ≡ listed_stream tags es d
unfolding listed_stream
stream-past index least [] e es d a h = refl
stream-past index least (wanted ∷ tags) e es d a h =
    let s = split index least wanted tags a in
    rw (find_past wanted e es (omega (arith, s.above)), stream-past (index + 1) (wanted + 1) tags e es d s.rest (omega (arith, s.above)))

-- ---- the walk goes on from the reading p to q: what it answers and leaves by q is what it answers and leaves by p
pub record On (d : List ℕ) (p : Reading Elements) (found : Answer) (index : ℕ) (tags xs : List ℕ) (q : Reading Elements) (found' : Answer) (index' : ℕ) (tags' ys : List ℕ) : Type 0 where
  pub answers : listed_answer found index tags d p ≡ listed_answer found' index' tags' d q
  pub output : (zs : List ℕ) → ListedLeaves found' index' tags' d q ys zs → ListedLeaves found index tags d p xs zs

-- e stands in front of what is left
abbrev pub in_front : Element → Elements × ℕ → Reading Elements
in_front e x = read (and e x.0) x.1

-- the same answer and stream: nothing is wanted of e
passed : (d : List ℕ) (q : Reading Elements) (e : Element) (found : Answer) (index : ℕ) (tags xs : List ℕ)
    → ((es : Elements) → tags_answer index tags (and e es) ≡ tags_answer index tags es) → ((es : Elements) → listed_stream tags (and e es) d ≡ listed_stream tags es d)
    → On d (q >>= in_front e) found index tags xs q found index tags xs
unfolding listed_answer ListedLeaves
passed d (fault f) e found index tags xs a s = record { answers = refl; output = λ zs l. tt }
passed d (read es n) e found index tags xs a s = record { answers = rw (a es, s es); output = λ zs l. rw (a es, s es) l }

pub on_none : (d : List ℕ) (q : Reading Elements) (e : Element) (found : Answer) (index : ℕ) (xs : List ℕ) → On d (q >>= in_front e) found index [] xs q found index [] xs
unfolding tags_answer listed_stream
on_none d q e found index xs = passed d q e found index [] xs (λ es. refl) (λ es. refl)

pub on-before : (d : List ℕ) (q : Reading Elements) (e : Element) (found : Answer) (index least : ℕ) (tags xs : List ℕ) → Ascends index least tags → tag_of e < least
    → On d (q >>= in_front e) found index tags xs q found index tags xs
on-before d q e found index least tags xs a h = passed d q e found index tags xs (λ es. answer-past index least tags e es a h) (λ es. stream-past index least tags e es d a h)

-- a refusal, by the first of the tags that are left
abbrev Refuses : (number : ℕ) → Type 0
Refuses number = eqb number 0 ≡ false

refused-on : (d : List ℕ) (q : Reading Elements) (e : Element) (length number index count : ℕ) (tags xs ys : List ℕ) → Refuses number
    → ((es : Elements) (n : ℕ) → q ≡ read es n → tags_answer index tags (and e es) ≡ refused number index)
    → On d (q >>= in_front e) (accepted length) index tags xs q (refused number index) count [] ys
unfolding listed_answer ListedLeaves ◌or_else◌
refused-on d (fault f) e length number index count tags xs ys r a = record { answers = refl; output = λ zs l. tt }
refused-on d (read es n) e length number index count tags xs ys r a =
    let q = a es n refl in
    record { answers = rw (q, r); output = λ zs l. rw (q, r) (λ z. absurd (true≢false (sym (eq-eqb number 0 z) ∙ r))) }

first-refused : (index wanted number : ℕ) (tags : List ℕ) (es : Elements) → Refuses number → element_answer index (element_of wanted es) ≡ refused number index
    → tags_answer index (wanted ∷ tags) es ≡ refused number index
unfolding tags_answer ◌or_else◌
first-refused index wanted number tags es r a = rw (a, r)

module _ (d : List ℕ) (q : Reading Elements) (e : Element) (length index count wanted : ℕ) (tags xs ys : List ℕ) where
  pub on-absent : ((es : Elements) (n : ℕ) → q ≡ read es n → element_of wanted (and e es) ≡ Opt.none)
      → On d (q >>= in_front e) (accepted length) index (wanted ∷ tags) xs q (refused 13 index) count [] ys
  unfolding element_answer
  on-absent h = refused-on d q e length 13 index count (wanted ∷ tags) xs ys refl λ es n w. first-refused index wanted 13 tags (and e es) refl (rw (h es n w))

  module _ (h : tag_of e ≡ wanted) where
    pub on-unknown : is_un e ≡ true → On d (q >>= in_front e) (accepted length) index (wanted ∷ tags) xs q (refused 14 index) count [] ys
    unfolding element_answer
    on-unknown u = refused-on d q e length 14 index count (wanted ∷ tags) xs ys refl λ es n w. first-refused index wanted 14 tags (and e es) refl (rw (find-here wanted e es h, u))

    pub on-holds : is_un e ≡ false → holds_un e ≡ true → On d (q >>= in_front e) (accepted length) index (wanted ∷ tags) xs q (refused 15 index) count [] ys
    unfolding element_answer
    on-holds u v = refused-on d q e length 15 index count (wanted ∷ tags) xs ys refl λ es n w. first-refused index wanted 15 tags (and e es) refl (rw (find-here wanted e es h, u, v))

-- e is the wanted element, and its stream is written
pub on-found : (d : List ℕ) (q : Reading Elements) (e : Element) (to index least wanted : ℕ) (tags xs ys : List ℕ) → Ascends index least (wanted ∷ tags) → tag_of e ≡ wanted
    → is_un e ≡ false → holds_un e ≡ false → (past : ℕ) → past ≡ to + length (stream_of e d) → ys ≡ sets xs to (stream_of e d)
    → On d (q >>= in_front e) (accepted to) index (wanted ∷ tags) xs q (accepted past) (index + 1) tags ys
unfolding listed_answer ListedLeaves tags_answer listed_stream element_answer ◌or_else◌
on-found d (fault f) e to index least wanted tags xs ys a h u v past t y = record { answers = refl; output = λ zs l. tt }
on-found d (read es n) e to index least wanted tags xs ys a h u v past t y =
    let r = rest-ascends index least wanted tags a in
    let p = answer-past (index + 1) (wanted + 1) tags e es r (omega arith) in
    let s = stream-past (index + 1) (wanted + 1) tags e es d r (omega arith) in
    let m : to + length (stream_of e d ++ listed_stream tags es d) ≡ past + length (listed_stream tags es d) = rw (length-append (stream_of e d) (listed_stream tags es d), t) (omega arith) in
    record {
      answers = rw (find-here wanted e es h, u, v, p, s, m);
      output = λ zs l. rw (find-here wanted e es h, u, v, p, s, m) λ z. l z ∙ rw (y, t) (sym (sets-append xs to (stream_of e d) (listed_stream tags es d)));
    }
