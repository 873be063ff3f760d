-- What one turn of the loop of `walk_list` does, with the facts of the place as premises. Assumes nothing.
use Rattle.std.proofs.Common.{if◌then◌else◌}
use Prim.Native.Nat.{ℕ, suc, ◌+◌, ◌-◌, ◌*◌, ◌/◌, ◌≤◌, ◌<◌}
use mathlib.Core.Path.{◌≡◌, refl, sym, ap, ◌∙◌, subst}
use mathlib.Core.Bool.{Bool, true, false, true≢false}
use mathlib.Core.List.{List, [], ◌∷◌}
use native.Mathlib.Omega.{arith}
use lib.Dec.{eqb, ltb}
use lib.ListN.{length, drop}
use lib.Seq.{sets, length-sets}
use borrow.Author.Tests.{eq-eqb, ne_eqb, ltb-false, ltb-true, eqb-true, eqb-false}
use Rattle.answer.specs.declared.Answer.{Answer}
use Rattle.std.specs.Prelude.{Result, Ok, Err}
use Rattle.std.specs.Result.{IfOk, result_unwrap_or}
use Rattle.answer.specs.Answer.{accepted, refused, ◌or_else◌}
use Rattle.answer.specs.Step.{step_by, answer_by}
use Rattle.answer.specs.Refusal.{number_of}
use Rattle.answer.specs.declared.refusal.Refusal.{Refusal}
use Rattle.answer.specs.declared.refusal.Refusal.TheVariants as refusal
use Rattle.answer.proofs.Laws.Steps.{step-passes, step-refuses}
use Rattle.dataset.specs.Tree.{Element, Elements, none, tag_of}
use Rattle.dataset.proofs.Laws.Reading.Lies.{ElementsLie}
use Rattle.dataset.specs.Reading.{Reading, fault, read, ◌>>=◌, element, explicit, by_one, elements_at, one_at}
use Rattle.dataset.specs.Lookup.{element_of}
use Rattle.dataset.proofs.Laws.Reading.Bounded.{explicit-bounded}
use Rattle.dataset.proofs.Laws.Reading.Within.{Within, elements-within}
use Rattle.dataset.proofs.Laws.Reading.Guarantees.{holds_read, ElementsIn, elements-read}
use Rattle.stream.specs.TagList.{tags_in, ascending_answer}
use Rattle.stream.specs.Stream.{stream_of, listed_stream}
use Rattle.stream.specs.UN.{is_un, holds_un}
use Rattle.stream.specs.Listed.{element_answer, tags_answer}
use Rattle.stream.specs.Inner.Keep.{keeps}
use Rattle.stream.specs.Inner.Writer.{one_stream, one_walked, Walk}
use Rattle.stream.specs.Inner.Listed.{listed_answer, ListedLeaves, ListWalk, next_listed, stopped_of, merged_of, ended_of, wanted_behind}
use Rattle.dataset.specs.Extent.{elements_in}
use Rattle.dataset.specs.declared.extent.Extent.{Extent}
use Rattle.stream.specs.declared.listed.Listed.{Listed}
use Rattle.stream.specs.declared.listed.Passed.{Passed}
use Rattle.stream.specs.declared.keep.Keep.{Keep}
use Rattle.stream.specs.declared.writer.OneWritten.{OneWritten}
use Rattle.stream.specs.declared.writer.OneWritten.TheVariants as one
use Rattle.stream.proofs.Laws.TagList.TagsFrom.{tags-more, tags-none}
use Rattle.stream.specs.declared.keep.Keep.TheVariants as keep
use Rattle.stream.proofs.Laws.Listed.Finding.{find_absent, front-absent}
use Rattle.stream.proofs.Laws.Listed.Merge.{Ascends, later, rest-ascends, On, in_front, on_none, on-before, on-absent, on-unknown, on-holds, on-found}
use Rattle.stream.proofs.Laws.Writer.OneWalks as walk

-- the tags of the list l from an index on
abbrev from : List ℕ → ℕ → List ℕ
from l index = tags_in (drop (4 * index) l)

-- the element that is wanted then
pub still-wanted : (l : List ℕ) (count : ℕ) (c c' : Keep) (s s' : Listed) (e : Passed) → c ≡ next_listed (tags_in (drop (4 * s.index) l))
    → s' ≡ merged_of count c s e → c' ≡ wanted_behind c e.tag (tags_in (drop (4 * s'.index) l)) → c' ≡ next_listed (tags_in (drop (4 * s'.index) l))
unfolding wanted_behind merged_of
still-wanted l count keep.Unbarred c' s s' e k z q = q
still-wanted l count keep.Nothing c' s s' e k z q = q
still-wanted l count (keep.Only wanted) c' s s' e k z q = go (ltb e.tag wanted) refl z q
  where
    go : (b : Bool) → ltb e.tag wanted ≡ b
        → s' ≡ (if b then s else if ltb wanted e.tag then stopped_of count refusal.MissingElement s.index else if e.is_un then stopped_of count refusal.IsUn s.index
        else if e.holds_un then stopped_of count refusal.HoldsUn s.index else record { index = s.index + 1; so_far = Ok e.to })
        → c' ≡ (if b then keep.Only wanted else next_listed (tags_in (drop (4 * s'.index) l))) → c' ≡ next_listed (tags_in (drop (4 * s'.index) l))
    go true x y w = w ∙ k ∙ ap (λ (t : Listed). next_listed (tags_in (drop (4 * t.index) l))) (sym y)
    go false x y w = w

-- what was found so far, as an answer
abbrev found : Listed → Answer
found s = answer_by s.so_far

-- what holds of the state s where what is left of the data set starts at `at` and its tags at `least`
pub record State (l : List ℕ) (at least : ℕ) (s : Listed) : Type 0 where
  pub below : (found s).length ≤ at
  pub few : s.index ≤ length l / 4
  pub order : Ascends s.index least (from l s.index)
  pub fine : s.index < length l / 4 → (found s).number ≡ 0
  pub form : (found s).number ≡ 0 → s.so_far ≡ Ok (found s).length
  pub long : result_unwrap_or s.so_far 0 ≡ (found s).length

pub record ListLoop (l d : List ℕ) (x : Extent) (xs₀ xs : List ℕ) (at least : ℕ) (s : Listed) (c : Keep) : Type 0 where
  pub inside : at ≤ x.stop
  pub within : x.stop ≤ length d
  pub state : State l at least s
  pub wanted : c ≡ next_listed (from l s.index)
  pub on : On d (elements_in d x) (accepted 0) 0 (tags_in l) xs₀ (elements_at explicit d x.delimited x.left x.stop at least) (found s) s.index (from l s.index) xs
  pub long : length xs ≡ length xs₀

on-trans : (d : List ℕ) (p₀ : Reading Elements) (a₀ : Answer) (i₀ : ℕ) (t₀ xs₀ : List ℕ) (p : Reading Elements) (a : Answer) (i : ℕ) (t xs : List ℕ)
    (q : Reading Elements) (b : Answer) (j : ℕ) (u ys : List ℕ) → On d p₀ a₀ i₀ t₀ xs₀ p a i t xs → On d p a i t xs q b j u ys → On d p₀ a₀ i₀ t₀ xs₀ q b j u ys
on-trans d p₀ a₀ i₀ t₀ xs₀ p a i t xs q b j u ys f g =
    record { answers = f.answers ∙ g.answers; output = λ zs k. f.output zs (g.output zs k) }

-- ---- the state after one element more
kept : (c : Keep) (e : Element) (d : List ℕ) → keeps c (tag_of e) ≡ true → one_stream (keeps c) (element e) d ≡ stream_of e d
unfolding one_stream
kept c e d k = rw k

unkept : (c : Keep) (e : Element) (d : List ℕ) → keeps c (tag_of e) ≡ false → one_stream (keeps c) (element e) d ≡ []
unfolding one_stream
unkept c e d k = rw k

-- a tag is left: the list is not at its end
still : (l : List ℕ) (s : Listed) (wanted : ℕ) (tags : List ℕ) → from l s.index ≡ wanted ∷ tags → s.index < length l / 4
still l s wanted tags t = go (ltb s.index (length l / 4)) refl
  where
    go : (b : Bool) → ltb s.index (length l / 4) ≡ b → s.index < length l / 4
    go true e = ltb-true s.index (length l / 4) e
    go false e = let n = tags-none l s.index (ltb-false s.index (length l / 4) e) in absurd (true≢false (cc))

-- e is what stands at `at`, q what is read after it, and s' the state then
module _ (l d xs ys : List ℕ) (left at next least past : ℕ) (c : Keep) (s s' : Listed) (e : Element) (q : Reading Elements) (i : State l at least s) (a : at ≤ next) (b : past ≤ next)
    (m : past ≡ (found s).length + length (one_stream (keeps c) (element e) d)) (y : ys ≡ sets xs (found s).length (one_stream (keeps c) (element e) d))
    (lie : (es : Elements) (n : ℕ) → q ≡ read es n → ElementsLie es d left (tag_of e + 1) next n) where
  record Turn : Type 0 where
    pub on : On d (q >>= in_front e) (found s) s.index (from l s.index) xs q (found s') s'.index (from l s'.index) ys
    pub state : State l next (tag_of e + 1) s'

  same-output : keeps c (tag_of e) ≡ false → ys ≡ xs
  same-output k = y ∙ rw (unkept c e d k)

  -- the state stays
  stays : s' ≡ s → ys ≡ xs → Ascends s.index (tag_of e + 1) (from l s.index)
      → On d (q >>= in_front e) (found s) s.index (from l s.index) xs q (found s) s.index (from l s.index) xs → Turn
  stays z w o g =
      record {
        on = rw (z, w) g;
        state = rw z record { below = omega (arith, i.below); few = i.few; order = o; fine = i.fine; form = i.form; long = i.long };
      }

  -- a refusal
  stops : (why : Refusal) → (number_of why ≡ 0 → ⊥) → s' ≡ stopped_of (length l / 4) why s.index
      → On d (q >>= in_front e) (found s) s.index (from l s.index) xs q (refused (number_of why) s.index) (length l / 4) [] ys → Turn
  unfolding ascending_answer
  stops why k z g =
      let t = tags-none l (length l / 4) (omega arith) in
      record {
        on = rw (z, t) g;
        state = rw z record { below = omega arith; few = omega arith; order = rw t; fine = λ h. absurd (omega arith); form = λ h. absurd (k h); long = refl };
      }

  turn : (tags : List ℕ) → from l s.index ≡ tags → c ≡ next_listed tags → s' ≡ merged_of (length l / 4) c s (record { tag = tag_of e; is_un = is_un e; holds_un = holds_un e; to = past }) → Turn
  unfolding next_listed merged_of ascending_answer
  turn [] t k z = stays (rw k at z) (same-output (rw k)) (rw t) (rw t (on_none d q e (found s) s.index xs))
  turn (wanted ∷ tags) t k z = go (ltb (tag_of e) wanted) (ltb wanted (tag_of e)) (is_un e) (holds_un e) refl refl refl refl (rw k at z)
    where
      here : s.index < length l / 4
      here = still l s wanted tags t

      good : found s ≡ accepted (found s).length
      good = ap answer_by (i.form (i.fine here))

      o : Ascends s.index least (wanted ∷ tags)
      o = rw t at i.order

      rest : from l (s.index + 1) ≡ tags
      rest = let n = tags-more l s.index here in cc

      go : (x₁ x₂ x₃ x₄ : Bool) → ltb (tag_of e) wanted ≡ x₁ → ltb wanted (tag_of e) ≡ x₂ → is_un e ≡ x₃ → holds_un e ≡ x₄
          → s' ≡ (if x₁ then s else if x₂ then stopped_of (length l / 4) refusal.MissingElement s.index else if x₃ then stopped_of (length l / 4) refusal.IsUn s.index
          else if x₄ then stopped_of (length l / 4) refusal.HoldsUn s.index else record { index = s.index + 1; so_far = Ok past }) → Turn
      go true x₂ x₃ x₄ e₁ e₂ e₃ e₄ z =
          let h = ltb-true (tag_of e) wanted e₁ in
          let n = later s.index least (tag_of e + 1) wanted tags o (omega arith) in
          stays z (same-output (rw k (ne_eqb (tag_of e) wanted (λ x. omega arith)))) (rw t n) (rw t (on-before d q e (found s) s.index (tag_of e + 1) (wanted ∷ tags) xs n (omega arith)))
      go false true x₃ x₄ e₁ e₂ e₃ e₄ z =
          let h = ltb-true wanted (tag_of e) e₂ in
          stops refusal.MissingElement (λ x. omega arith) z
          (rw (t, good) (on-absent d q e (found s).length s.index (length l / 4) wanted tags xs ys λ es n x.
          front-absent wanted e es h (find_absent wanted es d left (tag_of e + 1) next n (lie es n x) (omega arith))))
      go false false true x₄ e₁ e₂ e₃ e₄ z =
          let h : tag_of e ≡ wanted = omega (arith, ltb-false (tag_of e) wanted e₁, ltb-false wanted (tag_of e) e₂) in
          stops refusal.IsUn (λ x. omega arith) z (rw (t, good) (on-unknown d q e (found s).length s.index (length l / 4) wanted tags xs ys h e₃))
      go false false false true e₁ e₂ e₃ e₄ z =
          let h : tag_of e ≡ wanted = omega (arith, ltb-false (tag_of e) wanted e₁, ltb-false wanted (tag_of e) e₂) in
          stops refusal.HoldsUn (λ x. omega arith) z (rw (t, good) (on-holds d q e (found s).length s.index (length l / 4) wanted tags xs ys h e₃ e₄))
      go false false false false e₁ e₂ e₃ e₄ z =
          let h : tag_of e ≡ wanted = omega (arith, ltb-false (tag_of e) wanted e₁, ltb-false wanted (tag_of e) e₂) in
          let w = kept c e d (rw k (eq-eqb (tag_of e) wanted h)) in
          record {
            on = rw (z, t, rest, good)
                (on-found d q e (found s).length s.index least wanted tags xs ys o h e₃ e₄ past (m ∙ rw w) (y ∙ rw w));
            state = rw z record {
              below = b;
              few = omega (arith, here);
              order = rw (rest, h) (rest-ascends s.index least wanted tags o);
              fine = λ x. refl;
              form = λ x. refl;
              long = refl;
            };
          }

turned : (l d xs ys : List ℕ) (left at next least past : ℕ) (c : Keep) (s s' : Listed) (e : Element) (tag : ℕ) (unknown holds : Bool) (q : Reading Elements) → State l at least s → at < next
    → past ≤ (found s).length + (next - at) → past ≡ (found s).length + length (one_stream (keeps c) (element e) d) → ys ≡ sets xs (found s).length (one_stream (keeps c) (element e) d)
    → tag_of e ≡ tag → is_un e ≡ unknown → holds_un e ≡ holds → c ≡ next_listed (from l s.index) → s' ≡ merged_of (length l / 4) c s (record { tag = tag; is_un = unknown; holds_un = holds; to = past })
    → ((es : Elements) (n : ℕ) → q ≡ read es n → ElementsLie es d left (tag + 1) next n)
    → On d (q >>= in_front e) (found s) s.index (from l s.index) xs q (found s') s'.index (from l s'.index) ys × State l next (tag + 1) s'
turned l d xs ys left at next least past c s s' e tag unknown holds q i a b m y f g h k z lie =
    let t = turn l d xs ys left at next least past c s s' e q i (omega arith) (omega (arith, i.below)) m y (rw f lie) (from l s.index) refl k (rw (f, g, h) z) in
    (t.on, rw f at t.state)

-- a fault of what is left has a number that is not 0
pub fault-left : (d : List ℕ) (x : Extent) (at least : ℕ) (f : Answer) → at ≤ x.stop → elements_at explicit d x.delimited x.left x.stop at least ≡ fault f → (f.number ≡ 0 → ⊥)
unfolding elements_at
fault-left d x at least f h e z =
    let w : Within {A = Elements} at x.stop (fault f) = rw e at (elements-within explicit explicit-bounded (suc (x.stop - at)) d x.delimited x.left x.stop at least h (omega arith)) in
    omega (arith, w.least)

-- ---- what was found, as a step
still-refused : (r : Result ℕ Answer) → eqb (answer_by r).number 0 ≡ false → r ≡ Err (answer_by r)
still-refused (Ok n) e = absurd (true≢false e)
still-refused (Err f) e = refl

not-long : (r : Result ℕ Answer) (m : ℕ) → (answer_by r).length ≤ m → IfOk r (λ n. n ≤ m)
not-long (Ok n) m h = h
not-long (Err f) m h = tt

-- ---- a turn of the loop: r is what the walk over one element gives, in an output from `to` on, and ys what it leaves
module _ (l d : List ℕ) (x : Extent) (xs₀ xs : List ℕ) (at least : ℕ) (s : Listed) (c : Keep) (i : ListLoop l d x xs₀ xs at least s c) (to : ℕ) (t : to ≡ result_unwrap_or s.so_far 0) where
  module _ (r : Result OneWritten Answer) (ys : List ℕ) (o : Walk (one_walked (keeps c)) (one_stream (keeps c)) (one_at explicit d x.delimited x.left x.stop at least) d to r xs ys) where
    w : Walk (one_walked (keeps c)) (one_stream (keeps c)) (one_at explicit d x.delimited x.left x.stop at least) d (found s).length r xs ys
    w = subst (λ (n : ℕ). Walk (one_walked (keeps c)) (one_stream (keeps c)) (one_at explicit d x.delimited x.left x.stop at least) d n r xs ys) (t ∙ i.state.long) o

    pub list-refused : (f : Answer) → r ≡ Err f → ListWalk l d x (Err f) xs₀ ys
    unfolding listed_answer ListedLeaves
    list-refused f q =
        let e = walk.one-fault (keeps c) d x.delimited x.left x.stop at least (found s).length r xs ys i.inside w f q in
        record {
          answers = step-refuses f f refl (fault-left d x at least f i.inside e) ∙ ap step_by (sym (i.on.answers ∙ rw e));
          output = i.on.output ys (rw e tt);
          short = tt;
        }

    ended-is : (tags : List ℕ) → from l s.index ≡ tags → (next : ℕ) → ys ≡ xs
        → (ended_of tags s ≡ step_by (listed_answer (found s) s.index tags d (read none next))) × ListedLeaves (found s) s.index tags d (read none next) xs ys
    unfolding ended_of listed_answer ListedLeaves tags_answer listed_stream element_answer element_of ◌or_else◌ step_by
    ended-is [] u next y = (go (eqb (found s).number 0) refl, λ h. y)
      where
        go : (b : Bool) → eqb (found s).number 0 ≡ b → s.so_far ≡ step_by (if b then accepted ((found s).length + 0) else found s)
        go true e =
            let z : (found s).length + 0 ≡ (found s).length = omega arith in
            i.state.form (eqb-true (found s).number 0 e) ∙ step-passes (found s).length (accepted ((found s).length + 0)) (ap accepted z)
        go false e = still-refused s.so_far e ∙ step-refuses (found s) (found s) refl (eqb-false (found s).number 0 e)
    ended-is (wanted ∷ tags) u next y = let n = i.state.fine (still l s wanted tags u) in (rw n, λ h. absurd (thirteen (rw n at h)))
      where
        thirteen : ◌≡◌ {A = ℕ} 13 0 → ⊥
        thirteen h = omega arith

    ended-short : (tags : List ℕ) → IfOk (ended_of tags s) (λ n. n ≤ length d)
    unfolding ended_of
    ended-short [] = not-long s.so_far (length d) (omega (arith, i.state.below, i.inside, i.within))
    ended-short (wanted ∷ tags) = tt

    -- what was read, and what it is
    module _ (z : OneWritten) (k : r ≡ Ok z) where
      pub list-end : (next : ℕ) (a : Result ℕ Answer) → z ≡ one.End next → a ≡ ended_of (from l s.index) s → ListWalk l d x a xs₀ ys
      unfolding by_one
      list-end next a v y =
          let q = k ∙ ap (λ (j : OneWritten). Ok j) v in
          let e = walk.one_end (keeps c) d x.delimited x.left x.stop at least (found s).length r xs ys i.inside w next q in
          let g = ended-is (from l s.index) refl next (walk.end-output (keeps c) d x.delimited x.left x.stop at least (found s).length r xs ys i.inside w next q) in
          record { answers = y ∙ g.0 ∙ ap step_by (sym (i.on.answers ∙ rw e)); output = i.on.output ys (rw e g.1); short = rw y (ended-short (from l s.index)) }

      module _ (tag : ℕ) (unknown holds : Bool) (next past : ℕ) (v : z ≡ one.Element tag unknown holds next past) where
        q : r ≡ Ok (one.Element tag unknown holds next past)
        q = k ∙ ap (λ (j : OneWritten). Ok j) v

        pub list-less : x.stop - next < x.stop - at
        list-less =
            let lies = walk.one_lies (keeps c) d x.delimited x.left x.stop at least (found s).length r xs ys i.inside w tag unknown holds next past q i.within in
            omega (arith, lies.past, lies.inside)

        pub list-again : (s' : Listed) (c' : Keep) → s' ≡ merged_of (length l / 4) c s (record { tag = tag; is_un = unknown; holds_un = holds; to = past })
            → c' ≡ wanted_behind c tag (from l s'.index) → ListLoop l d x xs₀ ys next (tag + 1) s' c'
        list-again s' c' y j =
            let e = walk.one_found (keeps c) d x.delimited x.left x.stop at least (found s).length r xs ys i.inside w tag unknown holds next past q in
            let lies = walk.one_lies (keeps c) d x.delimited x.left x.stop at least (found s).length r xs ys i.inside w tag unknown holds next past q i.within in
            let n = walk.one-next (keeps c) d x.delimited x.left x.stop at least (found s).length r xs ys i.inside w tag unknown holds next past q in
            let o' = walk.one-output (keeps c) d x.delimited x.left x.stop at least (found s).length r xs ys i.inside w tag unknown holds next past q in
            let b = walk.one_below (keeps c) d x.delimited x.left x.stop at least (found s).length r xs ys i.inside w tag unknown holds next past q i.within in
            let u = turned l d xs ys x.left at next least past c s s' e.what tag unknown holds (elements_at explicit d x.delimited x.left x.stop next (tag + 1)) i.state lies.past
            b e.passes o' e.tagged e.unknowns e.holding i.wanted y
            (λ es m h. (holds_read (ElementsIn d x.delimited x.left x.stop (tag + 1) next) (elements_at explicit d x.delimited x.left x.stop next (tag + 1)) es m
            (elements-read d x.left x.stop next i.within x.delimited (tag + 1)) h).tree) in
            record {
              inside = lies.inside;
              within = i.within;
              state = u.1;
              wanted = still-wanted l (length l / 4) c c' s s' (record { tag = tag; is_un = unknown; holds_un = holds; to = past }) i.wanted y j;
              on = on-trans d (elements_in d x) (accepted 0) 0 (tags_in l) xs₀ (elements_at explicit d x.delimited x.left x.stop at least) (found s) s.index (from l s.index) xs
                  (elements_at explicit d x.delimited x.left x.stop next (tag + 1)) (found s') s'.index (from l s'.index) ys i.on (rw n u.0);
              long = ap length o' ∙ length-sets xs (found s).length (one_stream (keeps c) (element e.what) d) ∙ i.long;
            }
