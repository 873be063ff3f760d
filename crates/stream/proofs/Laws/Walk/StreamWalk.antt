-- The listed elements with what follows them, place by place of `write_stream`, with the facts of the place as premises. Assumes nothing.
use Prim.Native.Nat.{ℕ, ◌+◌, ◌≤◌}
use native.Mathlib.Nat.{zero-add}
use mathlib.Core.Path.{◌≡◌, refl, sym, ap, ◌∙◌}
use mathlib.Core.Bool.{true≢false}
use mathlib.Core.List.{List, ◌++◌}
use native.Mathlib.Omega.{arith}
use lib.ListN.{length, length-append}
use lib.Seq.{sets}
use Rattle.std.specs.Prelude.{Option, Some, None, Result, Ok, Err}
use Rattle.std.specs.Result.{IfOk}
use Rattle.std.proofs.lemmas.Result.{IfOk-at_ok, IfOk-weaker}
use Rattle.answer.specs.declared.Answer.{Answer}
use Rattle.answer.specs.Answer.{accepted, ◌or_else◌}
use Rattle.answer.specs.Step.{step_by}
use Rattle.answer.proofs.Laws.Steps.{step-accepted, step-is, step-passes, step-refuses, step-behind}
use Rattle.answer.proofs.Laws.OrElse.{or-else-first, or-else-second, both-accepted}
use Rattle.slices.proofs.Laws.Writing.{sets-append}
use Rattle.dataset.specs.Tree.{Elements}
use Rattle.dataset.specs.Reading.{Reading, fault, read, answer_of, tree_of}
use Rattle.dataset.specs.Place.{Lies}
use Rattle.dataset.specs.Extent.{elements_in}
use Rattle.dataset.specs.declared.extent.Extent.{Extent}
use Rattle.stream.specs.TagList.{tags_in}
use Rattle.stream.specs.Stream.{elements_stream, listed_stream}
use Rattle.stream.specs.Own.{own}
use Rattle.stream.specs.Listed.{tags_answer}
use Rattle.stream.specs.Walk.{item_reading, signed_stream, stream_in, read_answer}
use Rattle.stream.specs.Inner.Own.{own_stream}
use Rattle.stream.specs.Inner.Listed.{listed_answer, ListedLeaves, ListWalk}
use Rattle.stream.specs.Inner.Walk.{walk_answer, FollowingWalk, StreamWalk}
use Rattle.stream.proofs.Laws.Walk.Following.{fault-number}

-- ---- the answer, by what the data set and the signature item read
module _ (tags d : List ℕ) where
  abbrev long : (p item : Reading Elements) → Answer
  long p item = accepted (length (signed_stream tags (tree_of p) (tree_of item) d))

  pub walk-fault : (f : Answer) (q : Reading Elements) → (f.number ≡ 0 → ⊥) → walk_answer tags d (fault f) q ≡ f
  unfolding walk_answer read_answer
  walk-fault f q h = ap (λ (a : Answer). a or_else long (fault f) q) (or-else-first f _ h) ∙ or-else-first f _ h

  walk-tags : (es : Elements) (n : ℕ) (q : Reading Elements) → ((tags_answer 0 tags es).number ≡ 0 → ⊥) → walk_answer tags d (read es n) q ≡ tags_answer 0 tags es
  unfolding walk_answer read_answer
  walk-tags es n q h =
      ap (λ (a : Answer). a or_else long (read es n) q) (or-else-second (accepted 0) _ refl ∙ or-else-first (tags_answer 0 tags es) _ h) ∙ or-else-first (tags_answer 0 tags es) _ h

  -- none of 13 to 15: what the signature item reads decides
  walk-on : (es : Elements) (n : ℕ) (q : Reading Elements) → (tags_answer 0 tags es).number ≡ 0
      → walk_answer tags d (read es n) q ≡ (answer_of q or_else accepted (length (listed_stream tags es d) + length (own_stream (tree_of q) d)))
  unfolding walk_answer read_answer signed_stream own_stream
  walk-on es n q t =
      ap (λ (a : Answer). a or_else long (read es n) q) (or-else-second (accepted 0) _ refl ∙ or-else-second (tags_answer 0 tags es) _ t)
      ∙ ap (λ (k : ℕ). answer_of q or_else accepted k) (length-append (listed_stream tags es d) (own_stream (tree_of q) d))

-- ---- the listed elements

-- their answer
by_tags : Answer → (tags : List ℕ) → Elements → List ℕ → Answer
by_tags a tags es d = a or_else accepted (length (listed_stream tags es d))

listed-is : (tags d : List ℕ) (es : Elements) (next : ℕ) → listed_answer (accepted 0) 0 tags d (read es next) ≡ by_tags (tags_answer 0 tags es) tags es d
unfolding listed_answer by_tags
listed-is tags d es next = or-else-second (accepted 0) _ refl ∙ rw (zero-add (length (listed_stream tags es d)))

-- where the walk over the list gives a length
pub record ListedRead (l d : List ℕ) (x : Extent) (n : ℕ) (xs ys : List ℕ) : Type 0 where
  pub elements : Elements
  pub next : ℕ
  pub reads : elements_in d x ≡ read elements next
  pub found : (tags_answer 0 (tags_in l) elements).number ≡ 0
  pub long : n ≡ length (listed_stream (tags_in l) elements d)
  pub output : ys ≡ sets xs 0 (listed_stream (tags_in l) elements d)

module _ (l d : List ℕ) (x : Extent) (a : Result ℕ Answer) (xs ys : List ℕ) (lies : Lies d x) (w : ListWalk l d x a xs ys) where
  -- by what is read
  listed_by : (n : ℕ) → a ≡ Ok n → (p : Reading Elements) → elements_in d x ≡ p → a ≡ step_by (listed_answer (accepted 0) 0 (tags_in l) d p)
      → ListedLeaves (accepted 0) 0 (tags_in l) d p xs ys → ListedRead l d x n xs ys
  unfolding listed_answer ListedLeaves by_tags
  listed_by n h (fault f) e q o = absurd (fault-number d x f lies e (step-accepted a f q n h).0)
  listed_by n h (read es k) e q o =
      let s = step-accepted a (listed_answer (accepted 0) 0 (tags_in l) d (read es k)) q n h in
      let r = listed-is (tags_in l) d es k in
      let f = both-accepted (tags_answer 0 (tags_in l) es) _ (ap (λ (z : Answer). z.number) (sym r) ∙ s.0) in
      record {
        elements = es;
        next = k;
        reads = e;
        found = f.first;
        long = s.1 ∙ ap (λ (z : Answer). z.length) (r ∙ or-else-second (tags_answer 0 (tags_in l) es) _ f.first);
        output = o s.0;
      }

  listed-read : (n : ℕ) → a ≡ Ok n → ListedRead l d x n xs ys
  listed-read n h = listed_by n h (elements_in d x) refl w.answers w.output

  -- a refusal
  refused-by : (q p : Reading Elements) → ((listed_answer (accepted 0) 0 (tags_in l) d p).number ≡ 0 → ⊥)
      → listed_answer (accepted 0) 0 (tags_in l) d p ≡ walk_answer (tags_in l) d p q
  unfolding listed_answer by_tags
  refused-by q (fault f) h = sym (walk-fault (tags_in l) d f q h)
  refused-by q (read es n) h =
      let t = tags_answer 0 (tags_in l) es in
      let r = listed-is (tags_in l) d es n in
      let k : t.number ≡ 0 → ⊥ = λ z. h (ap (λ (b : Answer). b.number) (r ∙ or-else-second t _ z)) in
      r ∙ or-else-first t _ k ∙ sym (walk-tags (tags_in l) d es n q k)

  pub all-refused : (item : Option Extent) (f : Answer) → a ≡ Err f → StreamWalk l d x item (Err f) xs ys
  all-refused item f h =
      let s = step-is a (listed_answer (accepted 0) 0 (tags_in l) d (elements_in d x)) w.answers f h in
      let r = refused-by (item_reading d item) (elements_in d x) s.1 in
      record {
        answers = step-refuses f _ (s.0 ∙ r) (λ z. s.1 (ap (λ (b : Answer). b.number) r ∙ z));
        output = λ n z. absurd (true≢false (cc));
        short = tt;
      }

  module _ (n : ℕ) (h : a ≡ Ok n) where
    follows-short : n ≤ length d
    follows-short = IfOk-at_ok (λ m. m ≤ length d) h w.short

    -- what follows, by what the signature item reads: r is the step, and zs what is left
    module _ (item : Option Extent) (r : Result ℕ Answer) (zs : List ℕ) where
      abbrev g : ListedRead l d x n xs ys
      g = listed-read n h

      abbrev s : List ℕ
      s = listed_stream (tags_in l) g.elements d

      abbrev after : List ℕ
      after = own_stream (tree_of (item_reading d item)) d

      stream-is : stream_in l d x item ≡ s ++ after
      unfolding stream_in signed_stream own_stream
      stream-is = ap (λ (p : Reading Elements). signed_stream (tags_in l) (tree_of p) (tree_of (item_reading d item)) d) g.reads

      follows : r ≡ step_by (answer_of (item_reading d item) or_else accepted (n + length after)) → ((m : ℕ) → r ≡ Ok m → zs ≡ sets ys n after)
          → IfOk r (λ m. m ≤ n + length d) → StreamWalk l d x item r xs zs
      follows q o k = record {
        answers =
            q ∙ ap (λ (i : ℕ). step_by (answer_of (item_reading d item) or_else accepted (i + length after))) g.long
            ∙ ap step_by (sym (ap (λ (p : Reading Elements). walk_answer (tags_in l) d p (item_reading d item)) g.reads ∙ walk-on (tags_in l) d g.elements g.next (item_reading d item) g.found));
        output = λ m z.
            o m z ∙ ap (λ (i : ℕ). sets ys i after) g.long ∙ ap (λ (v : List ℕ). sets v (length s) after) g.output
            ∙ sym (ap (sets xs 0) stream-is ∙ sets-append xs 0 s after ∙ ap (λ (i : ℕ). sets (sets xs 0 s) i after) (zero-add (length s)));
        short = IfOk-weaker r (λ m. m ≤ n + length d) (λ m. m ≤ length d + length d) (λ m z. omega (arith, follows-short, z)) k;
      }

    -- list mode: nothing follows
    pub listed-alone : (item : Option Extent) → item ≡ None → StreamWalk l d x item (Ok n) xs ys
    unfolding own_stream own elements_stream
    listed-alone item e =
        let z : n + 0 ≡ n = omega arith in
        rw e (follows None (Ok n) ys (step-behind (accepted 0) _ (Ok n) refl (step-passes n (accepted (n + 0)) (ap accepted z))) (λ m q. refl) (omega arith))

    pub all-written : (item : Option Extent) (inside : Extent) → item ≡ Some inside → (r : Result ℕ Answer) (zs : List ℕ) → FollowingWalk d inside n r ys zs → StreamWalk l d x item r xs zs
    all-written item inside e r zs o = rw e (follows (Some inside) r zs o.answers o.output o.short)
