-- What fills an extent lies in it; and where the parts of a tree end: after where they start, inside the data set, an even number of bytes
-- on. Assumes nothing.
use Rattle.std.proofs.Common.{if◌then◌else◌}
use Prim.Native.Nat.{ℕ, ◌+◌, ◌-◌, ◌%◌, ◌≤◌, ◌<◌}
use mathlib.Core.Path.{◌≡◌, refl}
use mathlib.Core.Bool.{Bool, true, false, true≢false, false≢true}
use mathlib.Core.List.{List, [], ◌∷◌}
use native.Mathlib.Omega.{arith}
use lib.ListN.{length}
use Rattle.dataset.specs.Vr.{form_of, OB, SQ}
use Rattle.dataset.specs.Reading.{deeper}
use Rattle.dataset.specs.Tree.{Span, Element, value, sequence, fragments, Elements, none, and, Items, last, item, tag_of, span_of}
use Rattle.dataset.specs.Order.{Sized, ValueAt, NestAt, HeaderExtent, EndsIn, FragmentsFill, ElementFills, ElementsFill, ItemsFill}
use Rattle.dataset.proofs.Laws.Header.HeaderFacts.{value-start}
use Rattle.dataset.proofs.Laws.Reading.Lies.{Ends, Closes, FragmentsLie, ElementLies, ElementsLie, ItemsLie}
use Rattle.dataset.specs.declared.vr.Form.{Form}
use Rattle.dataset.specs.declared.vr.Form.TheVariants.{Short, Long, Neither}

-- ---- what fills an extent from `at` to `stop`, inside the data set

pub record ElementIn (d : List ℕ) (left stop least at : ℕ) (e : Element) (n : ℕ) : Type 0 where
  pub tree : ElementLies e d left at n
  pub ascends : least ≤ tag_of e
  pub past : at < n
  pub inside : n ≤ stop

pub record ElementsIn (d : List ℕ) (delimited : Bool) (left stop least at : ℕ) (es : Elements) (n : ℕ) : Type 0 where
  pub tree : ElementsLie es d left least at n
  pub order : at ≤ n
  pub inside : n ≤ stop
  pub filled : delimited ≡ false → n ≡ stop

pub record ItemsIn (d : List ℕ) (delimited : Bool) (left stop at : ℕ) (is : Items) (n : ℕ) : Type 0 where
  pub tree : ItemsLie is d left at n
  pub order : at ≤ n
  pub inside : n ≤ stop
  pub closed : delimited ≡ true → at + 8 ≤ n

pub record PartsIn (d : List ℕ) (stop at : ℕ) (ss : List Span) (n : ℕ) : Type 0 where
  pub tree : FragmentsLie ss d at n
  pub inside : n ≤ stop
  pub closed : at + 8 ≤ n

record EndIn (d : List ℕ) (delimited : Bool) (stop at n : ℕ) : Type 0 where
  pub tree : Ends d at n
  pub inside : n ≤ stop
  pub filled : delimited ≡ false → n ≡ stop
  pub closed : delimited ≡ true → at + 8 ≤ n

end-in : (d : List ℕ) (delimiter : ℕ) (delimited : Bool) (stop at n : ℕ) → stop ≤ length d → EndsIn d delimiter delimited stop at n → EndIn d delimited stop at n
end-in d delimiter true stop at n l h =
    let e = h.2 in
    let i = h.3 in
    record {
      tree = record { order = omega arith; inside = omega arith; even = omega arith };
      inside = i;
      filled = λ x. absurd (true≢false x);
      closed = λ x. omega arith;
    }
end-in d delimiter false stop at n l h =
    let s = h.0 in
    let e = h.1 in
    record {
      tree = record { order = omega arith; inside = omega arith; even = omega arith };
      inside = omega arith;
      filled = λ x. omega arith;
      closed = λ x. absurd (false≢true x);
    }

pub extent-inside : (n stop start end : ℕ) (delimited : Bool) → HeaderExtent n stop start end delimited → end ≤ stop
extent-inside n stop start end true h = let e = h.1 in omega arith
extent-inside n stop start end false h = h.2

value_in : (d : List ℕ) (stop at tag vr start end : ℕ) → stop ≤ length d → ValueAt d stop at tag vr start end → ValueAt d (length d) at tag vr start end
value_in d stop at tag vr start end l v = record {
  tagged = v.tagged;
  letters = v.letters;
  form = v.form;
  plain = v.plain;
  order = v.order;
  inside = omega (arith, v.inside);
  even = v.even;
}

nest-in : (d : List ℕ) (stop at tag vr start : ℕ) → stop ≤ length d → NestAt d stop at tag vr start → NestAt d (length d) at tag vr start
nest-in d stop at tag vr start l v =
    record { tagged = v.tagged; letters = v.letters; reserved = v.reserved; starts = v.starts; inside = omega (arith, v.inside) }

span-closes : (delimited : Bool) (s : Span) (n : ℕ) → s.end ≡ (if delimited then n - 8 else n) → s.start ≤ n → (delimited ≡ true → s.start + 8 ≤ n) → Closes s n
span-closes true s n e h f = let k = f refl in record { order = omega arith; inside = omega arith }
span-closes false s n e h f = record { order = omega arith; inside = omega arith }

pub parts_in : (ss : List Span) (d : List ℕ) (stop at n : ℕ) → stop ≤ length d → FragmentsFill ss d stop at n → PartsIn d stop at ss n
unfolding FragmentsFill FragmentsLie
parts_in [] d stop at n l r =
    let k = end-in d _ true stop at n l r in record { tree = k.tree; inside = k.inside; closed = k.closed refl }
parts_in (s ∷ ss) d stop at n l r =
    let j = parts_in ss d stop s.end n l r.3 in
    let v = r.2.0 in
    let e = r.2.1 in
    record {
      tree = (r.0, r.1, omega arith, omega arith, j.tree);
      inside = j.inside;
      closed = omega (arith, r.1, e, j.closed);
    }

mutual
  unfolding ElementFills ElementLies

  pub element-in : (e : Element) (d : List ℕ) (left stop least at n : ℕ) → stop ≤ length d → least ≤ tag_of e → ElementFills e d left stop at n
      → ElementIn d left stop least at e n
  element-in (value p tag vr s) d left stop least at n l o r =
      let v = r.1 in
      record {
        tree = (r.0, value_in d stop at tag vr s.start s.end l v, r.2);
        ascends = o;
        past = omega (arith, value-start d stop at tag vr s.start s.end v, v.order, r.2);
        inside = omega (arith, v.inside, r.2);
      }
  element-in (sequence p tag s is) d left stop least at n l o r =
      let v = r.3 in
      let x = extent-inside _ stop s.start r.1 r.0 r.5 in
      let j = items-in is d r.0 left r.1 s.start n (omega (arith, l, x)) r.6 in
      record {
        tree = (r.2, nest-in d stop at tag SQ s.start l v, span-closes r.0 s n r.7 j.order j.closed, r.4, j.tree);
        ascends = o;
        past = omega (arith, v.starts, j.order);
        inside = omega (arith, j.inside, x);
      }
  element-in (fragments p tag s ss) d left stop least at n l o r =
      let v = r.1 in
      let j = parts_in ss d stop s.start n l r.3 in
      record {
        tree = (r.0, nest-in d stop at tag OB s.start l v, span-closes true s n r.4 (omega (arith, j.closed)) (λ x. j.closed), j.tree);
        ascends = o;
        past = omega (arith, v.starts, j.closed);
        inside = j.inside;
      }

  pub elements-in : (es : Elements) (d : List ℕ) (delimited : Bool) (left stop least at n : ℕ) → stop ≤ length d
      → ElementsFill es d delimited left stop at least n → ElementsIn d delimited left stop least at es n
  elements-in none d delimited left stop least at n l r =
      let k = end-in d _ delimited stop at n l r in record { tree = k.tree; order = k.tree.order; inside = k.inside; filled = k.filled }
  elements-in (and e es) d delimited left stop least at n l r =
      let h = element-in e d left stop least at r.0 l r.1 r.2 in
      let j = elements-in es d delimited left stop (tag_of e + 1) r.0 n l r.3 in
      record { tree = (r.0, r.1, h.tree, j.tree); order = omega (arith, h.past, j.order); inside = j.inside; filled = j.filled }

  pub items-in : (is : Items) (d : List ℕ) (delimited : Bool) (left stop at n : ℕ) → stop ≤ length d → ItemsFill is d delimited left stop at n
      → ItemsIn d delimited left stop at is n
  items-in last d delimited left stop at n l r =
      let k = end-in d _ delimited stop at n l r in record { tree = k.tree; order = k.tree.order; inside = k.inside; closed = k.closed }
  items-in (item p es is) d delimited left stop at n l r =
      let x = extent-inside _ stop (at + 8) r.1 r.0 r.5 in
      let k = elements-in es d r.0 (deeper left) r.1 0 (at + 8) r.2 (omega (arith, l, x)) r.6 in
      let j = items-in is d delimited left stop r.2 n l r.7 in
      record {
        tree = (r.2, r.3, r.4, k.tree, j.tree);
        order = omega (arith, k.order, j.order);
        inside = j.inside;
        closed = λ y. omega (arith, k.order, j.order);
      }

-- ---- where the parts end

sized-even : (f : Form) (d : List ℕ) (at start n : ℕ) → Sized f d at start n → (start - at) % 2 ≡ 0
sized-even Short d at start n s = omega (arith, s.0)
sized-even Long d at start n s = omega (arith, s.0)
sized-even Neither d at start n s = absurd s

pub parts-ends : (ss : List Span) (d : List ℕ) (at next : ℕ) → FragmentsLie ss d at next → Ends d at next
unfolding FragmentsLie
parts-ends [] d at next r = r
parts-ends (s ∷ ss) d at next r =
    let k = parts-ends ss d s.end next r.4 in
    record { order = omega (arith, k.order, r.1, r.2); inside = k.inside; even = omega (arith, k.order, k.even, r.1, r.2, r.3) }

-- an element takes at least its header
pub record ElementEnds (d : List ℕ) (at next : ℕ) : Type 0 where
  pub header : at + 8 ≤ next
  pub inside : next ≤ length d
  pub even : (next - at) % 2 ≡ 0

nest-ends : (d : List ℕ) (at tag vr start next : ℕ) → NestAt d (length d) at tag vr start → Ends d start next → ElementEnds d at next
nest-ends d at tag vr start next v k = record {
  header = omega (arith, v.starts, k.order);
  inside = k.inside;
  even = omega (arith, v.starts, k.order, k.even);
}

mutual
  unfolding ElementLies

  pub element-ends : (e : Element) (d : List ℕ) (left at next : ℕ) → ElementLies e d left at next → ElementEnds d at next
  element-ends (value p tag vr span) d left at next r =
      let v = r.1 in
      let s = sized-even (form_of vr) d at span.start (span.end - span.start) v.form in
      let z = value-start d (length d) at tag vr span.start span.end v in
      record {
        header = omega (arith, z, v.order, r.2);
        inside = omega (arith, v.inside, r.2);
        even = omega (arith, s, z, v.even, v.order, r.2);
      }
  element-ends (sequence p tag span items) d left at next r =
      nest-ends d at tag _ span.start next r.1 (items-end items d left span.start next r.4)
  element-ends (fragments p tag span parts) d left at next r =
      nest-ends d at tag _ span.start next r.1 (parts-ends parts d span.start next r.3)

  pub elements-end : (es : Elements) (d : List ℕ) (left least at next : ℕ) → ElementsLie es d left least at next → Ends d at next
  elements-end none d left least at next r = r
  elements-end (and e es) d left least at next r =
      let h = element-ends e d left at r.0 r.2 in
      let k = elements-end es d left (tag_of e + 1) r.0 next r.3 in
      record {
        order = omega (arith, h.header, k.order);
        inside = k.inside;
        even = omega (arith, h.header, h.even, k.order, k.even);
      }

  pub items-end : (is : Items) (d : List ℕ) (left at next : ℕ) → ItemsLie is d left at next → Ends d at next
  items-end last d left at next r = r
  items-end (item p es is) d left at next r =
      let h = elements-end es d (deeper left) 0 (at + 8) r.0 r.3 in
      let k = items-end is d left r.0 next r.4 in
      record {
        order = omega (arith, h.order, k.order);
        inside = k.inside;
        even = omega (arith, h.order, h.even, k.order, k.even);
      }

-- a value lies in the data set
pub record SpanInside (d : List ℕ) (s : Span) : Type 0 where
  pub order : s.start ≤ s.end
  pub inside : s.end ≤ length d

pub span-inside : (e : Element) (d : List ℕ) (left at next : ℕ) → ElementLies e d left at next → SpanInside d (span_of e)
unfolding ElementLies
span-inside (value p tag vr span) d left at next r = record { order = r.1.order; inside = r.1.inside }
span-inside (sequence p tag span items) d left at next r =
    let k = items-end items d left span.start next r.4 in
    record { order = r.2.order; inside = omega (arith, r.2.inside, k.inside) }
span-inside (fragments p tag span parts) d left at next r =
    let k = parts-ends parts d span.start next r.3 in
    record { order = r.2.order; inside = omega (arith, r.2.inside, k.inside) }
