-- What one header guarantees: it lies in its extent, what it says stands in the data set, and a refusal is numbered 2 to 8. Assumes
-- nothing.
use Prim.Native.Nat.{ℕ, ◌+◌, ◌-◌, ◌%◌, ◌≤◌, ◌<◌}
use mathlib.Core.Path.{◌≡◌, refl, sym, ap, ◌∙◌}
use mathlib.Core.Logic.{◌≢◌}
use mathlib.Core.Bool.{Bool, true, false, not, ◌&&◌, true≢false, false≢true}
use mathlib.Core.List.{List}
use native.Mathlib.Omega.{arith}
use borrow.Author.Tests.{ltb-false, eqb-true, eqb-false, not-true, not-false}
use lib.ListN.{length}
use lib.Dec.{ltb, eqb}
use Rattle.answer.specs.declared.Answer.{Answer}
use Rattle.dataset.specs.Bytes.{num16, num32, tag_at, vr_at}
use Rattle.dataset.specs.Vr.{form_of, one_of, OB, SQ}
use Rattle.dataset.specs.Header.{ElementHeader, ItemHeader, undefined, outside, bad_length, too_deep, undefined_by, defined_by, value_by, long_at, by_form, vr_on_at, item_by, ends_at, closed_by, element_at, item_at}
use Rattle.dataset.specs.Tags.{item_tag, item_delimitation_item, sequence_delimitation_item}
use Rattle.dataset.specs.Order.{Tagged, Sized, ValueAt, NestAt, HeaderExtent, EndsIn}
use Rattle.dataset.specs.declared.vr.Form.{Form}
use Rattle.dataset.specs.declared.vr.Form.TheVariants.{Short, Long, Neither}
use Rattle.slices.proofs.Laws.Bools.{choose, and_right, both, neither}

-- a refusal that a header at `at` gives
abbrev pub RefusedAt : (at : ℕ) → Answer → Type 0
RefusedAt at a = (2 ≤ a.number) × (a.number ≤ 8) × (a.position ≡ at) × (a.length ≡ 0)

-- the end of an extent: filled exactly, or ended by a delimiter
pub record EndAt (d : List ℕ) (delimiter : ℕ) (delimited : Bool) (stop at next : ℕ) : Type 0 where
  pub order : at ≤ next
  pub inside : next ≤ stop
  pub filled : delimited ≡ false → (next ≡ at) × (next ≡ stop)
  pub closed : delimited ≡ true → next ≡ at + 8
  pub ends : EndsIn d delimiter delimited stop at next

-- an item or a fragment
pub record ItemSpan (d : List ℕ) (stop at start end : ℕ) (delimited : Bool) : Type 0 where
  pub tag : tag_at d at ≡ item_tag
  pub starts : start ≡ at + 8
  pub order : start ≤ end
  pub inside : end ≤ stop
  pub even : delimited ≡ false → (end - start) % 2 ≡ 0
  pub extent : HeaderExtent (num32 d (at + 4)) stop start end delimited

abbrev pub ElementFacts : List ℕ → (delimited : Bool) (left stop at least : ℕ) → ElementHeader → Type 0
ElementFacts d delimited left stop at least (ElementHeader.refused a) = RefusedAt at a
ElementFacts d delimited left stop at least (ElementHeader.ends next) = EndAt d item_delimitation_item delimited stop at next
ElementFacts d delimited left stop at least (ElementHeader.value tag vr start end) = (least ≤ tag) × ValueAt d stop at tag vr start end
ElementFacts d delimited left stop at least (ElementHeader.sequence tag start end inner) =
    (least ≤ tag) × NestAt d stop at tag SQ start × (start ≤ end) × (end ≤ stop) × (0 < left) × (stop ≤ length d)
    × HeaderExtent (num32 d (at + 8)) stop start end inner
ElementFacts d delimited left stop at least (ElementHeader.fragments tag start) = (least ≤ tag) × NestAt d stop at tag OB start × (stop ≤ length d)
    × (num32 d (at + 8) ≡ undefined)

abbrev pub ItemFacts : List ℕ → (in_sequence delimited : Bool) (stop at : ℕ) → ItemHeader → Type 0
ItemFacts d in_sequence delimited stop at (ItemHeader.refused a) = RefusedAt at a
ItemFacts d in_sequence delimited stop at (ItemHeader.ends next) = EndAt d sequence_delimitation_item delimited stop at next
ItemFacts d in_sequence delimited stop at (ItemHeader.item start end inner) = ItemSpan d stop at start end inner × (in_sequence ≡ false → inner ≡ false)

-- ---- the checks of a length and a value
sized-long : (f : Form) (d : List ℕ) (at start n : ℕ) → f ≡ Long → Sized f d at start n → Sized Long d at start n
sized-long Short d at start n e s = absurd (true≢false (cc))
sized-long Long d at start n e s = s
sized-long Neither d at start n e s = absurd s

sized-start : (f : Form) (d : List ℕ) (at start n : ℕ) → Sized f d at start n → at + 8 ≤ start
sized-start Short d at start n s = let z = s.0 in omega arith
sized-start Long d at start n s = let z = s.0 in omega arith
sized-start Neither d at start n s = absurd s

pub value-start : (d : List ℕ) (stop at tag vr start end : ℕ) → ValueAt d stop at tag vr start end → at + 8 ≤ start
value-start d stop at tag vr start end v = sized-start (form_of vr) d at start (end - start) v.form

pub sq-long : form_of SQ ≡ Long
unfolding form_of one_of
sq-long = refl

pub ob-long : form_of OB ≡ Long
unfolding form_of one_of
ob-long = refl

undefined-ob : (vr len : ℕ) → bad_length vr len ≡ false → eqb len undefined ≡ true → eqb vr SQ ≡ false → eqb vr OB ≡ true
unfolding bad_length
undefined-ob vr len b u s = not-false (eqb vr OB) (rw (u, s) at b)

not-one : (n : ℕ) → n % 2 ≢ 1 → n % 2 ≡ 0
not-one n h = omega arith

defined-even : (vr len : ℕ) → bad_length vr len ≡ false → eqb len undefined ≡ false → len % 2 ≡ 0
unfolding bad_length
defined-even vr len b u = let z : len % 2 ≢ 1 = eqb-false (len % 2) 1 (rw u at b) in not-one len z

level : (vr left : ℕ) → too_deep vr left ≡ false → eqb vr SQ ≡ true → 0 < left
unfolding too_deep
level vr left e q = let z = eqb-false left 0 (and_right (eqb vr SQ) (eqb left 0) e q) in omega (arith, z)

module _ (d : List ℕ) (delimited : Bool) (left stop at least : ℕ) (within : stop ≤ length d) where
  P : ElementHeader → Type 0
  P = ElementFacts d delimited left stop at least

  module _ (tag vr start : ℕ) (t : Tagged d at tag) (o : least ≤ tag) (v : vr ≡ vr_at d at) (h : start ≤ stop) where
    nest : (k n : ℕ) → vr ≡ k → form_of k ≡ Long → Sized (form_of vr) d at start n → NestAt d stop at tag k start
    nest k n e l s =
        let z = sized-long (form_of vr) d at start n (ap form_of e ∙ l) s in
        record { tagged = t; letters = sym v ∙ e; reserved = z.1; starts = z.0; inside = h }

    counted : (k n : ℕ) → vr ≡ k → form_of k ≡ Long → Sized (form_of vr) d at start n → num32 d (at + 8) ≡ n
    counted k n e l s = (sized-long (form_of vr) d at start n (ap form_of e ∙ l) s).2

    value-facts : (len : ℕ) → Sized (form_of vr) d at start len → P (value_by tag vr left stop at start len)
    unfolding value_by undefined_by defined_by P
    value-facts len s =
        choose P (bad_length vr len) (λ e. omega arith) λ e1.
        choose P (too_deep vr left) (λ e. omega arith) λ e2.
        choose P (eqb len undefined)
        (λ e. choose P (eqb vr SQ)
        (λ q. let x = eqb-true vr SQ q in
        (o, nest SQ len x sq-long s, h, omega arith, level vr left e2 q, within, (counted SQ len x sq-long s ∙ eqb-true len undefined e, refl)))
        λ q. let x = eqb-true vr OB (undefined-ob vr len e1 e q) in
        (o, nest OB len x ob-long s, within, counted OB len x ob-long s ∙ eqb-true len undefined e)) λ e3.
        choose P (ltb (stop - start) len) (λ e. omega arith) λ e4.
        let fit = ltb-false (stop - start) len e4 in
        choose P (eqb vr SQ)
        (λ q. let x = eqb-true vr SQ q in (
          o,
          nest SQ len x sq-long s,
          omega arith,
          omega arith,
          level vr left e2 q,
          within,
          rw (counted SQ len x sq-long s) (defined-even vr len e1 e3, refl, omega arith),
        ))
        λ q. (
          o,
          let n : start + len - start ≡ len = omega arith in record {
            tagged = t;
            letters = v;
            form = rw n s;
            plain = eqb-false vr SQ q;
            order = omega arith;
            inside = omega arith;
            even = rw n (defined-even vr len e1 e3);
          },
        )

  long-facts : (tag vr : ℕ) → Tagged d at tag → least ≤ tag → vr ≡ vr_at d at → form_of vr ≡ Long → P (long_at d tag vr left stop at)
  unfolding long_at P
  long-facts tag vr t o v f =
      choose P (ltb (stop - at) 12) (λ e. omega arith) λ e1.
      let m = ltb-false (stop - at) 12 e1 in
      choose P (not (eqb (num16 d (at + 6)) 0)) (λ e. omega arith) λ e2.
      let z = eqb-true (num16 d (at + 6)) 0 (not-false (eqb (num16 d (at + 6)) 0) e2) in
      value-facts tag vr (at + 12) t o v (omega arith) (num32 d (at + 8)) (rw f (refl, z, refl))

  form-facts : (f : Form) (tag vr : ℕ) → form_of vr ≡ f → Tagged d at tag → least ≤ tag → vr ≡ vr_at d at → 8 ≤ stop - at → P (by_form f d tag vr left stop at)
  unfolding by_form P
  form-facts Short tag vr f t o v h = value-facts tag vr (at + 8) t o v (omega arith) (num16 d (at + 6)) (rw f (refl, refl))
  form-facts Long tag vr f t o v h = long-facts tag vr t o v f
  form-facts Neither tag vr f t o v h = omega arith

ends-facts : (d : List ℕ) (delimiter : ℕ) (delimited : Bool) (stop at : ℕ) → ends_at delimited stop at ≡ true → EndAt d delimiter delimited stop at at
unfolding ends_at
ends-facts d delimiter delimited stop at e =
    let z = both (not delimited) (eqb at stop) e in
    let q = eqb-true at stop z.1 in
    record {
      order = omega arith;
      inside = omega arith;
      filled = λ x. (refl, q);
      closed = λ x. absurd (true≢false (sym x ∙ not-true delimited z.0));
      ends = rw (not-true delimited z.0) (q, refl);
    }

closed_facts : (d : List ℕ) (delimiter : ℕ) (delimited : Bool) (stop at : ℕ) → 8 ≤ stop - at → closed_by d delimiter delimited at ≡ true → EndAt d delimiter delimited stop at (at + 8)
unfolding closed_by
closed_facts d delimiter delimited stop at h e =
    let z = both delimited (eqb (tag_at d at) delimiter && eqb (num32 d (at + 4)) 0) e in
    let y = both (eqb (tag_at d at) delimiter) (eqb (num32 d (at + 4)) 0) z.1 in
    record {
      order = omega arith;
      inside = omega arith;
      filled = λ x. absurd (false≢true (sym x ∙ z.0));
      closed = λ x. refl;
      ends = rw z.0 (eqb-true (tag_at d at) delimiter y.0, eqb-true (num32 d (at + 4)) 0 y.1, refl, omega arith);
    }

pub inside_of : (d : List ℕ) (stop at : ℕ) → outside d stop at ≡ false → (stop ≤ length d) × (at ≤ stop)
inside_of d stop at e =
    let z = neither (ltb (length d) stop) (ltb stop at) e in
    (ltb-false (length d) stop z.0, ltb-false stop at z.1)

pub element-facts : (d : List ℕ) (delimited : Bool) (left stop at least : ℕ)
    → ElementFacts d delimited left stop at least (element_at d delimited left stop at least)
unfolding element_at vr_on_at P
element-facts d delimited left stop at least =
    let P = ElementFacts d delimited left stop at least in
    choose P (outside d stop at) (λ e. omega arith) λ e0.
    let k = inside_of d stop at e0 in
    choose P (ends_at delimited stop at) (λ e. ends-facts d item_delimitation_item delimited stop at e) λ e1.
    choose P (ltb (stop - at) 8) (λ e. omega arith) λ e2.
    let m = ltb-false (stop - at) 8 e2 in
    choose P (closed_by d item_delimitation_item delimited at) (λ e. closed_facts d item_delimitation_item delimited stop at m e) λ e3.
    choose P (eqb (num16 d at) 0xFFFE) (λ e. omega arith) λ e4.
    choose P (ltb (tag_at d at) least) (λ e. omega arith) λ e5.
    form-facts d delimited left stop at least k.0 (form_of (vr_at d at)) (tag_at d at) (vr_at d at) refl
    record { stands = refl; group = eqb-false (num16 d at) 0xFFFE e4 } (ltb-false (tag_at d at) least e5) refl m

-- ---- an item or a fragment
item-by-facts : (d : List ℕ) (in_sequence delimited : Bool) (stop at len : ℕ) → num32 d (at + 4) ≡ len → tag_at d at ≡ item_tag → at + 8 ≤ stop
    → ItemFacts d in_sequence delimited stop at (item_by in_sequence stop at (at + 8) len)
unfolding item_by
item-by-facts d in_sequence delimited stop at len c t h =
    let P = ItemFacts d in_sequence delimited stop at in
    choose P (eqb len undefined && in_sequence)
    (λ e. let u = both (eqb len undefined) in_sequence e in (
      record { tag = t; starts = refl; order = h; inside = omega arith; even = λ x. absurd (true≢false x); extent = (c ∙ eqb-true len undefined u.0, refl) },
      λ x. absurd (true≢false (sym u.1 ∙ x)),
    )) λ e1.
    choose P (eqb (len % 2) 1) (λ e. omega arith) λ e2.
    choose P (ltb (stop - (at + 8)) len) (λ e. omega arith) λ e3.
    let fit = ltb-false (stop - (at + 8)) len e3 in
    let n : at + 8 + len - (at + 8) ≡ len = omega arith in
    let v = not-one len (eqb-false (len % 2) 1 e2) in (
      record { tag = t; starts = refl; order = omega arith; inside = omega arith; even = λ x. rw n v; extent = rw c (v, refl, omega arith) },
      λ x. refl,
    )

pub item-facts : (d : List ℕ) (in_sequence delimited : Bool) (stop at : ℕ) → ItemFacts d in_sequence delimited stop at (item_at d in_sequence delimited stop at)
unfolding item_at
item-facts d in_sequence delimited stop at =
    let P = ItemFacts d in_sequence delimited stop at in
    choose P (outside d stop at) (λ e. omega arith) λ e0.
    let k = inside_of d stop at e0 in
    choose P (ends_at delimited stop at) (λ e. ends-facts d sequence_delimitation_item delimited stop at e) λ e1.
    choose P (ltb (stop - at) 8) (λ e. omega arith) λ e2.
    let m = ltb-false (stop - at) 8 e2 in
    choose P (closed_by d sequence_delimitation_item delimited at) (λ e. closed_facts d sequence_delimitation_item delimited stop at m e) λ e3.
    choose P (not (eqb (tag_at d at) item_tag)) (λ e. omega arith) λ e4.
    item-by-facts d in_sequence delimited stop at _ refl (eqb-true (tag_at d at) item_tag (not-false (eqb (tag_at d at) item_tag) e4)) (omega arith)
