-- What a header is answered where something fills its extent: the chains of checks, followed from what stands there (specs/Order.antt).
-- Assumes nothing.
use Rattle.std.proofs.Common.{if◌then◌else◌}
use Prim.Native.Nat.{ℕ, ◌+◌, ◌-◌, ◌%◌, ◌≤◌, ◌<◌}
use mathlib.Core.Path.{◌≡◌, refl, ap}
use mathlib.Core.Logic.{◌≢◌}
use mathlib.Core.Bool.{Bool, true, false, not, ◌&&◌}
use mathlib.Core.List.{List}
use native.Mathlib.Omega.{arith}
use borrow.Author.Tests.{le-ltb, eq-eqb, ne_eqb}
use lib.ListN.{length}
use lib.Dec.{ltb, eqb}
use Rattle.dataset.specs.Bytes.{num16, num32, tag_at}
use Rattle.slices.specs.Lists.{OfBytes}
use Rattle.dataset.specs.Vr.{form_of, OB, SQ}
use Rattle.dataset.specs.Header.{fault_at, ElementHeader, ItemHeader, undefined, outside, ends_at, closed_by, bad_length, too_deep, undefined_by, defined_by, value_by, long_at, by_form, vr_on_at, element_at, item_by, item_at}
use Rattle.dataset.specs.Tags.{item_tag, item_delimitation_item, sequence_delimitation_item}
use Rattle.dataset.specs.Order.{Tagged, Sized, ValueAt, NestAt, HeaderExtent, EndsIn}
use Rattle.dataset.specs.declared.vr.Form.{Form}
use Rattle.dataset.specs.declared.vr.Form.TheVariants.{Short, Long, Neither}
use Rattle.dataset.proofs.Laws.Header.HeaderFacts.{value-start, sq-long, ob-long}
use Rattle.dataset.proofs.Laws.Header.Checks.{took, skip, if-true, if-false, not_f, and-t, and-f, or-f}

-- ---- the tests at a header that stands in its extent
second-false : (a b : Bool) → b ≡ false → (a && b) ≡ false
second-false true b e = e
second-false false b e = refl

module _ (d : List ℕ) (stop at : ℕ) (within : stop ≤ length d) where
  lies : at ≤ stop → outside d stop at ≡ false
  lies h = or-f (ltb (length d) stop) (ltb stop at) (le-ltb (length d) stop within) (le-ltb stop at h)

  room : at + 8 ≤ stop → ltb (stop - at) 8 ≡ false
  room h = le-ltb (stop - at) 8 (omega arith)

  not-ended : (delimited : Bool) → at + 8 ≤ stop → ends_at delimited stop at ≡ false
  unfolding ends_at
  not-ended delimited h = second-false (not delimited) (eqb at stop) (ne_eqb at stop λ e. omega arith)

not-closed : (d : List ℕ) (delimiter : ℕ) (delimited : Bool) (at : ℕ) → tag_at d at ≢ delimiter → closed_by d delimiter delimited at ≡ false
unfolding closed_by
not-closed d delimiter delimited at h =
    second-false delimited _ (and-f (eqb (tag_at d at) delimiter) (eqb (num32 d (at + 4)) 0) (ne_eqb (tag_at d at) delimiter h))

-- a tag that is not of group FFFE is no item delimiter, in a list of bytes
no-delimiter : (d : List ℕ) (at : ℕ) → OfBytes d → num16 d at ≢ 0xFFFE → tag_at d at ≢ item_delimitation_item
unfolding tag_at num16
no-delimiter d at b g e = g (omega (arith, b (at + 2), b (at + 2 + 1), e))

-- ---- the first four tests, which an element's header and an item's share
-- `bad` is the refusal with 2, `rest` what the tests behind them answer
abbrev first-tests : {A : Type 0} (bad : A) (end : ℕ → A) (rest : A) → List ℕ → (delimiter : ℕ) (delimited : Bool) (stop at : ℕ) → A
first-tests bad end rest d delimiter delimited stop at =
    if outside d stop at then bad else
    if ends_at delimited stop at then end at else
    if ltb (stop - at) 8 then bad else
    if closed_by d delimiter delimited at then end (at + 8) else
    rest

module _ {A : Type 0} (bad : A) (end : ℕ → A) (rest : A) (d : List ℕ) (delimiter : ℕ) (stop at : ℕ) (within : stop ≤ length d) where
  ends : (delimited : Bool) (next : ℕ) → EndsIn d delimiter delimited stop at next → end next ≡ first-tests bad end rest d delimiter delimited stop at
  unfolding ends_at closed_by
  ends true next h =
      let n = h.2 in
      let i = h.3 in
      skip (outside d stop at) bad _ (end next) (lies d stop at within (omega arith))
      (skip false (end at) _ (end next) refl
      (skip (ltb (stop - at) 8) bad _ (end next) (room d stop at within (omega arith))
      (took _ (end (at + 8)) rest (end next)
      (and-t (eqb (tag_at d at) delimiter) (eqb (num32 d (at + 4)) 0) (eq-eqb (tag_at d at) delimiter h.0) (eq-eqb (num32 d (at + 4)) 0 h.1))
      (ap end n))))
  ends false next h =
      let s = h.0 in
      skip (outside d stop at) bad _ (end next) (lies d stop at within (omega arith))
      (took (eqb at stop) (end at) _ (end next) (eq-eqb at stop s) (ap end h.1))

  goes_on : (delimited : Bool) (z : A) → at + 8 ≤ stop → tag_at d at ≢ delimiter → z ≡ rest → z ≡ first-tests bad end rest d delimiter delimited stop at
  goes_on delimited z h t e =
      skip (outside d stop at) bad _ z (lies d stop at within (omega arith))
      (skip (ends_at delimited stop at) (end at) _ z (not-ended d stop at within delimited h)
      (skip (ltb (stop - at) 8) bad _ z (room d stop at within h)
      (skip (closed_by d delimiter delimited at) (end (at + 8)) rest z (not-closed d delimiter delimited at t) e)))

-- ---- an element's header
pub element-ends : (d : List ℕ) (delimited : Bool) (left stop at least next : ℕ) → stop ≤ length d → EndsIn d item_delimitation_item delimited stop at next
    → ElementHeader.ends next ≡ element_at d delimited left stop at least
unfolding element_at
element-ends d delimited left stop at least next l h = ends (ElementHeader.refused (fault_at 2 at)) ElementHeader.ends _ d item_delimitation_item stop at l delimited next h

-- the checks up to the VR
tag-passes : (d : List ℕ) (delimited : Bool) (left stop at least tag : ℕ) (z : ElementHeader) → OfBytes d → stop ≤ length d → at + 8 ≤ stop → Tagged d at tag
    → least ≤ tag → z ≡ vr_on_at d tag left stop at → z ≡ element_at d delimited left stop at least
unfolding element_at
tag-passes d delimited left stop at least tag z b l h t o e =
    let s = t.stands in
    goes_on (ElementHeader.refused (fault_at 2 at)) ElementHeader.ends _ d item_delimitation_item stop at l delimited z h (no-delimiter d at b t.group)
    (skip (eqb (num16 d at) 0xFFFE) (ElementHeader.refused (fault_at 3 at)) _ z (ne_eqb (num16 d at) 0xFFFE t.group)
    (skip (ltb (tag_at d at) least) (ElementHeader.refused (fault_at 4 at)) _ z (le-ltb (tag_at d at) least (omega arith)) (rw (← s) e)))

-- the checks from the VR to the length
size-passes : (f : Form) (d : List ℕ) (tag vr left stop at start n : ℕ) (z : ElementHeader) → start ≤ stop → Sized f d at start n
    → z ≡ value_by tag vr left stop at start n → z ≡ by_form f d tag vr left stop at
unfolding by_form long_at
size-passes Short d tag vr left stop at start n z h s e = let a = s.0 in let b = s.1 in rw (← a, b) e
size-passes Long d tag vr left stop at start n z h s e =
    let a = s.0 in
    let b = s.2 in
    skip (ltb (stop - at) 12) (ElementHeader.refused (fault_at 2 at)) _ z (le-ltb (stop - at) 12 (omega arith))
    (skip (not (eqb (num16 d (at + 6)) 0)) (ElementHeader.refused (fault_at 6 at)) _ z (not_f (eqb (num16 d (at + 6)) 0) (eq-eqb (num16 d (at + 6)) 0 s.1)) (rw (← a, b) e))
size-passes Neither d tag vr left stop at start n z h s e = absurd s

-- 2.11g
even-defined : (n : ℕ) → n % 2 ≡ 0 → (eqb n undefined ≡ false) × (eqb (n % 2) 1 ≡ false)
even-defined n h = (ne_eqb n undefined λ e. omega arith, ne_eqb (n % 2) 1 λ e. omega arith)

even-good : (vr n : ℕ) → n % 2 ≡ 0 → bad_length vr n ≡ false
unfolding bad_length
even-good vr n h = if-false (eqb n undefined) _ (eqb (n % 2) 1) false (even-defined n h).0 (even-defined n h).1

-- the checks of a length and a value
module _ (tag left stop at start : ℕ) where
  value-by : (vr n end : ℕ) → vr ≢ SQ → n % 2 ≡ 0 → start + n ≡ end → end ≤ stop → ElementHeader.value tag vr start end ≡ value_by tag vr left stop at start n
  unfolding value_by defined_by too_deep
  value-by vr n end q v w i =
      let z = ElementHeader.value tag vr start end in
      skip (bad_length vr n) (ElementHeader.refused (fault_at 7 at)) _ z (even-good vr n v)
      (skip (eqb vr SQ && eqb left 0) (ElementHeader.refused (fault_at 8 at)) _ z (and-f (eqb vr SQ) (eqb left 0) (ne_eqb vr SQ q))
      (skip (eqb n undefined) _ _ z (even-defined n v).0
      (skip (ltb (stop - start) n) (ElementHeader.refused (fault_at 2 at)) _ z (le-ltb (stop - start) n (omega arith))
      (skip (eqb vr SQ) _ _ z (ne_eqb vr SQ q) (rw w)))))

  sequence-by : (n end : ℕ) (inner : Bool) → 0 < left → start ≤ stop → HeaderExtent n stop start end inner
      → ElementHeader.sequence tag start end inner ≡ value_by tag SQ left stop at start n
  unfolding value_by defined_by undefined_by too_deep bad_length
  sequence-by n end true o i h =
      let z = ElementHeader.sequence tag start end true in
      let e = h.1 in
      skip (bad_length SQ n) (ElementHeader.refused (fault_at 7 at)) _ z (if-true (eqb n undefined) _ _ false (eq-eqb n undefined h.0) refl)
      (skip (eqb left 0) (ElementHeader.refused (fault_at 8 at)) _ z (ne_eqb left 0 λ x. omega arith)
      (took (eqb n undefined) _ _ z (eq-eqb n undefined h.0) (rw e)))
  sequence-by n end false o i h =
      let z = ElementHeader.sequence tag start end false in
      let e = h.1 in
      let u = h.2 in
      skip (bad_length SQ n) (ElementHeader.refused (fault_at 7 at)) _ z (even-good SQ n h.0)
      (skip (eqb left 0) (ElementHeader.refused (fault_at 8 at)) _ z (ne_eqb left 0 λ x. omega arith)
      (skip (eqb n undefined) _ _ z (even-defined n h.0).0
      (skip (ltb (stop - start) n) (ElementHeader.refused (fault_at 2 at)) _ z (le-ltb (stop - start) n (omega arith))
      (rw e))))

  fragments-by : (n : ℕ) → n ≡ undefined → ElementHeader.fragments tag start ≡ value_by tag OB left stop at start n
  unfolding value_by undefined_by too_deep bad_length
  fragments-by n u =
      let z = ElementHeader.fragments tag start in
      skip (bad_length OB n) (ElementHeader.refused (fault_at 7 at)) _ z (if-true (eqb n undefined) _ _ false (eq-eqb n undefined u) refl)
      (took (eqb n undefined) _ _ z (eq-eqb n undefined u) refl)

-- ---- what an element that fills its extent is answered
module _ (d : List ℕ) (b : OfBytes d) (delimited : Bool) (left stop at least tag : ℕ) (l : stop ≤ length d) (o : least ≤ tag) where
  pub value-stands : (vr start end : ℕ) → ValueAt d stop at tag vr start end → ElementHeader.value tag vr start end ≡ element_at d delimited left stop at least
  unfolding vr_on_at
  value-stands vr start end v =
      let n = v.letters in
      let k = value-start d stop at tag vr start end v in
      tag-passes d delimited left stop at least tag (ElementHeader.value tag vr start end) b l (omega (arith, k, v.order, v.inside)) v.tagged o
      (rw (← n)
      (size-passes (form_of vr) d tag vr left stop at start (end - start) (ElementHeader.value tag vr start end) (omega (arith, v.order, v.inside)) v.form
      (value-by tag left stop at start vr (end - start) end v.plain v.even (omega (arith, v.order)) v.inside)))

  nest-passes : (vr start n : ℕ) (z : ElementHeader) → form_of vr ≡ Long → NestAt d stop at tag vr start → num32 d (at + 8) ≡ n
      → z ≡ value_by tag vr left stop at start n → z ≡ element_at d delimited left stop at least
  unfolding vr_on_at
  nest-passes vr start n z f v c e =
      tag-passes d delimited left stop at least tag z b l (omega (arith, v.starts, v.inside)) v.tagged o
      (rw (v.letters, f) (size-passes Long d tag vr left stop at start n z v.inside (v.starts, v.reserved, c) e))

  pub sequence-stands : (start end : ℕ) (inner : Bool) → NestAt d stop at tag SQ start → 0 < left → HeaderExtent (num32 d (at + 8)) stop start end inner
      → ElementHeader.sequence tag start end inner ≡ element_at d delimited left stop at least
  sequence-stands start end inner v k h =
      nest-passes SQ start (num32 d (at + 8)) _ sq-long v refl (sequence-by tag left stop at start (num32 d (at + 8)) end inner k v.inside h)

  pub fragments-stand : (start : ℕ) → NestAt d stop at tag OB start → num32 d (at + 8) ≡ undefined
      → ElementHeader.fragments tag start ≡ element_at d delimited left stop at least
  fragments-stand start v u =
      nest-passes OB start (num32 d (at + 8)) _ ob-long v refl (fragments-by tag left stop at start (num32 d (at + 8)) u)

-- ---- an item's header
pub items-end : (d : List ℕ) (in_sequence delimited : Bool) (stop at next : ℕ) → stop ≤ length d → EndsIn d sequence_delimitation_item delimited stop at next
    → ItemHeader.ends next ≡ item_at d in_sequence delimited stop at
unfolding item_at
items-end d in_sequence delimited stop at next l h = ends (ItemHeader.refused (fault_at 2 at)) ItemHeader.ends _ d sequence_delimitation_item stop at l delimited next h

item_by_lem : (in_sequence : Bool) (n stop at start end : ℕ) (inner : Bool) → (inner ≡ true → in_sequence ≡ true) → start ≤ stop → HeaderExtent n stop start end inner
    → ItemHeader.item start end inner ≡ item_by in_sequence stop at start n
unfolding item_by
item_by_lem in_sequence n stop at start end true q i h =
    let e = h.1 in
    took (eqb n undefined && in_sequence) _ _ _ (and-t (eqb n undefined) in_sequence (eq-eqb n undefined h.0) (q refl)) (rw e)
item_by_lem in_sequence n stop at start end false q i h =
    let z = ItemHeader.item start end false in
    let e = h.1 in
    let u = h.2 in
    skip (eqb n undefined && in_sequence) _ _ z (and-f (eqb n undefined) in_sequence (even-defined n h.0).0)
    (skip (eqb (n % 2) 1) (ItemHeader.refused (fault_at 7 at)) _ z (even-defined n h.0).1
    (skip (ltb (stop - start) n) (ItemHeader.refused (fault_at 2 at)) _ z (le-ltb (stop - start) n (omega arith)) (rw e)))

extent-starts : (n stop start end : ℕ) (inner : Bool) → HeaderExtent n stop start end inner → start ≤ end → start ≤ stop
extent-starts n stop start end true h k = let e = h.1 in omega arith
extent-starts n stop start end false h k = let e = h.2 in omega arith

pub item-stands : (d : List ℕ) (in_sequence delimited : Bool) (stop at end : ℕ) (inner : Bool) → stop ≤ length d → tag_at d at ≡ item_tag → at + 8 ≤ end
    → (inner ≡ true → in_sequence ≡ true) → HeaderExtent (num32 d (at + 4)) stop (at + 8) end inner
    → ItemHeader.item (at + 8) end inner ≡ item_at d in_sequence delimited stop at
unfolding item_at
item-stands d in_sequence delimited stop at end inner l t k q h =
    let i = extent-starts (num32 d (at + 4)) stop (at + 8) end inner h k in
    let z = ItemHeader.item (at + 8) end inner in
    goes_on (ItemHeader.refused (fault_at 2 at)) ItemHeader.ends _ d sequence_delimitation_item stop at l delimited z i (λ e. omega (arith, t, e))
    (skip (not (eqb (tag_at d at) item_tag)) (ItemHeader.refused (fault_at 3 at)) _ z (not_f (eqb (tag_at d at) item_tag) (eq-eqb (tag_at d at) item_tag t))
    (item_by_lem in_sequence (num32 d (at + 4)) stop at (at + 8) end inner q i h))
