-- The first fault does not depend on what stands behind its header: two data sets that agree up to 12 bytes after its offset have the same.
-- Assumes nothing.
use Prim.Native.Nat.{ℕ, zero, suc, ◌+◌, ◌-◌, ◌≤◌, ◌<◌}
use mathlib.Core.Path.{◌≡◌, refl, sym, ap, ◌∙◌}
use mathlib.Core.Bool.{Bool, true, false}
use mathlib.Core.List.{List}
use native.Mathlib.Omega.{arith}
use lib.ListN.{length, get_or}
use lib.Seq.{get_or-take}
use lib.Dec.{ltb}
use borrow.Author.Tests.{ltb-true, ltb-false}
use Rattle.dataset.specs.Bytes.{num16, num32, tag_at, vr_at}
use Rattle.dataset.specs.Vr.{form_of}
use Rattle.dataset.specs.Header.{ElementHeader, ItemHeader, closed_by, long_at, by_form, vr_on_at, element_at, item_at}
use Rattle.dataset.specs.Tree.{Span, Elements, Items, tag_of}
use Rattle.dataset.specs.Reading.{Reading, fault, read, ◌>>=◌, One, ended, element, explicit, by_header, by_one, by_item, by_fragment, fragments_by, elements_by, items_by, elements_at, size_limit, levels, data_set, deeper}
use Rattle.dataset.specs.Theorems.{FirstFault}
use Rattle.dataset.specs.declared.vr.Form.{Form}
use Rattle.dataset.specs.declared.vr.Form.TheVariants.{Short, Long, Neither}
use Rattle.dataset.proofs.Laws.Reading.Bounded.{ElementHeaderIn, ItemHeaderIn, explicit-bounded}
use Rattle.dataset.proofs.Laws.Reading.Guarantees.{Holds}
use Rattle.dataset.proofs.Laws.Reading.Within.{Within, OneIn, fragments-within, elements-within, items-within, one-by-in}
use Rattle.dataset.proofs.Laws.Reading.Loops.{data-set-is, data-set-over}

-- ---- a reading that is over at the offset `till` or before it: its fault lies there, or what follows what was read
abbrev Over : {A : Type 0} → (till : ℕ) → Reading A → Type 0
Over till (fault f) = f.position ≤ till
Over till (read a next) = next ≤ till

module _ (till : ℕ) where
  over-from : {A : Type 0} (lo hi : ℕ) (p : Reading A) → Within lo hi p → Over till p → lo ≤ till
  over-from lo hi (fault f) w s = omega (arith, w.order)
  over-from lo hi (read a n) w s = omega arith

  -- the first of two readings is over where the second is
  over_first : {A B : Type 0} (p : Reading A) (k : A × ℕ → Reading B) → ((a : A) (n : ℕ) → Over till (k (a, n)) → n ≤ till) → Over till (p >>= k) → Over till p
  over_first (fault f) k g s = s
  over_first (read a n) k g s = g a n s

  then_agrees : {A B : Type 0} (Q : A → ℕ → Type 0) (p q : Reading A) (k l : A × ℕ → Reading B) → Holds Q p
      → ((a : A) (n : ℕ) → Q a n → Over till (k (a, n)) → n ≤ till) → (Over till p → q ≡ p)
      → ((a : A) (n : ℕ) → Q a n → Over till (k (a, n)) → l (a, n) ≡ k (a, n)) → Over till (p >>= k) → (q >>= l) ≡ (p >>= k)
  then_agrees Q (fault f) q k l w g e h s = rw (e s)
  then_agrees Q (read a n) q k l w g e h s = rw (e (g a n w s)) (h a n w s)

  first-agrees : {A B : Type 0} (p q : Reading A) (k : A × ℕ → Reading B) → ((a : A) (n : ℕ) → Over till (k (a, n)) → n ≤ till) → (Over till p → q ≡ p)
      → Over till (p >>= k) → (q >>= k) ≡ (p >>= k)
  first-agrees p q k g e s = rw (e (over_first p k g s))

one_holds : (lo hi : ℕ) (p : Reading One) → OneIn lo hi p → Holds (λ o n. OneIn lo hi (read o n)) p
one_holds lo hi (fault f) w = tt
one_holds lo hi (read ended n) w = w
one_holds lo hi (read (element x) n) w = w

within-holds : {A : Type 0} (lo hi : ℕ) (p : Reading A) → Within lo hi p → Holds (λ a n. (lo ≤ n) × (n ≤ hi)) p
within-holds lo hi (fault f) w = tt
within-holds lo hi (read a n) w = w

-- ---- one step, by what stands there: readers that agree where the reading is over
module _ (till stop at : ℕ) where
  fragment-step : (parts parts' : ℕ → Reading (List Span)) (p : ItemHeader) → ItemHeaderIn stop at p
      → ((i : ℕ) → at < i → i ≤ stop → Over till (parts i) → parts' i ≡ parts i)
      → Over till (by_fragment parts p) → by_fragment parts' p ≡ by_fragment parts p
  unfolding by_fragment
  fragment-step parts parts' (ItemHeader.refused a) h f s = refl
  fragment-step parts parts' (ItemHeader.ends next) h f s = refl
  fragment-step parts parts' (ItemHeader.item start end inner) h f s = first-agrees till (parts end) (parts' end) _ (λ a n x. x) (f end (omega arith) h.2) s

  header-step : (items items' : Bool → ℕ → ℕ → Reading Items) (parts parts' : ℕ → Reading (List Span)) (p : ElementHeader) → ElementHeaderIn stop at p
      → ((inner : Bool) (end i : ℕ) → at < i → i ≤ end → end ≤ stop → Over till (items inner end i) → items' inner end i ≡ items inner end i)
      → ((i : ℕ) → at < i → i ≤ stop → Over till (parts i) → parts' i ≡ parts i)
      → Over till (by_header items parts at p) → by_header items' parts' at p ≡ by_header items parts at p
  unfolding by_header
  header-step items items' parts parts' (ElementHeader.refused a) h f g s = refl
  header-step items items' parts parts' (ElementHeader.ends next) h f g s = refl
  header-step items items' parts parts' (ElementHeader.value tag vr start end) h f g s = refl
  header-step items items' parts parts' (ElementHeader.sequence tag start end inner) h f g s =
      first-agrees till (items inner end start) (items' inner end start) _ (λ a n x. x) (f inner end start h.0 h.1 h.2) s
  header-step items items' parts parts' (ElementHeader.fragments tag start) h f g s =
      first-agrees till (parts start) (parts' start) _ (λ a n x. x) (g start h.0 h.1) s

  one-step : (elements elements' : ℕ → ℕ → Reading Elements) (p q : Reading One) → OneIn at stop p
      → ((i least : ℕ) → at < i → i ≤ stop → Within i stop (elements i least) × (Over till (elements i least) → elements' i least ≡ elements i least))
      → (Over till p → q ≡ p) → Over till (p >>= by_one elements) → (q >>= by_one elements') ≡ (p >>= by_one elements)
  unfolding by_one
  one-step elements elements' p q w f e s =
      then_agrees till (λ o n. OneIn at stop (read o n)) p q (by_one elements) (by_one elements') (one_holds at stop p w) till-next e rest s
    where
      till-next : (o : One) (n : ℕ) → OneIn at stop (read o n) → Over till (by_one elements (o, n)) → n ≤ till
      till-next ended n w s = s
      till-next (element x) n w s =
          over-from till n stop (elements n (tag_of x + 1)) (f n (tag_of x + 1) w.0 w.1).0 (over_first till (elements n (tag_of x + 1)) _ (λ a m y. y) s)

      rest : (o : One) (n : ℕ) → OneIn at stop (read o n) → Over till (by_one elements (o, n)) → by_one elements' (o, n) ≡ by_one elements (o, n)
      rest ended n w s = refl
      rest (element x) n w s = first-agrees till (elements n (tag_of x + 1)) (elements' n (tag_of x + 1)) _ (λ a m y. y) (f n (tag_of x + 1) w.0 w.1).1 s

  item-step : (elements elements' : Bool → ℕ → ℕ → Reading Elements) (items items' : ℕ → Reading Items) (p : ItemHeader) → ItemHeaderIn stop at p
      → ((inner : Bool) (end i : ℕ) → at < i → i ≤ end → end ≤ stop
      → Within i end (elements inner end i) × (Over till (elements inner end i) → elements' inner end i ≡ elements inner end i))
      → ((i : ℕ) → at < i → i ≤ stop → Within i stop (items i) × (Over till (items i) → items' i ≡ items i))
      → Over till (by_item elements items at p) → by_item elements' items' at p ≡ by_item elements items at p
  unfolding by_item
  item-step elements elements' items items' (ItemHeader.refused a) h f g s = refl
  item-step elements elements' items items' (ItemHeader.ends next) h f g s = refl
  item-step elements elements' items items' (ItemHeader.item start end inner) h f g s =
      let k = f inner end start h.0 h.1 h.2 in
      then_agrees till (λ a n. (start ≤ n) × (n ≤ end)) (elements inner end start) (elements' inner end start) _ _
      (within-holds start end (elements inner end start) k.0)
      (λ a n w x. over-from till n stop (items n) (g n (omega arith) (omega arith)).0 (over_first till (items n) _ (λ b m y. y) x))
      k.1
      (λ a n w x. first-agrees till (items n) (items' n) _ (λ b m y. y) (g n (omega arith) (omega arith)).1 x)
      s

-- ---- the headers of two data sets of one length that agree before `till + 12`
module _ (d e : List ℕ) (till : ℕ) (len : length e ≡ length d) (same : (i : ℕ) → i < till + 12 → get_or e i 0 ≡ get_or d i 0) where
  num16-agrees : (i : ℕ) → i ≤ till + 10 → num16 e i ≡ num16 d i
  unfolding num16
  num16-agrees i h = rw (same i (omega arith), same (i + 1) (omega arith))

  num32-agrees : (i : ℕ) → i ≤ till + 8 → num32 e i ≡ num32 d i
  unfolding num32
  num32-agrees i h = rw (num16-agrees i (omega arith), num16-agrees (i + 2) (omega arith))

  tag-agrees : (i : ℕ) → i ≤ till → tag_at e i ≡ tag_at d i
  unfolding tag_at
  tag-agrees i h = rw (num16-agrees i (omega arith), num16-agrees (i + 2) (omega arith))

  vr-agrees : (i : ℕ) → i ≤ till → vr_at e i ≡ vr_at d i
  unfolding vr_at
  vr-agrees i h = rw (same (i + 4) (omega arith), same (i + 5) (omega arith))

  closed-agrees : (delimiter : ℕ) (delimited : Bool) (at : ℕ) → at ≤ till → closed_by e delimiter delimited at ≡ closed_by d delimiter delimited at
  unfolding closed_by
  closed-agrees delimiter delimited at h = rw (tag-agrees at h, num32-agrees (at + 4) (omega arith))

  form-agrees : (f : Form) (tag vr left stop at : ℕ) → at ≤ till → by_form f e tag vr left stop at ≡ by_form f d tag vr left stop at
  unfolding by_form long_at
  form-agrees Short tag vr left stop at h = rw (num16-agrees (at + 6) (omega arith))
  form-agrees Long tag vr left stop at h = rw (num16-agrees (at + 6) (omega arith), num32-agrees (at + 8) (omega arith))
  form-agrees Neither tag vr left stop at h = refl

  element-agrees : (delimited : Bool) (left stop at least : ℕ) → at ≤ till → element_at e delimited left stop at least ≡ element_at d delimited left stop at least
  unfolding element_at vr_on_at
  element-agrees delimited left stop at least h =
      rw (len, closed-agrees _ delimited at h, num16-agrees at (omega arith), tag-agrees at h, vr-agrees at h, form-agrees (form_of (vr_at d at)) (tag_at d at) (vr_at d at) left stop at h)

  item-agrees : (in_sequence delimited : Bool) (stop at : ℕ) → at ≤ till → item_at e in_sequence delimited stop at ≡ item_at d in_sequence delimited stop at
  unfolding item_at
  item-agrees in_sequence delimited stop at h = rw (len, closed-agrees _ delimited at h, tag-agrees at h, num32-agrees (at + 4) (omega arith))

  -- ---- the whole recursion, by its fuel
  fragments-agree : (n left stop at : ℕ) → at ≤ stop → stop - at < n → Over till (fragments_by explicit n d left stop at)
      → fragments_by explicit n e left stop at ≡ fragments_by explicit n d left stop at
  unfolding fragments_by
  fragments-agree zero left stop at z l s = absurd (omega arith)
  fragments-agree (suc n) left stop at z l s =
      let h = over-from till at stop (fragments_by explicit (suc n) d left stop at) (fragments-within explicit explicit-bounded (suc n) d left stop at z l) s in
      rw (item-agrees false true stop at h)
      (fragment-step till stop at _ _ (item_at d false true stop at) (explicit-bounded.item_in d false true stop at)
      (λ i p q. fragments-agree n left stop i q (omega arith)) s)

  mutual
    unfolding elements_by

    elements-agree : (n : ℕ) (delimited : Bool) (left stop at least : ℕ) → at ≤ stop → stop - at < n
        → Over till (elements_by explicit n d delimited left stop at least)
        → elements_by explicit n e delimited left stop at least ≡ elements_by explicit n d delimited left stop at least
    elements-agree zero delimited left stop at least z l s = absurd (omega arith)
    elements-agree (suc n) delimited left stop at least z l s =
        let h = over-from till at stop (elements_by explicit (suc n) d delimited left stop at least)
        (elements-within explicit explicit-bounded (suc n) d delimited left stop at least z l) s in
        rw (element-agrees delimited left stop at least h)
        (one-step till stop at (elements_by explicit n d delimited left stop) (elements_by explicit n e delimited left stop) _ _
        (one-by-in explicit explicit-bounded n d delimited left stop at least z (omega arith))
        (λ i above p q. (
          elements-within explicit explicit-bounded n d delimited left stop i above q (omega arith),
          λ x. elements-agree n delimited left stop i above q (omega arith) x,
        ))
        (header-step till stop at _ _ _ _ (element_at d delimited left stop at least) (explicit-bounded.element-in d delimited left stop at least)
        (λ inner end i p q r x. items-agree n inner left end i q (omega arith) x)
        (λ i p q. fragments-agree n left stop i q (omega arith)))
        s)

    items-agree : (n : ℕ) (delimited : Bool) (left stop at : ℕ) → at ≤ stop → stop - at < n
        → Over till (items_by explicit n d delimited left stop at)
        → items_by explicit n e delimited left stop at ≡ items_by explicit n d delimited left stop at
    items-agree zero delimited left stop at z l s = absurd (omega arith)
    items-agree (suc n) delimited left stop at z l s =
        let h = over-from till at stop (items_by explicit (suc n) d delimited left stop at)
        (items-within explicit explicit-bounded (suc n) d delimited left stop at z l) s in
        rw (item-agrees true delimited stop at h)
        (item-step till stop at _ _ _ _ (item_at d true delimited stop at) (explicit-bounded.item_in d true delimited stop at)
        (λ inner end i p q r. (
          elements-within explicit explicit-bounded n d inner (deeper left) end i 0 q (omega arith),
          λ x. elements-agree n inner (deeper left) end i 0 q (omega arith) x,
        ))
        (λ i p q. (
          items-within explicit explicit-bounded n d delimited left stop i q (omega arith),
          λ x. items-agree n delimited left stop i q (omega arith) x,
        ))
        s)

pub first-fault : FirstFault
unfolding elements_at
first-fault d e f q len t = go (ltb size_limit (length d)) refl
  where
    same : (i : ℕ) → i < f.position + 12 → get_or e i 0 ≡ get_or d i 0
    same i h = sym (get_or-take (f.position + 12) e i 0 h) ∙ ap (λ (l : List ℕ). get_or l i 0) t ∙ get_or-take (f.position + 12) d i 0 h

    go : (b : Bool) → ltb size_limit (length d) ≡ b → data_set e ≡ fault f
    go true b =
        let k = ltb-true size_limit (length d) b in
        data-set-over e (omega arith) ∙ sym (data-set-over d k) ∙ q
    go false b =
        let k = ltb-false size_limit (length d) b in
        let x = sym (data-set-is d k) ∙ q in
        let s : Over f.position (elements_at explicit d false levels (length d) 0 0) = rw x (omega arith) in
        data-set-is e (omega arith) ∙ (rw len (elements-agree d e f.position len same (suc (length d - 0)) false levels (length d) 0 0 (omega arith) (omega arith) s) ∙ x)
