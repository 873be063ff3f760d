-- The equations of the reading that name no fuel (`elements-are`, `items-are`, `fragments-are`), for any headers that stay in their
-- extents: the fuel is enough. Assumes nothing.
use Prim.Native.Nat.{ℕ, zero, suc, ◌+◌, ◌-◌, ◌≤◌, ◌<◌}
use mathlib.Core.Path.{◌≡◌, refl, ap, ◌∙◌}
use mathlib.Core.Bool.{Bool, true, false}
use mathlib.Core.List.{List}
use native.Mathlib.Omega.{arith}
use Rattle.dataset.specs.Header.{ElementHeader, ItemHeader, item_at}
use Rattle.dataset.specs.Tree.{Span, Elements, Items, tag_of}
use Rattle.dataset.specs.Reading.{Reading, fault, read, ◌>>=◌, One, ended, element, Headers, explicit, by_header, by_one, by_item, by_fragment, fragments_by, elements_by, items_by, fragments_at, elements_at, items_at, one_at, deeper}
use Rattle.dataset.proofs.Laws.Reading.Bounded.{ElementHeaderIn, ItemHeaderIn, Bounded, explicit-bounded}
use Rattle.dataset.proofs.Laws.Reading.Within.{Within, OneIn, items_of, one_by, elements-within, one-by-in, one_in}

then_same : {A B : Type 0} (lo hi : ℕ) (p : Reading A) (k k' : A × ℕ → Reading B) → Within lo hi p
    → ((a : A) (n : ℕ) → lo ≤ n → n ≤ hi → k (a, n) ≡ k' (a, n)) → (p >>= k) ≡ (p >>= k')
then_same lo hi (fault f) k k' w g = refl
then_same lo hi (read a n) k k' w g = g a n w.0 w.1

-- ---- one step, by what stands there
module _ (stop at : ℕ) where
  -- readers that agree from here on read the same
  pub fragment-same : (parts parts' : ℕ → Reading (List Span)) (p : ItemHeader) → ItemHeaderIn stop at p
      → ((i : ℕ) → at < i → i ≤ stop → parts i ≡ parts' i) → by_fragment parts p ≡ by_fragment parts' p
  unfolding by_fragment
  fragment-same parts parts' (ItemHeader.refused a) h f = refl
  fragment-same parts parts' (ItemHeader.ends next) h f = refl
  fragment-same parts parts' (ItemHeader.item start end delimited) h f = rw (f end (omega arith) h.2)

  pub header-same : (items items' : Bool → ℕ → ℕ → Reading Items) (parts parts' : ℕ → Reading (List Span)) (p : ElementHeader) → ElementHeaderIn stop at p
      → ((delimited : Bool) (end i : ℕ) → at < i → i ≤ end → end ≤ stop → items delimited end i ≡ items' delimited end i)
      → ((i : ℕ) → at < i → i ≤ stop → parts i ≡ parts' i)
      → by_header items parts at p ≡ by_header items' parts' at p
  unfolding by_header
  header-same items items' parts parts' (ElementHeader.refused a) h f g = refl
  header-same items items' parts parts' (ElementHeader.ends next) h f g = refl
  header-same items items' parts parts' (ElementHeader.value tag vr start end) h f g = refl
  header-same items items' parts parts' (ElementHeader.sequence tag start end delimited) h f g = rw (f delimited end start h.0 h.1 h.2)
  header-same items items' parts parts' (ElementHeader.fragments tag start) h f g = rw (g start h.0 h.1)

  one_same : (elements elements' : ℕ → ℕ → Reading Elements) (o : Reading One) → OneIn at stop o
      → ((i least : ℕ) → at < i → i ≤ stop → elements i least ≡ elements' i least) → (o >>= by_one elements) ≡ (o >>= by_one elements')
  unfolding by_one
  one_same elements elements' (fault f) h g = refl
  one_same elements elements' (read ended n) h g = refl
  one_same elements elements' (read (element e) n) h g = rw (g n (tag_of e + 1) h.0 h.1)

  item-same : (elements elements' : Bool → ℕ → ℕ → Reading Elements) (items items' : ℕ → Reading Items) (p : ItemHeader) → ItemHeaderIn stop at p
      → ((delimited : Bool) (end i : ℕ) → at < i → i ≤ end → end ≤ stop
      → (elements delimited end i ≡ elements' delimited end i) × Within i end (elements' delimited end i))
      → ((i : ℕ) → at < i → i ≤ stop → items i ≡ items' i)
      → by_item elements items at p ≡ by_item elements' items' at p
  unfolding by_item
  item-same elements elements' items items' (ItemHeader.refused a) h f g = refl
  item-same elements elements' items items' (ItemHeader.ends next) h f g = refl
  item-same elements elements' items items' (ItemHeader.item start end delimited) h f g =
      let e = f delimited end start h.0 h.1 h.2 in
      rw e.0 (then_same start end (elements' delimited end start) _ _ e.1 λ a n l u. rw (g n (omega arith) (omega arith)))

module _ (h : Headers) (b : Bounded h) where
  -- ---- two fuels that are enough read the same
  fragments-same : (m n : ℕ) (d : List ℕ) (left stop at : ℕ) → at ≤ stop → stop - at < m → stop - at < n
      → fragments_by h m d left stop at ≡ fragments_by h n d left stop at
  unfolding fragments_by
  fragments-same zero n d left stop at z l k = absurd (omega arith)
  fragments-same (suc m) zero d left stop at z l k = absurd (omega arith)
  fragments-same (suc m) (suc n) d left stop at z l k =
      fragment-same stop at _ _ (h.item d false true stop at) (b.item_in d false true stop at) λ i p q.
      fragments-same m n d left stop i q (omega arith) (omega arith)

  mutual
    unfolding elements_by

    elements_same : (m n : ℕ) (d : List ℕ) (delimited : Bool) (left stop at least : ℕ) → at ≤ stop → stop - at < m → stop - at < n
        → elements_by h m d delimited left stop at least ≡ elements_by h n d delimited left stop at least
    elements_same zero n d delimited left stop at least z l k = absurd (omega arith)
    elements_same (suc m) zero d delimited left stop at least z l k = absurd (omega arith)
    elements_same (suc m) (suc n) d delimited left stop at least z l k =
        ap (λ o. o >>= by_one (elements_by h m d delimited left stop))
        (header-same stop at (items_of h b m d left) (items_of h b n d left) (fragments_by h m d left stop) (fragments_by h n d left stop) (h.element d delimited left stop at least) (b.element-in d delimited left stop at least)
        (λ inner end i p q r. items-same m n d inner left end i q (omega arith) (omega arith))
        (λ i p q. fragments-same m n d left stop i q (omega arith) (omega arith)))
        ∙ one_same stop at (elements_by h m d delimited left stop) (elements_by h n d delimited left stop) (one_by h b n d delimited left stop at least)
        (one-by-in h b n d delimited left stop at least z (omega arith))
        (λ i above p q. elements_same m n d delimited left stop i above q (omega arith) (omega arith))

    items-same : (m n : ℕ) (d : List ℕ) (delimited : Bool) (left stop at : ℕ) → at ≤ stop → stop - at < m → stop - at < n
        → items_by h m d delimited left stop at ≡ items_by h n d delimited left stop at
    items-same zero n d delimited left stop at z l k = absurd (omega arith)
    items-same (suc m) zero d delimited left stop at z l k = absurd (omega arith)
    items-same (suc m) (suc n) d delimited left stop at z l k =
        item-same stop at _ _ _ _ (h.item d true delimited stop at) (b.item_in d true delimited stop at)
        (λ inner end i p q r. (elements_same m n d inner (deeper left) end i 0 q (omega arith) (omega arith), elements-within h b n d inner (deeper left) end i 0 q (omega arith)))
        (λ i p q. items-same m n d delimited left stop i q (omega arith) (omega arith))

  -- ---- the equations of the reading
  pub fragments-are : (d : List ℕ) (left stop at : ℕ)
      → at ≤ stop → fragments_at h d left stop at ≡ by_fragment (fragments_at h d left stop) (h.item d false true stop at)
  unfolding fragments_at fragments_by
  fragments-are d left stop at z =
      fragment-same stop at _ _ (h.item d false true stop at) (b.item_in d false true stop at) λ i p q.
      fragments-same (stop - at) (suc (stop - i)) d left stop i q (omega arith) (omega arith)

  pub items-are : (d : List ℕ) (delimited : Bool) (left stop at : ℕ) → at ≤ stop
      → items_at h d delimited left stop at
      ≡ by_item (λ inner end start. elements_at h d inner (deeper left) end start 0) (items_at h d delimited left stop) at (h.item d true delimited stop at)
  unfolding elements_at items_at elements_by
  items-are d delimited left stop at z =
      item-same stop at _ _ _ _ (h.item d true delimited stop at) (b.item_in d true delimited stop at)
      (λ inner end i p q r. (elements_same (stop - at) (suc (end - i)) d inner (deeper left) end i 0 q (omega arith) (omega arith), elements-within h b (suc (end - i)) d inner (deeper left) end i 0 q (omega arith)))
      (λ i p q. items-same (stop - at) (suc (stop - i)) d delimited left stop i q (omega arith) (omega arith))

  -- elements are one element and the rest
  pub elements-are : (d : List ℕ) (delimited : Bool) (left stop at least : ℕ) → at ≤ stop
      → elements_at h d delimited left stop at least ≡ (one_at h d delimited left stop at least >>= by_one (elements_at h d delimited left stop))
  unfolding elements_at one_at items_at fragments_at elements_by
  elements-are d delimited left stop at least z =
      ap (λ o. o >>= by_one (elements_by h (stop - at) d delimited left stop))
      (header-same stop at (items_of h b (stop - at) d left) (λ inner. items_at h d inner left) (fragments_by h (stop - at) d left stop) (fragments_at h d left stop) (h.element d delimited left stop at least) (b.element-in d delimited left stop at least)
      (λ inner end i p q r. items-same (stop - at) (suc (end - i)) d inner left end i q (omega arith) (omega arith))
      (λ i p q. fragments-same (stop - at) (suc (stop - i)) d left stop i q (omega arith) (omega arith)))
      ∙ one_same stop at (elements_by h (stop - at) d delimited left stop) (elements_at h d delimited left stop) (one_at h d delimited left stop at least) (one_in h b d delimited left stop at least z)
      (λ i above p q. elements_same (stop - at) (suc (stop - i)) d delimited left stop i above q (omega arith) (omega arith))

  -- any fuel above the bytes that are left reads the same
  pub elements-enough : (n : ℕ) (d : List ℕ) (delimited : Bool) (left stop at least : ℕ) → at ≤ stop → stop - at < n
      → elements_by h n d delimited left stop at least ≡ elements_at h d delimited left stop at least
  unfolding elements_at
  elements-enough n d delimited left stop at least z l = elements_same n (suc (stop - at)) d delimited left stop at least z l (omega arith)

  pub items-enough : (n : ℕ) (d : List ℕ) (delimited : Bool) (left stop at : ℕ) → at ≤ stop → stop - at < n
      → items_by h n d delimited left stop at ≡ items_at h d delimited left stop at
  unfolding items_at
  items-enough n d delimited left stop at z l = items-same n (suc (stop - at)) d delimited left stop at z l (omega arith)

  pub fragments-enough : (n : ℕ) (d : List ℕ) (left stop at : ℕ) → at ≤ stop → stop - at < n → fragments_by h n d left stop at ≡ fragments_at h d left stop at
  unfolding fragments_at
  fragments-enough n d left stop at z l = fragments-same n (suc (stop - at)) d left stop at z l (omega arith)

-- ---- in Explicit VR, by what stands at `at`
pub elements-by : (d : List ℕ) (delimited : Bool) (left stop at least : ℕ) → at ≤ stop → (o : Reading One) → one_at explicit d delimited left stop at least ≡ o
    → elements_at explicit d delimited left stop at least ≡ (o >>= by_one (elements_at explicit d delimited left stop))
elements-by d delimited left stop at least h o q = rw (elements-are explicit explicit-bounded d delimited left stop at least h, q)

pub items-by : (d : List ℕ) (delimited : Bool) (left stop at : ℕ) → at ≤ stop → (p : ItemHeader) → item_at d true delimited stop at ≡ p
    → items_at explicit d delimited left stop at ≡ by_item (λ inner end start. elements_at explicit d inner (deeper left) end start 0) (items_at explicit d delimited left stop) at p
items-by d delimited left stop at h p q = rw (items-are explicit explicit-bounded d delimited left stop at h, q)

pub fragments-by : (d : List ℕ) (left stop at : ℕ) → at ≤ stop → (p : ItemHeader) → item_at d false true stop at ≡ p
    → fragments_at explicit d left stop at ≡ by_fragment (fragments_at explicit d left stop) p
fragments-by d left stop at h p q = rw (fragments-are explicit explicit-bounded d left stop at h, q)
