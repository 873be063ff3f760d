-- What is read in an extent stays in it: its faults lie there, and what follows it is at most at the end. For any headers that stay in
-- their extents. Assumes nothing.
use Prim.Native.Nat.{ℕ, zero, suc, ◌-◌, ◌≤◌, ◌<◌, ◌+◌}
use mathlib.Core.Path.{◌≡◌}
use mathlib.Core.Bool.{Bool, true, false}
use mathlib.Core.List.{List}
use native.Mathlib.Omega.{arith}
use Rattle.answer.specs.declared.Answer.{Answer}
use Rattle.dataset.specs.Header.{ElementHeader, ItemHeader}
use Rattle.dataset.specs.Tree.{Span, Elements, Items, tag_of}
use Rattle.dataset.specs.Reading.{Reading, fault, read, ◌>>=◌, One, ended, element, Headers, by_header, by_one, by_item, by_fragment, fragments_by, elements_by, items_by, fragments_at, items_at, one_at, deeper}
use Rattle.dataset.proofs.Laws.Header.HeaderFacts.{RefusedAt}
use Rattle.dataset.proofs.Laws.Reading.Bounded.{ElementHeaderIn, ItemHeaderIn, Bounded}

-- ---- where faults lie, and what follows what was read

pub record FaultIn (lo hi : ℕ) (f : Answer) : Type 0 where
  pub least : 2 ≤ f.number
  pub most : f.number ≤ 8
  pub order : lo ≤ f.position
  pub inside : f.position ≤ hi
  pub nothing : f.length ≡ 0

abbrev pub Within : {A : Type 0} → (lo hi : ℕ) → Reading A → Type 0
Within lo hi (fault f) = FaultIn lo hi f
Within lo hi (read a next) = (lo ≤ next) × (next ≤ hi)

-- an element takes at least a byte; the end may take none
abbrev pub OneIn : (lo hi : ℕ) → Reading One → Type 0
OneIn lo hi (fault f) = FaultIn lo hi f
OneIn lo hi (read ended next) = (lo ≤ next) × (next ≤ hi)
OneIn lo hi (read (element e) next) = (lo < next) × (next ≤ hi)

wider : (lo hi lo' hi' : ℕ) (f : Answer) → lo' ≤ lo → hi ≤ hi' → FaultIn lo hi f → FaultIn lo' hi' f
wider lo hi lo' hi' f l u w = record { least = w.least; most = w.most; order = omega arith; inside = omega arith; nothing = w.nothing }

then-within : {A B : Type 0} (lo hi lo' hi' : ℕ) (p : Reading A) (k : A × ℕ → Reading B) → lo' ≤ lo → hi ≤ hi' → Within lo hi p
    → ((a : A) (n : ℕ) → lo ≤ n → n ≤ hi → Within lo' hi' (k (a, n))) → Within lo' hi' (p >>= k)
then-within lo hi lo' hi' (fault f) k l u w g = wider lo hi lo' hi' f l u w
then-within lo hi lo' hi' (read a n) k l u w g = g a n w.0 w.1

then_one : {A : Type 0} (lo hi lo' hi' : ℕ) (p : Reading A) (k : A × ℕ → Reading One) → lo' ≤ lo → hi ≤ hi' → Within lo hi p
    → ((a : A) (n : ℕ) → lo ≤ n → n ≤ hi → OneIn lo' hi' (k (a, n))) → OneIn lo' hi' (p >>= k)
then_one lo hi lo' hi' (fault f) k l u w g = wider lo hi lo' hi' f l u w
then_one lo hi lo' hi' (read a n) k l u w g = g a n w.0 w.1

-- ---- one step, by what stands there
module _ (stop at : ℕ) (z : at ≤ stop) where
  -- a refusal of a header in the extent lies in it
  refuses : (a : Answer) → RefusedAt at a → FaultIn at stop a
  refuses a h = record { least = h.0; most = h.1; order = omega arith; inside = omega arith; nothing = h.3 }

  abbrev Parts : (ℕ → Reading (List Span)) → Type 0
  Parts parts = (i : ℕ) → at < i → i ≤ stop → Within i stop (parts i)

  abbrev Inner : {A : Type 0} → (Bool → ℕ → ℕ → Reading A) → Type 0
  Inner inner = (delimited : Bool) (end i : ℕ) → at < i → i ≤ end → end ≤ stop → Within i end (inner delimited end i)

  fragment-within : (parts : ℕ → Reading (List Span)) (p : ItemHeader) → ItemHeaderIn stop at p → Parts parts → Within at stop (by_fragment parts p)
  unfolding by_fragment
  fragment-within parts (ItemHeader.refused a) h f = refuses a h
  fragment-within parts (ItemHeader.ends next) h f = h
  fragment-within parts (ItemHeader.item start end delimited) h f =
      then-within end stop at stop (parts end) _ (omega arith) (omega arith) (f end (omega arith) h.2) λ a n l u. omega arith

  pub header-within : (items : Bool → ℕ → ℕ → Reading Items) (parts : ℕ → Reading (List Span)) (p : ElementHeader) → ElementHeaderIn stop at p
      → Inner items → Parts parts → OneIn at stop (by_header items parts at p)
  unfolding by_header
  header-within items parts (ElementHeader.refused a) h f g = refuses a h
  header-within items parts (ElementHeader.ends next) h f g = h
  header-within items parts (ElementHeader.value tag vr start end) h f g = h
  header-within items parts (ElementHeader.sequence tag start end delimited) h f g =
      then_one start end at stop (items delimited end start) _ (omega arith) (omega arith) (f delimited end start h.0 h.1 h.2) λ a n l u. omega arith
  header-within items parts (ElementHeader.fragments tag start) h f g =
      then_one start stop at stop (parts start) _ (omega arith) (omega arith) (g start h.0 h.1) λ a n l u. omega arith

  one-within : (elements : ℕ → ℕ → Reading Elements) (o : Reading One) → OneIn at stop o
      → ((i least : ℕ) → at < i → i ≤ stop → Within i stop (elements i least)) → Within at stop (o >>= by_one elements)
  unfolding by_one
  one-within elements (fault f) h g = h
  one-within elements (read ended n) h g = h
  one-within elements (read (element e) n) h g =
      then-within n stop at stop (elements n (tag_of e + 1)) _ (omega arith) (omega arith) (g n (tag_of e + 1) h.0 h.1) λ a m l u. omega arith

  item-within : (elements : Bool → ℕ → ℕ → Reading Elements) (items : ℕ → Reading Items) (p : ItemHeader) → ItemHeaderIn stop at p
      → Inner elements → ((i : ℕ) → at < i → i ≤ stop → Within i stop (items i)) → Within at stop (by_item elements items at p)
  unfolding by_item
  item-within elements items (ItemHeader.refused a) h f g = refuses a h
  item-within elements items (ItemHeader.ends next) h f g = h
  item-within elements items (ItemHeader.item start end delimited) h f g =
      then-within start end at stop (elements delimited end start) _ (omega arith) (omega arith) (f delimited end start h.0 h.1 h.2) λ a n l u.
      then-within n stop at stop (items n) _ (omega arith) (omega arith) (g n (omega arith) (omega arith)) λ b m l' u'. omega arith

-- ---- the whole recursion, by its fuel
module _ (h : Headers) (b : Bounded h) where
  -- the readers of what an element holds, and of one element, by their fuel
  abbrev pub items_of : ℕ → List ℕ → (left : ℕ) → Bool → ℕ → ℕ → Reading Items
  items_of n d left inner end start = items_by h n d inner left end start

  abbrev pub one_by : ℕ → List ℕ → (delimited : Bool) (left stop at least : ℕ) → Reading One
  one_by n d delimited left stop at least = by_header (items_of n d left) (fragments_by h n d left stop) at (h.element d delimited left stop at least)

  -- fuel above the bytes that are left is enough
  pub fragments-within : (n : ℕ) (d : List ℕ) (left stop at : ℕ) → at ≤ stop → stop - at < n → Within at stop (fragments_by h n d left stop at)
  unfolding fragments_by
  fragments-within zero d left stop at z l = absurd (omega arith)
  fragments-within (suc n) d left stop at z l =
      fragment-within stop at z _ (h.item d false true stop at) (b.item_in d false true stop at) λ i p q.
      fragments-within n d left stop i q (omega arith)

  mutual
    unfolding elements_by

    pub elements-within : (n : ℕ) (d : List ℕ) (delimited : Bool) (left stop at least : ℕ) → at ≤ stop → stop - at < n
        → Within at stop (elements_by h n d delimited left stop at least)
    elements-within zero d delimited left stop at least z l = absurd (omega arith)
    elements-within (suc n) d delimited left stop at least z l =
        one-within stop at z (λ i above. elements_by h n d delimited left stop i above) (one_by n d delimited left stop at least)
        (header-within stop at z (items_of n d left) (fragments_by h n d left stop) (h.element d delimited left stop at least) (b.element-in d delimited left stop at least)
        (λ inner end i p q r. items-within n d inner left end i q (omega arith))
        (λ i p q. fragments-within n d left stop i q (omega arith)))
        (λ i above p q. elements-within n d delimited left stop i above q (omega arith))

    pub items-within : (n : ℕ) (d : List ℕ) (delimited : Bool) (left stop at : ℕ) → at ≤ stop → stop - at < n
        → Within at stop (items_by h n d delimited left stop at)
    items-within zero d delimited left stop at z l = absurd (omega arith)
    items-within (suc n) d delimited left stop at z l =
        item-within stop at z _ _ (h.item d true delimited stop at) (b.item_in d true delimited stop at)
        (λ inner end i p q r. elements-within n d inner (deeper left) end i 0 q (omega arith))
        (λ i p q. items-within n d delimited left stop i q (omega arith))

  -- what is read in an element's place lies in the extent
  pub one-by-in : (n : ℕ) (d : List ℕ) (delimited : Bool) (left stop at least : ℕ) → at ≤ stop → stop - at ≤ n → OneIn at stop (one_by n d delimited left stop at least)
  one-by-in n d delimited left stop at least z l =
      header-within stop at z (items_of n d left) (fragments_by h n d left stop) (h.element d delimited left stop at least) (b.element-in d delimited left stop at least)
      (λ inner end i p q r. items-within n d inner left end i q (omega arith))
      (λ i p q. fragments-within n d left stop i q (omega arith))

  pub one_in : (d : List ℕ) (delimited : Bool) (left stop at least : ℕ) → at ≤ stop → OneIn at stop (one_at h d delimited left stop at least)
  unfolding one_at items_at fragments_at
  one_in d delimited left stop at least z =
      header-within stop at z (λ inner. items_at h d inner left) (fragments_at h d left stop) (h.element d delimited left stop at least) (b.element-in d delimited left stop at least)
      (λ inner end i p q r. items-within (suc (end - i)) d inner left end i q (omega arith))
      (λ i p q. fragments-within (suc (stop - i)) d left stop i q (omega arith))
