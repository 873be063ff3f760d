-- What the reading guarantees of the tree: where each part lies in the data set and what stands there (specs/Order.antt). Assumes nothing.
use Prim.Native.Nat.{ℕ, zero, suc, ◌+◌, ◌-◌, ◌≤◌}
use mathlib.Core.Path.{◌≡◌, refl, sym, ◌∙◌, subst}
use mathlib.Core.Bool.{Bool, true, false, true≢false}
use mathlib.Core.List.{List}
use native.Mathlib.Omega.{arith}
use lib.ListN.{length}
use lib.Dec.{ltb}
use borrow.Author.Tests.{ltb-false, ltb-true}
use Rattle.dataset.specs.Bytes.{num32}
use Rattle.dataset.specs.Header.{ElementHeader, ItemHeader, element_at, item_at}
use Rattle.dataset.specs.Tags.{item_delimitation_item}
use Rattle.dataset.specs.Tree.{Span, Elements, Items, tag_of}
use Rattle.dataset.specs.Order.{HeaderExtent, EndsIn, FragmentsFill, ElementFills, ElementsFill, ItemsFill}
use Rattle.dataset.proofs.Laws.Reading.Lies.{ElementsLie}
use Rattle.dataset.specs.Reading.{Reading, fault, read, ◌>>=◌, One, ended, element, explicit, by_header, by_one, by_item, by_fragment, fragments_by, elements_by, items_by, fragments_at, elements_at, items_at, one_at, size_limit, levels, data_set, deeper}
use Rattle.dataset.proofs.Laws.Header.HeaderFacts.{ElementFacts, ItemFacts, element-facts, item-facts}
pub use Rattle.dataset.proofs.Laws.Reading.Order.{ElementIn, ElementsIn}
use Rattle.dataset.proofs.Laws.Reading.Order.{element-in, elements-in}
use Rattle.dataset.proofs.Laws.Reading.Loops.{data-set-is, data-set-over}

-- ---- a property of what is read and of what follows it
abbrev pub Holds : {A : Type 0} → (A → ℕ → Type 0) → Reading A → Type 0
Holds P (fault f) = Unit {0}
Holds P (read a n) = P a n

pub then-holds : {A B : Type 0} (P : A → ℕ → Type 0) (Q : B → ℕ → Type 0) (p : Reading A) (k : A × ℕ → Reading B) → Holds P p
    → ((a : A) (n : ℕ) → P a n → Holds Q (k (a, n))) → Holds Q (p >>= k)
then-holds P Q (fault f) k h g = tt
then-holds P Q (read a n) k h g = g a n h

pub holds_read : {A : Type 0} (P : A → ℕ → Type 0) (p : Reading A) (a : A) (n : ℕ) → Holds P p → p ≡ read a n → P a n
holds_read P (fault f) a n h e = absurd (true≢false (cc))
holds_read P (read b m) a n h e = let x : b ≡ a = cc in let y : m ≡ n = cc in rw (← x, ← y) h

pub holds-map : {A : Type 0} (P Q : A → ℕ → Type 0) (p : Reading A) → ((a : A) (n : ℕ) → P a n → Q a n) → Holds P p → Holds Q p
holds-map P Q (fault f) g h = tt
holds-map P Q (read a n) g h = g a n h

-- ---- what is read from `at` on fills its extent
abbrev PartsAre : List ℕ → (stop at : ℕ) → List Span → ℕ → Type 0
PartsAre d stop at ss n = FragmentsFill ss d stop at n

abbrev OneFills : List ℕ → (delimited : Bool) (left stop at least : ℕ) → One → ℕ → Type 0
OneFills d delimited left stop at least ended n = EndsIn d item_delimitation_item delimited stop at n
OneFills d delimited left stop at least (element e) n = (least ≤ tag_of e) × ElementFills e d left stop at n

abbrev ElementsAre : List ℕ → (delimited : Bool) (left stop at least : ℕ) → Elements → ℕ → Type 0
ElementsAre d delimited left stop at least es n = ElementsFill es d delimited left stop at least n

abbrev ItemsAre : List ℕ → (delimited : Bool) (left stop at : ℕ) → Items → ℕ → Type 0
ItemsAre d delimited left stop at is n = ItemsFill is d delimited left stop at n

-- ---- one step, by what stands there
module _ (d : List ℕ) (stop at : ℕ) where
  fragment-fills : (parts : ℕ → Reading (List Span)) (p : ItemHeader) → ItemFacts d false true stop at p
      → ((i : ℕ) → Holds (PartsAre d stop i) (parts i)) → Holds (PartsAre d stop at) (by_fragment parts p)
  unfolding by_fragment FragmentsFill
  fragment-fills parts (ItemHeader.refused a) h f = tt
  fragment-fills parts (ItemHeader.ends next) h f = h.ends
  fragment-fills parts (ItemHeader.item start end inner) h f =
      let k = h.0 in
      let x : HeaderExtent (num32 d (at + 4)) stop start end false = rw (h.1 refl) at k.extent in
      then-holds (PartsAre d stop end) (PartsAre d stop at) (parts end) _ (f end) λ ss n j. (k.tag, k.starts, x, j)

  header-fills : (delimited : Bool) (left least : ℕ) (items : Bool → ℕ → ℕ → Reading Items) (parts : ℕ → Reading (List Span)) (p : ElementHeader)
      → ElementFacts d delimited left stop at least p
      → ((inner : Bool) (end i : ℕ) → Holds (ItemsAre d inner left end i) (items inner end i))
      → ((i : ℕ) → Holds (PartsAre d stop i) (parts i)) → Holds (OneFills d delimited left stop at least) (by_header items parts at p)
  unfolding by_header ElementFills
  header-fills delimited left least items parts (ElementHeader.refused a) h f g = tt
  header-fills delimited left least items parts (ElementHeader.ends next) h f g = h.ends
  header-fills delimited left least items parts (ElementHeader.value tag vr start end) h f g = (h.0, (refl, h.1, refl))
  header-fills delimited left least items parts (ElementHeader.sequence tag start end inner) h f g =
      then-holds (ItemsAre d inner left end start) (OneFills d delimited left stop at least) (items inner end start) _ (f inner end start) λ is n j.
      (h.0, (inner, end, refl, h.1, h.4, h.6, j, refl))
  header-fills delimited left least items parts (ElementHeader.fragments tag start) h f g =
      then-holds (PartsAre d stop start) (OneFills d delimited left stop at least) (parts start) _ (g start) λ ss n j.
      (h.0, (refl, h.1, h.3, j, refl))

  one-fills : (delimited : Bool) (left least : ℕ) (elements : ℕ → ℕ → Reading Elements) (o : One) (n : ℕ) → OneFills d delimited left stop at least o n
      → ((i above : ℕ) → Holds (ElementsAre d delimited left stop i above) (elements i above))
      → Holds (ElementsAre d delimited left stop at least) (by_one elements (o, n))
  unfolding by_one ElementsFill
  one-fills delimited left least elements ended n h f = h
  one-fills delimited left least elements (element e) n h f =
      then-holds (ElementsAre d delimited left stop n (tag_of e + 1)) (ElementsAre d delimited left stop at least) (elements n (tag_of e + 1)) _
      (f n (tag_of e + 1)) λ es m j. (n, h.0, h.1, j)

  item-fills : (delimited : Bool) (left : ℕ) (elements : Bool → ℕ → ℕ → Reading Elements) (items : ℕ → Reading Items) (p : ItemHeader)
      → ItemFacts d true delimited stop at p
      → ((inner : Bool) (end i : ℕ) → Holds (ElementsAre d inner (deeper left) end i 0) (elements inner end i))
      → ((i : ℕ) → Holds (ItemsAre d delimited left stop i) (items i))
      → Holds (ItemsAre d delimited left stop at) (by_item elements items at p)
  unfolding by_item ItemsFill
  item-fills delimited left elements items (ItemHeader.refused a) h f g = tt
  item-fills delimited left elements items (ItemHeader.ends next) h f g = h.ends
  item-fills delimited left elements items (ItemHeader.item start end inner) h f g =
      let s = h.0.starts in
      then-holds (ElementsAre d inner (deeper left) end start 0) (ItemsAre d delimited left stop at) (elements inner end start) _ (f inner end start) λ es n k.
      then-holds (ItemsAre d delimited left stop n) (ItemsAre d delimited left stop at) (items n) _ (g n) λ is m j. (
        inner,
        end,
        n,
        refl,
        h.0.tag,
        subst (λ (x : ℕ). HeaderExtent (num32 d (at + 4)) stop x end inner) s h.0.extent,
        subst (λ (x : ℕ). ElementsFill es d inner (deeper left) end x 0 n) s k,
        j,
      )

-- ---- the whole recursion, by its fuel
fragments-fill : (n : ℕ) (d : List ℕ) (left stop at : ℕ) → Holds (PartsAre d stop at) (fragments_by explicit n d left stop at)
unfolding fragments_by
fragments-fill zero d left stop at = tt
fragments-fill (suc n) d left stop at =
    fragment-fills d stop at (fragments_by explicit n d left stop) (item_at d false true stop at) (item-facts d false true stop at) λ i. fragments-fill n d left stop i

mutual
  unfolding elements_by

  elements-fill : (n : ℕ) (d : List ℕ) (delimited : Bool) (left stop at least : ℕ)
      → Holds (ElementsAre d delimited left stop at least) (elements_by explicit n d delimited left stop at least)
  elements-fill zero d delimited left stop at least = tt
  elements-fill (suc n) d delimited left stop at least =
      then-holds (OneFills d delimited left stop at least) (ElementsAre d delimited left stop at least)
      (by_header (λ inner end i. items_by explicit n d inner left end i) (fragments_by explicit n d left stop) at (element_at d delimited left stop at least))
      (by_one (λ i above. elements_by explicit n d delimited left stop i above))
      (header-fills d stop at delimited left least (λ inner end i. items_by explicit n d inner left end i) (fragments_by explicit n d left stop)
      (element_at d delimited left stop at least) (element-facts d delimited left stop at least)
      (λ inner end i. items-fill n d inner left end i)
      (λ i. fragments-fill n d left stop i))
      (λ o m h. one-fills d stop at delimited left least (λ i above. elements_by explicit n d delimited left stop i above) o m h
      λ i above. elements-fill n d delimited left stop i above)

  items-fill : (n : ℕ) (d : List ℕ) (delimited : Bool) (left stop at : ℕ)
      → Holds (ItemsAre d delimited left stop at) (items_by explicit n d delimited left stop at)
  items-fill zero d delimited left stop at = tt
  items-fill (suc n) d delimited left stop at =
      item-fills d stop at delimited left (λ inner end i. elements_by explicit n d inner (deeper left) end i 0) (λ i. items_by explicit n d delimited left stop i)
      (item_at d true delimited stop at) (item-facts d true delimited stop at)
      (λ inner end i. elements-fill n d inner (deeper left) end i 0)
      (λ i. items-fill n d delimited left stop i)

-- ---- items of defined length fill it
all-filled : (is : Items) (d : List ℕ) (left stop at n : ℕ) → ItemsFill is d false left stop at n → n ≡ stop
unfolding ItemsFill
all-filled Items.last d left stop at n r = r.1 ∙ r.0
all-filled (Items.item p es is) d left stop at n r = all-filled is d left stop r.2 n r.7

pub items-filled : (d : List ℕ) (left stop at : ℕ) (is : Items) (n : ℕ) → items_at explicit d false left stop at ≡ read is n → n ≡ stop
unfolding items_at
items-filled d left stop at is n e =
    all-filled is d left stop at n (holds_read (ItemsAre d false left stop at) (items_at explicit d false left stop at) is n (items-fill (suc (stop - at)) d false left stop at) e)

-- ---- what is read in an extent inside the data set lies in it
pub elements-read : (d : List ℕ) (left stop at : ℕ) → stop ≤ length d → (delimited : Bool) (least : ℕ)
    → Holds (ElementsIn d delimited left stop least at) (elements_at explicit d delimited left stop at least)
unfolding elements_at
elements-read d left stop at l delimited least =
    holds-map (ElementsAre d delimited left stop at least) (ElementsIn d delimited left stop least at) (elements_at explicit d delimited left stop at least)
    (λ es n. elements-in es d delimited left stop least at n l) (elements-fill (suc (stop - at)) d delimited left stop at least)

abbrev pub OneIs : List ℕ → (delimited : Bool) (left stop least at : ℕ) → One → ℕ → Type 0
OneIs d delimited left stop least at ended n = EndsIn d item_delimitation_item delimited stop at n
OneIs d delimited left stop least at (element e) n = ElementIn d left stop least at e n

pub one-read : (d : List ℕ) (left stop at : ℕ) → stop ≤ length d → (delimited : Bool) (least : ℕ)
    → Holds (OneIs d delimited left stop least at) (one_at explicit d delimited left stop at least)
unfolding one_at items_at fragments_at
one-read d left stop at l delimited least =
    holds-map (OneFills d delimited left stop at least) (OneIs d delimited left stop least at) (one_at explicit d delimited left stop at least) go
    (header-fills d stop at delimited left least (λ inner. items_at explicit d inner left) (fragments_at explicit d left stop)
    (element_at d delimited left stop at least) (element-facts d delimited left stop at least)
    (λ inner end i. items-fill (suc (end - i)) d inner left end i)
    (λ i. fragments-fill (suc (stop - i)) d left stop i))
  where
    go : (o : One) (n : ℕ) → OneFills d delimited left stop at least o n → OneIs d delimited left stop least at o n
    go ended n h = h
    go (element e) n h = element-in e d left stop least at n l h.0 h.1

-- ---- a data set that is read: it is not over the size, and its tree fills it
pub record DataSetIs (d : List ℕ) (es : Elements) (n : ℕ) : Type 0 where
  pub small : length d ≤ size_limit
  pub tree : ElementsLie es d levels 0 0 n
  pub whole : n ≡ length d
  pub fills : ElementsFill es d false levels (length d) 0 0 n

pub data-set-read : (d : List ℕ) (es : Elements) (n : ℕ) → data_set d ≡ read es n → DataSetIs d es n
unfolding elements_at
data-set-read d es n e = go (ltb size_limit (length d)) refl
  where
    go : (b : Bool) → ltb size_limit (length d) ≡ b → DataSetIs d es n
    go false b =
        let s = ltb-false size_limit (length d) b in
        let f = holds_read (ElementsAre d false levels (length d) 0 0) (elements_at explicit d false levels (length d) 0 0) es n
        (elements-fill (suc (length d - 0)) d false levels (length d) 0 0) (sym (data-set-is d s) ∙ e) in
        let h = elements-in es d false levels (length d) 0 0 n (omega arith) f in
        record { small = s; tree = h.tree; whole = h.filled refl; fills = f }
    go true b = absurd (true≢false (let z = data-set-over d (ltb-true size_limit (length d) b) in cc))
