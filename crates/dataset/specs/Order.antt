-- Where the parts of a tree lie in the data set, and what stands there: what the reading guarantees and what it accepts (`InOrder` and
-- `FilledIsRead` of Theorems.antt). Assumes nothing.
use Rattle.std.specs.Prelude.{ℕ, ◌+◌, ◌-◌, ◌%◌, ◌≤◌, ◌<◌, ◌≡◌, ◌≢◌, Bool, true, false, List, [], ◌∷◌, if◌then◌else◌}
use Rattle.dataset.specs.Bytes.{num16, num32, tag_at, vr_at}
use Rattle.dataset.specs.Vr.{OB, SQ, form_of}
use Rattle.dataset.specs.Header.{undefined}
use Rattle.dataset.specs.Tags.{item_tag, item_delimitation_item, sequence_delimitation_item}
use Rattle.dataset.specs.Reading.{deeper}
use Rattle.dataset.specs.Tree.{Span, Element, value, sequence, fragments, Elements, none, and, Items, last, item, tag_of}
use Rattle.dataset.specs.declared.vr.Form.{Form}
use Rattle.dataset.specs.declared.vr.Form.TheVariants.{Short, Long, Neither}

-- the tag is that of the header at `at`, and not of group FFFE
pub record Tagged (d : List ℕ) (at tag : ℕ) : Type 0 where
  pub stands : tag ≡ tag_at d at
  pub group : num16 d at ≢ 0xFFFE

-- where the value starts after the header at `at`, and its length n as the header has it; in the long form the "two reserved bytes, both
-- zero" (2.7) too
abbrev pub Sized : Form → List ℕ → (at start n : ℕ) → Type 0
Sized Short d at start n = (start ≡ at + 8) × (num16 d (at + 6) ≡ n)
Sized Long d at start n = (start ≡ at + 12) × (num16 d (at + 6) ≡ 0) × (num32 d (at + 8) ≡ n)
Sized Neither d at start n = ⊥

-- a value that is not looked into, of even length, in an extent that ends at `stop`
pub record ValueAt (d : List ℕ) (stop at tag vr start end : ℕ) : Type 0 where
  pub tagged : Tagged d at tag
  pub letters : vr ≡ vr_at d at
  pub form : Sized (form_of vr) d at start (end - start)
  pub plain : vr ≢ SQ
  pub order : start ≤ end
  pub inside : end ≤ stop
  pub even : (end - start) % 2 ≡ 0

-- an SQ, or an OB in fragments, whose inside starts at `start`
pub record NestAt (d : List ℕ) (stop at tag vr start : ℕ) : Type 0 where
  pub tagged : Tagged d at tag
  pub letters : vr_at d at ≡ vr
  pub reserved : num16 d (at + 6) ≡ 0
  pub starts : start ≡ at + 12
  pub inside : start ≤ stop

-- The extent, up to `end`, of what starts at `start` and has the length n in its header: up to the end of the extent round it, where n is
-- undefined (2.8) and a delimiter ends it (`delimited`); else n bytes, "even" and "inside the extent" (2.13).
abbrev pub HeaderExtent : (n stop start end : ℕ) (delimited : Bool) → Type 0
HeaderExtent n stop start end true = (n ≡ undefined) × (end ≡ stop)
HeaderExtent n stop start end false = (n % 2 ≡ 0) × (end ≡ start + n) × (end ≤ stop)

-- The end of elements, items or fragments at `at`, in an extent up to `stop`, and what follows it at `next`: a defined length is filled
-- exactly; otherwise the delimiter "with length 0" (2.14, 2.15, 2.17) stands there, in the extent.
abbrev pub EndsIn : List ℕ → (delimiter : ℕ) (delimited : Bool) (stop at next : ℕ) → Type 0
EndsIn d delimiter true stop at next = (tag_at d at ≡ delimiter) × (num32 d (at + 4) ≡ 0) × (next ≡ at + 8) × (next ≤ stop)
EndsIn d delimiter false stop at next = (at ≡ stop) × (next ≡ at)

-- fragments, each after the one before it, from `at` to what follows their delimiter at `next`, in an extent up to `stop`
unfoldable pub FragmentsFill : List Span → List ℕ → (stop at next : ℕ) → Type 0
FragmentsFill [] d stop at next = EndsIn d sequence_delimitation_item true stop at next
FragmentsFill (s ∷ ss) d stop at next =
    (tag_at d at ≡ item_tag) × (s.start ≡ at + 8) × HeaderExtent (num32 d (at + 4)) stop s.start s.end false × FragmentsFill ss d stop s.end next

-- An element, elements and items from `at` to what follows them at `next`, with `left` levels, in an extent up to `stop`, or before it at
-- a delimiter (`delimited`): each part starts where the one before it ends, an element's tag is at least `least`, and the tags of one
-- data set ascend. What a sequence or an item holds fills the extent that its length gives; a closing delimiter, of 8 bytes, is no part
-- of the value.
unfoldable mutual
  pub ElementFills : Element → List ℕ → (left stop at next : ℕ) → Type 0
  ElementFills (value p tag vr span) d left stop at next =
      (p ≡ at) × ValueAt d stop at tag vr span.start span.end × (next ≡ span.end)
  ElementFills (sequence p tag span items) d left stop at next =
      (delimited : Bool) × (end : ℕ) × (p ≡ at) × NestAt d stop at tag SQ span.start × (0 < left)
      × HeaderExtent (num32 d (at + 8)) stop span.start end delimited × ItemsFill items d delimited left end span.start next
      × (span.end ≡ (if delimited then next - 8 else next))
  ElementFills (fragments p tag span parts) d left stop at next =
      (p ≡ at) × NestAt d stop at tag OB span.start × (num32 d (at + 8) ≡ undefined) × FragmentsFill parts d stop span.start next
      × (span.end ≡ next - 8)

  pub ElementsFill : Elements → List ℕ → (delimited : Bool) (left stop at least next : ℕ) → Type 0
  ElementsFill none d delimited left stop at least next = EndsIn d item_delimitation_item delimited stop at next
  ElementsFill (and e rest) d delimited left stop at least next =
      (mid : ℕ) × (least ≤ tag_of e) × ElementFills e d left stop at mid × ElementsFill rest d delimited left stop mid (tag_of e + 1) next

  pub ItemsFill : Items → List ℕ → (delimited : Bool) (left stop at next : ℕ) → Type 0
  ItemsFill last d delimited left stop at next = EndsIn d sequence_delimitation_item delimited stop at next
  ItemsFill (item p elements rest) d delimited left stop at next =
      (inner : Bool) × (end : ℕ) × (mid : ℕ) × (p ≡ at) × (tag_at d at ≡ item_tag) × HeaderExtent (num32 d (at + 4)) stop (at + 8) end inner
      × ElementsFill elements d inner (deeper left) end (at + 8) 0 mid × ItemsFill rest d delimited left stop mid next
