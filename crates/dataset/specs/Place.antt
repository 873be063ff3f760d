-- What stands under a tag of a data set, by where it lies (RULES, 2.10), and what the walk for two tags answers. `Place` and `Sought` are the
-- enum and the struct of src/seek.rt.
-- Assumes nothing.
use Rattle.std.specs.Prelude.{ℕ, ◌-◌, ◌≤◌, ◌<◌, ◌≡◌, List, Result, Ok, Err, length, if◌then◌else◌}
use Rattle.std.proofs.Math.Option.{Option, some}
use Rattle.std.proofs.Math.Option as Opt
use Rattle.answer.specs.declared.Answer.{Answer}
use Rattle.dataset.specs.Tree.{Span, Element, Elements, Items}
use Rattle.dataset.specs.Reading.{Reading, fault, read}
use Rattle.dataset.specs.Lookup.{element_of}
use Rattle.dataset.specs.Extent.{items_in}
use Rattle.dataset.specs.declared.extent.Extent.{Extent}
use Rattle.dataset.specs.declared.seek.Place.{Place}
use Rattle.dataset.specs.declared.seek.Place.TheVariants as place
use Rattle.dataset.specs.declared.seek.Sought.{Sought}

-- the extent lies inside the data
pub record Lies (d : List ℕ) (x : Extent) : Type 0 where
  pub order : x.from ≤ x.stop
  pub inside : x.stop ≤ length d

-- The items of a sequence are those that are read in the extent x, which starts where the value does, with a level left for them; what follows
-- them is where the value ends, or behind the delimiter of 8 bytes that closes it.
pub record ItemsAre (d : List ℕ) (span : Span) (items : Items) (x : Extent) : Type 0 where
  pub lies : Lies d x
  pub level : 0 < x.left
  pub starts : x.from ≡ span.start
  pub next : ℕ
  pub reads : items_in d x ≡ read items next
  pub ends : span.end ≡ (if x.delimited then next - 8 else next)

-- p is where the element lies: a value by its VR and its bytes, a sequence by an extent in which its items are read
abbrev pub ElementPlaced : List ℕ → Element → Place → Type 0
ElementPlaced d (Element.value at tag vr span) p = (p ≡ place.Value vr span.start span.end) × (span.start ≤ span.end) × (span.end ≤ length d)
ElementPlaced d (Element.sequence at tag span items) p = (x : Extent) × (p ≡ place.Items x) × ItemsAre d span items x
ElementPlaced d (Element.fragments at tag span parts) p = p ≡ place.Fragments

abbrev pub Placed : List ℕ → Option Element → Place → Type 0
Placed d Opt.none p = p ≡ place.Absent
Placed d (some e) p = ElementPlaced d e p

-- what `seek` answers in a data set whose elements are es: what stands under either tag, and the offset past the data set
pub record SoughtAs (d : List ℕ) (tag tag' : ℕ) (es : Elements) (next : ℕ) (r : Result Sought Answer) : Type 0 where
  pub first : Place
  pub second : Place
  pub is : r ≡ Ok (record { first = first; second = second; next = next })
  pub placed : Placed d (element_of tag es) first
  pub placed' : Placed d (element_of tag' es) second

-- by the reading of the data set: its fault, or that
abbrev pub SoughtIn : List ℕ → (tag tag' : ℕ) → Reading Elements → Result Sought Answer → Type 0
SoughtIn d tag tag' (fault f) r = r ≡ Err f
SoughtIn d tag tag' (read es next) r = SoughtAs d tag tag' es next r
