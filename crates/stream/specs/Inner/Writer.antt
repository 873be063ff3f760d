-- For inner contracts; no part of what a reader has to believe: the walk that reads, finds UN, measures and writes. It answers the fault of
-- its reading, or what was read; where the reading is good it leaves the stream in the output. A byte past the end of the output is not
-- written, so that a walk with an empty output measures.
-- Assumes nothing.
use Rattle.std.specs.Prelude.{ℕ, ◌+◌, ◌≡◌, Bool, false, List, [], Result, Ok, Err, length, if◌then◌else◌}
use Rattle.std.proofs.lemmas.List.Edits.{sets}
use Rattle.answer.specs.declared.Answer.{Answer}
use Rattle.dataset.specs.Header.{ElementHeader, element_at}
use Rattle.dataset.specs.Tree.{tag_of}
use Rattle.dataset.specs.Reading.{Reading, fault, read, One, ended, element, explicit, by_header, items_at, fragments_at, one_at}
use Rattle.dataset.specs.Extent.{elements_in, items_in}
use Rattle.dataset.specs.declared.extent.Extent.{Extent}
use Rattle.stream.specs.Stream.{stream_of, elements_stream, items_stream, fragments_stream}
use Rattle.stream.specs.UN.{is_un, holds_un, elements_hold_un, items_hold_un}
use Rattle.stream.specs.Inner.Keep.{keeps, every}
use Rattle.stream.specs.declared.keep.Keep.{Keep}
use Rattle.stream.specs.declared.writer.Written.{Written}
use Rattle.stream.specs.declared.writer.OneWritten.{OneWritten}
use Rattle.stream.specs.declared.writer.OneWritten.TheVariants as one

-- ---- what a walk answers of its reading, and leaves in the output

-- of elements, items or fragments, by which of them hold UN and by their stream: the fault; or whether UN stands there, what follows in the
-- data set and in the stream
unfoldable pub walked : {A : Type 0} → (holds : A → Bool) (stream : A → List ℕ → List ℕ) → Reading A → (d : List ℕ) (to : ℕ) → Result Written Answer
walked holds stream (fault f) d to = Err f
walked holds stream (read a next) d to = Ok (record { holds_un = holds a; next = next; to = to + length (stream a d) })

-- what holds no UN: fragments, and the signature item's own elements
unfoldable pub holds_none : {A : Type 0} → A → Bool
holds_none a = false

-- the stream of what is read in an element's place: that of an element, if it is kept
unfoldable pub one_stream : (kept : ℕ → Bool) → One → List ℕ → List ℕ
one_stream kept ended d = []
one_stream kept (element e) d = if kept (tag_of e) then stream_of e d else []

-- of what is read in an element's place
unfoldable pub one_walked : (kept : ℕ → Bool) → Reading One → (d : List ℕ) (to : ℕ) → Result OneWritten Answer
one_walked kept (fault f) d to = Err f
one_walked kept (read ended next) d to = Ok (one.End next)
one_walked kept (read (element e) next) d to =
    Ok (one.Element (tag_of e) (is_un e) (holds_un e) next (to + length (one_stream kept (element e) d)))

-- the output before and after: where the reading is good, its stream is written from `to` on
unfoldable pub Leaves : {A : Type 0} → (stream : A → List ℕ → List ℕ) → Reading A → (d : List ℕ) (to : ℕ) (before after : List ℕ) → Type 0
Leaves stream (fault f) d to before after = Unit {0}
Leaves stream (read a next) d to before after = after ≡ sets before to (stream a d)

-- r is what a walk over the reading p answers
pub record Walk {A R : Type 0} (answer : Reading A → List ℕ → ℕ → R) (stream : A → List ℕ → List ℕ) (p : Reading A) (d : List ℕ) (to : ℕ)
    (r : R) (before after : List ℕ) : Type 0 where
  pub answers : r ≡ answer p d to
  pub output : Leaves stream p d to before after

-- ---- helpers

-- what is read at `at` by the header that stands there
unfoldable pub by_header_at : List ℕ → (left stop at : ℕ) → ElementHeader → Reading One
by_header_at d left stop at h = by_header (λ inner. items_at explicit d inner left) (fragments_at explicit d left stop) at h

-- h stands at `at` in an element's place
pub record HeaderAt (d : List ℕ) (left stop at : ℕ) (h : ElementHeader) : Type 0 where
  pub delimited : Bool
  pub least : ℕ
  pub is : h ≡ element_at d delimited left stop at least

-- an element that holds items or fragments, by what the walk over these gives
abbrev pub nested_written : (tag : ℕ) → Written → OneWritten
nested_written tag inside = one.Element tag false inside.holds_un inside.next inside.to

-- an element that is not kept: the offset in the stream stays
abbrev pub with_offset : OneWritten → (to : ℕ) → OneWritten
with_offset (one.End next) to = one.End next
with_offset (one.Element tag is_un holds next past) to = one.Element tag is_un holds next to

-- ---- the walks

abbrev pub FragmentsWalk : List ℕ → (left stop from to : ℕ) → Result Written Answer → (before after : List ℕ) → Type 0
FragmentsWalk d left stop from to r before after =
    Walk (walked holds_none fragments_stream) fragments_stream (fragments_at explicit d left stop from) d to r before after

abbrev pub ElementWalk : List ℕ → (left stop at : ℕ) → ElementHeader → (to : ℕ) → Result OneWritten Answer → (before after : List ℕ) → Type 0
ElementWalk d left stop at h to r before after = Walk (one_walked every) (one_stream every) (by_header_at d left stop at h) d to r before after

abbrev pub OneWalk : Keep → List ℕ → (delimited : Bool) (left stop at least to : ℕ) → Result OneWritten Answer → (before after : List ℕ) → Type 0
OneWalk k d delimited left stop at least to r before after =
    Walk (one_walked (keeps k)) (one_stream (keeps k)) (one_at explicit d delimited left stop at least) d to r before after

abbrev pub ElementsWalk : List ℕ → Extent → (to : ℕ) → Result Written Answer → (before after : List ℕ) → Type 0
ElementsWalk d x to r before after = Walk (walked elements_hold_un elements_stream) elements_stream (elements_in d x) d to r before after

abbrev pub ItemsWalk : List ℕ → Extent → (to : ℕ) → Result Written Answer → (before after : List ℕ) → Type 0
ItemsWalk d x to r before after = Walk (walked items_hold_un items_stream) items_stream (items_in d x) d to r before after
