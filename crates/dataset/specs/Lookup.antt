-- The lookup: RULES, 3. Assumes nothing.
use Rattle.std.specs.Prelude.{ℕ, ◌+◌, ◌-◌, ◌≡◌, Bool, true, false, List, eqb, length, if◌then◌else◌}
use Rattle.std.proofs.Math.Option.{Option, some}
use Rattle.std.proofs.Math.Option as Opt
use Rattle.answer.specs.declared.Answer.{Answer}
use Rattle.answer.specs.Answer as answer
use Rattle.slices.specs.Lists.{between}
use Rattle.dataset.specs.Tree.{Element, Elements, none, and, tag_of, span_of}
use Rattle.dataset.specs.Reading.{Reading, fault, read, data_set}
use Rattle.dataset.specs.declared.lookup.Found.{Found}

-- Found (src/lookup.rt): answer present start length

-- the element of "a tag at the top level" (3.1): items are not searched
unfoldable pub element_of : (tag : ℕ) → Elements → Option Element
element_of tag none = Opt.none
element_of tag (and e rest) = if eqb (tag_of e) tag then some e else element_of tag rest

-- 3.2: "the part has no bytes and lies at the data set's end", and a no
abbrev pub absent : Answer → (size : ℕ) → Found
absent a size = record { answer = a; present = false; start = size; length = 0 }

-- 3.1: "the value of a tag at the top level, as a part of the data set that it was lent; the sequence delimiter that closes an element of
-- undefined length is not in it", and a yes
abbrev pub present : (start end : ℕ) → Found
present start end = record { answer = answer.accepted 0; present = true; start = start; length = end - start }

-- what is handed back for a well-formed data set of `size` bytes: by its element with the tag, or none
unfoldable pub found_of : (size : ℕ) → Option Element → Found
found_of size Opt.none = absent (answer.accepted 0) size
found_of size (some e) = present (span_of e).start (span_of e).end

-- 3.3: "the reading's number (0 to 8) and position, and a yes or no that says if the tag was found"
unfoldable pub found_in : (size tag : ℕ) → Reading Elements → Found
found_in size tag (fault f) = absent f size
found_in size tag (read es next) = found_of size (element_of tag es)

-- the lookup of a tag in a data set: one reading of the whole
unfoldable pub found : List ℕ → (tag : ℕ) → Found
found d tag = found_in (length d) tag (data_set d)

-- What lookup hands back: a part of the lent data set, not a copy, by its offset and its length; beside it the reading's answer and the
-- yes or no. A place is a block of memory and an offset in it: `lent` is where the data set starts, `place` where the part starts.
pub record Lookup (f : Found) (lent : ℕ × ℕ) (d : List ℕ) (place : ℕ × ℕ) (value : List ℕ) (answer : Answer) (yes : Bool) : Type 0 where
  pub block : place.0 ≡ lent.0
  pub offset : place.1 ≡ lent.1 + f.start
  pub part : value ≡ between d f.start (f.start + f.length)
  pub answered : answer ≡ f.answer
  pub stands : yes ≡ f.present
