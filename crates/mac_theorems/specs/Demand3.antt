-- Demand 3: docs/RULES.md, 1.8. 7.6: "Every call of list mode falls under demand 3, be it for the stream or for the check." All of it is
-- the record Demand3, proved in proofs/Demand3.antt.
-- Assumes nothing.
use Rattle.std.specs.Prelude.{ℕ, ◌≡◌, ◌↔◌, ◌≢◌, Bool, false, ◌||◌, List, [], ◌∷◌, take}
use Rattle.std.proofs.Math.Option.{Option, some}
use Rattle.std.proofs.Math.Option as Opt
use Rattle.dataset.specs.Tree.{Element, Elements}
use Rattle.dataset.specs.Reading.{WellFormed, tree}
use Rattle.dataset.specs.Lookup.{element_of}
use Rattle.stream.specs.TagList.{tags_in}
use Rattle.stream.specs.Content.{SignedElements, some_in_fragments}
use Rattle.answer.specs.declared.Answer.{Answer}
use Rattle.stream.specs.UN.{holds_un}
use Rattle.mac.specs.ListMode.{Call, content_of}
use Rattle.mac_theorems.specs.Calls.{in_list_mode, Run, PromisedRuns}

-- 6.5: "has something signed in fragments"
abbrev pub signed_in_fragments : Option SignedElements → Bool
signed_in_fragments Opt.none = false
signed_in_fragments (some es) = some_in_fragments es

-- 7.7: a UN "in a listed sequence", which it is "however deep it stands, inside a barred element too, as in 4.5"
abbrev pub found_holds_un : Option Element → Bool
found_holds_un Opt.none = false
found_holds_un (some e) = holds_un e

unfoldable pub listed_hold_un : (tags : List ℕ) → Elements → Bool
listed_hold_un [] es = false
listed_hold_un (tag ∷ tags) es = found_holds_un (element_of tag es) || listed_hold_un tags es

-- the same call on another data set
abbrev pub on : Call → List ℕ → Call
on c s = record { list = c.list; set = s; room = c.room; expected = c.expected }

-- the stream that a call has written: the first bytes of the output, "as many as the answers' length" (7.8)
abbrev pub written : Answer → List ℕ → List ℕ
written a after = take a.length after

-- First half (1.8), of what two accepted calls have written, whatever their data sets and lists. Nothing signed is in fragments in one of
-- them; of the other nothing is asked (docs/DECISIONS.md, L13).
abbrev pub FirstHalf : Type 0
FirstHalf =
    (c k : Call) (out out' after after' : List ℕ) (a a' : Answer) (said said' : ℕ)
    → Run (in_list_mode c) out a said after → Run (in_list_mode k) out' a' said' after'
    → a.number ≡ 0 → a'.number ≡ 0 → signed_in_fragments (content_of c) ≡ false
    → (written a after ≡ written a' after') ↔ (content_of c ≡ content_of k)

-- the call's data set is well-formed, holds every listed tag, and has no UN in a listed sequence
pub record HasSignedContent (c : Call) : Type 0 where
  pub well_formed : WellFormed c.set
  pub holds : content_of c ≢ Opt.none
  pub known : listed_hold_un (tags_in c.list) (tree c.set) ≡ false

-- 7.8: "the two calls have equal answers and, if they are checks, equal verdicts; and their outputs or work buffers start with the same
-- bytes"
pub record SameRun (a a' : Answer) (said said' : ℕ) (after after' : List ℕ) : Type 0 where
  pub answers : a' ≡ a
  pub verdicts : said' ≡ said
  pub streams : written a' after' ≡ written a after

-- Second half (1.8), of a call, refused or not, fragments or not, that has a signed content: what the same call on another data set with the
-- same signed content gives back is the same (docs/DECISIONS.md, L12).
abbrev pub SecondHalf : Type 0
SecondHalf =
    (c : Call) (s out out' after after' : List ℕ) (a a' : Answer) (said said' : ℕ)
    → Run (in_list_mode c) out a said after → Run (in_list_mode (on c s)) out' a' said' after'
    → HasSignedContent c → HasSignedContent (on c s) → content_of (on c s) ≡ content_of c
    → SameRun a a' said said' after after'

-- The data set of an accepted call is well-formed, holds every listed tag and has no UN in a listed sequence: the second half speaks of
-- every accepted call.
abbrev pub AcceptedHasContent : Type 0
AcceptedHasContent =
    (c : Call) (out after : List ℕ) (a : Answer) (said : ℕ) → Run (in_list_mode c) out a said after → a.number ≡ 0 → HasSignedContent c

-- the two halves speak of what the functions give back: theirs are such runs
pub record Demand3 : Type 0 where
  pub promised : PromisedRuns
  pub first-half : FirstHalf
  pub second-half : SecondHalf
  pub accepted-has-content : AcceptedHasContent
