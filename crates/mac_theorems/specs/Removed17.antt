-- A rule that was removed (docs/changes/P10.md): number 17, with position 0, for a sequence that has a UN in what is written of it; it was
-- the last of both orders, after 9 and 16. Here it stands once more, with the orders as they were, and the theorem that every call answers
-- the same without it.
-- Assumes nothing.
use Rattle.std.specs.Prelude.{ℕ, ◌≡◌, ◌≢◌, Bool, false, ◌||◌, List, eqb, ltb, length, if◌then◌else◌}
use Rattle.std.proofs.Math.Option.{Option, some}
use Rattle.std.proofs.Math.Option as Opt
use Rattle.answer.specs.declared.Answer.{Answer}
use Rattle.answer.specs.Answer.{accepted, refused, ◌or_else◌}
use Rattle.dataset.specs.Vr.{UN}
use Rattle.dataset.specs.Tree.{Elements}
use Rattle.dataset.specs.Reading.{size_answer, data_set, answer_of, tree}
use Rattle.stream.specs.TagList.{tags_in, list_answer}
use Rattle.stream.specs.Content.{SignedElement, SignedElements, SignedItems, signed_elements, content}
use Rattle.stream.specs.Listed.{tags_answer}
use Rattle.mac.specs.Modes.{bad_digest_length}
use Rattle.mac.specs.ListMode as list_mode
use Rattle.selection.specs.Selection.{Selection, refusal, selected}
use Rattle.stream.specs.Own.{own}
use Rattle.mac.specs.SignatureMode.{stream_by}
use Rattle.mac.specs.SignatureMode as signature_mode
use Rattle.mac_theorems.specs.Calls.{EitherCall, in_list_mode, in_signature_mode, result_of}

-- ---- its condition: UN in what is written, which is the signed content and, in signature mode, the signature item's own elements. Barred
-- elements are not written, so that a UN in them does not count (docs/DECISIONS.md, L6).

unfoldable mutual
  pub writes_un : SignedElement → Bool
  writes_un (SignedElement.value tag vr bytes) = eqb vr UN
  writes_un (SignedElement.sequence tag items) = items_write_un items
  writes_un (SignedElement.fragments tag row) = false

  pub elements_write_un : SignedElements → Bool
  elements_write_un SignedElements.none = false
  elements_write_un (SignedElements.and e rest) = writes_un e || elements_write_un rest

  pub items_write_un : SignedItems → Bool
  items_write_un SignedItems.last = false
  items_write_un (SignedItems.item elements rest) = elements_write_un elements || items_write_un rest

-- some sequence has a UN in what is written of it
unfoldable pub sequences_write_un : SignedElements → Bool
sequences_write_un SignedElements.none = false
sequences_write_un (SignedElements.and (SignedElement.value tag vr bytes) rest) = sequences_write_un rest
sequences_write_un (SignedElements.and (SignedElement.sequence tag items) rest) = items_write_un items || sequences_write_un rest
sequences_write_un (SignedElements.and (SignedElement.fragments tag row) rest) = sequences_write_un rest

-- the same of a signed content; where there is none a refusal comes before
abbrev pub content_writes_un : Option SignedElements → Bool
content_writes_un Opt.none = false
content_writes_un (some es) = sequences_write_un es

-- the same of the listed elements or of the signature item's own
unfoldable pub signature_writes_un : (list : List ℕ) (item es : Elements) (d : List ℕ) → Bool
signature_writes_un list item es d = content_writes_un (content (tags_in list) es d) || sequences_write_un (signed_elements (own item) d)

-- ---- the orders as they were

-- 13, 14, 15 for each tag in turn, then 9, 16, 17: `tags_answer` and `answer_from9`, with 17 in its place
unfoldable pub answer_from13_with17 : (tags : List ℕ) → Elements → (met_un : Bool) (stream : List ℕ) (room : ℕ) (expected : Option (List ℕ)) → Answer
answer_from13_with17 tags es met_un stream room expected =
    tags_answer 0 tags es
    or_else (if bad_digest_length expected then refused 9 0 else accepted 0)
    or_else (if ltb room (length stream) then refused 16 0 else accepted 0)
    or_else (if met_un then refused 17 0 else accepted 0)
    or_else accepted (length stream)

-- the order of list mode (docs/RULES.md, 9.4), with 17 behind 16
unfoldable pub list_mode_with17 : list_mode.Call → Answer
list_mode_with17 c =
    size_answer c.set
    or_else list_answer c.list
    or_else answer_of (data_set c.set)
    or_else answer_from13_with17 (tags_in c.list) (tree c.set) (content_writes_un (list_mode.content_of c)) (list_mode.stream c) c.room c.expected

-- the order of signature mode from 18 on (9.5), with 17 behind 16
unfoldable pub answer_by_with17 : Selection → (d : List ℕ) (room : ℕ) (expected : Option (List ℕ)) → Answer
answer_by_with17 (refusal number) d room expected = refused number 0
answer_by_with17 (selected list algorithm es item) d room expected =
    list_answer list
    or_else answer_from13_with17 (tags_in list) es (signature_writes_un list item es d) (stream_by (selected list algorithm es item) d) room expected

-- the whole order of signature mode (9.5), with 17 behind 16; 1, which stands in `data_set` too, is written out
unfoldable pub signature_mode_with17 : signature_mode.Call → Answer
signature_mode_with17 c =
    size_answer c.set
    or_else answer_of (data_set c.set)
    or_else answer_by_with17 (signature_mode.selection c) c.set c.room c.expected

abbrev pub answer_with17 : EitherCall → Answer
answer_with17 (in_list_mode c) = list_mode_with17 c
answer_with17 (in_signature_mode c) = signature_mode_with17 c

-- ---- the theorem: no call gives 17, since 15 and what the signature item leaves out always come first; and every call, for the stream or
-- for the check, accepted or refused, answers without the rule as with it
pub record Without17 : Type 0 where
  pub never : (c : EitherCall) → (answer_with17 c).number ≢ 17
  pub same : (c : EitherCall) → (result_of c).answer ≡ answer_with17 c
