-- The starred examples, docs/RULES.md, 15.1 to 15.10: calls for the stream, what each gives back, and the signed contents of 15.5, 15.6 and
-- 15.9. Proved in proofs/Examples.antt.
-- Assumes nothing.
use Rattle.std.specs.Prelude.{ℕ, ◌≡◌, ◌≢◌, List, [], ◌∷◌, ◌++◌, map, length, drop, replicate}
use Rattle.std.proofs.Math.Option.{Option, some}
use Rattle.answer.specs.declared.Answer.{Answer}
use Rattle.answer.specs.Answer.{accepted, refused}
use Rattle.stream.specs.Content.{SignedElement, SignedElements, SignedItems}
use Rattle.mac.specs.Result.{output_after}
use Rattle.mac.specs.ListMode.{stream_call, content_of, answer, result}

pub record Example : Type 0 where
  pub list : List ℕ
  pub set : List ℕ
  pub room : ℕ
  pub answers : Answer
  pub stream : List ℕ

-- an output of this room, before the call
abbrev pub untouched : (room : ℕ) → List ℕ
untouched room = replicate room 0x55

-- what the call answers, and the output after it
abbrev pub given : Example → Answer × List ℕ
given x =
    let out = untouched x.room in
    let c = stream_call x.list x.set out in
    (answer c, output_after (result c) out)

abbrev pub wanted : Example → Answer × List ℕ
wanted x = (x.answers, x.stream ++ drop (length x.stream) (untouched x.room))

abbrev accepts : (list set : List ℕ) (room size : ℕ) (stream : List ℕ) → Example
accepts list set room size stream = record { list = list; set = set; room = room; answers = accepted size; stream = stream }

abbrev refuses : (list set : List ℕ) (room number position : ℕ) → Example
refuses list set room number position = record { list = list; set = set; room = room; answers = refused number position; stream = [] }

-- ---- the parts

-- 15.0: "A = 08 00 60 00 43 53 02 00 43 54. B = 10 00 10 00 50 4E 02 00 4C 69. S = 08 00 00 01 53 48 02 00 41 31."
abbrev pub A : List ℕ
A = 0x08 ∷ 0x00 ∷ 0x60 ∷ 0x00 ∷ 0x43 ∷ 0x53 ∷ 0x02 ∷ 0x00 ∷ 0x43 ∷ 0x54 ∷ []

abbrev B : List ℕ
B = 0x10 ∷ 0x00 ∷ 0x10 ∷ 0x00 ∷ 0x50 ∷ 0x4E ∷ 0x02 ∷ 0x00 ∷ 0x4C ∷ 0x69 ∷ []

abbrev S : List ℕ
S = 0x08 ∷ 0x00 ∷ 0x00 ∷ 0x01 ∷ 0x53 ∷ 0x48 ∷ 0x02 ∷ 0x00 ∷ 0x41 ∷ 0x31 ∷ []

-- 15.4: "B with the length 3 and a third letter"
abbrev B3 : List ℕ
B3 = 0x10 ∷ 0x00 ∷ 0x10 ∷ 0x00 ∷ 0x50 ∷ 0x4E ∷ 0x03 ∷ 0x00 ∷ 0x4C ∷ 0x69 ∷ 0x6E ∷ []

-- tags as a list has them: (0008,0060), (0008,0061), (0010,0010), (0040,A730), (7FE0,0010)
abbrev pub modality : List ℕ
modality = 0x08 ∷ 0x00 ∷ 0x60 ∷ 0x00 ∷ []

abbrev absent : List ℕ
absent = 0x08 ∷ 0x00 ∷ 0x61 ∷ 0x00 ∷ []

abbrev patient_name : List ℕ
patient_name = 0x10 ∷ 0x00 ∷ 0x10 ∷ 0x00 ∷ []

abbrev content_sequence : List ℕ
content_sequence = 0x40 ∷ 0x00 ∷ 0x30 ∷ 0xA7 ∷ []

abbrev pixel_data : List ℕ
pixel_data = 0xE0 ∷ 0x7F ∷ 0x10 ∷ 0x00 ∷ []

-- SQ or OB and the reserved bytes after the tag
abbrev pub SQreserved : List ℕ
SQreserved = 0x53 ∷ 0x51 ∷ 0x00 ∷ 0x00 ∷ []

abbrev pub OBreserved : List ℕ
OBreserved = 0x4F ∷ 0x42 ∷ 0x00 ∷ 0x00 ∷ []

-- a length below 256, and the undefined length
abbrev pub four_byte_length : ℕ → List ℕ
four_byte_length n = n ∷ 0x00 ∷ 0x00 ∷ 0x00 ∷ []

abbrev undefined : List ℕ
undefined = 0xFF ∷ 0xFF ∷ 0xFF ∷ 0xFF ∷ []

-- the tags of an item and of the two delimiters
abbrev pub item : List ℕ
item = 0xFE ∷ 0xFF ∷ 0x00 ∷ 0xE0 ∷ []

abbrev item_delimiter_bytes : List ℕ
item_delimiter_bytes = 0xFE ∷ 0xFF ∷ 0x0D ∷ 0xE0 ∷ []

abbrev pub sequence_delimiter_bytes : List ℕ
sequence_delimiter_bytes = 0xFE ∷ 0xFF ∷ 0xDD ∷ 0xE0 ∷ []

-- ---- the data sets and streams of the examples 15.5 to 15.9

-- 15.5: "40 00 30 A7 53 51 00 00 12 00 00 00, then FE FF 00 E0 0A 00 00 00, then S (30 bytes in all)"
abbrev defined : List ℕ
defined = content_sequence ++ SQreserved ++ four_byte_length 0x12 ++ item ++ four_byte_length 0x0A ++ S

-- 15.6: "The same with both lengths undefined and both delimiters there (46 bytes)"
abbrev delimited : List ℕ
delimited =
    content_sequence ++ SQreserved ++ undefined ++ item ++ undefined ++ S
    ++ item_delimiter_bytes ++ four_byte_length 0 ++ sequence_delimiter_bytes ++ four_byte_length 0

-- 15.5: "40 00 30 A7 53 51 00 00, FE FF 00 E0, S, FE FF DD E0 (26 bytes in all)"
abbrev sequence_stream : List ℕ
sequence_stream = content_sequence ++ SQreserved ++ item ++ S ++ sequence_delimiter_bytes

-- 15.7: "The same sequence without an item"
abbrev no_item : List ℕ
no_item = content_sequence ++ SQreserved ++ four_byte_length 0

-- and this with undefined length
abbrev no_item_delimited : List ℕ
no_item_delimited = content_sequence ++ SQreserved ++ undefined ++ sequence_delimiter_bytes ++ four_byte_length 0

abbrev no_item_stream : List ℕ
no_item_stream = content_sequence ++ SQreserved ++ sequence_delimiter_bytes

-- 15.9: "E0 7F 10 00 4F 42 00 00 FF FF FF FF, once with the fragments AA BB and CC DD,
-- once with the single fragment AA BB FE FF 00 E0 CC DD"
abbrev fragmented : (fragments : List ℕ) → List ℕ
fragmented fragments = pixel_data ++ OBreserved ++ undefined ++ fragments ++ sequence_delimiter_bytes ++ four_byte_length 0

abbrev two_fragments : List ℕ
two_fragments = fragmented (item ++ four_byte_length 2 ++ 0xAA ∷ 0xBB ∷ item ++ four_byte_length 2 ++ 0xCC ∷ 0xDD ∷ [])

abbrev one_fragment : List ℕ
one_fragment = fragmented (item ++ four_byte_length 8 ++ 0xAA ∷ 0xBB ∷ 0xFE ∷ 0xFF ∷ 0x00 ∷ 0xE0 ∷ 0xCC ∷ 0xDD ∷ [])

abbrev fragments_stream : List ℕ
fragments_stream = pixel_data ++ OBreserved ++ item ++ 0xAA ∷ 0xBB ∷ item ++ 0xCC ∷ 0xDD ∷ sequence_delimiter_bytes

-- ---- the examples, by their numbers; the room of 32 bytes is more than enough
unfoldable pub examples : List Example
examples =
    accepts modality (A ++ B) 32 10 A  -- 15.1
    ∷ refuses absent (A ++ B) 32 13 0  -- 15.2
    ∷ refuses patient_name (B ++ A) 32 4 10  -- 15.3
    ∷ refuses patient_name B3 32 7 0  -- 15.4
    ∷ accepts content_sequence defined 32 26 sequence_stream  -- 15.5
    ∷ accepts content_sequence delimited 32 26 sequence_stream  -- 15.6
    ∷ accepts content_sequence no_item 32 12 no_item_stream  -- 15.7
    ∷ accepts content_sequence no_item_delimited 32 12 no_item_stream  -- 15.7, with undefined length
    ∷ accepts content_sequence defined 26 26 sequence_stream  -- 15.8
    ∷ refuses content_sequence defined 25 16 0  -- 15.8
    ∷ accepts pixel_data two_fragments 32 24 fragments_stream  -- 15.9
    ∷ accepts pixel_data one_fragment 32 24 fragments_stream  -- 15.9
    ∷ refuses modality [] 32 13 0  -- 15.10
    ∷ refuses [] [] 32 10 0  -- 15.10
    ∷ []

abbrev pub ExamplesHold : Type 0
ExamplesHold = map given examples ≡ map wanted examples

-- ---- signed contents

abbrev content_in : (list set : List ℕ) → Option SignedElements
content_in list set = content_of (stream_call list set [])

-- a content of one element
abbrev one : SignedElement → SignedElements
one e = SignedElements.and e SignedElements.none

-- "SH" as the definitions have a VR: its first letter x 256 + its second
abbrev SH : ℕ
SH = 0x5348

-- (0040,A730) with one item, in which (0008,0100) SH has the value 41 31
abbrev sequence_content : SignedElements
sequence_content =
    one (SignedElement.sequence 0x0040A730 (SignedItems.item (one (SignedElement.value 0x00080100 SH (0x41 ∷ 0x31 ∷ []))) SignedItems.last))

-- (7FE0,0010) with these fragments
abbrev fragments_content : (fragments : List (List ℕ)) → SignedElements
fragments_content fragments = one (SignedElement.fragments 0x7FE00010 fragments)

abbrev two_fragments_content : SignedElements
two_fragments_content = fragments_content ((0xAA ∷ 0xBB ∷ []) ∷ (0xCC ∷ 0xDD ∷ []) ∷ [])

abbrev one_fragment_content : SignedElements
one_fragment_content = fragments_content ((0xAA ∷ 0xBB ∷ 0xFE ∷ 0xFF ∷ 0x00 ∷ 0xE0 ∷ 0xCC ∷ 0xDD ∷ []) ∷ [])

-- The data sets of 15.5 and 15.6 have one signed content; those of 15.9, which have one stream, have two. "This is the reason why fragments
-- are excepted in the first half of demand 3." (15.9)
pub record ContentsHold : Type 0 where
  pub of5 : content_in content_sequence defined ≡ some sequence_content
  pub of6 : content_in content_sequence delimited ≡ some sequence_content
  pub of9two : content_in pixel_data two_fragments ≡ some two_fragments_content
  pub of9one : content_in pixel_data one_fragment ≡ some one_fragment_content
  pub differ : content_in pixel_data two_fragments ≢ content_in pixel_data one_fragment
