-- Examples of signature mode: one small data set; one whose signature item has every kind of element that is left out; and from the first,
-- each of 18 to 23 and 10. docs/RULES.md, 15, has none for this mode. Proved together in proofs/SignatureExamples.antt.
-- Assumes nothing.
use Rattle.std.specs.Prelude as code
use Rattle.std.specs.Prelude.{Some, None}
use Rattle.std.specs.Prelude.{ℕ, ◌+◌, ◌≡◌, List, [], ◌∷◌, ◌++◌, map, length, drop}
use Rattle.answer.specs.declared.Answer.{Answer}
use Rattle.answer.specs.Answer.{accepted, refused}
use Rattle.mac.specs.Result.{output_after}
use Rattle.mac.specs.SignatureMode.{stream_call, answer, result}
use Rattle.mac_theorems.specs.Examples.{untouched, A, modality, SQreserved, OBreserved, four_byte_length, item, sequence_delimiter_bytes}

pub record SignatureExample : Type 0 where
  pub uid : List ℕ
  pub which : code.Option ℕ
  pub set : List ℕ
  pub answers : Answer
  pub stream : List ℕ

-- what the call answers, and the output after it; the room of 64 bytes is more than enough
abbrev pub given : SignatureExample → Answer × List ℕ
given x =
    let c = stream_call x.uid x.which x.set (untouched 64) in
    (answer c, output_after (result c) (untouched 64))

abbrev pub wanted : SignatureExample → Answer × List ℕ
wanted x = (x.answers, x.stream ++ drop (length x.stream) (untouched 64))

-- ---- the parts

-- "1.2.840.10008.1.2.1", Explicit VR Little Endian
abbrev explicit_vr_little_endian : List ℕ
explicit_vr_little_endian =
    0x31 ∷ 0x2E ∷ 0x32 ∷ 0x2E ∷ 0x38 ∷ 0x34 ∷ 0x30 ∷ 0x2E
    ∷ 0x31 ∷ 0x30 ∷ 0x30 ∷ 0x30 ∷ 0x38 ∷ 0x2E ∷ 0x31 ∷ 0x2E ∷ 0x32 ∷ 0x2E ∷ 0x31 ∷ []

-- the two letters of a VR
abbrev US : List ℕ
US = 0x55 ∷ 0x53 ∷ []

abbrev UL : List ℕ
UL = 0x55 ∷ 0x4C ∷ []

abbrev AT : List ℕ
AT = 0x41 ∷ 0x54 ∷ []

-- UN and the reserved bytes
abbrev UNreserved : List ℕ
UNreserved = 0x55 ∷ 0x4E ∷ 0x00 ∷ 0x00 ∷ []

-- (0400,0005) of length 2, by its VR and the low byte of its value: 10 bytes
abbrev mac_id : (vr : List ℕ) (id : ℕ) → List ℕ
mac_id vr id = 0x00 ∷ 0x04 ∷ 0x05 ∷ 0x00 ∷ vr ++ 0x02 ∷ 0x00 ∷ id ∷ 0x00 ∷ []

-- (0400,0010) UI of 20 bytes, with a NUL at its end: 28 bytes
abbrev transfer_syntax : List ℕ
transfer_syntax = 0x00 ∷ 0x04 ∷ 0x10 ∷ 0x00 ∷ 0x55 ∷ 0x49 ∷ 0x14 ∷ 0x00 ∷ explicit_vr_little_endian ++ 0x00 ∷ []

-- (0400,0015) CS, "SHA" and three digits: 14 bytes
abbrev algorithm : (a b c : ℕ) → List ℕ
algorithm a b c = 0x00 ∷ 0x04 ∷ 0x15 ∷ 0x00 ∷ 0x43 ∷ 0x53 ∷ 0x06 ∷ 0x00 ∷ 0x53 ∷ 0x48 ∷ 0x41 ∷ a ∷ b ∷ c ∷ []

abbrev algorithm_sha256 : List ℕ
algorithm_sha256 = algorithm 0x32 0x35 0x36

-- (0400,0020), by its VR, its length and the list: 8 + n bytes
abbrev data_elements_signed : (vr : List ℕ) (n : ℕ) (list : List ℕ) → List ℕ
data_elements_signed vr n list = 0x00 ∷ 0x04 ∷ 0x20 ∷ 0x00 ∷ vr ++ n ∷ 0x00 ∷ list

-- a sequence with one item of n bytes: 20 + n bytes
abbrev sequence_of : (tag : List ℕ) (n : ℕ) (elements : List ℕ) → List ℕ
sequence_of tag n elements = tag ++ SQreserved ++ four_byte_length (n + 8) ++ item ++ four_byte_length n ++ elements

-- (4FFE,0001)
abbrev parameters : (n : ℕ) (elements : List ℕ) → List ℕ
parameters n elements = sequence_of (0xFE ∷ 0x4F ∷ 0x01 ∷ 0x00 ∷ []) n elements

-- (FFFA,FFFA)
abbrev signature_items : (n : ℕ) (elements : List ℕ) → List ℕ
signature_items n elements = sequence_of (0xFA ∷ 0xFF ∷ 0xFA ∷ 0xFF ∷ []) n elements

-- an element of group 0400, of a VR of the long form and two bytes: 14 bytes
abbrev element_of_two_bytes : (element high : ℕ) (vr : List ℕ) → List ℕ
element_of_two_bytes element high vr = 0x00 ∷ 0x04 ∷ element ∷ high ∷ vr ++ four_byte_length 2 ++ 0xAA ∷ 0xBB ∷ []

-- ---- the small data set

-- 10 + 28 + 14 + 12 = 64 bytes of parameters
abbrev good_parameters : List ℕ
good_parameters = parameters 64 (mac_id US 1 ++ transfer_syntax ++ algorithm_sha256 ++ data_elements_signed AT 4 modality)

-- a signature item of its number and (0400,0120) OB, 10 + 14 = 24 bytes
abbrev small : (parameters id : List ℕ) → List ℕ
small parameters id = A ++ parameters ++ signature_items 24 (id ++ element_of_two_bytes 0x20 0x01 OBreserved)

abbrev small_set : List ℕ
small_set = small good_parameters (mac_id US 1)

-- ---- the data set with every kind of element that is left out

-- (0008,0001) UL: 12 bytes
abbrev barred_element : List ℕ
barred_element = 0x08 ∷ 0x00 ∷ 0x01 ∷ 0x00 ∷ UL ++ 0x04 ∷ 0x00 ∷ 0x00 ∷ 0x00 ∷ 0x00 ∷ 0x00 ∷ []

-- (0400,0305) CS "CMS_TSP ": 16 bytes
abbrev certified_timestamp_type : List ℕ
certified_timestamp_type =
    0x00 ∷ 0x04 ∷ 0x05 ∷ 0x03 ∷ 0x43 ∷ 0x53 ∷ 0x08 ∷ 0x00 ∷ 0x43 ∷ 0x4D ∷ 0x53 ∷ 0x5F ∷ 0x54 ∷ 0x53 ∷ 0x50 ∷ 0x20 ∷ []

-- (0400,0401), which is written
abbrev written_sequence : List ℕ
written_sequence = 0x00 ∷ 0x04 ∷ 0x01 ∷ 0x04 ∷ []

-- (0400,0402), in which UN stands
abbrev sequence_with_un : List ℕ
sequence_with_un = 0x00 ∷ 0x04 ∷ 0x02 ∷ 0x04 ∷ []

-- the signature item: 12 + 10 + 14 + 14 + 16 + 14 + 46 + 34 + 14 = 174 bytes
abbrev crowded : List ℕ
crowded =
    A ++ good_parameters
    ++ signature_items 174
    (barred_element  -- (0008,0001), barred: 12
    ++ mac_id US 1  -- 10
    ++ element_of_two_bytes 0x15 0x01 OBreserved  -- (0400,0115): 14
    ++ element_of_two_bytes 0x20 0x01 OBreserved  -- (0400,0120): 14
    ++ certified_timestamp_type  -- (0400,0305): 16
    ++ element_of_two_bytes 0x10 0x03 OBreserved  -- (0400,0310): 14
    -- a barred element and one of the four named tags inside a sequence: 20 + 12 + 14 = 46
    ++ sequence_of written_sequence 26 (barred_element ++ element_of_two_bytes 0x20 0x01 OBreserved)
    ++ sequence_of sequence_with_un 14 (element_of_two_bytes 0x20 0x01 UNreserved)  -- 20 + 14 = 34
    ++ element_of_two_bytes 0x03 0x04 UNreserved)  -- (0400,0403) UN: 14

-- The listed element A (10 bytes); of the signature item its number (10), and (0400,0401) without lengths and without the barred element in
-- it: tag, VR and reserved (8), the item's tag (4), (0400,0120) (14), the delimiter (4). 10 + 10 + 8 + 4 + 14 + 4 = 50 bytes.
abbrev crowded_stream : List ℕ
crowded_stream = A ++ mac_id US 1 ++ written_sequence ++ SQreserved ++ item ++ element_of_two_bytes 0x20 0x01 OBreserved ++ sequence_delimiter_bytes

-- ---- the examples

abbrev accepts : (which : code.Option ℕ) (set : List ℕ) (length : ℕ) (stream : List ℕ) → SignatureExample
accepts which set length stream = record { uid = explicit_vr_little_endian; which = which; set = set; answers = accepted length; stream = stream }

abbrev refuses : (which : code.Option ℕ) (uid set : List ℕ) (number : ℕ) → SignatureExample
refuses which uid set number = record { uid = uid; which = which; set = set; answers = refused number 0; stream = [] }

-- of the first signature, with the UID of the parameters
abbrev refuses_first : (set : List ℕ) (number : ℕ) → SignatureExample
refuses_first set number = refuses None explicit_vr_little_endian set number

unfoldable pub examples : List SignatureExample
examples =
    -- the listed element A, and the signature item's number: 10 + 10 bytes
    accepts None small_set 20 (A ++ mac_id US 1)
    ∷ accepts (Some 0) small_set 20 (A ++ mac_id US 1)
    ∷ accepts None crowded 50 crowded_stream
    ∷ refuses (Some 1) explicit_vr_little_endian small_set 18
    -- UL instead of US
    ∷ refuses_first (small good_parameters (mac_id UL 1)) 19
    -- another number
    ∷ refuses_first (small good_parameters (mac_id US 2)) 20
    -- the caller's UID with a NUL
    ∷ refuses None (explicit_vr_little_endian ++ 0x00 ∷ []) small_set 21
    -- SHA512
    ∷ refuses_first
    (small (parameters 64 (mac_id US 1 ++ transfer_syntax ++ algorithm 0x35 0x31 0x32 ++ data_elements_signed AT 4 modality)) (mac_id US 1)) 22
    -- UL instead of AT
    ∷ refuses_first (small (parameters 64 (mac_id US 1 ++ transfer_syntax ++ algorithm_sha256 ++ data_elements_signed UL 4 modality)) (mac_id US 1)) 23
    -- an empty list: 10 + 28 + 14 + 8 = 60 bytes of parameters
    ∷ refuses_first (small (parameters 60 (mac_id US 1 ++ transfer_syntax ++ algorithm_sha256 ++ data_elements_signed AT 0 [])) (mac_id US 1)) 10
    ∷ []

abbrev pub SignatureExamplesHold : Type 0
SignatureExamplesHold = map given examples ≡ map wanted examples
