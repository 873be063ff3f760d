-- The tags that the rules decide by, by their names in the data dictionary (PS3.6), ascending: docs/RULES.md, 2.12 to 2.17, 4.3, 8.2 to 8.4
-- and 9.3 (18 to 23).
-- Assumes nothing.
use Rattle.std.specs.Prelude.{ℕ}

abbrev pub length_to_end : ℕ
length_to_end = 0x00080001

abbrev pub mac_id_number : ℕ
mac_id_number = 0x04000005

abbrev pub mac_calculation_transfer_syntax_uid : ℕ
mac_calculation_transfer_syntax_uid = 0x04000010

abbrev pub mac_algorithm : ℕ
mac_algorithm = 0x04000015

abbrev pub data_elements_signed : ℕ
data_elements_signed = 0x04000020

abbrev pub certificate_of_signer : ℕ
certificate_of_signer = 0x04000115

-- "Signature" in the data dictionary; the word alone would be mistaken for the caller's choice
abbrev pub signature_value : ℕ
signature_value = 0x04000120

abbrev pub certified_timestamp_type : ℕ
certified_timestamp_type = 0x04000305

abbrev pub certified_timestamp : ℕ
certified_timestamp = 0x04000310

abbrev pub mac_parameters_sequence : ℕ
mac_parameters_sequence = 0x4FFE0001

abbrev pub digital_signatures_sequence : ℕ
digital_signatures_sequence = 0xFFFAFFFA

abbrev pub data_set_trailing_padding : ℕ
data_set_trailing_padding = 0xFFFCFFFC

-- "Item" in the data dictionary; before each item and fragment (2.12)
abbrev pub item_tag : ℕ
item_tag = 0xFFFEE000

-- the item delimiter of RULES (2.14)
abbrev pub item_delimitation_item : ℕ
item_delimitation_item = 0xFFFEE00D

-- the sequence delimiter of RULES (2.15); it ends fragments too (2.17)
abbrev pub sequence_delimitation_item : ℕ
sequence_delimitation_item = 0xFFFEE0DD
