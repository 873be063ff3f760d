-- The tag list: docs/RULES.md, 4, and the numbers 10, 11 and 12 (9.3).
-- Assumes nothing.
use Rattle.std.specs.Prelude.{ℕ, ◌+◌, ◌*◌, ◌%◌, ◌/◌, Bool, true, false, ◌||◌, List, [], ◌∷◌, eqb, ltb, length, if◌then◌else◌}
use Rattle.answer.specs.declared.Answer.{Answer}
use Rattle.answer.specs.Answer.{accepted, refused, ◌or_else◌}
use Rattle.dataset.specs.Bytes.{tag_at}
use Rattle.dataset.specs.Tags.{length_to_end, mac_parameters_sequence, data_set_trailing_padding, item_delimitation_item}

-- 4.1: "Each tag takes four bytes, coded as in a data set." Bytes left over are not seen: 10 comes before.
unfoldable pub tags_in : List ℕ → List ℕ
tags_in (a ∷ b ∷ c ∷ d ∷ rest) = tag_at (a ∷ b ∷ c ∷ d ∷ []) 0 ∷ tags_in rest
tags_in [] = []
tags_in (a ∷ []) = []
tags_in (a ∷ b ∷ []) = []
tags_in (a ∷ b ∷ c ∷ []) = []

-- Barred, a term of RULES 4.3: "any with element number 0000; (0008,0001); any of a group below 0008; any of group FFFA; (4FFE,0001);
-- (FFFC,FFFC); (FFFE,E00D)."
unfoldable pub barred : (tag : ℕ) → Bool
barred tag =
    eqb (tag % 65536) 0
    || (eqb tag length_to_end
    || (ltb (tag / 65536) 0x0008
    || (eqb (tag / 65536) 0xFFFA
    || (eqb tag mac_parameters_sequence
    || (eqb tag data_set_trailing_padding
    || eqb tag item_delimitation_item)))))

-- what an element adds to the rest of a row, by whether it is barred. 5.4: "A barred element in a sequence gives nothing"
abbrev pub unless_barred : {A : Type 0} → (is_barred : Bool) (add : A → A) (rest : A) → A
unless_barred true add rest = rest
unless_barred false add rest = add rest

-- 10: "the list is empty, has more than 1,024 tags, or is not a multiple of 4 bytes long" (9.3)
unfoldable pub bad_size : (bytes : ℕ) → Bool
bad_size bytes = eqb bytes 0 || (ltb (4 * 1024) bytes || ltb 0 (bytes % 4))

-- 11: "a tag of the list is not above the one before it" (9.3), at "the first tag for which the condition holds" (9.2). `index` is that of
-- the first tag here, `least` one more than the tag before it, or 0 where there is none.
unfoldable pub ascending_answer : (index least : ℕ) → List ℕ → Answer
ascending_answer index least [] = accepted 0
ascending_answer index least (tag ∷ tags) = if ltb tag least then refused 11 index else ascending_answer (index + 1) (tag + 1) tags

-- 12: "a tag of the list is barred" (9.3), likewise at the first
unfoldable pub unbarred_answer : (index : ℕ) → List ℕ → Answer
unbarred_answer index [] = accepted 0
unbarred_answer index (tag ∷ tags) = if barred tag then refused 12 index else unbarred_answer (index + 1) tags

-- 9.4: "10; 11 over the whole list; 12 over the whole list"
unfoldable pub list_answer : List ℕ → Answer
list_answer list =
    (if bad_size (length list) then refused 10 0 else accepted 0) or_else ascending_answer 0 0 (tags_in list) or_else unbarred_answer 0 (tags_in list)
