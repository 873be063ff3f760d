-- The signature item's own elements, which follow the listed ones in signature mode: docs/RULES.md, 8.4 and 8.5.
-- Assumes nothing.
use Rattle.std.specs.Prelude.{ℕ, Bool, ◌||◌, eqb, if◌then◌else◌}
use Rattle.dataset.specs.Tags.{certificate_of_signer, signature_value, certified_timestamp_type, certified_timestamp}
use Rattle.dataset.specs.Tree.{Element, Elements, tag_of}
use Rattle.stream.specs.TagList.{barred}
use Rattle.stream.specs.UN.{is_un, holds_un}

-- the four named tags, 8.4: "(0400,0115), (0400,0120), (0400,0305) and (0400,0310)"
unfoldable pub named : (tag : ℕ) → Bool
named tag = eqb tag certificate_of_signer || (eqb tag signature_value || (eqb tag certified_timestamp_type || eqb tag certified_timestamp))

-- 8.4: "Left out are (0400,0115), .., barred elements, UN elements, and sequences with a UN in them, however deep.": inside a barred
-- element too, as for 15
unfoldable pub left_out : Element → Bool
left_out e = named (tag_of e) || (barred (tag_of e) || (is_un e || holds_un e))

-- 8.4: "the signature item's own elements": those that are not left out. 8.5: "The four tags named in 8.4 are left out only among the
-- signature item's own elements, not deeper.": inside its sequences they are written. (Barred elements inside its sequences are left out by
-- `elements_stream`.)
unfoldable pub own : Elements → Elements
own Elements.none = Elements.none
own (Elements.and e rest) = if left_out e then own rest else Elements.and e (own rest)
