-- The listed elements of a data set: 13, 14 and 15, "for each tag in turn" (RULES, 9.4, 9.5).
-- Assumes nothing.
use Rattle.std.specs.Prelude.{ℕ, ◌+◌, List, [], ◌∷◌, if◌then◌else◌}
use Rattle.std.proofs.Math.Option.{Option, some}
use Rattle.std.proofs.Math.Option as Opt
use Rattle.answer.specs.declared.Answer.{Answer}
use Rattle.answer.specs.Answer.{accepted, refused, ◌or_else◌}
use Rattle.dataset.specs.Tree.{Element, Elements}
use Rattle.dataset.specs.Lookup.{element_of}
use Rattle.stream.specs.UN.{is_un, holds_un}

-- 13: "a listed tag does not stand at the top level"; 14: "a listed element is a UN"; 15: "a listed sequence has a UN in it" (9.3)
unfoldable pub element_answer : (index : ℕ) → Option Element → Answer
element_answer index Opt.none = refused 13 index
element_answer index (some e) = if is_un e then refused 14 index else if holds_un e then refused 15 index else accepted 0

-- "then for each tag in turn 13, 14, 15" (9.4, 9.5)
unfoldable pub tags_answer : (index : ℕ) (tags : List ℕ) → Elements → Answer
tags_answer index [] es = accepted 0
tags_answer index (tag ∷ tags) es = element_answer index (element_of tag es) or_else tags_answer (index + 1) tags es
