-- The answer of the listed elements, 13 to 15, where it is accepted. Assumes nothing.
use Prim.Native.Nat.{ℕ, ◌+◌}
use mathlib.Core.Path.{◌≡◌, refl, ◌∙◌}
use mathlib.Core.List.{List, [], ◌∷◌}
use Rattle.answer.specs.Answer.{accepted, ◌or_else◌}
use Rattle.answer.proofs.Laws.OrElse.{or-else-second, or-else-itself, both-accepted}
use Rattle.dataset.specs.Tree.{Elements}
use Rattle.dataset.specs.Lookup.{element_of}
use Rattle.stream.specs.Listed.{element_answer, tags_answer}

tags-accepted : (index : ℕ) (tags : List ℕ) (es : Elements) → (tags_answer index tags es).number ≡ 0 → tags_answer index tags es ≡ accepted 0
unfolding tags_answer
tags-accepted index [] es h = refl
tags-accepted index (tag ∷ tags) es h =
    let k = both-accepted (element_answer index (element_of tag es)) (tags_answer (index + 1) tags es) h in
    or-else-second (element_answer index (element_of tag es)) _ k.first ∙ tags-accepted (index + 1) tags es k.second

pub tags-end : (index : ℕ) (tags : List ℕ) (es : Elements) → (tags_answer index tags es or_else accepted 0) ≡ tags_answer index tags es
tags-end index tags es = or-else-itself (tags_answer index tags es) (accepted 0) (tags-accepted index tags es)
