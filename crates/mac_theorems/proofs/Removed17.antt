-- Number 17, the rule that was removed: no UN is met where none of 13, 14 and 15 is given, so that the orders with and without it give the
-- same answers. Assumes nothing.
use Rattle.std.proofs.Common.{if◌then◌else◌}
use Prim.Native.Nat.{ℕ, ◌+◌}
use mathlib.Core.Path.{◌≡◌, refl, ap, ◌∙◌}
use mathlib.Core.Bool.{Bool, true, false, ◌||◌}
use mathlib.Core.List.{List, [], ◌∷◌}
use mathlib.Core.Option.{Option, some}
use mathlib.Core.Option as Opt
use native.Mathlib.Omega.{arith}
use Rattle.answer.specs.declared.Answer.{Answer}
use Rattle.answer.specs.Answer.{refused, ◌or_else◌}
use Rattle.answer.proofs.Laws.OrElse.{or-else-first, or-else-same, or-else-assoc}
use Rattle.dataset.specs.Tree.{Element, Elements, Items, tag_of}
use Rattle.dataset.specs.Reading.{size_answer, data_set, answer_of, tree}
use Rattle.slices.proofs.Laws.Bools.{neither}
use Rattle.stream.specs.TagList.{barred, unless_barred, tags_in, list_answer}
use Rattle.stream.specs.Content.{SignedElement, SignedElements, signed, signed_elements, signed_items, joined, content}
use Rattle.stream.specs.UN.{is_un, holds_un, elements_hold_un, items_hold_un}
use Rattle.stream.specs.Listed.{tags_answer}
use Rattle.mac.specs.Modes.{answer_from9}
use Rattle.mac.specs.ListMode as list_mode
use Rattle.stream.specs.Own.{left_out, own}
use Rattle.stream.specs.Walk.{answer_from16}
use Rattle.mac.specs.SignatureMode.{stream_by, selection_answer}
use Rattle.mac.specs.SignatureMode as signature_mode
use Rattle.stream.proofs.Laws.Own.OwnElements.{own-element}
use Rattle.mac_theorems.specs.Calls.{EitherCall, in_list_mode, in_signature_mode, result_of}
use Rattle.mac_theorems.specs.Removed17.{writes_un, elements_write_un, items_write_un, sequences_write_un, content_writes_un, signature_writes_un, answer_from13_with17, list_mode_with17, answer_by_with17, signature_mode_with17, answer_with17}
use Rattle.mac_theorems.proofs.Laws.Answers.ListedElements.{tags-unrefused}
use Rattle.mac_theorems.proofs.Laws.Signature.SelectedItem.{select-holds}

-- ---- UN in the tree and UN in the signed content: a sequence that holds none writes none
both_false : {a b : Bool} → a ≡ false → b ≡ false → a || b ≡ false
both_false h k = rw (h, k)

unless-barred-writes : (b : Bool) (e : SignedElement) (rest : SignedElements) → writes_un e ≡ false → elements_write_un rest ≡ false
    → elements_write_un (unless_barred b (SignedElements.and e) rest) ≡ false
unfolding elements_write_un
unless-barred-writes true e rest h k = k
unless-barred-writes false e rest h k = both_false h k

mutual
  unfolding signed holds_un writes_un

  element-writes : (e : Element) (d : List ℕ) → is_un e ≡ false → holds_un e ≡ false → writes_un (signed e d) ≡ false
  element-writes (Element.value at tag vr span) d k h = k
  element-writes (Element.sequence at tag span items) d k h = items-write items d h
  element-writes (Element.fragments at tag span parts) d k h = refl

  elements-write : (es : Elements) (d : List ℕ) → elements_hold_un es ≡ false → elements_write_un (signed_elements es d) ≡ false
  elements-write Elements.none d h = refl
  elements-write (Elements.and e es) d h =
      let k = (neither (is_un e) (holds_un e || elements_hold_un es) h).1 in
      unless-barred-writes (barred (tag_of e)) (signed e d) (signed_elements es d)
      (element-writes e d (neither (is_un e) (holds_un e || elements_hold_un es) h).0 (neither (holds_un e) (elements_hold_un es) k).0)
      (elements-write es d (neither (holds_un e) (elements_hold_un es) k).1)

  items-write : (is : Items) (d : List ℕ) → items_hold_un is ≡ false → items_write_un (signed_items is d) ≡ false
  items-write Items.last d h = refl
  items-write (Items.item at es is) d h =
      both_false (elements-write es d (neither (elements_hold_un es) (items_hold_un is) h).0) (items-write is d (neither (elements_hold_un es) (items_hold_un is) h).1)

-- one element more
none-met : (e : Element) (d : List ℕ) (rest : SignedElements) → holds_un e ≡ false → sequences_write_un rest ≡ false → sequences_write_un (SignedElements.and (signed e d) rest) ≡ false
unfolding signed holds_un sequences_write_un
none-met (Element.value at tag vr span) d rest h k = k
none-met (Element.sequence at tag span items) d rest h k = both_false (items-write items d h) k
none-met (Element.fragments at tag span parts) d rest h k = k

-- ---- no UN is met

-- of the listed elements, where none of 13, 14 and 15 is given
one-listed : (e : Element) (o : Option SignedElements) (d : List ℕ) → holds_un e ≡ false → content_writes_un o ≡ false → content_writes_un (joined (some e) o d) ≡ false
one-listed e Opt.none d h k = refl
one-listed e (some row) d h k = none-met e d row h k

listed-unmet : (tags : List ℕ) (i : ℕ) (es : Elements) (d : List ℕ) → (tags_answer i tags es).number ≡ 0 → content_writes_un (content tags es d) ≡ false
unfolding content sequences_write_un
listed-unmet [] i es d h = refl
listed-unmet (tag ∷ tags) i es d h =
    let g = tags-unrefused i tag tags es h in
    rw g.first.is (one-listed g.first.element (content tags es d) d g.first.clean (listed-unmet tags (i + 1) es d g.rest))

-- of the signature item's own
own-unmet : (es : Elements) (d : List ℕ) → sequences_write_un (signed_elements (own es) d) ≡ false
unfolding own signed_elements sequences_write_un
own-unmet Elements.none d = refl
own-unmet (Elements.and e es) d = go (left_out e) refl (own-unmet es d)
  where
    go : (b : Bool) → left_out e ≡ b → sequences_write_un (signed_elements (own es) d) ≡ false
        → sequences_write_un (signed_elements (if b then own es else Elements.and e (own es)) d) ≡ false
    go true q k = k
    go false q k = let o = own-element e q in rw o.unbarred (none-met e d (signed_elements (own es) d) o.clean k)

signature-unmet : (list : List ℕ) (item es : Elements) (d : List ℕ) → (tags_answer 0 (tags_in list) es).number ≡ 0 → signature_writes_un list item es d ≡ false
unfolding signature_writes_un
signature-unmet list item es d h = both_false (listed-unmet (tags_in list) 0 es d h) (own-unmet item d)

-- ---- the orders without and with 17
from13-same : (tags : List ℕ) (es : Elements) (met_un : Bool) (stream : List ℕ) (room : ℕ) (expected : Option (List ℕ)) → ((tags_answer 0 tags es).number ≡ 0 → met_un ≡ false)
    → (tags_answer 0 tags es or_else answer_from9 stream room expected) ≡ answer_from13_with17 tags es met_un stream room expected
unfolding answer_from9 answer_from16 answer_from13_with17 ◌or_else◌
from13-same tags es met_un stream room expected unmet = or-else-same (tags_answer 0 tags es) _ _ λ h. rw (unmet h)

by-same : (c : signature_mode.Call)
    → (selection_answer (signature_mode.selection c) or_else answer_from9 (stream_by (signature_mode.selection c) c.set) c.room c.expected)
    ≡ answer_by_with17 (signature_mode.selection c) c.set c.room c.expected
unfolding selection_answer answer_by_with17
by-same c =
    select-holds (λ s. (selection_answer s or_else answer_from9 (stream_by s d) c.room c.expected) ≡ answer_by_with17 s d c.room c.expected)
    (λ number l u. or-else-first (refused number 0) _ (λ z. omega arith))
    c.uid c.which (tree d) d
    (λ item i list algorithm. or-else-assoc (list_answer list) _ _
    ∙ ap (λ (a : Answer). list_answer list or_else a)
    (from13-same (tags_in list) (tree d) (signature_writes_un list item (tree d) d) _ c.room c.expected (signature-unmet list item (tree d) d)))
  where
    d : List ℕ
    d = c.set

pub answers-same : (c : EitherCall) → (result_of c).answer ≡ answer_with17 c
unfolding list_mode.answer list_mode.answer_to15 list_mode.content_of list_mode_with17 signature_mode.answer signature_mode.answer_to15 signature_mode.stream_in signature_mode_with17
answers-same (in_list_mode c) =
    or-else-assoc size _ _ ∙ ap (λ (a : Answer). size or_else a) (or-else-assoc list _ _ ∙ ap (λ (a : Answer). list or_else a) (or-else-assoc reading _ _ ∙ ap (λ (a : Answer). reading or_else a)
    (from13-same (tags_in c.list) (tree c.set) (content_writes_un (list_mode.content_of c)) _ c.room c.expected (listed-unmet (tags_in c.list) 0 (tree c.set) c.set))))
  where
    size : Answer
    size = size_answer c.set

    list : Answer
    list = list_answer c.list

    reading : Answer
    reading = answer_of (data_set c.set)
answers-same (in_signature_mode c) =
    or-else-assoc (size_answer c.set) _ _
    ∙ ap (λ (a : Answer). size_answer c.set or_else a) (or-else-assoc (answer_of (data_set c.set)) _ _ ∙ ap (λ (a : Answer). answer_of (data_set c.set) or_else a) (by-same c))
