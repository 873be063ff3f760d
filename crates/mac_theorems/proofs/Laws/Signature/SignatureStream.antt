-- The stream of signature mode starts with list mode's for the list that is selected, and its answers from 10 on are list mode's. Assumes
-- nothing.
use Rattle.std.specs.Prelude as code
use Rattle.std.specs.Prelude.{Some, None}
use Rattle.std.proofs.Common.{if◌then◌else◌}
use Prim.Native.Nat.{ℕ, ◌≤◌}
use mathlib.Core.Path.{◌≡◌, refl, sym, ap, ◌∙◌}
use mathlib.Core.Bool.{Bool, true, false, true≢false}
use mathlib.Core.List.{List, ◌++◌}
use mathlib.Core.Option.{Option}
use mathlib.Core.Option as Opt
use native.Mathlib.Omega.{arith}
use lib.Dec.{ltb}
use lib.ListN.{length, length-append}
use borrow.Author.Tests.{lt-ltb, ltb-true}
use Rattle.answer.specs.declared.Answer.{Answer}
use Rattle.answer.specs.Answer.{accepted, refused, ◌or_else◌}
use Rattle.answer.proofs.Laws.OrElse.{or-else-first, or-else-second, or-else-assoc}
use Rattle.dataset.specs.Tree.{Elements}
use Rattle.dataset.specs.Reading.{Reading, fault, read, size_answer, data_set, answer_of, tree}
use Rattle.dataset.proofs.Laws.Reading.Loops.{size-within}
use Rattle.dataset.proofs.Laws.Reading.Guarantees.{data-set-read}
use Rattle.dataset.specs.Lookup.{element_of}
use Rattle.stream.specs.Stream.{elements_stream}
use Rattle.mac.specs.Modes.{bad_digest_length, answer_from9}
use Rattle.mac.specs.ListMode as list_mode
use Rattle.selection.specs.Selection.{Algorithm, signature_item, select_in, select, selected}
use Rattle.stream.specs.Own.{own}
use Rattle.stream.specs.Walk.{signed_stream, answer_from16}
use Rattle.mac.specs.SignatureMode.{stream_by, selection_answer, Call, selection, stream_in, stream, answer_to15, answer}
use Rattle.mac_theorems.specs.Theorems.{as_list, SignatureStream}
use Rattle.mac_theorems.proofs.Laws.Answers.Acceptance.{IsRead, read_is, to15-read}
use Rattle.mac_theorems.proofs.Laws.Signature.SelectedItem.{select-holds}

-- ---- the end of the order, of a stream and of a longer one
module _ (first all : List ℕ) (room : ℕ) (expected : Option (List ℕ)) (l : length first ≤ length all) where
  abbrev whole : Answer
  whole = if ltb room (length all) then refused 16 0 else accepted (length all)

  -- 16 of the first is 16 of all
  room-again : (a b : Bool) → ltb room (length first) ≡ a → ltb room (length all) ≡ b
      → ((if a then refused 16 0 else accepted 0) or_else (if b then refused 16 0 else accepted (length all))) ≡ ((if b then refused 16 0 else accepted 0) or_else accepted (length all))
  room-again true true p q = or-else-first (refused 16 0) _ (λ z. omega arith) ∙ sym (or-else-first (refused 16 0) _ (λ z. omega arith))
  room-again true false p q = absurd (true≢false (sym (lt-ltb room (length all) (omega (arith, ltb-true room (length first) p))) ∙ q))
  room-again false true p q = or-else-second (accepted 0) _ refl ∙ sym (or-else-first (refused 16 0) _ (λ z. omega arith))
  room-again false false p q = refl

  -- from 16 on
  after : (((if ltb room (length first) then refused 16 0 else accepted 0) or_else accepted (length first)) or_else whole)
      ≡ ((if ltb room (length all) then refused 16 0 else accepted 0) or_else accepted (length all))
  after =
      or-else-assoc (if ltb room (length first) then refused 16 0 else accepted 0) _ whole
      ∙ ap (λ (x : Answer). (if ltb room (length first) then refused 16 0 else accepted 0) or_else x) (or-else-second (accepted (length first)) whole refl)
      ∙ room-again (ltb room (length first)) (ltb room (length all)) refl refl

  from9-more : answer_from9 all room expected ≡ (answer_from9 first room expected or_else whole)
  unfolding answer_from9 answer_from16
  from9-more = ap (λ (x : Answer). digest or_else x) (sym after) ∙ sym (or-else-assoc digest _ whole)
    where
      digest : Answer
      digest = if bad_digest_length expected then refused 9 0 else accepted 0

-- ---- a call that selects a list

-- what is signed is the data set itself
same-elements : (uid : List ℕ) (which : code.Option ℕ) (whole : Elements) (d list : List ℕ) (algorithm : Algorithm) (es item : Elements)
    → select uid which whole d ≡ selected list algorithm es item → es ≡ whole
same-elements uid which whole d list algorithm es item e =
    select-holds (λ s. s ≡ selected list algorithm es item → es ≡ whole) (λ number l u q. absurd (true≢false (cc)))
    uid which whole d (λ other i listed named q. cc) e

-- there is no signature item among no elements
no_item : (which : code.Option ℕ) → signature_item which Elements.none ≡ Opt.none
unfolding signature_item element_of
no_item None = refl
no_item (Some number) = refl

module _ (c : Call) (list : List ℕ) (algorithm : Algorithm) (item : Elements) (e : selection c ≡ selected list algorithm (tree c.set) item) where
  abbrev d : List ℕ
  d = c.set

  streams : stream c ≡ list_mode.stream (as_list c list) ++ elements_stream (own item) d
  unfolding stream_in stream_by signed_stream list_mode.stream_in
  streams = rw e

  -- its data set is read: nothing is selected in a refused one
  is_read : (p : Reading Elements) → data_set d ≡ p → IsRead d
  unfolding select_in
  is_read (fault f) q =
      let z : select c.uid c.which Elements.none d ≡ selected list algorithm Elements.none item = rw q at e in
      let y = no_item c.which in
      absurd (true≢false (cc (rw y at z)))
  is_read (read es n) q = read_is d es n q

  module _ (r : IsRead d) where
    read_number : (answer_of (data_set d)).number ≡ 0
    read_number = ap (λ (p : Reading Elements). (answer_of p).number) r.is

    -- the order up to 15 is list mode's
    same-to15 : answer_to15 c.uid c.which d ≡ list_mode.answer_to15 list d
    unfolding answer_to15 selection_answer
    same-to15 =
        let small = (data-set-read d (tree d) r.next r.is).small in
        or-else-second (size_answer d) _ (ap (λ (a : Answer). a.number) (size-within d small))
        ∙ or-else-second (answer_of (data_set d)) _ read_number ∙ rw e (sym (to15-read list d r))

    answers : answer c ≡ (list_mode.answer (as_list c list) or_else (if ltb c.room (length (stream c)) then refused 16 0 else accepted (length (stream c))))
    unfolding answer list_mode.answer
    answers =
        let n = ap length streams ∙ length-append (list_mode.stream (as_list c list)) (elements_stream (own item) d) in
        ap (λ (x : Answer). x or_else answer_from9 (stream c) c.room c.expected) same-to15
        ∙ ap (λ (x : Answer). list_mode.answer_to15 list d or_else x) (from9-more (list_mode.stream (as_list c list)) (stream c) c.room c.expected (omega (arith, n)))
        ∙ sym (or-else-assoc (list_mode.answer_to15 list d) _ _)

pub signature-stream : SignatureStream
signature-stream c list algorithm es item e =
    let same = same-elements c.uid c.which (tree c.set) c.set list algorithm es item e in
    let q : selection c ≡ selected list algorithm (tree c.set) item = e ∙ ap (λ (x : Elements). selected list algorithm x item) same in
    record { streams = streams c list algorithm item q; answers = answers c list algorithm item q (is_read c list algorithm item q (data_set c.set) refl) }
