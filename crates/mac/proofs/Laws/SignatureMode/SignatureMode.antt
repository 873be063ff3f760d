-- What signature mode answers and leaves, place by place, with the facts of the place as premises. Assumes nothing.
use Prim.Native.Nat.{ℕ, ◌≤◌}
use mathlib.Core.Path.{◌≡◌, refl, sym, ap, ◌∙◌}
use mathlib.Core.Bool.{true≢false}
use mathlib.Core.List.{List}
use mathlib.Core.Option.{Option, some}
use mathlib.Core.Option as Opt
use native.Mathlib.Omega.{arith}
use lib.ListN.{length}
use Rattle.answer.specs.declared.Answer.{Answer}
use Rattle.answer.specs.Answer.{accepted, refused, ◌or_else◌}
use Rattle.answer.specs.Step.{step_by, test_by, answer_by}
use Rattle.answer.proofs.Laws.Steps.{IsWhole, whole-accepted, whole-behind, step-answer, step-before, test-is, test-refused}
use Rattle.std.specs.Prelude as code
use Rattle.std.specs.Prelude.{Some, None, Ok, Err, IfOk}
use Rattle.answer.proofs.Laws.OrElse.{or-else-first, or-else-second, refused-first}
use Rattle.slices.specs.Lists.{between}
use Rattle.dataset.specs.Tree.{Elements}
use Rattle.dataset.specs.Reading.{Reading, fault, read, size_limit, size_answer, data_set, answer_of, tree_of}
use Rattle.dataset.specs.Extent.{elements_in, whole_of}
use Rattle.dataset.specs.declared.extent.Extent.{Extent}
use Rattle.dataset.proofs.Laws.Reading.Loops.{data-set-is, size-within}
use Rattle.dataset.proofs.Theorems.{faults-inside}
use Rattle.digest.specs.Message.{limit}
use Rattle.selection.specs.Selection.{refusal, selected, select}
use Rattle.selection.specs.Selection as mode
use Rattle.selection.specs.Selected.{IsSelected, SelectionAs, SelectedBy, SelectedIn}
use Rattle.selection.specs.declared.select.Selected.{Selected}
use Rattle.selection.proofs.Laws.Select.SelectionNumbers.{selected-number}
use Rattle.stream.specs.TagList.{tags_in, list_answer}
use Rattle.stream.specs.Listed.{tags_answer}
use Rattle.stream.specs.Walk.{signed_stream, WrittenAs}
use Rattle.stream.proofs.Laws.Listed.ListedAnswers.{tags-end}
use Rattle.stream.specs.Walk as walk
use Rattle.mac.specs.Result.{Streamed, CheckedAs}
use Rattle.mac.specs.SignatureMode.{stream_by, selection_answer, stream_in, answer_to15, measure, answer, result, stream_call, check_call}
use Rattle.mac.specs.Inner.Verdict.{CheckOf, length_of, length_answer, refused_check}
use Rattle.mac.specs.Inner.Calls.{signature_call, CallAnswered, SelectionRefused, list_in, SelectionLies, SelectedWritten, SignatureSelected}
use Rattle.mac.specs.declared.verdict.Checked.{Checked}
use Rattle.mac.proofs.Laws.EitherCall.{call-whole, call-refused, measured-is, call-written}
use Rattle.mac.proofs.Laws.Verdict.VerdictOfChecks.{AllFit, call-streamed, call-room, call-neither, call-checked}

-- ---- what is selected, where the data set is read as p
pub record Picked (uid : List ℕ) (which : code.Option ℕ) (d : List ℕ) (x : Extent) (p : Reading Elements) (s : Selected) : Type 0 where
  pub elements : Elements
  pub next : ℕ
  pub reads : p ≡ read elements next
  pub algorithm : mode.Algorithm
  pub signed : Elements
  pub item : Elements
  pub selects : select uid which elements d ≡ selected (list_in d s) algorithm signed item
  pub parts : IsSelected d x (list_in d s) algorithm signed item s

module _ (uid : List ℕ) (which : code.Option ℕ) (d : List ℕ) (r : code.Result Selected Answer) (s : Selected) (e : r ≡ Ok s) (x : Extent) where
  picked-by : (es : Elements) (n : ℕ) (m : mode.Selection) → select uid which es d ≡ m → SelectionAs d x m r → Picked uid which d x (read es n) s
  unfolding between
  picked-by es n (refusal k) q h = absurd (true≢false (cc))
  picked-by es n (selected list a signed item) q h =
      let u = h.1 in
      let v : h.0 ≡ s = cc in
      let parts : IsSelected d x list a signed item s = rw v at h.2 in
      record {
        elements = es;
        next = n;
        reads = refl;
        algorithm = a;
        signed = signed;
        item = item;
        selects = q ∙ ap (λ (l : List ℕ). selected l a signed item) parts.listed;
        parts = rw parts.listed at parts;
      }

  picked : (p : Reading Elements) → SelectedBy uid which d (tree_of p) x p r → Picked uid which d x p s
  picked (fault f) h = absurd (true≢false (cc))
  picked (read es n) h = picked-by es n (select uid which es d) refl h

-- ---- `select_whole`
module _ (uid : List ℕ) (which : code.Option ℕ) (d : List ℕ) where
  refused_as : (a f : Answer) → a ≡ f → (f.number ≡ 0 → ⊥) → f ≡ answer_to15 uid which d → SignatureSelected uid which d (Err a)
  refused_as a f e n q = record { number = λ z. n (ap (λ (x : Answer). x.number) (sym e) ∙ z); answers = e ∙ q }

  -- 1
  pub select-over : (v : code.Result (Unit {0}) Answer) (a : Answer) → v ≡ test_by (size_answer d) → v ≡ Err a → SignatureSelected uid which d (Err a)
  unfolding answer_to15
  select-over v a e q =
      let n = test-refused v (size_answer d) e a q in
      refused_as a a refl n (refused-first a (size_answer d) _ (test-is v (size_answer d) e a q) n)

  module _ (h : length d ≤ size_limit) (x : Extent) (w : x ≡ whole_of (length d)) (r : code.Result Selected Answer) (t : SelectedIn uid which d x x r) where
    whole : data_set d ≡ elements_in d x
    whole = rw w (data-set-is d h)

    -- behind 1, by the reading and the selection
    answer-by : (p : Reading Elements) → data_set d ≡ p → (m : mode.Selection) → select uid which (tree_of p) d ≡ m → answer_to15 uid which d ≡ (answer_of p or_else selection_answer m)
    unfolding answer_to15
    answer-by p q m e = or-else-second (size_answer d) _ (ap (λ (a : Answer). a.number) (size-within d h)) ∙ rw (q, e)

    -- ---- a refusal: 2 to 8, 18 to 23
    module _ (f : Answer) (e : r ≡ Err f) where
      by-selection : (es : Elements) (n : ℕ) → data_set d ≡ read es n → (m : mode.Selection) → select uid which es d ≡ m → SelectionAs d x m r → SignatureSelected uid which d (Err f)
      unfolding selection_answer
      by-selection es n q (refusal k) m s =
          refused_as f (refused k 0) (cc) (selected-number uid which es d k m) (sym (answer-by (read es n) q (refusal k) m ∙ or-else-second (accepted 0) _ refl))
      by-selection es n q (selected list a signed item) m s = let u = s.1 in absurd (true≢false (cc))

      by-reading : (p : Reading Elements) → data_set d ≡ p → SelectedBy uid which d (tree_of p) x p r → SignatureSelected uid which d (Err f)
      by-reading (fault g) q s =
          let n : g.number ≡ 0 → ⊥ = λ z. omega (arith, (faults-inside d g q).least) in
          refused_as f g (cc) n (sym (answer-by (fault g) q _ refl ∙ or-else-first g _ n))
      by-reading (read es n) q s = by-selection es n q (select uid which es d) refl s

      is-refused : SignatureSelected uid which d (Err f)
      is-refused = by-reading (elements_in d x) whole t

    -- ---- a list is selected
    module _ (s : Selected) (e : r ≡ Ok s) where
      g : Picked uid which d x (elements_in d x) s
      g = picked uid which d r s e x (elements_in d x) t

      abbrev item : code.Option Extent
      item = Some s.item

      abbrev what : mode.Selection
      what = selected (list_in d s) g.algorithm g.signed g.item

      is_read : data_set d ≡ read g.elements g.next
      is_read = whole ∙ g.reads

      answer-is : answer_to15 uid which d ≡ walk.answer_to15 (list_in d s) d s.signed item
      unfolding selection_answer walk.answer_to15 walk.read_answer
      answer-is =
          answer-by (read g.elements g.next) is_read what g.selects ∙ or-else-second (accepted 0) _ refl
          ∙ ap (λ (a : Answer). list_answer (list_in d s) or_else a) (sym (tags-end 0 (tags_in (list_in d s)) g.signed) ∙ sym (or-else-second (accepted 0) _ refl))
          ∙ ap (λ (p : Reading Elements). list_answer (list_in d s) or_else answer_of p or_else tags_answer 0 (tags_in (list_in d s)) (tree_of p) or_else accepted 0) (sym g.parts.reads)
          ∙ ap (λ (p : Reading Elements). list_answer (list_in d s) or_else answer_of (elements_in d s.signed) or_else tags_answer 0 (tags_in (list_in d s)) (tree_of (elements_in d s.signed)) or_else answer_of p)
          (sym g.parts.item-reads)

      stream-is : stream_in uid which d ≡ walk.stream_in (list_in d s) d s.signed item
      unfolding stream_in stream_by walk.stream_in
      stream-is =
          ap (λ (p : Reading Elements). stream_by (select uid which (tree_of p) d) d) is_read ∙ ap (λ (v : mode.Selection). stream_by v d) g.selects
          ∙ ap (λ (p : Reading Elements). signed_stream (tags_in (list_in d s)) (tree_of p) g.item d) (sym g.parts.reads)
          ∙ ap (λ (p : Reading Elements). signed_stream (tags_in (list_in d s)) (tree_of (elements_in d s.signed)) (tree_of p) d) (sym g.parts.item-reads)

      lies : SelectionLies uid which d s
      lies = record { order = g.parts.order; inside = g.parts.inside; small = h; answers = answer-is; stream-is = stream-is }

    by-case : (v : code.Result Selected Answer) → r ≡ v → SignatureSelected uid which d v
    by-case (Err f) e = is-refused f e
    by-case (Ok s) e = lies s e

    pub select-selected : SignatureSelected uid which d r
    select-selected = by-case r refl

-- ---- measuring, and a call, by its expected digest; v is what is selected

module _ (uid : List ℕ) (which : code.Option ℕ) (d : List ℕ) where
  pub measure-whole : (r : code.Result ℕ Answer) (a : Answer) → r ≡ step_by (measure uid which d) → a ≡ answer_by r → a ≡ measure uid which d
  unfolding measure
  measure-whole r a e q = q ∙ step-answer r (measure uid which d) e (whole-behind (answer_to15 uid which d) _ (whole-accepted (length (stream_in uid which d))))

  whole-call : (out : List ℕ) (expected : Option (List ℕ)) → IsWhole (signature_call uid which d out expected).answer
  unfolding answer
  whole-call out expected = call-whole (answer_to15 uid which d) (stream_in uid which d) (length out) expected

  pub signature-streamed : (out after : List ℕ) (r : code.Result ℕ Answer) (a : Answer) → CallAnswered (signature_call uid which d out) None limit out r after
      → a ≡ answer_by r → AllFit d → Streamed (result (stream_call uid which d out)) d out a after
  signature-streamed out after r a s e b = call-streamed (signature_call uid which d out) d out after r a e s (whole-call out Opt.none) b

module _ (uid : List ℕ) (which : code.Option ℕ) (d : List ℕ) (v : code.Result Selected Answer) (t : SignatureSelected uid which d v) where
  module _ (a : Answer) (e : v ≡ Err a) where
    is-refusal : SelectionRefused uid which d a
    is-refusal = rw e at t

    pub refused-measured : Err a ≡ step_by (measure uid which d)
    unfolding measure
    refused-measured =
        let k = is-refusal in
        step-before a (answer_to15 uid which d) _ k.answers λ z. k.number (ap (λ (x : Answer). x.number) k.answers ∙ z)

    pub refused-call : (given : code.Option ℕ) (out : List ℕ) → CallAnswered (signature_call uid which d out) given limit out (Err a) out
    unfolding answer
    refused-call given out = call-refused (answer_to15 uid which d) (stream_in uid which d) given limit out a is-refusal.answers is-refusal.number

    pub refused-checked : (expected work : List ℕ) (r : Checked) → r ≡ refused_check a → AllFit d → CheckedAs (result (check_call uid which d expected work)) d work r work
    refused-checked expected work r q b =
        call-neither (signature_call uid which d work) d expected work work (Err a) (refused-call (length_of (some expected)) work) refl b a r refl q

  module _ (s : Selected) (e : v ≡ Ok s) where
    is-selected : SelectionLies uid which d s
    is-selected = rw e at t

    pub selected-order : s.start ≤ s.end
    selected-order = is-selected.order

    pub selected-inside : s.end ≤ length d
    selected-inside = is-selected.inside

    pub selected-measured : (r : code.Result ℕ Answer) → r ≡ step_by (walk.measure (list_in d s) d s.signed (Some s.item)) → r ≡ step_by (measure uid which d)
    unfolding measure
    selected-measured r q =
        measured-is (answer_to15 uid which d) (stream_in uid which d) (list_in d s) d s.signed (Some s.item) is-selected.answers is-selected.stream-is r q

    -- what is written, by the expected digest's length
    module _ (given : code.Option ℕ) (out : List ℕ) (r : code.Result ℕ Answer) (after : List ℕ) (w : SelectedWritten d s given out r after) where
      pub selected-call : CallAnswered (signature_call uid which d out) given limit out r after
      unfolding answer
      selected-call =
          let k = is-selected in
          call-written (answer_to15 uid which d) (stream_in uid which d) (list_in d s) d s.signed (Some s.item) k.answers k.stream-is s.algorithm given limit out
          (omega (arith, k.small)) _ refl r after w

      pub selected-room : length after ≡ length out → IfOk r (λ n. n ≤ length after)
      selected-room = call-room (signature_call uid which d out) d out after r given selected-call

    pub selected-checked : (expected work : List ℕ) (w : code.Result ℕ Answer) (after : List ℕ) → SelectedWritten d s (length_of (some expected)) work w after
        → (r : Checked) → CheckOf s.algorithm w expected after r → AllFit d → CheckedAs (result (check_call uid which d expected work)) d work r after
    selected-checked expected work w after h r k b =
        call-checked (signature_call uid which d work) d expected work after w (selected-call (length_of (some expected)) work w after h) refl b s.algorithm r
        (whole-call uid which d work (some expected)) k

-- ---- `write_selected`
pub selected-written : (d : List ℕ) (s : Selected) (given : code.Option ℕ) (later : code.Result (Unit {0}) Answer) → later ≡ test_by (length_answer s.algorithm given)
    → (out : List ℕ) (r : code.Result ℕ Answer) (after : List ℕ) → WrittenAs (list_in d s) d s.signed (Some s.item) later out r after → SelectedWritten d s given out r after
selected-written d s given later q out r after w = rw q at w
