-- What each place of the reader of one element does, with the facts of the place as premises: `search` applies these laws where the code
-- has the facts. Assumes nothing.
use Rattle.std.specs.Prelude.{Result, Ok, Err}
use Prim.Native.Nat.{ℕ, ◌-◌, ◌≤◌, ◌<◌}
use mathlib.Core.Path.{◌≡◌, sym, ap, ◌∙◌}
use mathlib.Core.Bool.{Bool, true, false}
use mathlib.Core.List.{List}
use native.Mathlib.Omega.{arith}
use lib.ListN.{length}
use Rattle.answer.specs.declared.Answer.{Answer}
use Rattle.dataset.specs.Vr.{OB, SQ}
use Rattle.dataset.specs.Header.{element_case, element_at}
use Rattle.dataset.specs.Header as spec
use Rattle.dataset.specs.Reading.{explicit, by_header, fragments_at, items_at, one_at, handed_on, one_case}
use Rattle.dataset.specs.Inner.Outcomes.{outcome_of, one_outcome_of, holding_of}
use Rattle.dataset.specs.declared.header.ElementHeader.{ElementHeader}
use Rattle.dataset.specs.declared.header.ElementHeader.TheVariants as header
use Rattle.dataset.specs.declared.reading.OneOutcome.{OneOutcome}
use Rattle.dataset.specs.declared.reading.OneOutcome.TheVariants as one
use Rattle.dataset.proofs.Laws.Header.HeaderFacts.{ElementFacts, element-facts}
use Rattle.dataset.proofs.Laws.Reading.Outcomes.{is-fault, is_read, fragments-next, items-next, handed-on}

-- ---- one element: r is what stands at `at`, and o what the reader of its inside answers
pub holding-delimited : (tag vr start n : ℕ) (delimited : Bool) → delimited ≡ true → one.Element tag vr start (n - 8) n ≡ holding_of tag vr start delimited n
unfolding holding_of
holding-delimited tag vr start n delimited t = rw t

pub holding-defined : (tag vr start n : ℕ) (delimited : Bool) → delimited ≡ false → one.Element tag vr start n n ≡ holding_of tag vr start delimited n
unfolding holding_of
holding-defined tag vr start n delimited t = rw t

-- one element by what stands there
pub one-by : (d : List ℕ) (delimited : Bool) (left stop at least : ℕ) (h : spec.ElementHeader) → h ≡ element_at d delimited left stop at least
    → one_at explicit d delimited left stop at least ≡ by_header (λ inner. items_at explicit d inner left) (fragments_at explicit d left stop) at h
unfolding one_at
one-by d delimited left stop at least h e = rw e

module _ (d : List ℕ) (delimited : Bool) (left stop at least : ℕ) (r : Result ElementHeader Answer) (e : element_case r ≡ element_at d delimited left stop at least) where
  pub element-at : (p : Result ElementHeader Answer) → r ≡ p → ElementFacts d delimited left stop at least (element_case p)
  element-at p q = rw (sym e ∙ ap element_case q) at (element-facts d delimited left stop at least)

  one-is : (p : Result ElementHeader Answer) → r ≡ p → one_at explicit d delimited left stop at least
      ≡ by_header (λ inner. items_at explicit d inner left) (fragments_at explicit d left stop) at (element_case p)
  one-is p q = one-by d delimited left stop at least (element_case p) (sym (ap element_case q) ∙ e)

  -- what the reader answers is handed on
  answers : (z : Result OneOutcome Answer) → z ≡ one_outcome_of (one_at explicit d delimited left stop at least) → one_case z ≡ handed_on (one_at explicit d delimited left stop at least)
  answers z = handed-on (one_at explicit d delimited left stop at least) z

  pub one-refused : (f : Answer) → r ≡ Err f → one_case (Err f) ≡ handed_on (one_at explicit d delimited left stop at least)
  unfolding by_header
  one-refused f q = answers (Err f) (sym (ap one_outcome_of (one-is (Err f) q)))

  pub one_end : (next : ℕ) → r ≡ Ok (header.End next) → one_case (Ok (one.End next)) ≡ handed_on (one_at explicit d delimited left stop at least)
  unfolding by_header
  one_end next q = answers (Ok (one.End next)) (sym (ap one_outcome_of (one-is (Ok (header.End next)) q)))

  pub one_value : (tag vr start end : ℕ) → r ≡ Ok (header.Value tag vr start end)
      → one_case (Ok (one.Element tag vr start end end)) ≡ handed_on (one_at explicit d delimited left stop at least)
  unfolding by_header
  one_value tag vr start end q =
      answers (Ok (one.Element tag vr start end end)) (sym (ap one_outcome_of (one-is (Ok (header.Value tag vr start end)) q)))

  module _ (tag start end : ℕ) (inner : Bool) (q : r ≡ Ok (header.Sequence tag start end inner)) where
    sequence-facts : ElementFacts d delimited left stop at least (element_case (Ok (header.Sequence tag start end inner)))
    sequence-facts = element-at (Ok (header.Sequence tag start end inner)) q

    pub sequence-level : 0 < left
    sequence-level = sequence-facts.4

    pub sequence-order : start ≤ end
    sequence-order = sequence-facts.2

    pub sequence-inside : end ≤ length d
    sequence-inside = let k = sequence-facts in omega (arith, k.3, k.5)

    module _ (o : Result ℕ Answer) (w : o ≡ outcome_of (items_at explicit d inner left end start)) where
      pub sequence-refused : (f : Answer) → o ≡ Err f → one_case (Err f) ≡ handed_on (one_at explicit d delimited left stop at least)
      unfolding by_header
      sequence-refused f g =
          answers (Err f) (sym (rw (one-is (Ok (header.Sequence tag start end inner)) q, is-fault (items_at explicit d inner left end start) f (sym w ∙ g))))

      module _ (n : ℕ) (g : o ≡ Ok n) where
        pub sequence-past : 8 ≤ n
        sequence-past =
            let k = sequence-facts in
            let m = items-next d left end start n sequence-order inner (sym g ∙ w) in
            omega (arith, k.1.starts, m.0)

        pub sequence-one : (z : OneOutcome) → z ≡ holding_of tag SQ start inner n → one_case (Ok z) ≡ handed_on (one_at explicit d delimited left stop at least)
        unfolding by_header holding_of
        sequence-one z e =
            let i = is_read (items_at explicit d inner left end start) n (sym w ∙ g) in
            answers (Ok z) (ap Ok e ∙ sym (rw (one-is (Ok (header.Sequence tag start end inner)) q, i.is)))

  module _ (tag start : ℕ) (q : r ≡ Ok (header.Fragments tag start)) where
    parts-facts : ElementFacts d delimited left stop at least (element_case (Ok (header.Fragments tag start)))
    parts-facts = element-at (Ok (header.Fragments tag start)) q

    pub parts-order : start ≤ stop
    parts-order = parts-facts.1.inside

    pub parts-inside : stop ≤ length d
    parts-inside = parts-facts.2

    module _ (o : Result ℕ Answer) (w : o ≡ outcome_of (fragments_at explicit d left stop start)) where
      pub parts-refused : (f : Answer) → o ≡ Err f → one_case (Err f) ≡ handed_on (one_at explicit d delimited left stop at least)
      unfolding by_header
      parts-refused f g =
          answers (Err f) (sym (rw (one-is (Ok (header.Fragments tag start)) q, is-fault (fragments_at explicit d left stop start) f (sym w ∙ g))))

      module _ (n : ℕ) (g : o ≡ Ok n) where
        pub parts-past : 8 ≤ n
        parts-past =
            let k = parts-facts in
            let m = fragments-next d left stop start n parts-order (sym g ∙ w) in
            omega (arith, k.1.starts, m.0)

        pub parts-one : (z : OneOutcome) → z ≡ holding_of tag OB start true n → one_case (Ok z) ≡ handed_on (one_at explicit d delimited left stop at least)
        unfolding by_header holding_of
        parts-one z e =
            let i = is_read (fragments_at explicit d left stop start) n (sym w ∙ g) in
            answers (Ok z) (ap Ok e ∙ sym (rw (one-is (Ok (header.Fragments tag start)) q, i.is)))
