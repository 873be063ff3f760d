-- Demand 3, as specs/Demand3.antt states it. Assumes nothing.
use Rattle.std.proofs.Common.{if◌then◌else◌}
use Prim.Native.Nat.{ℕ}
use mathlib.Core.Path.{◌≡◌, refl, sym, ap, ap₂, ◌∙◌}
use mathlib.Core.Logic.{◌≢◌, ◌↔◌}
use mathlib.Core.Bool.{Bool, true, false}
use mathlib.Core.List.{List, []}
use mathlib.Core.Option.{Option, some}
use mathlib.Core.Option as Opt
use native.Mathlib.Omega.{arith}
use lib.Dec.{eqb}
use lib.ListN.{take}
use borrow.Author.Tests.{eqb-true, eqb-false, eq-eqb}
use Rattle.answer.specs.declared.Answer.{Answer}
use Rattle.answer.specs.Answer.{◌or_else◌}
use Rattle.dataset.proofs.Laws.Reading.Guarantees.{DataSetIs, data-set-read}
use Rattle.digest.specs.Message.{digest_of}
use Rattle.digest.specs.Sha256.{sha256}
use Rattle.slices.specs.Lists.{OfBytes}
use Rattle.dataset.proofs.Theorems.{well-formed-accepted, accepted-well-formed}
use Rattle.dataset.specs.Reading.{answer_of, tree}
use Rattle.stream.specs.TagList.{tags_in, list_answer}
use Rattle.stream.specs.Content.{SignedElements}
use Rattle.mac.specs.Modes.{answer_from9}
use Rattle.mac.specs.Result.{neither, compared, is_accepted, verdict_of}
use Rattle.mac.specs.ListMode.{Call, content_of, stream_in, stream, answer_to15, answer, stream_call, result}
use Rattle.mac.specs.SignatureMode as mode
use Rattle.mac_theorems.specs.Calls.{in_list_mode, Run, PromisedRuns}
use Rattle.mac_theorems.specs.Demand3.{signed_in_fragments, listed_hold_un, on, written, FirstHalf, HasSignedContent, SecondHalf, AcceptedHasContent, Demand3}
use Rattle.mac_theorems.proofs.Laws.Demand3.Encoding.{encode_elements}
use Rattle.mac_theorems.proofs.Laws.Demand3.Injective.{ElementsFit, injective}
use Rattle.mac_theorems.proofs.Laws.Demand3.Fitting.{WithinSize}
use Rattle.mac_theorems.proofs.Laws.Answers.ListedElements.{HasContent, has-content}
use Rattle.mac_theorems.proofs.Laws.Demand3.ListedContent.{listed-encoded, content-fits, same-tags, none-hold}
use Rattle.mac_theorems.proofs.Laws.Answers.EveryAnswer.{answer-regular}
use Rattle.mac_theorems.proofs.Laws.Answers.Outputs.{output-stream}
use Rattle.mac_theorems.proofs.Laws.Answers.Acceptance.{Accepted, IsRead, is_read, Accepts, accepts, to15-read, answer-accepted}

-- ---- the stream of a call is the encoding of its signed content
module _ (c : Call) (b : OfBytes c.set) (r : IsRead c.set) (row : SignedElements) (is : content_of c ≡ some row) where
  placed : DataSetIs c.set (tree c.set) r.next
  placed = data-set-read c.set (tree c.set) r.next r.is

  within : WithinSize c.set
  within = record { bytes = b; small = placed.small }

  stream-encoded : stream c ≡ encode_elements row
  unfolding stream_in content_of
  stream-encoded = listed-encoded c.set within (tree c.set) _ 0 0 r.next placed.tree (tags_in c.list) row is

  call_fits : ElementsFit row
  unfolding content_of
  call_fits = content-fits c.set within (tree c.set) _ 0 0 r.next placed.tree (tags_in c.list) row is

-- an accepted call has a signed content
call-has-content : (c : Call) → Accepts c → HasContent (tags_in c.list) (tree c.set) c.set
call-has-content c a = has-content (tags_in c.list) 0 (tree c.set) c.set a.found

number-0 : (c : Call) → Accepted c → (answer c).number ≡ 0
number-0 c h = eqb-true (answer c).number 0 h

-- ---- over the definitions
accepted-streams : (c k : Call) → OfBytes c.set → OfBytes k.set → Accepted c → Accepted k → signed_in_fragments (content_of c) ≡ false
    → (stream c ≡ stream k) ↔ (content_of c ≡ content_of k)
unfolding content_of
accepted-streams c k b b' h h' n = (there, here)
  where
    a : Accepts c
    a = accepts c (number-0 c h)

    a' : Accepts k
    a' = accepts k (number-0 k h')

    s : HasContent (tags_in c.list) (tree c.set) c.set
    s = call-has-content c a

    s' : HasContent (tags_in k.list) (tree k.set) k.set
    s' = call-has-content k a'

    e : stream c ≡ encode_elements s.row
    e = stream-encoded c b a.read s.row s.is

    e' : stream k ≡ encode_elements s'.row
    e' = stream-encoded k b' a'.read s'.row s'.is

    there : stream c ≡ stream k → content_of c ≡ content_of k
    there q =
        s.is
        ∙ ap some
        (injective s.row s'.row (call_fits c b a.read s.row s.is) (call_fits k b' a'.read s'.row s'.is)
        (sym (ap signed_in_fragments s.is) ∙ n) (sym e ∙ q ∙ e'))
        ∙ sym s'.is

    here : content_of c ≡ content_of k → stream c ≡ stream k
    here q = let r : s.row ≡ s'.row = cc (s.is, s'.is, q) in e ∙ ap encode_elements r ∙ sym e'

same-verdict : (c : Call) (d : List ℕ) → answer (on c d) ≡ answer c → stream (on c d) ≡ stream c → verdict_of (result (on c d)) ≡ verdict_of (result c)
unfolding verdict_of
same-verdict c d a s =
    ap₂ (λ (x : Answer) (y : List ℕ). if eqb x.number 0 then compared c.expected (digest_of sha256 y) else neither) a s

-- the order up to 15
same-to15 : (c : Call) (d : List ℕ) (row : SignedElements) → content_of c ≡ some row → content_of (on c d) ≡ content_of c → listed_hold_un (tags_in c.list) (tree c.set) ≡ false
    → listed_hold_un (tags_in c.list) (tree d) ≡ false → IsRead c.set → IsRead d → answer_to15 c.list d ≡ answer_to15 c.list c.set
unfolding content_of
same-to15 c d row is same m n r r' =
    to15-read c.list d r'
    ∙ ap (λ (x : Answer). list_answer c.list or_else x) (same-tags (tags_in c.list) 0 (tree d) (tree c.set) d c.set row (same ∙ is) is n m)
    ∙ sym (to15-read c.list c.set r)

-- the whole order
same_answer : (c : Call) (d : List ℕ) → answer_to15 c.list d ≡ answer_to15 c.list c.set → stream (on c d) ≡ stream c → answer (on c d) ≡ answer c
unfolding answer
same_answer c d first streams = ap₂ (λ (x : Answer) (y : List ℕ). x or_else answer_from9 y c.room c.expected) first streams

-- a content that is there
record Row (o : Option SignedElements) : Type 0 where
  row : SignedElements
  is : o ≡ some row

row_of : (o : Option SignedElements) → o ≢ Opt.none → Row o
row_of Opt.none h = absurd (h refl)
row_of (some row) h = record { row = row; is = refl }

-- the two calls have the same answer, verdict and stream
record SameResult (c k : Call) : Type 0 where
  pub answers : answer k ≡ answer c
  pub verdicts : verdict_of (result k) ≡ verdict_of (result c)
  pub streams : stream k ≡ stream c

same-content : (c : Call) (s : List ℕ) → OfBytes c.set → OfBytes s → HasSignedContent c → HasSignedContent (on c s)
    → content_of (on c s) ≡ content_of c → SameResult c (on c s)
same-content c d b b' g g' same = record { answers = answers; verdicts = same-verdict c d answers streams; streams = streams }
  where
    k : Call
    k = on c d

    r : IsRead c.set
    r = is_read c.set (ap (λ (x : Answer). x.number) (well-formed-accepted c.set g.well_formed))

    r' : IsRead d
    r' = is_read d (ap (λ (x : Answer). x.number) (well-formed-accepted d g'.well_formed))

    s : Row (content_of c)
    s = row_of (content_of c) g.holds

    streams : stream (on c d) ≡ stream c
    streams = stream-encoded (on c d) b' r' s.row (same ∙ s.is) ∙ sym (stream-encoded c b r s.row s.is)

    answers : answer (on c d) ≡ answer c
    answers = same_answer c d (same-to15 c d s.row s.is same g.known g'.known r r') streams

-- ---- of what the calls give back

-- what the functions promise makes a run: a call for the stream says neither
stream-says : (a : Bool) → neither ≡ (if a then neither else neither)
stream-says true = refl
stream-says false = refl

promised : PromisedRuns
unfolding verdict_of
promised = record {
  list-stream = λ list set out after r u. record {
    room = refl;
    answers = u.answers;
    says = stream-says (is_accepted (result (stream_call list set out)));
    output = u.output;
    bytes = u.bytes;
  };
  list-check = λ list set expected work after r u. record { room = refl; answers = u.answers; says = u.says; output = u.output; bytes = u.bytes };
  signature-stream = λ uid which set out after r u. record {
    room = refl;
    answers = u.answers;
    says = stream-says (is_accepted (mode.result (mode.stream_call uid which set out)));
    output = u.output;
    bytes = u.bytes;
  };
  signature-check = λ uid which set expected work after r u. record { room = refl; answers = u.answers; says = u.says; output = u.output; bytes = u.bytes };
}

module _ (c : Call) (out after : List ℕ) (a : Answer) (said : ℕ) (u : Run (in_list_mode c) out a said after) where
  run-accepted : a.number ≡ 0 → Accepted c
  run-accepted h = eq-eqb (answer c).number 0 (ap (λ (x : Answer). x.number) (sym u.answers) ∙ h)

  -- what an accepted call has written is its stream
  written-stream : Accepted c → written a after ≡ stream c
  written-stream h = ap₂ (λ (x : Answer) (y : List ℕ). take x.length y) u.answers u.output ∙ output-stream (result c) out h (ap (λ (x : Answer). x.length) (answer-accepted c h))

  -- a refused call has written nothing
  nothing_written : (a.number ≡ 0 → ⊥) → written a after ≡ []
  nothing_written n =
      ap (λ (m : ℕ). take m after)
      (ap (λ (y : Answer). y.length) u.answers ∙ (answer-regular c).nothing (λ z. n (ap (λ (y : Answer). y.number) u.answers ∙ z)))

first-half : FirstHalf
first-half c k out out' after after' a a' said said' u u' h h' n =
    let g = run-accepted c out after a said u h in
    let g' = run-accepted k out' after' a' said' u' h' in
    let w = written-stream c out after a said u g in
    let w' = written-stream k out' after' a' said' u' g' in
    let f = accepted-streams c k u.bytes u'.bytes g g' n in
    (λ q. f.0 (sym w ∙ q ∙ w'), λ q. w ∙ f.1 q ∙ sym w')

second-half : SecondHalf
second-half c s out out' after after' a a' said said' u u' g g' same = record {
  answers = q;
  verdicts = u'.says ∙ f.verdicts ∙ sym u.says;
  streams = go (eqb a.number 0) refl;
}
  where
    f : SameResult c (on c s)
    f = same-content c s u.bytes u'.bytes g g' same

    q : a' ≡ a
    q = u'.answers ∙ f.answers ∙ sym u.answers

    number : a'.number ≡ a.number
    number = ap (λ (x : Answer). x.number) q

    go : (t : Bool) → eqb a.number 0 ≡ t → written a' after' ≡ written a after
    go true e =
        let h = eqb-true a.number 0 e in
        let x = run-accepted c out after a said u h in
        let x' = run-accepted (on c s) out' after' a' said' u' (number ∙ h) in
        written-stream (on c s) out' after' a' said' u' x' ∙ f.streams ∙ sym (written-stream c out after a said u x)
    go false e =
        let n = eqb-false a.number 0 e in
        nothing_written (on c s) out' after' a' said' u' (λ z. n (sym number ∙ z)) ∙ sym (nothing_written c out after a said u n)

accepted-has-content : AcceptedHasContent
unfolding content_of
accepted-has-content c out after a said u h =
    let x = accepts c (number-0 c (run-accepted c out after a said u h)) in
    let r = call-has-content c x in
    record {
      well_formed = accepted-well-formed c.set (ap answer_of x.read.is);
      holds = λ e. let z : ◌≡◌ {A = ℕ} 0 1 = cc (r.is, e) in omega arith;
      known = none-hold (tags_in c.list) 0 (tree c.set) x.found;
    }

pub demand-3 : Demand3
demand-3 = record {
  promised = promised;
  first-half = first-half;
  second-half = second-half;
  accepted-has-content = accepted-has-content;
}
