-- A check with an expected digest of 32 bytes answers as the call for the stream does, and so does measuring where the room is enough. Assumes
-- nothing.
use Rattle.std.specs.Prelude as code
use Prim.Native.Nat.{ℕ, ◌≤◌}
use mathlib.Core.Path.{◌≡◌, refl, ap}
use mathlib.Core.Bool.{false}
use mathlib.Core.List.{List}
use mathlib.Core.Option.{some}
use mathlib.Core.Option as Opt
use native.Mathlib.Omega.{arith}
use lib.ListN.{length}
use borrow.Author.Tests.{eq-eqb, le-ltb}
use Rattle.answer.specs.declared.Answer.{Answer}
use Rattle.answer.specs.Answer.{accepted, ◌or_else◌}
use Rattle.answer.proofs.Laws.OrElse.{or-else-second, or-else-same}
use Rattle.mac.specs.Modes.{bad_digest_length, answer_from9}
use Rattle.mac.specs.ListMode as list_mode
use Rattle.mac.specs.SignatureMode as signature_mode
use Rattle.mac.proofs.Laws.AnswersFrom9.{from9-accepted}
use Rattle.mac_theorems.specs.Theorems.{ChecksAsStream}

module _ (e : List ℕ) (h : length e ≡ 32) where
  good_length : bad_digest_length (some e) ≡ false
  good_length = rw (eq-eqb (length e) 32 h)

  as-stream : (first : Answer) (stream : List ℕ) (room : ℕ) → (first or_else answer_from9 stream room (some e)) ≡ (first or_else answer_from9 stream room Opt.none)
  unfolding answer_from9
  as-stream first stream room = rw good_length

pub checks-as-stream : ChecksAsStream
unfolding list_mode.answer signature_mode.answer
checks-as-stream = record {
  of-list = λ list set e work h. as-stream e h (list_mode.answer_to15 list set) (list_mode.stream_in list set) (length work);
  of-signature = λ uid which set e work h. as-stream e h (signature_mode.answer_to15 uid which set) (signature_mode.stream_in uid which set) (length work);
}

-- ---- measuring, with as much room as is measured
measured : (first : Answer) (stream : List ℕ) (room : ℕ) → (first or_else accepted (length stream)).length ≤ room
    → (first or_else answer_from9 stream room Opt.none) ≡ (first or_else accepted (length stream))
measured first stream room h = or-else-same first _ _ λ z.
    let n = ap (λ (a : Answer). a.length) (or-else-second first (accepted (length stream)) z) in
    from9-accepted stream room Opt.none (record { digest = refl; fits = le-ltb room (length stream) (omega arith) })

pub list-measured : (list set out : List ℕ) → (list_mode.measure list set).length ≤ length out
    → list_mode.answer (list_mode.stream_call list set out) ≡ list_mode.measure list set
unfolding list_mode.answer list_mode.measure
list-measured list set out = measured (list_mode.answer_to15 list set) (list_mode.stream_in list set) (length out)

pub signature-measured : (uid : List ℕ) (which : code.Option ℕ) (set out : List ℕ) → (signature_mode.measure uid which set).length ≤ length out
    → signature_mode.answer (signature_mode.stream_call uid which set out) ≡ signature_mode.measure uid which set
unfolding signature_mode.answer signature_mode.measure
signature-measured uid which set out = measured (signature_mode.answer_to15 uid which set) (signature_mode.stream_in uid which set) (length out)
