-- Signature mode, and so either mode: the stream is no longer than the data set. Assumes nothing.
use Prim.Native.Nat.{ℕ, ◌≤◌}
use mathlib.Core.Path.{◌≡◌, refl}
use mathlib.Core.List.{List}
use native.Mathlib.Omega.{arith}
use lib.ListN.{length, length-append}
use Rattle.dataset.specs.Reading.{data_set, tree}
use Rattle.stream.specs.TagList.{barred, tags_in, list_answer}
use Rattle.dataset.specs.Tags.{digital_signatures_sequence}
use Rattle.stream.specs.Walk.{signed_stream}
use Rattle.mac.specs.SignatureMode.{stream_by, stream_in, Call, selection, stream}
use Rattle.mac_theorems.specs.Calls.{in_list_mode, in_signature_mode, selected_list}
use Rattle.mac_theorems.specs.Theorems.{NeverLonger}
use Rattle.mac_theorems.proofs.Laws.Length.ListStreamLength.{list-accepts, tree-no-longer, list-never-longer}
use Rattle.mac_theorems.proofs.Laws.Length.ListInsertion.{insert, insert-ascends, insert-length}
use Rattle.mac_theorems.proofs.Laws.Signature.SelectedItem.{select-holds, item-no-longer}
use Rattle.stream.proofs.Laws.Own.OwnElements.{own-fewer}

-- (FFFA,FFFA), were it listed too, would write all the elements of the signature item
signature-never-longer : (c : Call) → (list_answer (selected_list (selection c))).number ≡ 0 → length (stream c) ≤ length c.set
unfolding stream_in stream_by signed_stream barred
signature-never-longer c =
    select-holds (λ s. (list_answer (selected_list s)).number ≡ 0 → length (stream_by s d) ≤ length d) (λ number l u h. omega arith)
    c.uid c.which (tree d) d λ item i list algorithm h.
    let a = list-accepts list h in
    let up = insert-ascends digital_signatures_sequence refl 0 0 (tags_in list) (omega arith) a.first a.second in
    let l = tree-no-longer d (insert digital_signatures_sequence (tags_in list)) up (data_set d) refl in
    let w = item-no-longer c.which (tree d) d item i in
    simp length-append (omega (arith, insert-length (tree d) d digital_signatures_sequence (tags_in list), own-fewer item d))
  where
    d : List ℕ
    d = c.set

pub never-longer : NeverLonger
never-longer (in_list_mode c) h = list-never-longer c h
never-longer (in_signature_mode c) h = signature-never-longer c h
