-- The examples of signature mode, all at once: both lists are computed. Assumes nothing.
use mathlib.Core.Path.{refl}
use Rattle.answer.specs.Answer.{◌or_else◌}
use Rattle.dataset.specs.Bytes.{num16, num32, tag_at, vr_at}
use Rattle.slices.specs.Lists.{between, same_bytes, all_are}
use Rattle.dataset.specs.Vr.{form_of, one_of}
use Rattle.dataset.specs.Header.{ends_at, closed_by, bad_length, too_deep, undefined_by, defined_by, value_by, long_at, by_form, vr_on_at, element_at, item_by, item_at}
use Rattle.dataset.specs.Reading.{by_header, by_one, by_item, elements_by, elements_at, data_set, size_answer, unless_refused, deeper}
use Rattle.dataset.specs.Lookup.{element_of}
use Rattle.stream.specs.TagList.{tags_in, barred, bad_size, ascending_answer, unbarred_answer, list_answer}
use Rattle.stream.specs.Stream.{stream_of, listed_stream}
use Rattle.stream.specs.UN.{holds_un}
use Rattle.stream.specs.Listed.{element_answer, tags_answer}
use Rattle.mac.specs.Modes.{answer_from9}
use Rattle.mac.specs.Result.{output_after}
use Rattle.selection.specs.Selection.{value_of, first_item, signature_item, mac_id_of, parameters_item, less_nul, bad_transfer_syntax, is_term, algorithm_of, parameters_select, select_in}
use Rattle.stream.specs.Own.{named, left_out, own}
use Rattle.stream.specs.Walk.{signed_stream, answer_from16, left_in}
use Rattle.mac.specs.SignatureMode.{stream_by, selection_answer, stream_in, answer_to15, answer}
use Rattle.mac_theorems.specs.SignatureExamples.{examples, SignatureExamplesHold}

pub signature-examples-hold : SignatureExamplesHold
unfolding examples answer answer_to15 selection_answer stream_by signed_stream own left_out named select_in parameters_select algorithm_of is_term all_are bad_transfer_syntax less_nul parameters_item mac_id_of signature_item first_item value_of same_bytes answer_from9 answer_from16 output_after left_in stream_in ◌or_else◌ list_answer bad_size ascending_answer unbarred_answer barred tags_in tags_answer element_answer holds_un listed_stream stream_of element_of data_set size_answer unless_refused elements_at elements_by by_header by_one by_item deeper element_at vr_on_at by_form long_at bad_length too_deep undefined_by defined_by value_by item_at item_by ends_at closed_by form_of one_of num16 num32 tag_at vr_at between
signature-examples-hold = refl
