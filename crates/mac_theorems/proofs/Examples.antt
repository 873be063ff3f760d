-- The starred examples, all at once, and the signed contents of 5, 6 and 9: both sides are computed. Assumes nothing.
use mathlib.Core.Path.{refl}
use mathlib.Core.Bool.{true≢false}
use Rattle.answer.specs.Answer.{◌or_else◌}
use Rattle.dataset.specs.Bytes.{num16, num32, tag_at, vr_at}
use Rattle.slices.specs.Lists.{between}
use Rattle.dataset.specs.Vr.{form_of, one_of}
use Rattle.dataset.specs.Header.{ends_at, closed_by, bad_length, too_deep, undefined_by, defined_by, value_by, long_at, by_form, vr_on_at, element_at, item_by, item_at}
use Rattle.dataset.specs.Reading.{by_header, by_one, by_item, by_fragment, fragments_by, elements_by, elements_at, data_set, size_answer, unless_refused}
use Rattle.dataset.specs.Lookup.{element_of}
use Rattle.stream.specs.TagList.{tags_in, barred, bad_size, ascending_answer, unbarred_answer, list_answer}
use Rattle.stream.specs.Content.{fragment_bytes, signed, content}
use Rattle.stream.specs.Stream.{fragments_stream, stream_of, listed_stream}
use Rattle.stream.specs.UN.{holds_un}
use Rattle.stream.specs.Listed.{element_answer, tags_answer}
use Rattle.mac.specs.Modes.{answer_from9}
use Rattle.mac.specs.Result.{output_after}
use Rattle.stream.specs.Walk.{answer_from16, left_in}
use Rattle.mac.specs.ListMode.{content_of, stream_in, answer_to15, answer}
use Rattle.mac_theorems.specs.Examples.{examples, ExamplesHold, ContentsHold}

pub examples-hold : ExamplesHold
unfolding examples answer answer_to15 answer_from9 answer_from16 output_after left_in stream_in ◌or_else◌ list_answer bad_size ascending_answer unbarred_answer barred tags_in tags_answer element_answer holds_un listed_stream stream_of fragments_stream element_of data_set size_answer unless_refused elements_at elements_by fragments_by by_header by_one by_item by_fragment element_at vr_on_at by_form long_at bad_length too_deep undefined_by defined_by value_by item_at item_by ends_at closed_by form_of one_of num16 num32 tag_at vr_at between
examples-hold = refl

pub contents-hold : ContentsHold
unfolding content_of content signed fragment_bytes tags_in barred element_of data_set size_answer unless_refused elements_at elements_by fragments_by by_header by_one by_item by_fragment element_at vr_on_at by_form long_at bad_length too_deep undefined_by defined_by value_by item_at item_by ends_at closed_by form_of one_of num16 num32 tag_at vr_at between
contents-hold = record { of5 = refl; of6 = refl; of9two = refl; of9one = refl; differ = λ e. true≢false (cc) }
