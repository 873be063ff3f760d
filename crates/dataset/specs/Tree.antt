-- What is read: "a sequence holds items; and each item is again a data set" (RULES, 2.2). Offsets stand in
-- the tree; the bytes stand in the data set. Assumes nothing.
use Rattle.std.specs.Prelude.{ℕ, List}
use Rattle.dataset.specs.Vr.{OB, SQ}

-- the offset of the first byte of a value or fragment, and the offset past its last byte
pub record Span : Type 0 where
  pub start : ℕ
  pub end : ℕ

abbrev pub span : (start end : ℕ) → Span
span start end = record { start = start; end = end }

-- An element has the offset of its header, its tag, and where its value lies, without a closing delimiter; a `value` has its VR too. An
-- item has the offset of its header; `last` is no item more.
mutual
  pub data Element : Type 0 where
    value : (at tag vr : ℕ) (span : Span) → Element
    sequence : (at tag : ℕ) (span : Span) (items : Items) → Element
    fragments : (at tag : ℕ) (span : Span) (parts : List Span) → Element

  pub data Elements : Type 0 where
    none : Elements
    and : (first : Element) (rest : Elements) → Elements

  pub data Items : Type 0 where
    last : Items
    item : (at : ℕ) (elements : Elements) (rest : Items) → Items

abbrev pub tag_of : Element → ℕ
tag_of (value at tag vr span) = tag
tag_of (sequence at tag span items) = tag
tag_of (fragments at tag span parts) = tag

-- a sequence's VR is SQ; only OB is in fragments
abbrev pub vr_of : Element → ℕ
vr_of (value at tag vr span) = vr
vr_of (sequence at tag span items) = SQ
vr_of (fragments at tag span parts) = OB

abbrev pub span_of : Element → Span
span_of (value at tag vr span) = span
span_of (sequence at tag span items) = span
span_of (fragments at tag span parts) = span
