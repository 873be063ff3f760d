-- What every answer of a call is: its number is one that can come, a refusal has length 0, the position is as the number says. Refusal by
-- refusal for either mode, and of list mode's answer as a whole. Assumes nothing.
use Rattle.std.proofs.Common.{if◌then◌else◌}
use Prim.Native.Nat.{ℕ, suc, ◌+◌, ◌-◌, ◌≤◌, ◌<◌}
use mathlib.Core.Path.{◌≡◌, refl, sym, ap, ◌∙◌}
use mathlib.Core.Logic.{◌≢◌}
use mathlib.Core.Bool.{Bool, true, false, true≢false}
use mathlib.Core.List.{List, [], ◌∷◌}
use mathlib.Core.Option.{Option, some}
use mathlib.Core.Option as Opt
use native.Mathlib.Omega.{arith}
use lib.Dec.{ltb}
use lib.ListN.{length}
use borrow.Author.Tests.{ltb-true, ltb-false}
use Rattle.answer.specs.declared.Answer.{Answer}
use Rattle.answer.specs.Answer.{accepted, refused, ◌or_else◌}
use Rattle.answer.proofs.Laws.Refusals.{position-kept, position-none}
use Rattle.answer.proofs.Laws.OrElse.{or-else-holds, both-accepted}
use Rattle.dataset.specs.Tree.{Element, Elements}
use Rattle.dataset.specs.Reading.{Reading, fault, read, explicit, elements_at, size_limit, size_answer, levels, data_set, answer_of, tree}
use Rattle.dataset.specs.Lookup.{element_of}
use Rattle.slices.proofs.Laws.Bools.{choose}
use Rattle.dataset.proofs.Laws.Reading.Bounded.{explicit-bounded}
use Rattle.dataset.proofs.Laws.Reading.Within.{Within, elements-within}
use Rattle.dataset.proofs.Laws.Reading.Loops.{data-set-is, data-set-over}
use Rattle.stream.specs.TagList.{tags_in, barred, ascending_answer, unbarred_answer, bad_size, list_answer}
use Rattle.stream.specs.UN.{is_un, holds_un}
use Rattle.stream.specs.Listed.{element_answer, tags_answer}
use Rattle.stream.specs.Walk.{answer_from16}
use Rattle.mac.specs.Modes.{bad_digest_length, answer_from9}
use Rattle.mac.specs.ListMode.{Call, answer_to15, answer}
use Rattle.mac_theorems.specs.Calls.{EitherCall, in_list_mode, in_signature_mode, set_of, list_of, room_of, result_of}
use Rattle.mac_theorems.specs.Theorems.{highest, Positioned}
use Rattle.mac_theorems.proofs.Laws.Length.SignatureStreamLength.{never-longer}

-- of the number alone: 9 is given in a check only, 16 only where the output is shorter than the data set
pub record Possible (c : EitherCall) (number : ℕ) : Type 0 where
  pub most : number ≤ highest c
  pub never17 : number ≢ 17
  pub of9 : number ≡ 9 → (result_of c).expected ≢ Opt.none
  pub of16 : number ≡ 16 → length (set_of c) ≤ room_of c → ⊥

pub record Regular (c : EitherCall) (a : Answer) : Type 0 where
  pub possible : Possible c a.number
  pub nothing : a.number ≢ 0 → a.length ≡ 0
  pub positioned : Positioned (length (set_of c)) (length (tags_in (list_of c))) a

from16 : (c : EitherCall) → 16 ≤ highest c
from16 (in_list_mode c) = omega arith
from16 (in_signature_mode c) = omega arith

module _ (c : EitherCall) where
  -- the numbers of which nothing more is to be said
  other-possible : (number : ℕ) → number < 16 → number ≢ 9 → Possible c number
  other-possible number h n = record { most = omega (arith, from16 c); never17 = λ z. omega arith; of9 = λ z. absurd (n z); of16 = λ z. absurd (omega arith) }

  pub accepted-regular : (length : ℕ) → Regular c (accepted length)
  accepted-regular length = record {
    possible = other-possible 0 (omega arith) (λ z. omega arith);
    nothing = λ n. absurd (n refl);
    positioned = record { offset = λ l k. omega arith; index = λ l k. absurd (omega arith); below2 = λ l. refl; of9and10 = λ l k. refl; above15 = λ l. refl };
  }

  -- a number whose position is 0
  pub plain-regular : (number : ℕ) → (11 ≤ number → number ≤ 15 → ⊥) → Possible c number → Regular c (refused number 0)
  plain-regular number k p = record {
    possible = p;
    nothing = λ n. refl;
    positioned = let z = position-none number in record {
      offset = λ l u. omega (arith, z);
      index = λ l u. absurd (k l u);
      below2 = λ l. z;
      of9and10 = λ l u. z;
      above15 = λ l. z;
    };
  }

  -- a number whose position is an index
  index-regular : (number index : ℕ) → 11 ≤ number → number ≤ 15 → index < length (tags_in (list_of c)) → Regular c (refused number index)
  index-regular number index h k i = record {
    possible = other-possible number (omega arith) (λ z. omega arith);
    nothing = λ n. refl;
    positioned = record {
      offset = λ l u. absurd (omega arith);
      index = λ l u. omega (arith, i, position-kept number index (omega arith));
      below2 = λ l. absurd (omega arith);
      of9and10 = λ l u. absurd (omega arith);
      above15 = λ l. absurd (omega arith);
    };
  }

  -- a number whose position is an offset
  offset-regular : (f : Answer) → 2 ≤ f.number → f.number ≤ 8 → f.length ≡ 0 → f.position ≤ length (set_of c) → Regular c f
  offset-regular f h k l o = record {
    possible = other-possible f.number (omega arith) (λ z. omega arith);
    nothing = λ n. l;
    positioned = record {
      offset = λ l u. o;
      index = λ l u. absurd (omega arith);
      below2 = λ l. absurd (omega arith);
      of9and10 = λ l u. absurd (omega arith);
      above15 = λ l. absurd (omega arith);
    };
  }

  -- one refusal more before the others
  pub or-else-regular : (a b : Answer) → Regular c a → (a.number ≡ 0 → Regular c b) → Regular c (a or_else b)
  or-else-regular a b h k = or-else-holds (Regular c) a b h k

  -- a refusal by a test, which is regular where the test holds
  test-regular : (t : Bool) (a b : Answer) → (t ≡ true → Regular c a) → Regular c b → Regular c (if t then a else b)
  test-regular t a b h k = choose (Regular c) t h (λ z. k)

  -- 1 and 10
  size-regular : (t : Bool) (number : ℕ) → number < 11 → number ≢ 9 → Regular c (if t then refused number 0 else accepted 0)
  size-regular t number h n =
      test-regular t _ _ (λ z. plain-regular number (λ l u. omega arith) (other-possible number (omega arith) n)) (accepted-regular 0)

  pub set-regular : Regular c (size_answer (set_of c))
  unfolding size_answer
  set-regular = size-regular (ltb size_limit (length (set_of c))) 1 (omega arith) (λ z. omega arith)

  ascending-regular : (index least : ℕ) (tags : List ℕ) → index + length tags ≤ length (tags_in (list_of c)) → Regular c (ascending_answer index least tags)
  unfolding ascending_answer
  ascending-regular index least [] h = accepted-regular 0
  ascending-regular index least (tag ∷ tags) h =
      test-regular (ltb tag least) _ _ (λ z. index-regular 11 index (omega arith) (omega arith) (omega arith)) (ascending-regular (index + 1) (tag + 1) tags (omega arith))

  unbarred-regular : (index : ℕ) (tags : List ℕ) → index + length tags ≤ length (tags_in (list_of c)) → Regular c (unbarred_answer index tags)
  unfolding unbarred_answer
  unbarred-regular index [] h = accepted-regular 0
  unbarred-regular index (tag ∷ tags) h =
      test-regular (barred tag) _ _ (λ z. index-regular 12 index (omega arith) (omega arith) (omega arith)) (unbarred-regular (index + 1) tags (omega arith))

  pub list-regular : Regular c (list_answer (list_of c))
  unfolding list_answer
  list-regular =
      or-else-regular _ _ (size-regular (bad_size (length (list_of c))) 10 (omega arith) (λ z. omega arith)) λ z.
      or-else-regular _ _ (ascending-regular 0 0 (tags_in (list_of c)) (omega arith)) λ k. unbarred-regular 0 (tags_in (list_of c)) (omega arith)

  element-regular : (index : ℕ) (o : Option Element) → index < length (tags_in (list_of c)) → Regular c (element_answer index o)
  unfolding element_answer
  element-regular index Opt.none h = index-regular 13 index (omega arith) (omega arith) h
  element-regular index (some e) h =
      test-regular (is_un e) _ _ (λ z. index-regular 14 index (omega arith) (omega arith) h)
      (test-regular (holds_un e) _ _ (λ z. index-regular 15 index (omega arith) (omega arith) h) (accepted-regular 0))

  from-regular : (index : ℕ) (tags : List ℕ) (es : Elements) → index + length tags ≤ length (tags_in (list_of c)) → Regular c (tags_answer index tags es)
  unfolding tags_answer
  from-regular index [] es h = accepted-regular 0
  from-regular index (tag ∷ tags) es h =
      or-else-regular _ _ (element-regular index (element_of tag es) (omega arith)) λ z. from-regular (index + 1) tags es (omega arith)

  pub tags-regular : (es : Elements) → Regular c (tags_answer 0 (tags_in (list_of c)) es)
  tags-regular es = from-regular 0 (tags_in (list_of c)) es (omega arith)

  -- the end of the order, where the list is not refused
  pub from9-regular : (list_answer (list_of c)).number ≡ 0 → Regular c (answer_from9 (result_of c).stream (room_of c) (result_of c).expected)
  unfolding answer_from9 answer_from16
  from9-regular h =
      or-else-regular _ _ (test-regular (bad_digest_length (result_of c).expected) _ _ of9 (accepted-regular 0)) λ z.
      or-else-regular _ _ (test-regular (ltb (room_of c) (length (result_of c).stream)) _ _ of16 (accepted-regular 0)) λ z.
      accepted-regular (length (result_of c).stream)
    where
      of9 : bad_digest_length (result_of c).expected ≡ true → Regular c (refused 9 0)
      of9 t = plain-regular 9 (λ l u. omega arith) record {
        most = omega (arith, from16 c);
        never17 = λ z. omega arith;
        of9 = λ z e. true≢false (sym t ∙ ap bad_digest_length e);
        of16 = λ z. absurd (omega arith);
      }

      of16 : ltb (room_of c) (length (result_of c).stream) ≡ true → Regular c (refused 16 0)
      of16 t = plain-regular 16 (λ l u. omega arith) record {
        most = from16 c;
        never17 = λ z. omega arith;
        of9 = λ z. absurd (omega arith);
        of16 = λ z l. omega (arith, ltb-true (room_of c) (length (result_of c).stream) t, never-longer c h);
      }

  -- the reading
  pub reading-regular : Regular c (answer_of (data_set (set_of c)))
  unfolding elements_at
  reading-regular = by_size (ltb size_limit (length (set_of c))) refl
    where
      d : List ℕ
      d = set_of c

      by-reading : (r : Reading Elements) → Within 0 (length d) r → Regular c (answer_of r)
      by-reading (fault f) w = offset-regular f w.least w.most w.nothing w.inside
      by-reading (read es n) w = accepted-regular 0

      by_size : (b : Bool) → ltb size_limit (length d) ≡ b → Regular c (answer_of (data_set d))
      by_size true e =
          rw (data-set-over d (ltb-true size_limit (length d) e)) (plain-regular 1 (λ l u. omega arith) (other-possible 1 (omega arith) (λ z. omega arith)))
      by_size false e =
          rw (data-set-is d (ltb-false size_limit (length d) e))
          (by-reading (elements_at explicit d false levels (length d) 0 0)
          (elements-within explicit explicit-bounded (suc (length d - 0)) d false levels (length d) 0 0 (omega arith) (omega arith)))

-- ---- list mode
pub answer-regular : (c : Call) → Regular (in_list_mode c) (answer c)
unfolding answer answer_to15
answer-regular c =
    or-else-regular k (answer_to15 c.list c.set) _
    (or-else-regular k _ _ (set-regular k) λ z.
    or-else-regular k _ _ (list-regular k) λ z.
    or-else-regular k _ _ (reading-regular k) λ z.
    tags-regular k (tree c.set))
    λ z. from9-regular k (both-accepted (list_answer c.list) _ (both-accepted _ _ z).second).first
  where
    k : EitherCall
    k = in_list_mode c
