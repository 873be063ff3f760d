-- What one turn of the loop of `write_fragments` does, with the facts of the place as premises. Assumes nothing.
use Prim.Native.Nat.{ℕ, ◌+◌, ◌-◌, ◌*◌, ◌^◌, ◌≤◌, ◌<◌}
use mir.Syntax.{w64}
use mir.Val.{Fits}
use mathlib.Core.Path.{◌≡◌, refl, sym, ap, ◌∙◌}
use mathlib.Core.Bool.{Bool, true, false}
use mathlib.Core.List.{List, [], ◌∷◌, ◌++◌}
use native.Mathlib.Omega.{arith}
use lib.ListN.{length}
use lib.Seq.{sets}
use Rattle.std.specs.Prelude.{Ok, Err}
use Rattle.answer.specs.declared.Answer.{Answer}
use Rattle.slices.specs.Lists.{between}
use Rattle.dataset.specs.Header.{item_case, item_at}
use Rattle.dataset.specs.Tree.{Span, span}
use Rattle.dataset.specs.Reading.{explicit, by_fragment, fragments_at}
use Rattle.dataset.specs.declared.header.ItemHeader.{ItemHeader}
use Rattle.dataset.specs.declared.header.ItemHeader.TheVariants as place
use Rattle.dataset.specs.Place.{Lies}
use Rattle.dataset.specs.declared.extent.Extent.{Extent}
use Rattle.dataset.proofs.Laws.Header.HeaderFacts.{ItemFacts, item-facts}
use Rattle.dataset.proofs.Laws.Reading.Unfolding.{fragments-by}
use Rattle.stream.specs.Stream.{item_tag_bytes, sequence_delimiter_bytes, fragments_stream}
use Rattle.stream.specs.Inner.Writer.{holds_none, FragmentsWalk}
use Rattle.slices.proofs.Laws.Parts.{length-between}
use Rattle.stream.proofs.Laws.Writer.Walks.{Front, Going, start, go_on, stop-at, done}

pub record FragmentsLoop (d : List ℕ) (left stop from : ℕ) (xs₀ : List ℕ) (to₀ : ℕ) (xs : List ℕ) (at to : ℕ) : Type 0 where
  pub inside : at ≤ stop
  pub below : to + 4 ≤ at + length d
  pub going : Going holds_none fragments_stream d (fragments_at explicit d left stop from) to₀ xs₀ (fragments_at explicit d left stop at) false to xs

pub fragments-start : (d : List ℕ) (x : Extent) (xs : List ℕ) (to : ℕ) → Lies d x → to + 4 ≤ x.from + length d → FragmentsLoop d x.left x.stop x.from xs to xs x.from to
fragments-start d x xs to l h =
    record { inside = l.order; below = h; going = start holds_none fragments_stream d (fragments_at explicit d x.left x.stop x.from) to xs }

fragment-front : (d : List ℕ) (s : Span) → Front holds_none fragments_stream d (λ ss. s ∷ ss) (item_tag_bytes ++ between d s.start s.end) false
unfolding holds_none fragments_stream
fragment-front d s = record { streams = λ ss. refl; finds = λ ss. refl }

module _ (d : List ℕ) (left stop from : ℕ) (xs₀ : List ℕ) (to₀ : ℕ) (xs : List ℕ) (at to : ℕ) (i : FragmentsLoop d left stop from xs₀ to₀ xs at to) where
  pub fragments-refused : (f : Answer) (ys : List ℕ) → item_case (Err f) ≡ item_at d false true stop at → FragmentsWalk d left stop from to₀ (Err f) xs₀ ys
  unfolding by_fragment
  fragments-refused f ys e =
      stop-at holds_none fragments_stream d (fragments_at explicit d left stop from) to₀ xs₀ (fragments_at explicit d left stop at) false to xs i.going f ys
      (fragments-by d left stop at i.inside (item_case (Err f)) (sym e))

  -- r is what stands at `at`
  module _ (r : ItemHeader) (e : item_case (Ok r) ≡ item_at d false true stop at) where
    fragments-are : (p : ItemHeader) → r ≡ p → fragments_at explicit d left stop at ≡ by_fragment (fragments_at explicit d left stop) (item_case (Ok p))
    fragments-are p q = fragments-by d left stop at i.inside (item_case (Ok p)) (sym e ∙ ap (λ (h : ItemHeader). item_case (Ok h)) q)

    pub fragments-end : (next : ℕ) (ys : List ℕ) → r ≡ place.End next → ys ≡ sets xs to sequence_delimiter_bytes
        → FragmentsWalk d left stop from to₀ (Ok (record { holds_un = false; next = next; to = to + 4 })) xs₀ ys
    unfolding by_fragment fragments_stream holds_none
    fragments-end next ys q y =
        done holds_none fragments_stream d (fragments_at explicit d left stop from) to₀ xs₀ (fragments_at explicit d left stop at) false to xs i.going [] next (to + 4) ys
        (fragments-are (place.End next) q) refl refl y

    module _ (start end : ℕ) (inner : Bool) (q : r ≡ place.Item start end inner) where
      here : ItemFacts d false true stop at (item_case (Ok (place.Item start end inner)))
      here = rw (sym e ∙ ap (λ (h : ItemHeader). item_case (Ok h)) q) at (item-facts d false true stop at)

      pub fragment-order : start ≤ end
      fragment-order = here.0.order

      pub fragment-room : to + 4 ≤ start + length d
      fragment-room = omega (arith, here.0.starts, i.below)

      pub fragment-inside : (n : ℕ) → stop ≤ n → end ≤ n
      fragment-inside n l = omega (arith, here.0.inside)

      pub fragment-less : stop - end < stop - at
      fragment-less = let k = here.0 in omega (arith, k.starts, k.order, k.inside)

      fragment-below : to + 4 + (end - start) + 4 ≤ end + length d
      fragment-below = let k = here.0 in omega (arith, k.starts, k.order, i.below)

      pub fragment-fits : stop ≤ length d → length d * 1 < 2 ^ 63 → Fits w64 (to + 4 + (end - start))
      fragment-fits l b = let k = here.0 in record { fits = omega (arith, fragment-below, k.inside) }

      pub fragment-again : (ys : List ℕ) → stop ≤ length d → ys ≡ sets xs to (item_tag_bytes ++ between d start end)
          → FragmentsLoop d left stop from xs₀ to₀ ys end (to + 4 + (end - start))
      unfolding by_fragment
      fragment-again ys l y =
          let k = here.0 in
          let n = length-between d start end k.order (omega (arith, k.inside)) in
          record {
            inside = k.inside;
            below = fragment-below;
            going = go_on holds_none fragments_stream d (fragments_at explicit d left stop from) to₀ xs₀ (fragments_at explicit d left stop at) false to xs i.going
                (λ ss. span start end ∷ ss) (item_tag_bytes ++ between d start end) false (fragment-front d (span start end)) (fragments_at explicit d left stop end) _
                (λ ss m. refl) (fragments-are (place.Item start end inner) q) (to + 4 + (end - start)) ys (omega (arith, n)) y;
          }
