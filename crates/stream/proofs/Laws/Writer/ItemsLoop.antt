-- What one turn of the loop of `write_items` does, with the facts of the place as premises. Assumes nothing.
use Prim.Native.Nat.{ℕ, ◌+◌, ◌-◌, ◌*◌, ◌≤◌, ◌<◌}
use mathlib.Core.Path.{◌≡◌, refl, sym, ap, ◌∙◌, subst}
use mathlib.Core.Bool.{Bool, true, false, ◌||◌, true≢false}
use mathlib.Core.List.{List, ◌++◌, append_assoc}
use native.Mathlib.Omega.{arith}
use lib.ListN.{length}
use lib.Seq.{sets}
use Rattle.std.specs.Prelude.{Ok, Err}
use Rattle.answer.specs.declared.Answer.{Answer}
use Rattle.dataset.specs.Header.{ItemHeader, item_at}
use Rattle.dataset.specs.Tree.{Elements, last, item}
use Rattle.dataset.specs.Reading.{Reading, fault, read, ◌>>=◌, deeper}
use Rattle.dataset.specs.Extent.{OpenedItem, elements_in, items_in, opened_by, opened_item, opened_case}
use Rattle.dataset.specs.Place.{Lies}
use Rattle.dataset.specs.declared.extent.Extent.{Extent}
use Rattle.dataset.specs.declared.extent.OpenedItem as item_enum
use Rattle.dataset.specs.declared.extent.OpenedItem.TheVariants as opened
use Rattle.dataset.proofs.Laws.Extent.ItemsFrom.{items_from, items_refused, items-end, item-deep, item-lies, items-are-one, item-past}
use Rattle.dataset.proofs.Laws.Header.HeaderFacts.{ItemFacts, item-facts}
use Rattle.dataset.proofs.Laws.Reading.Levels.{deeper-falls}
use Rattle.dataset.proofs.Laws.Reading.Guarantees.{holds_read, ElementsIn, elements-read}
use Rattle.stream.specs.Stream.{item_tag_bytes, sequence_delimiter_bytes, elements_stream, items_stream}
use Rattle.stream.specs.UN.{elements_hold_un, items_hold_un}
use Rattle.stream.specs.Inner.Writer.{walked, Leaves, ElementsWalk, ItemsWalk}
use Rattle.stream.specs.declared.writer.Written.{Written}
use Rattle.slices.proofs.Laws.Writing.{two_runs}
use Rattle.stream.proofs.Laws.Writer.StreamLength.{elements-length}
use Rattle.stream.proofs.Laws.Writer.Walks.{Front, Going, start, go_on, stop-at, done}

pub record ItemsLoop (d : List ℕ) (x : Extent) (xs₀ : List ℕ) (to₀ : ℕ) (xs : List ℕ) (at : ℕ) (found : Bool) (to : ℕ) : Type 0 where
  pub inside : at ≤ x.stop
  pub below : to + 4 ≤ at + length d
  pub going : Going items_hold_un items_stream d (items_in d x) to₀ xs₀ (items_from d x at) found to xs

pub items-start : (d : List ℕ) (x : Extent) (xs : List ℕ) (to : ℕ) → Lies d x → to + 4 ≤ x.from + length d → ItemsLoop d x xs to xs x.from false to
items-start d x xs to l h = record { inside = l.order; below = h; going = start items_hold_un items_stream d (items_in d x) to xs }

item-front : (d : List ℕ) (at : ℕ) (es : Elements) (unknown : Bool) → elements_hold_un es ≡ unknown
    → Front items_hold_un items_stream d (item at es) (item_tag_bytes ++ elements_stream es d) unknown
unfolding items_stream items_hold_un
item-front d at es unknown e = record { streams = λ is. sym (append_assoc item_tag_bytes (elements_stream es d) (items_stream is d)); finds = λ is. rw e }

-- ---- what the walk over an item's elements answers, and what it says of the reading
is-fault : (p : Reading Elements) (d : List ℕ) (to : ℕ) (f : Answer) → walked elements_hold_un elements_stream p d to ≡ Err f → p ≡ fault f
unfolding walked
is-fault (fault g) d to f e = let q : g ≡ f = cc in ap fault q
is-fault (read es n) d to f e = absurd (true≢false (cc))

record IsRead (p : Reading Elements) (d : List ℕ) (to : ℕ) (w : Written) : Type 0 where
  pub what : Elements
  pub is : p ≡ read what w.next
  pub holding : elements_hold_un what ≡ w.holds_un
  pub passes : w.to ≡ to + length (elements_stream what d)

is_read : (p : Reading Elements) (d : List ℕ) (to : ℕ) (w : Written) → walked elements_hold_un elements_stream p d to ≡ Ok w → IsRead p d to w
unfolding walked
is_read (fault g) d to w e = absurd (true≢false (cc))
is_read (read es n) d to w e =
    let k : record { holds_un = elements_hold_un es; next = n; to = to + length (elements_stream es d) } ≡ w = cc in
    rw (← k) record { what = es; is = refl; holding = refl; passes = refl }

-- ---- an item's data set lies behind its header
starts-by : (d : List ℕ) (x : Extent) (at : ℕ) (p : ItemHeader) → ItemFacts d true x.delimited x.stop at p → (inside : Extent)
    → opened_by x.left p ≡ OpenedItem.item inside → at + 8 ≤ inside.from
starts-by d x at (ItemHeader.refused a) f inside q = absurd (true≢false (cc))
starts-by d x at (ItemHeader.ends n) f inside q = absurd (true≢false (cc))
starts-by d x at (ItemHeader.item start end inner) f inside q =
    let k : record { delimited = inner; left = deeper x.left; stop = end; from = start } ≡ inside = cc in
    rw (← k) (omega (arith, f.0.starts))

module _ (d : List ℕ) (x : Extent) (xs₀ : List ℕ) (to₀ : ℕ) (xs : List ℕ) (at : ℕ) (found : Bool) (to : ℕ) (i : ItemsLoop d x xs₀ to₀ xs at found to) where
  pub loop-refused : (f : Answer) (ys : List ℕ) → opened_case (Err f) ≡ opened_item d x at → ItemsWalk d x to₀ (Err f) xs₀ ys
  loop-refused f ys e =
      stop-at items_hold_un items_stream d (items_in d x) to₀ xs₀ (items_from d x at) found to xs i.going f ys (items_refused d x at (Err f) e i.inside f refl)

  -- r is what stands at `at`
  module _ (r : item_enum.OpenedItem) (e : opened_case (Ok r) ≡ opened_item d x at) where
    pub loop-end : (next : ℕ) (ys : List ℕ) → r ≡ opened.End next → ys ≡ sets xs to sequence_delimiter_bytes
        → ItemsWalk d x to₀ (Ok (record { holds_un = found; next = next; to = to + 4 })) xs₀ ys
    unfolding items_stream items_hold_un
    loop-end next ys q y =
        done items_hold_un items_stream d (items_in d x) to₀ xs₀ (items_from d x at) found to xs i.going last next (to + 4) ys
        (items-end d x at (Ok r) e i.inside next (ap Ok q)) refl refl y

    module _ (inside : Extent) (q : r ≡ opened.Item inside) where
      starts : at + 8 ≤ inside.from
      unfolding opened_item
      starts =
          starts-by d x at (item_at d true x.delimited x.stop at) (item-facts d true x.delimited x.stop at) inside
          (sym e ∙ ap (λ (h : item_enum.OpenedItem). opened_case (Ok h)) q)

      pub inside-lies : Lies d x → Lies d inside
      inside-lies l = item-lies d x at (Ok r) e inside (ap Ok q) l.inside

      -- the walk's measure falls from a sequence's items to the elements of an item
      pub inside_falls : (t : ℕ) → 0 < x.left → 4 * x.left ≡ t → 4 * inside.left + 3 < t
      inside_falls t h z = let k = deeper-falls x.left h in omega (arith, k, item-deep d x at (Ok r) e inside (ap Ok q), z)

      pub inside_room : to + 4 ≤ inside.from + length d
      inside_room = omega (arith, starts, i.below)

      pub inside-refused : (f : Answer) (ys zs : List ℕ) → ElementsWalk d inside (to + 4) (Err f) ys zs → ItemsWalk d x to₀ (Err f) xs₀ zs
      inside-refused f ys zs w =
          stop-at items_hold_un items_stream d (items_in d x) to₀ xs₀ (items_from d x at) found to xs i.going f zs
          (items-are-one d x at (Ok r) e inside (ap Ok q) i.inside ∙ rw (is-fault (elements_in d inside) d (to + 4) f (sym w.answers)))

      -- o is what the walk over the item's elements gives, and zs what it leaves
      module _ (o : Written) (ys zs : List ℕ) (w : ElementsWalk d inside (to + 4) (Ok o) ys zs) where
        elements-found : IsRead (elements_in d inside) d (to + 4) o
        elements-found = is_read (elements_in d inside) d (to + 4) o (sym w.answers)

        past : (at < o.next) × (o.next ≤ x.stop)
        past = item-past d x at (Ok r) e inside (ap Ok q) elements-found.what o.next elements-found.is

        pub item-less : x.stop - o.next < x.stop - at
        item-less = omega (arith, past)

        item-next : items_from d x at ≡ (items_from d x o.next >>= λ (rest, after). read (item at elements-found.what rest) after)
        item-next = items-are-one d x at (Ok r) e inside (ap Ok q) i.inside ∙ rw elements-found.is

        elements-output : zs ≡ sets ys (to + 4) (elements_stream elements-found.what d)
        unfolding Leaves
        elements-output = subst (λ (p : Reading Elements). Leaves elements_stream p d (to + 4) ys zs) elements-found.is w.output

        pub item-again : Lies d x → ys ≡ sets xs to item_tag_bytes → ItemsLoop d x xs₀ to₀ zs o.next (found || o.holds_un) o.to
        item-again l y =
            let f = elements-found in
            let j = inside-lies l in
            let k : ElementsIn d inside.delimited inside.left inside.stop 0 inside.from f.what o.next =
            holds_read (ElementsIn d inside.delimited inside.left inside.stop 0 inside.from) (elements_in d inside) f.what o.next
            (elements-read d inside.left inside.stop inside.from j.inside inside.delimited 0) f.is in
            let m = elements-length f.what d inside.left 0 inside.from o.next k.tree in
            let b = m.1 in
            let t : to + length (item_tag_bytes ++ elements_stream f.what d) ≡ to + 4 + length (elements_stream f.what d) = omega arith in
            record {
              inside = past.1;
              below = omega (arith, starts, i.below, f.passes, b, k.order);
              going = go_on items_hold_un items_stream d (items_in d x) to₀ xs₀ (items_from d x at) found to xs i.going
                  (item at f.what) (item_tag_bytes ++ elements_stream f.what d) o.holds_un (item-front d at f.what o.holds_un f.holding)
                  (items_from d x o.next) _ (λ is n. refl) item-next o.to zs (f.passes ∙ sym t)
                  (two_runs xs item_tag_bytes (elements_stream f.what d) to 4 ys zs refl y elements-output);
            }
