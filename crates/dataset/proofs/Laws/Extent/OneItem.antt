-- What the arms of `open_item` give, with the facts of the place as premises. Assumes nothing.
use Rattle.std.specs.Prelude.{Result, Ok, Err}
use Prim.Native.Nat.{ℕ}
use mathlib.Core.Path.{◌≡◌}
use mathlib.Core.Bool.{Bool, true}
use mathlib.Core.List.{List}
use Rattle.answer.specs.declared.Answer.{Answer}
use Rattle.dataset.specs.Header.{item_case, item_at}
use Rattle.dataset.specs.Reading.{deeper}
use Rattle.dataset.specs.Extent.{opened_item, opened_case}
use Rattle.dataset.specs.declared.extent.Extent.{Extent}
use Rattle.dataset.specs.declared.extent.OpenedItem.TheVariants as opened
use Rattle.dataset.specs.declared.header.ItemHeader.{ItemHeader}
use Rattle.dataset.specs.declared.header.ItemHeader.TheVariants as header

module _ (d : List ℕ) (x : Extent) (at : ℕ) (r : Result ItemHeader Answer) (e : item_case r ≡ item_at d true x.delimited x.stop at) where
  pub item_refused : (f : Answer) → r ≡ Err f → opened_case (Err f) ≡ opened_item d x at
  unfolding opened_item
  item_refused f q = rw (← e, q)

  pub item-ends : (next : ℕ) → r ≡ Ok (header.End next) → opened_case (Ok (opened.End next)) ≡ opened_item d x at
  unfolding opened_item
  item-ends next q = rw (← e, q)

  pub item-lies : (start end left : ℕ) (inner : Bool) → r ≡ Ok (header.Item start end inner) → left ≡ deeper x.left
      → opened_case (Ok (opened.Item (record { delimited = inner; left = left; stop = end; from = start }))) ≡ opened_item d x at
  unfolding opened_item
  item-lies start end left inner q l = rw (← e, q, l)
