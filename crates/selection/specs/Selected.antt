-- What the selection's function promises: by what is read, a fault; or what `select_in` says (Selection.antt), with each data set by the
-- extent in which it is read. `Selected` is the struct of src/select.rt.
-- Assumes nothing.
use Rattle.std.specs.Prelude.{ℕ, ◌≤◌, ◌≡◌, List, Option, Result, Ok, Err, length}
use Rattle.answer.specs.declared.Answer.{Answer}
use Rattle.answer.specs.Answer.{refused}
use Rattle.slices.specs.Lists.{between}
use Rattle.dataset.specs.Tree.{Elements}
use Rattle.dataset.specs.Reading.{Reading, fault, read, tree_of}
use Rattle.dataset.specs.Extent.{elements_in}
use Rattle.dataset.specs.Place.{Lies}
use Rattle.dataset.specs.declared.extent.Extent.{Extent}
use Rattle.selection.specs.Selection.{refusal, selected, select_in}
use Rattle.selection.specs.Selection as spec
use Rattle.selection.specs.declared.select.Algorithm.{Algorithm}
use Rattle.selection.specs.declared.select.Algorithm.TheVariants as algorithm
use Rattle.selection.specs.declared.select.Selected.{Selected}

-- the code's cases of an algorithm (13.2)
abbrev pub algorithm_case : spec.Algorithm → Algorithm
algorithm_case spec.Algorithm.of_sha256 = algorithm.Sha256

-- 8.2, 8.3: the list, the algorithm, the elements es of the data set that is signed and those of the signature item are the code's `parts`
pub record IsSelected (d : List ℕ) (x : Extent) (list : List ℕ) (a : spec.Algorithm) (es item : Elements) (parts : Selected) : Type 0 where
  pub order : parts.start ≤ parts.end
  pub inside : parts.end ≤ length d
  pub listed : list ≡ between d parts.start parts.end
  pub algorithm : parts.algorithm ≡ algorithm_case a
  pub signed : parts.signed ≡ x
  pub lies : Lies d parts.signed
  pub next : ℕ
  pub reads : elements_in d parts.signed ≡ read es next
  pub item-lies : Lies d parts.item
  pub item-next : ℕ
  pub item-reads : elements_in d parts.item ≡ read item item-next

-- what is selected in the data set that lies in x: a refusal's number (9.3), or that
abbrev pub SelectionAs : List ℕ → Extent → spec.Selection → Result Selected Answer → Type 0
SelectionAs d x (refusal number) r = r ≡ Err (refused number 0)
SelectionAs d x (selected list a es item) r = (parts : Selected) × (r ≡ Ok parts) × IsSelected d x list a es item parts

-- by what is read in x: its fault, or what is selected there, in a whole data set whose elements are `whole`
abbrev pub SelectedBy : (uid : List ℕ) (which : Option ℕ) (d : List ℕ) (whole : Elements) (x : Extent) → Reading Elements → Result Selected Answer → Type 0
SelectedBy uid which d whole x (fault f) r = r ≡ Err f
SelectedBy uid which d whole x (read es next) r = SelectionAs d x (select_in uid which whole d es) r

-- in the data set x, which is `whole` or stands in it
abbrev pub SelectedIn : (uid : List ℕ) (which : Option ℕ) (d : List ℕ) (whole x : Extent) → Result Selected Answer → Type 0
SelectedIn uid which d whole x r = SelectedBy uid which d (tree_of (elements_in d whole)) x (elements_in d x) r
