-- `one_of` meets its contract: the library's `contains` asks the same of each entry. Assumes nothing.
use Rattle.std.proofs.Common.{ℕ, List, [], ◌∷◌, Bool, true, false, eqb, ◌≡◌, refl, sym, ◌∙◌}
use borrow.Author.Tests.{eqb-true, eqb-false, eq-eqb, ne_eqb}
use Rattle.std.specs.List.{list_any}
use Rattle.dataset.specs.Vr.{one_of}
use Rattle.dataset.proofs.vr.one_of.Goals as goal

turned : (a b : ℕ) → eqb a b ≡ eqb b a
turned a b = go (eqb b a) refl
  where
    go : (t : Bool) → eqb b a ≡ t → eqb a b ≡ t
    go true e = eq-eqb a b (sym (eqb-true b a e))
    go false e = ne_eqb a b λ k. eqb-false b a e (sym k)

any_is : (v : ℕ) (xs : List ℕ) → list_any (λ y. eqb y v) xs ≡ one_of v xs
unfolding one_of
any_is v [] = refl
any_is v (x ∷ xs) = rw (turned x v, any_is v xs)

pub returns : goal.returns
returns c = c.contains.ensures.value ∙ any_is c.args.vr c.args.table.now
