use Rattle.std.proofs.Common.{rules, tests, refl, eqb, ◌∙◌, ◌&&◌}
use Rattle.std.specs.List.{list_all}
use Rattle.std.proofs.lemmas.Iterator.{YieldsList-from_slice}
use Rattle.std.proofs.lemmas.Iterator.Search.{all_from_yields_List}
use Rattle.std.proofs.lemmas.List.Recursion.{same_from_clauses}
use Rattle.slices.specs.Lists.{all_are}
use Rattle.slices.proofs.all_are.Goals as goal

pub returns : goal.returns
unfolding all_are
returns c =
    let byte = c.args.byte in
    let xs = c.args.bytes.now in
    all_from_yields_List (λ b. eqb b byte) _ _ c.all.result c.all.ensures.ran (YieldsList-from_slice xs cc) (λ x b q k. search (rules, tests))
    ∙ same_from_clauses (list_all (λ b. eqb b byte)) (all_are byte) (λ x r. eqb x byte && r) refl (λ _ _. refl) (λ _ _. refl) xs
