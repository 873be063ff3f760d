-- `lookup` meets its contract: it takes apart what `find` ensures. Assumes nothing.
use Rattle.std.proofs.Common.{ap, refl, rules, ◌+◌}
use Rattle.dataset.proofs.Laws.Lookup.FindLoop as steps
use Rattle.slices.specs.Lists.{between}
use Rattle.dataset.specs.declared.lookup.Found.{Found}
use native.Mathlib.Omega.{arith}
use Rattle.dataset.proofs.lookup.lookup.Goals as goal

pub overflow_add-result : goal.overflow_add-result
overflow_add-result c = let h = steps.found_inside _ _ _ c.find-f.ensures in search rules

pub slice_bounds-result-end : goal.slice_bounds-result-end
slice_bounds-result-end c = let h = steps.found_inside _ _ _ c.find-f.ensures in search rules

pub returns : goal.returns
unfolding between
returns c =
    let e = c.find-f.ensures in
    let args = c.args in
    record {
      block = refl;
      offset = omega (arith, ap (λ (f : Found). f.start) e);
      part = ap (λ (f : Found). between args.d.now f.start (f.start + f.length)) e;
      answered = ap (λ (f : Found). f.answer) e;
      stands = ap (λ (f : Found). f.present) e;
    }
