-- `select_parameters` meets its contract: each place by its law in Parameters. Assumes nothing.
use Rattle.std.proofs.Common.{◌∙◌}
use Rattle.std.proofs.lemmas.Result.{err_from_is_err_and}
use Rattle.selection.proofs.Laws.PlaceValues as places
use Rattle.selection.proofs.Laws.Parameters.Parameters as steps
use Rattle.selection.proofs.parameters.select_parameters.Goals as goal
use Rattle.selection.proofs.parameters.select_parameters.Goals.{in_default-via-in-Value+else-vr-eq-AT, in_default-via-in_default}

pub returns-then-bad_syntax : goal.returns-then-bad_syntax
returns-then-bad_syntax c =
    steps.list-syntax _ _ _ _ _ _ c.seek.ensures _ c.in_ok-first.was _ c.value_of.ensures _ c.bad_syntax.ensures _ c.if-bad_syntax.true c.at.ensures

pub returns-in_err-algorithm : goal.returns-in_err-algorithm
returns-in_err-algorithm c =
    let m = places.missing _ _ _ c.ok_or.ensures.value _ c.in_err-algorithm.was in
    let p = err_from_is_err_and c.from_residual-in_err-algorithm.result c.from_residual-in_err-algorithm.ensures.1 in
    rw (p.1, p.2)
    (steps.list-algorithm _ _ _ _ _ _ c.seek.ensures _ c.in_ok-first.was _ c.value_of.ensures _ c.bad_syntax.ensures c.if-bad_syntax.false _ c.value_of-2.ensures
    _ c.algorithm_of.ensures _ m.0 (m.1 ∙ c.at-2.ensures))

pub returns-in-Value : goal.returns-in-Value
returns-in-Value c =
    let k = places.needed _ _ _ c.ok_or.ensures.value _ c.in_ok-algorithm.was in
    steps.list-selected _ _ _ _ _ _ c.seek.ensures _ c.in_ok-first.was _ c.value_of.ensures _ c.bad_syntax.ensures c.if-bad_syntax.false _ c.value_of-2.ensures _
    c.algorithm_of.ensures _ k _ _ _ c.in-Value.is c.if-vr-eq-AT.true

pub returns-in_default : goal.returns-in_default
returns-in_default c =
    let k = places.needed _ _ _ c.ok_or.ensures.value _ c.in_ok-algorithm.was in
    elim c.in_default.branch [
      | in_default-via-in-Value+else-vr-eq-AT w ↦
          steps.list-other _ _ _ _ _ _ c.seek.ensures _ c.in_ok-first.was _ c.value_of.ensures _ c.bad_syntax.ensures c.if-bad_syntax.false _ c.value_of-2.ensures _
          c.algorithm_of.ensures _ k _ _ _ w.in-Value.is _ w.if-vr-eq-AT.false c.at-in_default.ensures
      | in_default-via-in_default w ↦
          steps.list-none _ _ _ _ _ _ c.seek.ensures _ c.in_ok-first.was _ c.value_of.ensures _ c.bad_syntax.ensures c.if-bad_syntax.false _ c.value_of-2.ensures _
          c.algorithm_of.ensures _ k _ w.in_default.not-Value c.at-in_default.ensures
    ]
