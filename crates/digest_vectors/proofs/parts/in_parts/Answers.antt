use Rattle.std.proofs.Common.{rules, ◌∙◌}
use Rattle.digest_vectors.proofs.Laws.Parts.SoFar.{so-far-start, so-far-next, so-far-refused, so-far-all}
use Rattle.digest_vectors.proofs.parts.in_parts.Goals as goal

pub loop-part-init : goal.loop-part-init
loop-part-init c = so-far-start _ _ _ c.start-state.ensures (search rules)

pub returns-then-fed-ne0 : goal.returns-then-fed-ne0
returns-then-fed-ne0 c =
    c.from.ensures ∙ so-far-refused _ _ _ c.loop-part.invariant _ _ _ c.in-Some.ensures.steps.1.0 c.feed-fed.ensures c.if-fed-ne0.true

pub loop-part-preserved : goal.loop-part-preserved
loop-part-preserved c =
    so-far-next _ _ _ c.loop-part.invariant _ _ _ c.in-Some.ensures.steps.1.0 c.feed-fed.ensures c.if-fed-ne0.false

pub returns : goal.returns
returns c = so-far-all _ _ _ _ c.loop-part.invariant c.in-None.ensures.steps.1.0 c.finish-done.ensures
