use Rattle.rv_links.proofs.inside.IndexLemmas.{told_all, seen_more}
use Rattle.rv_links.proofs.index.sought.Goals as goal

pub returns-then-slot-eq0 : goal.returns-then-slot-eq0
returns-then-slot-eq0 c =
    told_all _ _ _ _ _ _ _ _ _ c.requires.indexed c.loop-i-test.true c.ask-slot.ensures c.if-slot-eq0.true c.loop-i.invariant.0 c.loop-i.invariant.1 c.told.ensures

pub loop-i-preserved : goal.loop-i-preserved
loop-i-preserved c = (
  c.better-best.ensures.here,
  seen_more _ _ _ _ _ _ _ _ _ c.ask-slot.ensures c.if-slot-eq0.false c.requires.below c.loop-i.invariant.1 c.better-best.ensures.best c.better-best.ensures.this,
)
