use Rattle.std.proofs.Common.{refl}
use Rattle.rv_terms.proofs.Powers.{kept_removed, kept_changed}
use Rattle.rv_terms.proofs.kept.change.Goals as goal

pub returns-then-next-eq0 : goal.returns-then-next-eq0
returns-then-next-eq0 c one x v =
    kept_removed c.args.kept.now.items _ c.index.result.now one c.args.at c.args.weight x v c.requires c.index.ensures c.if-next-eq0.true
    c.remove.ensures.items

pub returns-else-next-eq0 : goal.returns-else-next-eq0
returns-else-next-eq0 c one x v =
    kept_changed c.args.kept.now.items _ c.index.result.now c.index_mut-one.result.now _ one c.args.at c.args.weight x v c.requires
    c.index.ensures c.index_mut-one.ensures.value refl refl refl
