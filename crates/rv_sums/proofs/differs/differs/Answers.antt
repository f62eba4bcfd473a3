use Rattle.std.proofs.Common.{◌≢◌, Bool, List, subst}
use Rattle.rv_terms.specs.declared.sum.Sum.{Sum}
use Rattle.rv_sums.specs.inside.State.{word_at}
use Rattle.rv_sums.proofs.inside.Words.{elsewhere_differs}
use Rattle.rv_sums.proofs.differs.differs.Goals as goal

pub returns-then-elsewhere : goal.returns-then-elsewhere
returns-then-elsewhere c on =
    elsewhere_differs c.args.word c.args.image c.args.ops.now c.in_ok-state.state c.in_ok-state.ensures c.requires.image
    (subst (λ (l : List Sum). (x v : List Bool) → word_at l x v ≢ c.args.image) c.deref.ensures.value
    (c.in_ok-elsewhere.ensures c.if-elsewhere.true))

pub returns : goal.returns
returns c on = c.in_ok-apart.ensures on c.args.word c.args.ops.now c.count_h-roots.ensures c.requires.image c.in_ok-state.ensures
