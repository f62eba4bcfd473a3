use Rattle.rv_pairs.proofs.inside.Linked.{chains_start}
use Rattle.rv_pairs.proofs.chains.Chains.new.Goals as goal

pub returns-clause-empty : goal.returns-clause-empty
returns-clause-empty c = λ belongs. chains_start belongs c.args.count _ (c.in_ok-vec.ensures.items_if_clones_equal (λ y e. e)) c.in_ok-with_capacity.ensures.items
