use Rattle.rv_embed.proofs.inside.ClassLemmas.{Counted}
use Rattle.rv_embed.proofs.classes.classes_of.Given as goal

abbrev pub invariant-loop-output : goal.invariant-loop-output
invariant-loop-output l = Counted l.outputs l.sizes.items l.ranks.items l.words l.largest l.output-index
