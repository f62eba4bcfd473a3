use Rattle.rv_resynth.proofs.inside.Splitting.{gates_drop}
use Rattle.rv_resynth.proofs.tries.attempt.Goals as goal

pub put-requires-clause-splits : goal.put-requires-clause-splits
put-requires-clause-splits c =
    let splits = rw (c.split_at.ensures.back, c.deref.ensures.value) at c.in_ok-window.ensures.splits in
    splits c.args.lines (gates_drop c.args.lines c.below-from.result c.args.gates.now.items c.requires.gates)
