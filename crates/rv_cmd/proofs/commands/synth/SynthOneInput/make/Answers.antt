use Rattle.rv_cmd.proofs.Laws.Synth.{synth-answers}
use Rattle.rv_cmd.proofs.commands.synth.SynthOneInput.make.Goals as goal

pub returns-in-Ok-clause-made : goal.returns-in-Ok-clause-made
returns-in-Ok-clause-made c =
    synth-answers c.args.self.now.method c.args.spec.now c.in-Ok.circuit c.recall_invariant.ensures c.in-Ok.ensures.circuit c.recall_invariant-in-Ok.ensures
