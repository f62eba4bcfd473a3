use Rattle.std.proofs.Common.{◌∙◌, subst, sym}
use Rattle.rv_net.specs.Network.{gate_ops}
use Rattle.rv_expand.proofs.Fitting.{AllFit}
use Rattle.rv_expand.proofs.write.put_gate.Goals as goal

pub put_flip-requires-clause-fit : goal.put_flip-requires-clause-fit
put_flip-requires-clause-fit g c = subst (λ gate. AllFit c.args.lines (gate_ops gate)) (sym c.shape.ensures.value ∙ c.in-Flip.is) c.requires.fit
