use Rattle.std.proofs.Common.{length, ◌∙◌, ap, arith, ◌++◌, ◌∷◌, []}
use Rattle.rv_gate.specs.Names.{numbered}
use Rattle.rv_gate.proofs.NameLemmas.{length-numbered}
use Rattle.rv_gate.proofs.Prefixes.{name_next}
use Rattle.rv_esop.proofs.lines.names_of.Goals as goal

pub name-requires : goal.name-requires
name-requires c = omega (arith, ap length c.in_ok-more.ensures, length-numbered 121 c.args.outputs)

pub loop-output-preserved : goal.loop-output-preserved
loop-output-preserved c =
    let name = c.name.result.now in
    c.in-Ok.ensures.ok ∙ ap (λ l. l ++ name ∷ []) c.loop-output.invariant
    ∙ name_next (numbered 120 c.args.inputs) 121 c.args.outputs c.loop-output.output c.in_ok-more.more name
    (omega arith) c.in_ok-more.ensures c.name.ensures
