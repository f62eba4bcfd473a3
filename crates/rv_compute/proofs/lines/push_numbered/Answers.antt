use Rattle.std.proofs.Common.{length, ◌∙◌, ap, arith, ◌++◌, ◌∷◌, []}
use Rattle.rv_gate.proofs.NameLemmas.{length-numbered}
use Rattle.rv_gate.proofs.Prefixes.{name_next}
use Rattle.rv_compute.proofs.lines.push_numbered.Goals as goal

pub name-requires : goal.name-requires
name-requires c = omega (arith, ap length c.in_ok-more.ensures, length-numbered c.args.prefix c.args.count)

pub loop-line-preserved : goal.loop-line-preserved
loop-line-preserved c =
    let name = c.name.result.now in
    c.in-Ok.ensures.ok ∙ ap (λ l. l ++ name ∷ []) c.loop-line.invariant
    ∙ name_next c.args.names.now c.args.prefix c.args.count c.loop-line.line c.in_ok-more.more name
    (omega arith) c.in_ok-more.ensures c.name.ensures
