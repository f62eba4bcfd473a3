use Rattle.std.proofs.Common.{◌^◌, length, List, subst, ap, sym, ◌∙◌}
use Rattle.rv_pla.specs.declared.cube.Cube.{Cube}
use Rattle.rv_exorlink.specs.Weight.{IsNoWorse}
use Rattle.rv_cube.proofs.inside.Entries.{length-values}
use Rattle.rv_exorlink.proofs.Finds.{table_replaces}
use Rattle.rv_exorlink.proofs.found.with_table.Goals as goal

pub kronecker-requires-clause-full : goal.kronecker-requires-clause-full
kronecker-requires-clause-full c =
    ap length c.requires.table ∙ length-values c.args.pla.now ∙ ap (λ n. 2 ^ n) (sym c.inputs.ensures.value)

pub returns-then-is_no_worse : goal.returns-then-is_no_worse
returns-then-is_no_worse c =
    let pla = c.args.pla.now in
    table_replaces c.args.goal pla c.args.best.items c.args.values.now c.inputs.result c.in_ok-table.table.items
    c.deref-2.result.now c.requires.table c.inputs.ensures.value
    c.in_ok-table.ensures.value c.in_ok-table.ensures.terms c.deref-2.ensures.value
    (let P : List Cube → Type 0 = λ l. IsNoWorse c.args.goal l c.deref-2.result.now in subst P c.deref.ensures.value
    (c.is_no_worse.ensures c.if-is_no_worse.true))
