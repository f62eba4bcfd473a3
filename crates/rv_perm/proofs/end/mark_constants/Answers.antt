use Rattle.std.proofs.Common.{arith, ap, set, get_or, length, ◌∙◌, ◌<◌}
use Rattle.rv_gate.specs.declared.circuit.Mark.TheVariants.{Input}
use Rattle.std.proofs.lemmas.List.{get_or_default}
use Rattle.rv_perm.specs.Perm.{Table}
use Rattle.rv_perm.specs.Marked.{Marked}
use Rattle.rv_gate.proofs.Setting.{IsSetting-more_at}
use Rattle.rv_perm.proofs.end.mark_constants.Goals as goal

pub loop-line-preserved : goal.loop-line-preserved
loop-line-preserved c =
    let marks = c.args.marks.now in
    let line = c.loop-line.line in
    let within : line < length marks = omega (arith, ap (λ (t : Table). t.lines) c.perm.ensures.value) in
    rw c.set_constant.ensures (record {
      table = c.loop-line.invariant.table;
      rest = ap (λ (x : Marked). record x { constants = set c.loop-line.spec.constants line (get_or marks c.from.result Input) }) c.loop-line.invariant.rest;
      setting = IsSetting-more_at marks c.loop-line.spec.constants line _ c.loop-line.invariant.setting within (ap (λ i. get_or marks i Input) c.from.ensures ∙ get_or_default marks line Input _ within);
    })
