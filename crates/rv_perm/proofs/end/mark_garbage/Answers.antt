use Rattle.std.proofs.Common.{arith, ap, set, get_or, length, false, ◌∙◌, ◌<◌}
use Rattle.std.proofs.lemmas.List.{get_or_default}
use Rattle.rv_perm.specs.Perm.{Table}
use Rattle.rv_perm.specs.Marked.{Marked}
use Rattle.rv_gate.proofs.Setting.{IsSetting-more_at}
use Rattle.rv_perm.proofs.end.mark_garbage.Goals as goal

pub loop-line-preserved : goal.loop-line-preserved
loop-line-preserved c =
    let marks = c.args.marks.now in
    let line = c.loop-line.line in
    let within : line < length marks = omega (arith, ap (λ (t : Table). t.lines) c.perm.ensures.value) in
    rw c.set_garbage.ensures (record {
      table = c.loop-line.invariant.table;
      rest = ap (λ (x : Marked). record x { garbage = set c.loop-line.spec.garbage line (get_or marks c.from.result false) }) c.loop-line.invariant.rest;
      setting = IsSetting-more_at marks c.loop-line.spec.garbage line _ c.loop-line.invariant.setting within (ap (λ i. get_or marks i false) c.from.ensures ∙ get_or_default marks line false _ within);
    })
