use Rattle.std.proofs.Common.{◌+◌, replicate, set, ◌∙◌, ap, arith, true, false}
use Rattle.std.proofs.lemmas.List.{length-replicate}
use Rattle.rv_gate.specs.Circuit.{Cascade}
use Rattle.rv_gate.proofs.Prefixes.{mark_none, mark_after}
use Rattle.rv_compute.proofs.Marks.{with_garbage}
use Rattle.rv_compute.proofs.lines.drop_last.Goals as goal

pub loop-line-init : goal.loop-line-init
loop-line-init c =
    ap (with_garbage c.args.circuit.now) (c.requires.fresh ∙ mark_none c.args.first c.args.rest false)

pub loop-line-preserved : goal.loop-line-preserved
loop-line-preserved c =
    let line = c.args.first + c.loop-line.line in
    c.set_garbage.ensures
    ∙ ap (λ (t : Cascade). with_garbage t (set t.garbage line true)) c.loop-line.invariant
    ∙ ap (with_garbage c.args.circuit.now)
    (mark_after (replicate c.args.first false) c.args.first c.args.rest c.loop-line.line true false
    (length-replicate c.args.first false) (omega arith))
