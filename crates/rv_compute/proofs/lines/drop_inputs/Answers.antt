use Rattle.std.proofs.Common.{◌-◌, ◌≡◌, ◌++◌, replicate, set, ◌∙◌, ap, sym, arith, true, false, append_assoc}
use Rattle.rv_gate.specs.Circuit.{Cascade}
use Rattle.rv_gate.proofs.Prefixes.{mark_before}
use Rattle.rv_compute.proofs.Marks.{with_garbage}
use Rattle.std.proofs.lemmas.List.{replicate-append-replicate}
use Rattle.rv_compute.proofs.lines.drop_inputs.Goals as goal

pub loop-input-init : goal.loop-input-init
loop-input-init c =
    let n = c.args.inputs in
    let o = c.args.outputs in
    let z : n ≡ n - 0 = omega arith in
    ap (with_garbage c.args.circuit.now)
    (c.requires.fresh
    ∙ ap (λ g. g ++ replicate c.args.work true) (sym (replicate-append-replicate n o false))
    ∙ append_assoc (replicate n false) (replicate o false) (replicate c.args.work true)
    ∙ ap (λ k. replicate k false ++ (replicate o false ++ replicate c.args.work true)) z)

pub loop-input-preserved : goal.loop-input-preserved
loop-input-preserved c =
    c.set_garbage.ensures
    ∙ ap (λ (t : Cascade). with_garbage t (set t.garbage c.loop-input.input true)) c.loop-input.invariant
    ∙ ap (with_garbage c.args.circuit.now)
    (mark_before c.args.inputs c.loop-input.input true false
    (replicate c.args.outputs false ++ replicate c.args.work true) (omega arith))
