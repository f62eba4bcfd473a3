use Rattle.std.proofs.Common.{◌++◌, ◌<◌, List, ℕ, sym, subst, arith, length}
use Rattle.std.proofs.lemmas.List.Elements.{All-get_or}
use Rattle.rv_net.specs.Op.{OpFitsIn}
use Rattle.rv_net.specs.declared.op.Op.{Op}
use Rattle.rv_net.specs.declared.op.Op.TheVariants.{X}
use Rattle.rv_hadamards.specs.Becomes.{Becomes}
use Rattle.rv_hadamards.proofs.Becoming.{itself}
use Rattle.rv_hadamards.proofs.inside.Waiting.{next}
use Rattle.rv_hadamards.proofs.moving.moved.Goals as goal

pub loop-place-init : goal.loop-place-init
loop-place-init c =
    subst (λ (l : List Op). Becomes c.args.lines c.args.ops.now (l ++ c.args.ops.now)) (sym c.in_ok-made.ensures.items)
    (itself c.args.lines c.args.ops.now)

pub loop-place-preserved : goal.loop-place-preserved
loop-place-preserved c =
    let ops : List Op = c.args.ops.now in
    let place : ℕ = c.loop-place.place in
    let within : place < length ops = omega arith in
    next c.args.lines c.args.line c.loop-place.waits c.in_ok-waits.waits ops c.loop-place.made.items c.step.new.made.items place (X 0) within c.requires.line
    (All-get_or (λ op. OpFitsIn op c.args.lines) ops place (X 0) within c.requires.fits) c.in_ok-waits.ensures c.loop-place.invariant
