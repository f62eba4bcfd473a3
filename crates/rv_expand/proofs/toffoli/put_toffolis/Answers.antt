use Rattle.std.proofs.Common.{◌+◌, ◌≤◌, ◌∙◌, ◌++◌, List, drop, length, arith, ap, sym, subst, append_assoc, append-nil}
use Rattle.std.specs.List.{flat_map}
use Rattle.rv_io.proofs.Adding.{adds_as}
use Rattle.rv_net.specs.declared.op.Op.{Op}
use Rattle.rv_qasm.specs.Text.{statement}
use Rattle.rv_expand.specs.Toffoli.{toffoli_ops}
use Rattle.rv_expand.proofs.Fitting.{AllFit, right_fits}
use Rattle.rv_expand.proofs.Statements.{adds_ops}
use Rattle.rv_expand.proofs.Steps.{nothing-left}
use Rattle.rv_expand.proofs.toffoli.put_toffolis.Goals as goal

pub put_at-place-requires-clause-fit : goal.put_at-place-requires-clause-fit
put_at-place-requires-clause-fit g c =
    let made = c.loop-place.invariant in
    let left : List Op = toffoli_ops (drop c.loop-place.place c.args.gates.now) in
    right_fits c.args.lines made.1 left (subst (AllFit c.args.lines) made.2 c.requires.fit)

pub loop-place-preserved : goal.loop-place-preserved
loop-place-preserved g c =
    let made = c.loop-place.invariant in
    let more = c.put_at-place.ensures.sent in
    let left : List Op = toffoli_ops (drop (c.loop-place.place + c.put_at-place.result) c.args.gates.now) in (
      c.put_at-place.ensures.within,
      made.1 ++ more.0,
      made.2 ∙ ap (λ ops. made.1 ++ ops) more.1 ∙ sym (append_assoc made.1 more.0 left),
      adds_ops made.1 more.0 made.3 more.2,
    )

pub returns : goal.returns
returns g c =
    let made = c.loop-place.invariant in
    let done : length c.args.gates.now ≤ c.loop-place.place = omega (arith, c.loop-place-test.false) in
    let all = made.2 ∙ ap (λ ops. made.1 ++ ops) (nothing-left c.args.gates.now c.loop-place.place done) ∙ append-nil made.1 in
    adds_as (ap (flat_map statement) (sym all)) made.3
