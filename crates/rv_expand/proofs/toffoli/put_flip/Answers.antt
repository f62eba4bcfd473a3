use Rattle.std.proofs.Common.{[], ◌∷◌, ◌∙◌, ap, subst, sym}
use Rattle.std.specs.List.{flat_map}
use Rattle.rv_io.proofs.Adding.{adds_as, adds_none}
use Rattle.rv_net.specs.Network.{flip_ops}
use Rattle.rv_net.specs.declared.op.Op.TheVariants.{X}
use Rattle.rv_qasm.specs.Text.{statement}
use Rattle.rv_expand.specs.Toffoli.{flip_op}
use Rattle.rv_expand.proofs.Fitting.{AllFit, head_fits}
use Rattle.rv_expand.proofs.Statements.{adds_one}
use Rattle.rv_expand.proofs.toffoli.put_flip.Goals as goal

pub put_statement-requires-clause-fits : goal.put_statement-requires-clause-fits
unfolding flip_op flip_ops
put_statement-requires-clause-fits g c =
    head_fits c.args.lines (X c.args.target) [] (subst (λ controls. AllFit c.args.lines (flip_op controls c.args.target)) c.in_default.ensures.none c.requires.fit)

pub put_cnot-requires-clause-fit : goal.put_cnot-requires-clause-fit
unfolding flip_op
put_cnot-requires-clause-fit g c =
    let a = c.in-Some.a in
    let one = c.in-Some.ensures.some ∙ ap (λ controls. a ∷ controls) c.in_default-first_control.ensures.none in
    subst (λ controls. AllFit c.args.lines (flip_op controls c.args.target)) one c.requires.fit

pub put_ccx-requires-clause-fit : goal.put_ccx-requires-clause-fit
put_ccx-requires-clause-fit g c =
    let a = c.in-Some.a in
    let b = c.in-Some-first_control.b in
    let two = c.in-Some.ensures.some ∙ ap (λ controls. a ∷ controls) (c.in-Some-first_control.ensures.some ∙ ap (λ controls. b ∷ controls) c.in-None.ensures.none) in
    subst (λ controls. AllFit c.args.lines (flip_op controls c.args.target)) two c.requires.fit

pub returns-in_default : goal.returns-in_default
unfolding flip_op flip_ops
returns-in_default g c =
    adds_as (ap (λ controls. flat_map statement (flip_op controls c.args.target)) (sym c.in_default.ensures.none))
    (adds_one (X c.args.target) c.put_statement.ensures)

pub returns-in_default-first_control : goal.returns-in_default-first_control
unfolding flip_op
returns-in_default-first_control g c =
    let a = c.in-Some.a in
    let one = c.in-Some.ensures.some ∙ ap (λ controls. a ∷ controls) c.in_default-first_control.ensures.none in
    adds_as (ap (λ controls. flat_map statement (flip_op controls c.args.target)) (sym one)) c.put_cnot.ensures

pub returns-in-Some-first_control-2 : goal.returns-in-Some-first_control-2
unfolding flip_op flip_ops
returns-in-Some-first_control-2 g c =
    let a = c.in-Some.a in
    let b = c.in-Some-first_control.b in
    let further = ap (λ controls. b ∷ controls) c.in-Some-first_control-2.ensures.some in
    let three = c.in-Some.ensures.some ∙ ap (λ controls. a ∷ controls) (c.in-Some-first_control.ensures.some ∙ further) in
    adds_as (ap (λ controls. flat_map statement (flip_op controls c.args.target)) (sym three)) (adds_none _ _)
