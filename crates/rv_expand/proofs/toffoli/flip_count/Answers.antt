use Rattle.std.proofs.Common.{◌≡◌, ◌∙◌, ℕ, ◌+◌, ◌*◌, List, [], ◌∷◌, length, ap, sym, refl, arith}
use Rattle.std.proofs.lemmas.List.{length-append}
use Rattle.rv_mct.specs.declared.control.Control.{Control}
use Rattle.rv_net.specs.Network.{flip_ops, on_zero}
use Rattle.rv_net.specs.declared.op.Op.TheVariants.{Cx}
use Rattle.rv_expand.specs.Toffoli.{flip_op}
use Rattle.rv_expand.proofs.toffoli.flip_count.Goals as goal

abbrev size : List Control → ℕ → ℕ
size cs t = length (flip_op cs t)

none : (t : ℕ) → size [] t ≡ 1
unfolding flip_op flip_ops
none t = refl

one : (a : Control) (t : ℕ) → size (a ∷ []) t ≡ 1 + 2 * length (on_zero a)
unfolding flip_op flip_ops
one a t = omega (arith, length-append (on_zero a) (Cx a.line t ∷ on_zero a))

pub returns-in_default-clause-value : goal.returns-in_default-clause-value
returns-in_default-clause-value c = sym (ap (λ cs. size cs c.args.target) c.in_default.ensures.none ∙ none c.args.target)

pub returns-in_default-first_control-clause-value : goal.returns-in_default-first_control-clause-value
returns-in_default-first_control-clause-value c =
    let a = c.in-Some.a in
    let single = c.in-Some.ensures.some ∙ ap (λ cs. a ∷ cs) c.in_default-first_control.ensures.none in
    omega (arith, ap (λ cs. size cs c.args.target) single, one a c.args.target, c.on_zero_count.ensures.value)
