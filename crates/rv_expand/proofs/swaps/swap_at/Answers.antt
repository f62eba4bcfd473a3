use Rattle.std.proofs.Common.{◌≡◌, ◌+◌, ◌≤◌, ◌++◌, drop, length, arith, get_or, Option, Some, None}
use Rattle.std.specs.Prelude.{IfNone, IfSome}
use Rattle.rv_gate.specs.declared.gate.Shape.TheVariants.{Peres}
use Rattle.rv_expand.specs.Toffoli.{as_swap, gate_op, swap_op, toffoli_ops}
use Rattle.rv_expand.specs.declared.swaps.Exchange.{Exchange}
use Rattle.rv_expand.proofs.Steps.{gate-step, last-step, swap-step}
use Rattle.rv_expand.proofs.swaps.swap_at.Goals as goal

pub returns-then-gates-place-lt3-clause-none : goal.returns-then-gates-place-lt3-clause-none
returns-then-gates-place-lt3-clause-none c =
    last-step c.args.gates.now c.args.place (Peres 0 0 0) c.requires (omega (arith, c.if-gates-place-lt3.true))

pub returns-clause-some : goal.returns-clause-some
returns-clause-some c = by c.as_swap.result c.as_swap.ensures.some
  where
    three : c.args.place + 3 ≤ length c.args.gates.now
    three = omega (arith, c.if-gates-place-lt3.false, c.requires)

    by : (o : Option Exchange) → IfSome o (λ e. as_swap c.index-gates-place.result c.index-gates-place-2.result c.index-gates-place-3.result ≡ Some (swap_op e.control e.a e.b))
        → IfSome o (λ e. toffoli_ops (drop c.args.place c.args.gates.now) ≡ swap_op e.control e.a e.b ++ toffoli_ops (drop (c.args.place + 3) c.args.gates.now))
    by None is = tt
    by (Some e) is =
        swap-step c.args.gates.now c.args.place c.index-gates-place.result c.index-gates-place-2.result c.index-gates-place-3.result three
        c.index-gates-place.is c.index-gates-place-2.is c.index-gates-place-3.is (swap_op e.control e.a e.b) is

pub returns-clause-none : goal.returns-clause-none
returns-clause-none c = by c.as_swap.result c.as_swap.ensures.none
  where
    three : c.args.place + 3 ≤ length c.args.gates.now
    three = omega (arith, c.if-gates-place-lt3.false, c.requires)

    by : (o : Option Exchange) → IfNone o (as_swap c.index-gates-place.result c.index-gates-place-2.result c.index-gates-place-3.result ≡ None)
        → IfNone o (toffoli_ops (drop c.args.place c.args.gates.now) ≡ gate_op (get_or c.args.gates.now c.args.place (Peres 0 0 0)) ++ toffoli_ops (drop (c.args.place + 1) c.args.gates.now))
    by None is =
        gate-step c.args.gates.now c.args.place c.index-gates-place.result c.index-gates-place-2.result c.index-gates-place-3.result three
        c.index-gates-place.is c.index-gates-place-2.is c.index-gates-place-3.is (Peres 0 0 0) is
    by (Some e) is = tt
