use Rattle.std.proofs.Common.{arith}
use Rattle.rv_real.specs.Header.{with_name}
use Rattle.rv_real.proofs.InOrder.{one_token, token_ok, token_fails}
use Rattle.rv_real.proofs.labels.push_names.Goals as goal

pub returns-in-Err-clause-gives : goal.returns-in-Err-clause-gives
returns-in-Err-clause-gives c =
    token_fails with_name c.loop-found.names c.args.line.now c.loop-found.at c.in-Some.found _ c.in-Err.stop c.in-Some.ensures.exact (c.in-Err.ensures.gives c.in-Some.found.closed) c.loop-found.invariant.2

pub loop-found-preserved : goal.loop-found-preserved
loop-found-preserved c =
    rw c.after-at.ensures (
      omega (arith, c.in-Some.ensures.within),
      omega (arith, c.in_default-push_name.ensures.len, one_token c.args.line.now c.loop-found.at c.in-Some.found c.in-Some.ensures.exact, c.loop-found.invariant.1),
      token_ok with_name _ _ c.args.line.now c.loop-found.at c.in-Some.found _ c.in-Some.ensures.exact (c.in_default-push_name.ensures.gives c.in-Some.found.closed) c.loop-found.invariant.2,
    )
