use Rattle.std.proofs.Common.{arith, ap, length, List, ℕ}
use Rattle.std.proofs.lemmas.List.{length-append}
use Rattle.std.proofs.lemmas.List.Elements.{All-push}
use Rattle.rv_gate.specs.Circuit.{IsLabel}
use Rattle.rv_gate.specs.inside.CircuitView.{labels_in}
use Rattle.rv_real.specs.Header.{with_label}
use Rattle.rv_real.proofs.InOrder.{one_token, token_ok, token_fails}
use Rattle.rv_real.proofs.LabelTokens.{label_token}
use Rattle.rv_real.proofs.labels.read_labels.Goals as goal

pub returns-in-Err-clause-gives : goal.returns-in-Err-clause-gives
returns-in-Err-clause-gives c =
    token_fails with_label (labels_in c.loop-found.labels) c.args.line.now c.loop-found.at c.in-Some.found _ c.in-Err.stop c.in-Some.ensures.exact (c.in-Err.ensures.gives c.in-Some.found.closed) c.loop-found.invariant.rest

pub loop-found-preserved : goal.loop-found-preserved
loop-found-preserved c =
    let label = label_token c.args.line.now c.loop-found.at c.in-Some.found c.requires.one c.in-Some.ensures.exact c.in_default-push_label.ensures.quote in
    rw c.after-at.ensures (record {
      within = omega (arith, c.in-Some.ensures.within);
      count = omega (arith, ap length c.in_default-push_label.ensures.items, length-append {A = List ℕ}, one_token c.args.line.now c.loop-found.at c.in-Some.found c.in-Some.ensures.exact, c.loop-found.invariant.count);
      are = rw c.in_default-push_label.ensures.items (All-push IsLabel _ _ c.loop-found.invariant.are label);
      rest = token_ok with_label _ _ c.args.line.now c.loop-found.at c.in-Some.found _ c.in-Some.ensures.exact (c.in_default-push_label.ensures.gives c.in-Some.found.closed) c.loop-found.invariant.rest;
    })
