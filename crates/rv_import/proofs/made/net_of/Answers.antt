use Rattle.std.proofs.Common.{ℕ, ◌<◌, ◌++◌, ◌∙◌, List, ap, arith, get_or, length, subst, sym}
use Rattle.std.proofs.lemmas.List.{take_all}
use Rattle.std.proofs.lemmas.List.Elements.{All-nil}
use Rattle.rv_net.specs.Op.{Network}
use Rattle.rv_net.specs.declared.op.Op.{Op}
use Rattle.rv_net.specs.declared.op.Op.TheVariants.{X}
use Rattle.rv_import.specs.Calls.{call_ops, calls_ops, IsRight}
use Rattle.rv_import.specs.declared.call.Call.{Call}
use Rattle.rv_import.specs.declared.call.Call.TheVariants.{Plain}
use Rattle.rv_import.proofs.Laws.{net-begun, net-exact, ops-more, right-more}
use Rattle.rv_import.proofs.made.net_of.Goals as goal

pub loop-call-init : goal.loop-call-init
loop-call-init c = (net-begun c.args.lines c.new-net.result c.new-net.ensures, All-nil (IsRight c.args.lines))

pub loop-call-preserved : goal.loop-call-preserved
loop-call-preserved c =
    let i = c.loop-call.call-index in
    let call = get_or c.args.calls.now i (Plain (X 0)) in
    let lines = ap (λ (net : Network). net.lines) c.loop-call.invariant.0 in (
      c.in_ok-add.ensures.ops
          ∙ ap (λ (net : Network). record net { ops = net.ops ++ call_ops call }) c.loop-call.invariant.0
          ∙ ap (λ (ops : List Op). record { lines = c.args.lines; ops = ops }) (sym (ops-more c.args.calls.now i (Plain (X 0)) c.loop-call-test.true)),
      right-more c.args.lines c.args.calls.now i (Plain (X 0)) c.loop-call-test.true c.loop-call.invariant.1
          (subst (λ n. IsRight n call) lines c.in_ok-add.ensures.right),
    )

pub returns : goal.returns
returns c =
    let all = take_all c.loop-call.call-index c.args.calls.now (omega (arith, c.loop-call-test.false, c.loop-call.auto.call-index-end)) in
    net-exact c.args.calls.now c.args.lines c.loop-call.net
    (c.loop-call.invariant.0 ∙ ap (λ (calls : List Call). record { lines = c.args.lines; ops = calls_ops calls }) all)
    (subst (λ (calls : List Call). (k : ℕ) → (d : Call) → k < length calls → IsRight c.args.lines (get_or calls k d)) all c.loop-call.invariant.1)
