use Rattle.std.proofs.Common.{◌∙◌, ◌-◌, ◌+◌, ◌≡◌, ap, arith, sym}
use Rattle.rv_blif.specs.Placing.{pass, rounds}
use Rattle.rv_blif.proofs.PlacingLaws.{rounds_on}
use Rattle.rv_blif.proofs.placing.Placing.rounds.Goals as goal

pub loop-count-preserved : goal.loop-count-preserved
loop-count-preserved c =
    let less : c.args.most - (c.loop-count.count + 1) ≡ c.args.most - c.loop-count.count - 1 = omega arith in
    record {
      value =
          ap (λ n. rounds n c.args.covers.now c.pass-in-loop-count.new.self) less
          ∙ rounds_on (c.args.most - c.loop-count.count) c.args.covers.now c.loop-count.self c.pass-in-loop-count.new.self _ (omega arith)
          (c.in_ok-pass-2.ensures.value ∙ ap (pass c.args.covers.now) c.in_ok-pass.ensures.value)
          (λ e. c.if-node_count-before.false (c.node_count.ensures ∙ e ∙ sym c.node_count-before.ensures)) c.loop-count.invariant.value;
      room = c.in_ok-pass-2.ensures.room;
      inputs = c.in_ok-pass-2.ensures.inputs ∙ c.in_ok-pass.ensures.inputs ∙ c.loop-count.invariant.inputs;
    }
