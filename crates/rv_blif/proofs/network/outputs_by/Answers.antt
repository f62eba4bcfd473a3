use Rattle.std.proofs.Common.{◌∙◌, ◌<◌, arith, sym, length-append}
use Rattle.std.proofs.lemmas.List.Elements.{All-push}
use Rattle.rv_blif.proofs.PlacingLaws.{port_below, ports_front}
use Rattle.rv_blif.proofs.network.outputs_by.Goals as goal

pub loop-port-preserved : goal.loop-port-preserved
loop-port-preserved c =
    let names = c.args.names.now in
    let signals = c.args.signals.now in
    let ports = c.args.ports.now in
    let i = c.loop-port.port-index in
    let name_is = c.in-Ok.ensures.items ∙ c.name.ensures in
    record {
      gives =
          rw (c.in-Ok-push.ensures.items, c.new.ensures, name_is)
          (sym (ports_front names signals c.loop-port.outputs.items ports i c.in-Some.signal _ (omega arith) (sym c.signal_of.ensures ∙ c.in-Some.is)) ∙ c.loop-port.invariant.gives);
      count = rw (c.in-Ok-push.ensures.items, length-append) (omega (arith, c.loop-port.invariant.count));
      below = λ most h. rw c.in-Ok-push.ensures.items
          (All-push (λ output. output.signal < most) c.loop-port.outputs.items c.new.result (c.loop-port.invariant.below most h) (rw c.new.ensures (port_below signals _ c.in-Some.signal most (sym c.signal_of.ensures ∙ c.in-Some.is) h)));
    }
