use Rattle.std.proofs.Common.{◌∙◌, ◌+◌, ap, sym, arith, length-drop, length-take, drop, take}
use Rattle.std.proofs.lemmas.List.{take_rest}
use Rattle.rv_io.specs.Sink.{grown}
use Rattle.rv_io.proofs.Sent.{grown-take, flushed_after-some}
use Rattle.rv_io.proofs.calls.put_all.Goals as goal

pub loop-at-preserved : goal.loop-at-preserved
loop-at-preserved g c =
    let taken = rw take_rest at c.in-Took.ensures.puts in
    let at = c.loop-at.at in
    let bytes = c.args.bytes.now in record {
      within = omega (arith, taken.fit, length-drop at bytes);
      sent = taken.sent
          ∙ ap (λ sent. grown sent (take c.in-Took.count (drop at bytes))) c.loop-at.invariant.sent
          ∙ grown-take _ at c.in-Took.count bytes;
      flushed = taken.unflushed
          ∙ sym (flushed_after-some _ (take (at + c.in-Took.count) bytes) (omega (arith, taken.some, taken.fit, length-drop at bytes, length-take (at + c.in-Took.count) bytes)));
      uncounted = taken.uncounted ∙ c.loop-at.invariant.uncounted;
    }
