use Rattle.std.proofs.Common.{[], ◌∷◌, ap, ◌∙◌, Bool, List, ℕ, arith}
use Rattle.rv_io.proofs.Adding.{adds_as}
use Rattle.rv_text.specs.Bytes.{bit_byte}
use Rattle.rv_faults.proofs.Bits.{putting_first, putting_more, putting_all}
use Rattle.rv_faults.proofs.message.put_bits.Goals as goal

abbrev one_digit : Bool → List ℕ
one_digit bit = bit_byte bit ∷ []

pub loop-left-init : goal.loop-left-init
loop-left-init g c = putting_first c.args.writer.now (g.E.Sink.view c.args.errs.now) c.args.count c.args.word

pub loop-left-preserved : goal.loop-left-preserved
loop-left-preserved g c =
    putting_more c.args.writer.now (g.E.Sink.view c.args.errs.now) c.args.count c.args.word c.loop-left.left c.loop-left.writer c.put.new.self
    (g.E.Sink.view c.loop-left.errs) (g.E.Sink.view c.put.new.sink) c.loop-left-test.true c.loop-left.invariant
    (adds_as (c.digit.ensures ∙ ap one_digit c.has_bit.ensures) c.put.ensures)

pub returns : goal.returns
returns g c =
    putting_all c.args.writer.now (g.E.Sink.view c.args.errs.now) c.args.count c.args.word c.loop-left.left c.loop-left.writer (g.E.Sink.view c.loop-left.errs)
    (omega arith) c.loop-left.invariant
