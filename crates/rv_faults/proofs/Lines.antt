-- Lines that are sent and flushed.
use Rattle.std.proofs.Common.{◌≡◌, ℕ, ◌≤◌, List, length, codes, ap, sym, ◌∙◌, append_assoc, arith, inl, inr}
use Rattle.std.proofs.Math.Seq.{take-length}
use Rattle.rv_io.specs.Sink.{SinkView, Flushes, grown, GrewByPrefix}
use Rattle.rv_io.specs.declared.sink.Flushed.{Flushed}
use Rattle.rv_io.specs.declared.sink.Flushed.TheVariants as flushed
use Rattle.rv_io.specs.Writer.{Writer, Adds}
use Rattle.rv_io.proofs.Adding.{adds_then, adds_as}
use Rattle.rv_faults.specs.Fault.{message_line}
use Rattle.rv_faults.specs.Line.{Reports}

-- a text that was sent whole is a prefix of itself
pub prefix_whole : (text : List ℕ) (old new : SinkView) → new.sent ≡ grown old.sent text → GrewByPrefix old.sent text new.sent
prefix_whole text old new sent = record { count = length text; within = omega arith; grew = sent ∙ ap (grown old.sent) (sym (take-length text)) }

-- a line that was sent whole, and then flushed or not
pub reports_sent : (line : List ℕ) (old mid new : SinkView) (answer : Flushed) → old.faults ≤ mid.faults → mid.sent ≡ grown old.sent line
    → Flushes mid answer new → Reports line old new
reports_sent line old mid new flushed.Done later sent f = inl (f.sent ∙ sent, f.flushed)
reports_sent line old mid new flushed.Failed later sent f = inr (omega (arith, f.rose), prefix_whole line old new (f.sent ∙ sent))

-- the parts of a line
pub adds_line : {a b c d : Writer} {w x y z : SinkView} (reason : List ℕ) → Adds a w (codes "rev: ") b x → Adds b x reason c y → Adds c y (codes "\n") d z
    → Adds a w (message_line reason) d z
adds_line reason first second third = adds_as (sym (append_assoc (codes "rev: ") reason (codes "\n"))) (adds_then first (adds_then second third))
