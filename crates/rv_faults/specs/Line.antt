-- The line on the error output.
use Rattle.std.specs.Prelude.{◌≡◌, ◌⊎◌, ℕ, true, List}
use Rattle.rv_io.specs.Faults.{Rose}
use Rattle.rv_io.specs.Sink.{SinkView, grown, GrewByPrefix}

-- the line was sent and flushed, or a count rose and a prefix of it was sent
abbrev pub Reports : List ℕ → SinkView → SinkView → Type 0
Reports line old new =
    ((new.sent ≡ grown old.sent line) × (new.is_flushed ≡ true))
    ⊎ (Rose old.faults new.faults × GrewByPrefix old.sent line new.sent)
