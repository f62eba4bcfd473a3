-- A sink that takes every byte, as a contract sees it.
use Rattle.std.specs.Prelude.{Bool, None}
use Rattle.rv_io.specs.Sink.{SinkView}

pub record NullSink : Type 0 where
  pub is_flushed : Bool

-- It doesn't tell what was sent, and counts no fault.
abbrev pub null_view : NullSink → SinkView
null_view s = record { sent = None; faults = 0; is_flushed = s.is_flushed }
