-- A sink in memory, as a contract sees it.
use Rattle.std.specs.Prelude.{◌-◌, ◌++◌, ◌||◌, ℕ, Bool, true, false, List, Some, length, min, nat_eq, take}
use Rattle.rv_io.specs.declared.sink.Flushed.{Flushed}
use Rattle.rv_io.specs.declared.sink.Flushed.TheVariants as flushed
use Rattle.rv_io.specs.declared.sink.Put.{Put}
use Rattle.rv_io.specs.declared.sink.Put.TheVariants as put
use Rattle.rv_io.specs.Faults.{is_failing, next_count}
use Rattle.rv_io.specs.Sink.{SinkView}

pub record MemSink : Type 0 where
  -- what was sent
  pub bytes : List ℕ
  -- how many bytes fit
  pub room : ℕ
  pub faults : ℕ
  -- how many calls of `put` and `flush` there were
  pub calls : ℕ
  -- the numbers of the calls that fail
  pub failing : List ℕ
  pub is_flushed : Bool

abbrev pub sink_view : MemSink → SinkView
sink_view s = record { sent = Some s.bytes; faults = s.faults; is_flushed = s.is_flushed }

-- how many bytes a put takes: the least of them and the room that is left
abbrev pub put_count : MemSink → List ℕ → ℕ
put_count s bytes = min (length bytes) (s.room - length s.bytes)

-- a put fails if its number is among those that fail, or if no room is left
abbrev pub put_fails : MemSink → Bool
put_fails s = nat_eq (s.room - length s.bytes) 0 || is_failing s.calls s.failing

-- what a put answers, by whether it fails
abbrev pub put_answer : MemSink → List ℕ → Bool → Put
put_answer s bytes true = put.Failed
put_answer s bytes false = put.Took (put_count s bytes)

-- the sink after a put
abbrev pub after_put : MemSink → List ℕ → Bool → MemSink
after_put s bytes true = record s { calls = next_count s.calls; faults = next_count s.faults }
after_put s bytes false =
    record s { calls = next_count s.calls; bytes = s.bytes ++ take (put_count s bytes) bytes; is_flushed = false }

-- a flush fails if its number is among those that fail
abbrev pub flush_fails : MemSink → Bool
flush_fails s = is_failing s.calls s.failing

-- what a flush answers, by whether it fails
abbrev pub flush_answer : Bool → Flushed
flush_answer true = flushed.Failed
flush_answer false = flushed.Done

-- the sink after a flush
abbrev pub after_flush : MemSink → Bool → MemSink
after_flush s true = record s { calls = next_count s.calls; faults = next_count s.faults }
after_flush s false = record s { calls = next_count s.calls; is_flushed = true }
