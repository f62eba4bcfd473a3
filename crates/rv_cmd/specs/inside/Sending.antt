-- How a text reaches the output.
use Rattle.std.specs.Prelude.{◌≡◌, ℕ, true, List}
use Rattle.rv_io.specs.Faults.{Rose}
use Rattle.rv_io.specs.Sink.{SinkView, grown, GrewByPrefix}

-- the whole text was sent and flushed, and no call failed
pub record IsWhole (text : List ℕ) (old new : SinkView) : Type 0 where
  pub sent : new.sent ≡ grown old.sent text
  pub flushed : new.is_flushed ≡ true
  pub uncounted : new.faults ≡ old.faults

-- a call failed: the count of faults rose, and a prefix of the text was sent
pub record IsBroken (text : List ℕ) (old new : SinkView) : Type 0 where
  pub rose : Rose old.faults new.faults
  pub prefix : GrewByPrefix old.sent text new.sent

-- the flush failed: nothing more was sent
pub record IsUnflushed (old new : SinkView) : Type 0 where
  pub rose : Rose old.faults new.faults
  pub sent : new.sent ≡ old.sent
