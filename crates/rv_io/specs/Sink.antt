-- What a contract sees of a sink, and what the calls do to it.
use Rattle.std.specs.Prelude.{◌≡◌, ℕ, ◌≤◌, Bool, true, false, List, [], ◌∷◌, ◌++◌, length, take, Option, Some, None, Result, OnOk, OnErr}
use Rattle.rv_io.specs.declared.sink.Put.{Put}
use Rattle.rv_io.specs.declared.sink.Put.TheVariants as put
use Rattle.rv_io.specs.declared.sink.Flushed.{Flushed}
use Rattle.rv_io.specs.declared.sink.Flushed.TheVariants as flushed
use Rattle.rv_io.specs.declared.sink.WriteFault.{WriteFault}
use Rattle.rv_io.specs.Faults.{Rose}

pub record SinkView : Type 0 where
  -- the bytes that were sent, if this is told
  pub sent : Option (List ℕ)
  -- how often a call has failed
  pub faults : ℕ
  -- whether all that was sent is flushed
  pub is_flushed : Bool

-- what was sent, with more after it, if this is told
abbrev pub grown : Option (List ℕ) → List ℕ → Option (List ℕ)
grown None more = None
grown (Some sent) more = Some (sent ++ more)

-- whether all that was sent is flushed, after more was sent and not flushed
abbrev pub flushed_after : Bool → List ℕ → Bool
flushed_after is_flushed [] = is_flushed
flushed_after is_flushed (byte ∷ more) = false

-- nothing was flushed: the sink is flushed only if it was before
abbrev pub StaysUnflushed : SinkView → SinkView → Type 0
StaysUnflushed old new = new.is_flushed ≡ true → old.is_flushed ≡ true

-- what was sent grew by some prefix of the bytes
pub record GrewByPrefix (old : Option (List ℕ)) (bytes : List ℕ) (new : Option (List ℕ)) : Type 0 where
  pub count : ℕ
  pub within : count ≤ length bytes
  pub grew : new ≡ grown old (take count bytes)

-- a put took the first n bytes, and no fault is counted
pub record Takes (old : SinkView) (bytes : List ℕ) (n : ℕ) (new : SinkView) : Type 0 where
  pub some : 1 ≤ n
  pub fit : n ≤ length bytes
  pub sent : new.sent ≡ grown old.sent (take n bytes)
  pub unflushed : new.is_flushed ≡ false
  pub uncounted : new.faults ≡ old.faults

-- a call failed: nothing was sent or flushed
pub record SinkFails (old new : SinkView) : Type 0 where
  pub rose : Rose old.faults new.faults
  pub sent : new.sent ≡ old.sent
  pub flushed : new.is_flushed ≡ old.is_flushed

-- a put of bytes
abbrev pub Puts : SinkView → List ℕ → Put → SinkView → Type 0
Puts old bytes (put.Took n) new = Takes old bytes n new
Puts old bytes put.Failed new = SinkFails old new

-- all that was sent is flushed, and no fault is counted
pub record IsFlushed (old new : SinkView) : Type 0 where
  pub flushed : new.is_flushed ≡ true
  pub sent : new.sent ≡ old.sent
  pub uncounted : new.faults ≡ old.faults

-- a flush
abbrev pub Flushes : SinkView → Flushed → SinkView → Type 0
Flushes old flushed.Done new = IsFlushed old new
Flushes old flushed.Failed new = SinkFails old new

-- A text was sent whole and no fault is counted, or the count rose and a prefix of it was sent. Nothing was flushed.
-- The one clause of every call that sends.
pub record Sends (old : SinkView) (text : List ℕ) (result : Result (Unit {0}) WriteFault)
    (new : SinkView) : Type 0 where
  pub later : old.faults ≤ new.faults
  pub sent : OnOk result (new.sent ≡ grown old.sent text)
  pub flushed : OnOk result (new.is_flushed ≡ flushed_after old.is_flushed text)
  pub uncounted : OnOk result (new.faults ≡ old.faults)
  pub fault : OnErr result (Rose old.faults new.faults)
  pub prefix : OnErr result (GrewByPrefix old.sent text new.sent)
  pub unflushed : StaysUnflushed old new
