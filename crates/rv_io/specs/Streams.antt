-- What one call does with a reader or a writer of the system's kind: with the bytes that are left, or that were
-- written, if these are known.
use Rattle.std.specs.Prelude.{ℕ, ◌≤◌, List, length, nat_eq, take, if◌then◌else◌, Option, Result, Ok, Err}
use Rattle.std.specs.Io.KnownBytes.{Appends, Consumes, IsAtEnd, Keeps}
use Rattle.rv_io.specs.declared.files.Got.{Got}
use Rattle.rv_io.specs.declared.files.Got.TheVariants as got
use Rattle.rv_io.specs.declared.sink.Flushed.{Flushed}
use Rattle.rv_io.specs.declared.sink.Flushed.TheVariants as flushed
use Rattle.rv_io.specs.declared.sink.Put.{Put}
use Rattle.rv_io.specs.declared.sink.Put.TheVariants as put

-- what is made of the count that a read into some room answers, or of its error: no byte is the end
abbrev pub got_of : {E : Type 0} → Result ℕ E → Got
got_of (Ok count) = if nat_eq count 0 then got.End else got.Bytes count
got_of (Err error) = got.Failed

-- what is made of the count that a write of some bytes answers, or of its error: if none of them is taken,
-- the write failed
abbrev pub put_of : {E : Type 0} → Result ℕ E → Put
put_of (Ok count) = if nat_eq count 0 then put.Failed else put.Took count
put_of (Err error) = put.Failed

-- what is made of the answer of a flush
abbrev pub flushed_of : {E : Type 0} → Result (Unit {0}) E → Flushed
flushed_of (Ok done) = flushed.Done
flushed_of (Err error) = flushed.Failed

-- the first n bytes of the room are the next ones of what was left
pub record TakesNext (old : Option (List ℕ)) (room : List ℕ) (n : ℕ) (new : Option (List ℕ)) : Type 0 where
  pub some : 1 ≤ n
  pub fit : n ≤ length room
  pub bytes : Consumes old new (take n room)

-- a read into some room, by what was left before and after it
abbrev pub ReadsFrom : Option (List ℕ) → List ℕ → Got → Option (List ℕ) → Type 0
ReadsFrom old room (got.Bytes n) new = TakesNext old room n new
ReadsFrom old room got.End new = IsAtEnd old × Keeps old new
ReadsFrom old room got.Failed new = Keeps old new

-- the first n of the bytes were written
pub record GivesFirst (old : Option (List ℕ)) (bytes : List ℕ) (n : ℕ) (new : Option (List ℕ)) : Type 0 where
  pub some : 1 ≤ n
  pub fit : n ≤ length bytes
  pub written : Appends old new (take n bytes)

-- a write of bytes, by what was written before and after it
abbrev pub PutsTo : Option (List ℕ) → List ℕ → Put → Option (List ℕ) → Type 0
PutsTo old bytes (put.Took n) new = GivesFirst old bytes n new
PutsTo old bytes put.Failed new = Keeps old new
