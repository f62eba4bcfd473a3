-- What a contract sees of files, and what the calls do to it.
use Rattle.std.specs.Prelude.{◌≡◌, ◌⊎◌, ℕ, ◌+◌, ◌-◌, ◌^◌, ◌<◌, ◌≤◌, min, Bool, true, false, List, length, take, drop, Option, Some, None, IsSomeAnd}
use Rattle.rv_io.specs.declared.files.Started.{Started}
use Rattle.rv_io.specs.declared.files.Started.TheVariants as started
use Rattle.rv_io.specs.declared.files.Got.{Got}
use Rattle.rv_io.specs.declared.files.Got.TheVariants as got
use Rattle.rv_io.specs.Faults.{Rose}

-- Files may tell what each name holds, and then also what is started. If `tells` is false, `held`,
-- `is_opened` and `content` mean nothing.
pub record FilesView : Type 0 where
  pub tells : Bool
  -- the bytes of a name, if it is held
  pub held : List ℕ → Option (List ℕ)
  -- whether a name is started
  pub is_started : Bool
  -- whether this name is the one that is started
  pub is_opened : List ℕ → Bool
  -- the bytes of the name that is started
  pub content : List ℕ
  -- how many bytes were read since the start, a count that stands still at 2 ^ 64 - 1
  pub place : ℕ
  -- how often a call has failed
  pub faults : ℕ

-- what no call changes: what the names hold, and that the count of faults never falls
pub record Keeps (old new : FilesView) : Type 0 where
  pub tells : new.tells ≡ old.tells
  pub held : (name : List ℕ) → new.held name ≡ old.held name
  pub later : old.faults ≤ new.faults

-- The name is the one that is started, with the bytes that it holds. Only names without bytes may be started together.
pub record IsOpenedAs (old : FilesView) (name : List ℕ) (new : FilesView) : Type 0 where
  pub opened : new.is_opened name ≡ true
  pub content : old.held name ≡ Some new.content
  pub same : (other : List ℕ) → new.is_opened other ≡ true → old.held other ≡ Some new.content
  pub only : (other : List ℕ) → new.is_opened other ≡ true → 0 < length new.content → other ≡ name

-- a name is started at its first byte, and no fault is counted
pub record IsStarted (old : FilesView) (name : List ℕ) (new : FilesView) : Type 0 where
  pub started : new.is_started ≡ true
  pub place : new.place ≡ 0
  pub uncounted : new.faults ≡ old.faults
  pub told : old.tells ≡ true → IsOpenedAs old name new

-- what makes a start or a read of a name fail: the count rose, or the name isn't held
abbrev pub IsFaulty : FilesView → List ℕ → FilesView → Type 0
IsFaulty old name new = Rose old.faults new.faults ⊎ ((old.tells ≡ true) × (old.held name ≡ None))

-- Nothing is started. A name that isn't held raises no count.
pub record IsRefused (old : FilesView) (name : List ℕ) (new : FilesView) : Type 0 where
  pub nothing : new.is_started ≡ false
  pub unopened : (other : List ℕ) → old.tells ≡ true → new.is_opened other ≡ false
  pub cause : IsFaulty old name new
  pub uncounted : old.tells ≡ true → old.held name ≡ None → new.faults ≡ old.faults

-- the start of a name
abbrev pub Starts : FilesView → List ℕ → Started → FilesView → Type 0
Starts old name started.Ready new = IsStarted old name new
Starts old name started.Failed new = IsRefused old name new

-- the name that was started still is
pub record SameOpened (old new : FilesView) : Type 0 where
  pub is_started : new.is_started ≡ true
  pub opened : (name : List ℕ) → old.tells ≡ true → new.is_opened name ≡ old.is_opened name
  pub content : old.tells ≡ true → new.content ≡ old.content

-- n bytes of the content follow the place, and are the first of the room
pub record GivesNext (old : FilesView) (room : List ℕ) (n : ℕ) (new : FilesView) : Type 0 where
  pub place : new.place ≡ old.place + n
  pub within : new.place ≤ length old.content
  pub bytes : take n room ≡ take n (drop old.place old.content)

-- a read gave n bytes, and no fault is counted
pub record Gives (old : FilesView) (room : List ℕ) (n : ℕ) (new : FilesView) : Type 0 where
  pub some : 1 ≤ n
  pub fit : n ≤ length room
  pub place : new.place ≡ min (old.place + n) (2 ^ 64 - 1)
  pub uncounted : new.faults ≡ old.faults
  pub told : old.tells ≡ true → GivesNext old room n new

-- a read found the end of the content, and no fault is counted
pub record IsAtEnd (old new : FilesView) : Type 0 where
  pub place : new.place ≡ old.place
  pub uncounted : new.faults ≡ old.faults
  pub told : old.tells ≡ true → length old.content ≤ old.place

-- a read failed
pub record ReadFails (old new : FilesView) : Type 0 where
  pub rose : Rose old.faults new.faults
  pub place : new.place ≡ old.place

-- a read into a room
abbrev pub Reads : FilesView → List ℕ → Got → FilesView → Type 0
Reads old room (got.Bytes n) new = Gives old room n new
Reads old room got.End new = IsAtEnd old new
Reads old room got.Failed new = ReadFails old new

-- A name was not read to its end for a fault. What is started at the end is that name.
pub record ReadingFails (name : List ℕ) (old new : FilesView) : Type 0 where
  pub cause : IsFaulty old name new
  pub started : old.tells ≡ true → new.is_started ≡ true → new.is_opened name ≡ true

-- A name has more bytes than the limit: one more was read of it, and no call failed.
pub record PassesLimit (limit : ℕ) (name : List ℕ) (old new : FilesView) : Type 0 where
  pub started : new.is_started ≡ true
  pub place : new.place ≡ limit + 1
  pub uncounted : new.faults ≡ old.faults
  pub opened : old.tells ≡ true → new.is_opened name ≡ true
  pub told : old.tells ≡ true → IsSomeAnd (old.held name) (λ bytes. limit < length bytes)
