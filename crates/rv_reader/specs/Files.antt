-- What the reading of a file gives.
use Rattle.std.specs.Prelude.{◌≡◌, ◌⊎◌, ◌≤◌, ℕ, true, List, length, Some, Result, Err}
use Rattle.rv_io.specs.Files.{FilesView, PassesLimit, ReadingFails}
use Rattle.rv_text.specs.declared.lines.TheConstants.{MOST_BYTES}
use Rattle.rv_reader.specs.declared.unread.Unread.{Unread}
use Rattle.rv_reader.specs.declared.unread.Unread.TheVariants as unread

-- A name was read to its end, and no call failed: P holds of its bytes, which are those that it holds, where this is
-- told, and as many as were read.
pub record IsReadToEnd (name : List ℕ) (old new : FilesView) (P : List ℕ → Type 0) : Type 0 where
  pub bytes : List ℕ
  pub held : old.tells ≡ true → old.held name ≡ Some bytes
  pub limited : length bytes ≤ MOST_BYTES
  pub started : new.is_started ≡ true
  pub opened : old.tells ≡ true → new.is_opened name ≡ true
  pub place : new.place ≡ length bytes
  pub uncounted : new.faults ≡ old.faults
  pub fact : P bytes

-- the cause of each refusal
abbrev pub IsUnread : {X E : Type 0} → E → (List ℕ → Result X E) → List ℕ → FilesView → FilesView → Unread E → Type 0
IsUnread mem denoted name old new unread.Read = ReadingFails name old new
IsUnread mem denoted name old new unread.TooLong = PassesLimit MOST_BYTES name old new
IsUnread mem denoted name old new (unread.Refused fault) =
    IsReadToEnd name old new (λ bytes. (fault ≡ mem) ⊎ (denoted bytes ≡ Err fault))
