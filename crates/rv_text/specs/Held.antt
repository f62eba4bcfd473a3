-- What a value that cuts a text into lines holds.
use Rattle.std.specs.Prelude.{◌≡◌, ℕ, ◌+◌, ◌-◌, ◌<◌, ◌≤◌, max, Bool, true, false, List, [], ◌∷◌, length, take, slice_get, Some, if◌then◌else◌}
use Rattle.rv_text.specs.Lines.{ended_after, begun_after, lines_of}

pub record Held : Type 0 where
  -- the bytes since the last line feed, or the line that is ready
  pub line : List ℕ
  pub is_ready : Bool
  -- how many lines were ready so far
  pub number : ℕ
  -- how many bytes were taken so far
  pub taken : ℕ
  -- the greatest length that a line has had so far
  pub greatest : ℕ

-- The first `used` bytes of a piece were taken: those up to its first line feed, which makes a line ready, or all.
pub record TakesPiece (old : Held) (piece : List ℕ) (used : ℕ) (ready : Bool) (new : Held) : Type 0 where
  pub within : used ≤ length piece
  pub moves : 0 < length piece → 0 < used
  pub all : ready ≡ false → used ≡ length piece
  pub is_ready : new.is_ready ≡ ready
  pub ended : ended_after old.line (take used piece) ≡ (if ready then new.line ∷ [] else [])
  pub begun : begun_after old.line (take used piece) ≡ (if ready then [] else new.line)
  pub size : length new.line ≤ length old.line + used
  pub number : new.number ≡ old.number + (if ready then 1 else 0)
  pub taken : new.taken ≡ old.taken + used
  pub greatest : new.greatest ≡ max old.greatest (length new.line)

-- These lines were ready so far, one after the other. One that is still ready is the last of them.
pub record HasGiven (held : Held) (lines : List (List ℕ)) : Type 0 where
  pub number : held.number ≡ length lines
  pub ready : held.is_ready ≡ true → slice_get lines (held.number - 1) ≡ Some held.line

-- This text was taken so far, in whatever pieces: the lines that line feeds end in it were ready, and the bytes after
-- its last line feed are held.
pub record HasTaken (held : Held) (text : List ℕ) : Type 0 where
  pub given : HasGiven held (ended_after [] text)
  pub begun : begun_after [] text ≡ (if held.is_ready then [] else held.line)

-- a line of a text, by its number, counted from 1
abbrev pub IsLine : List ℕ → ℕ → List ℕ → Type 0
IsLine text number line = slice_get (lines_of text) (number - 1) ≡ Some line

-- This text was taken so far and is at its end: all its lines were ready.
abbrev pub HasGivenAll : Held → List ℕ → Type 0
HasGivenAll held text = HasGiven held (lines_of text)
