-- What the inputs hold, in their order: the texts of all of them, or the first fault.
use Rattle.std.specs.Prelude.{◌≡◌, ℕ, true, ◌+◌, ◌<◌, ◌≤◌, List, [], ◌∷◌, All, length, map, if◌then◌else◌, nat_lt, slice_index_or, Option, Some, None, Result, Ok, Err}
use Rattle.rv_io.specs.Files.{FilesView}
use Rattle.rv_text.specs.declared.lines.TheConstants.{MOST_BYTES}
use Rattle.rv_reader.specs.Rules.{◌>>=◌}
use Rattle.rv_real.specs.Text.{name_at}
use Rattle.rv_faults.specs.declared.fault.Unmade.{Unmade}
use Rattle.rv_faults.specs.declared.fault.Unmade.TheVariants.{CannotRead, TooLong}

-- for each input its bytes, or that it isn't held
abbrev pub Contents : Type 0
Contents = List (Option (List ℕ))

-- the bytes of an input, or why it has none
abbrev pub content_or_fault : ℕ → Option (List ℕ) → Result (List ℕ) Unmade
content_or_fault input None = Err (CannotRead input)
content_or_fault input (Some bytes) = if nat_lt MOST_BYTES (length bytes) then Err (TooLong input) else Ok bytes

-- the texts of the inputs from this one on, or the first fault of one that isn't held or is too long
abbrev pub texts_from : ℕ → Contents → Result (List (List ℕ)) Unmade
texts_from input [] = Ok []
texts_from input (content ∷ rest) =
    content_or_fault input content >>= λ text. (texts_from (input + 1) rest >>= λ texts. Ok (text ∷ texts))

abbrev pub texts_of : Contents → Result (List (List ℕ)) Unmade
texts_of contents = texts_from 0 contents

-- the contents that are these texts
abbrev pub held_as : List (List ℕ) → Contents
held_as texts = map (λ text. Some text) texts

abbrev pub AreShort : List (List ℕ) → Type 0
AreShort texts = All (λ text. length text ≤ MOST_BYTES) texts

-- every input is held and short enough, and these are their texts
pub record AreTexts (contents : Contents) (texts : List (List ℕ)) : Type 0 where
  pub held : contents ≡ held_as texts
  pub short : AreShort texts

abbrev pub text_at : List (List ℕ) → ℕ → List ℕ
text_at texts input = slice_index_or texts input []

abbrev pub content_at : Contents → ℕ → Option (List ℕ)
content_at contents input = slice_index_or contents input None

-- the name is the one that is started
pub record IsOpen (name : List ℕ) (old new : FilesView) : Type 0 where
  pub started : new.is_started ≡ true
  pub opened : old.tells ≡ true → new.is_opened name ≡ true

-- If a name stays started, it is this one, and at most one byte more than the limit was read of it.
pub record StaysAt (name : List ℕ) (old new : FilesView) : Type 0 where
  pub opened : old.tells ≡ true → new.is_started ≡ true → new.is_opened name ≡ true
  pub place : new.is_started ≡ true → new.place ≤ MOST_BYTES + 1

pub record StaysAtOne (names : List (List ℕ)) (old new : FilesView) : Type 0 where
  pub input : ℕ
  pub named : input < length names
  pub stays : StaysAt (name_at names input) old new

-- If a name stays started, it is one of these; without a name nothing was started or read.
abbrev pub StaysAmong : List (List ℕ) → FilesView → FilesView → Type 0
StaysAmong [] old new = new ≡ old
StaysAmong (name ∷ names) old new = StaysAtOne (name ∷ names) old new

-- it was read to its end, and this is its text
pub record IsReadWhole (name text : List ℕ) (old new : FilesView) : Type 0 where
  pub started : IsOpen name old new
  pub place : new.place ≡ length text

-- the last of the names was read to its end; without a name nothing was started or read
abbrev pub LastIsRead : List (List ℕ) → Contents → FilesView → FilesView → Type 0
LastIsRead [] contents old new = new ≡ old
LastIsRead (name ∷ []) (Some text ∷ []) old new = IsReadWhole name text old new
LastIsRead (name ∷ (next ∷ names)) (content ∷ contents) old new = LastIsRead (next ∷ names) contents old new
LastIsRead names contents old new = Unit {0}
