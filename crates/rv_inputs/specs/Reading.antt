-- How the inputs are read.
use Rattle.std.specs.Prelude.{◌≡◌, ◌⊎◌, ℕ, ◌+◌, ◌<◌, true, List, [], ◌∷◌, length, map, Ok, Err}
use Rattle.rv_io.specs.Faults.{Rose}
use Rattle.rv_io.specs.Files.{FilesView, Keeps, PassesLimit, ReadingFails}
use Rattle.rv_text.specs.declared.lines.TheConstants.{MOST_BYTES}
use Rattle.rv_reader.specs.Files.{IsReadToEnd}
use Rattle.rv_reader.specs.Rules.{◌>>=◌}
use Rattle.rv_real.specs.Text.{name_at}
use Rattle.rv_faults.specs.declared.fault.Refusal.{Refusal}
use Rattle.rv_faults.specs.declared.fault.Refusal.TheVariants as refusal
use Rattle.rv_faults.specs.declared.fault.Unmade.{Unmade}
use Rattle.rv_faults.specs.declared.fault.Unmade.TheVariants.{CannotRead, Refused, TooLong, OutOfMemory}
use Rattle.rv_inputs.specs.Contents.{AreShort, Contents, IsOpen, LastIsRead, StaysAmong, held_as, texts_of}
use Rattle.rv_inputs.specs.Formats.{Format, at_input}

-- ---- one name

-- why the input of this number and name gives no object
abbrev pub IsUnreadInput : {X : Type 0} → Format X → ℕ → List ℕ → FilesView → FilesView → Unmade → Type 0
IsUnreadInput format input name old new (CannotRead i) = (i ≡ input) × ReadingFails name old new
IsUnreadInput format input name old new (Refused i reason) =
    (i ≡ input) × IsReadToEnd name old new (λ bytes. at_input input (format bytes) ≡ Err (refusal.Refused i reason))
IsUnreadInput format input name old new (TooLong i) = (i ≡ input) × PassesLimit MOST_BYTES name old new
IsUnreadInput format input name old new OutOfMemory = new.faults ≡ old.faults

-- ---- all names

-- Of all names no others were started, and what they hold stays as it was.
pub record ReadsOnly (names : List (List ℕ)) (old new : FilesView) : Type 0 where
  pub keeps : Keeps old new
  pub stays : StaysAmong names old new

-- these texts were read, as the files tell them, the last to its end, and no call failed
pub record HasTexts (names : List (List ℕ)) (old new : FilesView) (texts : List (List ℕ)) : Type 0 where
  pub counted : length texts ≡ length names
  pub told : old.tells ≡ true → held_as texts ≡ map old.held names
  pub short : AreShort texts
  pub read : LastIsRead names (held_as texts) old new
  pub uncounted : new.faults ≡ old.faults

-- the count rose, or one of them isn't held
pub record LacksInput (names : List (List ℕ)) (old new : FilesView) (input : ℕ) : Type 0 where
  pub named : input < length names
  pub opened : old.tells ≡ true → new.is_started ≡ true → new.is_opened (name_at names input) ≡ true
  pub cause : ((old.tells ≡ true) × (texts_of (map old.held names) ≡ Err (CannotRead input)))
      ⊎ Rose old.faults new.faults

-- one of them is too long, and no call failed
pub record HasLongInput (names : List (List ℕ)) (old new : FilesView) (input : ℕ) : Type 0 where
  pub contents : Contents
  pub counted : length contents ≡ length names
  pub told : old.tells ≡ true → contents ≡ map old.held names
  pub faulty : texts_of contents ≡ Err (TooLong input)
  pub named : input < length names
  pub started : IsOpen (name_at names input) old new
  pub place : new.place ≡ MOST_BYTES + 1
  pub uncounted : new.faults ≡ old.faults

-- why nothing is made of them: P holds of what is refused
abbrev pub IsUnread : List (List ℕ) → FilesView → FilesView → (Refusal → Type 0) → Unmade → Type 0
IsUnread names old new P (CannotRead input) = LacksInput names old new input
IsUnread names old new P (Refused input why) = (input < length names) × P (refusal.Refused input why)
IsUnread names old new P (TooLong input) = HasLongInput names old new input
IsUnread names old new P OutOfMemory = new.faults ≡ old.faults

-- ---- the object of an only input

pub record HasObject {X : Type 0} (format : Format X) (names : List (List ℕ)) (old new : FilesView)
    (object : X) : Type 0 where
  pub text : List ℕ
  pub read : HasTexts names old new (text ∷ [])
  pub is : format text ≡ Ok object

-- its text is refused
pub record LacksObject {X : Type 0} (format : Format X) (names : List (List ℕ)) (old new : FilesView)
    (refused : Refusal) : Type 0 where
  pub text : List ℕ
  pub read : HasTexts names old new (text ∷ [])
  pub is : at_input 0 (format text) ≡ Err refused

-- ---- the objects of two inputs

pub record HasObjects {X Y : Type 0} (first : Format X) (second : Format Y) (names : List (List ℕ))
    (old new : FilesView) (x : X) (y : Y) : Type 0 where
  pub first_text : List ℕ
  pub second_text : List ℕ
  pub read : HasTexts names old new (first_text ∷ second_text ∷ [])
  pub first_is : first first_text ≡ Ok x
  pub second_is : second second_text ≡ Ok y

-- a text is refused: that of the first one comes first
pub record LacksObjects {X Y : Type 0} (first : Format X) (second : Format Y) (names : List (List ℕ))
    (old new : FilesView) (refused : Refusal) : Type 0 where
  pub first_text : List ℕ
  pub second_text : List ℕ
  pub read : HasTexts names old new (first_text ∷ second_text ∷ [])
  pub is : (at_input 0 (first first_text) >>= λ x. at_input 1 (second second_text)) ≡ Err refused

-- what is told where the text of the first input is refused: a refusal of the second one's text comes after it
abbrev pub first_told : Unmade → Unmade → Unmade
first_told first (Refused input why) = first
first_told first second = second
