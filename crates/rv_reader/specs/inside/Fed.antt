-- What a reader was fed of a file.
use Rattle.std.specs.Prelude.{◌≡◌, ◌⊎◌, ℕ, Bool, true, false, List, ◌++◌, Option, Some, Result, Ok, Err}
use Rattle.rv_reader.specs.declared.unread.Unread.{Unread}
use Rattle.rv_reader.specs.declared.unread.Unread.TheVariants as unread

-- a refusal is want of memory, or the fault of each text that goes on so
abbrev pub IsFaultOf : {X E : Type 0} → E → (List ℕ → Result X E) → List ℕ → E → Type 0
IsFaultOf mem denoted text fault = (fault ≡ mem) ⊎ ((more : List ℕ) → denoted (text ++ more) ≡ Err fault)

-- a reader has refused a front of the text
pub record HasRefused {R X E : Type 0} (refusal : R → Option E) (mem : E) (denoted : List ℕ → Result X E) (reader : R)
    (text : List ℕ) : Type 0 where
  pub fault : E
  pub kept : refusal reader ≡ Some fault
  pub cause : IsFaultOf mem denoted text fault

-- a reader was fed the text, or a front of it, which it has refused
abbrev pub IsFed : {R X E : Type 0} → (R → List ℕ → Type 0) → (R → Option E) → E → (List ℕ → Result X E)
    → Bool → R → List ℕ → Type 0
IsFed Stands refusal mem denoted true reader text = Stands reader text
IsFed Stands refusal mem denoted false reader text = HasRefused refusal mem denoted reader text

-- what a text denotes is answered, or want of memory
abbrev pub GivesUnlessMem : {X E : Type 0} → E → Result X (Unread E) → Result X E → Type 0
GivesUnlessMem mem (Ok object) want = want ≡ Ok object
GivesUnlessMem mem (Err unread.Read) want = ⊥
GivesUnlessMem mem (Err unread.TooLong) want = ⊥
GivesUnlessMem mem (Err (unread.Refused fault)) want = (fault ≡ mem) ⊎ (want ≡ Err fault)
