-- The names that a run reads.
use Rattle.std.proofs.Common.{◌≡◌, ℕ, ◌<◌, ◌≤◌, Bool, List, [], ◌∷◌, ◌++◌, length, true, false, Option, None, Ok, Err, refl, ap, ◌∙◌, arith}
use Rattle.std.proofs.lemmas.Bool.{true≢false}
use Rattle.std.proofs.lemmas.List.{append-nil}
use Rattle.rv_words.specs.Settings.{IsAsked}
use Rattle.rv_words.specs.Table.{is_used, usage_of}
use Rattle.rv_words.specs.declared.asked.Settings.{Settings}
use Rattle.rv_words.specs.declared.command.Command.{Command}
use Rattle.rv_faults.specs.declared.fault.Fault.{Fault}
use Rattle.rv_faults.specs.declared.fault.Fault.TheVariants.{CannotRead, CannotWrite, Refused, TooLong, OutOfMemory}
use Rattle.rv_cmd.specs.declared.run_end.RunEnd.{RunEnd}
use Rattle.rv_cmd.specs.declared.run_end.RunEnd.TheVariants.{Understood, ArgumentsRefused}
use Rattle.rv_cmd.specs.Commands.{row_of}
use Rattle.rv_cmd.specs.Headline.{EndsAs, Performs, Scene}
use Rattle.rv_cmd.specs.Names.{LIBRARY, library_read, names_read}
use Rattle.rv_real.specs.Text.{name_at}
use Rattle.rv_cmd.specs.Row.{Row}
use Rattle.rv_cmd.specs.inside.Naming.{IsAmong, NamesAnInput}

-- without a library the names are those of the inputs
names_read-alone : (settings : Settings) → library_read (is_used settings.command LIBRARY) settings.library ≡ [] → names_read settings ≡ settings.inputs
names_read-alone settings none = ap (λ library. settings.inputs ++ library) none ∙ append-nil settings.inputs

unused : (used : Bool) (library : Option (List ℕ)) → used ≡ false → library_read used library ≡ []
unused true library is = absurd (true≢false is)
unused false library is = refl

-- how many names a command reads that uses no library
pub names_read-counted : (settings : Settings) (command : Command) → length settings.inputs ≡ (usage_of settings.command).most → settings.command ≡ command
    → is_used command LIBRARY ≡ false → length (names_read settings) ≡ (usage_of command).most
names_read-counted settings command inputs is none =
    ap length (names_read-alone settings (unused (is_used settings.command LIBRARY) settings.library (ap (λ c. is_used c LIBRARY) is ∙ none)))
    ∙ inputs ∙ ap (λ c. (usage_of c).most) is

pub names_read-by : (settings : Settings) (command : Command) → IsAsked settings → settings.command ≡ command → is_used command LIBRARY ≡ false
    → length (names_read settings) ≡ (usage_of command).most
names_read-by settings command asked is none = names_read-counted settings command asked.inputs is none

-- a command that takes no input and no library reads nothing
pub names_read-nothing : (settings : Settings) (command : Command) → IsAsked settings → settings.command ≡ command → is_used command LIBRARY ≡ false
    → (usage_of command).most ≡ 0 → names_read settings ≡ []
names_read-nothing settings command asked is none most = empty (names_read settings) (names_read-by settings command asked is none ∙ most)
  where
    empty : (names : List (List ℕ)) → length names ≡ 0 → names ≡ []
    empty [] zero = refl
    empty (name ∷ names) zero = absurd (omega (arith, zero))

pub no_name : (settings : Settings) (input : ℕ) → length settings.inputs ≤ input → input < length (names_read settings) → settings.library ≡ None → ⊥
no_name settings input after within none =
    let is : names_read settings ≡ settings.inputs = names_read-alone settings (ap (library_read (is_used settings.command LIBRARY)) none ∙ nothing (is_used settings.command LIBRARY)) in
    let count : length (names_read settings) ≡ length settings.inputs = ap length is in
    omega (arith, count)
  where
    nothing : (used : Bool) → library_read used None ≡ []
    nothing true = refl
    nothing false = refl

pub names-one : (names : List (List ℕ)) → length names ≡ 1 → name_at names 0 ∷ [] ≡ names
names-one [] one = absurd (omega (arith, one))
names-one (a ∷ []) one = refl
names-one (a ∷ b ∷ rest) one = absurd (omega (arith, one))

pub names-two : (names : List (List ℕ)) → length names ≡ 2 → name_at names 0 ∷ name_at names 1 ∷ [] ≡ names
names-two [] two = absurd (omega (arith, two))
names-two (a ∷ []) two = absurd (omega (arith, two))
names-two (a ∷ b ∷ []) two = refl
names-two (a ∷ b ∷ c ∷ rest) two = absurd (omega (arith, two))

-- a fault of an input that ends a run is of one of them
is_named : (row : Row) (names : List (List ℕ)) (old new : Scene) (fault : Fault) → Performs row names old new (Err fault) → IsAmong names fault
is_named row names old new (CannotRead input) p = p.ends.named
is_named row names old new CannotWrite p = tt
is_named row names old new (Refused input why) p = p.ends.named
is_named row names old new (TooLong input) p = p.ends.named
is_named row names old new OutOfMemory p = tt

pub names_an_input : (arguments : List (List ℕ)) (end : RunEnd) (old new : Scene) → EndsAs arguments end old new → NamesAnInput end
names_an_input arguments (Understood settings (Ok differs)) old new e = tt
names_an_input arguments (Understood settings (Err fault)) old new e = is_named (row_of settings) (names_read settings) old new fault e.performs
names_an_input arguments (ArgumentsRefused fault) old new e = tt
