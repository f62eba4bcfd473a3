-- The names that a run reads.
use Rattle.std.specs.Prelude.{ℕ, Bool, true, List, [], ◌∷◌, ◌++◌, Option, Some}
use Rattle.rv_words.specs.Table.{is_used}
use Rattle.rv_words.specs.declared.asked.Settings.{Settings}

-- the place of the option that names a library
abbrev pub LIBRARY : ℕ
LIBRARY = 3

-- the file of a library, if one is named and the command uses it
abbrev pub library_read : Bool → Option (List ℕ) → List (List ℕ)
library_read true (Some name) = name ∷ []
library_read used library = []

-- the names that a run reads: its inputs in the order of the arguments, and then the library
abbrev pub names_read : Settings → List (List ℕ)
names_read settings = settings.inputs ++ library_read (is_used settings.command LIBRARY) settings.library
