-- The entries of files in memory, as the code keeps them.
use Rattle.std.specs.Prelude.{◌≡◌, ◌<◌, ◌≤◌, ℕ, List, [], Option, Some, None, String, Vec, get_or, length, map, string_bytes}
use Rattle.std.specs.FinMap as finite
use Rattle.std.specs.Option.{option_map}
use Rattle.std.specs.declared.alloc.Global.{Global}
use Rattle.rv_io.specs.MemFiles.{Names, Opened}

-- the entries without their places in memory
abbrev pub pairs : List (String Global × Vec ℕ Global) → List (List ℕ × List ℕ)
pairs entries = map (λ e. (string_bytes e.0, e.1.items)) entries

-- the map of the entries, of which the first of a name counts
abbrev pub names_of : List (List ℕ × List ℕ) → Names
names_of entries = finite.from_entries entries

-- what is started, from the index of its entry and the place in it
abbrev pub opened_in : List (List ℕ × List ℕ) → Option (ℕ × ℕ) → Option Opened
opened_in entries started = option_map (λ o. record { name = (get_or entries o.0 ([], [])).0; place = o.1 }) started

-- the entry at the index is the first of the name
pub record IsFirst (name : List ℕ) (entries : List (List ℕ × List ℕ)) (index : ℕ) : Type 0 where
  pub within : index < length entries
  pub named : (get_or entries index ([], [])).0 ≡ name
  pub held : finite.get (names_of entries) name ≡ Some (get_or entries index ([], [])).1

-- the entry that is started is the first of its name, and the place is in it
abbrev pub IsStartedIn : List (List ℕ × List ℕ) → Option (ℕ × ℕ) → Type 0
IsStartedIn entries None = Unit {0}
IsStartedIn entries (Some o) = record {
  within : o.0 < length entries;
  place : o.1 ≤ length (get_or entries o.0 ([], [])).1;
  first : finite.get (names_of entries) (get_or entries o.0 ([], [])).0 ≡ Some (get_or entries o.0 ([], [])).1;
}
