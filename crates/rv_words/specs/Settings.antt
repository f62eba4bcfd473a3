-- What the arguments of the command line ask for.
use Rattle.std.specs.Prelude.{ℕ, ◌≡◌, ◌⊎◌, ◌≤◌, MatchResult, ◌+◌, ◌||◌, nat_lt, Bool, false, List, [], ◌∷◌, map, length, count_by, Option, Some, None, Result, Ok, Err, String, string_bytes, codes, if◌then◌else◌}
use Rattle.std.specs.Str.{bytes_eq}
use Rattle.std.specs.Option.{option_map_or}
use Rattle.std.specs.declared.alloc.Global.{Global}
use Rattle.clap.specs.Words.{Kinds, kind_of}
use Rattle.clap.specs.declared.error.Error.{Error}
use Rattle.clap.specs.declared.error.kind.ErrorKind.{ErrorKind}
use Rattle.clap.specs.declared.error.kind.ErrorKind.TheVariants.{OutOfMemory}
use Rattle.rv_words.specs.declared.command.Command.{Command}
use Rattle.rv_words.specs.declared.fault.ArgumentFault.{ArgumentFault}
use Rattle.rv_words.specs.declared.fault.ArgumentFault.TheVariants.{NotUnderstood, UnknownCommand, NotUsed, BadValue, InputCount, TwiceStandard, Mem}
use Rattle.rv_words.specs.declared.asked.Settings.{Settings}
use Rattle.rv_words.specs.Line.{value_of, refusal}
use Rattle.rv_words.specs.Table.{command_of, usage_of}
use Rattle.rv_words.specs.Given.{Given, command_text, first_not_used, names_given, is_flag_given, library_name, names_for}
use Rattle.rv_words.specs.Values.{IsLineCount, IsNodeCount, Values, values_in}

-- the bytes of the arguments
abbrev pub texts : List (String Global) → List (List ℕ)
texts arguments = map (λ argument. string_bytes argument) arguments

abbrev pub is_standard : List ℕ → Bool
is_standard name = bytes_eq name (codes "-")

abbrev pub standard_libraries : Option (List ℕ) → ℕ
standard_libraries library = if option_map_or is_standard library false then 1 else 0

abbrev pub is_miscounted : Command → ℕ → Bool
is_miscounted command count = nat_lt count (usage_of command).least || nat_lt (usage_of command).most count

-- the inputs are looked at last: their number, then whether `-` is named twice, the library among them
abbrev pub read_inputs : Command → Given → Values → Result Settings ArgumentFault
read_inputs command g values =
    if is_miscounted command (names_given g) then Err (InputCount command)
    else (if nat_lt 1 (count_by is_standard (names_for (usage_of command).most g) + standard_libraries (library_name g))
    then Err TwiceStandard
    else Ok (record {
      command = command;
      inputs = names_for (usage_of command).most g;
      method = values.method;
      to = values.to;
      origin = values.origin;
      library = library_name g;
      aux = values.aux;
      lines = values.lines;
      seed = values.seed;
      all = is_flag_given g (codes "all");
      simplify = is_flag_given g (codes "simplify");
      wrap = values.wrap;
      goal = values.goal;
      effort = values.effort;
      marks = is_flag_given g (codes "marks");
      blocks = values.blocks;
      picture = values.picture;
      gates = values.gates;
      checked = values.checked;
      report = values.report;
      nodes = values.nodes;
      curve = is_flag_given g (codes "curve");
      constants = is_flag_given g (codes "constants");
    }))

abbrev pub read_by_values : Command → Given → Result Values ℕ → Result Settings ArgumentFault
read_by_values command g (Ok values) = read_inputs command g values
read_by_values command g (Err place) = Err (BadValue place)

-- an option that the command doesn't use, then a bad value, then the inputs
abbrev pub read_values : Command → Given → Option ℕ → Result Settings ArgumentFault
read_values command g (Some place) = Err (NotUsed command place)
read_values command g None = read_by_values command g (values_in command g)

unfoldable pub read_by : Command → Given → Result Settings ArgumentFault
read_by command g = read_values command g (first_not_used command g)

abbrev pub read_named : Given → Option Command → Result Settings ArgumentFault
read_named g None = Err (UnknownCommand (command_text g))
read_named g (Some command) = read_by command g

-- what the values of the names ask for, or the first fault
unfoldable pub read : Given → Result Settings ArgumentFault
read g = read_named g (command_of (command_text g))

-- what holds of all that arguments ask for
pub record IsAsked (s : Settings) : Type 0 where
  pub inputs : length s.inputs ≡ (usage_of s.command).most
  pub once : count_by is_standard s.inputs + standard_libraries s.library ≤ 1
  pub lines : IsLineCount s.command s.lines
  pub nodes : IsNodeCount s.nodes

-- arguments that something refuses are not understood
abbrev pub unless_not_understood : Kinds → Result Settings ArgumentFault → Result Settings ArgumentFault
unless_not_understood [] asked = asked
unless_not_understood (kind ∷ kinds) asked = Err NotUnderstood

-- what arguments of the form of the command line ask for, or the first fault
unfoldable pub settings_of : List (List ℕ) → Result Settings ArgumentFault
settings_of arguments = unless_not_understood (refusal arguments) (read (value_of arguments))

-- the answer is what is wanted, or want of memory
abbrev pub IsAnswer : Result Settings ArgumentFault → Result Settings ArgumentFault → Type 0
IsAnswer want answer = MatchResult answer (λ settings. want ≡ Ok settings) (λ fault. (fault ≡ Mem) ⊎ (want ≡ Err fault))

abbrev pub fault_of_kind : ErrorKind → ArgumentFault
fault_of_kind OutOfMemory = Mem
fault_of_kind _ = NotUnderstood

-- the fault of arguments that are not of the form, or of want of memory
abbrev pub fault_of_error : Error → ArgumentFault
fault_of_error error = fault_of_kind (kind_of error)
