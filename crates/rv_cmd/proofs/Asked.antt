-- What arguments ask for has the inputs of its command.
use Rattle.std.proofs.Common.{◌≡◌, ℕ, Bool, true, false, List, [], ◌∷◌, length, Option, Some, None, Result, Ok, Err, nat_lt, if◌then◌else◌, refl, subst}
use Rattle.std.specs.Prelude.{count_by, ◌+◌}
use Rattle.rv_words.specs.Given.{Given, command_text, first_not_used, library_name, names_for, names_given}
use Rattle.rv_words.specs.Line.{value_of, refusal}
use Rattle.rv_words.specs.Settings.{is_miscounted, is_standard, read, read_by, read_by_values, read_inputs, read_named, read_values, settings_of, standard_libraries, unless_not_understood}
use Rattle.rv_words.specs.Table.{command_of, usage_of}
use Rattle.rv_words.specs.Values.{Values, values_in}
use Rattle.rv_words.specs.declared.asked.Settings.{Settings}
use Rattle.rv_words.specs.declared.command.Command.{Command}
use Rattle.rv_words.specs.declared.command.Command.TheVariants.{Simulate, Demo}
use Rattle.rv_words.specs.declared.fault.ArgumentFault.{ArgumentFault}

abbrev HasInputs : Settings → Type 0
HasInputs s = length s.inputs ≡ (usage_of s.command).most

names-counted : (doing : Command) (g : Given) → length (names_for (usage_of doing).most g) ≡ (usage_of doing).most
names-counted Demo g = refl
names-counted Simulate g = refl
names-counted _ g = refl

abbrev HaveInputs : Result Settings ArgumentFault → Type 0
HaveInputs (Ok s) = HasInputs s
HaveInputs (Err fault) = Unit {0}

unless : (test : Bool) (fault : ArgumentFault) (asked : Result Settings ArgumentFault) → HaveInputs asked → HaveInputs (if test then Err fault else asked)
unless true fault asked have = tt
unless false fault asked have = have

inputs-counted : (doing : Command) (g : Given) (values : Result Values ℕ) → HaveInputs (read_by_values doing g values)
inputs-counted doing g (Err place) = tt
inputs-counted doing g (Ok values) =
    unless (is_miscounted doing (names_given g)) _ _
    (unless (nat_lt 1 (count_by is_standard (names_for (usage_of doing).most g) + standard_libraries (library_name g))) _ _ (names-counted doing g))

values-counted : (doing : Command) (g : Given) (unused : Option ℕ) → HaveInputs (read_values doing g unused)
values-counted doing g None = inputs-counted doing g (values_in doing g)
values-counted doing g (Some place) = tt

named-counted : (g : Given) (doing : Option Command) → HaveInputs (read_named g doing)
unfolding read_by
named-counted g None = tt
named-counted g (Some doing) = values-counted doing g (first_not_used doing g)

understood-counted : (arguments : List (List ℕ)) (g : Given) → HaveInputs (unless_not_understood (refusal arguments) (read g))
unfolding read
understood-counted arguments g = elim (refusal arguments) as (λ kinds. HaveInputs (unless_not_understood kinds (read g))) [
  | [] ↦ named-counted g (command_of (command_text g))
  | kind ∷ kinds ↦ tt
]

arguments-counted : (arguments : List (List ℕ)) → HaveInputs (settings_of arguments)
unfolding settings_of
arguments-counted arguments = understood-counted arguments (value_of arguments)

pub settings-counted : (arguments : List (List ℕ)) (s : Settings) → settings_of arguments ≡ Ok s → length s.inputs ≡ (usage_of s.command).most
settings-counted arguments s is = subst HaveInputs is (arguments-counted arguments)
