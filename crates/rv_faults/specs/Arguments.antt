-- The exit status and the line of arguments that are refused.
use Rattle.std.specs.Prelude.{ℕ, List, ◌++◌, codes}
use Rattle.rv_words.specs.declared.fault.ArgumentFault.{ArgumentFault}
use Rattle.rv_words.specs.declared.fault.ArgumentFault.TheVariants as arguments
use Rattle.rv_words.specs.Options.{option_name}
use Rattle.rv_words.specs.Table.{usage_of}

abbrev pub status_of_arguments : ArgumentFault → ℕ
status_of_arguments arguments.Mem = 6
status_of_arguments _ = 2

-- why arguments are refused
abbrev pub arguments_reason : ArgumentFault → List ℕ
arguments_reason arguments.NotUnderstood = codes "words not understood"
arguments_reason (arguments.UnknownCommand name) = codes "unknown command " ++ name
arguments_reason (arguments.NotUsed command place) =
    codes "option --" ++ (option_name place ++ (codes " not used by " ++ (usage_of command).name))
arguments_reason (arguments.BadValue place) = codes "bad value for --" ++ option_name place
arguments_reason (arguments.InputCount command) = codes "wrong number of inputs for " ++ (usage_of command).name
arguments_reason arguments.TwiceStandard = codes "standard input named twice"
arguments_reason arguments.Mem = codes "out of memory"
