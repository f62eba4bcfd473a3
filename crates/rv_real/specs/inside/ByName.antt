-- A directive but `.begin` that is read as its name says.
use Rattle.std.specs.Prelude.{ℕ, List, Result, Ok, Err}
use Rattle.rv_text.specs.Tokens.{Lexeme}
use Rattle.rv_real.specs.declared.directive.Directive.{Directive}
use Rattle.rv_real.specs.declared.directive.Directive.TheVariants.{Dropped, Numvars, Variables, Inputs, Outputs, Constants, Garbage, Refused}
use Rattle.rv_real.specs.inside.Directives.{Header}
use Rattle.rv_real.specs.inside.HeaderSteps.{numvars_of, variables_of, inputs_of, outputs_of, constants_of, garbage_row_of}

abbrev pub read_as : Directive → Header → List Lexeme → Result Header ℕ
read_as Dropped h ws = Ok h
read_as Numvars h ws = numvars_of h ws
read_as Variables h ws = variables_of h ws
read_as Inputs h ws = inputs_of h ws
read_as Outputs h ws = outputs_of h ws
read_as Constants h ws = constants_of h ws
read_as Garbage h ws = garbage_row_of h ws
read_as (Refused code) h ws = Err code
