-- What the parse of the command line says.
use Rattle.std.proofs.Common.{◌≡◌, ◌⊎◌, ◌∙◌, ℕ, Bool, true, false, List, [], ◌∷◌, Option, Result, Ok, Err, refl, ap, ap₂, sym, subst, inl, inr}
use Rattle.clap.specs.Words.{App, FailsBy, HasMatchesOf, IsAmong, Kinds, Text, fault_of, first_value, found_of, is_simple_and_free, kind_of, takes}
use Rattle.clap.specs.declared.parser.matches.ArgMatches.{ArgMatches}
use Rattle.clap.specs.declared.error.Error.{Error}
use Rattle.clap.specs.declared.error.kind.ErrorKind.{ErrorKind}
use Rattle.clap.specs.declared.error.kind.ErrorKind.TheVariants.{OutOfMemory}
use Rattle.rv_words.specs.Line.{value_of, line, refusal, whole}
use Rattle.std.specs.Prelude.{None, Some, nat_lt, count_by, if◌then◌else◌, ◌+◌}
use Rattle.rv_words.specs.declared.command.Command.{Command}
use Rattle.rv_words.specs.Table.{command_of, usage_of}
use Rattle.rv_words.specs.Given.{Given, command_text, first_not_used, names_given, library_name, names_for}
use Rattle.rv_words.specs.Values.{Values, values_in}
use Rattle.rv_words.specs.Settings.{IsAnswer, fault_of_error, fault_of_kind, is_miscounted, is_standard, read, read_by, read_inputs, read_by_values, read_named, read_values, settings_of, standard_libraries}
use Rattle.rv_words.specs.declared.asked.Settings.{Settings}
use Rattle.rv_words.specs.declared.fault.ArgumentFault.{ArgumentFault}
use Rattle.rv_words.specs.declared.fault.ArgumentFault.TheVariants.{InputCount, Mem, NotUnderstood, TwiceStandard}
use Rattle.rv_words.proofs.OnLine.{given_is, line_is_free, refusal_is}

asked_for : (arguments : List Text) → refusal arguments ≡ [] → settings_of arguments ≡ read (value_of arguments)
unfolding settings_of
asked_for arguments e = rw e refl

refused : (arguments : List Text) (k : ErrorKind) (kinds : Kinds) → refusal arguments ≡ kinds → IsAmong k kinds → settings_of arguments ≡ Err NotUnderstood
unfolding settings_of
refused arguments k [] e among = absurd among
refused arguments k (x ∷ xs) e among = rw e refl

-- ---- nothing that is read is not understood

inputs_understood : (command : Command) (g : Given) (values : Values) → read_inputs command g values ≡ Err NotUnderstood → ⊥
inputs_understood command g values e = go (is_miscounted command (names_given g)) (nat_lt 1 (count_by is_standard (names_for (usage_of command).most g) + standard_libraries (library_name g))) _ e
  where
    go : (a b : Bool) (x : Settings) → (if a then Err (InputCount command) else (if b then Err TwiceStandard else Ok x)) ≡ Err NotUnderstood → ⊥
    go true b x e = cc
    go false true x e = cc
    go false false x e = cc

by_understood : (command : Command) (g : Given) → read_by command g ≡ Err NotUnderstood → ⊥
unfolding read_by
by_understood command g = go (first_not_used command g)
  where
    go : (o : Option ℕ) → read_values command g o ≡ Err NotUnderstood → ⊥
    go (Some place) e = cc
    go None e = by_values (values_in command g) e
      where
        by_values : (r : Result Values ℕ) → read_by_values command g r ≡ Err NotUnderstood → ⊥
        by_values (Ok values) e = inputs_understood command g values e
        by_values (Err place) e = cc

read_understood : (g : Given) → read g ≡ Err NotUnderstood → ⊥
unfolding read
read_understood g = go (command_of (command_text g))
  where
    go : (o : Option Command) → read_named g o ≡ Err NotUnderstood → ⊥
    go None e = cc
    go (Some command) e = by_understood command g e

wanted : (want answer : Result Settings ArgumentFault) → IsAnswer want answer → answer ≡ Err NotUnderstood → want ≡ Err NotUnderstood
wanted want (Ok settings) h e = cc
wanted want (Err fault) (inl memory) e = cc
wanted want (Err fault) (inr same) e = same ∙ e

pub only_refused : (arguments : List Text) (answer : Result Settings ArgumentFault) → IsAnswer (settings_of arguments) answer → answer ≡ Err NotUnderstood → refusal arguments ≡ [] → ⊥
only_refused arguments answer h e none =
    read_understood (value_of arguments) (sym (asked_for arguments none) ∙ wanted (settings_of arguments) answer h e)

-- ---- the arms

pub read_ok : (a : App) (texts arguments : List Text) (m : ArgMatches) (answer : Result Settings ArgumentFault) → a ≡ line → texts ≡ whole arguments
    → HasMatchesOf a texts m → IsAnswer (read (first_value (found_of m))) answer → IsAnswer (read (value_of arguments)) answer
read_ok a texts arguments m answer a_is texts_are h given =
    subst (λ (want : Result Settings ArgumentFault). IsAnswer want answer) (ap read (given_is a texts arguments m a_is texts_are h)) given

pub taken_err : (a : App) (texts arguments : List Text) (error : Error) → a ≡ line → texts ≡ whole arguments
    → (takes a texts ≡ true → kind_of error ≡ OutOfMemory) → takes line (whole arguments) ≡ true → fault_of_error error ≡ Mem
taken_err a texts arguments error a_is texts_are passes is_taken = ap fault_of_kind (passes (ap₂ takes a_is texts_are ∙ is_taken))

-- arguments that are taken
pub answers_ok : (a : App) (texts arguments : List Text) (m : ArgMatches) (answer : Result Settings ArgumentFault) → a ≡ line → texts ≡ whole arguments
    → HasMatchesOf a texts m → (is_simple_and_free a ≡ true → FailsBy {T = ArgMatches} (fault_of a texts) (Ok m))
    → IsAnswer (read (first_value (found_of m))) answer → IsAnswer (settings_of arguments) answer
answers_ok a texts arguments m answer a_is texts_are h kinds given =
    let none : fault_of a texts ≡ [] = kinds (ap is_simple_and_free a_is ∙ line_is_free) in
    let same : read (first_value (found_of m)) ≡ settings_of arguments =
    ap read (given_is a texts arguments m a_is texts_are h) ∙ sym (asked_for arguments (sym (refusal_is a texts arguments a_is texts_are) ∙ none)) in
    subst (λ (want : Result Settings ArgumentFault). IsAnswer want answer) same given

kind_cases : (k : ErrorKind) → (fault_of_kind k ≡ Mem) ⊎ (fault_of_kind k ≡ NotUnderstood)
kind_cases OutOfMemory = inl refl
kind_cases _ = inr refl

-- arguments that are refused, or want of memory
pub answers_err : (a : App) (texts arguments : List Text) (error : Error) → a ≡ line → texts ≡ whole arguments
    → (is_simple_and_free a ≡ true → FailsBy {T = ArgMatches} (fault_of a texts) (Err error))
    → IsAnswer (settings_of arguments) (Err (fault_of_error error))
answers_err a texts arguments error a_is texts_are kinds =
    elim (kinds (ap is_simple_and_free a_is ∙ line_is_free)) [
      | inl memory ↦ inl (ap fault_of_kind memory)
      | inr among ↦
          let none = refused arguments (kind_of error) (fault_of a texts) (sym (refusal_is a texts arguments a_is texts_are)) among in
          elim (kind_cases (kind_of error)) [
            | inl is_mem ↦ inl is_mem
            | inr is_not ↦ inr (none ∙ ap Err (sym is_not))
          ]
    ]
