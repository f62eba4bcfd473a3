-- The parse of arguments by the command line.
use Rattle.std.proofs.Common.{◌≡◌, ◌∙◌, List, true, refl, ap, ap₂}
use Rattle.clap.specs.Words.{App, HasMatchesOf, Text, fault_of, first_of, first_value, found_of, is_simple, is_simple_and_free, matches_of}
use Rattle.clap.specs.declared.parser.matches.ArgMatches.{ArgMatches}
use Rattle.clap.proofs.OnLiterals.{clap_on_literals}
use Rattle.clap.proofs.WalkLemmas.{first_value-rows}
use Rattle.rv_words.specs.Line.{value_of, line, refusal, whole}

pub line_is_simple : is_simple line ≡ true
unfolding line clap_on_literals
line_is_simple = refl

pub line_is_free : is_simple_and_free line ≡ true
unfolding line clap_on_literals
line_is_free = refl

-- the matches give what the arguments give
pub given_is : (a : App) (texts arguments : List Text) (m : ArgMatches) → a ≡ line → texts ≡ whole arguments → HasMatchesOf a texts m
    → first_value (found_of m) ≡ value_of arguments
unfolding value_of
given_is a texts arguments m a_is texts_are h =
    let rows = (h (ap is_simple a_is ∙ line_is_simple)).0 ∙ ap₂ matches_of a_is texts_are in
    λ i. λ id. (first_value-rows (found_of m) id ∙ ap (first_of id) rows) i

pub refusal_is : (a : App) (texts arguments : List Text) → a ≡ line → texts ≡ whole arguments → fault_of a texts ≡ refusal arguments
unfolding refusal
refusal_is a texts arguments a_is texts_are = ap₂ fault_of a_is texts_are
