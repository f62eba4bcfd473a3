-- Worked examples.
use Rattle.std.proofs.Common.{◌≡◌, true, false, [], ◌∷◌, refl}
use Rattle.std.specs.Prelude.{codes}
use Rattle.rv_text.specs.Lines.{lines_of}
use Rattle.rv_text.specs.Tokens.{tokens_of, plain, in_quotes}

-- lines

empty_text : lines_of [] ≡ []
empty_text = refl

one_line_feed : lines_of (codes "\n") ≡ [] ∷ []
one_line_feed = refl

unended_last_line : lines_of (codes "a\n\nb") ≡ codes "a" ∷ ([] ∷ (codes "b" ∷ []))
unended_last_line = refl

ended_last_line : lines_of (codes "a\r\nb\n") ≡ codes "a\r" ∷ (codes "b" ∷ [])
ended_last_line = refl

-- tokens

blanks_alone : tokens_of true [] (codes " \t\r") ≡ []
blanks_alone = refl

comment : tokens_of true [] (codes "t2 a b# c") ≡ plain (codes "t2") ∷ (plain (codes "a") ∷ (plain (codes "b") ∷ []))
comment = refl

carriage_return_at_the_end : tokens_of true [] (codes "a\r") ≡ plain (codes "a") ∷ []
carriage_return_at_the_end = refl

hash_in_quotes : tokens_of true [] (codes "\"a #b\" c") ≡ in_quotes (codes "a #b") true ∷ (plain (codes "c") ∷ [])
hash_in_quotes = refl

quotes_without_meaning : tokens_of false [] (codes "\"a #b\" c") ≡ plain (codes "\"a") ∷ []
quotes_without_meaning = refl

unclosed : tokens_of true [] (codes "a \"b # ") ≡ plain (codes "a") ∷ (in_quotes (codes "b # ") false ∷ [])
unclosed = refl

nothing_in_quotes : tokens_of true [] (codes "\"\"") ≡ in_quotes [] true ∷ []
nothing_in_quotes = refl

quote_inside : tokens_of true [] (codes "a\"b c\"") ≡ plain (codes "a\"b") ∷ (plain (codes "c\"") ∷ [])
quote_inside = refl

after_a_quote : tokens_of true [] (codes "\"a\"b\"c\"") ≡ in_quotes (codes "a") true ∷ (plain (codes "b\"c\"") ∷ [])
after_a_quote = refl

more_blanks : tokens_of false (codes ",{}") (codes "{1, 2}") ≡ plain (codes "1") ∷ (plain (codes "2") ∷ [])
more_blanks = refl
