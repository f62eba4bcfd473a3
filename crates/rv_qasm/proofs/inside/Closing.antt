-- The tokens of a text from what is open in it.
use Rattle.std.proofs.Common.{◌≡◌, ℕ, suc, ◌+◌, Bool, true, false, not, ◌&&◌, ◌||◌, List, [], ◌∷◌, ◌++◌, length, get_or, refl, ap, ◌∙◌, arith, cond, nat_eq, append_assoc}
use Rattle.std.specs.List.{list_all}
use Rattle.std.specs.Char.{is_ascii_digit}
use Rattle.std.proofs.lemmas.Bool.{and_parts, not-true, not_from_false, or_parts, and_from}
use Rattle.std.proofs.lemmas.List.Folds.{list_all-append}
use Rattle.std.proofs.lemmas.List.{length-append}
use Rattle.rv_text.specs.Bytes.{line_feed, quote, dot}
use Rattle.rv_text.specs.Tokens.{is_blank}
use Rattle.rv_text.proofs.inside.Spelled.{list_all-weaken, list_all-push}
use Rattle.rv_qasm.specs.Tokens.{TokenOnLine, minus, greater, slash, begins_name, is_in_name, token_length, begins_comment, tokens_after, number_length}
use Rattle.rv_text.specs.Lines.{first_end}
use Rattle.rv_qasm.specs.inside.Lexing.{goes_on, semicolon}
use Rattle.rv_qasm.specs.declared.lexer.Mode.{Mode}
use Rattle.rv_qasm.specs.declared.lexer.Mode.TheVariants.{Between, Name, Digits, Point, Decimals, Quoted, Minus, Done, Slash, Comment}
use Rattle.rv_qasm.proofs.Bytes.{differs, no_blank, stops, prefix_stops, take_front, whole_number, number_with_dot, unclosed_string, closed_string}

abbrev pub on_its_line : ℕ → List ℕ → TokenOnLine
on_its_line line bytes = record { bytes = bytes; line = line }

abbrev pub in_line : ℕ → Bool
in_line c = not (nat_eq c line_feed)

abbrev pub in_string : ℕ → Bool
in_string c = not (nat_eq c quote || nat_eq c line_feed)

-- the bytes of what is open, by its first byte and the others
abbrev pub text_of : Mode → ℕ → List ℕ → List ℕ
text_of Between h r = []
text_of Point h r = h ∷ (r ++ dot ∷ [])
text_of Slash h r = slash ∷ []
text_of Comment h r = slash ∷ slash ∷ r
text_of _ h r = h ∷ r

-- what of it is a token already
abbrev pub shown : Mode → ℕ → ℕ → List ℕ → List TokenOnLine
shown Between line h r = []
shown Slash line h r = []
shown Comment line h r = []
shown _ line h r = on_its_line line (h ∷ r) ∷ []

-- and what is a token if nothing more belongs to it
abbrev pub closed : Mode → ℕ → ℕ → List ℕ → List TokenOnLine
closed Between line h r = []
closed Comment line h r = []
closed Slash line h r = on_its_line line (slash ∷ []) ∷ []
closed Point line h r = on_its_line line (h ∷ r) ∷ on_its_line line (dot ∷ []) ∷ []
closed _ line h r = on_its_line line (h ∷ r) ∷ []

pub record IsDecimals (r : List ℕ) : Type 0 where
  pub whole : List ℕ
  pub first : ℕ
  pub others : List ℕ
  pub is : r ≡ whole ++ dot ∷ first ∷ others
  pub digits : list_all is_ascii_digit whole ≡ true
  pub digit : is_ascii_digit first ≡ true
  pub more : list_all is_ascii_digit others ≡ true

-- bytes that are a token, whatever follows
abbrev pub IsToken : ℕ → List ℕ → Type 0
IsToken h r = (line : ℕ) (rest : List ℕ) → tokens_after 0 line (h ∷ (r ++ rest)) ≡ on_its_line line (h ∷ r) ∷ tokens_after 0 line rest

abbrev pub IsOpen : Mode → ℕ → List ℕ → Type 0
IsOpen Between h r = Unit {0}
IsOpen Slash h r = Unit {0}
IsOpen Name h r = (begins_name h ≡ true) × (list_all is_in_name r ≡ true)
IsOpen Digits h r = (is_ascii_digit h ≡ true) × (list_all is_ascii_digit r ≡ true)
IsOpen Point h r = (is_ascii_digit h ≡ true) × (list_all is_ascii_digit r ≡ true)
IsOpen Decimals h r = (is_ascii_digit h ≡ true) × IsDecimals r
IsOpen Quoted h r = (h ≡ quote) × (list_all in_string r ≡ true)
IsOpen Minus h r = (h ≡ minus) × (r ≡ [])
IsOpen Done h r = (nat_eq h semicolon ≡ false) × IsToken h r
IsOpen Comment h r = list_all in_line r ≡ true

skip : (r rest : List ℕ) (line : ℕ) → list_all in_line r ≡ true → tokens_after (length r) line (r ++ rest) ≡ tokens_after 0 line rest
unfolding tokens_after
skip [] rest line all = refl
skip (c ∷ r) rest line all = let t = and_parts (in_line c) (list_all in_line r) all in rw (not-true (nat_eq c line_feed) t.0) (skip r rest line t.1)

one_token : (h : ℕ) (r rest : List ℕ) (line : ℕ) → is_blank (line_feed ∷ []) h ≡ false → begins_comment h (r ++ rest) ≡ false → token_length h (r ++ rest) ≡ suc (length r) → list_all in_line r ≡ true
    → tokens_after 0 line (h ∷ (r ++ rest)) ≡ on_its_line line (h ∷ r) ∷ tokens_after 0 line rest
unfolding tokens_after
one_token h r rest line blank comment long all = grind (arith, tokens_after, take_front, skip)

-- a byte that begins no comment
no_comment : (p : ℕ → Bool) (h : ℕ) (bytes : List ℕ) → p h ≡ true → p slash ≡ false → begins_comment h bytes ≡ false
no_comment p h bytes is free = rw (differs p h slash is free) refl

weaken_line : (p : ℕ → Bool) (r : List ℕ) → p line_feed ≡ false → list_all p r ≡ true → list_all in_line r ≡ true
weaken_line p r free all = list_all-weaken p in_line (λ c is. rw (differs p c line_feed is free) refl) r all

closes_name : (h : ℕ) (r rest : List ℕ) (line : ℕ) → IsOpen Name h r → stops is_in_name rest ≡ true → tokens_after 0 line (h ∷ (r ++ rest)) ≡ on_its_line line (h ∷ r) ∷ tokens_after 0 line rest
closes_name h r rest line is stop = grind (arith, one_token, no_blank, begins_name, no_comment, prefix_stops, is_in_name, weaken_line)

digit_no_name : (h : ℕ) → is_ascii_digit h ≡ true → begins_name h ≡ false
digit_no_name h is = grind arith

second : {X : Type 0} (a b : Bool) (x y z : X) → a ≡ false → b ≡ true → cond a x (cond b y z) ≡ y
second a b x y z no_first is_second = rw (no_first, is_second) refl

closes_number : (h : ℕ) (r rest : List ℕ) (line : ℕ) → is_ascii_digit h ≡ true → number_length (h ∷ (r ++ rest)) ≡ suc (length r) → list_all in_line r ≡ true → tokens_after 0 line (h ∷ (r ++ rest)) ≡ on_its_line line (h ∷ r) ∷ tokens_after 0 line rest
closes_number h r rest line is long all = grind (arith, one_token, no_blank, is_ascii_digit, no_comment, second, begins_name, number_length, digit_no_name)

no_digit : (rest : List ℕ) → stops (goes_on Digits) rest ≡ true → stops is_ascii_digit rest ≡ true
no_digit [] stop = refl
no_digit (c ∷ cs) stop = not_from_false (is_ascii_digit c) (or_parts (is_ascii_digit c) (nat_eq c dot) (not-true (is_ascii_digit c || nat_eq c dot) stop)).0

no_dot : (rest : List ℕ) → stops (goes_on Digits) rest ≡ true → (nat_eq (get_or rest 0 0) dot && is_ascii_digit (get_or rest 1 0)) ≡ false
no_dot [] stop = refl
no_dot (c ∷ cs) stop = rw ((or_parts (is_ascii_digit c) (nat_eq c dot) (not-true (is_ascii_digit c || nat_eq c dot) stop)).1) refl

closes_digits : (h : ℕ) (r rest : List ℕ) (line : ℕ) → IsOpen Digits h r → stops (goes_on Digits) rest ≡ true → tokens_after 0 line (h ∷ (r ++ rest)) ≡ on_its_line line (h ∷ r) ∷ tokens_after 0 line rest
closes_digits h r rest line is stop =
    closes_number h r rest line is.0 (whole_number (h ∷ r) rest (and_from (is_ascii_digit h) (list_all is_ascii_digit r) is.0 is.1) (no_digit rest stop) (no_dot rest stop)) (weaken_line is_ascii_digit r refl is.1)

-- any byte that nothing else is made of
pub single : (c : ℕ) → is_blank (line_feed ∷ []) c ≡ false → begins_name c ≡ false → is_ascii_digit c ≡ false → nat_eq c quote ≡ false
    → (line : ℕ) (rest : List ℕ) → begins_comment c rest ≡ false → (nat_eq c minus && nat_eq (get_or rest 0 0) greater) ≡ false → tokens_after 0 line (c ∷ rest) ≡ on_its_line line (c ∷ []) ∷ tokens_after 0 line rest
single c blank name digit string line rest comment arrow = one_token c [] rest line blank comment (rw (name, digit, string, arrow) refl) refl

first_is_not : (p : ℕ → Bool) (rest : List ℕ) → p 0 ≡ false → stops p rest ≡ true → p (get_or rest 0 0) ≡ false
first_is_not p [] zero stop = zero
first_is_not p (c ∷ cs) zero stop = not-true (p c) stop

closes_point : (h : ℕ) (r rest : List ℕ) (line : ℕ) → IsOpen Point h r → stops is_ascii_digit rest ≡ true
    → tokens_after 0 line (h ∷ ((r ++ dot ∷ []) ++ rest)) ≡ on_its_line line (h ∷ r) ∷ on_its_line line (dot ∷ []) ∷ tokens_after 0 line rest
closes_point h r rest line is stop =
    ap (λ bytes. tokens_after 0 line (h ∷ bytes)) (append_assoc r (dot ∷ []) rest)
    ∙ closes_number h r (dot ∷ rest) line is.0 (whole_number (h ∷ r) (dot ∷ rest) (and_from (is_ascii_digit h) (list_all is_ascii_digit r) is.0 is.1) refl (first_is_not is_ascii_digit rest refl stop)) (weaken_line is_ascii_digit r refl is.1)
    ∙ ap (λ ts. on_its_line line (h ∷ r) ∷ ts) (single dot refl refl refl refl line rest refl refl)

digits_or_dot : (d : ℕ) (ds : List ℕ) → is_ascii_digit d ≡ true → list_all is_ascii_digit ds ≡ true → list_all (goes_on Digits) (dot ∷ d ∷ ds) ≡ true
digits_or_dot d ds digit digits = grind (arith, list_all-weaken, is_ascii_digit, goes_on, and_from, list_all)

closes_decimals : (h : ℕ) (r rest : List ℕ) (line : ℕ) → IsOpen Decimals h r → stops is_ascii_digit rest ≡ true → tokens_after 0 line (h ∷ (r ++ rest)) ≡ on_its_line line (h ∷ r) ∷ tokens_after 0 line rest
closes_decimals h r rest line (is, d) stop =
    let bytes : r ++ rest ≡ d.whole ++ dot ∷ d.first ∷ (d.others ++ rest) = ap (λ l. l ++ rest) d.is ∙ append_assoc d.whole (dot ∷ d.first ∷ d.others) rest in
    let size : length r ≡ length d.whole + suc (suc (length d.others)) = ap length d.is ∙ length-append d.whole (dot ∷ d.first ∷ d.others) in
    let long : number_length (h ∷ (r ++ rest)) ≡ suc (length r) =
    ap (λ l. number_length (h ∷ l)) bytes
    ∙ number_with_dot (h ∷ d.whole) d.first d.others rest (and_from (is_ascii_digit h) (list_all is_ascii_digit d.whole) is d.digits) d.digit d.more stop
    ∙ omega (arith, size) in
    let all : list_all in_line r ≡ true =
    ap (list_all in_line) d.is ∙ list_all-append in_line d.whole (dot ∷ d.first ∷ d.others)
    ∙ and_from (list_all in_line d.whole) (list_all in_line (dot ∷ d.first ∷ d.others)) (weaken_line is_ascii_digit d.whole refl d.digits) (weaken_line (goes_on Digits) (dot ∷ d.first ∷ d.others) refl (digits_or_dot d.first d.others d.digit d.more)) in
    closes_number h r rest line is long all

closes_quoted : (r rest : List ℕ) (line : ℕ) → list_all in_string r ≡ true → stops in_line rest ≡ true → tokens_after 0 line (quote ∷ (r ++ rest)) ≡ on_its_line line (quote ∷ r) ∷ tokens_after 0 line rest
closes_quoted r rest line all stop = one_token quote r rest line refl refl (omega (arith, unclosed_string r rest all stop)) (weaken_line in_string r refl all)

pub string_token : (r : List ℕ) → list_all in_string r ≡ true → IsToken quote (r ++ quote ∷ [])
string_token r all line rest = grind (arith, one_token, append_assoc, closed_string, length-append, list_all-push, weaken_line)

pub arrow_token : IsToken minus (greater ∷ [])
arrow_token line rest = one_token minus (greater ∷ []) rest line refl refl refl refl

closes_comment : (r rest : List ℕ) (line : ℕ) → list_all in_line r ≡ true → stops in_line rest ≡ true → tokens_after 0 line (slash ∷ slash ∷ (r ++ rest)) ≡ tokens_after 0 line rest
unfolding tokens_after
closes_comment r rest line all stop = grind (arith, first_end, prefix_stops, tokens_after, skip)

pub closes : (mode : Mode) (h : ℕ) (r rest : List ℕ) (line : ℕ) → IsOpen mode h r → stops (goes_on mode) rest ≡ true
    → tokens_after 0 line (text_of mode h r ++ rest) ≡ closed mode line h r ++ tokens_after 0 line rest
closes Between h r rest line is stop = refl
closes Name h r rest line is stop = closes_name h r rest line is stop
closes Digits h r rest line is stop = closes_digits h r rest line is stop
closes Point h r rest line is stop = closes_point h r rest line is stop
closes Decimals h r rest line is stop = closes_decimals h r rest line is stop
closes Quoted h r rest line is stop = rw is.0 (closes_quoted r rest line is.1 stop)
closes Minus h r rest line is stop = rw (is.0, is.1) (single minus refl refl refl refl line rest refl (first_is_not (λ c. nat_eq c greater) rest refl stop))
closes Done h r rest line is stop = is.1 line rest
closes Slash h r rest line is stop = single slash refl refl refl refl line rest (first_is_not (λ c. nat_eq c slash) rest refl stop) refl
closes Comment h r rest line is stop = closes_comment r rest line is stop
