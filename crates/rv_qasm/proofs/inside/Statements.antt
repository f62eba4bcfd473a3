-- The statements that the lexer cuts are those of the text.
use Rattle.std.proofs.Common.{◌≡◌, ℕ, suc, Bool, true, false, cond, ◌||◌, inl, inr, List, [], ◌∷◌, ◌++◌, map, length, codes, bytes_eq, refl, sym, ap, subst, ◌∙◌, arith, nat_eq, append_assoc}
use Rattle.std.specs.Char.{is_ascii_digit}
use Rattle.std.proofs.lemmas.Bool.{not-true, not_from_false, eqb-true, ne_eqb, or_cases, both_ways}
use Rattle.std.proofs.lemmas.List.{append-nil}
use Rattle.rv_text.specs.Bytes.{line_feed, quote, dot}
use Rattle.rv_text.specs.Tokens.{is_blank}
use Rattle.rv_text.proofs.inside.Spelled.{list_all-push}
use Rattle.rv_qasm.specs.Tokens.{TokenOnLine, minus, greater, slash, begins_name, is_in_name, line_after, tokens_after, qasm_tokens}
use Rattle.rv_qasm.specs.Statements.{statement_of, ended_statements, unended_tokens, statements_of, unended_in, unended_of}
use Rattle.rv_qasm.specs.inside.Flat.{with_byte}
use Rattle.rv_qasm.specs.inside.Lexing.{Begun, semicolon, begun_on, goes_on, continued, with_nothing_open, opened, with_first, statement_at, ended_by, begun_by, at_the_end, unended_at}
use Rattle.rv_qasm.specs.declared.lexer.Mode.{Mode}
use Rattle.rv_qasm.specs.declared.lexer.Mode.TheVariants.{Between, Name, Digits, Point, Decimals, Quoted, Minus, Done, Slash, Comment}
use Rattle.rv_qasm.proofs.Bytes.{differs}
use Rattle.rv_qasm.proofs.inside.Closing.{on_its_line, in_line, in_string, text_of, shown, closed, IsOpen, single, string_token, arrow_token, closes}

-- the line of the first token, if there is one
abbrev IsFirst : ℕ → List TokenOnLine → Type 0
IsFirst first [] = Unit {0}
IsFirst first (token ∷ tokens) = first ≡ token.line

-- a statement that was begun has these tokens, and this text is open
record Opened (b : Begun) (begun : List TokenOnLine) (text : List ℕ) : Type 0 where
  head : ℕ
  rest : List ℕ
  tokens : b.tokens ≡ map (λ token. token.bytes) (begun ++ shown b.mode b.line head rest)
  first : IsFirst b.first (begun ++ shown b.mode b.line head rest)
  is_open : IsOpen b.mode head rest
  text_is : text ≡ text_of b.mode head rest

-- a statement has these tokens
pub record Has (b : Begun) (all : List TokenOnLine) : Type 0 where
  tokens : b.tokens ≡ map (λ token. token.bytes) all
  first : IsFirst b.first all

map-more : (begun : List TokenOnLine) (line : ℕ) (bytes : List ℕ) (c : ℕ) → with_byte (map (λ token. token.bytes) (begun ++ on_its_line line bytes ∷ [])) c ≡ map (λ token. token.bytes) (begun ++ on_its_line line (bytes ++ c ∷ []) ∷ [])
map-more [] line bytes c = refl
map-more (t ∷ []) line bytes c = refl
map-more (t ∷ u ∷ begun) line bytes c = ap (λ l. t.bytes ∷ l) (map-more (u ∷ begun) line bytes c)

first-more : (begun : List TokenOnLine) (first line : ℕ) (old new : List ℕ) → IsFirst first (begun ++ on_its_line line old ∷ []) → IsFirst first (begun ++ on_its_line line new ∷ [])
first-more [] first line old new is = is
first-more (t ∷ begun) first line old new is = is

map-new : (begun : List TokenOnLine) (line : ℕ) (bytes : List ℕ) → map (λ token. token.bytes) begun ++ bytes ∷ [] ≡ map (λ token. token.bytes) (begun ++ on_its_line line bytes ∷ [])
map-new [] line bytes = refl
map-new (t ∷ begun) line bytes = ap (λ l. t.bytes ∷ l) (map-new begun line bytes)

first-new : (begun : List TokenOnLine) (first line : ℕ) (bytes : List ℕ) → IsFirst first begun
    → IsFirst (cond (nat_eq (length (map (λ token. token.bytes) begun)) 0) line first) (begun ++ on_its_line line bytes ∷ [])
first-new [] first line bytes is = refl
first-new (t ∷ begun) first line bytes is = rw (ne_eqb (suc (length (map (λ token. token.bytes) begun))) 0 (λ same. omega (arith, same))) is

-- ---- a byte that belongs to what is open

-- an open token takes a byte
takes : (tokens : List (List ℕ)) (first line : ℕ) (begun : List TokenOnLine) (h : ℕ) (r : List ℕ) (c : ℕ)
    → tokens ≡ map (λ token. token.bytes) (begun ++ on_its_line line (h ∷ r) ∷ []) → with_byte tokens c ≡ map (λ token. token.bytes) (begun ++ on_its_line line (h ∷ (r ++ c ∷ [])) ∷ [])
takes tokens first line begun h r c is = ap (λ l. with_byte l c) is ∙ map-more begun line (h ∷ r) c

grown : (tokens : List (List ℕ)) (first line : ℕ) (new : Mode) (begun : List TokenOnLine) (text : List ℕ) (h : ℕ) (r : List ℕ) (c : ℕ)
    → ((r : List ℕ) → shown new line h r ≡ on_its_line line (h ∷ r) ∷ []) → ((r : List ℕ) → text_of new h r ≡ h ∷ r)
    → tokens ≡ map (λ token. token.bytes) (begun ++ on_its_line line (h ∷ r) ∷ []) → IsFirst first (begun ++ on_its_line line (h ∷ r) ∷ []) → text ≡ h ∷ r → IsOpen new h (r ++ c ∷ [])
    → Opened (record { tokens = with_byte tokens c; first = first; line = line; mode = new }) begun (text ++ c ∷ [])
grown tokens first line new begun text h r c s t is is_first text_is stays = record {
  head = h;
  rest = r ++ c ∷ [];
  tokens = rw (s (r ++ c ∷ [])) (takes tokens first line begun h r c is);
  first = rw (s (r ++ c ∷ [])) (first-more begun first line (h ∷ r) (h ∷ (r ++ c ∷ [])) is_first);
  is_open = stays;
  text_is = rw (t (r ++ c ∷ [])) (ap (λ l. l ++ c ∷ []) text_is);
}

digit_left : (c : ℕ) → (is_ascii_digit c || nat_eq c dot) ≡ true → nat_eq c dot ≡ false → is_ascii_digit c ≡ true
digit_left c on other = elim (or_cases (is_ascii_digit c) (nat_eq c dot) on) [ inl digit ↦ digit | inr is_dot ↦ absurd (both_ways (nat_eq c dot) other is_dot) ]

digits_grow : (tokens : List (List ℕ)) (first line : ℕ) (begun : List TokenOnLine) (text : List ℕ) (c : ℕ) (t : Bool) → nat_eq c dot ≡ t
    → Opened (record { tokens = tokens; first = first; line = line; mode = Digits }) begun text → goes_on Digits c ≡ true
    → Opened (cond t (record { tokens = tokens; first = first; line = line; mode = Point }) (record { tokens = with_byte tokens c; first = first; line = line; mode = Digits })) begun (text ++ c ∷ [])
digits_grow tokens first line begun text c true e o on = record {
  head = o.head;
  rest = o.rest;
  tokens = o.tokens;
  first = o.first;
  is_open = o.is_open;
  text_is = ap (λ l. l ++ c ∷ []) o.text_is ∙ ap (λ k. o.head ∷ (o.rest ++ k ∷ [])) (eqb-true c dot e);
}
digits_grow tokens first line begun text c false e o on =
    grown tokens first line Digits begun text o.head o.rest c (λ r. refl) (λ r. refl) o.tokens o.first o.text_is (o.is_open.0, list_all-push is_ascii_digit o.rest c o.is_open.1 (digit_left c on e))

quoted_grow : (tokens : List (List ℕ)) (first line : ℕ) (begun : List TokenOnLine) (text : List ℕ) (c : ℕ) (t : Bool) → nat_eq c quote ≡ t
    → Opened (record { tokens = tokens; first = first; line = line; mode = Quoted }) begun text → goes_on Quoted c ≡ true
    → Opened (record { tokens = with_byte tokens c; first = first; line = line; mode = cond t Done Quoted }) begun (text ++ c ∷ [])
quoted_grow tokens first line begun text c true e o on =
    grown tokens first line Done begun text o.head o.rest c (λ r. refl) (λ r. refl) o.tokens o.first o.text_is (rw (o.is_open.0, eqb-true c quote e) (refl, string_token o.rest o.is_open.1))
quoted_grow tokens first line begun text c false e o on = grind (arith, grown, list_all-push, in_string, not-true, nat_eq)

grows : (tokens : List (List ℕ)) (first line : ℕ) (mode : Mode) (begun : List TokenOnLine) (text : List ℕ) (c : ℕ) → let b : Begun = record { tokens = tokens; first = first; line = line; mode = mode } in
    Opened b begun text → goes_on mode c ≡ true → Opened (continued b mode c) begun (text ++ c ∷ [])
grows tokens first line Between begun text c o on = absurd cc
grows tokens first line Done begun text c o on = absurd cc
grows tokens first line Name begun text c o on =
    grown tokens first line Name begun text o.head o.rest c (λ r. refl) (λ r. refl) o.tokens o.first o.text_is (o.is_open.0, list_all-push is_in_name o.rest c o.is_open.1 on)
grows tokens first line Digits begun text c o on = digits_grow tokens first line begun text c (nat_eq c dot) refl o on
grows tokens first line Point begun text c o on =
    grown (with_byte tokens dot) first line Decimals begun text o.head (o.rest ++ dot ∷ []) c (λ r. refl) (λ r. refl) (takes tokens first line begun o.head o.rest dot o.tokens)
    (first-more begun first line (o.head ∷ o.rest) (o.head ∷ (o.rest ++ dot ∷ [])) o.first) o.text_is
    (o.is_open.0, record { whole = o.rest; first = c; others = []; is = append_assoc o.rest (dot ∷ []) (c ∷ []); digits = o.is_open.1; digit = on; more = refl })
grows tokens first line Decimals begun text c o on =
    let d = o.is_open.1 in
    grown tokens first line Decimals begun text o.head o.rest c (λ r. refl) (λ r. refl) o.tokens o.first o.text_is (
      o.is_open.0,
      record {
        whole = d.whole;
        first = d.first;
        others = d.others ++ c ∷ [];
        is = ap (λ l. l ++ c ∷ []) d.is ∙ append_assoc d.whole (dot ∷ d.first ∷ d.others) (c ∷ []);
        digits = d.digits;
        digit = d.digit;
        more = list_all-push is_ascii_digit d.others c d.more on;
      },
    )
grows tokens first line Quoted begun text c o on = quoted_grow tokens first line begun text c (nat_eq c quote) refl o on
grows tokens first line Minus begun text c o on =
    grown tokens first line Done begun text o.head o.rest c (λ r. refl) (λ r. refl) o.tokens o.first o.text_is (rw (o.is_open.0, o.is_open.1, eqb-true c greater on) (refl, arrow_token))
grows tokens first line Slash begun text c o on = record {
  head = 0;
  rest = [];
  tokens = o.tokens;
  first = o.first;
  is_open = refl;
  text_is = ap (λ l. l ++ c ∷ []) o.text_is ∙ ap (λ k. slash ∷ k ∷ []) (eqb-true c slash on);
}
grows tokens first line Comment begun text c o on = record {
  head = 0;
  rest = o.rest ++ c ∷ [];
  tokens = o.tokens;
  first = o.first;
  is_open = list_all-push in_line o.rest c o.is_open on;
  text_is = ap (λ l. l ++ c ∷ []) o.text_is;
}

-- ---- nothing is open

adds : (tokens : List (List ℕ)) (first line : ℕ) (mode : Mode) (all : List TokenOnLine) (bytes : List ℕ) → tokens ≡ map (λ token. token.bytes) all → IsFirst first all
    → Has (record { tokens = tokens ++ bytes ∷ []; first = cond (nat_eq (length tokens) 0) line first; line = line; mode = mode }) (all ++ on_its_line line bytes ∷ [])
adds tokens first line mode all bytes is is_first = record {
  tokens = ap (λ l. l ++ bytes ∷ []) is ∙ map-new all line bytes;
  first = rw is (first-new all first line bytes is_first);
}

nothing_open : (tokens : List (List ℕ)) (first line : ℕ) (mode : Mode) (begun : List TokenOnLine) (text : List ℕ) → let b : Begun = record { tokens = tokens; first = first; line = line; mode = mode } in
    (o : Opened b begun text) → Has (with_nothing_open b mode) (begun ++ closed mode line o.head o.rest)
nothing_open tokens first line Between begun text o = record { tokens = o.tokens; first = o.first }
nothing_open tokens first line Name begun text o = record { tokens = o.tokens; first = o.first }
nothing_open tokens first line Digits begun text o = record { tokens = o.tokens; first = o.first }
nothing_open tokens first line Decimals begun text o = record { tokens = o.tokens; first = o.first }
nothing_open tokens first line Quoted begun text o = record { tokens = o.tokens; first = o.first }
nothing_open tokens first line Minus begun text o = record { tokens = o.tokens; first = o.first }
nothing_open tokens first line Done begun text o = record { tokens = o.tokens; first = o.first }
nothing_open tokens first line Comment begun text o = record { tokens = o.tokens; first = o.first }
nothing_open tokens first line Point begun text o =
    subst (Has (record { tokens = tokens ++ (dot ∷ []) ∷ []; first = cond (nat_eq (length tokens) 0) line first; line = line; mode = Between })) (append_assoc begun (on_its_line line (o.head ∷ o.rest) ∷ []) (on_its_line line (dot ∷ []) ∷ []))
    (adds tokens first line Between (begun ++ on_its_line line (o.head ∷ o.rest) ∷ []) (dot ∷ []) o.tokens o.first)
nothing_open tokens first line Slash begun text o =
    subst (Has (record { tokens = tokens ++ (slash ∷ []) ∷ []; first = cond (nat_eq (length tokens) 0) line first; line = line; mode = Between })) (append_assoc begun [] (on_its_line line (slash ∷ []) ∷ []))
    (adds tokens first line Between (begun ++ []) (slash ∷ []) o.tokens o.first)

pub with_nothing_open-mode : (b : Begun) (mode : Mode) → with_nothing_open b mode ≡ record { tokens = (with_nothing_open b mode).tokens; first = (with_nothing_open b mode).first; line = b.line; mode = Between }
with_nothing_open-mode b mode = grind arith

-- no token is open after these
free : (tokens : List (List ℕ)) (first line : ℕ) (all : List TokenOnLine) → tokens ≡ map (λ token. token.bytes) all → IsFirst first all
    → Opened (record { tokens = tokens; first = first; line = line; mode = Between }) all []
free tokens first line all is is_first = record { head = 0; rest = []; tokens = rw (append-nil all) is; first = rw (append-nil all) is_first; is_open = tt; text_is = refl }

slashed : (tokens : List (List ℕ)) (first line : ℕ) (all : List TokenOnLine) → tokens ≡ map (λ token. token.bytes) all → IsFirst first all
    → Opened (record { tokens = tokens; first = first; line = line; mode = Slash }) all (slash ∷ [])
slashed tokens first line all is is_first = record { head = 0; rest = []; tokens = rw (append-nil all) is; first = rw (append-nil all) is_first; is_open = tt; text_is = refl }

module _ (tokens : List (List ℕ)) (first line : ℕ) (all : List TokenOnLine) (is : tokens ≡ map (λ token. token.bytes) all) (is_first : IsFirst first all) (c : ℕ)
    (blank : is_blank (line_feed ∷ []) c ≡ false) (no_slash : nat_eq c slash ≡ false) (no_end : nat_eq c semicolon ≡ false) where
  opens : (name digit string dash : Bool) → begins_name c ≡ name → is_ascii_digit c ≡ digit → nat_eq c quote ≡ string → nat_eq c minus ≡ dash
      → Opened (record { tokens = tokens ++ (c ∷ []) ∷ []; first = cond (nat_eq (length tokens) 0) line first; line = line; mode = cond name Name (cond digit Digits (cond string Quoted (cond dash Minus Done))) }) all (c ∷ [])
  opens true digit string dash n d q m = let a = adds tokens first line Name all (c ∷ []) is is_first in record { head = c; rest = []; tokens = a.tokens; first = a.first; is_open = (n, refl); text_is = refl }
  opens false true string dash n d q m = let a = adds tokens first line Digits all (c ∷ []) is is_first in record { head = c; rest = []; tokens = a.tokens; first = a.first; is_open = (d, refl); text_is = refl }
  opens false false true dash n d q m = let a = adds tokens first line Quoted all (c ∷ []) is is_first in record { head = c; rest = []; tokens = a.tokens; first = a.first; is_open = (eqb-true c quote q, refl); text_is = refl }
  opens false false false true n d q m = let a = adds tokens first line Minus all (c ∷ []) is is_first in record { head = c; rest = []; tokens = a.tokens; first = a.first; is_open = (eqb-true c minus m, refl); text_is = refl }
  opens false false false false n d q m = let a = adds tokens first line Done all (c ∷ []) is is_first in record {
    head = c;
    rest = [];
    tokens = a.tokens;
    first = a.first;
    is_open = (no_end, λ line rest. single c blank n d q line rest (rw no_slash refl) (rw m refl));
    text_is = refl;
  }

-- ---- statements

-- what the lexer makes of bytes is what these tokens are
record Cut (b : Begun) (cs : List ℕ) (begun ts : List TokenOnLine) : Type 0 where
  ended : ended_by b cs ≡ ended_statements begun ts
  unended : Has (with_nothing_open (begun_by b cs) (begun_by b cs).mode) (unended_tokens begun ts)

no_semicolon : (h : ℕ) (r : List ℕ) → nat_eq h semicolon ≡ false → bytes_eq (h ∷ r) (codes ";") ≡ false
no_semicolon h r other = rw other refl

moves_one : (b : Begun) (cs : List ℕ) (begun ts : List TokenOnLine) (line : ℕ) (h : ℕ) (r : List ℕ) → nat_eq h semicolon ≡ false
    → Cut b cs (begun ++ on_its_line line (h ∷ r) ∷ []) ts → Cut b cs begun (on_its_line line (h ∷ r) ∷ ts)
unfolding ended_statements unended_tokens
moves_one b cs begun ts line h r other cut = record {
  ended = rw (no_semicolon h r other) cut.ended;
  unended = rw (no_semicolon h r other) cut.unended;
}

moves : (mode : Mode) (line h : ℕ) (r : List ℕ) → IsOpen mode h r → (b : Begun) (cs : List ℕ) (begun ts : List TokenOnLine)
    → Cut b cs (begun ++ closed mode line h r) ts → Cut b cs begun (closed mode line h r ++ ts)
moves Between line h r is b cs begun ts cut = subst (λ l. Cut b cs l ts) (append-nil begun) cut
moves Comment line h r is b cs begun ts cut = subst (λ l. Cut b cs l ts) (append-nil begun) cut
moves Name line h r is b cs begun ts cut = moves_one b cs begun ts line h r (differs begins_name h semicolon is.0 refl) cut
moves Digits line h r is b cs begun ts cut = moves_one b cs begun ts line h r (differs is_ascii_digit h semicolon is.0 refl) cut
moves Decimals line h r is b cs begun ts cut = moves_one b cs begun ts line h r (differs is_ascii_digit h semicolon is.0 refl) cut
moves Quoted line h r is b cs begun ts cut = moves_one b cs begun ts line h r (rw is.0 refl) cut
moves Minus line h r is b cs begun ts cut = moves_one b cs begun ts line h r (rw is.0 refl) cut
moves Done line h r is b cs begun ts cut = moves_one b cs begun ts line h r is.0 cut
moves Slash line h r is b cs begun ts cut = moves_one b cs begun ts line slash [] refl cut
moves Point line h r is b cs begun ts cut =
    moves_one b cs begun (on_its_line line (dot ∷ []) ∷ ts) line h r (differs is_ascii_digit h semicolon is.0 refl)
    (moves_one b cs (begun ++ on_its_line line (h ∷ r) ∷ []) ts line dot [] refl
    (subst (λ l. Cut b cs l ts) (sym (append_assoc begun (on_its_line line (h ∷ r) ∷ []) (on_its_line line (dot ∷ []) ∷ []))) cut))

goes : (b : Begun) (c : ℕ) (cs : List ℕ) (begun ts : List TokenOnLine) → goes_on b.mode c ≡ true → Cut (continued b b.mode c) cs begun ts → Cut b (c ∷ cs) begun ts
unfolding ended_by begun_by
goes b c cs begun ts on cut = record { ended = rw on cut.ended; unended = rw on cut.unended }

-- the first token's line, as the lexer keeps it
statement_has : (s : Begun) (all : List TokenOnLine) → Has s all → statement_at s ≡ statement_of all s.line
statement_has s all h = grind arith

stops_here : (b : Begun) (c : ℕ) (cs : List ℕ) (begun : List TokenOnLine) → goes_on b.mode c ≡ false → nat_eq c semicolon ≡ true
    → Has (with_nothing_open b b.mode) begun → Cut (begun_on b.line) cs [] (tokens_after 0 b.line cs) → Cut b (c ∷ cs) begun (tokens_after 0 b.line (c ∷ cs))
unfolding ended_by begun_by ended_statements unended_tokens
stops_here b c cs begun off is_end has cut = grind (arith, on_its_line, eqb-true, single, statement_has, with_nothing_open-mode)

begins : (b : Begun) (c : ℕ) (cs : List ℕ) (begun ts : List TokenOnLine) → goes_on b.mode c ≡ false → nat_eq c semicolon ≡ false
    → Cut (with_first (with_nothing_open b b.mode) c) cs begun ts → Cut b (c ∷ cs) begun ts
unfolding ended_by begun_by
begins b c cs begun ts off no_end cut = record { ended = rw (off, no_end) cut.ended; unended = rw (off, no_end) cut.unended }

pub continued-line : (b : Begun) (mode : Mode) (c : ℕ) → (continued b mode c).line ≡ b.line
continued-line b mode c = grind arith

-- these bytes are cut, whatever is open
abbrev AreCut : List ℕ → Type 0
AreCut cs = (b : Begun) (begun : List TokenOnLine) (text : List ℕ) → Opened b begun text → Cut b cs begun (tokens_after 0 b.line (text ++ cs))

blank_skipped : (c : ℕ) (cs : List ℕ) (line : ℕ) → is_blank (line_feed ∷ []) c ≡ true → tokens_after 0 line (c ∷ cs) ≡ tokens_after 0 (line_after line c) cs
unfolding tokens_after
blank_skipped c cs line e = rw e refl

module _ (c : ℕ) (cs : List ℕ) (ih : AreCut cs) (tokens : List (List ℕ)) (first line : ℕ) (all : List TokenOnLine) (is : tokens ≡ map (λ token. token.bytes) all) (is_first : IsFirst first all) where
  first_opens : nat_eq c semicolon ≡ false → is_blank (line_feed ∷ []) c ≡ false → (t : Bool) → nat_eq c slash ≡ t
      → Cut (cond t (record { tokens = tokens; first = first; line = line; mode = Slash }) (record { tokens = tokens ++ (c ∷ []) ∷ []; first = cond (nat_eq (length tokens) 0) line first; line = line; mode = opened c })) cs all (tokens_after 0 line (c ∷ cs))
  first_opens no_end blank true e = rw (eqb-true c slash e) (ih (record { tokens = tokens; first = first; line = line; mode = Slash }) all (slash ∷ []) (slashed tokens first line all is is_first))
  first_opens no_end blank false e =
      ih (record { tokens = tokens ++ (c ∷ []) ∷ []; first = cond (nat_eq (length tokens) 0) line first; line = line; mode = opened c }) all (c ∷ [])
      (opens tokens first line all is is_first c blank e no_end (begins_name c) (is_ascii_digit c) (nat_eq c quote) (nat_eq c minus) refl refl refl refl)

  first_byte : nat_eq c semicolon ≡ false → (t : Bool) → is_blank (line_feed ∷ []) c ≡ t
      → Cut (with_first (record { tokens = tokens; first = first; line = line; mode = Between }) c) cs all (tokens_after 0 line (c ∷ cs))
  first_byte no_end true e =
      subst (Cut (with_first (record { tokens = tokens; first = first; line = line; mode = Between }) c) cs all) (sym (blank_skipped c cs line e))
      (rw e (ih (record { tokens = tokens; first = first; line = line_after line c; mode = Between }) all [] (free tokens first (line_after line c) all is is_first)))
  first_byte no_end false e = rw e (first_opens no_end e (nat_eq c slash) refl)

ends_or_begins : (c : ℕ) (cs : List ℕ) → AreCut cs → (b : Begun) (begun : List TokenOnLine) → goes_on b.mode c ≡ false → Has (with_nothing_open b b.mode) begun → (t : Bool) → nat_eq c semicolon ≡ t
    → Cut b (c ∷ cs) begun (tokens_after 0 b.line (c ∷ cs))
ends_or_begins c cs ih b begun off has true e = stops_here b c cs begun off e has (ih (begun_on b.line) [] [] (free [] 0 b.line [] refl tt))
ends_or_begins c cs ih b begun off has false e =
    begins b c cs begun (tokens_after 0 b.line (c ∷ cs)) off e
    (rw (with_nothing_open-mode b b.mode) (first_byte c cs ih (with_nothing_open b b.mode).tokens (with_nothing_open b b.mode).first b.line begun has.tokens has.first e (is_blank (line_feed ∷ []) c) refl))

one_more : (c : ℕ) (cs : List ℕ) → AreCut cs → (b : Begun) (begun : List TokenOnLine) (text : List ℕ) → Opened b begun text → (t : Bool) → goes_on b.mode c ≡ t → Cut b (c ∷ cs) begun (tokens_after 0 b.line (text ++ c ∷ cs))
one_more c cs ih b begun text o true e =
    let same : tokens_after 0 (continued b b.mode c).line ((text ++ c ∷ []) ++ cs) ≡ tokens_after 0 b.line (text ++ c ∷ cs) =
    ap (λ line. tokens_after 0 line ((text ++ c ∷ []) ++ cs)) (continued-line b b.mode c) ∙ ap (tokens_after 0 b.line) (append_assoc text (c ∷ []) cs) in
    goes b c cs begun (tokens_after 0 b.line (text ++ c ∷ cs)) e
    (subst (Cut (continued b b.mode c) cs begun) same (ih (continued b b.mode c) begun (text ++ c ∷ []) (grows b.tokens b.first b.line b.mode begun text c o e)))
one_more c cs ih b begun text o false e =
    let same : tokens_after 0 b.line (text ++ c ∷ cs) ≡ closed b.mode b.line o.head o.rest ++ tokens_after 0 b.line (c ∷ cs) =
    ap (λ l. tokens_after 0 b.line (l ++ c ∷ cs)) o.text_is ∙ closes b.mode o.head o.rest (c ∷ cs) b.line o.is_open (not_from_false (goes_on b.mode c) e) in
    subst (Cut b (c ∷ cs) begun) (sym same)
    (moves b.mode b.line o.head o.rest o.is_open b (c ∷ cs) begun (tokens_after 0 b.line (c ∷ cs))
    (ends_or_begins c cs ih b (begun ++ closed b.mode b.line o.head o.rest) e (nothing_open b.tokens b.first b.line b.mode begun text o) (nat_eq c semicolon) refl))

cuts : (cs : List ℕ) → AreCut cs
unfolding ended_by begun_by ended_statements unended_tokens tokens_after
cuts [] b begun text o =
    let same : tokens_after 0 b.line (text ++ []) ≡ closed b.mode b.line o.head o.rest ++ [] =
    ap (λ l. tokens_after 0 b.line (l ++ [])) o.text_is ∙ closes b.mode o.head o.rest [] b.line o.is_open refl in
    subst (Cut b [] begun) (sym same) (moves b.mode b.line o.head o.rest o.is_open b [] begun [] (record { ended = refl; unended = nothing_open b.tokens b.first b.line b.mode begun text o }))
cuts (c ∷ cs) b begun text o = one_more c cs (cuts cs) b begun text o (goes_on b.mode c) refl

-- the statements of bytes from a line on
pub statements_from : (line : ℕ) (text : List ℕ) → ended_by (begun_on line) text ≡ ended_statements [] (tokens_after 0 line text)
statements_from line text = (cuts text (begun_on line) [] [] (free [] 0 line [] refl tt)).ended

-- the statements of a text
pub statements_cut : (text : List ℕ) → ended_by (begun_on 1) text ≡ statements_of text
unfolding qasm_tokens
statements_cut text = statements_from 1 text

unended_has : (s : Begun) (all : List TokenOnLine) → Has s all → unended_at s ≡ unended_in all
unended_has s all h = grind arith

-- and its last one, if it lacks its `;`
pub unended_cut : (text : List ℕ) → unended_at (at_the_end (begun_by (begun_on 1) text)) ≡ unended_of text
unfolding qasm_tokens
unended_cut text = unended_has (at_the_end (begun_by (begun_on 1) text)) (unended_tokens [] (tokens_after 0 1 text)) (cuts text (begun_on 1) [] [] (free [] 0 1 [] refl tt)).unended
