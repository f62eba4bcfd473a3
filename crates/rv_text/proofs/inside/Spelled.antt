-- What is spelled is cut into the same lines and words again.
use Rattle.std.proofs.Common.{◌≡◌, ℕ, Bool, true, false, not, ◌||◌, ◌&&◌, List, [], ◌∷◌, ◌++◌, map, refl, sym, ap, ◌∙◌, append_assoc, arith, nat_eq}
use Rattle.std.specs.List.{list_all}
use Rattle.std.proofs.Math.Bool.{and-false}
use Rattle.std.proofs.lemmas.Bool.{and_from, and_parts, not-true, or_parts}
use Rattle.std.proofs.lemmas.List.{append-nil}
use Rattle.std.proofs.lemmas.List.Folds.{list_all-append}
use Rattle.rv_text.specs.Bytes.{line_feed, quote, hash}
use Rattle.rv_text.specs.Lines.{ended_after, begun_after, lines_of}
use Rattle.rv_text.specs.Tokens.{Lexeme, tokens_from, between, inside, quoting, is_blank, plain, in_quotes, tokens_of}
use Rattle.rv_text.specs.Spelled.{more_words, words_line, spelled, IsOneLine, written}
use Rattle.rv_text.specs.inside.Writable.{AreOneLine, AreLines, is_word_byte, IsPlainWord, ArePlainWords, is_quotable, CanStand, AreWritable}

-- bytes and one more
pub list_all-push : (p : ℕ → Bool) (bytes : List ℕ) (c : ℕ) → list_all p bytes ≡ true → p c ≡ true → list_all p (bytes ++ c ∷ []) ≡ true
list_all-push p bytes c h k = list_all-append p bytes (c ∷ []) ∙ and_from (list_all p bytes) (p c && true) h (and_from (p c) true k refl)

-- what each byte of some kind is
pub list_all-weaken : (p q : ℕ → Bool) → ((c : ℕ) → p c ≡ true → q c ≡ true) → (w : List ℕ) → list_all p w ≡ true → list_all q w ≡ true
list_all-weaken p q more [] h = refl
list_all-weaken p q more (c ∷ cs) h = let t = and_parts (p c) (list_all p cs) h in rw (more c t.0) (list_all-weaken p q more cs t.1)

nor : (a b : Bool) → not (a || b) ≡ true → (a ≡ false) × (b ≡ false)
nor a b h = or_parts a b (not-true (a || b) h)

-- what a byte of a word is not
record IsPlainByte (blanks : List ℕ) (c : ℕ) : Type 0 where
  no_blank : is_blank blanks c ≡ false
  no_hash : nat_eq c hash ≡ false
  no_quote : nat_eq c quote ≡ false
  no_end : nat_eq c line_feed ≡ false

plain_byte : (blanks : List ℕ) (c : ℕ) → is_word_byte blanks c ≡ true → IsPlainByte blanks c
plain_byte blanks c h =
    let a = nor ((is_blank blanks c || nat_eq c hash) || nat_eq c quote) (nat_eq c line_feed) h in
    let b = or_parts (is_blank blanks c || nat_eq c hash) (nat_eq c quote) a.0 in
    let d = or_parts (is_blank blanks c) (nat_eq c hash) b.0 in
    record { no_blank = d.0; no_hash = d.1; no_quote = b.1; no_end = a.1 }

-- bytes of one line stand before the line feed that ends them

pub ended_after-line : (begun w rest : List ℕ) → IsOneLine w → ended_after begun (w ++ (line_feed ∷ rest)) ≡ (begun ++ w) ∷ ended_after [] rest
ended_after-line begun [] rest h = ap (λ (l : List ℕ). l ∷ ended_after [] rest) (sym (append-nil begun))
ended_after-line begun (c ∷ cs) rest h =
    let t = and_parts (not (nat_eq c line_feed)) (list_all (λ c. not (nat_eq c line_feed)) cs) h in
    rw (not-true (nat_eq c line_feed) t.0) (ended_after-line (begun ++ c ∷ []) cs rest t.1 ∙ ap (λ (l : List ℕ). l ∷ ended_after [] rest) (append_assoc begun (c ∷ []) cs))

pub begun_after-line : (begun w rest : List ℕ) → IsOneLine w → begun_after begun (w ++ (line_feed ∷ rest)) ≡ begun_after [] rest
begun_after-line begun [] rest h = refl
begun_after-line begun (c ∷ cs) rest h =
    let t = and_parts (not (nat_eq c line_feed)) (list_all (λ c. not (nat_eq c line_feed)) cs) h in
    rw (not-true (nat_eq c line_feed) t.0) (begun_after-line (begun ++ c ∷ []) cs rest t.1)

IsOneLine-more_words : (ws : List (List ℕ)) → AreOneLine ws → IsOneLine (more_words ws)
IsOneLine-more_words [] h = refl
IsOneLine-more_words (w ∷ ws) h = list_all-append (λ c. not (nat_eq c line_feed)) w (more_words ws) ∙ and_from _ _ h.0 (IsOneLine-more_words ws h.1)

IsOneLine-words_line : (ws : List (List ℕ)) → AreOneLine ws → IsOneLine (words_line ws)
IsOneLine-words_line [] h = refl
IsOneLine-words_line (w ∷ ws) h = list_all-append (λ c. not (nat_eq c line_feed)) w (more_words ws) ∙ and_from _ _ h.0 (IsOneLine-more_words ws h.1)

ended_after-spelled : (lines : List (List (List ℕ))) → AreLines lines → ended_after [] (spelled lines) ≡ map words_line lines
ended_after-spelled [] h = refl
ended_after-spelled (ws ∷ lines) h = ended_after-line [] (words_line ws) (spelled lines) (IsOneLine-words_line ws h.0) ∙ ap (λ (ls : List (List ℕ)). words_line ws ∷ ls) (ended_after-spelled lines h.1)

begun_after-spelled : (lines : List (List (List ℕ))) → AreLines lines → begun_after [] (spelled lines) ≡ []
begun_after-spelled [] h = refl
begun_after-spelled (ws ∷ lines) h = begun_after-line [] (words_line ws) (spelled lines) (IsOneLine-words_line ws h.0) ∙ begun_after-spelled lines h.1

-- the lines of spelled lines are those lines
pub lines_of-spelled : (lines : List (List (List ℕ))) → AreLines lines → lines_of (spelled lines) ≡ map words_line lines
lines_of-spelled lines h = rw (begun_after-spelled lines h, ended_after-spelled lines h) (append-nil (map words_line lines))

-- words without quotes are bytes of one line
pub AreOneLine-plain : (blanks : List ℕ) (ws : List (List ℕ)) → ArePlainWords blanks ws → AreOneLine ws
AreOneLine-plain blanks [] h = tt
AreOneLine-plain blanks (w ∷ ws) h = (list_all-weaken (is_word_byte blanks) (λ c. not (nat_eq c line_feed)) (λ c k. rw ((plain_byte blanks c k).no_end) refl) w h.0.1, AreOneLine-plain blanks ws h.1)

-- the bytes of a word go into an open token
tokens_from-inside : (quotes : Bool) (blanks begun w rest : List ℕ) → list_all (is_word_byte blanks) w ≡ true → tokens_from quotes blanks (inside begun) (w ++ rest) ≡ tokens_from quotes blanks (inside (begun ++ w)) rest
tokens_from-inside quotes blanks begun [] rest h = ap (λ (xs : List ℕ). tokens_from quotes blanks (inside xs) rest) (sym (append-nil begun))
tokens_from-inside quotes blanks begun (c ∷ cs) rest h =
    let t = and_parts (is_word_byte blanks c) (list_all (is_word_byte blanks) cs) h in
    let f = plain_byte blanks c t.0 in
    rw (f.no_blank, f.no_hash) (tokens_from-inside quotes blanks (begun ++ c ∷ []) cs rest t.1 ∙ ap (λ (xs : List ℕ). tokens_from quotes blanks (inside xs) rest) (append_assoc begun (c ∷ []) cs))

-- a word is a token that its bytes open
tokens_from-word : (quotes : Bool) (blanks w rest : List ℕ) → IsPlainWord blanks w → tokens_from quotes blanks between (w ++ rest) ≡ tokens_from quotes blanks (inside w) rest
tokens_from-word quotes blanks [] rest h = absurd (omega (arith, h.0))
tokens_from-word quotes blanks (c ∷ cs) rest h =
    let t = and_parts (is_word_byte blanks c) (list_all (is_word_byte blanks) cs) h.1 in
    let f = plain_byte blanks c t.0 in
    rw (f.no_blank, f.no_hash, f.no_quote, and-false quotes) (tokens_from-inside quotes blanks (c ∷ []) cs rest t.1)

-- after a word stands nothing, or a space
tokens_from-ends : (quotes : Bool) (blanks w : List ℕ) (ws : List (List ℕ)) → tokens_from quotes blanks (inside w) (more_words ws) ≡ plain w ∷ tokens_of quotes blanks (words_line ws)
tokens_from-ends quotes blanks w [] = refl
tokens_from-ends quotes blanks w (v ∷ ws) = refl

-- the tokens of a line of words are the words
pub tokens_of-words_line : (quotes : Bool) (blanks : List ℕ) (ws : List (List ℕ)) → ArePlainWords blanks ws → tokens_of quotes blanks (words_line ws) ≡ map plain ws
tokens_of-words_line quotes blanks [] h = refl
tokens_of-words_line quotes blanks (w ∷ ws) h =
    tokens_from-word quotes blanks w (more_words ws) h.0 ∙ tokens_from-ends quotes blanks w ws ∙ ap (λ (ts : List Lexeme). plain w ∷ ts) (tokens_of-words_line quotes blanks ws h.1)

-- a quoted token reaches to its quote
tokens_from-quoting : (begun label rest : List ℕ) → list_all is_quotable label ≡ true → tokens_from true [] (quoting begun) ((label ++ quote ∷ []) ++ rest) ≡ in_quotes (begun ++ label) true ∷ tokens_from true [] between rest
tokens_from-quoting begun [] rest h = ap (λ (xs : List ℕ). in_quotes xs true ∷ tokens_from true [] between rest) (sym (append-nil begun))
tokens_from-quoting begun (c ∷ cs) rest h =
    let t = and_parts (is_quotable c) (list_all is_quotable cs) h in
    rw ((nor (nat_eq c quote) (nat_eq c line_feed) t.0).0) (tokens_from-quoting (begun ++ c ∷ []) cs rest t.1 ∙ ap (λ (xs : List ℕ). in_quotes xs true ∷ tokens_from true [] between rest) (append_assoc begun (c ∷ []) cs))

tokens_from-more_words : (ws : List (List ℕ)) → tokens_from true [] between (more_words ws) ≡ tokens_of true [] (words_line ws)
tokens_from-more_words [] = refl
tokens_from-more_words (w ∷ ws) = refl

written_first : (bytes : List ℕ) (quoted closed : Bool) (ws : List (List ℕ)) → closed ≡ true → CanStand quoted bytes
    → tokens_of true [] (words_line (written (record { bytes = bytes; quoted = quoted; closed = closed }) ∷ ws)) ≡ record { bytes = bytes; quoted = quoted; closed = closed } ∷ tokens_of true [] (words_line ws)
written_first bytes quoted false ws is h = absurd cc
written_first bytes true true ws is h = tokens_from-quoting [] bytes (more_words ws) h ∙ ap (λ (ts : List Lexeme). in_quotes bytes true ∷ ts) (tokens_from-more_words ws)
written_first bytes false true ws is h = tokens_from-word true [] bytes (more_words ws) h ∙ tokens_from-ends true [] bytes ws

-- the tokens of a line of written tokens are those tokens
pub tokens_of-written : (ts : List Lexeme) → AreWritable ts → tokens_of true [] (words_line (map written ts)) ≡ ts
tokens_of-written [] h = refl
tokens_of-written (t ∷ ts) h = written_first t.bytes t.quoted t.closed (map written ts) h.0.0 h.0.1 ∙ ap (λ (us : List Lexeme). t ∷ us) (tokens_of-written ts h.1)

written_one_line : (bytes : List ℕ) (quoted closed : Bool) → CanStand quoted bytes → IsOneLine (written (record { bytes = bytes; quoted = quoted; closed = closed }))
written_one_line bytes true closed h = list_all-push (λ c. not (nat_eq c line_feed)) bytes quote (list_all-weaken is_quotable (λ c. not (nat_eq c line_feed)) (λ c k. rw ((nor (nat_eq c quote) (nat_eq c line_feed) k).1) refl) bytes h) refl
written_one_line bytes false closed h = list_all-weaken (is_word_byte []) (λ c. not (nat_eq c line_feed)) (λ c k. rw ((plain_byte [] c k).no_end) refl) bytes h.1

-- written tokens are bytes of one line
pub AreOneLine-written : (ts : List Lexeme) → AreWritable ts → AreOneLine (map written ts)
AreOneLine-written [] h = tt
AreOneLine-written (t ∷ ts) h = (written_one_line t.bytes t.quoted t.closed h.0.1, AreOneLine-written ts h.1)
