-- The tokens of a line are those that separators part, and no others.
use Rattle.std.proofs.Common.{◌≡◌, ◌≢◌, ℕ, ◌<◌, Bool, true, false, not, ◌||◌, ◌&&◌, List, [], ◌∷◌, ◌++◌, length, refl, sym, ap, ◌∙◌, append_assoc, inl, inr, arith, nat_eq, length-append}
use Rattle.std.specs.Prelude.{◌↔◌, slice_index}
use Rattle.std.specs.List.{list_all}
use Rattle.std.proofs.lemmas.Bool.{and_from, and_parts, cases_Bool, eqb-true, not-true, or_parts, or_left, or_right}
use Rattle.std.proofs.lemmas.List.{append-nil}
use Rattle.rv_text.specs.Bytes.{quote, hash}
use Rattle.rv_text.specs.Tokens.{Lexeme, Open, between, inside, quoting, is_blank, plain, in_quotes, tokens_from, tokens_of}
use Rattle.rv_text.specs.Separated.{is_separator, IsSeparated, IsPlain, IsQuoted, IsTokenAs, shown, IsComment, AreTokens}
use Rattle.rv_text.proofs.inside.Spelled.{list_all-push}

-- what was read of the token that is open
abbrev begun : Open → List ℕ
begun between = []
begun (inside bytes) = bytes
begun (quoting bytes) = quote ∷ bytes

record IsOpenPlain (quotes : Bool) (blanks bytes : List ℕ) : Type 0 where
  some : 0 < length bytes
  whole : list_all (λ c. not (is_separator blanks c)) bytes ≡ true
  unquoted : quotes ≡ true → slice_index bytes 0 ≢ quote

record IsOpenQuoted (quotes : Bool) (blanks bytes : List ℕ) : Type 0 where
  asked : quotes ≡ true
  opens : is_blank blanks quote ≡ false
  whole : list_all (λ c. not (nat_eq c quote)) bytes ≡ true

abbrev CanBeOpen : Bool → List ℕ → Open → Type 0
CanBeOpen quotes blanks between = Unit {0}
CanBeOpen quotes blanks (inside bytes) = IsOpenPlain quotes blanks bytes
CanBeOpen quotes blanks (quoting bytes) = IsOpenQuoted quotes blanks bytes

blank_before : (quotes : Bool) (blanks : List ℕ) (c : ℕ) (line : List ℕ) (ts : List Lexeme) → is_blank blanks c ≡ true
    → AreTokens quotes blanks line ts → AreTokens quotes blanks (c ∷ line) ts
blank_before quotes blanks c line [] e h =
    record { gap = c ∷ h.gap; rest = h.rest; blank = and_from _ _ e h.blank; line_is = ap (λ (xs : List ℕ). c ∷ xs) h.line_is; comment = h.comment }
blank_before quotes blanks c line (t ∷ ts) e h =
    let first = h.1 in
    (h.0, record { gap = c ∷ first.gap; blank = and_from _ _ e first.blank; line_is = ap (λ (xs : List ℕ). c ∷ xs) first.line_is; token = first.token }, h.2)

comment_alone : (quotes : Bool) (blanks : List ℕ) (c : ℕ) (cs : List ℕ) → is_blank blanks c ≡ false → nat_eq c hash ≡ true → AreTokens quotes blanks (c ∷ cs) []
comment_alone quotes blanks c cs e h = record { gap = []; rest = c ∷ cs; blank = refl; line_is = refl; comment = (eqb-true _ _ h, e) }

-- a plain token ends
plain_ends : (quotes : Bool) (blanks bytes rest : List ℕ) (ts : List Lexeme) → IsOpenPlain quotes blanks bytes → IsSeparated blanks rest
    → AreTokens quotes blanks rest ts → AreTokens quotes blanks (bytes ++ rest) (plain bytes ∷ ts)
plain_ends quotes blanks bytes rest ts o ends more =
    (rest, record { gap = []; blank = refl; line_is = refl; token = (refl, record { some = o.some; whole = o.whole; unquoted = o.unquoted; ends = ends }) }, more)

quoted_ends : (quotes : Bool) (blanks bytes rest : List ℕ) (closed : Bool) (ts : List Lexeme) → IsOpenQuoted quotes blanks bytes → (closed ≡ false → rest ≡ [])
    → AreTokens quotes blanks rest ts → AreTokens quotes blanks (shown (in_quotes bytes closed) ++ rest) (in_quotes bytes closed ∷ ts)
quoted_ends quotes blanks bytes rest closed ts o ends more =
    (rest, record { gap = []; blank = refl; line_is = refl; token = record { asked = o.asked; opens = o.opens; whole = o.whole; ends = ends } }, more)

neither : (a b : Bool) → a ≡ false → b ≡ false → not (a || b) ≡ true
neither a b e h = rw (e, h) refl

first_of_push : (bytes : List ℕ) (c : ℕ) → 0 < length bytes → slice_index (bytes ++ c ∷ []) 0 ≡ slice_index bytes 0
first_of_push [] c h = absurd (omega (arith, h))
first_of_push (b ∷ bytes) c h = refl

one_more : (quotes : Bool) (blanks bytes : List ℕ) (c : ℕ) → IsOpenPlain quotes blanks bytes → is_blank blanks c ≡ false → nat_eq c hash ≡ false
    → IsOpenPlain quotes blanks (bytes ++ c ∷ [])
one_more quotes blanks bytes c o e h = record {
  some = omega (arith, length-append bytes (c ∷ []));
  whole = list_all-push (λ c. not (is_separator blanks c)) bytes c o.whole (neither _ _ e h);
  unquoted = λ q same. o.unquoted q (sym (first_of_push bytes c o.some) ∙ same);
}

opens_plain : (quotes : Bool) (blanks : List ℕ) (c : ℕ) → is_blank blanks c ≡ false → nat_eq c hash ≡ false → (quotes && nat_eq c quote) ≡ false
    → IsOpenPlain quotes blanks (c ∷ [])
opens_plain quotes blanks c e h q = record {
  some = omega arith;
  whole = and_from _ _ (neither _ _ e h) refl;
  unquoted = λ asked same. (let t : nat_eq c quote ≡ true = rw same refl in let bad = rw (asked, t) at q in cc);
}

nothing_left : (quotes : Bool) (blanks : List ℕ) → AreTokens quotes blanks [] []
nothing_left quotes blanks = record { gap = []; rest = []; blank = refl; line_is = refl; comment = tt }

are_tokens : (quotes : Bool) (blanks : List ℕ) (o : Open) (line : List ℕ) → CanBeOpen quotes blanks o
    → AreTokens quotes blanks (begun o ++ line) (tokens_from quotes blanks o line)
are_tokens quotes blanks between [] h = nothing_left quotes blanks
are_tokens quotes blanks (inside bytes) [] h = plain_ends quotes blanks bytes [] [] h tt (nothing_left quotes blanks)
are_tokens quotes blanks (quoting bytes) [] h =
    rw (append-nil bytes) (rw (append-nil bytes, append-nil bytes) at (quoted_ends quotes blanks bytes [] false [] h (λ _. refl) (nothing_left quotes blanks)))
are_tokens quotes blanks between (c ∷ cs) h = elim (cases_Bool (is_blank blanks c)) [
  | inl e ↦ rw e (blank_before quotes blanks c cs _ e (are_tokens quotes blanks between cs tt))
  | inr e ↦ elim (cases_Bool (nat_eq c hash)) [
    | inl i ↦ rw (e, i) (comment_alone quotes blanks c cs e i)
    | inr i ↦ elim (cases_Bool (quotes && nat_eq c quote)) [
      | inl q ↦ (let t = and_parts quotes (nat_eq c quote) q in let is = eqb-true c quote t.1 in rw (e, i, q, is) (are_tokens quotes blanks (quoting []) cs (record { asked = t.0; opens = rw is at e; whole = refl })))
      | inr q ↦ rw (e, i, q) (are_tokens quotes blanks (inside (c ∷ [])) cs (opens_plain quotes blanks c e i q))
    ]
  ]
]
are_tokens quotes blanks (inside bytes) (c ∷ cs) h = elim (cases_Bool (is_blank blanks c)) [
  | inl e ↦ rw e (plain_ends quotes blanks bytes (c ∷ cs) _ h (or_left _ _ e) (blank_before quotes blanks c cs _ e (are_tokens quotes blanks between cs tt)))
  | inr e ↦ elim (cases_Bool (nat_eq c hash)) [
    | inl i ↦ rw (e, i) (plain_ends quotes blanks bytes (c ∷ cs) [] h (or_right _ _ i) (comment_alone quotes blanks c cs e i))
    | inr i ↦ rw (e, i, ← append_assoc bytes (c ∷ []) cs) (are_tokens quotes blanks (inside (bytes ++ c ∷ [])) cs (one_more quotes blanks bytes c h e i))
  ]
]
are_tokens quotes blanks (quoting bytes) (c ∷ cs) h = elim (cases_Bool (nat_eq c quote)) [
  | inl e ↦ (let is = eqb-true _ _ e in rw (e, is, ← append_assoc bytes (quote ∷ []) cs) (quoted_ends quotes blanks bytes cs true _ h (λ no. absurd cc) (are_tokens quotes blanks between cs tt)))
  | inr e ↦ rw (e, ← append_assoc bytes (c ∷ []) cs) (are_tokens quotes blanks (quoting (bytes ++ c ∷ [])) cs
      (record { asked = h.asked; opens = h.opens; whole = list_all-push (λ c. not (nat_eq c quote)) bytes c h.whole (rw e refl) }))
]

-- blanks stand before the tokens
after_gap : (quotes : Bool) (blanks gap rest : List ℕ) → list_all (is_blank blanks) gap ≡ true → tokens_of quotes blanks (gap ++ rest) ≡ tokens_of quotes blanks rest
after_gap quotes blanks [] rest h = refl
after_gap quotes blanks (c ∷ cs) rest h = let t = and_parts (is_blank blanks c) (list_all (is_blank blanks) cs) h in rw t.0 (after_gap quotes blanks cs rest t.1)

none_left : (quotes : Bool) (blanks rest : List ℕ) → IsComment blanks rest → tokens_of quotes blanks rest ≡ []
none_left quotes blanks [] h = refl
none_left quotes blanks (c ∷ cs) h = rw (h.1, h.0) refl

-- the bytes of a token without quotes
taken_inside : (quotes : Bool) (blanks begun bytes rest : List ℕ) → list_all (λ c. not (is_separator blanks c)) bytes ≡ true
    → tokens_from quotes blanks (inside begun) (bytes ++ rest) ≡ tokens_from quotes blanks (inside (begun ++ bytes)) rest
taken_inside quotes blanks begun [] rest h = rw (append-nil begun) refl
taken_inside quotes blanks begun (c ∷ cs) rest h =
    let t = and_parts (not (is_separator blanks c)) _ h in
    let f = or_parts (is_blank blanks c) (nat_eq c hash) (not-true _ t.0) in
    rw (f.0, f.1) (taken_inside quotes blanks (begun ++ c ∷ []) cs rest t.1 ∙ ap (λ (xs : List ℕ). tokens_from quotes blanks (inside xs) rest) (append_assoc begun (c ∷ []) cs))

-- after its bytes it ends
separated : (quotes : Bool) (blanks bytes rest : List ℕ) → IsSeparated blanks rest → tokens_from quotes blanks (inside bytes) rest ≡ plain bytes ∷ tokens_of quotes blanks rest
separated quotes blanks bytes [] h = refl
separated quotes blanks bytes (c ∷ cs) h = elim (cases_Bool (is_blank blanks c)) [
  | inl e ↦ rw e refl
  | inr e ↦ (let i : nat_eq c hash ≡ true = rw e at h in rw (e, i) refl)
]

not_both : (a b : Bool) → (a ≡ true → b ≡ true → ⊥) → (a && b) ≡ false
not_both false b h = refl
not_both true false h = refl
not_both true true h = absurd (h refl refl)

taken_plain : (quotes : Bool) (blanks bytes rest : List ℕ) → IsPlain quotes blanks bytes rest → tokens_of quotes blanks (bytes ++ rest) ≡ plain bytes ∷ tokens_of quotes blanks rest
taken_plain quotes blanks [] rest h = absurd (omega (arith, h.some))
taken_plain quotes blanks (c ∷ cs) rest h =
    let t = and_parts (not (is_separator blanks c)) _ h.whole in
    let f = or_parts (is_blank blanks c) (nat_eq c hash) (not-true _ t.0) in
    let q : (quotes && nat_eq c quote) ≡ false = not_both quotes (nat_eq c quote) (λ asked is. h.unquoted asked (eqb-true _ _ is)) in
    rw (f.0, f.1, q) (taken_inside quotes blanks (c ∷ []) cs rest t.1 ∙ separated quotes blanks (c ∷ cs) rest h.ends)

taken_quoting : (quotes : Bool) (blanks begun bytes rest : List ℕ) → list_all (λ c. not (nat_eq c quote)) bytes ≡ true
    → tokens_from quotes blanks (quoting begun) (bytes ++ rest) ≡ tokens_from quotes blanks (quoting (begun ++ bytes)) rest
taken_quoting quotes blanks begun [] rest h = rw (append-nil begun) refl
taken_quoting quotes blanks begun (c ∷ cs) rest h =
    let t = and_parts (not (nat_eq c quote)) _ h in
    rw (not-true _ t.0) (taken_quoting quotes blanks (begun ++ c ∷ []) cs rest t.1 ∙ ap (λ (xs : List ℕ). tokens_from quotes blanks (quoting xs) rest) (append_assoc begun (c ∷ []) cs))

opened : (quotes : Bool) (blanks rest : List ℕ) → quotes ≡ true → is_blank blanks quote ≡ false → tokens_of quotes blanks (quote ∷ rest) ≡ tokens_from quotes blanks (quoting []) rest
opened true blanks rest asked e = rw e refl
opened false blanks rest asked e = absurd cc

taken_quoted : (quotes : Bool) (blanks bytes : List ℕ) (closed : Bool) (rest : List ℕ) → IsQuoted quotes blanks bytes closed rest
    → tokens_of quotes blanks (shown (in_quotes bytes closed) ++ rest) ≡ in_quotes bytes closed ∷ tokens_of quotes blanks rest
taken_quoted quotes blanks bytes true rest h =
    opened quotes blanks ((bytes ++ quote ∷ []) ++ rest) h.asked h.opens
    ∙ ap (λ (xs : List ℕ). tokens_from quotes blanks (quoting []) xs) (append_assoc bytes (quote ∷ []) rest)
    ∙ taken_quoting quotes blanks [] bytes (quote ∷ rest) h.whole
taken_quoted quotes blanks bytes false rest h =
    rw (h.ends refl) (opened quotes blanks ((bytes ++ []) ++ []) h.asked h.opens
    ∙ ap (λ (xs : List ℕ). tokens_from quotes blanks (quoting []) xs) (append_assoc bytes [] [])
    ∙ taken_quoting quotes blanks [] bytes [] h.whole)

taken_as : (quotes : Bool) (blanks bytes : List ℕ) (quoted closed : Bool) (rest : List ℕ)
    → IsTokenAs quoted quotes blanks (record { bytes = bytes; quoted = quoted; closed = closed }) rest
    → tokens_of quotes blanks (shown (record { bytes = bytes; quoted = quoted; closed = closed }) ++ rest) ≡ record { bytes = bytes; quoted = quoted; closed = closed } ∷ tokens_of quotes blanks rest
taken_as quotes blanks bytes true closed rest h = taken_quoted quotes blanks bytes closed rest h
taken_as quotes blanks bytes false closed rest h = rw h.0 (taken_plain quotes blanks bytes rest h.1)

tokens_alone : (quotes : Bool) (blanks line : List ℕ) (ts : List Lexeme) → AreTokens quotes blanks line ts → ts ≡ tokens_of quotes blanks line
tokens_alone quotes blanks line [] h = rw (h.line_is, after_gap quotes blanks h.gap h.rest h.blank) (sym (none_left quotes blanks h.rest h.comment))
tokens_alone quotes blanks line (t ∷ ts) h =
    let first = h.1 in
    rw (first.line_is, after_gap quotes blanks first.gap (shown t ++ h.0) first.blank)
    (ap (λ (us : List Lexeme). t ∷ us) (tokens_alone quotes blanks h.0 ts h.2) ∙ sym (taken_as quotes blanks t.bytes t.quoted t.closed h.0 first.token))

pub AreTokens-tokens_of : (quotes : Bool) (blanks line : List ℕ) (ts : List Lexeme) → AreTokens quotes blanks line ts ↔ (ts ≡ tokens_of quotes blanks line)
AreTokens-tokens_of quotes blanks line ts = (tokens_alone quotes blanks line ts, λ e. rw e (are_tokens quotes blanks between line tt))
