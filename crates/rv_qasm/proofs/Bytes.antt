-- Bytes that a token takes, and the one after it.
use Rattle.std.proofs.Common.{◌≡◌, ℕ, suc, ◌+◌, Bool, true, false, not, ◌&&◌, ◌||◌, List, [], ◌∷◌, ◌++◌, length, take, drop, get_or, refl, sym, ap, ◌∙◌, arith, nat_eq}
use Rattle.std.specs.List.{list_all, prefix_len}
use Rattle.std.specs.Char.{is_ascii_digit}
use Rattle.std.proofs.lemmas.Bool.{and_parts, not-true, not-false, eqb-true, both_ways, ne_eqb}
use Rattle.rv_text.specs.Bytes.{line_feed, quote, dot}
use Rattle.rv_text.specs.Tokens.{is_blank}
use Rattle.rv_qasm.specs.Tokens.{number_length, string_length}

-- a byte that passes a test isn't one that doesn't
pub differs : (p : ℕ → Bool) (c k : ℕ) → p c ≡ true → p k ≡ false → nat_eq c k ≡ false
differs p c k h e = ne_eqb c k (λ same. both_ways (p k) e (sym (ap p same) ∙ h))

pub differs_back : (p : ℕ → Bool) (c k : ℕ) → p c ≡ true → p k ≡ false → nat_eq k c ≡ false
differs_back p c k h e = ne_eqb k c (λ same. both_ways (p k) e (ap p same ∙ h))

pub no_blank : (p : ℕ → Bool) (c : ℕ) → p c ≡ true → p 32 ≡ false → p 9 ≡ false → p 13 ≡ false → p 10 ≡ false → is_blank (line_feed ∷ []) c ≡ false
no_blank p c h space tab return feed = rw (differs p c 32 h space, differs p c 9 h tab, differs p c 13 h return, differs_back p c 10 h feed) refl

-- whether bytes begin with none that passes
abbrev pub stops : (ℕ → Bool) → List ℕ → Bool
stops p [] = true
stops p (c ∷ cs) = not (p c)

pub prefix_stops : (p : ℕ → Bool) (r rest : List ℕ) → list_all p r ≡ true → stops p rest ≡ true → prefix_len p (r ++ rest) ≡ length r
prefix_stops p [] [] all stop = refl
prefix_stops p [] (c ∷ cs) all stop = rw (not-true (p c) stop) refl
prefix_stops p (c ∷ r) rest all stop = let t = and_parts (p c) (list_all p r) all in rw t.0 (omega (arith, prefix_stops p r rest t.1 stop))

pub drop_front : (r rest : List ℕ) → drop (length r) (r ++ rest) ≡ rest
drop_front [] rest = refl
drop_front (c ∷ r) rest = drop_front r rest

pub take_front : (r rest : List ℕ) → take (length r) (r ++ rest) ≡ r
take_front [] rest = refl
take_front (c ∷ r) rest = ap (λ l. c ∷ l) (take_front r rest)

-- a number that only digits are part of
pub whole_number : (w rest : List ℕ) → list_all is_ascii_digit w ≡ true → stops is_ascii_digit rest ≡ true
    → (nat_eq (get_or rest 0 0) dot && is_ascii_digit (get_or rest 1 0)) ≡ false → number_length (w ++ rest) ≡ length w
whole_number w rest all stop alone = rw (prefix_stops is_ascii_digit w rest all stop, drop_front w rest, alone) refl

-- and one with a dot
pub number_with_dot : (w : List ℕ) (d : ℕ) (ds rest : List ℕ) → list_all is_ascii_digit w ≡ true → is_ascii_digit d ≡ true → list_all is_ascii_digit ds ≡ true → stops is_ascii_digit rest ≡ true
    → number_length (w ++ dot ∷ d ∷ (ds ++ rest)) ≡ length w + 1 + suc (length ds)
number_with_dot w d ds rest all digit digits stop =
    rw (prefix_stops is_ascii_digit w (dot ∷ d ∷ (ds ++ rest)) all refl, drop_front w (dot ∷ d ∷ (ds ++ rest)), digit, prefix_stops is_ascii_digit ds rest digits stop) (omega arith)

-- a string with its closing quote, and one without it
pub closed_string : (r rest : List ℕ) → list_all (λ c. not (nat_eq c quote || nat_eq c line_feed)) r ≡ true → string_length (r ++ quote ∷ rest) ≡ length r + 1
closed_string r rest all = rw (prefix_stops (λ c. not (nat_eq c quote || nat_eq c line_feed)) r (quote ∷ rest) all refl, drop_front r (quote ∷ rest)) refl

pub unclosed_string : (r rest : List ℕ) → list_all (λ c. not (nat_eq c quote || nat_eq c line_feed)) r ≡ true → stops (λ c. not (nat_eq c line_feed)) rest ≡ true → string_length (r ++ rest) ≡ length r
unclosed_string r rest h h1 = grind (arith, prefix_stops, line_feed, drop_front, eqb-true, not-false, not-true)
