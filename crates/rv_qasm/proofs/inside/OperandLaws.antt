-- RegisterOperands from their tokens.
use Rattle.std.proofs.Common.{◌≡◌, ℕ, suc, ◌+◌, ◌-◌, ◌<◌, ◌≤◌, ◌≢◌, Bool, true, false, not, List, [], ◌∷◌, ◌++◌, length, take, drop, slice_get, slice_range, Option, Some, None, Result, Ok, Err, nat_eq, ◌||◌, length-append, refl, sym, ap, ◌∙◌, arith, append_assoc, codes, add-one, drop-cons, length-take, length-drop, IfSome, option_map, is_some}
use Rattle.std.proofs.lemmas.Slice.Eq.{bytes_eq-Decides}
use Rattle.std.proofs.lemmas.Bool.{and_parts, cases_lt, le-ltb, lt-ltb, ne_eqb, or_parts}
use Rattle.std.proofs.lemmas.Option.{get_or_from_slice_get, slice_get_within}
use Rattle.std.proofs.lemmas.List.{drop_all, drop-drop, take_all}
use Rattle.std.proofs.lemmas.List.Splits.{slice_split_first}
use Rattle.std.specs.List.{slice_split, position_or_len, before_first, list_any}
use Rattle.std.proofs.lemmas.List.Folds.{list_any_at, list_any_more}
use Rattle.std.specs.Str.{bytes_eq}
use Rattle.rv_text.specs.Decimal.{is_decimal}
use Rattle.rv_qasm.specs.declared.operands.RegisterOperand.{RegisterOperand as Held}
use Rattle.rv_qasm.specs.inside.Views.{named}
use Rattle.rv_qasm.specs.Tokens.{is_string, is_open_string, is_identifier}
use Rattle.rv_qasm.specs.Registers.{RegisterOperand, is_indexed, is_token, register_operand, operands_in, declaration_of, with_first_operand}
use Rattle.rv_qasm.specs.Rules.{SoFar, looked_at}
use Rattle.rv_qasm.specs.inside.Parts.{looked_on, parts_at, after_comma}
use Rattle.rv_qasm.specs.declared.code.TheConstants.{WRONG_OPERAND_COUNT, WRONG_SYNTAX}
use Rattle.rv_reader.specs.Gives.{StepGives}
use Rattle.rv_reader.specs.Rules.{◌>>=◌, broken, found_or}
use Rattle.rv_reader.specs.declared.stop.Stop.{Stop}

-- the operands of tokens after those that were found
abbrev pub with_all : List RegisterOperand → Option (List RegisterOperand) → Option (List RegisterOperand)
with_all done None = None
with_all done (Some others) = Some (done ++ others)

with_all_more : (done : List RegisterOperand) (operand : RegisterOperand) (others : Option (List RegisterOperand))
    → with_all done (with_first_operand (Some operand) others) ≡ with_all (done ++ operand ∷ []) others
with_all_more done operand None = refl
with_all_more done operand (Some others) = ap Some (sym (append_assoc done (operand ∷ []) others))

-- tokens that are neither one nor four are no operand
pub no_operand : (tokens : List (List ℕ)) → length tokens ≢ 1 → length tokens ≢ 4 → register_operand tokens ≡ None
no_operand tokens h h1 = grind arith

pub no_declaration : (tokens : List (List ℕ)) → length tokens ≢ 4 → declaration_of tokens ≡ None
no_declaration tokens h = grind arith

-- the token at a place is the first from there on
pub token_first : (tokens : List (List ℕ)) (at next : ℕ) (token : List ℕ) → slice_get tokens at ≡ Some token → next ≡ at + 1 → drop at tokens ≡ token ∷ drop next tokens
token_first tokens at next token is e =
    let lt = slice_get_within tokens at token is in
    rw (drop-cons tokens at token lt, get_or_from_slice_get tokens at token token is, e, add-one) refl

-- tokens to a place after the first of them
pub range_first : (tokens : List (List ℕ)) (at next to : ℕ) (token : List ℕ) → slice_get tokens at ≡ Some token → next ≡ at + 1 → at < to
    → slice_range tokens at to ≡ token ∷ slice_range tokens next to
range_first tokens at next to token is e lt = grind (arith, token_first)

pub range_none : (tokens : List (List ℕ)) (at : ℕ) → slice_range tokens at at ≡ []
range_none tokens at = let none : at - at ≡ 0 = omega arith in rw none refl

pub length-slice_range : (tokens : List (List ℕ)) (from to : ℕ) → from ≤ to → to ≤ length tokens → length (slice_range tokens from to) ≡ to - from
length-slice_range tokens from to order within = simp (length-take, length-drop) (omega arith)

-- one token, and four
pub range_of_one : (tokens : List (List ℕ)) (from to : ℕ) (a : List ℕ) → to ≡ from + 1 → slice_get tokens from ≡ Some a → slice_range tokens from to ≡ a ∷ []
range_of_one tokens from to a e is = range_first tokens from to to a is e (omega arith) ∙ ap (λ (rest : List (List ℕ)). a ∷ rest) (range_none tokens to)

pub range_of_four : (tokens : List (List ℕ)) (from to : ℕ) (a b c d : List ℕ) → to ≡ from + 4
    → slice_get tokens from ≡ Some a → slice_get tokens (from + 1) ≡ Some b → slice_get tokens (from + 2) ≡ Some c → slice_get tokens (from + 3) ≡ Some d
    → slice_range tokens from to ≡ a ∷ b ∷ c ∷ d ∷ []
range_of_four tokens from to a b c d e at_a at_b at_c at_d = grind (arith, range_first, range_none)

pub drop_of_four : (tokens : List (List ℕ)) (from : ℕ) (a b c d : List ℕ) → length tokens ≡ from + 4
    → slice_get tokens from ≡ Some a → slice_get tokens (from + 1) ≡ Some b → slice_get tokens (from + 2) ≡ Some c → slice_get tokens (from + 3) ≡ Some d
    → drop from tokens ≡ a ∷ b ∷ c ∷ d ∷ []
drop_of_four tokens from a b c d len at_a at_b at_c at_d = grind (arith, token_first, drop_all)

-- ---- the first mark from a place on

pub position_on : (p : List ℕ → Bool) (tokens : List (List ℕ)) (at : ℕ) (token : List ℕ) → slice_get tokens at ≡ Some token → not (p token) ≡ true
    → position_or_len p (drop at tokens) ≡ 1 + position_or_len p (drop (at + 1) tokens)
position_on p tokens at token is other = rw (token_first tokens at (at + 1) token is (omega arith), other) refl

pub position_next : (p : List ℕ → Bool) (tokens : List (List ℕ)) (at next : ℕ) (token : List ℕ) → slice_get tokens at ≡ Some token → next ≡ at + 1 → p token ≡ false
    → position_or_len p (drop at tokens) ≡ 1 + position_or_len p (drop next tokens)
position_next p tokens at next token is e other = rw (token_first tokens at next token is e, other) refl

pub position_here : (p : List ℕ → Bool) (tokens : List (List ℕ)) (at : ℕ) (token : List ℕ) → slice_get tokens at ≡ Some token → not (p token) ≡ false
    → position_or_len p (drop at tokens) ≡ 0
position_here p tokens at token is same = rw (token_first tokens at (at + 1) token is (omega arith), same) refl

pub position_past : (p : List ℕ → Bool) (tokens : List (List ℕ)) (at : ℕ) → length tokens ≤ at → position_or_len p (drop at tokens) ≡ 0
position_past p tokens at past = rw (drop_all at tokens past) refl

pub when_some : {X P : Type 0} (r : Option X) → P → IfSome r (λ _. P)
when_some None p = tt
when_some (Some x) p = p

not_comma : (token : List ℕ) → ¬ (token ≡ codes ",") → is_token (codes ",") token ≡ false
not_comma token other = grind (arith, is_token, bytes_eq-Decides)

-- a token of `NAME[N]` is no comma
no_comma : (a b c d : List ℕ) (operand : RegisterOperand) → register_operand (a ∷ b ∷ c ∷ d ∷ []) ≡ Some operand
    → (is_token (codes ",") a ≡ false) × (is_token (codes ",") b ≡ false) × (is_token (codes ",") c ≡ false) × (is_token (codes ",") d ≡ false)
no_comma a b c d operand is = grind (arith, is_indexed, is_decimal, register_operand, is_token, is_some, and_parts, is_identifier, bytes_eq, not_comma, bytes_eq-Decides)

-- the first comma after `NAME[N]` follows it at once, where a comma or the end does
pub indexed_first : (tokens : List (List ℕ)) (at : ℕ) (a b c d : List ℕ) (r : Option Held)
    → slice_get tokens at ≡ Some a → slice_get tokens (at + 1) ≡ Some b → slice_get tokens (at + 2) ≡ Some c → slice_get tokens (at + 3) ≡ Some d
    → option_map named r ≡ register_operand (a ∷ b ∷ c ∷ d ∷ []) → position_or_len (is_token (codes ",")) (drop (at + 4) tokens) ≡ 0
    → IfSome r (λ _. at + 4 ≡ at + position_or_len (is_token (codes ",")) (drop at tokens))
indexed_first tokens at a b c d None at_a at_b at_c at_d is follows = tt
indexed_first tokens at a b c d (Some held) at_a at_b at_c at_d is follows = grind (arith, no_comma, codes, position_next)

-- ---- operands with commas between them

split_last : (p : List ℕ → Bool) (tokens : List (List ℕ)) → position_or_len p tokens ≡ length tokens → slice_split p tokens ≡ tokens ∷ []
split_last p [] e = refl
split_last p (token ∷ tokens) e = by (p token) refl (split_last p tokens)
  where
    by : (b : Bool) → p token ≡ b → (position_or_len p tokens ≡ length tokens → slice_split p tokens ≡ tokens ∷ []) → slice_split p (token ∷ tokens) ≡ (token ∷ tokens) ∷ []
    by true t rest = let f = rw t at e in absurd (omega (arith, f))
    by false t rest = let f = rw t at e in rw (t, rest (omega (arith, f))) refl

before_range : (p : List ℕ → Bool) (tokens : List (List ℕ)) (at to : ℕ) → to ≡ at + position_or_len p (drop at tokens) → before_first p (drop at tokens) ≡ slice_range tokens at to
before_range p tokens at to e = let n : to - at ≡ position_or_len p (drop at tokens) = omega arith in rw n refl

-- a part, and those after it
pub part_first : (tokens : List (List ℕ)) (at to : ℕ) → to ≡ at + position_or_len (is_token (codes ",")) (drop at tokens) → at ≤ length tokens → to ≤ length tokens
    → parts_at (Some at) tokens ≡ slice_range tokens at to ∷ parts_at (after_comma (length tokens) to) tokens
part_first tokens at to e within most = grind (arith, cases_lt, position_or_len, is_token, length-drop, drop-drop, slice_split_first, before_range, lt-ltb, slice_range, take_all, split_last, le-ltb)

pub parts_follow : (tokens : List (List ℕ)) (next after : Option ℕ) (at to : ℕ) (operand : Option RegisterOperand) → next ≡ Some at → IfSome next (λ at. at ≤ length tokens)
    → to ≡ at + position_or_len (is_token (codes ",")) (drop at tokens) → to ≤ length tokens → operand ≡ register_operand (slice_range tokens at to)
    → after ≡ after_comma (length tokens) to → operands_in (parts_at next tokens) ≡ with_first_operand operand (operands_in (parts_at after tokens))
parts_follow tokens next after at to operand here within e most is follows = grind (arith, part_first)

-- how many tokens are left
abbrev pub left_from : Option ℕ → ℕ → ℕ
left_from None count = 0
left_from (Some at) count = suc count - at

pub place_within : (count comma : ℕ) (after : Option ℕ) → after ≡ after_comma count comma → IfSome after (λ at. at ≤ count)
place_within count comma after is = grind arith

-- ---- the operands of a gate

-- at most `size` operands, and the rest of them
abbrev pub exactly : ℕ → List RegisterOperand → Bool → Option (List RegisterOperand) → Result (List RegisterOperand) ℕ
exactly size held is_more rest = found_or WRONG_SYNTAX (with_all held rest) >>= λ all. broken (is_more || not (nat_eq (length all) size)) WRONG_OPERAND_COUNT (Ok all)

pub exactly_more : (size : ℕ) (held next : List RegisterOperand) (operand : RegisterOperand) (is_more after : Bool) (rest : Option (List RegisterOperand))
    → next ≡ held ++ operand ∷ [] → after ≡ is_more → exactly size held is_more (with_first_operand (Some operand) rest) ≡ exactly size next after rest
exactly_more size held next operand is_more after rest is same = grind (arith, found_or, WRONG_SYNTAX, WRONG_OPERAND_COUNT, with_all_more)

pub exactly_beyond : (size : ℕ) (held next : List RegisterOperand) (operand : RegisterOperand) (is_more after : Bool) (rest : Option (List RegisterOperand)) → size ≤ length held
    → next ≡ held → after ≡ true → exactly size held is_more (with_first_operand (Some operand) rest) ≡ exactly size next after rest
exactly_beyond size held next operand is_more after rest h h1 h2 = grind (arith, ne_eqb, length-append)

-- ---- operands that are looked at

abbrev pub then_looked : SoFar → Result SoFar ℕ → Option (List RegisterOperand) → Result SoFar ℕ
then_looked so_far seen rest = found_or WRONG_SYNTAX rest >>= λ others. seen >>= λ _. looked_at so_far others

-- what was found in operands, and those that are left
pub record LooksOn (so_far : SoFar) (found : Result (Unit {0}) Stop) (rest : Option (List RegisterOperand)) (want : Result SoFar ℕ) : Type 0 where
  pub seen : Result SoFar ℕ
  pub is_seen : StepGives found so_far seen
  pub leads : want ≡ then_looked so_far seen rest

then_more : (so_far : SoFar) (seen : Result SoFar ℕ) (operand : RegisterOperand) (rest : Option (List RegisterOperand))
    → then_looked so_far seen (with_first_operand (Some operand) rest) ≡ then_looked so_far (looked_on so_far seen operand) rest
then_more so_far seen operand rest = grind arith

pub looks_more : (so_far : SoFar) (found next : Result (Unit {0}) Stop) (operand : RegisterOperand) (others rest : Option (List RegisterOperand)) (want : Result SoFar ℕ)
    → others ≡ with_first_operand (Some operand) rest → ((seen : Result SoFar ℕ) → StepGives found so_far seen → StepGives next so_far (looked_on so_far seen operand))
    → LooksOn so_far found others want → LooksOn so_far next rest want
looks_more so_far found next operand others rest want is look so = record {
  seen = looked_on so_far so.seen operand;
  is_seen = look so.seen so.is_seen;
  leads = so.leads ∙ ap (then_looked so_far so.seen) is ∙ then_more so_far so.seen operand rest;
}

pub looks_wrong : (so_far : SoFar) (found : Result (Unit {0}) Stop) (others : Option (List RegisterOperand)) (want : Result SoFar ℕ)
    → others ≡ None → LooksOn so_far found others want → want ≡ Err WRONG_SYNTAX
looks_wrong so_far found others want is so = so.leads ∙ ap (then_looked so_far so.seen) is

-- ---- strings without a closing quote

pub any_here : (p : List ℕ → Bool) (tokens : List (List ℕ)) (i : ℕ) (token : List ℕ) → slice_get tokens i ≡ Some token → p token ≡ true → list_any p tokens ≡ true
any_here p tokens i token is passes =
    list_any_at p tokens i token (slice_get_within tokens i token is) (ap p (get_or_from_slice_get tokens i token token is) ∙ passes)

pub any_more : (p : List ℕ → Bool) (tokens : List (List ℕ)) (i : ℕ) (token : List ℕ) → slice_get tokens i ≡ Some token → p token ≡ false
    → list_any p (take i tokens) ≡ false → list_any p (take (i + 1) tokens) ≡ false
any_more p tokens i token is fails none =
    list_any_more p tokens i token (slice_get_within tokens i token is) ∙ rw (none, get_or_from_slice_get tokens i token token is, fails) refl

-- where no token is a string
pub none_unclosed : (tokens : List (List ℕ)) → list_any is_string tokens ≡ false → list_any is_open_string tokens ≡ false
none_unclosed [] none = refl
none_unclosed (token ∷ tokens) none = let i0 = none_unclosed tokens in grind (arith, i0, or_parts)
