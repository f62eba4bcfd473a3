-- A line that gave a gate has no quote that isn't closed.
use Rattle.std.proofs.Common.{arith}
use Rattle.std.proofs.Common.{◌≡◌, ℕ, Bool, true, false, not, cond, ◌||◌, List, [], ◌∷◌, ◌++◌, Result, Ok, Err, codes, if◌then◌else◌, nat_eq, nat_lt, refl, ◌∙◌, length, inl, inr}
use Rattle.std.specs.List.{list_all, list_any}
use Rattle.std.proofs.lemmas.Bool.{and_parts, cases_Bool}
use Rattle.rv_text.specs.Bytes.{begins_with_dot}
use Rattle.rv_text.specs.Tokens.{Lexeme, Open, tokens_from, tokens_of, between, inside, quoting}
use Rattle.rv_gate.specs.Circuit.{Cascade}
use Rattle.rv_gate.specs.declared.gate.Shape.{Shape}
use Rattle.rv_reader.specs.declared.stop.Stop.{Stop}
use Rattle.rv_reader.specs.declared.stop.Stop.TheVariants as stops
use Rattle.rv_reader.specs.Gives.{Fails}
use Rattle.rv_reader.specs.Rules.{◌>>=◌, broken}
use Rattle.rv_real.specs.Rules.{in_order, is_bare}
use Rattle.rv_real.specs.Reading.{is_unclosed}
use Rattle.rv_real.specs.declared.code.TheConstants as code
use Rattle.rv_real.specs.declared.line.State.{State}
use Rattle.rv_real.specs.Body.{Operand, operand_of, with_operand, control_count, letter_of, operand_count, is_root_name, is_known, named_gate}
use Rattle.rv_real.specs.inside.BodySteps.{with_gate, with_named}
use Rattle.rv_real.specs.inside.State.{line_in, line_of, body_line, in_body}
use Rattle.rv_real.specs.inside.LineByLine.{ruled}

-- a token is closed, or has a quote
abbrev is_sound : Lexeme → Bool
is_sound token = token.quoted || token.closed

-- every token of a line is so, whatever is open
sound_from : (blanks line : List ℕ) (before : Open) → list_all is_sound (tokens_from true blanks before line) ≡ true
sound_from blanks [] between = refl
sound_from blanks [] (inside begun) = refl
sound_from blanks [] (quoting begun) = refl
sound_from blanks (c ∷ cs) between =
    let parted = sound_from blanks cs between in let quoted = sound_from blanks cs (quoting []) in let begun = sound_from blanks cs (inside (c ∷ [])) in
    grind (arith, parted, quoted, begun)
sound_from blanks (c ∷ cs) (inside begun) =
    let parted = sound_from blanks cs between in let longer = sound_from blanks cs (inside (begun ++ c ∷ [])) in grind (arith, parted, longer)
sound_from blanks (c ∷ cs) (quoting begun) =
    let parted = sound_from blanks cs between in let longer = sound_from blanks cs (quoting (begun ++ c ∷ [])) in grind (arith, parted, longer)

-- a token without quotes is closed
bare_closed : (w : Lexeme) → is_sound w ≡ true → w.quoted ≡ false → is_unclosed w ≡ false
bare_closed w sound bare = let closed : w.closed ≡ true = rw bare at sound in rw closed refl

-- operands are not quoted
operands_closed : (names : List (List ℕ)) (controls : ℕ) (so_far operands : List Operand) (ws : List Lexeme)
    → in_order (with_operand names controls) so_far ws ≡ Ok operands → list_all is_sound ws ≡ true → list_any is_unclosed ws ≡ false
operands_closed names controls so_far operands [] are sound = refl
operands_closed names controls so_far operands (w ∷ ws) are sound =
    let parts = and_parts (is_sound w) (list_all is_sound ws) sound in
    elim (cases_Bool w.quoted) [
      | inl quoted ↦ absurd (let bad = rw quoted at are in cc)
      | inr bare ↦ rw (bare_closed w parts.0 bare)
          (step (operand_of names (nat_lt (length so_far) controls) w) (λ o more. operands_closed names controls (so_far ++ o ∷ []) operands ws more parts.1) are)
    ]
  where
    step : (r : Result Operand ℕ) → ((o : Operand) → in_order (with_operand names controls) (so_far ++ o ∷ []) ws ≡ Ok operands → list_any is_unclosed ws ≡ false)
        → ((r >>= λ o. Ok (so_far ++ o ∷ [])) >>= λ next. in_order (with_operand names controls) next ws) ≡ Ok operands → list_any is_unclosed ws ≡ false
    step (Ok o) rest e = rest o e
    step (Err e) rest h = absurd cc

-- a gate that was given had operands
needs : (root unknown other : Bool) (a b d : ℕ) (r : Result (List Operand) ℕ) (more : List Operand → Result Shape ℕ) (last : Shape → Result Cascade ℕ) (next : Cascade)
    → (broken root a (broken unknown b (broken other d (r >>= more))) >>= last) ≡ Ok next → (operands : List Operand) × (r ≡ Ok operands)
needs root unknown other a b d r more last next h = grind arith

named_closed : (c next : Cascade) (name : List ℕ) (ws : List Lexeme) → with_named c name ws ≡ Ok next → list_all is_sound ws ≡ true → list_any is_unclosed ws ≡ false
unfolding named_gate
named_closed c next name ws gives sound =
    let had = needs (is_root_name name) (not (is_known name)) (not (nat_eq (length ws) (operand_count name))) _ _ _
    (in_order (with_operand c.names (control_count (letter_of name) (operand_count name))) [] ws) _ (with_gate c) next gives in
    operands_closed c.names _ [] had.0 ws had.1 sound

-- a line whose first token is no directive and not quoted
after_first : (quoted dot : Bool) (a b : ℕ) (r : Result Shape ℕ) (last : Shape → Result Cascade ℕ) (s : State)
    → ((broken quoted a (broken dot b r) >>= last) >>= λ next. Ok (in_body next)) ≡ Ok s → (quoted ≡ false) × ((next : Cascade) × ((r >>= last) ≡ Ok next))
after_first true dot a b r last s h = absurd cc
after_first false true a b r last s h = absurd cc
after_first false false a b r last s h = (refl, given (r >>= last) h)
  where
    given : (x : Result Cascade ℕ) → (x >>= λ next. Ok (in_body next)) ≡ Ok s → (next : Cascade) × (x ≡ Ok next)
    given (Ok next) h = (next, refl)
    given (Err e) h = absurd cc

-- a line of the body that gave a gate
gate_closed : (c next : Cascade) (w : Lexeme) (ws : List Lexeme) (line : List ℕ) → body_line c w ws ≡ Ok (in_body next) → tokens_of true [] line ≡ w ∷ ws
    → list_any is_unclosed (w ∷ ws) ≡ false
unfolding body_line
gate_closed c next w ws line gives is =
    let sound = and_parts (is_sound w) (list_all is_sound ws) (rw is at (sound_from [] line between)) in
    elim (cases_Bool (is_bare w (codes ".end"))) [
      | inl ends ↦ absurd (let bad = rw ends at gives in cc)
      | inr goes ↦
          (let gave = after_first w.quoted (begins_with_dot w.bytes) _ _ (named_gate c.names w.bytes ws) (with_gate c) _ (rw goes at gives) in
          rw (bare_closed w sound.0 gave.0) (named_closed c gave.1.0 w.bytes ws gave.1.1 sound.1))
    ]

-- the rules of a line whose quotes are closed
closed_rule : (ws : List Lexeme) (rules : Result State ℕ) → list_any is_unclosed ws ≡ false → ruled ws rules ≡ rules
closed_rule ws rules closed = rw closed refl

-- the first rule that a line breaks, where it breaks another one than that every quote is closed
first_rule : (ws : List Lexeme) (rules : Result State ℕ) (stop : Stop) → Fails stop rules
    → Fails (if list_any is_unclosed ws then stops.Fault code.UNCLOSED_QUOTE else stop) (ruled ws rules)
first_rule ws rules stop fails = elim (list_any is_unclosed ws) as (λ t. Fails (cond t (stops.Fault code.UNCLOSED_QUOTE) stop) (broken t code.UNCLOSED_QUOTE rules)) [
  | true ↦ refl
  | false ↦ fails
]

pub gate_line : (c next : Cascade) (w : Lexeme) (ws : List Lexeme) (line : List ℕ) → body_line c w ws ≡ Ok (in_body next) → tokens_of true [] line ≡ w ∷ ws
    → line_of (in_body c) (tokens_of true [] line) ≡ Ok (in_body next)
unfolding line_of
gate_line c next w ws line gives is = rw is (closed_rule (w ∷ ws) (body_line c w ws) (gate_closed c next w ws line gives is) ∙ gives)

pub refused_line : (state : State) (w : Lexeme) (ws : List Lexeme) (line : List ℕ) (stop : Stop) → Fails stop (line_in state w ws) → tokens_of true [] line ≡ w ∷ ws
    → Fails (if list_any is_unclosed (tokens_of true [] line) then stops.Fault code.UNCLOSED_QUOTE else stop) (line_of state (tokens_of true [] line))
unfolding line_of
refused_line state w ws line stop fails is = rw is (first_rule (w ∷ ws) (line_in state w ws) stop fails)
