-- Line by line a text gives what all of its lines give.
use Rattle.std.specs.Prelude.{◌≡◌, ℕ, ◌+◌, Bool, true, false, List, [], ◌∷◌, length, map, if◌then◌else◌, codes, Result, Ok, Err, refl}
use Rattle.std.specs.List.{list_any}
use Rattle.std.proofs.Common.{ap, add-zero, arith, ◌∙◌, sym}
use Rattle.rv_text.specs.declared.fault.TextFault.{TextFault}
use Rattle.rv_text.specs.Lines.{lines_of}
use Rattle.rv_text.specs.Tokens.{Lexeme, tokens_of}
use Rattle.rv_reader.specs.declared.text_refusal.TextRefusal.{TextRefusal}
use Rattle.rv_reader.specs.declared.text_refusal.TextRefusal.TheVariants as refusals
use Rattle.rv_reader.specs.declared.whole.Whole.{Whole}
use Rattle.rv_reader.specs.Rules.{Rules, ◌>>=◌, broken, on_line, lines_read, with_count, whole_of}
use Rattle.rv_reader.specs.Feeding.{faulted, text_as, object_of}
use Rattle.rv_gate.specs.Circuit.{Cascade}
use Rattle.rv_real.specs.declared.code.TheConstants as code
use Rattle.rv_real.specs.declared.fault.RealFault.{RealFault}
use Rattle.rv_real.specs.declared.fault.RealFault.TheVariants as faults
use Rattle.rv_real.specs.declared.line.State.{State}
use Rattle.rv_real.specs.declared.line.State.TheVariants as states
use Rattle.rv_real.specs.inside.Directives.{Header, no_directives}
use Rattle.rv_real.specs.Rules.{is_bare}
use Rattle.rv_real.specs.inside.HeaderSteps.{directive_of, begin_of}
use Rattle.rv_real.specs.inside.BodySteps.{with_body_line}
use Rattle.rv_real.specs.Reading.{token_lines, is_unclosed}
use Rattle.rv_real.specs.inside.LineByLine.{ruled, no_end, rest_of, body_of, header_of}
use Rattle.rv_real.specs.inside.State.{in_header, in_body, after_end, header_line, body_line, line_of, line_rules, end_in, end_of, as_fault, read_in}

-- one of two rules, each with what follows it
chosen : {A B : Type 0} (number : ℕ) (unclosed first : Bool) (a : Result A ℕ) (b : Result B ℕ) (left : A → State)
    (right : B → State) (next : State → Result Cascade TextFault)
    → (if first then (on_line number (broken unclosed code.UNCLOSED_QUOTE a) >>= λ x. next (left x))
    else (on_line number (broken unclosed code.UNCLOSED_QUOTE b) >>= λ y. next (right y)))
    ≡ (on_line number (broken unclosed code.UNCLOSED_QUOTE
    (if first then (a >>= λ x. Ok (left x)) else (b >>= λ y. Ok (right y)))) >>= next)
chosen number true true a b left right next = refl
chosen number true false a b left right next = refl
chosen number false true (Ok x) b left right next = refl
chosen number false true (Err e) b left right next = refl
chosen number false false a (Ok y) left right next = refl
chosen number false false a (Err e) left right next = refl

rest_fails : (number : ℕ) (unclosed : Bool) (next : State → Result Cascade TextFault)
    → on_line number (broken unclosed code.UNCLOSED_QUOTE (Err code.TEXT_AFTER_END))
    ≡ (on_line number (broken unclosed code.UNCLOSED_QUOTE (Err code.TEXT_AFTER_END)) >>= next)
rest_fails number true next = refl
rest_fails number false next = refl

read_line : (state : State) (before : ℕ) (ts : List Lexeme) (lines : List (List Lexeme))
    → (on_line (before + 1) (line_of state ts) >>= λ next. read_in next (before + 1) lines)
    ≡ read_in state before (ts ∷ lines)
unfolding line_of header_line body_line
read_line (states.Header h) before [] lines = refl
read_line (states.Gates c false) before [] lines = refl
read_line (states.Gates c true) before [] lines = refl
read_line (states.Header h) before (w ∷ ws) lines =
    sym (chosen (before + 1) (list_any is_unclosed (w ∷ ws)) (is_bare w (codes ".begin")) (begin_of h)
    (directive_of h w ws) in_body in_header (λ next. read_in next (before + 1) lines))
read_line (states.Gates c false) before (w ∷ ws) lines =
    sym (chosen (before + 1) (list_any is_unclosed (w ∷ ws)) (is_bare w (codes ".end")) (Ok c)
    (with_body_line c w ws) after_end in_body (λ next. read_in next (before + 1) lines))
read_line (states.Gates c true) before (w ∷ ws) lines =
    sym (rest_fails (before + 1) (list_any is_unclosed (w ∷ ws)) (λ next. read_in next (before + 1) lines))

no_lines : (state : State) (before : ℕ) → end_in state before ≡ read_in state before []
no_lines (states.Header h) before = refl
no_lines (states.Gates c false) before = refl
no_lines (states.Gates c true) before = refl

read_lines : (state : State) (before : ℕ) (lines : List (List ℕ))
    → (lines_read line_rules before state lines >>= λ next. end_in next (before + length lines))
    ≡ read_in state before (map (λ line. tokens_of true [] line) lines)
read_lines state before [] = ap (end_in state) (add-zero before) ∙ no_lines state before
read_lines state before (line ∷ lines) =
    elim (on_line (before + 1) (line_of state (tokens_of true [] line))) as (λ r.
    ((r >>= λ next. lines_read line_rules (before + 1) next lines)
    >>= λ next. end_in next (before + length (line ∷ lines)))
    ≡ (r >>= λ next. read_in next (before + 1) (map (λ line. tokens_of true [] line) lines))) [
      | Ok next ↦
          ap (λ k. lines_read line_rules (before + 1) next lines >>= λ last. end_in last k) (omega arith)
          ∙ read_lines next (before + 1) lines
      | Err fault ↦ refl
    ] ∙ read_line state before (tokens_of true [] line) (map (λ line. tokens_of true [] line) lines)

ended : (lines : ℕ) (r : Result State TextFault)
    → (faulted (text_as as_fault) (r >>= with_count lines) >>= end_of)
    ≡ faulted faults.Text (r >>= λ state. end_in state lines)
ended lines (Ok state) = refl
ended lines (Err fault) = refl

pub read_by_line : (text : List ℕ)
    → object_of line_rules as_fault end_of text ≡ faulted faults.Text (header_of no_directives 0 (token_lines text))
unfolding object_of whole_of
read_by_line text =
    ended (length (lines_of text)) (lines_read line_rules 0 (in_header no_directives) (lines_of text))
    ∙ ap (faulted faults.Text)
    (ap (λ k. lines_read line_rules 0 (in_header no_directives) (lines_of text) >>= λ state. end_in state k)
    (omega arith) ∙ read_lines (in_header no_directives) 0 (lines_of text))
