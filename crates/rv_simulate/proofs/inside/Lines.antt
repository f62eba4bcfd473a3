-- Lines of words, their answers and the first wrong one, as a text grows.
use Rattle.std.proofs.Common.{◌≡◌, ◌∙◌, ℕ, suc, ◌+◌, true, false, cond, List, [], ◌∷◌, ◌++◌, length, Option, Some, None, Ok, Err, refl, ap, sym, subst, arith, append_assoc, nat_eq}
use Rattle.std.specs.List.{list_all}
use Rattle.std.specs.Option.{is_none}
use Rattle.std.proofs.lemmas.List.{append-nil, length-append}
use Rattle.rv_io.specs.Sink.{GrewByPrefix}
use Rattle.rv_io.proofs.Sent.{prefix_longer}
use Rattle.rv_text.specs.Bytes.{line_feed}
use Rattle.rv_text.specs.Lines.{begun_after, ended_after}
use Rattle.rv_text.proofs.Cuts.{begun_after-append, ended_after-append}
use Rattle.rv_simulate.specs.Simulation.{answer_and_rest, answers_to, is_bit, wrong_line}
use Rattle.rv_simulate.specs.inside.Answering.{Answering, AnswersLines}
use Rattle.rv_simulate.specs.inside.WordLine.{StandsForLine, WordLine, after_byte, after_bytes, unread}
use Rattle.rv_simulate.proofs.inside.Bits.{bit_no_feed, number-after_byte, stands_next, stands_unread}
use Rattle.std.proofs.lemmas.Bool.{and_parts}

-- after lines that are all right
pub wrong_line-append : (answer : Answering) (number : ℕ) (lines more : List (List ℕ)) → wrong_line answer number lines ≡ None
    → wrong_line answer number (lines ++ more) ≡ wrong_line answer (number + length lines) more
wrong_line-append answer number [] more h = let e : number ≡ number + 0 = omega arith in ap (λ n. wrong_line answer n more) e
wrong_line-append answer number (line ∷ lines) more h =
    elim (answer line) as (λ o. cond (is_none o) (Some number) (wrong_line answer (number + 1) lines) ≡ None
    → cond (is_none o) (Some number) (wrong_line answer (number + 1) (lines ++ more)) ≡ wrong_line answer (number + suc (length lines)) more) [
      | None ↦ λ h. absurd cc
      | Some text ↦ λ h.
          let e : number + 1 + length lines ≡ number + suc (length lines) = omega arith in
          wrong_line-append answer (number + 1) lines more h ∙ ap (λ n. wrong_line answer n more) e
    ] h

-- after a wrong line
pub wrong_line-prefix : (answer : Answering) (number found : ℕ) (lines more : List (List ℕ)) → wrong_line answer number lines ≡ Some found → wrong_line answer number (lines ++ more) ≡ Some found
wrong_line-prefix answer number found [] more h = absurd cc
wrong_line-prefix answer number found (line ∷ lines) more h =
    elim (answer line) as (λ o. cond (is_none o) (Some number) (wrong_line answer (number + 1) lines) ≡ Some found
    → cond (is_none o) (Some number) (wrong_line answer (number + 1) (lines ++ more)) ≡ Some found) [
      | None ↦ λ h. h
      | Some text ↦ λ h. wrong_line-prefix answer (number + 1) found lines more h
    ] h

pub answers_to-append : (answer : Answering) (number : ℕ) (lines more : List (List ℕ)) → wrong_line answer number lines ≡ None
    → answers_to answer (lines ++ more) ≡ answers_to answer lines ++ answers_to answer more
answers_to-append answer number [] more h = refl
answers_to-append answer number (line ∷ lines) more h =
    elim (answer line) as (λ o. cond (is_none o) (Some number) (wrong_line answer (number + 1) lines) ≡ None
    → answer_and_rest o (answers_to answer (lines ++ more)) ≡ answer_and_rest o (answers_to answer lines) ++ answers_to answer more) [
      | None ↦ λ h. absurd cc
      | Some text ↦ λ h. ap (λ rest. text ++ rest) (answers_to-append answer (number + 1) lines more h) ∙ sym (append_assoc text (answers_to answer lines) (answers_to answer more))
    ] h

pub answers_to-prefix : (answer : Answering) (number found : ℕ) (lines more : List (List ℕ)) → wrong_line answer number lines ≡ Some found
    → answers_to answer (lines ++ more) ≡ answers_to answer lines
answers_to-prefix answer number found [] more h = absurd cc
answers_to-prefix answer number found (line ∷ lines) more h =
    elim (answer line) as (λ o. cond (is_none o) (Some number) (wrong_line answer (number + 1) lines) ≡ Some found
    → answer_and_rest o (answers_to answer (lines ++ more)) ≡ answer_and_rest o (answers_to answer lines)) [
      | None ↦ λ h. refl
      | Some text ↦ λ h. ap (λ rest. text ++ rest) (answers_to-prefix answer (number + 1) found lines more h)
    ] h

-- the answers to more lines go on where those to the lines end
record GoesOn (short long : List ℕ) : Type 0 where
  rest : List ℕ
  parts : long ≡ short ++ rest

answers_go_on : (answer : Answering) (lines more : List (List ℕ)) → GoesOn (answers_to answer lines) (answers_to answer (lines ++ more))
answers_go_on answer lines more =
    elim (wrong_line answer 1 lines) as (λ o. wrong_line answer 1 lines ≡ o → GoesOn (answers_to answer lines) (answers_to answer (lines ++ more))) [
      | None ↦ λ h. record { rest = answers_to answer more; parts = answers_to-append answer 1 lines more h }
      | Some found ↦ λ h. record { rest = []; parts = answers_to-prefix answer 1 found lines more h ∙ sym (append-nil (answers_to answer lines)) }
    ] refl

-- a prefix of the answers to lines is a prefix of those to more lines
pub prefix_on : (answer : Answering) (base now : Option (List ℕ)) (lines more : List (List ℕ)) → GrewByPrefix base (answers_to answer lines) now → GrewByPrefix base (answers_to answer (lines ++ more)) now
prefix_on answer base now lines more prefix =
    let g = answers_go_on answer lines more in
    subst (λ text. GrewByPrefix base text now) (sym g.parts) (prefix_longer base (answers_to answer lines) g.rest now prefix)

-- nothing was read of a piece
pub lines_none : (answer : Answering) (first : WordLine) → AnswersLines answer first [] (Ok tt) [] first
lines_none answer first begun stands = record { wrong = refl; asked = refl; stands = stands; number = omega arith }

-- a byte more was read, no line feed
pub lines_byte : (answer : Answering) (first s : WordLine) (piece answers : List ℕ) (byte : ℕ) → nat_eq byte line_feed ≡ false → AnswersLines answer first piece (Ok tt) answers s
    → AnswersLines answer first (piece ++ byte ∷ []) (Ok tt) answers (after_byte s byte)
lines_byte answer first s piece answers byte other before begun stands =
    let h = before begun stands in
    let so_far = begun_after begun piece in
    let ended : ended_after begun (piece ++ byte ∷ []) ≡ ended_after begun piece =
    ended_after-append begun piece (byte ∷ []) ∙ ap (λ t. ended_after begun piece ++ cond t (so_far ∷ []) []) other ∙ append-nil (ended_after begun piece) in
    let rest : begun_after begun (piece ++ byte ∷ []) ≡ so_far ++ byte ∷ [] =
    begun_after-append begun piece (byte ∷ []) ∙ ap (λ t. cond t [] (so_far ++ byte ∷ [])) other in
    record {
      wrong = ap (wrong_line answer first.number) ended ∙ h.wrong;
      asked = h.asked ∙ sym (ap (answers_to answer) ended);
      stands = subst (StandsForLine (after_byte s byte)) (sym rest) (stands_next s so_far byte h.stands);
      number = number-after_byte s byte ∙ h.number ∙ ap (λ (lines : List (List ℕ)). first.number + length lines) (sym ended);
    }

-- bits more were read
pub lines_bits : (answer : Answering) (first s : WordLine) (piece answers bytes : List ℕ) → list_all is_bit bytes ≡ true → AnswersLines answer first piece (Ok tt) answers s
    → AnswersLines answer first (piece ++ bytes) (Ok tt) answers (after_bytes s bytes)
lines_bits answer first s piece answers [] are before = subst (λ p. AnswersLines answer first p (Ok tt) answers s) (sym (append-nil piece)) before
lines_bits answer first s piece answers (byte ∷ bytes) are before =
    let one = and_parts (is_bit byte) (list_all is_bit bytes) are in
    subst (λ p. AnswersLines answer first p (Ok tt) answers (after_bytes (after_byte s byte) bytes)) (append_assoc piece (byte ∷ []) bytes)
    (lines_bits answer first (after_byte s byte) (piece ++ byte ∷ []) answers bytes one.1 (lines_byte answer first s piece answers byte (bit_no_feed byte one.0) before))

-- the lines that end in a piece and a line feed
ended_by_feed : (begun piece : List ℕ) → ended_after begun (piece ++ line_feed ∷ []) ≡ ended_after begun piece ++ begun_after begun piece ∷ []
ended_by_feed begun piece = ended_after-append begun piece (line_feed ∷ [])

begun_by_feed : (begun piece : List ℕ) → begun_after begun (piece ++ line_feed ∷ []) ≡ []
begun_by_feed begun piece = begun_after-append begun piece (line_feed ∷ [])

-- a line feed was read, and the line before it is right
pub lines_feed : (answer : Answering) (first s : WordLine) (piece answers more : List ℕ) → ((bytes : List ℕ) → StandsForLine s bytes → answer bytes ≡ Some more) → AnswersLines answer first piece (Ok tt) answers s
    → AnswersLines answer first (piece ++ line_feed ∷ []) (Ok tt) (answers ++ more) (unread (s.number + 1))
lines_feed answer first s piece answers more right before begun stands =
    let h = before begun stands in
    let lines = ended_after begun piece in
    let line = begun_after begun piece in
    let ended = ended_by_feed begun piece in
    let is = right line h.stands in
    record {
      wrong = ap (wrong_line answer first.number) ended ∙ wrong_line-append answer first.number lines (line ∷ []) h.wrong ∙ ap (λ o. cond (is_none o) (Some (first.number + length lines)) None) is;
      asked = ap (λ t. t ++ more) h.asked
          ∙ sym (ap (answers_to answer) ended ∙ answers_to-append answer first.number lines (line ∷ []) h.wrong ∙ ap (λ o. answers_to answer lines ++ answer_and_rest o []) is ∙ ap (λ t. answers_to answer lines ++ t) (append-nil more));
      stands = subst (StandsForLine (unread (s.number + 1))) (sym (begun_by_feed begun piece)) (stands_unread (s.number + 1));
      number = (let e : s.number + 1 ≡ first.number + length (lines ++ line ∷ []) = omega (arith, h.number, length-append lines (line ∷ [])) in e)
          ∙ ap (λ (all : List (List ℕ)). first.number + length all) (sym ended);
    }

-- it is the first wrong one, whatever follows
pub lines_wrong : (answer : Answering) (first s last : WordLine) (piece answers rest : List ℕ) (number : ℕ) → number ≡ s.number → ((bytes : List ℕ) → StandsForLine s bytes → answer bytes ≡ None) → AnswersLines answer first piece (Ok tt) answers s
    → AnswersLines answer first (piece ++ line_feed ∷ rest) (Err number) answers last
lines_wrong answer first s last piece answers rest number at wrong before begun stands =
    let h = before begun stands in
    let lines = ended_after begun piece in
    let line = begun_after begun piece in
    let more = ended_after [] rest in
    let ended : ended_after begun (piece ++ line_feed ∷ rest) ≡ lines ++ line ∷ more = ended_after-append begun piece (line_feed ∷ rest) in
    let is = wrong line h.stands in
    record {
      wrong = ap (wrong_line answer first.number) ended ∙ wrong_line-append answer first.number lines (line ∷ more) h.wrong
          ∙ ap (λ o. cond (is_none o) (Some (first.number + length lines)) (wrong_line answer (first.number + length lines + 1) more)) is ∙ ap Some (sym (at ∙ h.number));
      asked = h.asked ∙ sym (ap (answers_to answer) ended ∙ answers_to-append answer first.number lines (line ∷ more) h.wrong
          ∙ ap (λ o. answers_to answer lines ++ answer_and_rest o (answers_to answer more)) is ∙ append-nil (answers_to answer lines));
      stands = tt;
      number = tt;
    }
