-- Answers that were given to a writer, and words that wait.
use Rattle.std.proofs.Common.{◌≡◌, ◌∙◌, ℕ, ◌+◌, ◌-◌, ◌<◌, ◌≤◌, Bool, true, false, List, [], ◌∷◌, ◌++◌, length, take, drop, get_or, Result, Ok, Err, refl, ap, sym, subst, arith, append_assoc, nat_eq}
use Rattle.std.specs.List.{list_all}
use Rattle.std.proofs.Math.Path.{fun_ext}
use Rattle.std.proofs.Math.Seq.{take-add}
use Rattle.std.proofs.lemmas.List.{append-nil, drop_more, length-drop, take-append-drop, take_more}
use Rattle.rv_gate.specs.Circuit.{Cascade}
use Rattle.rv_gate.specs.Marks.{input_count}
use Rattle.rv_gate.specs.declared.word.TheConstants.{MOST_LINES}
use Rattle.rv_io.specs.Sink.{SinkView}
use Rattle.rv_io.specs.Writer.{Adds, Writer}
use Rattle.rv_io.proofs.Adding.{adds_as, adds_none, adds_then}
use Rattle.rv_text.specs.Bytes.{line_feed}
use Rattle.rv_simulate.specs.Simulation.{answer_to, is_bit, marks_asked}
use Rattle.rv_simulate.specs.inside.Answering.{AnswersLines, AreGiven, ArePartGiven, Collects, EndsLine, GivesLines, answers_to_words}
use Rattle.rv_simulate.specs.inside.WordLine.{WordLine, after_byte, after_bytes, unread}
use Rattle.rv_simulate.proofs.inside.Bits.{answer_stands, number-after_bytes}
use Rattle.rv_simulate.proofs.inside.Lines.{lines_bits, lines_byte, lines_feed, lines_none, lines_wrong}
use Rattle.rv_gate.proofs.Lists.{take_rest}

-- nothing was asked for
pub given_none : (c : Cascade) (all : Bool) (old : Writer) (before : SinkView) → AreGiven c all [] old before [] old before
given_none c all old before = record { given = []; adds = adds_none old before; parts = refl }

-- more answers are asked for, after those to the words that wait
pub given_then : (c : Cascade) (all : Bool) (answers more : List ℕ) (words next : List (List Bool)) {x y z : Writer} {r s t : SinkView} → AreGiven c all answers x r words y s
    → AreGiven c all (answers_to_words c all words ++ more) y s next z t → AreGiven c all (answers ++ more) x r next z t
given_then c all answers more words next first second = record {
  given = first.given ++ second.given;
  adds = adds_then first.adds second.adds;
  parts = ap (λ t. t ++ more) first.parts ∙ append_assoc first.given (answers_to_words c all words) more ∙ ap (λ t. first.given ++ t) second.parts
      ∙ sym (append_assoc first.given second.given (answers_to_words c all next));
}

-- some of the answers that were held back were given, and one more is held back
pub part_answered : {x y z : Writer} {r s t : SinkView} (answers held rest answer more next : List ℕ) → ArePartGiven answers x r held y s → ArePartGiven held y s rest z t → answers ++ answer ≡ more → next ≡ rest ++ answer
    → ArePartGiven more x r next z t
part_answered answers held rest answer more next first second all same = record {
  given = first.given ++ second.given;
  adds = adds_then first.adds second.adds;
  parts = sym all ∙ ap (λ t. t ++ answer) (first.parts ∙ ap (λ t. first.given ++ t) second.parts ∙ sym (append_assoc first.given second.given rest)) ∙ append_assoc (first.given ++ second.given) rest answer
      ∙ ap (λ t. (first.given ++ second.given) ++ t) (sym same);
}

-- a byte of a piece, and the bytes around it
one_more : (piece : List ℕ) (i byte : ℕ) → i < length piece → get_or piece i 0 ≡ byte → take (i + 1) piece ≡ take i piece ++ byte ∷ []
one_more piece i byte lt is = take_more piece i 0 lt ∙ ap (λ b. take i piece ++ b ∷ []) is

split_at : (piece : List ℕ) (i byte : ℕ) → i < length piece → get_or piece i 0 ≡ byte → take i piece ++ byte ∷ drop (i + 1) piece ≡ piece
split_at piece i byte lt is = ap (λ b. take i piece ++ b ∷ drop (i + 1) piece) (sym is) ∙ ap (λ rest. take i piece ++ rest) (sym (drop_more piece i 0 lt)) ∙ take-append-drop i piece

pub collects_none : (c : Cascade) (all : Bool) (first : WordLine) (old : Writer) (before : SinkView) → Collects c all [] first old before (Ok tt) first [] old before
collects_none c all first old before = record { answers = []; given = given_none c all old before; lines = lines_none (answer_to c all) first }

-- one byte more of a piece, no line feed
pub collects_byte : (c : Cascade) (all : Bool) (piece : List ℕ) (i byte : ℕ) (first s : WordLine) (words : List (List Bool)) {x y : Writer} {r t : SinkView} → i < length piece → get_or piece i 0 ≡ byte → nat_eq byte line_feed ≡ false
    → Collects c all (take i piece) first x r (Ok tt) s words y t → Collects c all (take (i + 1) piece) first x r (Ok tt) (after_byte s byte) words y t
collects_byte c all piece i byte first s words lt is other so_far = record {
  answers = so_far.answers;
  given = so_far.given;
  lines = rw (one_more piece i byte lt is) (lines_byte (answer_to c all) first s (take i piece) so_far.answers byte other so_far.lines);
}

pub within_rest : (piece : List ℕ) (i count : ℕ) → i ≤ length piece → count ≤ length (take (length piece - i) (drop i piece)) → i + count ≤ length piece
within_rest piece i count lt le = omega (arith, lt, le, ap length (take_rest piece i), length-drop i piece)

pub number_read : (piece : List ℕ) (i count : ℕ) (s next : WordLine) → next ≡ after_bytes s (take count (take (length piece - i) (drop i piece))) → next.number ≡ s.number
number_read piece i count s next is = ap (λ (b : WordLine). b.number) is ∙ number-after_bytes s (take count (take (length piece - i) (drop i piece)))

-- bits of a piece
pub collects_bits : (c : Cascade) (all : Bool) (piece : List ℕ) (i count : ℕ) (first s next : WordLine) (words : List (List Bool)) {x y : Writer} {r t : SinkView} → list_all is_bit (take count (take (length piece - i) (drop i piece))) ≡ true
    → next ≡ after_bytes s (take count (take (length piece - i) (drop i piece)))
    → Collects c all (take i piece) first x r (Ok tt) s words y t → Collects c all (take (i + count) piece) first x r (Ok tt) next words y t
collects_bits c all piece i count first s next words are is so_far =
    let rest = take_rest piece i in
    let last : next ≡ after_bytes s (take count (drop i piece)) = is ∙ ap (λ bytes. after_bytes s (take count bytes)) rest in
    record {
      answers = so_far.answers;
      given = so_far.given;
      lines = rw (last, take-add i count piece)
          (lines_bits (answer_to c all) first s (take i piece) so_far.answers (take count (drop i piece)) (ap (λ bytes. list_all is_bit (take count bytes)) (sym rest) ∙ are) so_far.lines);
    }

-- a line feed after a line that is right
pub collects_feed : (c : Cascade) (all : Bool) (piece : List ℕ) (i : ℕ) (first s : WordLine) (words next : List (List Bool)) (u : Unit {0}) {x y z : Writer} {r t v : SinkView} → i < length piece → get_or piece i 0 ≡ line_feed
    → input_count (marks_asked c all) ≤ MOST_LINES → Collects c all (take i piece) first x r (Ok tt) s words y t → EndsLine c all s words y t (Ok u) next z v
    → Collects c all (take (i + 1) piece) first x r (Ok tt) (unread (s.number + 1)) next z v
collects_feed c all piece i first s words next u lt is few so_far ends = record {
  answers = so_far.answers ++ ends.answer;
  given = given_then c all so_far.answers ends.answer words next so_far.given ends.given;
  lines = rw (one_more piece i line_feed lt is)
      (lines_feed (answer_to c all) first s (take i piece) so_far.answers ends.answer (λ bytes stands. sym (answer_stands c all s bytes few stands) ∙ ends.right) so_far.lines);
}

-- a line feed after the first wrong line
pub collects_wrong : (c : Cascade) (all : Bool) (piece : List ℕ) (i line : ℕ) (first s last : WordLine) (words next : List (List Bool)) {x y z : Writer} {r t v : SinkView} → i < length piece → get_or piece i 0 ≡ line_feed
    → input_count (marks_asked c all) ≤ MOST_LINES → Collects c all (take i piece) first x r (Ok tt) s words y t → EndsLine c all s words y t (Err line) next z v
    → Collects c all piece first x r (Err line) last next z v
collects_wrong c all piece i line first s last words next {x = x} {z = z} {r = r} {v = v} lt is few so_far ends = record {
  answers = so_far.answers;
  given = subst (λ answers. AreGiven c all answers x r next z v) (ap (λ t. so_far.answers ++ t) ends.wrong.2 ∙ append-nil so_far.answers)
      (given_then c all so_far.answers ends.answer words next so_far.given ends.given);
  lines = subst (λ bytes. AnswersLines (answer_to c all) first bytes (Err line) so_far.answers last) (split_at piece i line_feed lt is)
      (lines_wrong (answer_to c all) first s last (take i piece) so_far.answers (drop (i + 1) piece) line ends.wrong.0 (λ bytes stands. sym (answer_stands c all s bytes few stands) ∙ ends.wrong.1) so_far.lines);
}

-- then the words that wait were answered, and all is as if other bits were asked for
pub gives_all : (c : Cascade) (all every : Bool) (piece : List ℕ) (first last : WordLine) (words : List (List Bool)) (found : Result (Unit {0}) ℕ) {x y z : Writer} {r s t : SinkView}
    → ((line : List ℕ) → answer_to c every line ≡ answer_to c all line) → Collects c every piece first x r found last words y s → Adds y s (answers_to_words c every words) z t
    → GivesLines (answer_to c all) piece first x r found last z t
gives_all c all every piece first last words found {x = x} {z = z} {r = r} {t = t} same made adds =
    subst (λ answer. GivesLines answer piece first x r found last z t) (fun_ext same)
    (record { answers = made.answers; adds = adds_as (sym made.given.parts) (adds_then made.given.adds adds); lines = made.lines })
