-- How far the answering of a text has come that is read in pieces.
use Rattle.std.proofs.Common.{◌≡◌, ◌∙◌, ℕ, ◌+◌, ◌≤◌, true, false, List, [], ◌++◌, length, take, Some, None, Result, Ok, Err, OnOk, refl, ap, sym, subst, arith, inl, inr, length-append, length-take}
use Rattle.std.proofs.Math.Seq.{take-add, take-length}
use Rattle.std.specs.Result.{is_err}
use Rattle.std.proofs.lemmas.Bool.{cases_Bool}
use Rattle.std.proofs.lemmas.List.{take-append-le}
use Rattle.rv_io.specs.declared.sink.WriteFault.{WriteFault}
use Rattle.rv_io.specs.Files.{FilesView, Gives}
use Rattle.rv_io.specs.Sink.{SinkView, Sends, grown, flushed_after}
use Rattle.rv_io.proofs.Sent.{grown-none, grown-grown, prefix_after, flushed_after-append}
use Rattle.rv_text.specs.Lines.{begun_after, ended_after}
use Rattle.rv_text.proofs.Cuts.{begun_after-append, ended_after-append}
use Rattle.rv_simulate.specs.declared.simulation.Stop.{Stop}
use Rattle.rv_simulate.specs.Simulation.{answers_to, wrong_line}
use Rattle.rv_simulate.specs.inside.Answering.{Answering, AnswersPiece, sent_by, wrong_in}
use Rattle.rv_simulate.specs.inside.WordLine.{StandsForLine, WordLine, unread}
use Rattle.rv_simulate.proofs.inside.Bits.{stands_unread}
use Rattle.rv_simulate.proofs.inside.Lines.{answers_to-append, wrong_line-append}

-- a text was sent, and then another
pub sends_then : (old mid new : SinkView) (a b : List ℕ) (result : Result (Unit {0}) WriteFault) → Sends old a (Ok tt) mid → Sends mid b result new → Sends old (a ++ b) result new
sends_then old mid new a b (Ok tt) s t = record {
  later = omega (arith, s.later, t.later);
  sent = t.sent ∙ ap (λ sent. grown sent b) s.sent ∙ grown-grown old.sent a b;
  flushed = t.flushed ∙ ap (λ flag. flushed_after flag b) s.flushed ∙ flushed_after-append old.is_flushed a b;
  uncounted = t.uncounted ∙ s.uncounted;
  fault = tt;
  prefix = tt;
  unflushed = λ is. s.unflushed (t.unflushed is);
}
sends_then old mid new a b (Err fault) s t = record {
  later = omega (arith, s.later, t.later);
  sent = tt;
  flushed = tt;
  uncounted = tt;
  fault = omega (arith, s.later, t.fault);
  prefix = prefix_after old.sent a b new.sent (rw s.sent at t.prefix);
  unflushed = λ is. s.unflushed (t.unflushed is);
}

pub sends_none : (now : SinkView) → Sends now [] (Ok tt) now
sends_none now = record { later = omega arith; sent = grown-none now.sent; flushed = refl; uncounted = refl; fault = tt; prefix = tt; unflushed = λ is. is }

-- this text was read so far, no line that ended in it is wrong, and the answers to these lines were sent
pub record IsUnderWay (answer : Answering) (from : SinkView) (text : List ℕ) (s : WordLine) (to : SinkView) : Type 0 where
  pub number : s.number ≡ 1 + length (ended_after [] text)
  pub begun : StandsForLine s (begun_after [] text)
  pub right : wrong_line answer 1 (ended_after [] text) ≡ None
  pub sends : Sends from (answers_to answer (ended_after [] text)) (Ok tt) to

pub under_way_none : (answer : Answering) (from : SinkView) → IsUnderWay answer from [] (unread 1) from
under_way_none answer from = record { number = refl; begun = stands_unread 1; right = refl; sends = sends_none from }

-- a piece after it was answered as far as it goes
pub record HasCome (answer : Answering) (from : SinkView) (text : List ℕ) (result : Result (Unit {0}) Stop) (found : Result (Unit {0}) ℕ) (to : SinkView) : Type 0 where
  pub wrong : wrong_line answer 1 (ended_after [] text) ≡ wrong_in found
  pub sends : Sends from (answers_to answer (ended_after [] text)) (sent_by result) to

pub has_come : (answer : Answering) (from mid to : SinkView) (text piece : List ℕ) (s last : WordLine) (result : Result (Unit {0}) Stop) → IsUnderWay answer from text s mid → (a : AnswersPiece answer piece s mid result last to)
    → HasCome answer from (text ++ piece) result a.found to
has_come answer from mid to text piece s last result u a =
    let h = a.lines (begun_after [] text) u.begun in
    let before = ended_after [] text in
    let more = ended_after (begun_after [] text) piece in
    let ended = ended_after-append [] text piece in
    record {
      wrong = ap (wrong_line answer 1) ended ∙ wrong_line-append answer 1 before more u.right ∙ ap (λ n. wrong_line answer n more) (sym u.number) ∙ h.wrong;
      sends = subst (λ answers. Sends from answers (sent_by result) to)
          (ap (λ t. answers_to answer before ++ t) h.asked ∙ sym (ap (answers_to answer) ended ∙ answers_to-append answer 1 before more u.right))
          (sends_then from mid to (answers_to answer before) a.answers (sent_by result) u.sends a.sends);
    }

-- and it is under way on, if no line in it is wrong
pub under_way_on : (answer : Answering) (from mid to : SinkView) (text piece : List ℕ) (s last : WordLine) (result : Result (Unit {0}) Stop) → is_err result ≡ false → IsUnderWay answer from text s mid
    → AnswersPiece answer piece s mid result last to → IsUnderWay answer from (text ++ piece) last to
under_way_on answer from mid to text piece s last (Err stop) fine way a = absurd cc
under_way_on answer from mid to text piece s last (Ok u) fine way a =
    let h = rw a.stop at (a.lines (begun_after [] text) way.begun) in
    let come = has_come answer from mid to text piece s last (Ok u) way a in
    record {
      number = omega (arith, h.number, way.number, ap length (ended_after-append [] text piece), length-append (ended_after [] text) (ended_after (begun_after [] text) piece));
      begun = subst (StandsForLine last) (sym (begun_after-append [] text piece)) h.stands;
      right = come.wrong ∙ ap wrong_in a.stop;
      sends = come.sends;
    }

-- so many bytes were read of a name, which are those of its content if this is told, and the lines that ended in them were answered
pub record IsReading (answer : Answering) (old : FilesView) (name content : List ℕ) (from : SinkView) (taken : ℕ) (s : WordLine) (to : SinkView) : Type 0 where
  pub text : List ℕ
  pub count : length text ≡ taken
  pub told : old.tells ≡ true → (old.held name ≡ Some content) × (take taken content ≡ text)
  pub way : IsUnderWay answer from text s to

pub on_ok : (P : Type 0) (result : Result (Unit {0}) Stop) → is_err result ≡ false → OnOk result P → P
on_ok P (Ok u) fine fact = fact
on_ok P (Err stop) fine fact = absurd cc

-- nothing was read
pub reading_none : (answer : Answering) (old : FilesView) (name content : List ℕ) (from : SinkView) → (old.tells ≡ true → old.held name ≡ Some content) → IsReading answer old name content from 0 (unread 1) from
reading_none answer old name content from held = record { text = []; count = refl; told = λ tells. (held tells, refl); way = under_way_none answer from }

-- what a read gave, of which the room has so many bytes
pub record HasRead (view : FilesView) (room : List ℕ) (taken count : ℕ) (after : FilesView) : Type 0 where
  pub at : view.place ≡ taken
  pub gives : Gives view room count after

pub length-read : (room rest : List ℕ) (count : ℕ) → count ≤ length room → length (take count (room ++ rest)) ≡ count
length-read room rest count fit = omega (arith, fit, length-take count (room ++ rest), length-append room rest)

-- the bytes that a read gave follow the text in the content
pub text_on : (view after : FilesView) (room rest text : List ℕ) (taken count : ℕ) → HasRead view room taken count after → view.tells ≡ true → take taken view.content ≡ text
    → take (taken + count) view.content ≡ text ++ take count (room ++ rest)
text_on view after room rest text taken count read tells so_far = grind (arith, take-append-le, take-add)

-- they were answered, and no line that ended in them is wrong
pub reading_on : (answer : Answering) (old view after : FilesView) (name room rest : List ℕ) (from mid to : SinkView) (taken count : ℕ) (s last : WordLine) (result : Result (Unit {0}) Stop) → is_err result ≡ false
    → (old.tells ≡ true → view.tells ≡ true) → (old.tells ≡ true → after.content ≡ view.content) → HasRead view room taken count after → IsReading answer old name view.content from taken s mid
    → AnswersPiece answer (take count (room ++ rest)) s mid result last to → IsReading answer old name after.content from (taken + count) last to
reading_on answer old view after name room rest from mid to taken count s last result fine tells same read r a =
    let piece = take count (room ++ rest) in
    record {
      text = r.text ++ piece;
      count = omega (arith, length-append r.text piece, r.count, length-read room rest count read.gives.fit);
      told = λ t. rw (same t) ((r.told t).0, text_on view after room rest r.text taken count read (tells t) (r.told t).1);
      way = under_way_on answer from mid to r.text piece s last result fine r.way a;
    }

-- bytes that a name may hold, of which the text is a prefix
pub record Holding (old : FilesView) (name text : List ℕ) : Type 0 where
  pub bytes : List ℕ
  pub held : old.tells ≡ true → old.held name ≡ Some bytes
  pub prefix : take (length text) bytes ≡ text

pub holding : (old : FilesView) (name content text : List ℕ) (taken : ℕ) → length text ≡ taken → (old.tells ≡ true → (old.held name ≡ Some content) × (take taken content ≡ text)) → Holding old name text
holding old name content text taken count told =
    elim (cases_Bool old.tells) [
      | inl tells ↦ record { bytes = content; held = λ _. (told tells).0; prefix = ap (λ n. take n content) count ∙ (told tells).1 }
      | inr silent ↦ record { bytes = text; held = λ tells. absurd (let z = sym silent ∙ tells in cc); prefix = take-length text }
    ]
