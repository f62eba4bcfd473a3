-- How the answering of a text of words ends.
use Rattle.std.proofs.Common.{◌≡◌, ◌∙◌, ℕ, ◌+◌, ◌<◌, ◌≤◌, Bool, true, cond, List, [], ◌∷◌, ◌++◌, length, take, drop, Some, None, Result, Ok, Err, refl, ap, sym, subst, arith, nat_lt, inl, inr, length-append, length-take}
use Rattle.std.specs.Option.{is_none}
use Rattle.std.specs.Result.{is_err}
use Rattle.std.proofs.lemmas.Bool.{cases_lt, cond-false, cond-true, le-ltb, lt-ltb}
use Rattle.std.proofs.lemmas.List.{append-nil, take-append-drop, take-append-le, take-take, take_all}
use Rattle.rv_gate.specs.Circuit.{Cascade}
use Rattle.rv_io.specs.Files.{FilesView, IsFaulty}
use Rattle.rv_io.specs.Sink.{SinkView, Sends, grown, GrewByPrefix}
use Rattle.rv_text.specs.Bytes.{line_feed}
use Rattle.rv_text.specs.Lines.{begun_after, ended_after, last_line, lines_of}
use Rattle.rv_text.proofs.Cuts.{ended_after-append, lines_of-append}
use Rattle.rv_text.specs.declared.lines.TheConstants.{MOST_BYTES}
use Rattle.rv_simulate.specs.declared.simulation.Stop.{Stop}
use Rattle.rv_simulate.specs.declared.simulation.Stop.TheVariants.{Wrong, Write}
use Rattle.rv_simulate.specs.declared.simulation.WordsEnd.{WordsEnd}
use Rattle.rv_simulate.specs.Simulation.{answer_and_rest, answer_to, answers_to, lines_within, wrong_line}
use Rattle.rv_simulate.specs.SimulationEnds.{HasContent, EndsTooLong, EndsUncounted, EndsUnread, Simulates}
use Rattle.rv_simulate.proofs.FirstWrong.{wrong_line-first}
use Rattle.rv_simulate.specs.inside.Answering.{Answering, AnswersLast, AnswersPiece, IsStop, end_after, sent_by, wrong_in}
use Rattle.rv_simulate.specs.inside.WordLine.{WordLine}
use Rattle.rv_simulate.proofs.inside.Lines.{answers_to-append, answers_to-prefix, prefix_on, wrong_line-append, wrong_line-prefix}
use Rattle.rv_simulate.proofs.inside.Reading.{HasCome, HasRead, Holding, IsReading, has_come, holding, length-read, text_on}

lines_within-short : (text : List ℕ) → length text ≤ MOST_BYTES → lines_within text ≡ lines_of text
lines_within-short text h = cond-false (nat_lt MOST_BYTES (length text)) (ended_after [] (take MOST_BYTES text)) (lines_of text) (le-ltb MOST_BYTES (length text) h)

lines_within-long : (text : List ℕ) → MOST_BYTES < length text → lines_within text ≡ ended_after [] (take MOST_BYTES text)
lines_within-long text h = cond-true (nat_lt MOST_BYTES (length text)) (ended_after [] (take MOST_BYTES text)) (lines_of text) (lt-ltb MOST_BYTES (length text) h)

-- the lines that end within the first bytes are the first that are looked at
record LooksOn (text : List ℕ) (taken : ℕ) : Type 0 where
  more : List (List ℕ)
  lines : lines_within text ≡ ended_after [] (take taken text) ++ more

looks_on_long : (text : List ℕ) (taken : ℕ) → taken ≤ MOST_BYTES → MOST_BYTES < length text → LooksOn text taken
looks_on_long text taken few long =
    let first = take MOST_BYTES text in
    let split : first ≡ take taken text ++ drop taken first = sym (take-append-drop taken first) ∙ ap (λ (t : List ℕ). t ++ drop taken first) (take-take taken MOST_BYTES text few) in
    record {
      more = ended_after (begun_after [] (take taken text)) (drop taken first);
      lines = lines_within-long text long ∙ ap (ended_after []) split ∙ ended_after-append [] (take taken text) (drop taken first);
    }

looks_on_short : (text : List ℕ) (taken : ℕ) → length text ≤ MOST_BYTES → LooksOn text taken
looks_on_short text taken short =
    let rest = drop taken text in
    record {
      more = ended_after (begun_after [] (take taken text)) rest ++ last_line (begun_after (begun_after [] (take taken text)) rest);
      lines = lines_within-short text short ∙ ap lines_of (sym (take-append-drop taken text)) ∙ lines_of-append (take taken text) rest;
    }

looks_on : (text : List ℕ) (taken : ℕ) → taken ≤ MOST_BYTES → LooksOn text taken
looks_on text taken few =
    elim (cases_lt MOST_BYTES (length text)) [
      | inl long ↦ looks_on_long text taken few long
      | inr short ↦ looks_on_short text taken short
    ]

-- a last line counts the same, whether or not it has bytes
record SameLast (answer : Answering) (lines : List (List ℕ)) (line : List ℕ) : Type 0 where
  wrong : wrong_line answer 1 (lines ++ line ∷ []) ≡ wrong_line answer 1 (lines ++ last_line line)
  answers : answers_to answer (lines ++ line ∷ []) ≡ answers_to answer (lines ++ last_line line)

same_last : (answer : Answering) (lines : List (List ℕ)) (line : List ℕ) → answer [] ≡ Some [] → wrong_line answer 1 lines ≡ None → SameLast answer lines line
same_last answer lines [] empty right = record {
  wrong = wrong_line-append answer 1 lines ([] ∷ []) right ∙ ap (λ o. cond (is_none o) (Some (1 + length lines)) None) empty ∙ sym (ap (wrong_line answer 1) (append-nil lines) ∙ right);
  answers = answers_to-append answer 1 lines ([] ∷ []) right ∙ ap (λ o. answers_to answer lines ++ answer_and_rest o []) empty ∙ append-nil (answers_to answer lines)
      ∙ ap (answers_to answer) (sym (append-nil lines));
}
same_last answer lines (b ∷ bytes) empty right = record { wrong = refl; answers = refl }

-- a text is within the limit, and a line feed after it ends its last line
record IsEnded (answer : Answering) (text : List ℕ) : Type 0 where
  wrong : wrong_line answer 1 (ended_after [] (text ++ line_feed ∷ [])) ≡ wrong_line answer 1 (lines_within text)
  answers : answers_to answer (ended_after [] (text ++ line_feed ∷ [])) ≡ answers_to answer (lines_within text)

is_ended : (answer : Answering) (text : List ℕ) → answer [] ≡ Some [] → wrong_line answer 1 (ended_after [] text) ≡ None → length text ≤ MOST_BYTES → IsEnded answer text
is_ended answer text empty right short =
    let same = same_last answer (ended_after [] text) (begun_after [] text) empty right in
    let ended = ended_after-append [] text (line_feed ∷ []) in
    let within = sym (lines_within-short text short) in
    record {
      wrong = ap (wrong_line answer 1) ended ∙ same.wrong ∙ ap (wrong_line answer 1) within;
      answers = ap (answers_to answer) ended ∙ same.answers ∙ ap (answers_to answer) within;
    }

-- what is told of the bytes of a name holds of those that it holds
content_all : (old : FilesView) (name content text : List ℕ) (P : List ℕ → Type 0) → (old.tells ≡ true → (old.held name ≡ Some content) × (content ≡ text)) → P text → HasContent old name P
content_all old name content text P told fact = record { bytes = text; held = λ tells. (told tells).0 ∙ ap Some (told tells).1; fact = fact }

content_of : (old : FilesView) (name text : List ℕ) (P : List ℕ → Type 0) (h : Holding old name text) → P h.bytes → HasContent old name P
content_of old name text P h fact = record { bytes = h.bytes; held = h.held; fact = fact }

-- the name was read to its end, and its last line was answered
ends_last : (c : Cascade) (all : Bool) (name content text : List ℕ) (old new : FilesView) (from to : SinkView) (stopped : Result (Unit {0}) Stop) (found : Result (Unit {0}) ℕ)
    → new.is_started ≡ true → new.place ≡ length text → length text ≤ MOST_BYTES → (old.tells ≡ true → (old.held name ≡ Some content) × (content ≡ text)) → IsEnded (answer_to c all) text
    → HasCome (answer_to c all) from (text ++ line_feed ∷ []) stopped found to → IsStop stopped found → Simulates c all name old new from to (end_after stopped)
ends_last c all name content text old new from to (Ok u) found started place short told e come stop = record {
  started = started;
  place = omega (arith, place, short);
  content = content_all old name content text _ told
      (record { whole = place; limited = short; right = sym e.wrong ∙ come.wrong ∙ ap wrong_in stop; sent = come.sends.sent ∙ ap (grown from.sent) e.answers });
}
ends_last c all name content text old new from to (Err (Wrong line)) found started place short told e come stop =
    let first = sym e.wrong ∙ come.wrong ∙ ap wrong_in stop in
    record {
      started = started;
      place = omega (arith, place, short);
      content = content_all old name content text _ told
          (record { first = first; is = wrong_line-first c all (lines_within text) line first; within = omega (arith, place); reached = inr place; sent = come.sends.sent ∙ ap (grown from.sent) e.answers });
    }
ends_last c all name content text old new from to (Err Write) found started place short told e come stop = record {
  rose = come.sends.fault;
  started = started;
  place = omega (arith, place, short);
  content = content_all old name content text _ told (subst (λ answers. GrewByPrefix from.sent answers to.sent) e.answers come.sends.prefix);
}

-- a line that ended in the text is wrong, or an answer was not sent whole
ends_stopped : (c : Cascade) (all : Bool) (name text : List ℕ) (old new : FilesView) (from to : SinkView) (stop : Stop) (found : Result (Unit {0}) ℕ)
    → new.is_started ≡ true → new.place ≡ length text → length text ≤ MOST_BYTES → (h : Holding old name text) (on : LooksOn h.bytes (length text))
    → HasCome (answer_to c all) from text (Err stop) found to → IsStop (Err stop) found → Simulates c all name old new from to (end_after (Err stop))
ends_stopped c all name text old new from to (Wrong line) found started place short h on come stop =
    let answer = answer_to c all in
    let lines : lines_within h.bytes ≡ ended_after [] text ++ on.more = on.lines ∙ ap (λ t. ended_after [] t ++ on.more) h.prefix in
    let first = come.wrong ∙ ap wrong_in stop in
    let all_first = ap (wrong_line answer 1) lines ∙ wrong_line-prefix answer 1 line (ended_after [] text) on.more first in
    record {
      started = started;
      place = omega (arith, place, short);
      content = content_of old name text _ h (record {
        first = all_first;
        is = wrong_line-first c all (lines_within h.bytes) line all_first;
        within = omega (arith, place, length-take (length text) h.bytes, ap length h.prefix);
        reached = inl (ap (λ n. wrong_line answer 1 (ended_after [] (take n h.bytes))) place ∙ ap (λ t. wrong_line answer 1 (ended_after [] t)) h.prefix ∙ first);
        sent = come.sends.sent ∙ ap (grown from.sent) (sym (ap (answers_to answer) lines ∙ answers_to-prefix answer 1 line (ended_after [] text) on.more first));
      });
    }
ends_stopped c all name text old new from to Write found started place short h on come stop =
    let answer = answer_to c all in
    let lines : lines_within h.bytes ≡ ended_after [] text ++ on.more = on.lines ∙ ap (λ t. ended_after [] t ++ on.more) h.prefix in
    record {
      rose = come.sends.fault;
      started = started;
      place = omega (arith, place, short);
      content = content_of old name text _ h
          (subst (λ all_lines. GrewByPrefix from.sent (answers_to answer all_lines) to.sent) (sym lines) (prefix_on answer from.sent to.sent (ended_after [] text) on.more come.sends.prefix));
    }

-- the name was read to its end
pub reading_ends : (c : Cascade) (all : Bool) (name content : List ℕ) (old new : FilesView) (from mid to : SinkView) (taken : ℕ) (s : WordLine) (result : WordsEnd) → new.is_started ≡ true → new.place ≡ taken → taken ≤ MOST_BYTES
    → (old.tells ≡ true → length content ≤ taken) → IsReading (answer_to c all) old name content from taken s mid → AnswersLast (answer_to c all) s mid result to → Simulates c all name old new from to result
reading_ends c all name content old new from mid to taken s result started place few over r a =
    let short : length r.text ≤ MOST_BYTES = omega (arith, r.count, few) in
    subst (Simulates c all name old new from to) (sym a.is)
    (ends_last c all name content r.text old new from to a.stopped a.piece.found started (place ∙ sym r.count) short
    (λ tells. ((r.told tells).0, sym (take_all taken content (over tells)) ∙ (r.told tells).1))
    (is_ended (answer_to c all) r.text refl r.way.right short) (has_come (answer_to c all) from mid to r.text (line_feed ∷ []) s a.last a.stopped r.way a.piece) a.piece.stop)

-- a piece that was read stopped the answering
pub reading_stops : (c : Cascade) (all : Bool) (old view after : FilesView) (name room rest : List ℕ) (from mid to : SinkView) (taken count : ℕ) (s last : WordLine) (result : Result (Unit {0}) Stop) → is_err result ≡ true
    → (old.tells ≡ true → view.tells ≡ true) → HasRead view room taken count after → after.is_started ≡ true → after.place ≡ taken + count → taken + count ≤ MOST_BYTES → IsReading (answer_to c all) old name view.content from taken s mid
    → AnswersPiece (answer_to c all) (take count (room ++ rest)) s mid result last to → Simulates c all name old after from to (end_after result)
reading_stops c all old view after name room rest from mid to taken count s last (Ok u) stopped tells read started place few r a = absurd cc
reading_stops c all old view after name room rest from mid to taken count s last (Err stop) stopped tells read started place few r a =
    let piece = take count (room ++ rest) in
    let long : length (r.text ++ piece) ≡ taken + count = omega (arith, length-append r.text piece, r.count, length-read room rest count read.gives.fit) in
    let short : length (r.text ++ piece) ≤ MOST_BYTES = omega (arith, long, few) in
    let h = holding old name view.content (r.text ++ piece) (taken + count) long (λ t. ((r.told t).0, text_on view after room rest r.text taken count read (tells t) (r.told t).1)) in
    ends_stopped c all name (r.text ++ piece) old after from to stop a.found started (place ∙ sym long) short h (looks_on h.bytes (length (r.text ++ piece)) short)
    (has_come (answer_to c all) from mid to r.text piece s last (Err stop) r.way a) a.stop

-- a read failed
pub reading_fails : (c : Cascade) (all : Bool) (name content : List ℕ) (old new : FilesView) (from to : SinkView) (taken : ℕ) (s : WordLine) → IsFaulty old name new → new.is_started ≡ true → new.place ≡ taken → taken ≤ MOST_BYTES
    → IsReading (answer_to c all) old name content from taken s to → EndsUnread c all name old new from to
reading_fails c all name content old new from to taken s cause started place few r =
    let h = holding old name content r.text taken r.count r.told in
    let at : take new.place h.bytes ≡ r.text = ap (λ n. take n h.bytes) (place ∙ sym r.count) ∙ h.prefix in
    record {
      cause = cause;
      unstarted = λ not. absurd (let z = sym not ∙ started in cc);
      place = λ _. omega (arith, place, few);
      content = λ _. content_of old name r.text _ h (record {
        within = omega (arith, place, r.count, ap length h.prefix, length-take (length r.text) h.bytes);
        right = ap (λ t. wrong_line (answer_to c all) 1 (ended_after [] t)) at ∙ r.way.right;
        sent = r.way.sends.sent ∙ ap (λ t. grown from.sent (answers_to (answer_to c all) (ended_after [] t))) (sym at);
      });
    }

-- one byte more than the limit was read
pub reading_overflows : (c : Cascade) (all : Bool) (old view after : FilesView) (name room rest : List ℕ) (from to : SinkView) (taken : ℕ) (s : WordLine) → (old.tells ≡ true → view.tells ≡ true) → HasRead view room taken 1 after
    → taken ≡ MOST_BYTES → after.is_started ≡ true → after.place ≡ taken + 1 → IsReading (answer_to c all) old name view.content from taken s to → EndsTooLong c all name old after from to
reading_overflows c all old view after name room rest from to taken s tells read full started place r =
    let text = r.text in
    let more = take 1 (room ++ rest) in
    let long : length (r.text ++ take 1 (room ++ rest)) ≡ taken + 1 = omega (arith, length-append text more, r.count, length-read room rest 1 read.gives.fit) in
    let h = holding old name view.content (text ++ more) (taken + 1) long (λ t. ((r.told t).0, text_on view after room rest text taken 1 read (tells t) (r.told t).1)) in
    let longer : MOST_BYTES < length h.bytes = omega (arith, full, long, ap length h.prefix, length-take (length (text ++ more)) h.bytes) in
    let first : take MOST_BYTES h.bytes ≡ r.text =
    sym (take-take MOST_BYTES (length (text ++ more)) h.bytes (omega (arith, long, full))) ∙ ap (take MOST_BYTES) h.prefix
    ∙ take-append-le MOST_BYTES text more (omega (arith, r.count, full)) ∙ take_all MOST_BYTES text (omega (arith, r.count, full)) in
    let lines : lines_within h.bytes ≡ ended_after [] r.text = lines_within-long h.bytes longer ∙ ap (ended_after []) first in
    record {
      started = started;
      place = omega (arith, place, full);
      content = content_of old name (text ++ more) _ h (record {
        longer = longer;
        right = ap (wrong_line (answer_to c all) 1) lines ∙ r.way.right;
        sent = r.way.sends.sent ∙ ap (λ ls. grown from.sent (answers_to (answer_to c all) ls)) (sym lines);
      });
    }

-- ---- the counts of faults

counts_after : (old new : FilesView) (from mid to : SinkView) (answers : List ℕ) (stopped : Result (Unit {0}) Stop) → new.faults ≡ old.faults → mid.faults ≡ from.faults
    → Sends mid answers (sent_by stopped) to → EndsUncounted (end_after stopped) old new from to
counts_after old new from mid to answers (Ok u) read sent s = (read, s.uncounted ∙ sent)
counts_after old new from mid to answers (Err (Wrong line)) read sent s = (read, s.uncounted ∙ sent)
counts_after old new from mid to answers (Err Write) read sent s = tt

-- a piece was answered
pub counts_piece : (answer : Answering) (old new : FilesView) (from mid to : SinkView) (piece : List ℕ) (first last : WordLine) (stopped : Result (Unit {0}) Stop) (result : WordsEnd) → result ≡ end_after stopped
    → new.faults ≡ old.faults → mid.faults ≡ from.faults → AnswersPiece answer piece first mid stopped last to → EndsUncounted result old new from to
counts_piece answer old new from mid to piece first last stopped result is read sent a =
    subst (λ end. EndsUncounted end old new from to) (sym is) (counts_after old new from mid to a.answers stopped read sent a.sends)
