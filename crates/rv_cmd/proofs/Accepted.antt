-- The contents ask for no fault exactly if they are accepted.
use Rattle.std.proofs.Common.{◌≡◌, ℕ, ◌+◌, ◌<◌, ◌≤◌, Bool, true, false, ◌⊎◌, List, [], ◌∷◌, length, All, take, Option, Some, None, is_none, Result, Ok, Err, IsOk, is_ok, nat_lt, if◌then◌else◌, ◌==◌, ◌↔◌, refl, ap, sym, subst, ◌∙◌, inl, inr, arith, eqb-true, eq-eqb}
use Rattle.std.proofs.lemmas.Bool.{cases_lt, cond-false, cond-true, le-ltb, lt-ltb}
use Rattle.std.proofs.lemmas.List.Elements.{All-nil, All-cons, All-head, All-tail}
use Rattle.rv_gate.specs.Circuit.{Cascade}
use Rattle.rv_gate.specs.Gate.{run}
use Rattle.rv_gate.specs.Marks.{input_count, with_constants}
use Rattle.rv_text.specs.Lines.{ended_after, lines_of}
use Rattle.rv_text.specs.declared.lines.TheConstants.{MOST_BYTES}
use Rattle.rv_reader.specs.Rules.{◌>>=◌}
use Rattle.rv_simulate.specs.Simulation.{answer_text, answer_to, answer_to_bits, first_wrong, line_bits, marks_asked, wrong_line}
use Rattle.rv_words.specs.declared.asked.Settings.{Settings}
use Rattle.rv_words.specs.declared.command.Command.{Command}
use Rattle.rv_words.specs.declared.command.Command.TheVariants.{Demo, Simulate}
use Rattle.rv_faults.specs.declared.fault.Fault.TheVariants as fault
use Rattle.rv_faults.specs.declared.fault.InputFault.{InputFault}
use Rattle.rv_faults.specs.declared.fault.Refusal.{Refusal}
use Rattle.rv_faults.specs.declared.fault.Unmade.{Unmade}
use Rattle.rv_faults.specs.declared.fault.Unmade.TheVariants.{CannotRead, TooLong}
use Rattle.rv_inputs.specs.Contents.{AreTexts, Contents, content_or_fault, text_at, texts_of}
use Rattle.rv_inputs.specs.Formats.{DenotesWith, Format, at_input, circuit}
use Rattle.rv_inputs.proofs.Contained.{content-long, content-short, texts_of-gives, texts_of-is}
use Rattle.rv_cmd.specs.Commands.{row_for}
use Rattle.rv_cmd.specs.Commands.Simulate.{IsWordFor, answered_by, simulate_row, simulated, words_end}
use Rattle.rv_cmd.specs.Limits.{AreKept, Report, found_within, within}
use Rattle.rv_cmd.specs.Row.{Accepts, AcceptsBy, End, IsAccepted, IsReadsFirst, ReadsFirst, Row, answers_as_it_reads, as_report, as_unmade, end_of, ended, finds, none, one, reads_first, report_by, tells, two}
use Rattle.rv_cmd.proofs.inside.Limits.{within-exact}

-- ---- commands that read their inputs first

-- what comes after a text that denotes an object
denotes-exact : {X : Type 0} (form : Format X) (input : ℕ) (text : List ℕ) (next : X → Result Report Refusal) (P : X → Type 0) → ((x : X) → IsOk (next x) ↔ P x)
    → IsOk (at_input input (form text) >>= next) ↔ DenotesWith form text P
denotes-exact {X = X} form input text next P exact = by (form text) refl
  where
    by : (read : Result X (Option InputFault)) → form text ≡ read → IsOk (at_input input read >>= next) ↔ DenotesWith form text P
    by (Ok x) is = (
      λ ok. record { object = x; is = is; fact = (exact x).0 ok },
      λ d. let same : d.object ≡ x = let z = sym d.is ∙ is in cc in subst (λ y. IsOk (next y)) same ((exact d.object).1 d.fact),
    )
    by (Err why) is = (λ ok. absurd (let z = ok in cc), λ d. absurd (let z = sym d.is ∙ is in cc))

report-exact : (row : ReadsFirst) (texts : List (List ℕ)) → IsOk (report_by row [] texts) ↔ AcceptsBy row texts
report-exact (none text Means) texts = (λ ok. tt, λ u. refl)
report-exact (one form report Means) texts =
    denotes-exact form 0 (text_at texts 0) (λ x. within (report x) false) (λ x. AreKept (report x).limits) (λ x. within-exact (report x) false)
report-exact (two first second report differs Lacks Means) texts =
    denotes-exact first 0 (text_at texts 0) (λ x. at_input 1 (second (text_at texts 1)) >>= λ y. within (report x y) (differs x y))
    (λ x. DenotesWith second (text_at texts 1) (λ y. AreKept (report x y).limits))
    (λ x. denotes-exact second 1 (text_at texts 1) (λ y. within (report x y) (differs x y)) (λ y. AreKept (report x y).limits) (λ y. within-exact (report x y) (differs x y)))
report-exact (tells first second limits differs Lacks Means) texts =
    denotes-exact first 0 (text_at texts 0) (λ x. at_input 1 (second (text_at texts 1)) >>= λ y. within (found_within (limits x y) []) (differs x y))
    (λ x. DenotesWith second (text_at texts 1) (λ y. AreKept (limits x y)))
    (λ x. denotes-exact second 1 (text_at texts 1) (λ y. within (found_within (limits x y) []) (differs x y)) (λ y. AreKept (limits x y))
    (λ y. within-exact (found_within (limits x y) []) (differs x y)))
report-exact (finds form limits Lacks Means) texts =
    denotes-exact form 0 (text_at texts 0) (λ x. within (found_within (limits x) []) false) (λ x. AreKept (limits x)) (λ x. within-exact (found_within (limits x) []) false)

reported : (made : Result Report Refusal) → IsOk (ended (as_report (as_unmade made))).end ↔ IsOk made
reported (Ok report) = (λ ok. refl, λ ok. refl)
reported (Err refused) = (λ ok. absurd (let z = ok in cc), λ ok. absurd (let z = ok in cc))

first-exact : (row : Row) → IsReadsFirst row → (contents : Contents) → IsOk (end_of row contents) ↔ IsAccepted row contents
first-exact (answers_as_it_reads row) is contents = absurd is
first-exact (reads_first row) is contents = by (texts_of contents) refl
  where
    by : (read : Result (List (List ℕ)) Unmade) → texts_of contents ≡ read
        → IsOk (ended (as_report (read >>= λ texts. as_unmade (report_by row [] texts)))).end ↔ IsAccepted (reads_first row) contents
    by (Ok texts) is = (
      λ ok. record { texts = texts; are = texts_of-is contents texts is; accepted = (report-exact row texts).0 ((reported (report_by row [] texts)).0 ok) },
      λ given.
          let same : given.texts ≡ texts = let z = sym (texts_of-gives contents given.texts given.are) ∙ is in cc in
          (reported (report_by row [] texts)).1 ((report-exact row texts).1 (subst (AcceptsBy row) same given.accepted)),
    )
    by (Err unmade) is = (λ ok. absurd (let z = ok in cc), λ given. absurd (let z = sym (texts_of-gives contents given.texts given.are) ∙ is in cc))

-- ---- the words of `simulate`

module _ (c : Cascade) (all : Bool) where
  -- the answer to bits, by whether they are as many as are asked for
  abbrev answer_by : List Bool → Bool → Option (List ℕ)
  answer_by bits same = if same then Some (answer_text c all (run c.gates (with_constants (marks_asked c all) bits))) else None

  -- a line that has an answer
  bits-only : (read : Option (List Bool)) (line : List ℕ) → line_bits line ≡ read → is_none (answer_to_bits c all read) ≡ false → IsWordFor c all line
  bits-only None line is answered = absurd (let z = answered in cc)
  bits-only (Some []) line is answered = record { bits = []; is = is; counted = inl refl }
  bits-only (Some (bit ∷ bits)) line is answered = by (length (bit ∷ bits) == input_count (marks_asked c all)) refl answered
    where
      by : (same : Bool) → (length (bit ∷ bits) == input_count (marks_asked c all)) ≡ same → is_none (answer_by (bit ∷ bits) same) ≡ false → IsWordFor c all line
      by true same answered = record { bits = bit ∷ bits; is = is; counted = inr (eqb-true (length (bit ∷ bits)) (input_count (marks_asked c all)) same) }
      by false same answered = absurd (let z = answered in cc)

  word-each : (line : List ℕ) → IsWordFor c all line → is_none (answer_to c all line) ≡ false
  word-each line w = ap (λ read. is_none (answer_to_bits c all read)) w.is ∙ by w.bits w.counted
    where
      by : (bits : List Bool) → (bits ≡ []) ⊎ (length bits ≡ input_count (marks_asked c all)) → is_none (answer_to_bits c all (Some bits)) ≡ false
      by [] counted = refl
      by (bit ∷ bits) (inl absent) = absurd (let z = absent in cc)
      by (bit ∷ bits) (inr counted) = ap (λ (same : Bool). is_none (answer_by (bit ∷ bits) same)) (eq-eqb (length (bit ∷ bits)) (input_count (marks_asked c all)) counted)

  wrong-only : (number : ℕ) (lines : List (List ℕ)) → wrong_line (answer_to c all) number lines ≡ None → All (IsWordFor c all) lines
  wrong-only number [] absent = All-nil (IsWordFor c all)
  wrong-only number (line ∷ lines) absent = by (wrong-only (number + 1) lines) (is_none (answer_to c all line)) refl absent
    where
      by : (wrong_line (answer_to c all) (number + 1) lines ≡ None → All (IsWordFor c all) lines) → (wrong : Bool) → is_none (answer_to c all line) ≡ wrong
          → (if wrong then Some number else wrong_line (answer_to c all) (number + 1) lines) ≡ None → All (IsWordFor c all) (line ∷ lines)
      by rest true is absent = absurd (let z = absent in cc)
      by rest false is absent = All-cons (IsWordFor c all) line lines (bits-only (line_bits line) line refl is) (rest absent)

  wrong-each : (number : ℕ) (lines : List (List ℕ)) → All (IsWordFor c all) lines → wrong_line (answer_to c all) number lines ≡ None
  wrong-each number [] words = refl
  wrong-each number (line ∷ lines) words =
      ap (λ (wrong : Bool). if wrong then Some number else wrong_line (answer_to c all) (number + 1) lines) (word-each line (All-head (IsWordFor c all) line lines words))
      ∙ wrong-each (number + 1) lines (All-tail (IsWordFor c all) line lines words)

-- words within the limit have no fault exactly if each line is a word
words-exact : (c : Cascade) (all : Bool) (words : List ℕ) → length words ≤ MOST_BYTES
    → IsOk (words_end (first_wrong c all words) words) ↔ All (IsWordFor c all) (lines_of words)
words-exact c all words short = by (first_wrong c all words) refl
  where
    within : first_wrong c all words ≡ wrong_line (answer_to c all) 1 (lines_of words)
    within = ap (wrong_line (answer_to c all) 1) (cond-false (nat_lt MOST_BYTES (length words)) (ended_after [] (take MOST_BYTES words)) (lines_of words) (le-ltb MOST_BYTES (length words) short))

    by : (wrong : Option ℕ) → first_wrong c all words ≡ wrong → IsOk (words_end wrong words) ↔ All (IsWordFor c all) (lines_of words)
    by None is = (
      λ ok. wrong-only c all 1 (lines_of words) (sym within ∙ is),
      λ right. ap (λ (e : End). is_ok e) (cond-false (nat_lt MOST_BYTES (length words)) (Err (fault.TooLong 1)) (Ok false) (le-ltb MOST_BYTES (length words) short)),
    )
    by (Some line) is = (λ ok. absurd (let z = ok in cc), λ right. absurd (let z = sym is ∙ within ∙ wrong-each c all 1 (lines_of words) right in cc))

words-long : (wrong : Option ℕ) (words : List ℕ) → MOST_BYTES < length words → IsOk (words_end wrong words) → ⊥
words-long (Some line) words long ok = let z = ok in cc
words-long None words long ok =
    let is : words_end None words ≡ Err (fault.TooLong 1) = cond-true (nat_lt MOST_BYTES (length words)) (Err (fault.TooLong 1)) (Ok false) (lt-ltb MOST_BYTES (length words) long) in
    let z = subst (λ end. IsOk end) is ok in cc

module _ (all : Bool) where
  abbrev row : Row
  row = answers_as_it_reads (simulate_row all)

  -- the end, by what the first input gives
  abbrev end_by : Option (List ℕ) → Result (List ℕ) Unmade → End
  end_by words first = (answered_by all words (first >>= λ text. as_unmade (at_input 0 (circuit text)))).end

  -- the texts, by what each input gives
  abbrev texts_by : Result (List ℕ) Unmade → Result (List ℕ) Unmade → Result (List (List ℕ)) Unmade
  texts_by first second = first >>= λ a. ((second >>= λ b. Ok (b ∷ [])) >>= λ rest. Ok (a ∷ rest))

  abbrev Simulates : Contents → Type 0
  Simulates contents = IsOk (simulated all contents).end ↔ IsAccepted row contents

  -- a fault of an input
  unread : (contents : Contents) (unmade : Unmade) → texts_of contents ≡ Err unmade → (IsOk (simulated all contents).end → ⊥) → Simulates contents
  unread contents unmade absent bad = (λ ok. absurd (bad ok), λ given. absurd (let z = sym absent ∙ texts_of-gives contents given.texts given.are in cc))

  -- without words, or with too many
  no_words : (first : Result Cascade (Option InputFault)) → IsOk (answered_by all None (as_unmade (at_input 0 first))).end → ⊥
  no_words (Ok c) ok = let z = ok in cc
  no_words (Err fault) ok = let z = ok in cc

  long_words : (first : Result Cascade (Option InputFault)) (words : List ℕ) → MOST_BYTES < length words → IsOk (answered_by all (Some words) (as_unmade (at_input 0 first))).end → ⊥
  long_words (Ok c) words long ok = words-long (first_wrong c all words) words long ok
  long_words (Err fault) words long ok = let z = ok in cc

  -- both inputs are read
  module _ (a b : List ℕ) (a_short : length a ≤ MOST_BYTES) (b_short : length b ≤ MOST_BYTES) where
    are : AreTexts (Some a ∷ Some b ∷ []) (a ∷ b ∷ [])
    are =
        let Short : List ℕ → Type 0 = λ text. length text ≤ MOST_BYTES in
        record { held = refl; short = All-cons Short a (b ∷ []) a_short (All-cons Short b [] b_short (All-nil Short)) }

    accepted_of : IsAccepted row (Some a ∷ Some b ∷ []) → Accepts row (a ∷ b ∷ [])
    accepted_of given =
        let same : given.texts ≡ a ∷ b ∷ [] =
        let z = sym (texts_of-gives (Some a ∷ Some b ∷ []) given.texts given.are) ∙ texts_of-gives (Some a ∷ Some b ∷ []) (a ∷ b ∷ []) are in cc in
        subst (Accepts row) same given.accepted

    end-is : (read : Result Cascade (Option InputFault)) → circuit a ≡ read
        → (simulated all (Some a ∷ Some b ∷ [])).end ≡ (answered_by all (Some b) (as_unmade (at_input 0 read))).end
    end-is read is = ap (end_by (Some b)) (content-short 0 a a_short) ∙ ap (λ r. (answered_by all (Some b) (as_unmade (at_input 0 r))).end) is

    read-by : (read : Result Cascade (Option InputFault)) → circuit a ≡ read → Simulates (Some a ∷ Some b ∷ [])
    read-by (Ok c) is =
        let exact = words-exact c all b b_short in (
          λ ok. record { texts = a ∷ b ∷ []; are = are; accepted = record { object = c; is = is; fact = exact.0 (subst (λ end. IsOk end) (end-is (Ok c) is) ok) } },
          λ given.
              let d = accepted_of given in
              let same : d.object ≡ c = let z = sym d.is ∙ is in cc in
              subst (λ end. IsOk end) (sym (end-is (Ok c) is)) (exact.1 (subst (λ c. All (IsWordFor c all) (lines_of b)) same d.fact)),
        )
    read-by (Err fault) is = (
      λ ok. absurd (let z = subst (λ end. IsOk end) (end-is (Err fault) is) ok in cc),
      λ given. absurd (let z = sym (accepted_of given).is ∙ is in cc),
    )

  after-circuit : (a : List ℕ) → length a ≤ MOST_BYTES → (second : Option (List ℕ)) → Simulates (Some a ∷ second ∷ [])
  after-circuit a short None =
      unread (Some a ∷ None ∷ []) (CannotRead 1) (ap (λ first. texts_by first (Err (CannotRead 1))) (content-short 0 a short))
      (λ ok. no_words (circuit a) (subst (λ end. IsOk end) (ap (end_by None) (content-short 0 a short)) ok))
  after-circuit a short (Some b) = elim (cases_lt MOST_BYTES (length b)) [
    | inl long ↦
        unread (Some a ∷ Some b ∷ []) (TooLong 1)
        (ap (λ first. texts_by first (content_or_fault 1 (Some b))) (content-short 0 a short) ∙ ap (texts_by (Ok a)) (content-long 1 b long))
        (λ ok. long_words (circuit a) b long (subst (λ end. IsOk end) (ap (end_by (Some b)) (content-short 0 a short)) ok))
    | inr b_short ↦ read-by a b short b_short (circuit a) refl
  ]

  simulate-exact : (first second : Option (List ℕ)) → Simulates (first ∷ second ∷ [])
  simulate-exact None second = unread (None ∷ second ∷ []) (CannotRead 0) refl (λ ok. let z = ok in cc)
  simulate-exact (Some a) second = elim (cases_lt MOST_BYTES (length a)) [
    | inl long ↦
        unread (Some a ∷ second ∷ []) (TooLong 0) (ap (λ first. texts_by first (content_or_fault 1 second)) (content-long 0 a long))
        (λ ok. let z = subst (λ end. IsOk end) (ap (end_by second) (content-long 0 a long)) ok in cc)
    | inr short ↦ after-circuit a short second
  ]

-- ---- each command

-- The law: for the both inputs of `simulate`, and any of the other commands.
pub accepted-exact : (doing : Command) (settings : Settings) (contents : Contents) → (doing ≡ Simulate → length contents ≡ 2)
    → IsOk (end_of (row_for doing settings) contents) ↔ IsAccepted (row_for doing settings) contents
accepted-exact Simulate settings [] both = absurd (omega (arith, both refl))
accepted-exact Simulate settings (first ∷ []) both = absurd (omega (arith, both refl))
accepted-exact Simulate settings (first ∷ (second ∷ [])) both = simulate-exact settings.all first second
accepted-exact Simulate settings (first ∷ (second ∷ (third ∷ rest))) both = absurd (omega (arith, both refl))
accepted-exact doing settings contents both = first-exact (row_for doing settings) tt contents

-- nothing is read, and so nothing refused
pub demo-accepted : (settings : Settings) → IsAccepted (row_for Demo settings) []
demo-accepted settings =
    let Short : List ℕ → Type 0 = λ text. length text ≤ MOST_BYTES in
    record { texts = []; are = record { held = refl; short = All-nil Short }; accepted = tt }
