-- How `simulate` performs: a circuit is read, and words are answered by it.
use Rattle.std.proofs.Common.{◌≡◌, ℕ, ◌+◌, ◌<◌, ◌≤◌, Bool, true, false, List, [], ◌∷◌, length, map, Option, Some, None, Result, Ok, Err, nat_lt, refl, ap, sym, subst, ◌∙◌, inl, inr, arith}
use Rattle.std.proofs.lemmas.Bool.{cond-true, cond-false, le-ltb, lt-ltb}
use Rattle.std.proofs.lemmas.List.Elements.{All-cons, All-nil}
use Rattle.rv_io.specs.Faults.{Rose}
use Rattle.rv_io.specs.Files.{FilesView, Keeps, ReadingFails}
use Rattle.rv_io.specs.Sink.{SinkView, IsFlushed, GrewByPrefix, grown}
use Rattle.rv_gate.specs.Circuit.{Cascade}
use Rattle.rv_reader.specs.Files.{IsReadToEnd}
use Rattle.rv_reader.specs.Rules.{◌>>=◌}
use Rattle.rv_simulate.specs.Simulation.{answers_of, first_wrong}
use Rattle.rv_simulate.specs.SimulationEnds.{HasContent, Simulates}
use Rattle.rv_simulate.specs.declared.simulation.WordsEnd.TheVariants as end
use Rattle.rv_text.specs.declared.lines.TheConstants.{MOST_BYTES}
use Rattle.rv_faults.specs.declared.fault.Fault.{Fault}
use Rattle.rv_faults.specs.declared.fault.Fault.TheVariants as fault
use Rattle.rv_faults.specs.declared.fault.InputFault.TheVariants.{Text}
use Rattle.rv_faults.specs.declared.fault.Refusal.TheVariants as refusal
use Rattle.rv_faults.specs.declared.fault.TextFormat.TheVariants.{Words}
use Rattle.rv_faults.specs.declared.fault.Unmade.{Unmade}
use Rattle.rv_faults.specs.declared.fault.Unmade.TheVariants.{CannotRead, Refused, TooLong, OutOfMemory}
use Rattle.rv_faults.specs.Fault.{fault_of}
use Rattle.rv_faults.proofs.Lines.{prefix_whole}
use Rattle.rv_inputs.specs.Contents.{Contents, StaysAt, content_or_fault}
use Rattle.rv_inputs.specs.Formats.{at_input, circuit}
use Rattle.rv_inputs.specs.Reading.{IsUnreadInput}
use Rattle.rv_inputs.proofs.Contained.{content-short, too_long_content}
use Rattle.rv_cmd.specs.Commands.Simulate.{HasCircuit, HasStartedWords, answered, answered_by, simulate_row, simulated, words_end}
use Rattle.rv_cmd.specs.Headline.{Performs}
use Rattle.rv_cmd.specs.Row.{End, Outcome, Row, answers_as_it_reads, as_unmade}
use Rattle.rv_cmd.specs.inside.Sending.{IsUnflushed}
use Rattle.rv_cmd.specs.inside.Simulating.{IsReady}
use Rattle.rv_io.proofs.Sent.{grown-none}

abbrev pub row : Bool → Row
row all = answers_as_it_reads (simulate_row all)

-- ---- the circuit isn't read, or is refused

-- the outcome by what the first input gives
abbrev after_first : Bool → Option (List ℕ) → Result (List ℕ) Unmade → Outcome
after_first all words first = answered_by all words (first >>= λ text. as_unmade (at_input 0 (circuit text)))

abbrev after_circuit : Bool → Option (List ℕ) → Result Cascade Unmade → Outcome
after_circuit all words c = answered_by all words c

pub performs_unready : (all : Bool) (a b : List ℕ) (old new : FilesView) (out : SinkView) (it : Unmade) → StaysAt a old new → IsUnreadInput circuit 0 a old new it
    → Performs (row all) (a ∷ b ∷ []) (record { files = old; out = out }) (record { files = new; out = out }) (Err (fault_of it))
performs_unready all a b old new out (CannotRead i) stays u =
    let P : ℕ → Type 0 = λ n. Performs (row all) (a ∷ b ∷ []) (record { files = old; out = out }) (record { files = new; out = out }) (Err (fault.CannotRead n)) in
    let f : ReadingFails a old new = u.1 in
    subst P (sym u.0) (record {
      contents = old.held a ∷ old.held b ∷ [];
      counted = refl;
      told = λ tells. refl;
      ends = record {
        named = omega arith;
        opened = f.started;
        place = stays.place;
        cause = elim f.cause [
          | inl rose ↦ inr (record { rose = rose; unstarted = λ _. refl; before = record { written = []; has_written = refl; leaves = refl } })
          | inr none ↦ inl (record {
            told = none.0;
            faulty = record { asked = ap (λ first. (after_first all (old.held b) (content_or_fault 0 first)).end) none.1; leaves = refl };
          })
        ];
      };
    })
performs_unready all a b old new out (Refused i why) stays u =
    let P : ℕ → Type 0 = λ n. Performs (row all) (a ∷ b ∷ []) (record { files = old; out = out }) (record { files = new; out = out }) (Err (fault.Refused n why)) in
    let r : IsReadToEnd a old new (λ bytes. at_input 0 (circuit bytes) ≡ Err (refusal.Refused i why)) = u.1 in
    let why_is = r.fact ∙ ap (λ (n : ℕ). Err (refusal.Refused n why)) u.0 in
    subst P (sym u.0) (record {
      contents = Some r.bytes ∷ old.held b ∷ [];
      counted = refl;
      told = λ tells. ap (λ held. held ∷ old.held b ∷ []) (sym (r.held tells));
      ends = record {
        named = omega arith;
        faulty = inl (record {
          asked = ap (λ first. (after_first all (old.held b) first).end) (content-short 0 r.bytes r.limited) ∙ ap (λ c. (after_circuit all (old.held b) (as_unmade c)).end) why_is;
          leaves = refl;
        });
        read = record { started = record { started = r.started; opened = r.opened }; place = r.place };
      };
    })
performs_unready all a b old new out (TooLong i) stays u =
    let P : ℕ → Type 0 = λ n. Performs (row all) (a ∷ b ∷ []) (record { files = old; out = out }) (record { files = new; out = out }) (Err (fault.TooLong n)) in
    let c = too_long_content old a old.tells refl u.1.told in
    subst P (sym u.0) (record {
      contents = c.content ∷ old.held b ∷ [];
      counted = refl;
      told = λ tells. ap (λ held. held ∷ old.held b ∷ []) (c.told tells);
      ends = record {
        named = omega arith;
        faulty = record { asked = ap (λ first. (after_first all (old.held b) first).end) (c.faulty 0); leaves = refl };
        started = record { started = u.1.started; opened = u.1.opened };
        place = u.1.place;
      };
    })
performs_unready all a b old new out OutOfMemory stays u = record {
  contents = old.held a ∷ old.held b ∷ [];
  counted = refl;
  told = λ tells. refl;
  ends = record { unsent = refl; stays = stays };
}

-- the circuit is read, and answers words
pub performs_ready : (all : Bool) (a b : List ℕ) (c : Cascade) (old mid new : FilesView) (out sent : SinkView) (result : Result Bool Fault)
    → IsReadToEnd a old mid (λ bytes. circuit bytes ≡ Ok c) → Keeps old mid
    → ((first : List ℕ) (start : FilesView) → IsReady c first start mid
    → Performs (row all) (first ∷ b ∷ []) (record { files = start; out = out }) (record { files = new; out = sent }) result)
    → Performs (row all) (a ∷ b ∷ []) (record { files = old; out = out }) (record { files = new; out = sent }) result
performs_ready all a b c old mid new out sent result r keeps answers =
    answers a old (record { text = r.bytes; told = r.held; short = r.limited; is = r.fact; keeps = keeps })

-- ---- words are answered

abbrev IsShort : List ℕ → Type 0
IsShort text = length text ≤ MOST_BYTES

end-right : (c : Cascade) (all : Bool) (words : List ℕ) → first_wrong c all words ≡ None → length words ≤ MOST_BYTES → words_end (first_wrong c all words) words ≡ Ok false
end-right c all words right short =
    ap (λ wrong. words_end wrong words) right ∙ cond-false (nat_lt MOST_BYTES (length words)) (Err (fault.TooLong 1)) (Ok false) (le-ltb MOST_BYTES (length words) short)

end-long : (c : Cascade) (all : Bool) (words : List ℕ) → first_wrong c all words ≡ None → MOST_BYTES < length words → words_end (first_wrong c all words) words ≡ Err (fault.TooLong 1)
end-long c all words right longer =
    ap (λ wrong. words_end wrong words) right ∙ cond-true (nat_lt MOST_BYTES (length words)) (Err (fault.TooLong 1)) (Ok false) (lt-ltb MOST_BYTES (length words) longer)

module _ (all : Bool) (c : Cascade) (a b : List ℕ) (start mid new : FilesView) (out sent : SinkView) (ready : IsReady c a start mid) where
  -- the contents, by what the second input holds
  abbrev with_words : Option (List ℕ) → Contents
  with_words words = Some ready.text ∷ words ∷ []

  told : (words : Option (List ℕ)) → (start.tells ≡ true → start.held b ≡ words) → start.tells ≡ true → with_words words ≡ map start.held (a ∷ b ∷ [])
  told words held tells =
      ap (λ first. first ∷ words ∷ []) (sym (ready.told tells)) ∙ ap (λ second. start.held a ∷ second ∷ []) (sym (held tells))

  told_text : {P : List ℕ → Type 0} (w : HasContent mid b P) → start.tells ≡ true → with_words (Some w.bytes) ≡ map start.held (a ∷ b ∷ [])
  told_text w = told (Some w.bytes) (λ tells. sym (ready.keeps.held b) ∙ w.held (ready.keeps.tells ∙ tells))

  -- the outcome, by the circuit
  outcome-ready : (words : Option (List ℕ)) → simulated all (with_words words) ≡ answered all words c
  outcome-ready words =
      ap (after_first all words) (content-short 0 ready.text ready.short)
      ∙ ap (λ read. after_circuit all words (as_unmade (at_input 0 read))) ready.is

  -- the circuit is read
  has_circuit : (words : Option (List ℕ)) → HasCircuit (with_words words)
  has_circuit words = record { text = ready.text; object = c; held = refl; is = ready.is }

  -- and the words are started
  has_begun : (words : Option (List ℕ)) → (mid.tells ≡ true → new.is_started ≡ true → new.is_opened b ≡ true) → new.is_started ≡ true → HasStartedWords (a ∷ b ∷ []) (with_words words) start new
  has_begun words named started = (has_circuit words, record { started = started; opened = λ tells. named (ready.keeps.tells ∙ tells) started })

  -- all words were answered, and the answers flushed
  pub performs_done : (last : SinkView) → (mid.tells ≡ true → new.is_started ≡ true → new.is_opened b ≡ true) → Simulates c all b mid new out sent end.Done → IsFlushed sent last
      → Performs (row all) (a ∷ b ∷ []) (record { files = start; out = out }) (record { files = new; out = last }) (Ok false)
  performs_done last named s f =
      let w = s.content in
      let Text : End → Outcome = λ e. record { text = answers_of c all w.bytes; end = e } in record {
        contents = with_words (Some w.bytes);
        counted = refl;
        told = told_text w;
        ends = record {
          writes = record {
            texts = ready.text ∷ w.bytes ∷ [];
            held = refl;
            short = All-cons IsShort ready.text (w.bytes ∷ []) ready.short (All-cons IsShort w.bytes [] w.fact.limited (All-nil IsShort));
            text = answers_of c all w.bytes;
            sent = f.sent ∙ w.fact.sent;
            flushed = f.flushed;
            means = record { object = c; is = ready.is; fact = record { right = w.fact.right; answers = refl } };
          };
          asked = outcome-ready (Some w.bytes) ∙ ap Text (end-right c all w.bytes w.fact.right w.fact.limited);
          read = record { started = record { started = s.started; opened = λ tells. named (ready.keeps.tells ∙ tells) s.started }; place = w.fact.whole };
        };
      }

  -- but the flush failed
  pub performs_unflushed : (last : SinkView) → out.faults ≤ sent.faults → (mid.tells ≡ true → new.is_started ≡ true → new.is_opened b ≡ true) → Simulates c all b mid new out sent end.Done → IsUnflushed sent last
      → Performs (row all) (a ∷ b ∷ []) (record { files = start; out = out }) (record { files = new; out = last }) (Err fault.CannotWrite)
  performs_unflushed last later named s f =
      let w = s.content in
      let Q : Outcome → Type 0 = λ o. GrewByPrefix out.sent o.text last.sent in record {
        contents = with_words (Some w.bytes);
        counted = refl;
        told = told_text w;
        ends = record {
          found = [];
          rose = omega (arith, later, f.rose);
          begun = has_begun (Some w.bytes) named s.started;
          prefix = subst Q (sym (outcome-ready (Some w.bytes))) (prefix_whole (answers_of c all w.bytes) out last (f.sent ∙ w.fact.sent));
        };
      }

  -- a line is wrong
  pub performs_wrong : (line : ℕ) → (mid.tells ≡ true → new.is_started ≡ true → new.is_opened b ≡ true) → Simulates c all b mid new out sent (end.Wrong line)
      → Performs (row all) (a ∷ b ∷ []) (record { files = start; out = out }) (record { files = new; out = sent }) (Err (fault.Refused 1 (Text Words line 0)))
  performs_wrong line named s =
      let w = s.content in
      let is = outcome-ready (Some w.bytes) in record {
        contents = with_words (Some w.bytes);
        counted = refl;
        told = told_text w;
        ends = record {
          named = omega arith;
          faulty = inl (record {
            asked = ap (λ o. o.end) is ∙ ap (λ wrong. words_end wrong w.bytes) w.fact.first;
            leaves = w.fact.sent ∙ ap (λ o. grown out.sent o.text) (sym is);
          });
          read = (
            record { started = s.started; opened = λ tells. named (ready.keeps.tells ∙ tells) s.started },
            record {
              text = ready.text;
              words = w.bytes;
              first = refl;
              second = refl;
              wrong = record {
                object = c;
                is = ready.is;
                fact = record { line = line; found = w.fact.first; is = w.fact.is; within = w.fact.within; reached = w.fact.reached };
              };
            },
          );
        };
      }

  -- the words are too long
  pub performs_too_long : (mid.tells ≡ true → new.is_started ≡ true → new.is_opened b ≡ true) → Simulates c all b mid new out sent end.TooLong
      → Performs (row all) (a ∷ b ∷ []) (record { files = start; out = out }) (record { files = new; out = sent }) (Err (fault.TooLong 1))
  performs_too_long named s =
      let w = s.content in
      let is = outcome-ready (Some w.bytes) in record {
        contents = with_words (Some w.bytes);
        counted = refl;
        told = told_text w;
        ends = record {
          named = omega arith;
          faulty = record {
            asked = ap (λ o. o.end) is ∙ end-long c all w.bytes w.fact.right w.fact.longer;
            leaves = w.fact.sent ∙ ap (λ o. grown out.sent o.text) (sym is);
          };
          started = record { started = s.started; opened = λ tells. named (ready.keeps.tells ∙ tells) s.started };
          place = s.place;
        };
      }

  -- a call of the output failed
  pub performs_unsent : (mid.tells ≡ true → new.is_started ≡ true → new.is_opened b ≡ true) → Simulates c all b mid new out sent end.Write
      → Performs (row all) (a ∷ b ∷ []) (record { files = start; out = out }) (record { files = new; out = sent }) (Err fault.CannotWrite)
  performs_unsent named s =
      let w = s.content in
      let Q : Outcome → Type 0 = λ o. GrewByPrefix out.sent o.text sent.sent in record {
        contents = with_words (Some w.bytes);
        counted = refl;
        told = told_text w;
        ends = record {
          found = [];
          rose = s.rose;
          begun = has_begun (Some w.bytes) named s.started;
          prefix = subst Q (sym (outcome-ready (Some w.bytes))) w.fact;
        };
      }

  -- of words that aren't held nothing is started
  unstarted : (started : Bool) → new.is_started ≡ started → Simulates c all b mid new out sent end.Read → mid.tells ≡ true → mid.held b ≡ None → new.is_started ≡ false
  unstarted false is s tells absent = is
  unstarted true is s tells absent = absurd (let w = s.content is in let z = sym absent ∙ w.held tells in cc)

  place : Simulates c all b mid new out sent end.Read → new.is_started ≡ true → new.place ≤ MOST_BYTES + 1
  place s started = omega (arith, s.place started)

  -- a read of them failed, once they were started or before
  cut_off : (started : Bool) → new.is_started ≡ started → (start.tells ≡ true → new.is_started ≡ true → new.is_opened b ≡ true) → Rose start.faults new.faults → Simulates c all b mid new out sent end.Read
      → Performs (row all) (a ∷ b ∷ []) (record { files = start; out = out }) (record { files = new; out = sent }) (Err (fault.CannotRead 1))
  cut_off false is opened rose s = record {
    contents = with_words (start.held b);
    counted = refl;
    told = told (start.held b) (λ tells. refl);
    ends = record {
      named = omega arith;
      opened = opened;
      place = place s;
      cause = inr (record {
        rose = rose;
        unstarted = s.unstarted;
        before = record {
          written = [];
          has_written = inl (is, refl, has_circuit (start.held b));
          leaves = ap (λ (view : SinkView). view.sent) (s.unstarted is) ∙ grown-none out.sent;
        };
      });
    };
  }
  cut_off true is opened rose s =
      let w = s.content is in record {
        contents = with_words (Some w.bytes);
        counted = refl;
        told = told_text w;
        ends = record {
          named = omega arith;
          opened = opened;
          place = place s;
          cause = inr (record {
            rose = rose;
            unstarted = s.unstarted;
            before = record {
              written = _;
              has_written = inr (record {
                text = ready.text;
                words = w.bytes;
                first = refl;
                second = refl;
                answered = record { object = c; is = ready.is; fact = record { within = w.fact.within; right = w.fact.right; answers = refl } };
              });
              leaves = w.fact.sent;
            };
          });
        };
      }

  -- the words were not read to their end
  pub performs_cut : (mid.tells ≡ true → new.is_started ≡ true → new.is_opened b ≡ true) → Simulates c all b mid new out sent end.Read
      → Performs (row all) (a ∷ b ∷ []) (record { files = start; out = out }) (record { files = new; out = sent }) (Err (fault.CannotRead 1))
  performs_cut named s =
      let opened : start.tells ≡ true → new.is_started ≡ true → new.is_opened b ≡ true = λ tells. named (ready.keeps.tells ∙ tells) in elim s.cause [
        | inl rose ↦ cut_off new.is_started refl opened (omega (arith, rose, ready.keeps.later)) s
        | inr none ↦
            let tells : start.tells ≡ true = sym ready.keeps.tells ∙ none.0 in
            let absent : start.held b ≡ None = sym (ready.keeps.held b) ∙ none.1 in
            let is = outcome-ready None in record {
              contents = with_words None;
              counted = refl;
              told = told None (λ _. absent);
              ends = record {
                named = omega arith;
                opened = opened;
                place = place s;
                cause = inl (record {
                  told = tells;
                  faulty = record {
                    asked = ap (λ o. o.end) is;
                    leaves = ap (λ (view : SinkView). view.sent) (s.unstarted (unstarted new.is_started refl s none.0 none.1)) ∙ grown-none out.sent ∙ ap (λ o. grown out.sent o.text) (sym is);
                  };
                });
              };
            }
      ]
