-- All inputs were read, and then what is made of them was written.
use Rattle.std.proofs.Common.{◌≡◌, ℕ, ◌+◌, ◌<◌, ◌≤◌, Bool, true, List, [], ◌∷◌, length, map, Some, Result, Ok, Err, refl, ap, sym, subst, ◌∙◌, inl, inr, arith}
use Rattle.std.specs.Prelude.{IfErr, IfOk}
use Rattle.std.proofs.lemmas.List.{length-map}
use Rattle.rv_io.specs.Files.{FilesView}
use Rattle.rv_io.specs.Sink.{SinkView, GrewByPrefix}
use Rattle.rv_reader.specs.Rules.{◌>>=◌}
use Rattle.rv_faults.specs.declared.fault.Fault.{Fault}
use Rattle.rv_faults.specs.declared.fault.Fault.TheVariants.{CannotWrite}
use Rattle.rv_faults.specs.declared.fault.Refusal.{Refusal}
use Rattle.rv_faults.specs.declared.fault.Refusal.TheVariants as refusal
use Rattle.rv_faults.specs.declared.fault.Unmade.{Unmade}
use Rattle.rv_faults.specs.declared.fault.Unmade.TheVariants.{CannotRead, Refused, TooLong, OutOfMemory}
use Rattle.rv_faults.specs.Fault.{fault_of}
use Rattle.rv_text.specs.declared.lines.TheConstants.{MOST_BYTES}
use Rattle.rv_inputs.specs.Contents.{AreShort, StaysAmong, held_as, texts_of}
use Rattle.rv_inputs.proofs.Contained.{texts_from-held}
use Rattle.rv_cmd.specs.declared.product.Made.{Made}
use Rattle.rv_cmd.specs.Headline.{Performs}
use Rattle.rv_cmd.specs.Limits.{Report}
use Rattle.rv_cmd.specs.Row.{End, Outcome, ReadsFirst, Row, answers_as_it_reads, as_report, as_unmade, ended, reads_first, report_by}
use Rattle.rv_cmd.specs.inside.Making.{MakesBy}
use Rattle.rv_cmd.specs.inside.Products.{product_text, report_of}
use Rattle.rv_cmd.specs.inside.Sending.{IsBroken, IsWhole}

abbrev asked_by : ReadsFirst → List ℕ → Result (List (List ℕ)) Unmade → Outcome
asked_by row found texts = ended (as_report (texts >>= λ texts. as_unmade (report_by row found texts)))

-- the outcome of texts that were read
outcome-read : (row : ReadsFirst) (found : List ℕ) (texts : List (List ℕ)) (result : Result Report Refusal) → AreShort texts → report_by row found texts ≡ result
    → asked_by row found (texts_of (held_as texts)) ≡ ended (as_report (as_unmade result))
outcome-read row found texts result short is = ap (asked_by row found) (texts_from-held 0 texts short) ∙ ap (λ r. ended (as_report (as_unmade r))) is

place-among : (names : List (List ℕ)) (old new : FilesView) (input : ℕ) → input < length names → StaysAmong names old new
    → new.is_started ≡ true → new.place ≤ MOST_BYTES + 1
place-among [] old new input named s started = absurd (omega (arith, named))
place-among (name ∷ names) old new input named s started = s.stays.place started

-- nothing is made
pub performs_unmade : (row : Row) (names : List (List ℕ)) (old new : FilesView) (out : SinkView) (it : Unmade) → MakesBy row names old new (Err it)
    → Performs row names (record { files = old; out = out }) (record { files = new; out = out }) (Err (fault_of it))
performs_unmade (answers_as_it_reads row) names old new out it u = absurd u
performs_unmade (reads_first row) names old new out (CannotRead input) u = record {
  contents = map old.held names;
  counted = length-map names old.held;
  told = λ tells. refl;
  ends = record {
    named = u.unmade.named;
    opened = u.unmade.opened;
    place = place-among names old new input u.unmade.named u.keeps.stays;
    cause = elim u.unmade.cause [
      | inl none ↦ inl (record { told = none.0; faulty = record { asked = ap (λ texts. (asked_by row [] texts).end) none.1; leaves = refl } })
      | inr rose ↦ inr (record { rose = rose; unstarted = λ _. refl; before = record { written = []; has_written = refl; leaves = refl } })
    ];
  };
}
performs_unmade (reads_first row) names old new out (Refused input why) u =
    let texts = u.unmade.1.texts in record {
      contents = held_as texts;
      counted = length-map texts (λ text. Some text) ∙ u.unmade.1.read.counted;
      told = u.unmade.1.read.told;
      ends = record {
        named = u.unmade.0;
        faulty = elim u.unmade.1.is [
          | inl is ↦ inl (record { asked = ap (λ o. o.end) (outcome-read row [] texts (Err (refusal.Refused input why)) u.unmade.1.read.short is); leaves = refl })
          | inr lacks ↦ inr (record {
            lacks = record {
              texts = texts;
              are = record { held = refl; short = u.unmade.1.read.short };
              refusal = refusal.Refused input why;
              lacks = lacks;
              is = refl;
            };
            unsent = refl;
          })
        ];
        read = u.unmade.1.read.read;
      };
    }
performs_unmade (reads_first row) names old new out (TooLong input) u = record {
  contents = u.unmade.contents;
  counted = u.unmade.counted;
  told = u.unmade.told;
  ends = record {
    named = u.unmade.named;
    faulty = record { asked = ap (λ texts. (asked_by row [] texts).end) u.unmade.faulty; leaves = refl };
    started = u.unmade.started;
    place = u.unmade.place;
  };
}
performs_unmade (reads_first row) names old new out OutOfMemory u = record {
  contents = map old.held names;
  counted = length-map names old.held;
  told = λ tells. refl;
  ends = record { unsent = refl; stays = u.keeps.stays };
}

-- what was made was sent whole
performs_whole : (row : Row) (names : List (List ℕ)) (old new : FilesView) (out sent : SinkView) (made : Made)
    → MakesBy row names old new (Ok made) → IsWhole (product_text made.product) out sent
    → Performs row names (record { files = old; out = out }) (record { files = new; out = sent }) (Ok made.differs)
performs_whole (answers_as_it_reads row) names old new out sent made m whole = absurd m
performs_whole (reads_first row) names old new out sent made m whole = record {
  contents = held_as m.made.texts;
  counted = length-map m.made.texts (λ text. Some text) ∙ m.made.read.counted;
  told = m.made.read.told;
  ends = record {
    writes = record {
      texts = m.made.texts;
      held = refl;
      short = m.made.read.short;
      text = product_text made.product;
      sent = whole.sent;
      flushed = whole.flushed;
      means = m.made.report.means;
    };
    asked = outcome-read row (product_text made.product) m.made.texts (Ok (report_of made)) m.made.read.short m.made.report.is;
    read = m.made.read.read;
  };
}

-- a prefix of it was sent
performs_broken : (row : Row) (names : List (List ℕ)) (old new : FilesView) (out sent : SinkView) (made : Made)
    → MakesBy row names old new (Ok made) → IsBroken (product_text made.product) out sent
    → Performs row names (record { files = old; out = out }) (record { files = new; out = sent }) (Err CannotWrite)
performs_broken (answers_as_it_reads row) names old new out sent made m broken = absurd m
performs_broken (reads_first row) names old new out sent made m broken =
    let is = outcome-read row (product_text made.product) m.made.texts (Ok (report_of made)) m.made.read.short m.made.report.is in
    let Q : Outcome → Type 0 = λ o. GrewByPrefix out.sent o.text sent.sent in record {
      contents = held_as m.made.texts;
      counted = length-map m.made.texts (λ text. Some text) ∙ m.made.read.counted;
      told = m.made.read.told;
      ends = record {
        found = product_text made.product;
        rose = broken.rose;
        begun = record {
          texts = m.made.texts;
          held = refl;
          report = report_of made;
          asked = is;
          means = m.made.report.means;
          read = m.made.read.read;
        };
        prefix = subst Q (sym is) broken.prefix;
      };
    }

-- what was made was written, or a call of the output failed
pub performs_written : (row : Row) (names : List (List ℕ)) (old new : FilesView) (out sent : SinkView) (made : Made) (end : End)
    → MakesBy row names old new (Ok made) → IfOk end (λ differs. (differs ≡ made.differs) × IsWhole (product_text made.product) out sent)
    → IfErr end (λ fault. (fault ≡ CannotWrite) × IsBroken (product_text made.product) out sent)
    → Performs row names (record { files = old; out = out }) (record { files = new; out = sent }) end
performs_written row names old new out sent made (Ok differs) m whole broken =
    let By : Bool → Type 0 = λ says. Performs row names (record { files = old; out = out }) (record { files = new; out = sent }) (Ok says) in
    subst By (sym whole.0) (performs_whole row names old new out sent made m whole.1)
performs_written row names old new out sent made (Err fault) m whole broken =
    let By : Fault → Type 0 = λ by. Performs row names (record { files = old; out = out }) (record { files = new; out = sent }) (Err by) in
    subst By (sym broken.0) (performs_broken row names old new out sent made m broken.1)
