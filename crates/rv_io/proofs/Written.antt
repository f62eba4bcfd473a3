-- What a writer holds and sends of a text.
use Rattle.std.proofs.Common.{◌≡◌, ◌∙◌, ℕ, Bool, false, List, [], ◌++◌, Result, Ok, Err, refl, ap, sym, subst, arith, append_assoc}
use Rattle.std.proofs.lemmas.List.{append-nil}
use Rattle.rv_io.specs.declared.sink.WriteFault.{WriteFault}
use Rattle.rv_io.specs.Sink.{SinkView, grown, flushed_after, Sends}
use Rattle.rv_io.specs.Writer.{Adds, Writer, Writes}
use Rattle.std.specs.Result.{is_err}
use Rattle.rv_io.proofs.Sent.{grown-none, grown-grown, prefix_after, prefix_longer, flushed_after-append, flushed_before}

-- more of the text is held
pub writes_held : (base now : SinkView) (text held more : List ℕ) (failed : Bool) → Writes base text (record { held = held; has_failed = failed }) now
    → Writes base (text ++ more) (record { held = held ++ more; has_failed = failed }) now
writes_held base now text held more failed w = record {
  later = w.later;
  fine = λ f. let u = w.fine f in record { done = u.done; parts = ap (λ t. t ++ more) u.parts ∙ append_assoc u.done held more; sent = u.sent; flushed = u.flushed; uncounted = u.uncounted };
  failed = λ f. let cut = w.failed f in record { rose = cut.rose; prefix = prefix_longer base.sent text more now.sent cut.prefix; unflushed = cut.unflushed };
}

-- what is held is sent
pub writes_sent : (base old now : SinkView) (text held : List ℕ) (result : Result (Unit {0}) WriteFault) → Writes base text (record { held = held; has_failed = false }) old
    → Sends old held result now → Writes base text (record { held = []; has_failed = is_err result }) now
writes_sent base old now text held (Ok tt) w s = let u = w.fine refl in record {
  later = omega (arith, w.later, s.later);
  fine = λ _. record {
    done = text;
    parts = sym (append-nil text);
    sent = s.sent ∙ ap (λ sent. grown sent held) u.sent ∙ grown-grown base.sent u.done held ∙ ap (grown base.sent) (sym u.parts);
    flushed = s.flushed ∙ ap (λ flag. flushed_after flag held) u.flushed ∙ flushed_after-append base.is_flushed u.done held ∙ ap (flushed_after base.is_flushed) (sym u.parts);
    uncounted = s.uncounted ∙ u.uncounted;
  };
  failed = λ f. cc;
}
writes_sent base old now text held (Err e) w s = let u = w.fine refl in record {
  later = omega (arith, w.later, s.later);
  fine = λ f. cc;
  failed = λ _. record {
    rose = omega (arith, w.later, s.fault);
    prefix = rw u.parts (prefix_after base.sent u.done held now.sent (rw u.sent at s.prefix));
    unflushed = λ is. flushed_before base.is_flushed u.done (sym u.flushed ∙ s.unflushed is);
  };
}

-- a writer that holds nothing
abbrev pub empty : Writer
empty = record { held = []; has_failed = false }

pub writes_none : (base : SinkView) → Writes base [] empty base
writes_none base = record {
  later = omega arith;
  fine = λ _. record { done = []; parts = refl; sent = grown-none base.sent; flushed = refl; uncounted = refl };
  failed = λ f. absurd cc;
}

-- what the end of a writer sends of all that was given to it
abbrev pub Finishes : Writer → SinkView → Result (Unit {0}) WriteFault → SinkView → Type 0
Finishes writer now result final = (base : SinkView) (text : List ℕ) → Writes base text writer now → Sends base text result final

-- what was given to a new writer is sent at its end
pub sends_added : {new writer : Writer} {old now final : SinkView} (text : List ℕ) (result : Result (Unit {0}) WriteFault) → new ≡ empty → Adds new old text writer now
    → Finishes writer now result final → Sends old text result final
sends_added {writer = writer} {old = old} {now = now} text result none adds finishes =
    finishes old text ((subst (λ w. Adds w old text writer now) none adds).written old [] (writes_none old))
