use Rattle.std.proofs.Common.{◌++◌, sym, ap, ◌∙◌}
use Rattle.rv_qasm.specs.inside.Reached.{progress_kept, gave}
use Rattle.rv_qasm.proofs.inside.Steps.{kept_stopped, read_so_far, took_stopped, took_on, first_taken, first_stopped, holds_stopped}
use Rattle.rv_qasm.proofs.reader.QasmReaderTextReader.feed.Goals as goal

pub returns-in-Some-clause-first : goal.returns-in-Some-clause-first
returns-in-Some-clause-first c = λ text stood.
    let kept = sym (ap (λ o. progress_kept o c.self.inside.reached) c.in-Some.is) ∙ ap (λ r. r.progress) c.self.view_is in
    first_stopped c.in-Some.fault (text ++ c.args.piece.now) (kept_stopped c.args.self.now c.in-Some.fault text c.args.piece.now kept stood)

pub returns-in-Some-clause-holds : goal.returns-in-Some-clause-holds
returns-in-Some-clause-holds c = λ text stood.
    let kept = sym (ap (λ o. progress_kept o c.self.inside.reached) c.in-Some.is) ∙ ap (λ r. r.progress) c.self.view_is in
    holds_stopped c.in-Some.fault (text ++ c.args.piece.now) (kept_stopped c.args.self.now c.in-Some.fault text c.args.piece.now kept stood)

pub returns-in-Ok-clause-stands : goal.returns-in-Ok-clause-stands
returns-in-Ok-clause-stands c = λ text stood.
    let is = sym (ap (λ o. progress_kept o c.self.inside.reached) c.in-None.is) ∙ ap (λ r. r.progress) c.self.view_is in
    let read = read_so_far c.args.self.now c.self.inside.reached text is stood in
    record { progress = ap (λ o. progress_kept o c.take.new.self) c.in-None.is ∙ sym (ap gave (took_on c.self.inside.reached c.take.new.self text c.args.piece.now read c.in-Ok.ensures.steps)) }

pub returns-in-Ok-clause-first : goal.returns-in-Ok-clause-first
returns-in-Ok-clause-first c = λ text stood.
    let is = sym (ap (λ o. progress_kept o c.self.inside.reached) c.in-None.is) ∙ ap (λ r. r.progress) c.self.view_is in
    let read = read_so_far c.args.self.now c.self.inside.reached text is stood in
    first_taken c.take.new.self (text ++ c.args.piece.now) (took_on c.self.inside.reached c.take.new.self text c.args.piece.now read c.in-Ok.ensures.steps)

pub returns-in-Err-clause-first : goal.returns-in-Err-clause-first
returns-in-Err-clause-first c = λ text stood.
    let is = sym (ap (λ o. progress_kept o c.self.inside.reached) c.in-None.is) ∙ ap (λ r. r.progress) c.self.view_is in
    let read = read_so_far c.args.self.now c.self.inside.reached text is stood in
    first_stopped c.in-Err.fault (text ++ c.args.piece.now) (took_stopped c.self.inside.reached c.take.new.self c.in-Err.fault text c.args.piece.now read c.in-Err.ensures.steps)

pub returns-in-Err-clause-holds : goal.returns-in-Err-clause-holds
returns-in-Err-clause-holds c = λ text stood.
    let is = sym (ap (λ o. progress_kept o c.self.inside.reached) c.in-None.is) ∙ ap (λ r. r.progress) c.self.view_is in
    let read = read_so_far c.args.self.now c.self.inside.reached text is stood in
    holds_stopped c.in-Err.fault (text ++ c.args.piece.now) (took_stopped c.self.inside.reached c.take.new.self c.in-Err.fault text c.args.piece.now read c.in-Err.ensures.steps)
