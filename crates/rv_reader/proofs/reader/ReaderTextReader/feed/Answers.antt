use Rattle.std.proofs.Common.{◌++◌, Ok, Err, subst}
use Rattle.rv_reader.specs.Feeding.{Answers, text_as}
use Rattle.rv_reader.specs.declared.text_refusal.TextRefusal.TheVariants.{Mem as OutOfMemory}
use Rattle.rv_reader.proofs.inside.FeedLemmas.{stands_on}
use Rattle.rv_reader.proofs.inside.FormatLemmas.{fault_found, taken, refused, stays_refused}
use Rattle.rv_reader.proofs.reader.ReaderTextReader.feed.Goals as goal

pub returns-in-Ok-clause-stands : goal.returns-in-Ok-clause-stands
returns-in-Ok-clause-stands g c = λ text stood. stands_on g.S.Format.rules (Ok tt) c.args.self.now c.feed_all.new.self text c.args.piece.now stood c.in-Ok.ensures.gives

pub returns-in-Ok-clause-first : goal.returns-in-Ok-clause-first
returns-in-Ok-clause-first g c = λ text stood.
    subst (Answers (g.S.Format.as_fault OutOfMemory) (Ok tt)) (fault_found g.S.Format.rules (text_as g.S.Format.as_fault) g.S.Format.fault_in (text ++ c.args.piece.now) g.met.S.Format.finds)
    (taken g.S.Format.rules g.S.Format.as_fault g.S.Format.end_of c.args.self.now c.feed_all.new.self text c.args.piece.now stood c.in-Ok.ensures.gives)

pub returns-in-Err-clause-first : goal.returns-in-Err-clause-first
returns-in-Err-clause-first g c = λ text stood. rw c.fault.ensures
    (subst (Answers (g.S.Format.as_fault OutOfMemory) (Err (g.S.Format.as_fault c.in-Err.refusal))) (fault_found g.S.Format.rules (text_as g.S.Format.as_fault) g.S.Format.fault_in (text ++ c.args.piece.now) g.met.S.Format.finds)
    (refused g.S.Format.rules g.S.Format.as_fault g.S.Format.end_of c.args.self.now c.feed_all.new.self text c.args.piece.now c.in-Err.refusal stood c.in-Err.ensures.gives))

pub returns-in-Err-clause-holds : goal.returns-in-Err-clause-holds
returns-in-Err-clause-holds g c = λ text stood. rw c.fault.ensures (stays_refused g.S.Format.rules g.S.Format.as_fault g.S.Format.end_of g.S.Format.denoted g.met.S.Format.denotes c.args.self.now c.feed_all.new.self text c.args.piece.now c.in-Err.refusal stood c.in-Err.ensures.gives)
