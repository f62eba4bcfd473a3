use Rattle.std.proofs.Common.{refl}
use Rattle.rv_reader.specs.inside.Progress.{progress_of}
use Rattle.rv_reader.proofs.reader.ReaderTextReader.new.Goals as goal

pub returns-clause-stands : goal.returns-clause-stands
unfolding progress_of
returns-clause-stands g c = record { progress = rw (c.new.ensures.empty, c.new-2.ensures.start) refl }
