use Rattle.std.proofs.Common.{◌≡◌, ◌≤◌, ◌+◌, true}
use Rattle.rv_io.specs.Files.{Keeps}
use Rattle.rv_text.specs.declared.lines.TheConstants.{MOST_BYTES}
use Rattle.rv_reader.specs.inside.Fed.{IsFed}
use Rattle.rv_reader.proofs.FileLemmas.{IsAt}
use Rattle.rv_reader.proofs.file.read_file.Given as goal

-- no call failed, and the bytes that were read so far were fed, unless the reader has refused a front of them
abbrev pub invariant-loop-count : goal.invariant-loop-count
invariant-loop-count g l = let old = g.F.Files.view l.fn.files in let now = g.F.Files.view l.files in let of = g.R.TextReader in record {
  keeps : Keeps old now;
  started : now.is_started ≡ true;
  uncounted : now.faults ≡ old.faults;
  place : now.place + l.left ≡ MOST_BYTES;
  room : of.fed l.reader + l.left ≤ MOST_BYTES;
  at : IsAt l.name old now (IsFed of.Stands of.refusal of.mem of.denoted l.is_fed l.reader);
}

abbrev pub decreases-loop-count : goal.decreases-loop-count
decreases-loop-count g l = l.left
