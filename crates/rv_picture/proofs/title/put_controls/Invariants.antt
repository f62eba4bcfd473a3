use Rattle.std.proofs.Common.{◌≡◌, ℕ, List, ◌++◌, length}
use Rattle.rv_io.specs.Writer.{Adds}
use Rattle.rv_text.specs.Spelled.{more_words}
use Rattle.rv_gate.specs.Gate.{Within}
use Rattle.rv_real.specs.Text.{controls_from}
use Rattle.rv_picture.specs.Titles.{written_names}
use Rattle.rv_picture.proofs.title.put_controls.Given as goal

abbrev pub invariant-loop-left : goal.invariant-loop-left
invariant-loop-left g l = record {
  within : Within l.left (length l.names);
  done : List (List ℕ);
  parts : done ++ controls_from 0 (written_names l.names) l.left l.want ≡ controls_from 0 (written_names l.names) l.care l.want;
  adds : Adds l.initial.writer (g.O.Sink.view l.initial.sink) (more_words done) l.writer (g.O.Sink.view l.sink);
}

abbrev pub decreases-loop-left : goal.decreases-loop-left
decreases-loop-left g l = l.left
