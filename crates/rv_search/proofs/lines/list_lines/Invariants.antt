use Rattle.std.proofs.Common.{◌≡◌, ◌≤◌, take, length}
use Rattle.rv_gate.specs.Word.{has}
use Rattle.rv_mct.specs.Blocks.{count}
use Rattle.rv_search.specs.Lines.{ListsTo}
use Rattle.rv_search.proofs.lines.list_lines.Given as goal

abbrev pub invariant-loop-line : goal.invariant-loop-line
invariant-loop-line l =
    record {
      room : length l.room ≡ length l.initial.room;
      few : l.count ≤ l.line;
      value : l.count ≡ count (has l.set) l.line;
      lists : ListsTo l.set l.line (take l.count l.room);
    }
