-- The parts of a text, as they are sent.
use Rattle.std.proofs.Common.{◌≡◌, ◌++◌, sym}
use Rattle.rv_text.specs.Spelled.{spelled}
use Rattle.rv_text.proofs.Pieces.{spelled-append}
use Rattle.rv_marks.specs.Row.{mark_lines}
use Rattle.rv_perm.specs.Marked.{Marked}
use Rattle.rv_perm.specs.Text.{number_lines, text_of}

pub text_parts : (m : Marked) → spelled (mark_lines m.constants m.garbage) ++ spelled (number_lines m.table.images) ≡ text_of m
unfolding text_of
text_parts m = sym (spelled-append (mark_lines m.constants m.garbage) (number_lines m.table.images))
