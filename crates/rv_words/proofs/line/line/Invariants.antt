use Rattle.std.proofs.Common.{◌≡◌, take}
use Rattle.std.specs.List.{fold}
use Rattle.clap.specs.Words.{app_of}
use Rattle.rv_words.specs.Line.{command_line, with_option_at}
use Rattle.rv_words.proofs.line.line.Given as goal

abbrev pub invariant-loop-place : goal.invariant-loop-place
invariant-loop-place l = app_of l.line ≡ fold with_option_at command_line (take l.place-index l.places)
