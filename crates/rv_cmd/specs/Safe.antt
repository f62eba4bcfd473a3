-- Files that never fail and hold every name, and an output that takes every byte.
use Rattle.std.specs.Prelude.{◌≡◌, ◌⊎◌, ℕ, map, Result, Ok, Err}
use Rattle.rv_io.specs.NullSink.{NullSink, null_view}
use Rattle.rv_io.specs.SafeFiles.{SafeFiles, safe_view}
use Rattle.rv_words.specs.declared.asked.Settings.{Settings}
use Rattle.rv_words.specs.declared.fault.ArgumentFault.{ArgumentFault}
use Rattle.rv_faults.specs.Arguments.{status_of_arguments}
use Rattle.rv_cmd.specs.Commands.{row_of}
use Rattle.rv_cmd.specs.Headline.{EndsLacking, Scene}
use Rattle.rv_cmd.specs.Names.{names_read}
use Rattle.rv_cmd.specs.Row.{end_of, status_of_end}

-- the files and the output, at one moment
abbrev pub scene_of : SafeFiles → NullSink → Scene
scene_of files out = record { files = safe_view files; out = null_view out }

-- the status is that of what the arguments and the contents ask for, or it is 6, or a search ended without a text
abbrev pub IsSafeBy : Result Settings ArgumentFault → Scene → ℕ → Type 0
IsSafeBy (Err fault) old status = (status ≡ status_of_arguments fault) ⊎ (status ≡ 6)
IsSafeBy (Ok settings) old status =
    (let row = row_of settings in let contents = map old.files.held (names_read settings) in
    (status ≡ status_of_end (end_of row contents)) ⊎ ((status ≡ 6) ⊎ EndsLacking row contents status))
