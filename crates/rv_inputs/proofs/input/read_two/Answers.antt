use Rattle.rv_inputs.specs.Formats.{format}
use Rattle.rv_inputs.proofs.Two.{has_objects, reads_both, reads_first, unread-after, unread-first, unread-second, unread-text}
use Rattle.rv_inputs.proofs.input.read_two.Goals as goal
use Rattle.rv_inputs.proofs.input.read_two.Goals.{in-Ok-read_input-2, in-Err-read_input-2}

pub returns-in-Ok-read_input-clause-read : goal.returns-in-Ok-read_input-clause-read
returns-in-Ok-read_input-clause-read g c =
    has_objects (format g.R.TextReader.denoted g.R.InputText.why) (format g.S.TextReader.denoted g.S.InputText.why) c.args.first.now c.args.second.now
    (g.F.Files.view c.args.files.now) (g.F.Files.view c.read_input.new.files) (g.F.Files.view c.read_input-in-Ok.new.files) c.read_input.ensures.keeps
    c.in-Ok.object c.in-Ok-read_input.other c.in-Ok.ensures.read c.in-Ok-read_input.ensures.read

pub returns-in-Err-read_input-clause-unread : goal.returns-in-Err-read_input-clause-unread
returns-in-Err-read_input-clause-unread g c =
    unread-second (format g.R.TextReader.denoted g.R.InputText.why) (format g.S.TextReader.denoted g.S.InputText.why) c.args.first.now c.args.second.now
    (g.F.Files.view c.args.files.now) (g.F.Files.view c.read_input.new.files) (g.F.Files.view c.read_input-in-Ok.new.files) c.read_input.ensures.keeps
    c.in-Ok.object c.in-Err-read_input.unmade c.in-Ok.ensures.read c.in-Err-read_input.ensures.unread

pub returns-after-read_input-3-clause-unread : goal.returns-after-read_input-3-clause-unread
returns-after-read_input-3-clause-unread g c =
    let first = format g.R.TextReader.denoted g.R.InputText.why in
    let second = format g.S.TextReader.denoted g.S.InputText.why in
    let old = g.F.Files.view c.args.files.now in
    let mid = g.F.Files.view c.read_input.new.files in
    let new = g.F.Files.view c.read_input-in-Refused.new.files in
    elim c.match-read_input-3.branch [
      | in-Ok-read_input-2 w ↦
          rw w.result-is
          (unread-text first second c.args.first.now c.args.second.now old mid new c.read_input.ensures.keeps c.in-Err.unmade c.in-Refused.input c.in-Refused.why c.in-Refused.is
          c.in-Err.ensures.unread w.in-Ok-read_input-2.ensures.read)
      | in-Err-read_input-2 w ↦
          rw w.result-is (rw w.first_told.ensures
          (unread-after first second c.args.first.now c.args.second.now old mid new c.read_input.ensures.keeps c.in-Err.unmade w.in-Err-read_input-2.other c.in-Refused.input c.in-Refused.why
          c.in-Refused.is c.in-Err.ensures.unread w.in-Err-read_input-2.ensures.unread))
    ]

pub returns-in_default-clause-unread : goal.returns-in_default-clause-unread
returns-in_default-clause-unread g c =
    unread-first (format g.R.TextReader.denoted g.R.InputText.why) (format g.S.TextReader.denoted g.S.InputText.why) c.args.first.now c.args.second.now
    (g.F.Files.view c.args.files.now) (g.F.Files.view c.read_input.new.files) c.in-Err.unmade c.in-Err.ensures.unread c.in_default.not-Refused

pub returns-in-Ok-read_input-clause-keeps : goal.returns-in-Ok-read_input-clause-keeps
returns-in-Ok-read_input-clause-keeps g c =
    reads_both c.args.first.now c.args.second.now (g.F.Files.view c.args.files.now) (g.F.Files.view c.read_input.new.files) (g.F.Files.view c.read_input-in-Ok.new.files)
    c.read_input.ensures.keeps c.read_input-in-Ok.ensures.keeps c.read_input-in-Ok.ensures.stays

pub returns-in-Err-read_input-clause-keeps : goal.returns-in-Err-read_input-clause-keeps
returns-in-Err-read_input-clause-keeps g c =
    reads_both c.args.first.now c.args.second.now (g.F.Files.view c.args.files.now) (g.F.Files.view c.read_input.new.files) (g.F.Files.view c.read_input-in-Ok.new.files)
    c.read_input.ensures.keeps c.read_input-in-Ok.ensures.keeps c.read_input-in-Ok.ensures.stays

pub returns-after-read_input-3-clause-keeps : goal.returns-after-read_input-3-clause-keeps
returns-after-read_input-3-clause-keeps g c =
    reads_both c.args.first.now c.args.second.now (g.F.Files.view c.args.files.now) (g.F.Files.view c.read_input.new.files) (g.F.Files.view c.read_input-in-Refused.new.files)
    c.read_input.ensures.keeps c.read_input-in-Refused.ensures.keeps c.read_input-in-Refused.ensures.stays

pub returns-in_default-clause-keeps : goal.returns-in_default-clause-keeps
returns-in_default-clause-keeps g c =
    reads_first c.args.first.now c.args.second.now (g.F.Files.view c.args.files.now) (g.F.Files.view c.read_input.new.files) c.read_input.ensures.keeps c.read_input.ensures.stays
