use Rattle.std.proofs.Common.{sym, ◌∙◌, arith}
use Rattle.rv_gate.proofs.NameLemmas.{IsName-numbered_name, length-numbered, numbered-free, numbered-more}
use Rattle.rv_gate.proofs.names.Names.append_numbered.Goals as goal

pub append-requires : goal.append-requires
append-requires c =
    let prefix = c.args.prefix in
    let line = c.args.line in
    rw (c.requires.so_far, c.in_ok-name.ensures)
    (record {
      name = IsName-numbered_name prefix line c.requires.letter (omega arith);
      free = numbered-free prefix line (omega arith);
      room = rw (length-numbered prefix line) (omega arith);
    })

pub returns : goal.returns
returns c =
    c.in_ok-append.ensures.ok
    ∙ rw (c.requires.so_far, c.in_ok-name.ensures) (sym (numbered-more c.args.prefix c.args.line))
