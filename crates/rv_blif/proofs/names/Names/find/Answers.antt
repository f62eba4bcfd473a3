use Rattle.std.proofs.Common.{◌∙◌, ap, sym}
use Rattle.std.specs.List.{position}
use Rattle.std.specs.Str.{bytes_eq}
use Rattle.rv_blif.proofs.NameLaws.{bytes_of}
use Rattle.rv_blif.proofs.names.Names.find.Goals as goal
use Rattle.rv_gate.proofs.NameLemmas.{position-map}

pub returns : goal.returns
returns c =
    c.get_index_of.ensures.index
    ∙ sym (position-map bytes_of (bytes_eq c.args.name.now) c.self.inside.set.keys)
    ∙ ap (position (bytes_eq c.args.name.now)) c.self.view_is
