use Rattle.std.proofs.Common.{◌∙◌, refl}
use Rattle.rv_blif.proofs.NameLaws.{pushed}
use Rattle.rv_blif.proofs.names.Names.push.Goals as goal

pub returns : goal.returns
returns c =
    pushed c.self.inside.set.keys c.insert.new.self.keys c.in_ok-own.own (rw (c.self.view_is, c.in_ok-own.ensures.items) c.requires) c.in_ok-insert.ensures.keys
    ∙ rw (c.self.view_is, c.in_ok-own.ensures.items) refl
