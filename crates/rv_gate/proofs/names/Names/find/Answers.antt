use Rattle.std.proofs.Common.{sym, ◌∙◌, ap, Some}
use Rattle.std.proofs.lemmas.Slice.Eq.{bytes_eq-Decides}
use Rattle.rv_gate.proofs.NameLemmas.{hinted}
use Rattle.rv_gate.proofs.names.Names.find.Goals as goal

pub returns-then-eq-clause-found : goal.returns-then-eq-clause-found
returns-then-eq-clause-found c =
    let same = (bytes_eq-Decides c.name.result.now c.args.name.now).0 (sym c.eq.ensures ∙ c.if-eq.true) in
    (hinted c.args.self.now c.args.name.now _ c.len.ensures.valid.apart (c.name.ensures ∙ ap Some same)).found

pub returns-then-eq-clause-absent : goal.returns-then-eq-clause-absent
returns-then-eq-clause-absent c =
    let same = (bytes_eq-Decides c.name.result.now c.args.name.now).0 (sym c.eq.ensures ∙ c.if-eq.true) in
    (hinted c.args.self.now c.args.name.now _ c.len.ensures.valid.apart (c.name.ensures ∙ ap Some same)).absent
