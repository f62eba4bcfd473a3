use Rattle.std.proofs.Common.{◌≡◌, length, sym, ap, ◌∙◌, rules, vec_len}
use Rattle.rv_qasm.proofs.inside.Flat.{length-cut_at}
use Rattle.rv_qasm.proofs.tokens.Tokens.len.Goals as goal

pub returns : goal.returns
returns c =
    let is : vec_len c.self.inside.starts ≡ length c.self.inside.starts.items = search rules in
    c.len.ensures ∙ is ∙ sym (length-cut_at c.self.inside.starts.items c.self.inside.bytes.items) ∙ ap length c.self.view_is
