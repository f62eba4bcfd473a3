use Rattle.std.proofs.Common.{◌∙◌, ap, length, sym}
use Rattle.rv_reduce.specs.Blocks.{block_of}
use Rattle.rv_reduce.proofs.Blocks.{length-exchange, length-toffoli}
use Rattle.rv_reduce.proofs.expanding.block_length.Goals as goal

pub returns-in-Ccx-clause-value : goal.returns-in-Ccx-clause-value
returns-in-Ccx-clause-value c = sym (ap (λ op. length (block_of op)) c.in-Ccx.is ∙ length-toffoli c.in-Ccx.field-0 c.in-Ccx.field-1 c.in-Ccx.field-2)

pub returns-in-Cswap-clause-value : goal.returns-in-Cswap-clause-value
returns-in-Cswap-clause-value c = sym (ap (λ op. length (block_of op)) c.in-Cswap.is ∙ length-exchange c.in-Cswap.field-0 c.in-Cswap.field-1 c.in-Cswap.field-2)
