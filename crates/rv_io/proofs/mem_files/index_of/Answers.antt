use Rattle.std.proofs.Common.{rules, tests}
use Rattle.std.proofs.lemmas.Iterator.{YieldsList-from_slice}
use Rattle.std.proofs.lemmas.Iterator.Search.{position_from_yields_List}
use Rattle.rv_io.proofs.inside.Lookup.{first_held, is_named, none_held}
use Rattle.rv_io.proofs.mem_files.index_of.Goals as goal

pub returns-clause-none : goal.returns-clause-none
returns-clause-none c = none_held c.args.name.now c.args.entries.now c.position.result
    (position_from_yields_List (is_named c.args.name.now) _ _ _ c.position.ensures.ran (YieldsList-from_slice c.args.entries.now cc) (λ x b q k. search (rules, tests)))

pub returns-clause-first : goal.returns-clause-first
returns-clause-first c = first_held c.args.name.now c.args.entries.now c.position.result
    (position_from_yields_List (is_named c.args.name.now) _ _ _ c.position.ensures.ran (YieldsList-from_slice c.args.entries.now cc) (λ x b q k. search (rules, tests)))
