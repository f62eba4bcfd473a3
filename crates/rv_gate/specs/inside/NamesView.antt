-- What contracts see of the set in which names are kept.
use Rattle.std.specs.Prelude.{ℕ, List, map}
use Rattle.std.specs.Global.{Vec}
use Rattle.std.specs.declared.hash.FoldHasher.{FoldHasher}
use Rattle.std.specs.declared.hash.BuildHasherDefault.{BuildHasherDefault}
use Rattle.indexmap.specs.IndexSet.{IndexSet}

-- the names that a set holds, in their order
abbrev pub names_view : IndexSet (Vec ℕ) (BuildHasherDefault FoldHasher) → List (List ℕ)
names_view set = map (λ name. name.items) set.keys
