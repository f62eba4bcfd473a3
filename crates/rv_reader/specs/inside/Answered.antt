-- What a part of a step on a line answered, unless memory ran out.
use Rattle.std.specs.Prelude.{◌≡◌, ℕ, Result, Ok, Err}
use Rattle.rv_reader.specs.declared.stop.Stop.{Stop}
use Rattle.rv_reader.specs.Gives.{Fails}

-- a step that answers a value, by how contracts see it
abbrev pub GivesValue : {X Y : Type 0} → (X → Y) → Result X Stop → Result Y ℕ → Type 0
GivesValue view (Ok x) want = want ≡ Ok (view x)
GivesValue view (Err stop) want = Fails stop want
