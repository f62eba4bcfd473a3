-- What a step on a line gave, unless memory ran out.
use Rattle.std.specs.Prelude.{◌≡◌, ℕ, Result, Ok, Err}
use Rattle.rv_reader.specs.declared.stop.Stop.{Stop}
use Rattle.rv_reader.specs.declared.stop.Stop.TheVariants as stops

-- a step that stopped for a fault was to stop for it
abbrev pub Fails : {Y : Type 0} → Stop → Result Y ℕ → Type 0
Fails (stops.Fault code) want = want ≡ Err code
Fails stops.Mem want = Unit {0}

-- a step on a value that is now `new`
abbrev pub StepGives : {X Y : Type 0} → Result X Stop → Y → Result Y ℕ → Type 0
StepGives (Ok x) new want = want ≡ Ok new
StepGives (Err stop) new want = Fails stop want
