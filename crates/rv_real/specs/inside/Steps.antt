-- What a line gave, unless memory ran out.
use Rattle.std.specs.Prelude.{◌≡◌, ℕ, Bool, Option, Some, None, Result, Ok, Err}
use Rattle.rv_reader.specs.declared.stop.Stop.{Stop}
use Rattle.rv_reader.specs.Gives.{Fails}
use Rattle.rv_gate.specs.Circuit.{Cascade}
use Rattle.rv_real.specs.inside.Directives.{Header}
use Rattle.rv_real.specs.declared.line.State.{State}
use Rattle.rv_real.specs.declared.line.State.TheVariants.{Gates}
use Rattle.rv_real.specs.inside.State.{in_header, in_body}

-- a line of a header that is now `new`, or at which the body begins
abbrev pub GivesHeader : Result (Option Cascade) Stop → Header → Result State ℕ → Type 0
GivesHeader (Ok None) new want = want ≡ Ok (in_header new)
GivesHeader (Ok (Some c)) new want = want ≡ Ok (in_body c)
GivesHeader (Err stop) new want = Fails stop want

-- the same, where the header is a state
abbrev pub GivesState : Result (Option Cascade) Stop → State → Result State ℕ → Type 0
GivesState (Ok None) new want = want ≡ Ok new
GivesState (Ok (Some c)) new want = want ≡ Ok (in_body c)
GivesState (Err stop) new want = Fails stop want

-- a line of a body whose circuit is now `new`, and whether it ends there
abbrev pub GivesBody : Result Bool Stop → Cascade → Result State ℕ → Type 0
GivesBody (Ok is_ended) new want = want ≡ Ok (Gates new is_ended)
GivesBody (Err stop) new want = Fails stop want
