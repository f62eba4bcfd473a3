-- What entries allow.
use Rattle.std.proofs.Common.{arith}
use Rattle.std.proofs.Common.{◌≡◌, Bool, true, false}
use Rattle.rv_pla.specs.Zeros.{bit_for}
use Rattle.rv_pla.specs.FreeEntries.{is_dont_care, allows}
use Rattle.rv_pla.specs.declared.entry.Entry.{Entry}

pub allows_own : (e : Entry) → allows e (bit_for e) ≡ true
allows_own e = grind arith

-- an entry that isn't free allows its own bit alone
pub allowed_bit : (e : Entry) (b : Bool) → is_dont_care e ≡ false → allows e b ≡ true → b ≡ bit_for e
allowed_bit e b h h1 = grind arith
