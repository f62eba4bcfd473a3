-- The test for UTF-8.
use Rattle.std.proofs.Common.{◌≡◌, ℕ, true, false, List, inl, inr}
use Rattle.std.proofs.lemmas.Bool.{cases_Bool}
use Rattle.std.proofs.lemmas.Str.{IsUtf8-from_is_utf8, is_utf8-from_IsUtf8}
use Rattle.std.specs.Str.{IsUtf8, is_utf8}

pub utf8_found : (bytes : List ℕ) → IsUtf8 bytes → is_utf8 bytes ≡ true
utf8_found bytes is = is_utf8-from_IsUtf8 bytes is

pub none : (bytes : List ℕ) → (IsUtf8 bytes → ⊥) → is_utf8 bytes ≡ false
none bytes never = elim (cases_Bool (is_utf8 bytes)) [ inl found ↦ absurd (never (IsUtf8-from_is_utf8 bytes found)) | inr other ↦ other ]
