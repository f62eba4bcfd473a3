-- Cursors stay right while words are used more often.
use Rattle.std.proofs.Common.{◌≡◌, ℕ, ◌+◌, ◌<◌, ◌^◌, List, length, set, get_or, ◌∙◌, refl, subst, arith, sym}
use Rattle.std.proofs.lemmas.List.{get_or_default}
use Rattle.std.proofs.Math.Pow.{pow_pos}
use Rattle.std.proofs.lemmas.List.Elements.{All-set, All-weaker}
use Rattle.rv_embed.specs.inside.Rows.{IsCursor, AreCursors}
use Rattle.rv_embed.specs.declared.least_used.Cursor.{Cursor}
use Rattle.rv_embed.specs.declared.cursors.Slot.{Slot}
use Rattle.rv_embed.proofs.inside.Counting.{set_hit}

counted : (n care want v : ℕ) (counts : List ℕ) (c : Cursor) → v < length counts → IsCursor care want n counts c → IsCursor care want n (set counts v (get_or counts v 0 + 1)) c
counted n care want v counts c h b = record {
  within = b.within;
  passed = b.passed;
  level = λ z l f. let s = set_hit counts v z h in let t = b.level z l f in omega arith;
  before = λ z l f. let s = set_hit counts v z h in let t = b.before z l f in omega arith;
}

-- a free slot
pub starts_free : (n : ℕ) (counts : List ℕ) → IsCursor 0 0 (2 ^ n) counts (record { level = 0; word = 0 })
starts_free n counts = record { within = pow_pos n; passed = refl; level = λ z l f. omega arith; before = λ z l f. absurd (omega arith) }

-- one more use of the word that was found, and its cursor kept in a slot
pub kept : (n at word now : ℕ) (counts : List ℕ) (slots : List Slot) (s : Slot) → AreCursors n counts slots → IsCursor s.care s.want (2 ^ n) counts s.cursor
    → length counts ≡ 2 ^ n → word ≡ s.cursor.word → now ≡ get_or counts word now → AreCursors n (set counts word (now + 1)) (set slots at s)
kept n at word now counts slots s all own len same read =
    let w = own.within in
    let within : word < length counts = omega arith in
    let r : now ≡ get_or counts word 0 = read ∙ get_or_default counts word now 0 within in
    let P : Slot → Type 0 = λ t. IsCursor t.care t.want (2 ^ n) counts t.cursor in
    let Q : Slot → Type 0 = λ t. IsCursor t.care t.want (2 ^ n) (set counts word (get_or counts word 0 + 1)) t.cursor in
    let R : ℕ → Type 0 = λ k. AreCursors n (set counts word (k + 1)) (set slots at s) in
    subst R (sym r) (All-weaker P Q (λ t b. counted (2 ^ n) t.care t.want word counts t.cursor within b) (set slots at s) (All-set P slots at s own all))
