-- The test by sets whether a cube matches.
use Rattle.std.proofs.Common.{◌≡◌, ℕ, ◌^◌, ◌<◌, min, Bool, eqb, List, length, sym, ◌∙◌, ap, inl, inr, arith, eq-eqb}
use Rattle.std.specs.Prelude.{bit_xor, bit_and}
use Rattle.std.specs.Int.{bit_at}
use Rattle.std.proofs.lemmas.Bool.{cases_lt, eqb-true}
use Rattle.std.proofs.lemmas.Bool.Decides.{same_from_decides}
use Rattle.std.proofs.lemmas.Nat.Bits.{bit_at-zero, bit_at-lt, bit_at_xor, bit_at_and, bit_at_above, same_from_bits}
use Rattle.rv_gate.specs.Word.{word_of}
use Rattle.rv_gate.specs.inside.laws.WordLaws.{length-word_of}
use Rattle.rv_gate.proofs.LineSets.{bit_cases, has_one, bits_from_has}
use Rattle.rv_gate.proofs.inside.Ones.{has-ones_of}
use Rattle.rv_gate.proofs.inside.GateLemmas.{Hold, holds_Decides}
use Rattle.rv_pla.specs.Cube.{matches}
use Rattle.rv_pla.specs.declared.cube.Cube.{Cube}
use Rattle.rv_gate.specs.Word.{ones_of}
use Rattle.rv_pla.proofs.inside.Matching.{matches-holds}

-- ---- the test by sets

hold_from_sets : (care want : ℕ) (word : List Bool) → bit_and (bit_xor (ones_of word) want) care ≡ 0 → Hold care want word
hold_from_sets care want word e line within on =
    let c1 : bit_at care line ≡ 1 = has_one care line on in
    let m : min (bit_at (bit_xor (ones_of word) want) line) (bit_at care line) ≡ 0 = sym (bit_at_and (bit_xor (ones_of word) want) care line) ∙ ap (λ z. bit_at z line) e ∙ bit_at-zero line in
    let s = bit_at_xor (ones_of word) want line in
    let bo = bit_at-lt (ones_of word) line in
    let bw = bit_at-lt want line in
    let same : bit_at (ones_of word) line ≡ bit_at want line = omega arith in
    sym (has-ones_of word line) ∙ ap (λ b. eqb b 1) same

sets_from_hold : (care want : ℕ) (word : List Bool) → care < 2 ^ length word → Hold care want word → bit_and (bit_xor (ones_of word) want) care ≡ 0
sets_from_hold care want word small h =
    same_from_bits _ 0 (λ i.
    bit_at_and (bit_xor (ones_of word) want) care i
    ∙ (elim (bit_cases care i) [
      | inl z ↦ omega arith
      | inr one ↦
          (elim (cases_lt i (length word)) [
            | inr past ↦ let z = bit_at_above care (length word) i small past in omega arith
            | inl lt ↦
                let same : bit_at (ones_of word) i ≡ bit_at want i = bits_from_has (ones_of word) i want i (has-ones_of word i ∙ h i lt (eq-eqb _ 1 one)) in
                let s = bit_at_xor (ones_of word) want i in
                let bw = bit_at-lt want i in
                omega arith
          ])
    ])
    ∙ sym (bit_at-zero i))

pub matches_by_sets : (cube : Cube) (n number set : ℕ) → set ≡ ones_of (word_of n number) → cube.care < 2 ^ n
    → eqb (bit_and (bit_xor set cube.want) cube.care) 0 ≡ matches cube (word_of n number)
matches_by_sets cube n number set is small =
    grind (
      arith,
      word_of,
      length-word_of,
      bit_and,
      bit_xor,
      same_from_decides,
      hold_from_sets,
      eqb-true,
      eq-eqb,
      sets_from_hold,
      holds_Decides,
      matches-holds,
    )

pub ruleset matched = (matches_by_sets)

-- a cube matches the words that hold its controls
pub ruleset held = (matches-holds)
