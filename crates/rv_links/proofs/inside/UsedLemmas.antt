-- Lines that gates read and change.
use Rattle.std.proofs.Common.{◌≡◌, ℕ, ◌+◌, ◌<◌, true, false, not, List, length, set, sym, ◌∙◌, ap, inl, inr, arith, length-set, get_or-set_same, get_or-set_other}
use Rattle.std.specs.Prelude.{bit_or}
use Rattle.std.proofs.lemmas.Bool.{cases_eq, cases_Bool, cond-true, cond-false, false≢true, false_from_ne_true, and_from, or_cases, or_left, or_right}
use Rattle.rv_gate.specs.declared.gate.Shape.{Shape}
use Rattle.rv_gate.specs.Word.{has}
use Rattle.rv_gate.specs.Gate.{controls, targets, touched, is_flip}
use Rattle.rv_gate.specs.Commuting.{meet, opposed, rule}
use Rattle.rv_gate.proofs.LineSets.{Apart, has-or}
use Rattle.rv_gate.proofs.Commuting.{meet_at, apart}
use Rattle.rv_links.specs.inside.Chains.{blank, gate_at}
use Rattle.rv_links.specs.inside.Used.{read_by, Uses, UsesAll}

pub uses_more : (read changed read2 changed2 : ℕ) (g : Shape) → Uses read changed g → Uses (bit_or read read2) (bit_or changed changed2) g
uses_more read changed read2 changed2 g u = record {
  reads = λ line t. has-or read read2 line ∙ or_left (has read line) (has read2 line) (u.reads line t);
  changes = λ line t. has-or changed changed2 line ∙ or_left (has changed line) (has changed2 line) (u.changes line t);
}

pub uses_own : (read changed : ℕ) (g : Shape) → Uses (bit_or read (read_by g)) (bit_or changed (targets g)) g
uses_own read changed g = record {
  reads = λ line t. has-or read (read_by g) line ∙ or_right (has read line) (has (read_by g) line) t;
  changes = λ line t. has-or changed (targets g) line ∙ or_right (has changed line) (has (targets g) line) t;
}

-- of one gate more
pub uses_next : (read changed read2 changed2 : ℕ) (gates : List Shape) (i : ℕ) (g : Shape) → g ≡ gate_at gates i → read2 ≡ read_by g → changed2 ≡ targets g
    → ((id : ℕ) → id < i → Uses read changed (gate_at gates id)) → (id : ℕ) → id < i + 1 → Uses (bit_or read read2) (bit_or changed changed2) (gate_at gates id)
uses_next read changed read2 changed2 gates i g e r c before id lt =
    elim (cases_eq id i) [
      | inl same ↦ rw (same, ← e, r, c) (uses_own read changed g)
      | inr ne ↦ uses_more read changed read2 changed2 (gate_at gates id) (before id (omega (arith, lt, ne)))
    ]

pub uses_set : (read changed read2 changed2 : ℕ) (gates : List Shape) (id : ℕ) (g : Shape) → id < length gates → read2 ≡ read_by g → changed2 ≡ targets g
    → UsesAll read changed gates → UsesAll (bit_or read read2) (bit_or changed changed2) (set gates id g)
uses_set read changed read2 changed2 gates id g lt r c u x l =
    elim (cases_eq x id) [
      | inl e ↦ rw (e, get_or-set_same gates id g blank lt, r, c) (uses_own read changed g)
      | inr ne ↦ rw (get_or-set_other gates id x g blank ne) (uses_more read changed read2 changed2 (gate_at gates x) (u x (omega (arith, l, length-set gates id g))))
    ]

pub no_meet : (x y : ℕ) → Apart x y → not (meet x y) ≡ true
no_meet x y off = ap not (false_from_ne_true (meet x y) (λ m. let f = meet_at x y m in false≢true (sym (off f.0 f.1) ∙ f.2)))

-- a flip whose target is not read and whose controls are not changed
pub free_rule : (g h : Shape) (read changed : ℕ) → is_flip g ≡ true → meet (targets g) read ≡ false → meet (controls g) changed ≡ false → Uses read changed h → rule g h ≡ true
unfolding rule
free_rule g h read changed flip unread unchanged u =
    let off = apart (targets g) read unread in
    let still = apart (controls g) changed unchanged in
    let changes : Apart (targets h) (controls g) = λ line t. false_from_ne_true (has (controls g) line) (λ on. false≢true (sym (still line on) ∙ u.changes line t)) in
    let reads : Apart (targets g) (read_by h) = λ line t. false_from_ne_true (has (read_by h) line) (λ on. false≢true (sym (off line t) ∙ u.reads line on)) in
    or_right (opposed g h) _
    (elim (cases_Bool (is_flip h)) [
      | inl also ↦
          let r : read_by h ≡ controls h = cond-true (is_flip h) (controls h) (touched h) also in
          rw (flip, also) (and_from _ _ (no_meet (targets g) (controls h) (rw r at reads)) (no_meet (targets h) (controls g) changes))
      | inr other ↦
          let r : read_by h ≡ touched h = cond-false (is_flip h) (controls h) (touched h) other in
          let reads2 : Apart (targets g) (touched h) = rw r at reads in
          let both : Apart (targets h) (touched g) =
          λ line t. false_from_ne_true (has (touched g) line) (λ on. elim (or_cases (has (controls g) line) (has (targets g) line) (sym (has-or (controls g) (targets g) line) ∙ on)) [
            | inl control ↦ false≢true (sym (changes line t) ∙ control)
            | inr target ↦ false≢true (sym (reads2 line target) ∙ has-or (controls h) (targets h) line ∙ or_right (has (controls h) line) (has (targets h) line) t)
          ]) in
          rw (flip, other) (and_from _ _ (no_meet (targets g) (touched h) reads2) (no_meet (targets h) (touched g) both))
    ])

-- the controls of a flip are read
pub controls_read : (read changed : ℕ) (g : Shape) (line : ℕ) → Uses read changed g → is_flip g ≡ true → has (controls g) line ≡ true → has read line ≡ true
controls_read read changed g line u flip on = u.reads line (ap (λ s. has s line) (cond-true (is_flip g) (controls g) (touched g) flip) ∙ on)
