-- The tables of a PLA tell its entries and its conflicts.
use Rattle.std.proofs.Common.{◌≡◌, ℕ, ◌+◌, ◌^◌, ◌<◌, ◌≤◌, Bool, true, false, ◌&&◌, cond, min, List, [], ◌∷◌, length, get_or, drop, Option, Some, None, refl, sym, ap, ◌∙◌, inl, inr, arith, ne_eqb, drop-cons, add-one}
use Rattle.std.specs.Prelude.{bit_and, is_some}
use Rattle.std.specs.List.{find}
use Rattle.std.specs.Option.{option_map}
use Rattle.std.proofs.lemmas.Bool.{cases_eq, true≢false, and_right}
use Rattle.std.specs.Int.{bit_at}
use Rattle.std.proofs.lemmas.List.{drop_all}
use Rattle.std.proofs.lemmas.Nat.Bits.{bit_at-zero, bit_at_and}
use Rattle.rv_gate.specs.Word.{has, word_of}
use Rattle.rv_pla.specs.Cube.{matches}
use Rattle.rv_pla.specs.declared.entry.Entry.TheVariants.{One, Zero, Free}
use Rattle.rv_pla.specs.declared.kind.Kind.{Kind}
use Rattle.rv_pla.specs.declared.kind.Kind.TheVariants.{F, Fd, Fr, Fdr, Esop}
use Rattle.rv_pla.specs.declared.fault.PlaFault.{PlaFault}
use Rattle.rv_pla.specs.Pla.{TwoLevel, conflict_by, conflict_at, conflict_of, entry, first_line, no_outputs, covers, Term}
use Rattle.rv_reader.specs.FirstFault.{first_below}
use Rattle.rv_reader.proofs.FirstBelow.{first_below-none}
use Rattle.rv_pla.specs.inside.Table.{IsTabled, has_off_set, entry_told}
use Rattle.rv_gate.proofs.LineSets.{has-none}

pub first_line-no_outputs : (word : List Bool) (j : ℕ) (terms : List Term) → first_line (λ term. no_outputs) word j terms ≡ None
unfolding first_line
first_line-no_outputs word j [] = refl
first_line-no_outputs word j (t ∷ ts) =
    ap (λ b. option_map (λ (term : Term). term.line) (cond b (Some t) (find (covers (λ term. no_outputs) word j) ts))) (and_right (matches t.cube word) (has 0 j) (has-none j)) ∙ first_line-no_outputs word j ts

none_covers : (word : List Bool) (j : ℕ) (terms : List Term) → is_some (first_line (λ term. no_outputs) word j terms) ≡ false
none_covers word j terms = ap is_some (first_line-no_outputs word j terms)

-- ---- entries

same_F : (a b c d : Bool) → c ≡ false → d ≡ false → cond a One (cond b Zero Zero) ≡ cond a One (cond c Zero (cond d Free Zero))
same_F a b c d h h1 = grind arith

same_Fd : (a b c : Bool) → b ≡ false → cond a One (cond c Free Zero) ≡ cond a One (cond b Zero (cond c Free Zero))
same_Fd a b c h = rw h refl

same_free : (a b c : Bool) → cond a One (cond b Zero Free) ≡ cond a One (cond b Zero (cond c Free Free))
same_free a b c = grind arith

same_Esop : (a b : Bool) → cond a One (cond b Zero Zero) ≡ cond a One Zero
same_Esop a b = grind arith

pub told_entry : (kind : Kind) (inputs outputs : ℕ) (terms : List Term) (ones others : List ℕ) (x j : ℕ)
    → IsTabled (record { inputs = inputs; outputs = outputs; kind = kind; terms = terms }) ones others → x < 2 ^ inputs
    → entry_told kind (has (get_or ones x 0) j) (has (get_or others x 0) j) ≡ entry (record { inputs = inputs; outputs = outputs; kind = kind; terms = terms }) (word_of inputs x) j
unfolding entry
told_entry F inputs outputs terms ones others x j tabled h =
    rw (tabled.first.is x j h) (same_F _ _ _ _ (none_covers (word_of inputs x) j terms) (none_covers (word_of inputs x) j terms))
told_entry Fd inputs outputs terms ones others x j tabled h = rw (tabled.first.is x j h, tabled.second.is x j h) (same_Fd _ _ _ (none_covers (word_of inputs x) j terms))
told_entry Fr inputs outputs terms ones others x j tabled h = rw (tabled.first.is x j h, tabled.second.is x j h) (same_free _ _ _)
told_entry Fdr inputs outputs terms ones others x j tabled h = rw (tabled.first.is x j h, tabled.second.is x j h) (same_free _ _ _)
told_entry Esop inputs outputs terms ones others x j tabled h = rw (tabled.first.is x j h) (same_Esop _ _)

-- ---- conflicts

pub first_line-here : (set : Term → ℕ) (word : List Bool) (j i : ℕ) (terms : List Term) (term any : Term) → i < length terms → term ≡ get_or terms i any
    → first_line set word j (drop i terms) ≡ cond (covers set word j term) (Some term.line) (first_line set word j (drop (i + 1) terms))
unfolding first_line
first_line-here set word j i terms term any lt at = grind (arith, add-one, drop-cons, first_line)

pub first_line-past : (set : Term → ℕ) (word : List Bool) (j i : ℕ) (terms : List Term) → length terms ≤ i → first_line set word j (drop i terms) ≡ None
unfolding first_line
first_line-past set word j i terms past = rw (drop_all i terms past) refl

conflict_by-none : (on off : Option ℕ) (n x j : ℕ) → (is_some on && is_some off) ≡ false → conflict_by on off n x j ≡ None
conflict_by-none on off n x j h = grind arith

off_uncovered : (on off : Option ℕ) (n x j : ℕ) → is_some off ≡ false → conflict_by on off n x j ≡ None
off_uncovered on off n x j h = conflict_by-none on off n x j (and_right (is_some on) (is_some off) h)

no_conflict_at : (kind : Kind) (inputs outputs : ℕ) (terms : List Term) (x j : ℕ) → has_off_set kind ≡ false
    → conflict_at (record { inputs = inputs; outputs = outputs; kind = kind; terms = terms }) x j ≡ None
no_conflict_at F inputs outputs terms x j h = off_uncovered _ _ inputs x j (none_covers (word_of inputs x) j terms)
no_conflict_at Fd inputs outputs terms x j h = off_uncovered _ _ inputs x j (none_covers (word_of inputs x) j terms)
no_conflict_at Fr inputs outputs terms x j h = absurd (true≢false h)
no_conflict_at Fdr inputs outputs terms x j h = absurd (true≢false h)
no_conflict_at Esop inputs outputs terms x j h = off_uncovered _ _ inputs x j (none_covers (word_of inputs x) j terms)

-- a type without OFF has no conflicts
pub no_conflict : (pla : TwoLevel) → has_off_set pla.kind ≡ false → conflict_of pla ≡ None
unfolding conflict_of
no_conflict pla h = first_below-none _ (2 ^ pla.inputs) (λ x lt. first_below-none _ pla.outputs (λ j l. no_conflict_at pla.kind pla.inputs pla.outputs pla.terms x j h))

-- no output is in both sets
apart_at : (a b j : ℕ) → bit_and a b ≡ 0 → (has a j && has b j) ≡ false
apart_at a b j apart =
    let none : min (bit_at a j) (bit_at b j) ≡ 0 = sym (bit_at_and a b j) ∙ ap (λ s. bit_at s j) apart ∙ bit_at-zero j in
    elim (cases_eq (bit_at a j) 1) [
      | inl one ↦ and_right (has a j) (has b j) (ne_eqb _ 1 (λ e. omega arith))
      | inr other ↦ rw (ne_eqb _ 1 other) refl
    ]

uncovered_apart : (on off : Option ℕ) (a b n x j : ℕ) → has a j ≡ is_some on → has b j ≡ is_some off → bit_and a b ≡ 0 → conflict_by on off n x j ≡ None
uncovered_apart on off a b n x j is_on is_off apart =
    conflict_by-none on off n x j (ap (λ t. t && is_some off) (sym is_on) ∙ ap (λ t. has a j && t) (sym is_off) ∙ apart_at a b j apart)

both_told : (kind : Kind) (inputs outputs : ℕ) (terms : List Term) (ones others : List ℕ) (x j : ℕ) → has_off_set kind ≡ true
    → IsTabled (record { inputs = inputs; outputs = outputs; kind = kind; terms = terms }) ones others → x < 2 ^ inputs
    → bit_and (get_or ones x 0) (get_or others x 0) ≡ 0
    → conflict_at (record { inputs = inputs; outputs = outputs; kind = kind; terms = terms }) x j ≡ None
both_told F inputs outputs terms ones others x j off tabled lt apart = absurd (true≢false (sym off))
both_told Fd inputs outputs terms ones others x j off tabled lt apart = absurd (true≢false (sym off))
both_told Fr inputs outputs terms ones others x j off tabled lt apart =
    uncovered_apart _ _ (get_or ones x 0) (get_or others x 0) inputs x j (tabled.first.is x j lt) (tabled.second.is x j lt) apart
both_told Fdr inputs outputs terms ones others x j off tabled lt apart =
    uncovered_apart _ _ (get_or ones x 0) (get_or others x 0) inputs x j (tabled.first.is x j lt) (tabled.second.is x j lt) apart
both_told Esop inputs outputs terms ones others x j off tabled lt apart = absurd (true≢false (sym off))

-- where no output is in both tables, the word has no conflict
pub no_conflict_here : (pla : TwoLevel) (ones others : List ℕ) (x : ℕ) → has_off_set pla.kind ≡ true → IsTabled pla ones others → x < 2 ^ pla.inputs
    → bit_and (get_or ones x 0) (get_or others x 0) ≡ 0 → first_below (conflict_at pla x) pla.outputs ≡ None
no_conflict_here pla ones others x off tabled lt apart =
    first_below-none _ pla.outputs (λ j l. both_told pla.kind pla.inputs pla.outputs pla.terms ones others x j off tabled lt apart)

pub is_some-none : (fault : Option PlaFault) → is_some fault ≡ false → fault ≡ None
is_some-none fault h = grind arith
