-- What a gate does, bit by bit.
use Rattle.std.proofs.Common.{◌≡◌, ◌≢◌, ℕ, ◌^◌, ◌<◌, Bool, true, false, not, cond, ◌&&◌, ◌||◌, eqb, List, length, set, refl, sym, ◌∙◌, ap, inl, inr, arith, length-set, get_or-set_same, get_or-set_other, eq-eqb, ne_eqb}
use Rattle.std.proofs.lemmas.Bool.{cases_eq, cond-false, eqb-true, false≢true, or_left, or_right, or_from, or_parts, false_from_ne_true}
use Rattle.std.proofs.lemmas.List.{set-get_or}
use Rattle.rv_gate.specs.Word.{has, bit_of}
use Rattle.rv_gate.specs.Gate.{holds, xor, act, touches, touched, controls, wanted, targets, FitsIn, IsGate}
use Rattle.rv_gate.specs.declared.gate.Shape.{Shape}
use Rattle.rv_gate.specs.declared.gate.Shape.TheVariants.{Flip, Swap, Peres}
use Rattle.rv_gate.proofs.LineSets.{Apart, has-or, has-line, has_self, has_first, has_second}
use Rattle.rv_gate.proofs.inside.GateLemmas.{holds_Decides}
use Rattle.rv_gate.proofs.Bits.{same_bool, eqb_refl}

-- whether a gate acts
unfoldable pub acts : Shape → List Bool → Bool
acts (Flip care want target) word = holds care want word
acts (Swap care want a b) word = holds care want word
acts (Peres a b d) word = true

-- the bit of a line after a gate, from the bits before it
unfoldable pub bit_after : Shape → (ℕ → Bool) → Bool → ℕ → Bool
bit_after (Flip care want target) f h line = cond h (cond (eqb line target) (not (f target)) (f line)) (f line)
bit_after (Swap care want a b) f h line = cond h (cond (eqb line b) (f a) (cond (eqb line a) (f b) (f line))) (f line)
bit_after (Peres a b d) f h line = cond (eqb line d) (xor (f d) (f a && f b)) (cond (eqb line b) (xor (f a) (f b)) (f line))

bit_of-cond : (h : Bool) (u v : List Bool) (line : ℕ) → bit_of (cond h u v) line ≡ cond h (bit_of u line) (bit_of v line)
bit_of-cond h u v line = grind arith

pub bit_of-set : (word : List Bool) (target line : ℕ) (b : Bool) → target < length word → bit_of (set word target b) line ≡ cond (eqb line target) b (bit_of word line)
bit_of-set word target line b h =
    elim (cases_eq line target) [
      | inl e ↦ rw (e, eq-eqb target target refl) (get_or-set_same word target b false h)
      | inr ne ↦ rw (ne_eqb line target ne) (get_or-set_other word target line b false ne)
    ]

-- the targets of a gate are below n
abbrev pub TargetsBelow : Shape → ℕ → Type 0
TargetsBelow (Flip care want target) n = target < n
TargetsBelow (Swap care want a b) n = (a < n) × (b < n)
TargetsBelow (Peres a b d) n = (b < n) × (d < n)

pub TargetsBelow-fits : (g : Shape) (n : ℕ) → FitsIn g n → TargetsBelow g n
TargetsBelow-fits (Flip care want target) n h = h target (or_right (has care target) _ (eqb_refl target))
TargetsBelow-fits (Swap care want a b) n h =
    (h a (or_left _ (eqb a b) (or_right (has care a) _ (eqb_refl a))), h b (or_right (has care b || eqb b a) _ (eqb_refl b)))
TargetsBelow-fits (Peres a b d) n h =
    (h b (or_left _ (eqb b d) (or_right (eqb b a) _ (eqb_refl b))), h d (or_right (eqb d a || eqb d b) _ (eqb_refl d)))

pub bit_of-act : (g : Shape) (word : List Bool) (line : ℕ) → TargetsBelow g (length word) → bit_of (act g word) line ≡ bit_after g (bit_of word) (acts g word) line
unfolding acts bit_after
bit_of-act (Flip care want target) word line h =
    bit_of-cond (holds care want word) _ _ line
    ∙ ap (λ b. cond (holds care want word) b (bit_of word line)) (bit_of-set word target line _ h)
bit_of-act (Swap care want a b) word line h =
    let lb : b < length (set word a (bit_of word b)) = omega (arith, h.1, length-set word a (bit_of word b)) in
    bit_of-cond (holds care want word) _ _ line
    ∙ ap (λ x. cond (holds care want word) x (bit_of word line))
    (bit_of-set (set word a (bit_of word b)) b line _ lb
    ∙ ap (cond (eqb line b) (bit_of word a)) (bit_of-set word a line _ h.0))
bit_of-act (Peres a b d) word line h =
    let v : Bool = xor (bit_of word a) (bit_of word b) in
    let ld : d < length (set word b v) = omega (arith, h.1, length-set word b v) in
    bit_of-set (set word b v) d line _ ld ∙ ap (cond (eqb line d) (xor (bit_of word d) (bit_of word a && bit_of word b))) (bit_of-set word b line _ h.0)

cond_same : (b x : Bool) → cond b x x ≡ x
cond_same b x = grind arith

bit_after-other : (g : Shape) (f : ℕ → Bool) (h : Bool) (line : ℕ) → has (targets g) line ≡ false → bit_after g f h line ≡ f line
unfolding bit_after
bit_after-other (Flip care want target) f h line e =
    let z : eqb line target ≡ false = sym (has-line target line) ∙ e in rw z (cond_same h (f line))
bit_after-other (Swap care want a b) f h line e =
    let z = or_parts _ _ (sym (has-or (2 ^ a) (2 ^ b) line) ∙ e) in
    let za : eqb line a ≡ false = sym (has-line a line) ∙ z.0 in
    let zb : eqb line b ≡ false = sym (has-line b line) ∙ z.1 in
    rw (zb, za) (cond_same h (f line))
bit_after-other (Peres a b d) f h line e =
    let z = or_parts _ _ (sym (has-or (2 ^ b) (2 ^ d) line) ∙ e) in
    let zb : eqb line b ≡ false = sym (has-line b line) ∙ z.0 in
    let zd : eqb line d ≡ false = sym (has-line d line) ∙ z.1 in
    rw (zd, zb) refl

-- a line that is no target keeps its bit
pub bit_of-act_other : (g : Shape) (word : List Bool) (line : ℕ) → TargetsBelow g (length word) → has (targets g) line ≡ false → bit_of (act g word) line ≡ bit_of word line
bit_of-act_other g word line below e = bit_of-act g word line below ∙ bit_after-other g (bit_of word) (acts g word) line e

-- two words have the same bits on the lines of a gate
abbrev pub Alike : Shape → (ℕ → Bool) → (ℕ → Bool) → Type 0
Alike g f k = (line : ℕ) → has (touched g) line ≡ true → f line ≡ k line

at_control : (g : Shape) (line : ℕ) → has (controls g) line ≡ true → has (touched g) line ≡ true
at_control g line h = has-or (controls g) (targets g) line ∙ or_left _ _ h

at_target : (g : Shape) (line : ℕ) → has (targets g) line ≡ true → has (touched g) line ≡ true
at_target g line h = has-or (controls g) (targets g) line ∙ or_right (has (controls g) line) _ h

bit_after-local : (g : Shape) (f k : ℕ → Bool) (h : Bool) (line : ℕ) → Alike g f k → has (targets g) line ≡ true → bit_after g f h line ≡ bit_after g k h line
unfolding bit_after
bit_after-local (Flip care want target) f k h line same on =
    let e = same line (at_target (Flip care want target) line on) in
    let t = same target (at_target (Flip care want target) target (has_self target)) in
    cc
bit_after-local (Swap care want a b) f k h line same on =
    let e = same line (at_target (Swap care want a b) line on) in
    let ea = same a (at_target (Swap care want a b) a (has_first a b)) in
    let eb = same b (at_target (Swap care want a b) b (has_second a b)) in
    cc
bit_after-local (Peres a b d) f k h line same on =
    let e = same line (at_target (Peres a b d) line on) in
    let ea = same a (at_control (Peres a b d) a (has_self a)) in
    let eb = same b (at_target (Peres a b d) b (has_first b d)) in
    let ed = same d (at_target (Peres a b d) d (has_second b d)) in
    cc

held_alike : (care want : ℕ) (u v : List Bool) → length u ≡ length v → ((line : ℕ) → has care line ≡ true → bit_of u line ≡ bit_of v line) → holds care want u ≡ true → holds care want v ≡ true
held_alike care want u v len same e =
    let old = (holds_Decides care want u).0 e in
    (holds_Decides care want v).1 (λ line within c. sym (same line c) ∙ old line (omega arith) c)

holds-alike : (care want : ℕ) (u v : List Bool) → length u ≡ length v → ((line : ℕ) → has care line ≡ true → bit_of u line ≡ bit_of v line) → holds care want u ≡ holds care want v
holds-alike care want u v len same =
    same_bool _ _ (held_alike care want u v len same) (held_alike care want v u (sym len) (λ line c. sym (same line c)))

acts-alike : (g : Shape) (u v : List Bool) → length u ≡ length v → Alike g (bit_of u) (bit_of v) → acts g u ≡ acts g v
unfolding acts
acts-alike (Flip care want target) u v len same =
    holds-alike care want u v len (λ line c. same line (at_control (Flip care want target) line c))
acts-alike (Swap care want a b) u v len same =
    holds-alike care want u v len (λ line c. same line (at_control (Swap care want a b) line c))
acts-alike (Peres a b d) u v len same = refl

-- what a gate does to its targets depends on its lines alone
pub bit_of-act_local : (g : Shape) (u v : List Bool) (line : ℕ) → TargetsBelow g (length u) → length u ≡ length v → Alike g (bit_of u) (bit_of v) → has (targets g) line ≡ true → bit_of (act g u) line ≡ bit_of (act g v) line
bit_of-act_local g u v line below len same at =
    bit_of-act g u line below
    ∙ ap (λ h. bit_after g (bit_of u) h line) (acts-alike g u v len same)
    ∙ bit_after-local g (bit_of u) (bit_of v) (acts g v) line same at
    ∙ sym (bit_of-act g v line (rw (← len) below))

-- ---- a gate that does nothing

xor_false_left : (a b : Bool) → a ≡ false → xor a b ≡ b
xor_false_left a b h = grind arith

xor_false_right : (x a b : Bool) → a ≡ false → xor x (a && b) ≡ x
xor_false_right x a b h = grind arith

-- a gate one of whose controls doesn't hold does nothing
pub idle : (g : Shape) (word : List Bool) (line : ℕ) → line < length word → has (controls g) line ≡ true → bit_of word line ≢ has (wanted g) line → act g word ≡ word
idle (Flip care want target) word line lt on off =
    cond-false (holds care want word) _ _ (false_from_ne_true _ (λ e. off ((holds_Decides care want word).0 e line lt on)))
idle (Swap care want a b) word line lt on off =
    cond-false (holds care want word) _ _ (false_from_ne_true _ (λ e. off ((holds_Decides care want word).0 e line lt on)))
idle (Peres a b d) word line lt on off =
    let at : line ≡ a = eqb-true _ _ (sym (has-line a line) ∙ on) in
    let z : bit_of word a ≡ false = false_from_ne_true _ (λ e. off (ap (bit_of word) at ∙ e ∙ sym on)) in
    let first : set word b (xor (bit_of word a) (bit_of word b)) ≡ word = ap (set word b) (xor_false_left _ _ z) ∙ set-get_or word b false in
    ap (λ w. set w d (xor (bit_of word d) (bit_of word a && bit_of word b))) first
    ∙ ap (set word d) (xor_false_right (bit_of word d) (bit_of word a) (bit_of word b) z) ∙ set-get_or word d false

-- no control is a target
pub controls-targets : (g : Shape) → IsGate g → Apart (controls g) (targets g)
controls-targets (Flip care want target) v line on =
    has-line target line ∙ ne_eqb _ _ (λ e. false≢true (sym v.1 ∙ ap (has care) (sym e) ∙ on))
controls-targets (Swap care want a b) v line on =
    has-or (2 ^ a) (2 ^ b) line
    ∙ or_from _ _ (has-line a line ∙ ne_eqb _ _ (λ e. false≢true (sym v.3 ∙ ap (has care) (sym e) ∙ on)))
    (has-line b line ∙ ne_eqb _ _ (λ e. false≢true (sym v.4 ∙ ap (has care) (sym e) ∙ on)))
controls-targets (Peres a b d) v line on =
    let at : line ≡ a = eqb-true _ _ (sym (has-line a line) ∙ on) in
    has-or (2 ^ b) (2 ^ d) line
    ∙ or_from _ _ (has-line b line ∙ ne_eqb _ _ (λ e. v.3 (sym at ∙ e))) (has-line d line ∙ ne_eqb _ _ (λ e. v.4 (sym at ∙ e)))

-- a control is a line of the gate
pub touches-control : (g : Shape) (line : ℕ) → has (controls g) line ≡ true → touches g line ≡ true
touches-control (Flip care want target) line h = or_left _ (eqb line target) h
touches-control (Swap care want a b) line h = or_left (has care line || eqb line a) (eqb line b) (or_left _ (eqb line a) h)
touches-control (Peres a b d) line h =
    or_left (eqb line a || eqb line b) (eqb line d) (or_left _ (eqb line b) (sym (has-line a line) ∙ h))
