-- Controls that ask for one line more.
use Rattle.std.proofs.Common.{◌≡◌, ◌≢◌, ℕ, ◌+◌, ◌*◌, ◌%◌, ◌^◌, ◌<◌, ◌≤◌, Bool, true, false, not, cond, ◌&&◌, List, length, refl, sym, subst, ◌∙◌, ap, inl, inr, arith, suc}
use Rattle.std.specs.Prelude.{bit_or, bit_xor, Option, Some, if◌then◌else◌}
use Rattle.std.proofs.Math.Bool.{beq}
use Rattle.std.proofs.lemmas.Bool.{cases_eq, and_parts, and_from, false≢true, false_from_ne_true}
use Rattle.std.proofs.lemmas.Nat.{one_shl}
use Rattle.rv_gate.specs.Word.{has, bit_of}
use Rattle.rv_gate.specs.Gate.{all_below, holds, same}
use Rattle.rv_gate.proofs.AllBelow.{all_below-at, all_below-from}
use Rattle.rv_gate.proofs.Bits.{same_bool, same_true, same_from}
use Rattle.rv_gate.proofs.LineSets.{has-none, with_same, with_other, has-changed_same, has-changed_other}
use Rattle.rv_gate.proofs.inside.GateLemmas.{holds_Decides, holds_none}
use Rattle.rv_blif.specs.declared.product.Product.{Product}
use Rattle.rv_compute.specs.declared.controls.Controls.{Controls}
use Rattle.rv_compute.specs.declared.controls.Controls.TheVariants.{Held, Never, Missing}
use Rattle.rv_compute.specs.declared.place.Place.{Place}
use Rattle.rv_compute.specs.declared.place.Place.TheVariants.{Line}
use Rattle.rv_compute.specs.inside.Places.{place_at, place_value, AreRead, AreBeside, IsBeside}
use Rattle.rv_compute.specs.inside.Blocks.{IsWithLine, IsWithPlace, AreControls, Serve, DoServe}

pub beq-true : (x y : Bool) → beq x y ≡ true → x ≡ y
beq-true true true e = refl
beq-true true false e = absurd (false≢true e)
beq-true false true e = absurd (false≢true e)
beq-true false false e = refl

pub beq-false : (x y : Bool) → beq x y ≡ false → not x ≡ y
beq-false true true e = absurd (false≢true (sym e))
beq-false true false e = refl
beq-false false true e = refl
beq-false false false e = absurd (false≢true (sym e))

-- the value of a line that is read by `on`
pub same-beq : (x bit on : Bool) → same x (beq bit on) ≡ same (same x on) bit
same-beq true true true = refl
same-beq true true false = refl
same-beq true false true = refl
same-beq true false false = refl
same-beq false true true = refl
same-beq false true false = refl
same-beq false false true = refl
same-beq false false false = refl

-- ---- a line that is asked for already

pub asked_again : (care want line : ℕ) (bit : Bool) (word : List Bool) → line < length word → has care line ≡ true
    → has want line ≡ bit → holds care want word ≡ (same (bit_of word line) bit && holds care want word)
asked_again care want line bit word lt on as_wanted =
    same_bool _ _
    (λ h. and_from _ _ (same_from _ _ ((holds_Decides care want word).0 h line lt on ∙ as_wanted)) h)
    (λ h. (and_parts _ _ h).1)

pub asked_otherwise : (care want line : ℕ) (bit : Bool) (word : List Bool) → line < length word → has care line ≡ true
    → not (has want line) ≡ bit → (same (bit_of word line) bit && holds care want word) ≡ false
asked_otherwise care want line bit word lt on other =
    false_from_ne_true _ (λ h.
    let both = and_parts _ _ h in
    off (has want line) bit other (sym ((holds_Decides care want word).0 both.1 line lt on) ∙ same_true _ _ both.0))
  where
    off : (x y : Bool) → not x ≡ y → x ≡ y → ⊥
    off true true e f = false≢true e
    off true false e f = false≢true (sym f)
    off false true e f = false≢true f
    off false false e f = false≢true (sym e)

-- ---- a new line

asked_new : (care want new line : ℕ) (bit : Bool) (word : List Bool) → line < length word → has care line ≡ false
    → has new line ≡ bit → ((other : ℕ) → other ≢ line → has new other ≡ has want other)
    → holds (bit_or care (2 ^ line)) new word ≡ (same (bit_of word line) bit && holds care want word)
asked_new care want new line bit word lt off at others =
    same_bool _ _
    (λ h.
    let held = (holds_Decides (bit_or care (2 ^ line)) new word).0 h in
    and_from _ _ (same_from _ _ (held line lt (with_same care line) ∙ at))
    ((holds_Decides care want word).1 (λ l within on.
    let ne : l ≢ line = λ e. false≢true (sym off ∙ ap (has care) (sym e) ∙ on) in
    held l within (with_other care line l ne ∙ on) ∙ others l ne)))
    (λ h.
    let both = and_parts _ _ h in
    (holds_Decides (bit_or care (2 ^ line)) new word).1 (λ l within on.
    elim (cases_eq l line) [
      | inl e ↦ (ap (bit_of word) e ∙ same_true _ _ both.0 ∙ sym at ∙ ap (has new) (sym e))
      | inr ne ↦ ((holds_Decides care want word).0 both.1 l within (sym (with_other care line l ne) ∙ on) ∙ sym (others l ne))
    ]))

pub asked_as_wanted : (care want line : ℕ) (bit : Bool) (word : List Bool) → line < 64 → line < length word
    → has care line ≡ false → has want line ≡ bit
    → holds (bit_or care (1 * 2 ^ line % 2 ^ 64)) want word ≡ (same (bit_of word line) bit && holds care want word)
asked_as_wanted care want line bit word few lt off at =
    ap (λ m. holds (bit_or care m) want word) (one_shl line 64 few)
    ∙ asked_new care want want line bit word lt off at (λ other ne. refl)

pub asked_changed : (care want line : ℕ) (bit : Bool) (word : List Bool) → line < 64 → line < length word
    → has care line ≡ false → not (has want line) ≡ bit
    → holds (bit_or care (1 * 2 ^ line % 2 ^ 64)) (bit_xor want (1 * 2 ^ line % 2 ^ 64)) word
    ≡ (same (bit_of word line) bit && holds care want word)
asked_changed care want line bit word few lt off at =
    ap (λ m. holds (bit_or care m) (bit_xor want m) word) (one_shl line 64 few)
    ∙ asked_new care want (bit_xor want (2 ^ line)) line bit word lt off (has-changed_same want line ∙ at)
    (λ other ne. has-changed_other want line other ne)

-- ---- operand by operand

-- an operand has the bit that a product asks for
abbrev pub is_asked : Product → List Bool → ℕ → Bool
is_asked product bits operand =
    if has product.care operand then same (bit_of bits operand) (has product.want operand) else true

pub holds-all : (product : Product) (bits : List Bool)
    → holds product.care product.want bits ≡ all_below (is_asked product bits) (length bits)
unfolding holds
holds-all product bits = refl

pub all_below-suc : (p : ℕ → Bool) (n : ℕ) → all_below p (n + 1) ≡ (p n && all_below p n)
all_below-suc p n = let e : n + 1 ≡ suc n = omega arith in ap (all_below p) e

pub all_below-less : (p : ℕ → Bool) (n m : ℕ) → n ≤ m → all_below p n ≡ false → all_below p m ≡ false
all_below-less p n m le off =
    false_from_ne_true _ (λ all.
    false≢true (sym off ∙ all_below-from p n (λ i lt. all_below-at p m i all (omega arith))))

-- ---- places

pub constant_as_wanted : (value bit : Bool) (rest : Bool) → beq value bit ≡ true → rest ≡ (same value bit && rest)
constant_as_wanted true true rest e = refl
constant_as_wanted true false rest e = absurd (false≢true e)
constant_as_wanted false true rest e = absurd (false≢true e)
constant_as_wanted false false rest e = refl

pub constant_otherwise : (value bit : Bool) (rest : Bool) → beq value bit ≡ false → (same value bit && rest) ≡ false
constant_otherwise true true rest e = absurd (false≢true (sym e))
constant_otherwise true false rest e = refl
constant_otherwise false true rest e = refl
constant_otherwise false false rest e = absurd (false≢true (sym e))

pub placed : (lines care want line : ℕ) (on bit : Bool) (controls : Controls) → line < lines
    → IsWithLine care want line (beq bit on) controls → IsWithPlace lines care want (Line line on) bit controls
placed lines care want line on bit (Held c w) lt h =
    λ word len. h word (omega arith) ∙ ap (λ t. t && holds care want word) (same-beq (bit_of word line) bit on)
placed lines care want line on bit Never lt h =
    λ word len. sym (ap (λ t. t && holds care want word) (same-beq (bit_of word line) bit on)) ∙ h word (omega arith)
placed lines care want line on bit Missing lt h = tt

-- ---- controls that serve for a flip

pub serve_none : (lines target : ℕ) → Serve lines target 0 0
serve_none lines target = record {
  within = λ line on. absurd (false≢true (sym (has-none line) ∙ on));
  beside = has-none target;
  wanted = λ line on. absurd (false≢true (sym (has-none line) ∙ on));
}

serve_more : (lines target care want new line : ℕ) → line < lines → line ≢ target
    → ((other : ℕ) → other ≢ line → has new other ≡ has want other) → Serve lines target care want
    → Serve lines target (bit_or care (2 ^ line)) new
serve_more lines target care want new line lt apart others s = record {
  within = λ l on.
      elim (cases_eq l line) [
        | inl e ↦ (omega arith)
        | inr ne ↦ (s.within l (sym (with_other care line l ne) ∙ on))
      ];
  beside = with_other care line target (λ e. apart (sym e)) ∙ s.beside;
  wanted = λ l on.
      elim (cases_eq l line) [
        | inl e ↦ (ap (has (bit_or care (2 ^ line))) e ∙ with_same care line)
        | inr ne ↦ (with_other care line l ne ∙ s.wanted l (sym (others l ne) ∙ on))
      ];
}

pub serve_as_wanted : (lines target care want line : ℕ) → line < 64 → line < lines → line ≢ target
    → Serve lines target care want → Serve lines target (bit_or care (1 * 2 ^ line % 2 ^ 64)) want
serve_as_wanted lines target care want line few lt apart s =
    let P : ℕ → Type 0 = λ m. Serve lines target (bit_or care m) want in
    subst P (sym (one_shl line 64 few)) (serve_more lines target care want want line lt apart (λ other ne. refl) s)

pub serve_changed : (lines target care want line : ℕ) → line < 64 → line < lines → line ≢ target
    → Serve lines target care want
    → Serve lines target (bit_or care (1 * 2 ^ line % 2 ^ 64)) (bit_xor want (1 * 2 ^ line % 2 ^ 64))
serve_changed lines target care want line few lt apart s =
    let P : ℕ → Type 0 = λ m. Serve lines target (bit_or care m) (bit_xor want m) in
    subst P (sym (one_shl line 64 few))
    (serve_more lines target care want (bit_xor want (2 ^ line)) line lt apart (λ other ne. has-changed_other want line other ne) s)

-- ---- the walk over the operands

-- after so many operands
pub record HaveAsked (lines : ℕ) (places : List (Option Place)) (product : Product) (count care want : ℕ) : Type 0 where
  pub held : (word bits : List Bool) → length word ≡ lines → length bits ≡ length places → AreRead places word bits
      → holds care want word ≡ all_below (is_asked product bits) count
  pub serve : (target : ℕ) → AreBeside lines target places → Serve lines target care want

pub asked_first : (lines : ℕ) (places : List (Option Place)) (product : Product) → HaveAsked lines places product 0 0 0
asked_first lines places product = record {
  held = λ word bits lw lb read. holds_none word;
  serve = λ target beside. serve_none lines target;
}

-- an operand that isn't asked for
pub asked_none : (lines : ℕ) (places : List (Option Place)) (product : Product) (i care want : ℕ)
    → HaveAsked lines places product i care want → has product.care i ≡ false
    → HaveAsked lines places product (i + 1) care want
asked_none lines places product i care want so_far off = record {
  held = λ word bits lw lb read.
      so_far.held word bits lw lb read
      ∙ sym (ap (λ t. cond t (same (bit_of bits i) (has product.want i)) true && all_below (is_asked product bits) i) off)
      ∙ sym (all_below-suc (is_asked product bits) i);
  serve = so_far.serve;
}

step : (places : List (Option Place)) (product : Product) (i : ℕ) (place : Place) (word bits : List Bool)
    → has product.care i ≡ true → place_at places i ≡ Some place → AreRead places word bits
    → is_asked product bits i ≡ same (place_value word place) (has product.want i)
step places product i place word bits on at read =
    ap (λ t. cond t (same (bit_of bits i) (has product.want i)) true) on
    ∙ ap (λ b. same b (has product.want i)) (sym (read i place at))

pub asked_more : (lines : ℕ) (places : List (Option Place)) (product : Product) (i care want new_care new_want : ℕ)
    (place : Place)
    → HaveAsked lines places product i care want → has product.care i ≡ true → place_at places i ≡ Some place
    → IsWithPlace lines care want place (has product.want i) (Held new_care new_want)
    → ((target : ℕ) → IsBeside lines target place → Serve lines target care want → Serve lines target new_care new_want)
    → HaveAsked lines places product (i + 1) new_care new_want
asked_more lines places product i care want new_care new_want place so_far on at h serves = record {
  held = λ word bits lw lb read.
      h word lw
      ∙ ap (λ t. same (place_value word place) (has product.want i) && t) (so_far.held word bits lw lb read)
      ∙ ap (λ t. t && all_below (is_asked product bits) i) (sym (step places product i place word bits on at read))
      ∙ sym (all_below-suc (is_asked product bits) i);
  serve = λ target beside. serves target (beside i place at) (so_far.serve target beside);
}

pub asked_all : (lines : ℕ) (places : List (Option Place)) (product : Product) (i care want : ℕ) → i ≡ length places
    → HaveAsked lines places product i care want → AreControls lines places product (Held care want)
asked_all lines places product i care want all so_far word bits lw lb read =
    so_far.held word bits lw lb read
    ∙ ap (all_below (is_asked product bits)) (all ∙ sym lb)
    ∙ sym (holds-all product bits)

-- a product that never holds
pub asked_never : (lines : ℕ) (places : List (Option Place)) (product : Product) (i care want : ℕ) (place : Place)
    → i < length places
    → HaveAsked lines places product i care want → has product.care i ≡ true → place_at places i ≡ Some place
    → IsWithPlace lines care want place (has product.want i) Never → AreControls lines places product Never
asked_never lines places product i care want place lt so_far on at h word bits lw lb read =
    holds-all product bits
    ∙ all_below-less (is_asked product bits) (i + 1) (length bits) (omega arith)
    (all_below-suc (is_asked product bits) i
    ∙ ap (λ t. t && all_below (is_asked product bits) i) (step places product i place word bits on at read)
    ∙ ap (λ t. same (place_value word place) (has product.want i) && t) (sym (so_far.held word bits lw lb read))
    ∙ h word lw)

-- ---- as the code has them

pub told_serve : (lines target : ℕ) (told controls : Controls) → told ≡ controls → DoServe lines target told
    → DoServe lines target controls
told_serve lines target told controls e h = subst (λ (t : Controls). DoServe lines target t) e h

pub asked_controls : (lines care want : ℕ) (place : Place) (bit asked : Bool) (told controls : Controls) → bit ≡ asked
    → told ≡ controls → IsWithPlace lines care want place bit told → IsWithPlace lines care want place asked controls
asked_controls lines care want place bit asked told controls eb ec h =
    let P : Bool → Type 0 = λ b. IsWithPlace lines care want place b told in
    let Q : Controls → Type 0 = λ t. IsWithPlace lines care want place asked t in
    subst Q ec (subst P eb h)

pub have_asked : (lines : ℕ) (places : List (Option Place)) (product : Product) (i care want c w : ℕ) → c ≡ care
    → w ≡ want → HaveAsked lines places product i care want → HaveAsked lines places product i c w
have_asked lines places product i care want c w ec ew h =
    let P : ℕ → Type 0 = λ t. HaveAsked lines places product i t want in
    let Q : ℕ → Type 0 = λ t. HaveAsked lines places product i c t in
    subst Q (sym ew) (subst P (sym ec) h)
