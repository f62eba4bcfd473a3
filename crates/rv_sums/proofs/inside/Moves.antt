-- Operations, as what they do to the sums of lines and the phases.
use Rattle.std.proofs.Common.{◌≡◌, ◌≢◌, ℕ, ◌+◌, ◌%◌, ◌<◌, ◌&&◌, Bool, true, false, cond, [], ◌∷◌, length, set, refl, sym, ap, ap₂, ◌∙◌, arith, get_or-set_other}
use Rattle.std.specs.List.{swap}
use Rattle.std.proofs.lemmas.List.Edits.{length-swap}
use Rattle.rv_gate.specs.Gate.{xor}
use Rattle.rv_gate.proofs.Bits.{xor_comm, xor_true}
use Rattle.rv_net.specs.Op.{goes_to, phase_of}
use Rattle.rv_net.specs.declared.op.Op.{Op}
use Rattle.rv_net.specs.declared.op.Op.TheVariants.{X, Y, Cx, Cz, Ccx, Swap, Cswap}
use Rattle.rv_net.proofs.Step.{Word, bit}
use Rattle.rv_terms.specs.Products.{odd}
use Rattle.rv_terms.specs.Phases.{power, total, total_kept}
use Rattle.rv_terms.specs.declared.sum.Sum.{Sum}
use Rattle.rv_sums.specs.inside.Paths.{is_h, rooted}
use Rattle.rv_sums.specs.inside.State.{IsFlipped, IsPhaseOp, IsPhased, IsTurned, Leads, spare, word_at}
use Rattle.rv_sums.specs.declared.path_sum.PathSum.{PathSum}
use Rattle.rv_sums.proofs.Paths.{step_taken}
use Rattle.rv_sums.proofs.inside.States.{word_at-swap}

twice_mod : (n : ℕ) → n % 8 % 8 ≡ n % 8
twice_mod n = omega arith

-- phases are below 8
rest_mod : (n : ℕ) → n % 8 ≡ (n % 8 + 0) % 8
rest_mod n = omega arith

-- an operation that is no H
pub leads_plain : (op : Op) (old new : PathSum) → is_h op ≡ false → length new.sums.items ≡ length old.sums.items → new.scale ≡ old.scale
    → ((x v : Word) → word_at new.sums.items x v ≡ goes_to op (word_at old.sums.items x v))
    → ((x v : Word) → power new.phases x v ≡ (power old.phases x v + phase_of op (word_at old.sums.items x v)) % 8)
    → Leads (op ∷ []) old new
leads_plain op old new plain count scale ends phases = record {
  lines = count;
  stands = λ rest x z whole len stands.
      ap (λ d. rooted d whole) scale ∙ stands
      ∙ ap (rooted spare) (step_taken op rest z (power old.phases x) (power new.phases x) (word_at old.sums.items x) (word_at new.sums.items x) plain
      (λ v e. ends x v)
      (λ v e. ap (λ n. n % 8) (phases x v) ∙ twice_mod (power old.phases x v + phase_of op (word_at old.sums.items x v))));
}

pub phase_leads : (op : Op) (line weight : ℕ) (old new : PathSum) → IsPhaseOp op line weight → IsPhased line weight old new → Leads (op ∷ []) old new
phase_leads op line weight old new is phased =
    leads_plain op old new is.plain (ap (λ s. length s.items) phased.sums) phased.scale
    (λ x v. ap (λ s. word_at s.items x v) phased.sums ∙ sym (is.goes (word_at old.sums.items x v)))
    (λ x v. phased.phases x v ∙ ap (λ n. (power old.phases x v + n) % 8) (sym (is.phase (word_at old.sums.items x v))))

-- one flip, and no phase
pub flip_leads : (op : Op) (line : ℕ) (with : Sum) (old new : PathSum) → is_h op ≡ false → IsFlipped line with old new
    → ((x v : Word) → set (word_at old.sums.items x v) line (xor (bit (word_at old.sums.items x v) line) (odd with x v)) ≡ goes_to op (word_at old.sums.items x v))
    → ((w : Word) → phase_of op w ≡ 0) → Leads (op ∷ []) old new
flip_leads op line with old new plain flipped goes none =
    leads_plain op old new plain flipped.lines flipped.scale (λ x v. flipped.ends x v ∙ goes x v)
    (λ x v. ap (λ p. power p x v) flipped.phases ∙ rest_mod (total old.phases.terms.items x v + total_kept old.phases.kept.items x v) ∙ ap (λ n. (power old.phases x v + n) % 8) (sym (none (word_at old.sums.items x v))))

pub x_leads : (line : ℕ) (one : Sum) (old new : PathSum) → IsFlipped line one old new → ((x v : Word) → odd one x v ≡ true) → Leads (X line ∷ []) old new
x_leads line one old new flipped is =
    flip_leads (X line) line one old new refl flipped
    (λ x v. ap (set (word_at old.sums.items x v) line) (ap (xor (bit (word_at old.sums.items x v) line)) (is x v) ∙ xor_true (bit (word_at old.sums.items x v) line))) (λ w. refl)

pub cx_leads : (a b : ℕ) (with : Sum) (old new : PathSum) → IsFlipped b with old new
    → ((x v : Word) → odd with x v ≡ bit (word_at old.sums.items x v) a) → Leads (Cx a b ∷ []) old new
cx_leads a b with old new flipped is =
    flip_leads (Cx a b) b with old new refl flipped
    (λ x v. ap (set (word_at old.sums.items x v) b) (ap (xor (bit (word_at old.sums.items x v) b)) (is x v) ∙ xor_comm (bit (word_at old.sums.items x v) b) (bit (word_at old.sums.items x v) a))) (λ w. refl)

pub ccx_leads : (a b t : ℕ) (with : Sum) (old new : PathSum) → IsFlipped t with old new
    → ((x v : Word) → odd with x v ≡ (bit (word_at old.sums.items x v) a && bit (word_at old.sums.items x v) b)) → Leads (Ccx a b t ∷ []) old new
ccx_leads a b t with old new flipped is =
    flip_leads (Ccx a b t) t with old new refl flipped
    (λ x v. ap (set (word_at old.sums.items x v) t) (ap (xor (bit (word_at old.sums.items x v) t)) (is x v) ∙ xor_comm (bit (word_at old.sums.items x v) t) (bit (word_at old.sums.items x v) a && bit (word_at old.sums.items x v) b))) (λ w. refl)

pub cz_leads : (a b : ℕ) (with : Sum) (old new : PathSum) → IsTurned 4 with old new
    → ((x v : Word) → odd with x v ≡ (bit (word_at old.sums.items x v) a && bit (word_at old.sums.items x v) b)) → Leads (Cz a b ∷ []) old new
cz_leads a b with old new turned is =
    leads_plain (Cz a b) old new refl (ap (λ s. length s.items) turned.sums) turned.scale (λ x v. ap (λ s. word_at s.items x v) turned.sums)
    (λ x v. turned.phases x v ∙ ap (λ t. (power old.phases x v + cond t 4 0) % 8) (is x v))

two_and_four : (p : ℕ) (b : Bool) → ((p + 2) % 8 + cond b 4 0) % 8 ≡ (p + cond b 6 2) % 8
two_and_four p true = omega arith
two_and_four p false = omega arith

pub y_leads : (line : ℕ) (one : Sum) (old half turned new : PathSum) → ((x v : Word) → odd one x v ≡ true)
    → IsTurned 2 one old half → IsPhased line 4 half turned → IsFlipped line one turned new → Leads (Y line ∷ []) old new
y_leads line one old half turned new is first second third =
    let same : turned.sums ≡ old.sums = second.sums ∙ first.sums in
    leads_plain (Y line) old new refl (third.lines ∙ ap (λ s. length s.items) same) (third.scale ∙ second.scale ∙ first.scale)
    (λ x v.
    third.ends x v
    ∙ ap₂ (λ w b. set w line (xor (bit w line) b)) (ap (λ s. word_at s.items x v) same) (is x v)
    ∙ ap (set (word_at old.sums.items x v) line) (xor_true (bit (word_at old.sums.items x v) line)))
    (λ x v.
    ap (λ p. power p x v) third.phases ∙ second.phases x v
    ∙ ap₂ (λ n w. (n + cond (bit w line) 4 0) % 8) (first.phases x v ∙ ap (λ t. (power old.phases x v + cond t 2 0) % 8) (is x v)) (ap (λ s. word_at s.items x v) first.sums)
    ∙ two_and_four (power old.phases x v) (bit (word_at old.sums.items x v) line))

first_exchanged : (c p q : Bool) → xor p (xor p q && c) ≡ cond c q p
first_exchanged c p q = grind arith

second_exchanged : (c p q : Bool) → xor q (xor p q && c) ≡ cond c p q
second_exchanged c p q = grind arith

pub cswap_leads : (c a b : ℕ) (with : Sum) (old half new : PathSum) → a ≢ b → IsFlipped a with old half → IsFlipped b with half new
    → ((x v : Word) → odd with x v ≡ (xor (bit (word_at old.sums.items x v) a) (bit (word_at old.sums.items x v) b) && bit (word_at old.sums.items x v) c))
    → Leads (Cswap c a b ∷ []) old new
cswap_leads c a b with old half new apart first second is =
    leads_plain (Cswap c a b) old new refl (second.lines ∙ first.lines) (second.scale ∙ first.scale)
    (λ x v.
    let w : Word = word_at old.sums.items x v in
    let e1 : xor (bit w a) (odd with x v) ≡ cond (bit w c) (bit w b) (bit w a) = ap (xor (bit w a)) (is x v) ∙ first_exchanged (bit w c) (bit w a) (bit w b) in
    let e2 : xor (bit w b) (odd with x v) ≡ cond (bit w c) (bit w a) (bit w b) = ap (xor (bit w b)) (is x v) ∙ second_exchanged (bit w c) (bit w a) (bit w b) in
    let h : Word = set w a (xor (bit w a) (odd with x v)) in
    let stays : bit h b ≡ bit w b = get_or-set_other w a b (xor (bit w a) (odd with x v)) false (λ e. apart (sym e)) in
    second.ends x v ∙ ap (λ u. set u b (xor (bit u b) (odd with x v))) (first.ends x v)
    ∙ ap (set h b) (ap (λ t. xor t (odd with x v)) stays ∙ e2)
    ∙ ap (λ t. set (set w a t) b (cond (bit w c) (bit w a) (bit w b))) e1)
    (λ x v. ap (λ p. power p x v) (second.phases ∙ first.phases) ∙ rest_mod (total old.phases.terms.items x v + total_kept old.phases.kept.items x v))

pub swap_leads : (a b : ℕ) (old new : PathSum) → a < length old.sums.items → b < length old.sums.items
    → new.sums.items ≡ swap old.sums.items a b → new.phases ≡ old.phases → new.scale ≡ old.scale → Leads (Swap a b ∷ []) old new
swap_leads a b old new la lb is phases scale =
    leads_plain (Swap a b) old new refl (ap length is ∙ length-swap old.sums.items a b) scale
    (λ x v. ap (λ l. word_at l x v) is ∙ word_at-swap old.sums.items a b x v la lb)
    (λ x v. ap (λ p. power p x v) phases ∙ rest_mod (total old.phases.terms.items x v + total_kept old.phases.kept.items x v))
