use Rattle.std.proofs.Common.{◌≡◌, ◌+◌, ◌*◌, ◌<◌, ◌^◌, ℕ, Bool, cond, refl, sym, ◌∙◌, ap, ap₂, not, arith}
use Rattle.std.proofs.lemmas.Nat.{pow_below}
use Rattle.rv_pla.specs.declared.entry.Entry.{Entry}
use Rattle.rv_pla.specs.Zeros.{bit_for}
use Rattle.rv_pla.specs.FreeEntries.{is_dont_care}
use Rattle.rv_embed.specs.Filled.{row}
use Rattle.rv_embed.specs.inside.Rows.{bits_by, is_set}
use Rattle.rv_embed.proofs.inside.Walking.{bits_more, bits-lt}
use Rattle.rv_embed.proofs.row.row_of.Goals as goal

small : (p : Entry → Bool) (entries : ℕ → Entry) (n number : ℕ) → number ≡ bits_by p entries n → n < 16 → number < 2 ^ 16
small p entries n number e h = let q = pow_below n 16 h in let l = bits-lt p entries n in omega arith

more : (p : Entry → Bool) (entries : ℕ → Entry) (n number next : ℕ) (bit : Bool) → number ≡ bits_by p entries n → next ≡ number * 2 + cond bit 1 0 → bit ≡ p (entries n) → next ≡ bits_by p entries (n + 1)
more p entries n number next bit e f g = f ∙ ap₂ (λ k (t : Bool). k * 2 + cond {A = ℕ} t 1 0) e g ∙ sym (bits_more p entries n)

pub loop-output-init : goal.loop-output-init
unfolding bits_by
loop-output-init c = record { care = refl; want = refl; free = refl }

pub more_bits-care-requires : goal.more_bits-care-requires
more_bits-care-requires c =
    let few = c.outputs-output-end.ensures.valid.few_outputs in
    small is_set (row c.args.pla.now c.args.input) c.loop-output.output c.loop-output.care c.loop-output.invariant.care (omega arith)

pub more_bits-want-requires : goal.more_bits-want-requires
more_bits-want-requires c =
    let few = c.outputs-output-end.ensures.valid.few_outputs in
    small bit_for (row c.args.pla.now c.args.input) c.loop-output.output c.loop-output.want c.loop-output.invariant.want (omega arith)

pub more_bits-free-requires : goal.more_bits-free-requires
more_bits-free-requires c =
    let few = c.outputs-output-end.ensures.valid.few_outputs in
    small is_dont_care (row c.args.pla.now c.args.input) c.loop-output.output c.loop-output.free c.loop-output.invariant.free (omega arith)

pub loop-output-preserved : goal.loop-output-preserved
loop-output-preserved c =
    let entries = row c.args.pla.now c.args.input in
    let n = c.loop-output.output in
    record {
      care = more is_set entries n _ _ _ c.loop-output.invariant.care c.more_bits-care.ensures (ap not (c.is_dont_care.ensures ∙ ap is_dont_care c.value-entry.ensures));
      want = more bit_for entries n _ _ _ c.loop-output.invariant.want c.more_bits-want.ensures (c.bit.ensures ∙ ap bit_for c.value-entry.ensures);
      free = more is_dont_care entries n _ _ _ c.loop-output.invariant.free c.more_bits-free.ensures (c.is_dont_care-in-loop-output.ensures ∙ ap is_dont_care c.value-entry.ensures);
    }
