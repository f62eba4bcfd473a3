-- An operation that is no H takes different words to different words, since it takes each word back.
use Rattle.rv_gate.proofs.Bits.{xor_back, not_not}
use Rattle.std.proofs.Common.{arith, ◌≡◌, ◌≢◌, ℕ, ◌<◌, Bool, false, not, ◌&&◌, List, length, set, refl, sym, ap, ap₂, ◌∙◌, get_or-set_same, get_or-set_other, set-set, length-set}
use Rattle.std.proofs.lemmas.List.{set_comm, set-get_or}
use Rattle.rv_gate.specs.Gate.{xor}
use Rattle.rv_gate.specs.Word.{bit_of}
use Rattle.rv_net.specs.Op.{goes_to, OpFitsIn}
use Rattle.rv_net.specs.declared.op.Op.{Op}
use Rattle.rv_net.specs.declared.op.Op.TheVariants.{X, Y, Cx, Ccx, Swap, Cswap}

pub one_back : (y : List Bool) (q : ℕ) (b c : Bool) → c ≡ bit_of y q → set (set y q b) q c ≡ y
one_back y q b c e = set-set y q b c ∙ ap (set y q) e ∙ set-get_or y q false

pub here : (y : List Bool) (q : ℕ) (b : Bool) → q < length y → bit_of (set y q b) q ≡ b
here y q b h = get_or-set_same y q b false h

pub there : (y : List Bool) (q p : ℕ) (b : Bool) → p ≢ q → bit_of (set y q b) p ≡ bit_of y p
there y q p b ne = get_or-set_other y q p b false ne

-- two lines set, and set back
two_back : (y : List Bool) (a b : ℕ) (p q r s : Bool) → a ≢ b → r ≡ bit_of y a → s ≡ bit_of y b → set (set (set (set y a p) b q) a r) b s ≡ y
two_back y a b p q r s ne er es = grind (arith, set_comm, one_back)

pub goes_back : (op : Op) (y : List Bool) → OpFitsIn op (length y) → goes_to op (goes_to op y) ≡ y
goes_back (X q) y h = one_back y q _ _ (ap not (here y q _ h) ∙ not_not _)
goes_back (Y q) y h = one_back y q _ _ (ap not (here y q _ h) ∙ not_not _)
goes_back (Cx a b) y h =
    one_back y b _ _ (ap₂ xor (there y b a _ h.2) (here y b _ h.1) ∙ xor_back (bit_of y a) (bit_of y b))
goes_back (Ccx a b c) y h =
    one_back y c _ _ (ap₂ xor (ap₂ (λ u v. u && v) (there y c a _ h.4) (there y c b _ h.5)) (here y c _ h.2) ∙ xor_back (bit_of y a && bit_of y b) (bit_of y c))
goes_back (Swap a b) y h = grind (arith, two_back, here, length-set, there)
goes_back (Cswap c a b) y h = grind (arith, there, here, length-set, two_back)
goes_back o y h = refl

pub goes_apart : (op : Op) (y z : List Bool) → OpFitsIn op (length y) → OpFitsIn op (length z) → y ≢ z → goes_to op y ≢ goes_to op z
goes_apart op y z g h ne e = ne (sym (goes_back op y g) ∙ ap (goes_to op) e ∙ goes_back op z h)

pub length-goes_to : (op : Op) (y : List Bool) → length (goes_to op y) ≡ length y
length-goes_to op y = grind (arith, length-set, bit_of)
