use Rattle.std.proofs.Common.{◌≡◌, ℕ, ◌-◌, ◌/◌, ◌^◌, ◌<◌, ◌≤◌, List, length, map, get_or, sym, ◌∙◌, ap, subst, arith, ext_get_or}
use Rattle.std.specs.Prelude.{bit_xor}
use Rattle.std.proofs.lemmas.Bool.{or_left}
use Rattle.rv_gate.specs.Word.{has}
use Rattle.std.proofs.lemmas.Nat.{xor_lt}
use Rattle.std.specs.Int.{bit_at}
use Rattle.rv_gate.specs.Gate.{act_on_number, IsGate, FitsIn, Within}
use Rattle.rv_gate.specs.declared.gate.Shape.{Shape}
use Rattle.rv_gate.specs.declared.gate.Shape.TheVariants.{Flip}
use Rattle.rv_gate.proofs.inside.GateLemmas.{fits_flip}
use Rattle.rv_gate.proofs.LineSets.{has_not, shr-Within}
use Rattle.rv_gate.proofs.inside.Mirrors.{IsMirror}
use Rattle.rv_perm.specs.Perm.{IsPerm, reindexed}
use Rattle.rv_perm.specs.inside.Places.{AreInverse}
use Rattle.rv_perm.specs.inside.Walk.{counterpart}
use Rattle.rv_perm.proofs.inside.Flips.{moved_flip}
use Rattle.rv_perm.proofs.inside.Inverse.{inverse_in, one_inverse, length-reindexed, get_or-reindexed}
use Rattle.rv_perm.proofs.walk.exchange.Goals as goal

pub overflow_sub-lines-in-Flip : goal.overflow_sub-lines-in-Flip
overflow_sub-lines-in-Flip c =
    let shape : c.args.gate ≡ Flip c.in-Flip.care c.in-Flip.want c.in-Flip.target = sym c.in-Flip.ensures.value in
    let target : c.in-Flip.target < c.args.lines = fits_flip c.args.gate c.in-Flip.care c.in-Flip.want c.in-Flip.target c.args.lines shape c.requires.fits in
    omega arith

-- a set of few lines is narrow
narrow : (lines n : ℕ) → n ≤ 16 → Within lines n → lines < 2 ^ 32
narrow lines n few within =
    let none : lines / 2 ^ 16 ≡ 0 = shr-Within lines 16 (λ line on. omega (arith, within line on)) in
    omega (arith, none)

pub overflow_cast-care : goal.overflow_cast-care
overflow_cast-care c =
    let fits : FitsIn (Flip c.in-Flip.care c.in-Flip.want c.in-Flip.target) c.args.lines = rw (sym c.in-Flip.ensures.value) at c.requires.fits in
    omega (arith, narrow c.in-Flip.care c.args.lines (omega (arith, c.requires.permutes)) (λ line on. fits line (or_left (has c.in-Flip.care line) _ on)))

pub overflow_cast-want : goal.overflow_cast-want
overflow_cast-want c =
    let fits : FitsIn (Flip c.in-Flip.care c.in-Flip.want c.in-Flip.target) c.args.lines = rw (sym c.in-Flip.ensures.value) at c.requires.fits in
    let valid : IsGate (Flip c.in-Flip.care c.in-Flip.want c.in-Flip.target) = rw (sym c.in-Flip.ensures.value) at c.in-Flip.ensures.valid in
    omega (arith, narrow c.in-Flip.want c.args.lines (omega (arith, c.requires.permutes)) (λ line on. fits line (or_left (has c.in-Flip.care line) _ (valid.2 line on))))

pub exchange_pairs-requires-clause-negative_in : goal.exchange_pairs-requires-clause-negative_in
exchange_pairs-requires-clause-negative_in c =
    xor_lt c.args.lines c.mirrored_u32-care.result c.mirrored_u32.result c.mirrored_u32-care.ensures.bound c.mirrored_u32.ensures.bound

pub exchange_pairs-requires-clause-free : goal.exchange_pairs-requires-clause-free
exchange_pairs-requires-clause-free c =
    let shape : c.args.gate ≡ Flip c.in-Flip.care c.in-Flip.want c.in-Flip.target = sym c.in-Flip.ensures.value in
    let target : c.in-Flip.target < c.args.lines = fits_flip c.args.gate c.in-Flip.care c.in-Flip.want c.in-Flip.target c.args.lines shape c.requires.fits in
    let valid : IsGate (Flip c.in-Flip.care c.in-Flip.want c.in-Flip.target) = rw shape at c.in-Flip.ensures.valid in
    let back : c.args.lines - 1 - (c.args.lines - 1 - c.in-Flip.target) ≡ c.in-Flip.target = omega arith in
    c.mirrored_u32-care.ensures.bits (c.args.lines - 1 - c.in-Flip.target) (omega arith)
    ∙ ap (bit_at c.in-Flip.care) back
    ∙ has_not c.in-Flip.care c.in-Flip.target valid.1

-- what the pairs make of a table that a gate moves
read_moved : (g : Shape) (n care want target c w : ℕ) (old new : List ℕ) → g ≡ Flip care want target → IsMirror n care c → IsMirror n want w
    → target < n → IsPerm n old → length new ≡ length old
    → ((v : ℕ) → v < 2 ^ n → get_or new v 0 ≡ get_or old (counterpart c (bit_xor c w) (2 ^ (n - 1 - target)) v) 0)
    → new ≡ reindexed (act_on_number g n) old
read_moved g n care want target c w old new shape mc mw lt p len read =
    ext_get_or 0 new (reindexed (act_on_number g n) old) (len ∙ sym (length-reindexed (act_on_number g n) old))
    (λ v h.
    let v_old : v < length old = omega arith in
    let v_in : v < 2 ^ n = omega (arith, p.2) in
    let at : act_on_number g n v ≡ counterpart c (bit_xor c w) (2 ^ (n - 1 - target)) v = rw shape (moved_flip n v care want target c w mc mw lt v_in) in
    read v v_in ∙ ap (λ k. get_or old k 0) (sym at) ∙ sym (get_or-reindexed (act_on_number g n) old v v_old))

pub returns-clause-table : goal.returns-clause-table
returns-clause-table c =
    let shape : c.args.gate ≡ Flip c.in-Flip.care c.in-Flip.want c.in-Flip.target = sym c.in-Flip.ensures.value in
    let target : c.in-Flip.target < c.args.lines = fits_flip c.args.gate c.in-Flip.care c.in-Flip.want c.in-Flip.target c.args.lines shape c.requires.fits in
    read_moved c.args.gate c.args.lines c.in-Flip.care c.in-Flip.want c.in-Flip.target c.mirrored_u32-care.result c.mirrored_u32.result c.args.table.now c.exchange_pairs.new.table shape
    (record { below = c.mirrored_u32-care.ensures.bound; at = c.mirrored_u32-care.ensures.bits })
    (record { below = c.mirrored_u32.ensures.bound; at = c.mirrored_u32.ensures.bits })
    target c.requires.permutes c.exchange_pairs.auto.table c.exchange_pairs.ensures.table

pub returns-clause-inverse : goal.returns-clause-inverse
returns-clause-inverse c =
    let shape : c.args.gate ≡ Flip c.in-Flip.care c.in-Flip.want c.in-Flip.target = sym c.in-Flip.ensures.value in
    let both = inverse_in c.args.gate c.args.lines c.args.table.now c.args.inverse.now c.requires.is_flip c.shape.ensures.valid c.requires.fits c.requires.permutes c.requires.inverse in
    let P : List ℕ → Type 0 = λ table. AreInverse table c.exchange_pairs.new.inverse in
    one_inverse (reindexed (act_on_number c.args.gate c.args.lines) c.args.table.now) c.exchange_pairs.new.inverse (map (act_on_number c.args.gate c.args.lines) c.args.inverse.now)
    (subst P (returns-clause-table c) c.exchange_pairs.ensures.inverse) both.inverse
