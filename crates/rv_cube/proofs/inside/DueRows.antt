-- Rows that are due: how many, and which after one is done or made due.
use Rattle.std.proofs.Common.{◌≡◌, ℕ, suc, ◌+◌, ◌<◌, Bool, true, false, cond, List, length, set, sym, ◌∙◌, ap, inl, inr, arith, refl}
use Rattle.std.proofs.lemmas.Bool.{cases_lt, false≢true, lt-ltb, le-ltb, cond_both}
use Rattle.std.proofs.lemmas.List.{get_or_past}
use Rattle.std.proofs.lemmas.List.Sums.{sum_by-set}
use Rattle.rv_cube.specs.inside.Slots.{is_due}
use Rattle.rv_cube.specs.inside.Due.{due_count}
use Rattle.rv_cube.specs.inside.Watching.{Marks, lower}
use Rattle.std.specs.Prelude.{◌⊎◌, nat_lt}
use Rattle.std.proofs.lemmas.Grind.{common_steps}

due_within : (rows : List Bool) (row : ℕ) → is_due rows row ≡ true → row < length rows
due_within rows row h =
    elim (cases_lt row (length rows)) [ inl l ↦ l | inr g ↦ absurd (false≢true (sym (get_or_past rows row false g) ∙ h)) ]

-- a row that is done was one of the rows that are due
due_count-done : (rows : List Bool) (row : ℕ) → is_due rows row ≡ true → suc (due_count (set rows row false)) ≡ due_count rows
unfolding due_count
due_count-done rows row h = grind (arith, due_count, sum_by-set, due_within)

pub done_lowers : (rows same new : List Bool) (row : ℕ) → same ≡ rows → is_due rows row ≡ true → new ≡ set same row false → due_count new < due_count rows
done_lowers rows same new row s due e = grind (arith, due_count-done, due_count)

-- ---- rows are made due

pub marks_nothing : (P : ℕ → Type 0) (rows : List Bool) → ((row : ℕ) → P row → ⊥) → Marks P rows rows
marks_nothing P rows h = record { as_many = refl; stays = λ a e. e; gets = λ row p. absurd (h row p) }

pub marks_then : (P Q R : ℕ → Type 0) (old mid new : List Bool) → ((row : ℕ) → R row → P row ⊎ Q row) → Marks P old mid → Marks Q mid new → Marks R old new
marks_then P Q R old mid new f h k = grind (arith, common_steps)

pub marks_as : (P Q : ℕ → Type 0) (old new : List Bool) → ((row : ℕ) → Q row → P row) → Marks P old new → Marks Q old new
marks_as P Q old new f h = record { as_many = h.as_many; stays = h.stays; gets = λ row q. h.gets row (f row q) }

-- what holds of the row for a number below n
abbrev pub Below : (ℕ → ℕ → Type 0) → ℕ → ℕ → Type 0
Below P n row = (i : ℕ) × (i < n) × P i row

pub marks_more : (P : ℕ → ℕ → Type 0) (n : ℕ) (old mid new : List Bool) → Marks (Below P n) old mid → Marks (P n) mid new → Marks (Below P (n + 1)) old new
marks_more P n old mid new h k = grind (arith, marks_then)

-- ---- the lower of two slots

pub lower_less : (a b : ℕ) → a < b → lower a b ≡ a
lower_less a b h = ap (λ t. cond t a b) (lt-ltb a b h)

pub lower_more : (a b : ℕ) → a < b → lower b a ≡ a
lower_more a b h = ap (λ t. cond t b a) (le-ltb b a (omega arith))

pub lower_within : (a b m : ℕ) → a < m → b < m → lower a b < m
lower_within a b m ha hb = cond_both (nat_lt a b) a b (λ x. x < m) (λ t. ha) (λ t. hb)
