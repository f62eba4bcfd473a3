-- Laws of levels: on a set of lines the greatest is that on one of them.
use Rattle.std.proofs.Common.{◌≡◌, ◌≢◌, ℕ, ◌+◌, ◌^◌, ◌<◌, ◌≤◌, true, false, cond, List, [], ◌∷◌, length, get_or, set, max, refl, sym, ◌∙◌, ap, inl, inr, arith, eq-eqb, get_or-set_other, get_or-set_same}
use Rattle.std.proofs.lemmas.Bool.{cases_Bool, eqb-true, false≢true}
use Rattle.rv_gate.specs.Word.{has}
use Rattle.rv_gate.specs.Greatest.{greatest}
use Rattle.rv_gate.specs.Commuting.{meet}
use Rattle.rv_gate.proofs.LineSets.{has-line}
use Rattle.rv_gate.proofs.Commuting.{meet_at, meet-has}
use Rattle.rv_cost.specs.Levels.{Task, Scheduled, highest_on, at_level, schedule_of, depth_of}

pub nothing_low : (n m : ℕ) → n ≡ 0 → n ≤ m
nothing_low n m e = omega arith

-- ---- one number a line

pub set_here : (old new : List ℕ) (i v : ℕ) → new ≡ set old i v → i < length old → get_or new i 0 ≡ v
set_here old new i v e below = rw (e, get_or-set_same) refl

pub set_elsewhere : (old new : List ℕ) (i v k : ℕ) → new ≡ set old i v → k ≢ i → get_or new k 0 ≡ get_or old k 0
set_elsewhere old new i v k e other = rw (e, get_or-set_other) refl

-- ---- one task more

pub none_scheduled : schedule_of [] ≡ []
unfolding schedule_of
none_scheduled = refl

pub schedule_more : (earlier : List Task) (task : Task) → schedule_of (task ∷ earlier) ≡ at_level (schedule_of earlier) task ∷ schedule_of earlier
unfolding schedule_of
schedule_more earlier task = refl

pub highest_none : (lines : ℕ) → highest_on [] lines ≡ 0
unfolding highest_on greatest
highest_none lines = refl

highest_more : (s : Scheduled) (rest : List Scheduled) (lines : ℕ)
    → highest_on (s ∷ rest) lines ≡ max (cond (meet s.lines lines) s.level 0) (highest_on rest lines)
unfolding highest_on greatest
highest_more s rest lines = refl

highest_hit : (s : Scheduled) (rest : List Scheduled) (lines : ℕ) → meet s.lines lines ≡ true
    → highest_on (s ∷ rest) lines ≡ max s.level (highest_on rest lines)
highest_hit s rest lines h = highest_more s rest lines ∙ ap (λ b. max (cond b s.level 0) (highest_on rest lines)) h

highest_miss : (s : Scheduled) (rest : List Scheduled) (lines : ℕ) → meet s.lines lines ≡ false
    → highest_on (s ∷ rest) lines ≡ highest_on rest lines
highest_miss s rest lines h = highest_more s rest lines ∙ ap (λ b. max (cond b s.level 0) (highest_on rest lines)) h ∙ omega arith

highest_grows : (s : Scheduled) (rest : List Scheduled) (lines : ℕ) → highest_on rest lines ≤ highest_on (s ∷ rest) lines
highest_grows s rest lines = let e = highest_more s rest lines in omega arith

pub depth_none : depth_of [] ≡ 0
unfolding depth_of greatest
depth_none = refl

pub depth_more : (s : Scheduled) (rest : List Scheduled) → depth_of (s ∷ rest) ≡ max s.level (depth_of rest)
unfolding depth_of greatest
depth_more s rest = refl

-- ---- one line of a set

meet_line : (set line : ℕ) → meet set (2 ^ line) ≡ has set line
meet_line set line =
    elim (cases_Bool (has set line)) [
      | inl on ↦ meet-has set (2 ^ line) line on (has-line line line ∙ eq-eqb line line refl) ∙ sym on
      | inr off ↦
          (elim (cases_Bool (meet set (2 ^ line))) [
            | inl hit ↦
                let m = meet_at set (2 ^ line) hit in
                let same : m.0 ≡ line = eqb-true _ _ (sym (has-line line m.0) ∙ m.2) in
                absurd (false≢true (sym off ∙ ap (has set) (sym same) ∙ m.1))
            | inr miss ↦ miss ∙ sym off
          ])
    ]

-- no line of a set is above it
pub highest_at : (schedule : List Scheduled) (lines line : ℕ) → has lines line ≡ true → highest_on schedule (2 ^ line) ≤ highest_on schedule lines
highest_at [] lines line on = let a = highest_none lines in let b = highest_none (2 ^ line) in omega arith
highest_at (s ∷ rest) lines line on =
    let e = highest_at rest lines line on in
    let g = highest_grows s rest lines in
    elim (cases_Bool (has s.lines line)) [
      | inl hit ↦
          let a = highest_hit s rest (2 ^ line) (meet_line s.lines line ∙ hit) in
          let b = highest_hit s rest lines (meet-has s.lines lines line hit on) in
          omega arith
      | inr miss ↦ let a = highest_miss s rest (2 ^ line) (meet_line s.lines line ∙ miss) in omega arith
    ]

-- and some line of it has it
pub highest_least : (schedule : List Scheduled) (lines limit : ℕ)
    → ((line : ℕ) → has lines line ≡ true → highest_on schedule (2 ^ line) ≤ limit) → highest_on schedule lines ≤ limit
highest_least [] lines limit each = let a = highest_none lines in omega arith
highest_least (s ∷ rest) lines limit each =
    let e =
    highest_least rest lines limit
    (λ (line : ℕ) (on : has lines line ≡ true). let g = highest_grows s rest (2 ^ line) in let h = each line on in omega arith) in
    elim (cases_Bool (meet s.lines lines)) [
      | inl hit ↦
          let m = meet_at s.lines lines hit in
          let a = highest_hit s rest (2 ^ m.0) (meet_line s.lines m.0 ∙ m.1) in
          let b = highest_hit s rest lines hit in
          let h = each m.0 m.2 in
          omega arith
      | inr miss ↦ let a = highest_miss s rest lines miss in omega arith
    ]

-- a line of a new task is at its level
pub highest_new : (earlier : List Scheduled) (task : Task) (line : ℕ)
    → highest_on (at_level earlier task ∷ earlier) (2 ^ line)
    ≡ cond (has task.lines line) (highest_on earlier task.lines + task.steps) (highest_on earlier (2 ^ line))
highest_new earlier task line =
    elim (cases_Bool (has task.lines line)) [
      | inl on ↦
          let a = highest_hit (at_level earlier task) earlier (2 ^ line) (meet_line task.lines line ∙ on) in
          let b = highest_at earlier task.lines line on in
          rw on (omega arith)
      | inr off ↦ rw off (highest_miss (at_level earlier task) earlier (2 ^ line) (meet_line task.lines line ∙ off))
    ]
