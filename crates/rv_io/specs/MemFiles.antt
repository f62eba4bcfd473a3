-- Files in memory, as a contract sees them.
use Rattle.std.specs.Prelude.{◌+◌, ◌++◌, ℕ, Bool, true, false, List, [], Option, Some, None, drop, is_some, length, min, nat_eq, refl, take, unwrap_or, if◌then◌else◌}
use Rattle.std.specs.Cmp.Lexicographic.{slice_cmp}
use Rattle.std.specs.Coded.{Coded, code_by, coded_list, coded_option, coded×, coded_ℕ}
use Rattle.std.specs.FinMap as finite
use Rattle.std.specs.Ordering.{nat_cmp}
use Rattle.std.specs.Str.{bytes_eq}
use Rattle.rv_io.specs.declared.files.Got.{Got}
use Rattle.rv_io.specs.declared.files.Got.TheVariants as got
use Rattle.rv_io.specs.declared.files.Started.{Started}
use Rattle.rv_io.specs.declared.files.Started.TheVariants as started
use Rattle.rv_io.specs.Faults.{is_failing, next_count}
use Rattle.rv_io.specs.Files.{FilesView}

-- from names to their bytes
abbrev pub Names : Type 0
Names = finite.FinMap (slice_cmp nat_cmp) (List ℕ)

-- a name that is started
pub record Opened : Type 0 where
  pub name : List ℕ
  -- how many of its bytes were read
  pub place : ℕ

pub record MemFiles : Type 0 where
  pub names : Names
  pub started : Option Opened
  pub faults : ℕ
  -- how many calls of `start` and `read` there were
  pub calls : ℕ
  -- the numbers of the calls that fail
  pub failing : List ℕ
  -- the most that one read gives
  pub piece : ℕ

abbrev pub opened_code : Coded Opened
opened_code =
    code_by (List ℕ × ℕ) (coded× (coded_list coded_ℕ) coded_ℕ) (λ o. (o.name, o.place))
    (λ p. record { name = p.0; place = p.1 }) (λ _. refl)

abbrev pub files_code : Coded MemFiles
files_code =
    code_by
    (Names × (Option Opened × (ℕ × (ℕ × (List ℕ × ℕ)))))
    (coded× (finite.code {R = slice_cmp nat_cmp} (coded_list coded_ℕ) (coded_list coded_ℕ))
    (coded× (coded_option opened_code) (coded× coded_ℕ (coded× coded_ℕ (coded× (coded_list coded_ℕ) coded_ℕ)))))
    (λ s. (s.names, (s.started, (s.faults, (s.calls, (s.failing, s.piece))))))
    (λ p. record { names = p.0; started = p.1.0; faults = p.1.1.0; calls = p.1.1.1.0; failing = p.1.1.1.1.0; piece = p.1.1.1.1.1 })
    (λ _. refl)

-- whether this name is the one that is started
abbrev pub is_opened : Option Opened → List ℕ → Bool
is_opened None name = false
is_opened (Some o) name = bytes_eq o.name name

-- the bytes of the name that is started
abbrev pub content_of : Names → Option Opened → List ℕ
content_of names None = []
content_of names (Some o) = unwrap_or (finite.get names o.name) []

abbrev pub place_of : Option Opened → ℕ
place_of None = 0
place_of (Some o) = o.place

abbrev pub files_view : MemFiles → FilesView
files_view s = record {
  tells = true;
  held = finite.get s.names;
  is_started = is_some s.started;
  is_opened = is_opened s.started;
  content = content_of s.names s.started;
  place = place_of s.started;
  faults = s.faults;
}

-- whether the next call is one that fails
abbrev pub fails_next : MemFiles → Bool
fails_next s = is_failing s.calls s.failing

-- what the start of a name answers, by what the name holds and whether the call fails
abbrev pub start_answer : Option (List ℕ) → Bool → Started
start_answer None fails = started.Failed
start_answer (Some bytes) true = started.Failed
start_answer (Some bytes) false = started.Ready

-- the files after the start of a name
abbrev pub after_start : MemFiles → List ℕ → Option (List ℕ) → Bool → MemFiles
after_start s name None fails = record s { started = None; calls = next_count s.calls }
after_start s name (Some bytes) true =
    record s { started = None; calls = next_count s.calls; faults = next_count s.faults }
after_start s name (Some bytes) false =
    record s { started = Some (record { name = name; place = 0 }); calls = next_count s.calls }

-- what is started by the start of a name that holds this
abbrev pub opened_at : List ℕ → Option (List ℕ) → Option Opened
opened_at name None = None
opened_at name (Some bytes) = Some (record { name = name; place = 0 })

-- the bytes that are left of what is started
abbrev pub bytes_left : MemFiles → List ℕ
bytes_left s = drop (place_of s.started) (content_of s.names s.started)

-- how many bytes a read gives: the least of the piece, the room and what is left
abbrev pub read_count : MemFiles → ℕ → ℕ
read_count s room = min (min s.piece room) (length (bytes_left s))

-- what a read of so many bytes answers, by whether the call fails
abbrev pub read_answer : ℕ → Bool → Got
read_answer count true = got.Failed
read_answer count false = if nat_eq count 0 then got.End else got.Bytes count

abbrev pub moved_by : ℕ → Option Opened → Option Opened
moved_by count None = None
moved_by count (Some o) = Some (record o { place = o.place + count })

-- the files after a read of so many bytes
abbrev pub after_read : MemFiles → ℕ → Bool → MemFiles
after_read s count true = record s { calls = next_count s.calls; faults = next_count s.faults }
after_read s count false = record s { started = moved_by count s.started; calls = next_count s.calls }

-- the room after a read of so many of the bytes that are left
abbrev pub room_after_read : List ℕ → List ℕ → ℕ → Bool → List ℕ
room_after_read room left count true = room
room_after_read room left count false = take count left ++ drop count room
