-- What the functions leave: the row's first bytes are the part of a line that is kept, the others are as they were.
--     Kept         after more bytes of a line
--     Finds        after the bytes up to the end of the line; GoesOn, scan_of: what its fields say of an answer
use Rattle.std.specs.Prelude.{◌≡◌, List, ℕ, ◌≤◌, ◌<◌, length, take, drop, Option, Some, None}
use Rattle.line_reader.specs.declared.Found.{Found}
use Rattle.line_reader.specs.Cut.{keep_all, Scan, whole, part, scan}

pub record Kept (row₀ : List ℕ) (kept : ℕ) (bytes row : List ℕ) (n : ℕ) : Type 0 where
  pub within : n ≤ length row
  pub holds : take n row ≡ keep_all (length row₀) (take kept row₀) bytes
  pub rest : drop n row ≡ drop n row₀

-- the bytes that are not taken begin after where it began, and within the bytes
abbrev pub GoesOn : List ℕ → ℕ → Option ℕ → Type 0
GoesOn bytes at (Some next) = (at < next) × (next ≤ length bytes)
GoesOn bytes at None = Unit {0}

-- what an answer says of the bytes at the row's front, and of those that are not taken
abbrev pub scan_of : List ℕ → List ℕ → Option ℕ → Scan
scan_of front bytes (Some next) = whole front (drop next bytes)
scan_of front bytes None = part front

pub record Finds (row₀ : List ℕ) (kept : ℕ) (bytes : List ℕ) (at : ℕ) (row : List ℕ) (r : Found) : Type 0 where
  pub within : r.count ≤ length row
  pub rest : drop r.count row ≡ drop r.count row₀
  pub goes_on : GoesOn bytes at r.next
  pub scans : scan (length row₀) (take kept row₀) (drop at bytes) ≡ scan_of (take r.count row) bytes r.next
