-- A disk: what its bytes are, by the writes that were made, and which answers to which requests are those of one.
use Rattle.std.specs.Prelude.{◌≡◌, ◌⊎◌, ℕ, zero, suc, ◌+◌, ◌-◌, ◌%◌, ◌<◌, ◌==◌, ◌&&◌, nat_le, nat_lt, if◌then◌else◌, List, [], ◌∷◌, length, slice_index, Option, Some, None}
use Rattle.disk_rules.specs.{declared.DiskAnswer.DiskAnswer, declared.DiskRefusal.DiskRefusal, declared.DiskRequest.DiskRequest, declared.DiskRequest.TheVariants.{Read, Write, Flush}}
use Rattle.disk_rules.specs.declared.DiskRefusal.TheVariants as why
use Rattle.disk_rules.specs.declared.DiskAnswer.TheVariants as says

-- a write that was asked for: its offset, its bytes, and how many of them, from the first on, were written
pub record Written : Type 0 where
  pub at : ℕ
  pub bytes : List ℕ
  pub done : ℕ

-- the byte at an offset after these writes, the newest first: that of the newest one which wrote it, or 0
abbrev pub byte_at : List Written → ℕ → ℕ
byte_at [] x = 0
byte_at (w ∷ before) x = if nat_le w.at x && nat_lt x (w.at + w.done) then slice_index w.bytes (x - w.at) else byte_at before x

-- so many bytes from an offset on
abbrev pub bytes_from : List Written → ℕ → ℕ → List ℕ
bytes_from writes x zero = []
bytes_from writes x (suc size) = byte_at writes x ∷ bytes_from writes (suc x) size

-- why so many bytes from an offset on can't be asked of a disk of this size, if they can't
abbrev pub refusal : ℕ → ℕ → ℕ → Option DiskRefusal
refusal size at asked = if asked == 0 then Some why.Empty else if nat_lt size (at + asked) then Some why.Outside else None

-- what an answer says of that
abbrev pub refused : DiskAnswer → Option DiskRefusal
refused (says.Refused reason) = Some reason
refused _ = None

-- those of a write's bytes that were written are none of them, all, or the first ones up to the end of a sector
abbrev pub IsPart : ℕ → Written → Type 0
IsPart sector w = (w.done ≡ 0) ⊎ ((w.done < length w.bytes) × ((w.at + w.done) % sector ≡ 0)) ⊎ (w.done ≡ length w.bytes)

-- a write that is acknowledged was made whole, and of one that is stopped a part. Which, is settled with its answer
abbrev pub IsMade : ℕ → DiskAnswer → Written → Type 0
IsMade sector says.Done w = w.done ≡ length w.bytes
IsMade sector (says.Bytes bytes) w = ⊥
IsMade sector (says.Refused reason) w = w.done ≡ 0
IsMade sector (says.Stopped reason) w = IsPart sector w

-- a read that is answered has the disk's bytes, all that were asked for
abbrev pub IsRead : List Written → ℕ → ℕ → DiskAnswer → Type 0
IsRead writes at size (says.Bytes bytes) = bytes.items ≡ bytes_from writes at size
IsRead writes at size says.Done = ⊥
IsRead writes at size _ = Unit {0}

module _ (size sector : ℕ) where
  -- these requests and answers, the newest first, are those of a disk of this size and such sectors on which these writes were made, the newest first
  abbrev pub IsDisk : List (DiskRequest × DiskAnswer) → List Written → Type 0
  IsDisk [] writes = writes ≡ []
  IsDisk ((Read at asked, answer) ∷ before) writes = (refused answer ≡ refusal size at asked) × IsRead writes at asked answer × IsDisk before writes
  IsDisk ((Write at bytes, answer) ∷ before) [] = ⊥
  IsDisk ((Write at bytes, answer) ∷ before) (w ∷ writes) =
      (refused answer ≡ refusal size at (length bytes.items)) × (w.at ≡ at) × (w.bytes ≡ bytes.items) × IsMade sector answer w × IsDisk before writes
  IsDisk ((Flush, answer) ∷ before) writes = (answer ≡ says.Done) × IsDisk before writes

-- these requests with these answers, one after the other, behind those, the newest first
abbrev pub told : List (DiskRequest × DiskAnswer) → List DiskRequest → List DiskAnswer → List (DiskRequest × DiskAnswer)
told before [] answers = before
told before (r ∷ requests) [] = before
told before (r ∷ requests) (a ∷ answers) = told ((r, a) ∷ before) requests answers
