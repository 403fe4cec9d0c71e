-- An image of either format, read from left to right, field by field, up to the first that fails.
use Rattle.std.specs.Int.{Width, w16, w32, w64, byte_len, from_le_bytes}
use Rattle.std.specs.Prelude.{ℕ, zero, suc, ◌+◌, ◌*◌, ◌/◌, ◌&&◌, ◌==◌, nat_lt, nat_le, Bool, true, if◌then◌else◌, List, [], ◌∷◌, length, take, drop, Result, Ok, Err}
use Rattle.std.specs.Str.{bytes_eq}
use Rattle.masked_bytes.specs.Masked.{gives_some, zero_elsewhere}
use Rattle.cell_rows.specs.{Rows.bit_of, declared.row.Cells.Cells}
use Rattle.pcm_image.specs.{Formats.{magic_of, sizes_of, width_of}, Saved.{Saved, SavedBank, Head, lines_in, slots_in, array_lines_in, is_lines_in}, Spelling.magic}
use Rattle.pcm_image.specs.{declared.EntryImage.EntryImage, declared.Format.Format, declared.Format.TheVariants.Small}
use Rattle.pcm_image.specs.{declared.ImageFault.ImageFault, declared.ImageKind.ImageKind, declared.ImageKind.TheVariants.{Short, Magic, Size, Shape, Bank, Entry, Extra}}
use Rattle.pcm_image.specs.declared.RegionImage.{RegionImage}
use Rattle.module_shape.specs.Limits.{is_power_between}

-- what is left to read, and the number of bytes before it
pub record Cursor : Type 0 where
  pub at : ℕ
  pub left : List ℕ

abbrev pub fault : {T : Type 0} → Cursor → ImageKind → Result T ImageFault
fault c kind = Err (record { at = c.at; kind = kind })

-- a value, and what is left behind it
abbrev pub Got : Type 0 → Type 0
Got T = Result (T × Cursor) ImageFault

infixl 10 ◌>>=◌
abbrev pub ◌>>=◌ : {A B : Type 0} → Result A ImageFault → (A → Result B ImageFault) → Result B ImageFault
(Ok x) >>= f = f x
(Err e) >>= f = Err e

-- a field of so many bytes that passes a test, as a value; it is too short before it is anything else
abbrev pub field : {T : Type 0} → ℕ → ImageKind → (List ℕ → Bool) → (List ℕ → T) → Cursor → Got T
field n kind test value c =
    if nat_lt (length c.left) n then fault c Short
    else (if test (take n c.left) then Ok (value (take n c.left), record { at = c.at + n; left = drop n c.left }) else fault c kind)

-- one byte, and a number of a width, the lowest byte first
abbrev pub first_byte : List ℕ → ℕ
first_byte [] = 0
first_byte (b ∷ bytes) = b

abbrev pub byte_at : ImageKind → (ℕ → Bool) → Cursor → Got ℕ
byte_at kind test c = field 1 kind (λ bytes. test (first_byte bytes)) first_byte c

abbrev pub number_at : Width → ImageKind → (ℕ → Bool) → Cursor → Got ℕ
number_at w kind test c = field (byte_len w) kind (λ bytes. test (from_le_bytes w bytes)) (from_le_bytes w) c

abbrev pub any : {T : Type 0} → T → Bool
any x = true

-- one field behind another, so many times
abbrev pub times : {T : Type 0} → ℕ → (Cursor → Got T) → Cursor → Got (List T)
times zero read c = Ok ([], c)
times (suc n) read c = do
  first ← read c
  others ← times n read first.1
  Ok (first.0 ∷ others.0, others.1)

-- the first two fields of a format whose images begin with these eight bytes; the size of a line passes a test
unfoldable pub size_at : List ℕ → (ℕ → Bool) → Cursor → Got ℕ
size_at front test c = do
  m ← field 8 Magic (λ bytes. bytes_eq bytes front) any c
  byte_at Size test m.1

-- the size is 64 or 128
abbrev pub is_size : ℕ → Bool
is_size n = if n == 64 then true else n == 128

-- and it is the one that is asked for
abbrev pub is_size_of : ℕ → ℕ → Bool
is_size_of B n = is_size n && n == B

unfoldable pub head_at : Format → ℕ → Cursor → Got Head
head_at f B c = do
  size ← size_at (magic_of f) (is_size_of B) c
  banks ← byte_at Shape (is_power_between 1 (sizes_of f).banks) size.1
  regions ← byte_at Shape (is_power_between 1 (sizes_of f).regions) banks.1
  lines ← number_at (width_of f) Shape (is_lines_in (sizes_of f) banks.0 regions.0) regions.1
  spares ← number_at w16 Shape (λ n. nat_le n 1024) lines.1
  seed ← number_at w64 Shape any spares.1
  home ← byte_at Shape (λ n. nat_lt n 2) seed.1
  Ok (record { banks = banks.0; regions = regions.0; lines = lines.0; spares = spares.0; seed = seed.0; home = home.0 }, home.1)

unfoldable pub region_at : Format → Head → Cursor → Got RegionImage
region_at f h c = do
  start ← number_at (width_of f) Bank (λ n. nat_lt n h.lines) c
  gap ← number_at (width_of f) Bank (λ n. nat_le n h.lines) start.1
  counter ← number_at w16 Bank any gap.1
  Ok (record { start = start.0; gap = gap.0; counter = counter.0 }, counter.1)

-- so many bits, the lowest of a byte first
abbrev pub given_from : List ℕ → ℕ → ℕ → List Bool
given_from bytes k zero = []
given_from bytes k (suc n) = bit_of bytes k ∷ given_from bytes (k + 1) n

-- some byte is given, and a byte that isn't is 0
abbrev pub is_given : ℕ → List ℕ → List ℕ → Bool
is_given B bytes bits = gives_some (given_from bits 0 B) && zero_elsewhere bytes (given_from bits 0 B)

unfoldable pub entry_at : (B : ℕ) → Head → Cursor → Got (EntryImage B)
entry_at B h c = do
  line ← number_at w32 Entry (λ n. nat_lt n (lines_in h)) c
  bytes ← field B Entry any (λ bytes. bytes) line.1
  given ← field (B / 8) Entry (is_given B bytes.0) (λ bits. given_from bits 0 B) bytes.1
  Ok (record { line = line.0; bytes = bytes.0; given = given.0 }, given.1)

unfoldable pub bank_at : Format → (B : ℕ) → Head → Cursor → Got (SavedBank B)
bank_at f B h c = do
  mark ← byte_at Bank (λ n. nat_lt n 2) c
  used ← number_at w16 Bank (λ n. nat_le n h.spares) mark.1
  replaced ← times used.0 (number_at w32 Bank (λ n. nat_lt n (slots_in h))) used.1
  regions ← times h.regions (region_at f h) replaced.1
  count ← number_at w16 Bank (λ n. nat_le n 256) regions.1
  entries ← times count.0 (entry_at B h) count.1
  Ok (record { mark = mark.0; replaced = replaced.0; regions = regions.0; entries = entries.0 }, entries.1)

abbrev pub row_of : (B M : ℕ) → List ℕ → Cells B M
row_of B M bytes = record { bits = take B bytes; meta = drop B bytes }

unfoldable pub cells_at : (B M : ℕ) → Cursor → Got (Cells B M)
cells_at B M c = field (B + M) Short any (row_of B M) c

-- what the bytes save, all of the bytes
unfoldable pub image_of : (B M : ℕ) → List ℕ → Result (Saved B M) ImageFault
image_of B M bytes = do
  head ← head_at Small B (record { at = 0; left = bytes })
  parts ← times head.0.banks (bank_at Small B head.0) head.1
  cells ← times (head.0.banks * array_lines_in head.0) (cells_at B M) parts.1
  if length cells.1.left == 0 then Ok (record { head = head.0; parts = parts.0; cells = cells.0 }) else fault cells.1 Extra

-- the size of a line, by the first nine bytes
abbrev pub only_size : ℕ × Cursor → Result ℕ ImageFault
only_size size = Ok size.0

unfoldable pub size_behind : List ℕ → List ℕ → Result ℕ ImageFault
size_behind front bytes = size_at front is_size (record { at = 0; left = bytes }) >>= only_size

abbrev pub size_of : List ℕ → Result ℕ ImageFault
size_of = size_behind magic
